use Rattle.std.specs.Prelude.{◌↔◌}
use Rattle.st_written.specs.Written.{IsName}
use Rattle.st_written.proofs.written.is_name.Given as goal

-- all parts are components exactly if those that are left are
abbrev pub invariant-loop-part : goal.invariant-loop-part
invariant-loop-part l = IsName l.part-iterator ↔ IsName l.name
