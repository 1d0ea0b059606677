use Rattle.std.proofs.Common.{length, ap, ◌∙◌}
use Rattle.std.specs.Map.{remove_entry}
use Rattle.std.specs.BTreeMap.{is_at}
use Rattle.std.specs.Ordering.{nat_cmp}
use Rattle.st_model.specs.Descriptors.{Table, places_in}
use Rattle.st_fds.proofs.Entries.{taken_out}
use Rattle.st_fds.proofs.Whole.{taken_away}
use Rattle.st_fds.proofs.fds.Fds.uncopy.Goals as goal

pub returns-clause-undoes : goal.returns-clause-undoes
returns-clause-undoes c = λ t from none is.
    let processes = c.remove.ensures.entries
    ∙ ap (λ (old : Table). remove_entry (is_at (nat_cmp c.args.to)) old.processes) (c.self.view_is ∙ is)
    ∙ taken_out c.args.to (places_in t.processes from) t.processes none in
    let files = ap (λ (old : Table). old.files) (c.self.view_is ∙ is) in
    λ i. record { processes = processes i; files = files i }

pub invariant_of-self : goal.invariant_of-self
invariant_of-self c = rw c.remove.ensures.entries (taken_away (length c.self.inside.files.items) c.self.inside.processes.entries c.args.to c.self.invariant)
