use Rattle.std.proofs.Common.{refl, sym, ◌∙◌}
use Rattle.st_fields.proofs.Loops.{digits-taken}
use Rattle.st_fields.proofs.words.bytes_of_digits.Goals as goal

pub loop-rest-preserved : goal.loop-rest-preserved
loop-rest-preserved c =
    digits-taken c.loop-rest.bytes c.loop-rest.rest.now _ c.in-Some.byte c.push.new.self _ c.in-len2-up.len_at_least refl (sym c.hex_byte.ensures ∙ c.in-Some.is) c.in_ok-push.ensures.ok c.loop-rest.invariant
