use Rattle.std.proofs.Common.{◌≡◌, ◌<◌, ◌∙◌, ◌+◌, ◌-◌, ◌++◌, ap, sym, subst, length, set, take, replicate, arith}
use Rattle.std.specs.Prelude.{vec_len, is_ok, if◌then◌else◌}
use Rattle.st_memory.specs.Page.{filled_up}
use Rattle.st_memory.proofs.Filled.{filled_more, filled_set}
use Rattle.st_memory.proofs.page.Page.set.Goals.{then-place-len+in-Ok, else-place-len}
use Rattle.st_memory.proofs.page.Page.set.Goals as goal

pub returns-clause-is : goal.returns-clause-is
returns-clause-is c =
    let old = c.self.inside.words in
    let words = c.if-place-len.self-inside.words in
    let count : vec_len old ≡ length old.items = old.ok.0 in
    let both : (filled_up words.items ≡ filled_up old.items) × (c.args.place < length words.items) = elim c.if-place-len.branch [
      | then-place-len+in-Ok w ↦
          let new = w.resize.new.self in
          let n = c.args.place + 1 in
          let items : new.items ≡ take n old.items ++ replicate (n - length old.items) 0 =
          w.resize.ensures.items ∙ ap (λ r. if is_ok r then take n old.items ++ replicate (n - vec_len old) 0 else old.items) w.in-Ok.is ∙ ap (λ m. take n old.items ++ replicate (n - m) 0) count in
          let size : length new.items ≡ n = sym new.ok.0 ∙ w.resize.ensures.len ∙ ap (λ r. if is_ok r then n else vec_len old) w.in-Ok.is in (
            ap (λ p. filled_up p.words.items) w.self-inside-is ∙ filled_more old.items new.items n (omega (arith, w.if-place-len.true, c.len.ensures, count)) (omega arith) items,
            subst (λ p. c.args.place < length p.words.items) (sym w.self-inside-is) (omega (arith, size)),
          )
      | else-place-len w ↦ (
        ap (λ p. filled_up p.words.items) w.self-inside-is,
        subst (λ p. c.args.place < length p.words.items) (sym w.self-inside-is) (omega (arith, w.if-place-len.false, c.len.ensures, count)),
      )
    ] in
    filled_set words.items c.args.place c.args.word both.1 ∙ ap (λ all. set all c.args.place c.args.word) (both.0 ∙ c.self.view_is)
