use Rattle.std.proofs.Common.{◌≡◌, ◌∙◌, ◌-◌, ℕ, zero, suc, refl, [], List, take, ap, sym}
use Rattle.std.proofs.lemmas.Bool.{ltb-true}
use Rattle.st_names.specs.declared.seen.SeenText.{SeenText}
use Rattle.st_lookaside.specs.Head.{arg_request}
use Rattle.st_lookaside.specs.Part.{Filled, filled_of, words_in}
use Rattle.st_lookaside.proofs.Parts.{copy_back, taken_back}
use Rattle.st_translate.specs.Copied.{Copied}
use Rattle.st_lookaside.proofs.part.Part.take_back.Goals as goal

take_none : (n : ℕ) → let none : List SeenText = [] in take n none ≡ []
take_none zero = refl
take_none (suc n) = refl

pub note_need-requires-clause-copied : goal.note_need-requires-clause-copied
note_need-requires-clause-copied c =
    copy_back (arg_request c.args.head.now) c.args.self.now.spec c.args.self.now.copying c.in-Some.copying c.take_back.new.self c.in-Some.is c.requires.part.copied c.take_back.ensures (ltb-true _ _ c.requires.some)

pub returns-clause-word : goal.returns-clause-word
returns-clause-word c = λ before word none is.
    let words : c.take_back.new.self.words ≡ before.words =
    ap (λ (copied : Copied). copied.words) (taken_back c.in-Some.copying c.take_back.new.self before.words word c.take_back.ensures (sym (ap words_in c.in-Some.is) ∙ ap (λ (f : Filled). f.words) is)) in
    let lookups : c.pop.new.self.items ≡ before.lookups =
    c.pop.ensures.rest ∙ ap (λ (l : List SeenText). take (c.args.self.now.lookups.len - 1) l) (ap (λ (f : Filled). f.lookups) is ∙ none) ∙ take_none (c.args.self.now.lookups.len - 1) ∙ sym none in
    ap filled_of c.note_need.ensures.rest ∙ (λ k. record { words = words k; lookups = lookups k })
