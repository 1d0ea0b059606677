use Rattle.std.proofs.Common.{◌∙◌, ◌++◌, ◌∷◌, [], ℕ, List, IsSome, ap, sym, subst, arith}
use Rattle.st_model.specs.Spelling.{spell}
use Rattle.st_translate.specs.Copied.{Copied, asked_word, spelled_words}
use Rattle.st_translate.specs.Taken.{took_of}
use Rattle.st_translate.proofs.Asked.{AreAsked-push}
use Rattle.st_translate.proofs.Rooms.{letters_fit, word_fits}
use Rattle.st_translate.proofs.Stages.{asks, spells}
use Rattle.st_translate.proofs.copying.Copying.take.Goals as goal

pub take-requires-clause-room : goal.take-requires-clause-room
take-requires-clause-room c =
    let some : IsSome (asked_word (spell c.self.inside.kind c.self.inside.at c.self.inside.words.items)) = subst (λ (copied : Copied). IsSome (asked_word (spelled_words copied))) (sym c.self.view_is) c.requires in
    let few = letters_fit c.self.inside.kind c.self.inside.at c.self.inside.words.items c.self.inside.text.items c.self.inside.stage c.self.invariant.reached
    (asks c.self.inside.kind c.self.inside.at c.self.inside.words.items c.self.inside.text.items c.self.inside.stage c.self.invariant.reached some) in
    let len = c.self.inside.text.ok.0 in
    let room = c.self.invariant.has_text_room in
    omega (arith, few, len, room)

pub push_reserved-requires : goal.push_reserved-requires
push_reserved-requires c =
    let some : IsSome (asked_word (spell c.self.inside.kind c.self.inside.at c.self.inside.words.items)) = subst (λ (copied : Copied). IsSome (asked_word (spelled_words copied))) (sym c.self.view_is) c.requires in
    let few = word_fits c.self.inside.kind c.self.inside.at c.self.inside.words.items c.self.inside.text.items c.self.inside.stage c.self.invariant.reached
    (asks c.self.inside.kind c.self.inside.at c.self.inside.words.items c.self.inside.text.items c.self.inside.stage c.self.invariant.reached some) in
    let len = c.self.inside.words.ok.0 in
    let room = c.self.invariant.has_room in
    omega (arith, few, len, room)

pub take-requires-clause-asks : goal.take-requires-clause-asks
take-requires-clause-asks c =
    let some : IsSome (asked_word (spell c.self.inside.kind c.self.inside.at c.self.inside.words.items)) = subst (λ (copied : Copied). IsSome (asked_word (spelled_words copied))) (sym c.self.view_is) c.requires in
    asks c.self.inside.kind c.self.inside.at c.self.inside.words.items c.self.inside.text.items c.self.inside.stage c.self.invariant.reached some

pub invariant_of-self : goal.invariant_of-self
invariant_of-self c =
    let some : IsSome (asked_word (spell c.self.inside.kind c.self.inside.at c.self.inside.words.items)) = subst (λ (copied : Copied). IsSome (asked_word (spelled_words copied))) (sym c.self.view_is) c.requires in
    record {
      lies = c.self.invariant.lies;
      asked = rw c.push_reserved.ensures.items (AreAsked-push c.self.inside.kind c.self.inside.at c.self.inside.words.items c.args.word c.self.invariant.asked some);
      reached = rw c.push_reserved.ensures.items (c.take.ensures.stage c.self.inside.kind c.self.inside.at c.self.inside.words.items c.self.invariant.reached);
      has_text_room = (let same = c.take.ensures.capacity in let room = c.self.invariant.has_text_room in omega (arith, same, room));
      has_room = (let same = c.push_reserved.ensures.capacity in let room = c.self.invariant.has_room in omega (arith, same, room));
    }

pub returns-clause-took : goal.returns-clause-took
returns-clause-took c =
    let reached = c.take.ensures.stage c.self.inside.kind c.self.inside.at c.self.inside.words.items c.self.invariant.reached in
    c.took_at.ensures c.take.new.text.items
    ∙ ap took_of (sym (spells c.self.inside.kind c.self.inside.at (c.self.inside.words.items ++ c.args.word ∷ []) c.take.new.text.items c.take.new.self reached))
    ∙ ap (λ (words : List ℕ). took_of (spell c.self.inside.kind c.self.inside.at words)) (sym c.push_reserved.ensures.items)
