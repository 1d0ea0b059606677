use Rattle.std.proofs.Common.{◌≡◌, ◌∙◌, ◌++◌, [], ◌∷◌, List, ℕ, ap, arith, length, sym, subst}
use Rattle.std.proofs.lemmas.Bool.{or_parts}
use Rattle.std.specs.Str.{bytes_eq}
use Rattle.st_filter.specs.Formula.{FilterValue}
use Rattle.st_filter.specs.Policies.{with_binary}
use Rattle.st_law.specs.Sessions.{SessionFilter, session_filters}
use Rattle.st_compile.specs.Asked.{asked_text}
use Rattle.st_learn.specs.Deciding.{count_for}
use Rattle.st_compile.specs.Places.{GainsPlace, binaries_of}
use Rattle.st_learn.specs.Sessions.{AreApart, Session, numbers_after, places_asking, places_of}
use Rattle.st_compile.proofs.Indices.{added_places, one_longer}
use Rattle.st_compile.proofs.Rows.{keeps}
use Rattle.st_learn.proofs.Binaries.{apart_more}
use Rattle.st_learn.proofs.Rooms.{room_made}
use Rattle.st_learn.proofs.Filters.{some_text, still_texts}
use Rattle.st_learn.proofs.Numbers.{number_added}
use Rattle.st_learn.proofs.session.Session.add.Goals as goal
use Rattle.st_learn.proofs.session.Session.add.Goals.{After-push_reserved-2}

place_is : (c : After-push_reserved-2) → c.len-place.result ≡ length c.self.inside.kept.items
place_is c = c.len-place.ensures ∙ c.self.inside.kept.ok.0

items_are : (c : After-push_reserved-2) → c.push_reserved-2.new.self.items ≡ c.self.inside.kept.items ++ c.new.result ∷ []
items_are c = c.push_reserved-2.ensures.items ∙ ap (λ (items : List SessionFilter). items ++ c.new.result ∷ []) c.reserve.ensures.items

bytes_are : (c : After-push_reserved-2) → c.bytes-bytes.result.now ≡ c.args.policy.now
bytes_are c = c.bytes-bytes.ensures ∙ c.get.ensures

policy_is : (c : After-push_reserved-2) → c.bytes-bytes.result.now ≡ c.new.result.policy
policy_is c = bytes_are c ∙ sym c.in_ok-binary.ensures ∙ sym (ap (λ (kept : SessionFilter). kept.policy) c.new.ensures)

rule_is : (c : After-push_reserved-2) → c.args.rule ≡ c.new.result.rule
rule_is c = sym (ap (λ (kept : SessionFilter). kept.rule) c.new.ensures)

text_is : (c : After-push_reserved-2) → c.asked_text-text.result.now ≡ asked_text c.new.result.filter.formula
text_is c = c.asked_text-text.ensures ∙ ap asked_text c.expr.ensures ∙ ap (λ (filter : FilterValue). asked_text filter.formula) c.get-2.ensures ∙ sym (ap (λ (kept : SessionFilter). asked_text kept.filter.formula) c.new.ensures)

places_are : (c : goal.After-at) → c.at.result.now ≡ places_of c.reserve.new.self.items c.bytes-bytes.result.now
places_are c =
    c.at.ensures c.bytes-bytes.result.now c.in_ok-row.ensures.room.is ∙ c.reserve-4.ensures.kept.places c.bytes-bytes.result.now ∙ c.self.invariant.policies_are c.bytes-bytes.result.now
    ∙ ap (λ (session : List SessionFilter). places_of session c.bytes-bytes.result.now) (sym c.reserve.ensures.items)

pub count_at-number-requires : goal.count_at-number-requires
count_at-number-requires c = (c.bytes-bytes.result.now, places_are c)

pub invariant_of-self-2 : goal.invariant_of-self-2
invariant_of-self-2 c =
    room_made c.self.inside.kept.items c.reserve.new.self.items c.self.inside.numbers.items c.reserve-2.new.self.items c.self.inside.policies c.reserve-4.new.self c.self.inside.texts c.reserve-3.new.self c.self.inside.reloads c.self.inside.reloads c.self.inside.has_textless
    c.self.invariant c.reserve.ensures.items c.reserve-2.ensures.items c.reserve-4.ensures.kept c.reserve-3.ensures.kept (keeps c.self.inside.reloads)
    (subst AreApart (sym c.in_ok-row.ensures.row) (apart_more (binaries_of c.self.inside.policies) c.bytes-bytes.result.now c.self.invariant.apart))

count_is : (c : After-push_reserved-2) → c.count_at-number.result ≡ length (session_filters c.self.inside.kept.items c.bytes-bytes.result.now c.args.rule)
count_is c =
    c.count_at-number.ensures.is c.bytes-bytes.result.now
    (c.at.ensures c.bytes-bytes.result.now c.in_ok-row.ensures.room.is ∙ c.reserve-4.ensures.kept.places c.bytes-bytes.result.now ∙ c.self.invariant.policies_are c.bytes-bytes.result.now
    ∙ ap (λ (session : List SessionFilter). places_of session c.bytes-bytes.result.now) (sym c.reserve.ensures.items))
    ∙ ap (λ (session : List SessionFilter). length (session_filters session c.bytes-bytes.result.now c.args.rule)) c.reserve.ensures.items

number_is : (c : After-push_reserved-2) → c.count_at-number.result ≡ count_for c.self.inside.kept.items c.new.result
number_is c = count_is c ∙ (λ k. length (session_filters c.self.inside.kept.items (policy_is c k) (rule_is c k)))

pub push_at-requires : goal.push_at-requires
push_at-requires c = (c.bytes-bytes.result.now, c.in_ok-row.ensures.room)

pub push_at-requires-2 : goal.push_at-requires-2
push_at-requires-2 c = (c.asked_text-text.result.now, c.in_ok-text_row.ensures.room)

pub invariant_of-self-3 : goal.invariant_of-self-3
invariant_of-self-3 c = record {
  policies_are = λ wanted.
      added_places (λ (kept : SessionFilter). kept.policy) c.reserve-4.new.self c.push_at.new.self c.self.inside.kept.items c.new.result c.len-place.result
      (λ other. c.reserve-4.ensures.kept.places other ∙ c.self.invariant.policies_are other)
      (subst (λ policy. GainsPlace c.reserve-4.new.self policy c.len-place.result c.push_at.new.self) (policy_is c) (c.push_at.ensures.gains c.bytes-bytes.result.now c.in_ok-row.ensures.room)) (place_is c) wanted
      ∙ ap (λ (session : List SessionFilter). places_of session wanted) (sym (items_are c));
  texts_are = λ wanted.
      added_places (λ (kept : SessionFilter). asked_text kept.filter.formula) c.reserve-3.new.self c.push_at-2.new.self c.self.inside.kept.items c.new.result c.len-place.result
      (λ other. c.reserve-3.ensures.kept.places other ∙ c.self.invariant.texts_are other)
      (subst (λ text. GainsPlace c.reserve-3.new.self text c.len-place.result c.push_at-2.new.self) (text_is c) (c.push_at-2.ensures.gains c.asked_text-text.result.now c.in_ok-text_row.ensures.room)) (place_is c) wanted
      ∙ ap (λ (session : List SessionFilter). places_asking session wanted) (sym (items_are c));
  textless = λ e.
      let parts = or_parts c.self.inside.has_textless c.is_empty.result e in
      ap (λ (session : List SessionFilter). places_asking session []) (items_are c)
      ∙ still_texts c.self.inside.kept.items c.new.result (ap (λ (text : List ℕ). bytes_eq text []) (sym (text_is c)) ∙ some_text c.asked_text-text.result.now (sym c.is_empty.ensures ∙ parts.1)) (c.self.invariant.textless parts.0);
  numbers_are =
      c.push_reserved.ensures.items
      ∙ (λ k. (c.reserve-2.ensures.items ∙ c.self.invariant.numbers_are) k ++ (number_is c) k ∷ [])
      ∙ sym (ap (numbers_after []) (items_are c) ∙ number_added [] c.self.inside.kept.items c.new.result);
  few =
      let items = ap length (items_are c) in
      let longer = one_longer c.self.inside.kept.items c.new.result in
      let place = place_is c in
      let most = c.if-place-ge-MOST_KEPT.false in
      omega (arith, items, longer, place, most);
  versions_few = c.self.invariant.versions_few;
  apart = subst AreApart (sym (c.push_at.ensures.rows ∙ c.in_ok-row.ensures.row)) (apart_more (binaries_of c.self.inside.policies) c.bytes-bytes.result.now c.self.invariant.apart);
}

pub returns-clause-few : goal.returns-clause-few
returns-clause-few c = c.count_at-number.ensures.few

pub returns-clause-number : goal.returns-clause-number
returns-clause-number c =
    count_is c
    ∙ ap (λ (policy : List ℕ). length (session_filters c.self.inside.kept.items policy c.args.rule)) (c.bytes-bytes.ensures ∙ c.get.ensures)
    ∙ ap (λ (session : Session). length (session_filters session.filters c.args.policy.now c.args.rule)) c.self.view_is

pub returns-clause-changed : goal.returns-clause-changed
returns-clause-changed c =
    c.push_at.ensures.rows ∙ c.in_ok-row.ensures.row
    ∙ (λ k. with_binary ((ap (λ (session : Session). session.changed) c.self.view_is) k) ((c.bytes-bytes.ensures ∙ c.get.ensures) k))
