-- Tables of the kernel's own answers, as a map stores them.
use Rattle.std.proofs.Common.{◌≡◌, ◌∙◌, ℕ, suc, zero, Bool, true, false, cond, List, [], ◌∷◌, take, length, map, Option, Some, None, Vec, Global, refl, ap, sym, get_or, option_map}
use Rattle.std.proofs.lemmas.Cmp.{nat_list_eq_equiv}
use Rattle.std.proofs.lemmas.List.Elements.{All-cons, All-head, All-nil, All-tail}
use Rattle.std.proofs.lemmas.Option.{same_Some}
use Rattle.std.proofs.lemmas.Slice.Eq.{bytes_eq-Decides}
use Rattle.std.specs.Map.{lookup}
use Rattle.std.specs.Option.{option_or}
use Rattle.std.specs.Prelude.{is_some, slice_get, unwrap_or}
use Rattle.std.specs.Str.{bytes_eq}
use Rattle.indexmap.specs.IndexMap.{insert_entry, set_value_at}
use Rattle.st_calls.specs.Call.{every_rule, index_of_rule}
use Rattle.st_calls.specs.declared.call.SysCall.TheVariants.{Open}
use Rattle.st_calls.specs.declared.rule.FastAnswer.{FastAnswer}
use Rattle.st_calls.specs.declared.rule.Rule.{Rule}
use Rattle.st_calls.specs.declared.rule.Rule.TheVariants.{Call, FsRead, FsWrite}
use Rattle.st_filter.specs.Fast.{first_answer}
use Rattle.st_filter.specs.Formula.{FilterValue}
use Rattle.st_filter.specs.Policies.{filters_of, policy_of, read_filters}
use Rattle.st_filter.specs.declared.set.BinaryPolicy.{BinaryPolicy}
use Rattle.st_filter.proofs.Entries.{is_key, same_key}
use Rattle.st_compile.specs.Answers.{AreAnswersBy, AreAnswersUnder, answer_at}
use Rattle.st_compile.specs.Table.{AnswersEntry, AreTables, BinaryAnswers, Gains, IsTableOf, binary_answers, answers_of, first_answers, answers_of_entry, represented_table}

-- ---- lookups

abbrev pub items_of : Option (Vec (Option FastAnswer) Global) → Option (List (Option FastAnswer))
items_of o = option_map (λ (v : Vec (Option FastAnswer) Global). v.items) o

pub chosen : (b : Bool) (v : Vec (Option FastAnswer) Global) (o : Option (Vec (Option FastAnswer) Global)) (other : Option (List (Option FastAnswer))) → items_of o ≡ other → items_of (cond b (Some v) o) ≡ cond b (Some v.items) other
chosen true v o other e = refl
chosen false v o other e = e

-- what the map has for a binary
pub answers_kept : (es : List AnswersEntry) (binary : List ℕ) → items_of (lookup (is_key binary) es) ≡ binary_answers (represented_table es) binary
answers_kept [] binary = refl
answers_kept (e ∷ es) binary =
    chosen (bytes_eq binary e.0.items) e.1 (lookup (is_key binary) es) (binary_answers (represented_table es) binary) (answers_kept es binary)
    ∙ ap (λ b. cond b (Some e.1.items) (binary_answers (represented_table es) binary)) (nat_list_eq_equiv.symm binary e.0.items)

none_kept : (o : Option (Vec (Option FastAnswer) Global)) → is_some o ≡ false → items_of o ≡ None
none_kept None e = refl
none_kept (Some v) e = cc

some_kept : (o : Option (Vec (Option FastAnswer) Global)) → is_some o ≡ true → (answers : List (Option FastAnswer)) × (items_of o ≡ Some answers)
some_kept None e = cc
some_kept (Some v) e = (v.items, refl)

found_length : (b : Bool) (e v : Vec (Option FastAnswer) Global) (o : Option (Vec (Option FastAnswer) Global)) → length e.items ≡ length every_rule → (o ≡ Some v → length v.items ≡ length every_rule) → cond b (Some e) o ≡ Some v → length v.items ≡ length every_rule
found_length true e v o whole later is = ap (λ (w : Vec (Option FastAnswer) Global). length w.items) (same_Some v e (sym is)) ∙ whole
found_length false e v o whole later is = later is

-- answers that are found have one for each rule
pub lookup_length : (es : List AnswersEntry) (binary : List ℕ) (v : Vec (Option FastAnswer) Global) → AreTables (represented_table es) → lookup (is_key binary) es ≡ Some v → length v.items ≡ length every_rule
lookup_length [] binary v whole is = cc
lookup_length (e ∷ es) binary v whole is =
    found_length (bytes_eq binary e.0.items) e.1 v (lookup (is_key binary) es) (All-head (λ row. length row.answers ≡ length every_rule) (answers_of_entry e) (represented_table es) whole)
    (lookup_length es binary v (All-tail (λ row. length row.answers ≡ length every_rule) (answers_of_entry e) (represented_table es) whole)) is

-- ---- the answer for a rule

-- what is made for each rule is at the rule's index
pub made_at : (f : Rule → Option FastAnswer) (rule : Rule) → get_or (map f every_rule) (index_of_rule rule) None ≡ f rule
made_at f (Call Open) = refl
made_at f (Call call) = refl
made_at f FsRead = refl
made_at f FsWrite = refl

-- the answers of a binary are those under its policy; a binary without a policy has none
some_by : (b : Bool) (filters others : List FilterValue) (o : Option (List (Option FastAnswer))) (answers : List (Option FastAnswer)) → cond b (Some (first_answers filters)) o ≡ Some answers → (o ≡ Some answers → answers ≡ first_answers others) → answers ≡ first_answers (cond b filters others)
some_by true filters others o answers e later = same_Some answers (first_answers filters) (sym e)
some_by false filters others o answers e later = later e

some_answers : (policies : List BinaryPolicy) (binary : List ℕ) (answers : List (Option FastAnswer)) → answers_of policies binary ≡ Some answers → answers ≡ first_answers (policy_of policies binary)
some_answers [] binary answers e = cc
some_answers (policy ∷ policies) binary answers e =
    some_by (bytes_eq policy.binary binary) policy.filters (policy_of policies binary) (answers_of policies binary) answers e (some_answers policies binary answers)

none_by : (b : Bool) (filters others : List FilterValue) (o : Option (List (Option FastAnswer))) → cond b (Some (first_answers filters)) o ≡ None → (o ≡ None → others ≡ []) → cond b filters others ≡ []
none_by true filters others o e later = cc
none_by false filters others o e later = later e

no_answers : (policies : List BinaryPolicy) (binary : List ℕ) → answers_of policies binary ≡ None → policy_of policies binary ≡ []
no_answers [] binary e = refl
no_answers (policy ∷ policies) binary e =
    none_by (bytes_eq policy.binary binary) policy.filters (policy_of policies binary) (answers_of policies binary) e (no_answers policies binary)

-- ---- answers that are added

-- what comes after the first row still comes after it
following : (b : Bool) (answers : List (Option FastAnswer)) (rest more : Option (List (Option FastAnswer))) → cond b (Some answers) (option_or rest more) ≡ option_or (cond b (Some answers) rest) more
following true answers rest more = refl
following false answers rest more = refl

gained_by : (b : Bool) (e : AnswersEntry) (es : List AnswersEntry) (key : Vec ℕ Global) (v : Vec (Option FastAnswer) Global) (other : List ℕ) → b ≡ bytes_eq e.0.items key.items → binary_answers (represented_table (e ∷ es)) key.items ≡ None
    → (binary_answers (represented_table es) key.items ≡ None → binary_answers (represented_table (insert_entry same_key es key v)) other ≡ option_or (binary_answers (represented_table es) other) (cond (bytes_eq key.items other) (Some v.items) None))
    → binary_answers (represented_table (cond b ((e.0, v) ∷ es) (e ∷ insert_entry same_key es key v))) other ≡ option_or (binary_answers (represented_table (e ∷ es)) other) (cond (bytes_eq key.items other) (Some v.items) None)
gained_by true e es key v other is none later = absurd (clash ((λ k. cond (is k) (Some e.1.items) (binary_answers (represented_table es) key.items)) ∙ none)) where
  clash : Some e.1.items ≡ None → ⊥
  clash f = cc
gained_by false e es key v other is none later =
    ap (λ o. cond (bytes_eq e.0.items other) (Some e.1.items) o) (later ((λ k. cond (is k) (Some e.1.items) (binary_answers (represented_table es) key.items)) ∙ none))
    ∙ following (bytes_eq e.0.items other) e.1.items (binary_answers (represented_table es) other) (cond (bytes_eq key.items other) (Some v.items) None)

-- a binary that has no answers yet gets some
inserted : (es : List AnswersEntry) (key : Vec ℕ Global) (v : Vec (Option FastAnswer) Global) → binary_answers (represented_table es) key.items ≡ None → Gains (represented_table es) key.items v.items (represented_table (insert_entry same_key es key v))
inserted [] key v none other = refl
inserted (e ∷ es) key v none other =
    gained_by (bytes_eq key.items e.0.items) e es key v other (nat_list_eq_equiv.symm key.items e.0.items) none (λ more. inserted es key v more other)

pub gains : (es : List AnswersEntry) (key : Vec ℕ Global) (v : Vec (Option FastAnswer) Global) (binary : List ℕ) (answers : List (Option FastAnswer)) → is_some (lookup (is_key binary) es) ≡ false → key.items ≡ binary → v.items ≡ answers
    → Gains (represented_table es) binary answers (represented_table (insert_entry same_key es key v))
gains es key v binary answers none key_is answers_are other =
    inserted es key v (ap (binary_answers (represented_table es)) key_is ∙ sym (answers_kept es binary) ∙ none_kept (lookup (is_key binary) es) none) other
    ∙ (λ k. option_or (binary_answers (represented_table es) other) (cond (bytes_eq (key_is k) other) (Some (answers_are k)) None))

-- a binary that has answers keeps them
had_by : (rows : List BinaryAnswers) (binary other : List ℕ) (own answers : List (Option FastAnswer)) → binary_answers rows binary ≡ Some own → (b : Bool) → bytes_eq binary other ≡ b
    → binary_answers rows other ≡ option_or (binary_answers rows other) (cond b (Some answers) None)
had_by rows binary other own answers is true same =
    let there : binary_answers rows other ≡ Some own = ap (binary_answers rows) (sym ((bytes_eq-Decides binary other).0 same)) ∙ is in
    there ∙ ap (λ o. option_or o (Some answers)) (sym there)
had_by rows binary other own answers is false same = by (binary_answers rows other) where
  by : (o : Option (List (Option FastAnswer))) → o ≡ option_or o None
  by None = refl
  by (Some xs) = refl

pub had : (es : List AnswersEntry) (binary : List ℕ) (answers : List (Option FastAnswer)) → is_some (lookup (is_key binary) es) ≡ true → Gains (represented_table es) binary answers (represented_table es)
had es binary answers some other =
    let own : (xs : List (Option FastAnswer)) × (items_of (lookup (is_key binary) es) ≡ Some xs) = some_kept (lookup (is_key binary) es) some in
    had_by (represented_table es) binary other own.0 answers (sym (answers_kept es binary) ∙ own.1) (bytes_eq binary other) refl

-- each binary still has an answer for each rule
whole_by : (b : Bool) (e : AnswersEntry) (es : List AnswersEntry) (key : Vec ℕ Global) (v : Vec (Option FastAnswer) Global) → length v.items ≡ length every_rule → AreTables (represented_table (e ∷ es)) → AreTables (represented_table (insert_entry same_key es key v))
    → AreTables (represented_table (cond b ((e.0, v) ∷ es) (e ∷ insert_entry same_key es key v)))
whole_by true e es key v whole all later = All-cons (λ row. length row.answers ≡ length every_rule) (answers_of_entry (e.0, v)) (represented_table es) whole (All-tail (λ row. length row.answers ≡ length every_rule) (answers_of_entry e) (represented_table es) all)
whole_by false e es key v whole all later = All-cons (λ row. length row.answers ≡ length every_rule) (answers_of_entry e) (represented_table (insert_entry same_key es key v)) (All-head (λ row. length row.answers ≡ length every_rule) (answers_of_entry e) (represented_table es) all) later

pub inserted_whole : (es : List AnswersEntry) (key : Vec ℕ Global) (v : Vec (Option FastAnswer) Global) → length v.items ≡ length every_rule → AreTables (represented_table es) → AreTables (represented_table (insert_entry same_key es key v))
inserted_whole [] key v whole all = All-cons (λ row. length row.answers ≡ length every_rule) (answers_of_entry (key, v)) [] whole (All-nil (λ row. length row.answers ≡ length every_rule))
inserted_whole (e ∷ es) key v whole all =
    whole_by (bytes_eq key.items e.0.items) e es key v whole all (inserted_whole es key v whole (All-tail (λ row. length row.answers ≡ length every_rule) (answers_of_entry e) (represented_table es) all))

-- the same, if a row is set
pub set_whole : (es : List AnswersEntry) (i : ℕ) (w : Vec (Option FastAnswer) Global) → length w.items ≡ length every_rule → AreTables (represented_table es) → AreTables (represented_table (set_value_at es i w))
set_whole [] i w whole all = all
set_whole (e ∷ es) zero w whole all = All-cons (λ row. length row.answers ≡ length every_rule) (answers_of_entry (e.0, w)) (represented_table es) whole (All-tail (λ row. length row.answers ≡ length every_rule) (answers_of_entry e) (represented_table es) all)
set_whole (e ∷ es) (suc i) w whole all =
    All-cons (λ row. length row.answers ≡ length every_rule) (answers_of_entry e) (represented_table (set_value_at es i w)) (All-head (λ row. length row.answers ≡ length every_rule) (answers_of_entry e) (represented_table es) all)
    (set_whole es i w whole (All-tail (λ row. length row.answers ≡ length every_rule) (answers_of_entry e) (represented_table es) all))

-- ---- one policy after the other

next_of : (policies : List BinaryPolicy) (i : ℕ) (binary : List ℕ) (filters : List FilterValue) → option_map (λ (p : BinaryPolicy). p.binary) (slice_get policies i) ≡ Some binary → option_map (λ (p : BinaryPolicy). p.filters) (slice_get policies i) ≡ Some filters
    → (other : List ℕ) → answers_of (take (suc i) policies) other ≡ option_or (answers_of (take i policies) other) (cond (bytes_eq binary other) (Some (first_answers filters)) None)
next_of [] i binary filters is are other = cc
next_of (policy ∷ policies) zero binary filters is are other =
    λ k. cond (bytes_eq (same_Some policy.binary binary is k) other) (Some (first_answers (same_Some policy.filters filters are k))) None
next_of (policy ∷ policies) (suc i) binary filters is are other =
    ap (λ o. cond (bytes_eq policy.binary other) (Some (first_answers policy.filters)) o) (next_of policies i binary filters is are other)
    ∙ following (bytes_eq policy.binary other) (first_answers policy.filters) (answers_of (take i policies) other) (cond (bytes_eq binary other) (Some (first_answers filters)) None)

-- if rows gain the answers under the next policy, they are the table of one more policy
pub table_next : (policies : List BinaryPolicy) (i : ℕ) (binary : List ℕ) (filters : List FilterValue) (old new : List BinaryAnswers) → option_map (λ (p : BinaryPolicy). p.binary) (slice_get policies i) ≡ Some binary → option_map (λ (p : BinaryPolicy). p.filters) (slice_get policies i) ≡ Some filters
    → IsTableOf (take i policies) old → Gains old binary (first_answers filters) new → IsTableOf (take (suc i) policies) new
table_next policies i binary filters old new is are table gained other =
    gained other ∙ ap (λ o. option_or o (cond (bytes_eq binary other) (Some (first_answers filters)) None)) (table other) ∙ sym (next_of policies i binary filters is are other)

-- ---- under the filters that were read

module _ (policies : List BinaryPolicy) (binary : List ℕ) (rule : Rule) where
  answer_by : (o : Option (List (Option FastAnswer))) → answers_of policies binary ≡ o → answer_at (unwrap_or o []) rule ≡ first_answer (read_filters policies binary rule)
  answer_by (Some answers) is =
      ap (λ (row : List (Option FastAnswer)). answer_at row rule) (some_answers policies binary answers is)
      ∙ made_at (λ each. first_answer (filters_of each (policy_of policies binary))) rule
  answer_by None is = no_answer rule ∙ ap (λ filters. first_answer (filters_of rule filters)) (sym (no_answers policies binary is)) where
    no_answer : (r : Rule) → answer_at [] r ≡ first_answer (filters_of r [])
    no_answer r = refl

-- the table of policies has the answers under the filters that were read
pub answers_read : (policies : List BinaryPolicy) (rows : List BinaryAnswers) → IsTableOf policies rows → AreAnswersUnder (read_filters policies) rows
answers_read policies rows table binary rule =
    ap (λ (o : Option (List (Option FastAnswer))). answer_at (unwrap_or o []) rule) (table binary) ∙ answer_by policies binary rule (answers_of policies binary) refl

-- answers that are made for each rule are those by the first filters
pub answers_first : (filters : List FilterValue) (answers : List (Option FastAnswer)) → answers ≡ first_answers filters → AreAnswersBy (λ rule. filters_of rule filters) answers
answers_first filters answers are rule = ap (λ (row : List (Option FastAnswer)). answer_at row rule) are ∙ made_at (λ each. first_answer (filters_of each filters)) rule
