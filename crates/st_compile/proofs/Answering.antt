-- The kernel's own answers in the rows of a table, as filters are appended.
use Rattle.std.proofs.Common.{◌≡◌, ◌<◌, ◌+◌, ◌∙◌, ◌++◌, ◌&&◌, ℕ, suc, Bool, true, false, cond, not, set, List, [], ◌∷◌, length, map, Option, Some, None, Vec, Global, refl, ap, sym, get_or, true≢false}
use Rattle.std.proofs.lemmas.List.{get_or-set_other, get_or-set_same}
use Rattle.std.proofs.lemmas.Slice.Eq.{bytes_eq-Decides}
use Rattle.std.specs.List.{position, position_or_len}
use Rattle.std.specs.Map.{keys_of, lookup, values_of}
use Rattle.std.specs.Option.{option_or}
use Rattle.std.specs.Prelude.{is_some, nat_lt, slice_get, unwrap_or}
use Rattle.std.specs.Str.{bytes_eq}
use Rattle.indexmap.proofs.MapLemmas.{Found-position}
use Rattle.indexmap.specs.IndexMap.{insert_entry, set_value_at}
use Rattle.st_calls.proofs.Rules.{same_rule-Decides}
use Rattle.st_calls.specs.Call.{every_rule, index_of_rule}
use Rattle.st_calls.specs.Rules.{same_rule}
use Rattle.st_calls.specs.declared.call.SysCall.TheVariants.{Open}
use Rattle.st_calls.specs.declared.rule.FastAnswer.{FastAnswer}
use Rattle.st_calls.specs.declared.rule.FastAnswer.TheVariants.{Ask}
use Rattle.st_calls.specs.declared.rule.Rule.{Rule}
use Rattle.st_calls.specs.declared.rule.Rule.TheVariants.{Call, FsRead, FsWrite}
use Rattle.st_filter.proofs.Entries.{is_key, same_key}
use Rattle.st_filter.specs.Fast.{fast, fast_answer, first_answer}
use Rattle.st_filter.specs.Formula.{FilterValue}
use Rattle.st_compile.specs.Answers.{AllFilters, AreAnswersBy, AreAnswersUnder, ChangesAnswer, KeepsAnswers, answer_at, answer_in, with_appended, with_filter_for, with_policy_filters}
use Rattle.st_compile.specs.Table.{AnswersEntry, AreTables, BinaryAnswers, answer_row, binary_answers, represented_table}
use Rattle.st_compile.proofs.Keyed.{key_stands, lookup_set}
use Rattle.st_compile.proofs.Tables.{answers_kept, chosen, gains, items_of, lookup_length, made_at}

-- the answer by the first filter is that of all
pub fast_is : (fs : List FilterValue) → unwrap_or (first_answer fs) Ask ≡ fast fs
fast_is [] = refl
fast_is (f ∷ fs) = refl

-- ---- the row of a binary

abbrev binaries : List AnswersEntry → List (List ℕ)
binaries es = map (λ (row : BinaryAnswers). row.binary) (represented_table es)

-- the number of a binary's row is the index of its key in the map
pub row_kept : (es : List AnswersEntry) (binary : List ℕ) → answer_row (represented_table es) binary ≡ position (is_key binary) (keys_of es)
row_kept es binary = λ k. cond (nat_lt (first es k) (long es k)) (Some (first es k)) None where
  first : (es : List AnswersEntry) → position_or_len (bytes_eq binary) (binaries es) ≡ position_or_len (is_key binary) (keys_of es)
  first [] = refl
  first (e ∷ es) = ap (λ n. cond (not (bytes_eq binary e.0.items)) (1 + n) 0) (first es)

  long : (es : List AnswersEntry) → length (binaries es) ≡ length (keys_of es)
  long [] = refl
  long (e ∷ es) = ap suc (long es)

-- a row without answers changes none
no_more : (o : Option (List (Option FastAnswer))) (b : Bool) (rule : Rule) → answer_at (unwrap_or (option_or o (cond b (Some (map (λ each. None) every_rule)) None)) []) rule ≡ answer_at (unwrap_or o []) rule
no_more (Some answers) b rule = refl
no_more None true rule = made_at (λ each. None) rule
no_more None false rule = refl

module _ (es : List AnswersEntry) (key : Vec ℕ Global) (v : Vec (Option FastAnswer) Global) (binary : List ℕ) (key_is : key.items ≡ binary) where
  pub row_made : (i : ℕ) → i ≡ position_or_len (same_key key) (keys_of es) → answer_row (represented_table (insert_entry same_key es key v)) binary ≡ Some i
  row_made i is = ap (answer_row (represented_table (insert_entry same_key es key v))) (sym key_is) ∙ row_kept (insert_entry same_key es key v) key.items ∙ key_stands key v es ∙ ap Some (sym is)

  pub row_keeps : is_some (lookup (is_key binary) es) ≡ false → v.items ≡ map (λ each. None) every_rule → KeepsAnswers (represented_table es) (represented_table (insert_entry same_key es key v))
  row_keeps none are other rule =
      ap (λ (o : Option (List (Option FastAnswer))). answer_at (unwrap_or o []) rule) (gains es key v binary (map (λ each. None) every_rule) none key_is are other)
      ∙ no_more (binary_answers (represented_table es) other) (bytes_eq binary other) rule

-- ---- an answer that is set

rule_at : (rule : Rule) → get_or every_rule (index_of_rule rule) FsRead ≡ rule
rule_at (Call Open) = refl
rule_at (Call call) = refl
rule_at FsRead = refl
rule_at FsWrite = refl

same_index : (a b : Rule) → index_of_rule a ≡ index_of_rule b → a ≡ b
same_index a b e = sym (rule_at a) ∙ ap (λ i. get_or every_rule i FsRead) e ∙ rule_at b

module _ (answers : List (Option FastAnswer)) (rule : Rule) (answer : FastAnswer) (inside : index_of_rule rule < length answers) where
  set_at : (r : Rule) (b : Bool) → same_rule rule r ≡ b → answer_at (set answers (index_of_rule rule) (Some answer)) r ≡ cond b (Some answer) (answer_at answers r)
  set_at r true same =
      ap (λ (each : Rule). answer_at (set answers (index_of_rule rule) (Some answer)) each) (sym ((same_rule-Decides rule r).0 same))
      ∙ get_or-set_same answers (index_of_rule rule) (Some answer) None inside
  set_at r false differs = get_or-set_other answers (index_of_rule rule) (index_of_rule r) (Some answer) None (λ e. true≢false (sym ((same_rule-Decides rule r).1 (sym (same_index r rule e))) ∙ differs))

module _ (es : List AnswersEntry) (binary : List ℕ) (i : ℕ) (at : answer_row (represented_table es) binary ≡ Some i) where
  row_is : position (is_key binary) (keys_of es) ≡ Some i
  row_is = sym (row_kept es binary) ∙ at

  pub row_inside : i < length es
  row_inside = (Found-position (is_key binary) es i row_is).within

  -- the answers in the row are replaced, and no others
  new_row : (w : Vec (Option FastAnswer) Global) (other : List ℕ) (b : Bool) → bytes_eq binary other ≡ b → binary_answers (represented_table (set_value_at es i w)) other ≡ cond b (Some w.items) (binary_answers (represented_table es) other)
  new_row w other b same =
      sym (answers_kept (set_value_at es i w) other)
      ∙ ap items_of (lookup_set es binary i w row_is other)
      ∙ chosen (bytes_eq binary other) w (lookup (is_key other) es) (binary_answers (represented_table es) other) (answers_kept es other)
      ∙ ap (λ c. cond c (Some w.items) (binary_answers (represented_table es) other)) same

  module _ (filters : AllFilters) (own : Rule → List FilterValue) (w : Vec (Option FastAnswer) Global) (of : AreAnswersBy own w.items) (are : AreAnswersUnder filters (represented_table es)) where
    replaced_by : (other : List ℕ) (r : Rule) (b : Bool) → bytes_eq binary other ≡ b → answer_in (represented_table (set_value_at es i w)) other r ≡ first_answer (cond b (own r) (filters other r))
    replaced_by other r true same = ap (λ (o : Option (List (Option FastAnswer))). answer_at (unwrap_or o []) r) (new_row w other true same) ∙ of r
    replaced_by other r false same = ap (λ (o : Option (List (Option FastAnswer))). answer_at (unwrap_or o []) r) (new_row w other false same) ∙ are other r

    -- they are then those by the filters of the new row
    pub answers_replaced : AreAnswersUnder (with_policy_filters filters binary own) (represented_table (set_value_at es i w))
    answers_replaced other r = replaced_by other r (bytes_eq binary other) refl

  module _ (v : Vec (Option FastAnswer) Global) (there : slice_get (values_of es) i ≡ Some v) where
    there_by_key : lookup (is_key binary) es ≡ Some v
    there_by_key = (Found-position (is_key binary) es i row_is).value ∙ there

    pub row_there : binary_answers (represented_table es) binary ≡ Some v.items
    row_there = sym (answers_kept es binary) ∙ ap items_of there_by_key

    pub row_length : AreTables (represented_table es) → length v.items ≡ length every_rule
    row_length whole = lookup_length es binary v whole there_by_key

    module _ (rule : Rule) (answer : FastAnswer) (w : Vec (Option FastAnswer) Global) (inside : index_of_rule rule < length v.items) (is : w.items ≡ set v.items (index_of_rule rule) (Some answer)) where
      changed_by : (other : List ℕ) (r : Rule) (b : Bool) → bytes_eq binary other ≡ b → answer_in (represented_table (set_value_at es i w)) other r ≡ cond (b && same_rule rule r) (Some answer) (answer_in (represented_table es) other r)
      changed_by other r true same =
          ap (λ (o : Option (List (Option FastAnswer))). answer_at (unwrap_or o []) r) (new_row w other true same)
          ∙ ap (λ (row : List (Option FastAnswer)). answer_at row r) is
          ∙ set_at v.items rule answer inside r (same_rule rule r) refl
          ∙ ap (λ (o : Option (List (Option FastAnswer))). cond (same_rule rule r) (Some answer) (answer_at (unwrap_or o []) r)) (sym row_there ∙ ap (binary_answers (represented_table es)) ((bytes_eq-Decides binary other).0 same))
      changed_by other r false same = ap (λ (o : Option (List (Option FastAnswer))). answer_at (unwrap_or o []) r) (new_row w other false same)

      pub answer_changed : ChangesAnswer (represented_table es) binary rule answer (represented_table (set_value_at es i w))
      answer_changed other r = changed_by other r (bytes_eq binary other) refl

-- ---- a filter that is appended

still_first : (fs : List FilterValue) (f : FilterValue) → is_some (first_answer fs) ≡ true → first_answer fs ≡ first_answer (fs ++ f ∷ [])
still_first [] f e = cc
still_first (g ∷ fs) f e = refl

only_first : (fs : List FilterValue) (f : FilterValue) → is_some (first_answer fs) ≡ false → Some (fast_answer f) ≡ first_answer (fs ++ f ∷ [])
only_first [] f e = refl
only_first (g ∷ fs) f e = cc

-- the answers of one binary
module _ (answers : List (Option FastAnswer)) (filters : Rule → List FilterValue) (rule : Rule) (f : FilterValue) (are : AreAnswersBy filters answers) where
  some_first : (c : Bool) (r : Rule) → same_rule rule r ≡ true → is_some (answer_at answers rule) ≡ c → is_some (first_answer (filters r)) ≡ c
  some_first c r same some = ap is_some (sym (are r)) ∙ ap (λ (each : Rule). is_some (answer_at answers each)) (sym ((same_rule-Decides rule r).0 same)) ∙ some

  -- if there is an answer for the rule, it stays
  pub answers_kept_by : is_some (answer_at answers rule) ≡ true → AreAnswersBy (with_filter_for filters rule f) answers
  answers_kept_by some r = by (same_rule rule r) refl where
    by : (c : Bool) → same_rule rule r ≡ c → answer_at answers r ≡ first_answer (cond c (filters r ++ f ∷ []) (filters r))
    by true same = are r ∙ still_first (filters r) f (some_first true r same some)
    by false same = are r

  -- if there is none, it is that of the filter
  pub answers_gained_by : index_of_rule rule < length answers → is_some (answer_at answers rule) ≡ false → AreAnswersBy (with_filter_for filters rule f) (set answers (index_of_rule rule) (Some (fast_answer f)))
  answers_gained_by inside none r = by (same_rule rule r) refl where
    by : (c : Bool) → same_rule rule r ≡ c → answer_at (set answers (index_of_rule rule) (Some (fast_answer f))) r ≡ first_answer (cond c (filters r ++ f ∷ []) (filters r))
    by true same = set_at answers rule (fast_answer f) inside r true same ∙ only_first (filters r) f (some_first false r same none)
    by false same = set_at answers rule (fast_answer f) inside r false same ∙ are r

-- the answers of all
module _ (filters : AllFilters) (rows : List BinaryAnswers) (binary : List ℕ) (rule : Rule) (f : FilterValue) (are : AreAnswersUnder filters rows) where
  has_first : (b : Bool) (other : List ℕ) (r : Rule) → bytes_eq binary other ≡ true → same_rule rule r ≡ true → is_some (answer_in rows binary rule) ≡ b → is_some (first_answer (filters other r)) ≡ b
  has_first b other r is same some =
      ap is_some (sym (are other r))
      ∙ ap (λ (bin : List ℕ). is_some (answer_in rows bin r)) (sym ((bytes_eq-Decides binary other).0 is))
      ∙ ap (λ (each : Rule). is_some (answer_in rows binary each)) (sym ((same_rule-Decides rule r).0 same))
      ∙ some

  -- if there is an answer, it stays
  kept_by : (other : List ℕ) (r : Rule) (b c : Bool) → bytes_eq binary other ≡ b → same_rule rule r ≡ c → is_some (answer_in rows binary rule) ≡ true → answer_in rows other r ≡ first_answer (cond (b && c) (filters other r ++ f ∷ []) (filters other r))
  kept_by other r true true is same some = are other r ∙ still_first (filters other r) f (has_first true other r is same some)
  kept_by other r true false is same some = are other r
  kept_by other r false c is same some = are other r

  pub answers_kept_under : is_some (answer_in rows binary rule) ≡ true → AreAnswersUnder (with_appended filters binary rule f) rows
  answers_kept_under some other r = kept_by other r (bytes_eq binary other) (same_rule rule r) refl refl some

  -- if there is none, it is that of the filter
  gained_by : (new : List BinaryAnswers) (other : List ℕ) (r : Rule) (b c : Bool) → bytes_eq binary other ≡ b → same_rule rule r ≡ c → is_some (answer_in rows binary rule) ≡ false → answer_in new other r ≡ cond (b && c) (Some (fast_answer f)) (answer_in rows other r)
      → answer_in new other r ≡ first_answer (cond (b && c) (filters other r ++ f ∷ []) (filters other r))
  gained_by new other r true true is same none changed = changed ∙ only_first (filters other r) f (has_first false other r is same none)
  gained_by new other r true false is same none changed = changed ∙ are other r
  gained_by new other r false c is same none changed = changed ∙ are other r

  pub answers_gained : (new : List BinaryAnswers) → is_some (answer_in rows binary rule) ≡ false → ChangesAnswer rows binary rule (fast_answer f) new → AreAnswersUnder (with_appended filters binary rule f) new
  answers_gained new none changed other r = gained_by new other r (bytes_eq binary other) (same_rule rule r) refl refl none (changed other r)
