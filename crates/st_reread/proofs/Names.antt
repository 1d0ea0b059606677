-- Names of filters are read back.
use Rattle.std.proofs.Common.{◌≡◌, ℕ, Bool, true, false, cond, ◌&&◌, nat_eq, nat_lt, List, ◌++◌, length, take, drop, Option, Some, None, option_map, refl, ap, sym, subst, ◌∙◌, take-append-drop}
use Rattle.std.specs.List.{starts_with, list_all}
use Rattle.std.proofs.lemmas.Slice.Eq.{bytes_eq-Decides}
use Rattle.st_grammar.proofs.Common.{Call, filter_name, FilterName, FsRead, is_word_text}
use Rattle.st_calls.specs.declared.call.SysCall.{SysCall}
use Rattle.st_calls.specs.declared.call.SysCall.TheVariants.{Open}
use Rattle.st_calls.specs.declared.rule.Rule.{Rule}
use Rattle.st_calls.specs.declared.rule.Rule.TheVariants.{FsWrite}
use Rattle.st_calls.specs.Call.{rule_named}
use Rattle.st_emulation.specs.Words.{prefix_of}
use Rattle.st_emulation.specs.declared.emulation.Emulation.{Emulation}
use Rattle.st_emulation.specs.declared.emulation.Emulation.TheVariants.{Native, Linux}
use Rattle.st_filter.specs.declared.filter.FilterName.TheVariants as name
use Rattle.st_grammar.specs.Words.{call_after_prefix, is_name_byte, if_name, name_by}
use Rattle.st_printing.specs.Canon.{call_word}

-- the name is a Word that is read back, by the names of this emulation
pub record IsReadableName (emulation : Emulation) (name : FilterName) : Type 0 where
  pub is_word : is_word_text (prefix_of emulation ++ call_word name) ≡ true
  pub is_read : filter_name (prefix_of emulation ++ call_word name) emulation ≡ Some name

readable_call : (emulation : Emulation) (call : SysCall) → IsReadableName emulation (name.Rule (Call call))
readable_call Native Open = record { is_word = refl; is_read = refl }
readable_call Native _ = record { is_word = refl; is_read = refl }
readable_call Linux Open = record { is_word = refl; is_read = refl }
readable_call Linux _ = record { is_word = refl; is_read = refl }

readable_rule : (emulation : Emulation) (rule : Rule) → IsReadableName emulation (name.Rule rule)
readable_rule Native (Call call) = readable_call Native call
readable_rule Native FsRead = record { is_word = refl; is_read = refl }
readable_rule Native FsWrite = record { is_word = refl; is_read = refl }
readable_rule Linux (Call call) = readable_call Linux call
readable_rule Linux FsRead = record { is_word = refl; is_read = refl }
readable_rule Linux FsWrite = record { is_word = refl; is_read = refl }

named_by : (b : Bool) (word call : List ℕ) → cond b (Some word) None ≡ Some call → word ≡ call
named_by true word call e = cc
named_by false word call e = absurd (cc)

-- a word that begins with a prefix is the prefix and the call's name
prefixed_by : (prefix : List ℕ) (b : Bool) (word call : List ℕ) → starts_with nat_eq word prefix ≡ b → cond b (if_name (drop (length prefix) word)) None ≡ Some call → word ≡ prefix ++ call
prefixed_by prefix true word call e is =
    let front : prefix ≡ take (length prefix) word = (bytes_eq-Decides prefix (take (length prefix) word)).0 e in
    let back : drop (length prefix) word ≡ call = named_by (nat_lt 0 (length (drop (length prefix) word)) && list_all is_name_byte (drop (length prefix) word)) (drop (length prefix) word) call is in
    sym (take-append-drop (length prefix) word) ∙ ap (λ (xs : List ℕ). xs ++ drop (length prefix) word) (sym front) ∙ ap (λ (xs : List ℕ). prefix ++ xs) back
prefixed_by prefix false word call e is = absurd (cc)

module _ (emulation : Emulation) where
  named_rule : (word call : List ℕ) (o : Option Rule) → word ≡ prefix_of emulation ++ call → is_word_text word ≡ true → rule_named call ≡ o → filter_name word emulation ≡ Some (name_by call o) → IsReadableName emulation (name_by call o)
  named_rule word call (Some rule) is w e f = readable_rule emulation rule
  named_rule word call None is w e f = record {
    is_word = ap is_word_text (sym is) ∙ w;
    is_read = ap (λ each. filter_name each emulation) (sym is) ∙ f;
  }

  read_name : (word : List ℕ) (name : FilterName) (o : Option (List ℕ)) → call_after_prefix word emulation ≡ o → is_word_text word ≡ true → option_map (λ call. name_by call (rule_named call)) o ≡ Some name → IsReadableName emulation name
  read_name word name None e w is = absurd (cc)
  read_name word name (Some call) e w is =
      let same : name_by call (rule_named call) ≡ name = cc in
      subst (IsReadableName emulation) same
      (named_rule word call (rule_named call) (prefixed_by (prefix_of emulation) (starts_with nat_eq word (prefix_of emulation)) word call refl e) w refl
      (ap (option_map (λ (call : List ℕ). name_by call (rule_named call))) e))

  -- a name that was read can be read again
  pub readable_name : (word : List ℕ) (name : FilterName) → is_word_text word ≡ true → filter_name word emulation ≡ Some name → IsReadableName emulation name
  readable_name word name w e = read_name word name (call_after_prefix word emulation) refl w e
