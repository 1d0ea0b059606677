-- Which filter of a session decides on a call.
use Rattle.std.specs.Prelude.{◌≡◌, ℕ, suc, ◌+◌, ◌-◌, Bool, true, false, ◌&&◌, nat_lt, if◌then◌else◌, List, [], ◌∷◌, All, take, length, slice_get, Option, Some, None, option_map}
use Rattle.std.specs.Str.{bytes_eq}
use Rattle.st_base.specs.Numbered.{item_at_number}
use Rattle.st_calls.specs.declared.judged.Snapshot.{Snapshot}
use Rattle.st_filter.specs.Formula.{FilterValue}
use Rattle.st_filter.specs.Judging.{holds, verdict_by, verdict_from}
use Rattle.st_law.specs.Sessions.{SessionFilter, is_kept_for, session_filters}
use Rattle.st_compile.specs.Asked.{asked_text}

-- the index of the first item of a kind
abbrev pub first_at : {X : Type 0} → (X → Bool) → List X → Option ℕ
first_at is [] = None
first_at is (x ∷ xs) = if is x then Some 0 else option_map suc (first_at is xs)

-- the lesser of two indices, or the only one that exists
abbrev pub lesser : Option ℕ → Option ℕ → Option ℕ
lesser None other = other
lesser (Some a) None = Some a
lesser (Some a) (Some b) = if nat_lt b a then Some b else Some a

-- whether a filter of a session asks for this text first
abbrev pub asks_first : List ℕ → SessionFilter → Bool
asks_first text kept = bytes_eq (asked_text kept.filter.formula) text

-- whether a filter of a session is for the policy and the rule of a call, and holds of it
abbrev pub decides : Snapshot → SessionFilter → Bool
decides s kept = is_kept_for s.policy s.rule kept && holds kept.filter s

-- how many filters there are for the policy and the rule of a filter
abbrev pub count_for : List SessionFilter → SessionFilter → ℕ
count_for session kept = length (session_filters session kept.policy kept.rule)

-- so many filters before an index are for the policy and the rule of the filter at it
abbrev pub NumberIs : List SessionFilter → ℕ → ℕ → Type 0
NumberIs session place number = (kept : SessionFilter) → slice_get session place ≡ Some kept → number ≡ count_for (take place session) kept

-- none of these filters holds of a call
abbrev pub NoneHolds : List FilterValue → Snapshot → Type 0
NoneHolds filters s = All (λ f. holds f s ≡ false) filters

-- this filter, which has this number among those of a policy and a rule, is the first of them that holds of a call, so it gives their
-- verdict
pub record IsDeciding (filters : List FilterValue) (s : Snapshot) (number : ℕ) (deciding : FilterValue) : Type 0 where
  pub there : item_at_number filters number ≡ Some deciding
  pub holds_of_call : holds deciding s ≡ true
  pub none_before : NoneHolds (take (number - 1) filters) s
  pub says : (read : ℕ) → verdict_from (suc read) filters s ≡ verdict_by (read + number) deciding.grant s.ids deciding.action
