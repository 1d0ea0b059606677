-- The renewals after the changes of a call that sets ids: they change nothing in the system.
use Rattle.std.proofs.Common.{◌≡◌, ◌∙◌, ℕ, suc, ◌+◌, Bool, true, false, cond, List, [], ◌∷◌, ◌++◌, Option, Some, None, refl, ap, sym}
use Rattle.std.proofs.lemmas.List.Sums.{fold-append}
use Rattle.std.specs.List.{fold}
use Rattle.st_base.specs.Errno.{first_error}
use Rattle.st_base.specs.declared.errno.Errno.{Errno}
use Rattle.st_base.specs.declared.ids.Ids.{Ids}
use Rattle.st_calls.specs.declared.call.SysCall.{SysCall}
use Rattle.st_calls.specs.declared.call.SysCall.TheVariants.{SetUid, SetEuid, SetGid, SetEgid}
use Rattle.st_model.specs.Identity.{ids_after_set, set_refused}
use Rattle.st_effects.specs.Effect.{effect}
use Rattle.st_effects.specs.Processes.{is_other_of, renewals, renewals_by}
use Rattle.st_effects.specs.System.{HeldCall, Request, register, success, unless_error}
use Rattle.st_trace.specs.declared.entry.CallResult.{CallResult}
use Rattle.st_trace.specs.declared.entry.CallResult.TheVariants.{Value, Failed}
use Rattle.st_trace.specs.declared.entry.Change.{Change}
use Rattle.st_trace.specs.declared.entry.Change.TheVariants.{Renewed, SetIds}
use Rattle.st_law.specs.declared.input.Input.{Input}
use Rattle.st_law.specs.State.{State, held_from, system_of, thread_count}
use Rattle.st_system.specs.Steps.{AppendsRenewals, renewals_of, unheld_system, with_renewals}
use Rattle.st_calls.specs.Call.{sets_ids}
use Rattle.st_system.proofs.Alike.{alike}

-- ---- a list of renewals

-- each change is a renewal
abbrev pub AreRenewals : List Change → Type 0
AreRenewals [] = Unit {0}
AreRenewals (Renewed old new ∷ changes) = AreRenewals changes
AreRenewals (change ∷ changes) = ⊥

renewed_by : (next number : ℕ) (b : Bool) (later now : List Change) → AreRenewals later → AreRenewals now → AreRenewals (cond b (Renewed number next ∷ later) now)
renewed_by next number true later now x y = x
renewed_by next number false later now x y = y

-- the renewals of held calls of any kind
pub are_renewals : (is : HeldCall → Bool) (next : ℕ) (held : List HeldCall) → AreRenewals (renewals_by is next held)
are_renewals is next [] = tt
are_renewals is next (held ∷ more) =
    renewed_by next held.number (is held) (renewals_by is (next + 1) more) (renewals_by is next more) (are_renewals is (next + 1) more) (are_renewals is next more)

of_result : (i : Input) (st : State) (request : Request) (result : CallResult) → AreRenewals (renewals_of i st request result)
of_result i st request (Value n) = are_renewals (is_other_of request.pid request.tid) (suc st.posted) (held_from st 1 (thread_count i))
of_result i st request (Failed errno) = tt

-- what one renewal leaves unchanged, a list of renewals leaves unchanged
pub fold_same : {A : Type 0} (f : A → Change → A) → ((a : A) (old new : ℕ) → f a (Renewed old new) ≡ a) → (a : A) (changes : List Change) → AreRenewals changes → fold f a changes ≡ a
fold_same f same a [] x = refl
fold_same f same a (Renewed old new ∷ changes) x = ap (λ b. fold f b changes) (same a old new) ∙ fold_same f same a changes x
fold_same f same a (change ∷ changes) x = absurd x

module _ (i : Input) (st : State) (request : Request) where
  following : {A : Type 0} (f : A → Change → A) → ((a : A) (old new : ℕ) → f a (Renewed old new) ≡ a) → (a : A) (b : Bool) (result : CallResult) (changes : List Change)
      → fold f a (cond b (changes ++ renewals_of i st request result) changes) ≡ fold f a changes
  following f same a true result changes = fold-append f a changes (renewals_of i st request result) ∙ fold_same f same (fold f a changes) (renewals_of i st request result) (of_result i st request result)
  following f same a false result changes = refl

  -- changes followed by renewals have the same result as the changes alone
  pub fold_with : {A : Type 0} (f : A → Change → A) → ((a : A) (old new : ℕ) → f a (Renewed old new) ≡ a) → (call : SysCall) (a : A) (result : CallResult) (changes : List Change)
      → fold f a (with_renewals i st call request result changes) ≡ fold f a changes
  fold_with f same call a result changes = following f same a (sets_ids call) result changes

  -- ---- the effect of a call over the system with its held calls

  -- the effect of a call that sets ids
  set_by : (call : SysCall) → sets_ids call ≡ true → (o : Option Errno) (ids : Ids)
      → effect (system_of i st) call request ≡ unless_error (system_of i st) o (success (system_of i st) 0 (SetIds ids ∷ renewals request.pid request.tid (suc st.posted) (held_from st 1 (thread_count i))))
      → effect (unheld_system i st) call request ≡ unless_error (unheld_system i st) o (success (unheld_system i st) 0 (SetIds ids ∷ [])) → AppendsRenewals i st call request
  set_by call sets None ids is bare = record {
    result = ap (λ o. o.result) is ∙ sym (ap (λ o. o.result) bare);
    changes = ap (λ o. o.changes) is ∙ sym ((λ k. cond (sets k) ((bare k).changes ++ renewals_of i st request (bare k).result) (bare k).changes));
    descriptors = ap (λ o. o.descriptors) is ∙ sym (ap (λ o. o.descriptors) bare);
  }
  set_by call sets (Some errno) ids is bare = record {
    result = ap (λ o. o.result) is ∙ sym (ap (λ o. o.result) bare);
    changes = ap (λ o. o.changes) is ∙ sym ((λ k. cond (sets k) ((bare k).changes ++ renewals_of i st request (bare k).result) (bare k).changes));
    descriptors = ap (λ o. o.descriptors) is ∙ sym (ap (λ o. o.descriptors) bare);
  }

  set : (call : SysCall) → sets_ids call ≡ true
      → effect (system_of i st) call request ≡ unless_error (system_of i st) (first_error (set_refused call request.ids (register request 0) ∷ [])) (success (system_of i st) 0 (SetIds (ids_after_set call request.ids (register request 0)) ∷ renewals request.pid request.tid (suc st.posted) (held_from st 1 (thread_count i))))
      → effect (unheld_system i st) call request ≡ unless_error (unheld_system i st) (first_error (set_refused call request.ids (register request 0) ∷ [])) (success (unheld_system i st) 0 (SetIds (ids_after_set call request.ids (register request 0)) ∷ []))
      → AppendsRenewals i st call request
  set call sets is bare = set_by call sets (first_error (set_refused call request.ids (register request 0) ∷ [])) (ids_after_set call request.ids (register request 0)) is bare

  -- the effect of any other call
  other : (call : SysCall) → sets_ids call ≡ false → effect (system_of i st) call request ≡ effect (unheld_system i st) call request → AppendsRenewals i st call request
  other call sets same = record {
    result = ap (λ o. o.result) same;
    changes = ap (λ o. o.changes) same ∙ sym (ap (λ b. cond b ((effect (unheld_system i st) call request).changes ++ renewals_of i st request (effect (unheld_system i st) call request).result) (effect (unheld_system i st) call request).changes) sets);
    descriptors = ap (λ o. o.descriptors) same;
  }

  pub renews_after : (call : SysCall) → AppendsRenewals i st call request
  renews_after SetUid = set SetUid refl refl refl
  renews_after SetEuid = set SetEuid refl refl refl
  renews_after SetGid = set SetGid refl refl refl
  renews_after SetEgid = set SetEgid refl refl refl
  renews_after call = other call refl (alike (system_of i st) st.memory [] request (λ b. refl) call tt)
