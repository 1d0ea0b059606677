-- The effect of a call that sets ids.
use Rattle.std.proofs.Common.{◌≡◌, ◌∙◌, Bool, true, false, cond, List, [], ◌∷◌, ◌++◌, Option, Some, None, refl, ap, sym, true≢false}
use Rattle.std.specs.Prelude.{IsSome, slice_index_or}
use Rattle.st_base.specs.Errno.{first_error}
use Rattle.st_base.specs.declared.errno.Errno.{Errno}
use Rattle.st_calls.specs.Call.{sets_ids}
use Rattle.st_calls.specs.declared.call.SysCall.{SysCall}
use Rattle.st_calls.specs.declared.call.SysCall.TheVariants.{SetUid, SetEuid, SetGid, SetEgid}
use Rattle.st_effects.specs.Effect.{effect}
use Rattle.st_effects.specs.Processes.{renewals, set_ids_outcome}
use Rattle.st_effects.specs.System as effects
use Rattle.st_effects.specs.System.{success, unless_error}
use Rattle.st_model.specs.Identity.{ids_after_set, set_refused}
use Rattle.st_trace.specs.declared.entry.Change.{Change}
use Rattle.st_trace.specs.declared.entry.Change.TheVariants.{SetIds}

effect_sets : (call : SysCall) → sets_ids call ≡ true → (system : effects.System) (request : effects.Request) → effect system call request ≡ set_ids_outcome call system request
effect_sets SetUid sets system request = refl
effect_sets SetEuid sets system request = refl
effect_sets SetGid sets system request = refl
effect_sets SetEgid sets system request = refl
effect_sets _ sets system request = absurd (true≢false (sym sets))

module _ (call : SysCall) (sets : sets_ids call ≡ true) (system : effects.System) (request : effects.Request) where
  abbrev reason : Option Errno
  reason = set_refused call request.ids (slice_index_or request.regs 0 0)

  abbrev done : effects.Outcome
  done = success system 0 (SetIds (ids_after_set call request.ids (slice_index_or request.regs 0 0)) ∷ renewals request.pid request.tid system.next_number system.held)

  -- a call that is refused changes nothing
  pub changes_none : IsSome reason → (effect system call request).changes ≡ []
  changes_none refused = ap (λ (o : effects.Outcome). o.changes) (effect_sets call sets system request) ∙ by reason refused where
    by : (o : Option Errno) → IsSome o → (unless_error system (first_error (o ∷ [])) done).changes ≡ []
    by None x = cc
    by (Some errno) x = refl

  -- a call that succeeds sets the ids, and renews the other held calls of the process
  pub changes_set : reason ≡ None → (effect system call request).changes ≡ SetIds (ids_after_set call request.ids (slice_index_or request.regs 0 0)) ∷ renewals request.pid request.tid system.next_number system.held
  changes_set well = ap (λ (o : effects.Outcome). o.changes) (effect_sets call sets system request) ∙ ap (λ (o : Option Errno). (unless_error system (first_error (o ∷ [])) done).changes) well

-- if some changes, with or without more after them, are none, then they are none themselves
pub none_before : (b : Bool) (changes more : List Change) → cond b (changes ++ more) changes ≡ [] → changes ≡ []
none_before true [] more e = refl
none_before true (c ∷ changes) more e = cc
none_before false changes more e = e
