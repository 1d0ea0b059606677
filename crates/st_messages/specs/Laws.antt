-- Runs of calls on messages, and the laws of every run.
use Rattle.std.specs.Prelude.{◌≡◌, ℕ, ◌<◌, ◌≤◌, Bool, true, false, None}
use Rattle.st_messages.specs.declared.message.MsgState.{MsgState}
use Rattle.st_messages.specs.declared.message.MsgState.TheVariants.{Claimed}
use Rattle.st_messages.specs.Messages.{HeldCalls, is_claimed, message_state, with_state, calls_after_post, calls_after_cancel, calls_after_renew, calls_after_let_go, count_in_use, is_in_use, is_kept, most_in_use, next_seq, AreValidCalls, IsInCircle, IsLeastWaiting}

-- a run of calls leads from the first held calls to the second
pub data LeadsTo : HeldCalls → HeldCalls → Type 0 where
  Stays : {calls : HeldCalls} → LeadsTo calls calls
  Posts : {old calls : HeldCalls} (tid : ℕ) → LeadsTo old calls → LeadsTo old (calls_after_post calls tid)
  Moves : {old calls : HeldCalls} (drawing : ℕ) (state : MsgState) → LeadsTo old calls → LeadsTo old (with_state calls drawing state)
  Renews : {old calls : HeldCalls} (drawing : ℕ) (keeps : Bool) → LeadsTo old calls → LeadsTo old (calls_after_renew calls drawing keeps)
  Cancels : {old calls : HeldCalls} (drawing : ℕ) (keeps : Bool) → LeadsTo old calls → LeadsTo old (calls_after_cancel calls drawing keeps)
  LetsGo : {old calls : HeldCalls} (drawing : ℕ) → LeadsTo old calls → LeadsTo old (calls_after_let_go calls drawing)

-- a drawing that was given and isn't live is never live again
abbrev pub DeadDrawingsStay : Type 0
DeadDrawingsStay = (old new : HeldCalls) (drawing : ℕ) → drawing < old.next → message_state old drawing ≡ None → LeadsTo old new → message_state new drawing ≡ None

-- an answer to a drawing that was renewed is stale
abbrev pub RenewedAreStale : Type 0
RenewedAreStale = (calls : HeldCalls) (drawing : ℕ) (keeps : Bool) → drawing < calls.next → is_claimed (calls_after_renew calls drawing keeps) drawing ≡ false

-- the next claim takes a greater drawing
abbrev pub ClaimsGoUp : Type 0
ClaimsGoUp = (calls : HeldCalls) (first second worker : ℕ) → IsLeastWaiting calls first → IsLeastWaiting (with_state calls first (Claimed worker)) second → first < second

-- the number that is drawn next isn't in use
abbrev pub DrawnAreFree : Type 0
DrawnAreFree = (calls : HeldCalls) → AreValidCalls calls → count_in_use calls ≤ most_in_use → IsInCircle calls (next_seq calls) × (is_in_use calls (next_seq calls) ≡ false)

-- an answer to an ended message whose number is kept is stale
abbrev pub KeptAreStale : Type 0
KeptAreStale = (calls : HeldCalls) (drawing : ℕ) → AreValidCalls calls → is_kept calls drawing ≡ true → is_claimed calls drawing ≡ false
