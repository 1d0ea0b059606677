-- Whether a message is closed isn't kept.
use Rattle.std.proofs.Common.{ℕ, Bool, true, false, Option, Some, None, sym, subst}
use Rattle.st_base.specs.declared.errno.Errno.{Errno}
use Rattle.st_messages.specs.declared.message.MsgState.{MsgState}
use Rattle.st_messages.specs.declared.message.MsgState.TheVariants.{Waiting, Claimed, Answered, Faulted}
use Rattle.st_law.specs.declared.input.Input.{Input}
use Rattle.st_law.specs.State.{Message}
use Rattle.st_workers.specs.Refinement.{AgreesWithMachine, RepresentsMachineMessages, HasMessageFlags, IsLive, IsState, IsTurn, IsUntouched}
use Rattle.st_workers.specs.Laws.{ClosingIsNotKept}
use Rattle.st_workers.specs.UnderWay.{found_in, Found, UnderWay}
use Rattle.st_workers.specs.declared.turn.Turn.{Turn}
use Rattle.st_workers.specs.declared.turn.Turn.TheVariants.{Idle, Ready, Working}

-- a message that is closed or not
abbrev with_closed : Bool → Message → Message
with_closed closed message = record message { closed = closed }

come_closed : (c : Bool) (m : Message) (claimed : Bool) (met : Option Errno) (answered : Bool) → HasMessageFlags m claimed met answered → HasMessageFlags (with_closed c m) claimed met answered
come_closed c m claimed met answered is = record { claimed = is.claimed; fault = is.fault; answered = is.answered }

state_closed : (c : Bool) (turns : ℕ → Option ℕ) (q : ℕ) (m : Message) (state : MsgState) → IsState turns q m state → IsState turns q (with_closed c m) state
state_closed c turns q m Waiting is = record { claimed = is.claimed; fault = is.fault; answered = is.answered }
state_closed c turns q m (Claimed w) is = (record { claimed = is.0.claimed; fault = is.0.fault; answered = is.0.answered }, is.1)
state_closed c turns q m (Answered v) is = (record { claimed = is.0.claimed; fault = is.0.fault; answered = is.0.answered }, is.1)
state_closed c turns q m (Faulted errno) is = record { claimed = is.claimed; fault = is.fault; answered = is.answered }

module _ (closed : ℕ → Bool) (messages : ℕ → Message) (turns : ℕ → Option ℕ) (alive : ℕ → Bool) (posted : ℕ) where
  turn_closed : (o : Option ℕ) (t : Turn) → IsTurn messages alive o t → IsTurn (λ q. with_closed (closed q) (messages q)) alive o t
  turn_closed None Idle is = is
  turn_closed (Some q) Idle is = is
  turn_closed o (Working q) is = is
  turn_closed o (Ready q s) is = is

  agrees_closed : (found : Found) → AgreesWithMachine messages turns alive posted found → AgreesWithMachine (λ q. with_closed (closed q) (messages q)) turns alive posted found
  agrees_closed found agrees = record {
    next = agrees.next;
    live = λ q is.
        let was : IsLive turns q (messages q) found = agrees.live q is in
        record {
          state = was.state;
          tid = was.tid;
          slot = was.slot;
          state_is = was.state_is;
          thread_is = was.thread_is;
          slot_is = was.slot_is;
          is_state = state_closed (closed q) turns q (messages q) was.state was.is_state;
          is_slot = record { head = was.is_slot.head; count = was.is_slot.count; words = was.is_slot.words; lookups = was.is_slot.lookups };
          is_sealed = was.is_sealed;
        };
    dead = agrees.dead;
    given = agrees.given;
    later = λ q lt. let was : IsUntouched (messages q) = agrees.later q lt in record { come = come_closed (closed q) (messages q) false None false was.come; words = was.words; lookups = was.lookups };
    turned = λ w q is. come_closed (closed q) (messages q) true None false (agrees.turned w q is);
    apart = agrees.apart;
    workers = λ w t is. turn_closed (turns w) t (agrees.workers w t is);
  }

  kept_closed : (i : Input) (kept : UnderWay) → RepresentsMachineMessages i messages turns alive posted kept → RepresentsMachineMessages i (λ q. with_closed (closed q) (messages q)) turns alive posted kept
  kept_closed i kept are = record { workers = are.workers; numbered = are.numbered; agrees = agrees_closed (found_in kept) are.agrees; verdicts = are.verdicts }

pub closing_is_not_kept : ClosingIsNotKept
closing_is_not_kept i messages after turns alive posted kept are same =
    subst (λ (all : ℕ → Message). RepresentsMachineMessages i all turns alive posted kept) (sym (λ k q. same q k)) (kept_closed (λ q. (after q).closed) messages turns alive posted i kept are)
