-- The messages and workers that a run begins with.
use Rattle.std.proofs.Common.{◌≡◌, ℕ, zero, suc, Bool, false, List, [], All, length, Option, Some, None, refl, ap, sym, ◌∙◌, subst}
use Rattle.std.proofs.lemmas.Bool.{true≢false}
use Rattle.std.proofs.lemmas.Option.{get_or_from_slice_get, none-some, slice_get_within}
use Rattle.std.specs.Option.{option_map, option_or}
use Rattle.std.specs.Prelude.{is_some}
use Rattle.st_base.specs.Numbered.{item_at_number}
use Rattle.st_calls.specs.declared.judged.Snapshot.{Snapshot}
use Rattle.st_lookaside.specs.Slot.{Slot}
use Rattle.st_lookaside.specs.Slots.{slot_at}
use Rattle.st_messages.specs.declared.message.Message as message
use Rattle.st_messages.specs.declared.message.MsgState.TheVariants.{Answered}
use Rattle.st_messages.specs.declared.kept.KeptNumber.{KeptNumber}
use Rattle.st_messages.specs.Messages.{kept_in, message_in, message_state, seq_of, AreValidCalls}
use Rattle.st_law.specs.declared.input.Input.{Input}
use Rattle.st_law.specs.Machine.{first_state, no_message}
use Rattle.st_law.specs.Numbers.{no_numbers}
use Rattle.st_law.specs.State.{is_live}
use Rattle.st_workers.specs.Numbers.{AreNumbered, HasNumbers}
use Rattle.st_workers.specs.Refinement.{AgreesWithMachine, RepresentsMessages, IsTurn, AreValidWorkers}
use Rattle.st_workers.specs.UnderWay.{found_in, UnderWay}
use Rattle.st_workers.specs.declared.turn.Turn.{Turn}
use Rattle.st_workers.specs.declared.turn.Turn.TheVariants.{Idle, Ready}

idle_item : (turns : List Turn) → All (λ turn. turn ≡ Idle) turns → (w : ℕ) (t : Turn) → item_at_number turns w ≡ Some t → t ≡ Idle
idle_item turns all zero t is = absurd (none-some t is)
idle_item turns all (suc k) t is = sym (get_or_from_slice_get turns k t t is) ∙ all k t (slice_get_within turns k t is)

module _ (kept : UnderWay) (next : kept.calls.next ≡ 1) (live : kept.calls.live ≡ []) (slots : kept.slots ≡ []) (none_kept : kept.calls.kept ≡ []) (valid : AreValidCalls kept.calls) (idle : All (λ turn. turn ≡ Idle) kept.turns) (count : length kept.turns ≡ kept.calls.workers) where
  no_state : (q : ℕ) → message_state kept.calls q ≡ None
  no_state q = ap (λ (l : List message.Message). option_map (λ (m : message.Message). m.state) (message_in l q)) live

  begun_agrees : (alive : ℕ → Bool) → ((q : ℕ) → alive q ≡ false) → AgreesWithMachine (λ q. no_message) (λ w. None) alive 0 (found_in kept)
  begun_agrees alive none = record {
    next = next;
    live = λ q is. absurd (true≢false (sym is ∙ none q));
    dead = λ q is. record {
      state = no_state q;
      thread = ap (λ (l : List message.Message). option_map (λ (m : message.Message). m.tid) (message_in l q)) live;
      slot = ap (λ (l : List Slot). slot_at l q) slots;
    };
    given = λ q is. absurd (true≢false (sym is ∙ none q));
    later = λ q lt. record { come = record { claimed = refl; fault = refl; answered = refl }; words = λ j. refl; lookups = λ j. refl };
    turned = λ w q is. absurd (none-some q is);
    apart = λ a b q a_is b_is. absurd (none-some q a_is);
    workers = λ w t is. subst (IsTurn (λ q. no_message) alive None) (sym (idle_item kept.turns idle w t is)) refl;
  }

  pub begun_numbered : AreNumbered kept
  begun_numbered = record {
    count = count;
    calls = valid;
    seqs = record {
      slots = λ q slot there. absurd (none-some slot (sym (ap (λ (l : List Slot). slot_at l q) slots) ∙ there));
      copies = λ w q s is. absurd (not_idle q s (idle_item kept.turns idle w (Ready q s) is));
    };
    ready = λ q is. absurd (true≢false (sym is ∙ ap (λ (l : List KeptNumber). is_some (kept_in l q)) none_kept));
    ended = λ q ready dead. absurd (not_idle q ready.1 (idle_item kept.turns idle ready.0 (Ready q ready.1) ready.2));
  } where
    not_idle : (q : ℕ) (s : Snapshot) → Ready q s ≡ Idle → ⊥
    not_idle q s e = cc

  pub begun_numbers : kept.calls.greatest ≡ 65535 → kept.calls.last ≡ 0 → HasNumbers no_numbers kept.calls
  begun_numbers greatest last = record {
    greatest = greatest;
    next = next;
    last = last;
    seqs = λ q seq is. absurd (none-some seq (sym (no_seq q) ∙ is));
    in_use = λ q. ap (λ (o : Option ℕ). is_some o) (no_seq q);
    zero = refl;
  } where
    no_seq : (q : ℕ) → seq_of kept.calls q ≡ None
    no_seq q = λ k. option_or (option_map (λ (m : message.Message). m.seq) (message_in (live k) q)) (option_map (λ (n : KeptNumber). n.seq) (kept_in (none_kept k) q))

  pub begun_whole : AreValidWorkers kept
  begun_whole = record { count = count; messages = λ q. no_message; turns = λ w. None; alive = λ q. false; posted = 0; agrees = begun_agrees (λ q. false) (λ q. refl) }

  pub begun_kept : (i : Input) → kept.calls.workers ≡ i.options.workers → RepresentsMessages i (first_state i) (is_live (first_state i)) kept
  begun_kept i workers = record {
    workers = workers;
    numbered = begun_numbered;
    agrees = begun_agrees (is_live (first_state i)) (λ q. refl);
    verdicts = λ q v s is copies. absurd (none-some (Answered v) (sym (no_state q) ∙ is));
  }
