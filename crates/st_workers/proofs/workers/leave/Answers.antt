use Rattle.std.proofs.Common.{◌≡◌, ◌-◌, ◌==◌, ◌∙◌, ℕ, Bool, cond, set, List, Option, Some, inl, inr, ap, refl, sym, false}
use Rattle.std.proofs.lemmas.Bool.{cases_eq, eq-eqb, ne_eqb}
use Rattle.st_base.specs.Numbered.{item_at_number}
use Rattle.st_messages.specs.declared.message.MsgState.{MsgState}
use Rattle.st_messages.specs.declared.message.MsgState.TheVariants.{Claimed, Answered, Faulted, Waiting}
use Rattle.st_workers.specs.Leaving.{is_claimed_by, left, HasLeft, is_ready_turn, is_claimer_ready}
use Rattle.st_workers.specs.declared.turn.Turn.{Turn}
use Rattle.st_workers.specs.declared.turn.Turn.TheVariants.{Idle, Working}
use Rattle.st_workers.proofs.Turns.{item_here, item_put, number_within}
use Rattle.st_workers.proofs.workers.leave.Goals as goal

-- the worker at a message has left it after its turn is replaced
module _ (turns : List Turn) (worker : ℕ) (turn put : Turn) (here : item_at_number turns worker ≡ Some turn) (leaves : left (Some turn) ≡ Some put) where
  at : (other : ℕ) → cond (other == worker) (Some put) (item_at_number turns other) ≡ cond (worker == other) (left (item_at_number turns other)) (item_at_number turns other)
  at other = elim (cases_eq other worker) [
    | inl e ↦ ap (λ (b : Bool). cond b (Some put) (item_at_number turns other)) (eq-eqb other worker e) ∙ sym leaves ∙ ap left (sym here ∙ ap (item_at_number turns) (sym e))
        ∙ ap (λ (b : Bool). cond b (left (item_at_number turns other)) (item_at_number turns other)) (sym (eq-eqb worker other (sym e)))
    | inr ne ↦ ap (λ (b : Bool). cond b (Some put) (item_at_number turns other)) (ne_eqb other worker ne)
        ∙ ap (λ (b : Bool). cond b (left (item_at_number turns other)) (item_at_number turns other)) (sym (ne_eqb worker other (λ x. ne (sym x))))
  ]

  has_left : (state : Option MsgState) (new : List Turn) → state ≡ Some (Claimed worker) → new ≡ set turns (worker - 1) put → HasLeft turns state new
  has_left state new claimed is other =
      let within = number_within turns worker turn here in
      ap (λ (ts : List Turn). item_at_number ts other) is ∙ item_put turns worker put within.0 within.1 other ∙ at other
      ∙ ap (λ (o : Option MsgState). cond (is_claimed_by o other) (left (item_at_number turns other)) (item_at_number turns other)) (sym claimed)

  is_ready : (state : Option MsgState) → state ≡ Some (Claimed worker) → is_ready_turn (Some turn) ≡ is_claimer_ready turns state
  is_ready state claimed = sym (ap (is_claimer_ready turns) claimed ∙ ap is_ready_turn here)

-- a message that isn't claimed has no worker
none_ready : (turns : List Turn) (state : MsgState) → ((worker : ℕ) → state ≡ Claimed worker → ⊥) → false ≡ is_claimer_ready turns (Some state)
none_ready turns Waiting other = refl
none_ready turns (Claimed worker) other = absurd (other worker refl)
none_ready turns (Answered verdict) other = refl
none_ready turns (Faulted errno) other = refl

pub returns-in-Working-clause-left : goal.returns-in-Working-clause-left
returns-in-Working-clause-left c =
    let claimed = c.in-Some.is ∙ ap Some c.in-Claimed.is in
    let within = c.requires c.in-Claimed.worker claimed in
    has_left c.args.turns.now c.in-Claimed.worker (Working c.in-Working.field-0) Idle (item_here c.args.turns.now c.in-Claimed.worker c.index-turns-worker.result within.0 within.1 ∙ ap Some c.in-Working.is) refl
    c.args.state _ claimed (ap (set c.args.turns.now (c.in-Claimed.worker - 1)) c.put_turn.ensures)

pub returns-in-Working-clause-ready : goal.returns-in-Working-clause-ready
returns-in-Working-clause-ready c =
    let claimed = c.in-Some.is ∙ ap Some c.in-Claimed.is in
    let within = c.requires c.in-Claimed.worker claimed in
    is_ready c.args.turns.now c.in-Claimed.worker (Working c.in-Working.field-0) Idle (item_here c.args.turns.now c.in-Claimed.worker c.index-turns-worker.result within.0 within.1 ∙ ap Some c.in-Working.is) refl c.args.state claimed
