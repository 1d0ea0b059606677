use Rattle.std.proofs.Common.{◌≡◌, ◌∙◌, Bool, true, false, Result, Ok, Err, refl, sym, inr, true≢false}
use Rattle.std.specs.Result.{is_ok, IfErr, OnErr, OnOk}
use Rattle.std.specs.declared.alloc.AllocError.{AllocError}
use Rattle.st_trace.specs.declared.entry.Choice.TheVariants.{Worker}
use Rattle.st_kernel.specs.declared.runners.AnswerFault.{AnswerFault}
use Rattle.st_noted.proofs.Recording.{entry_added}
use Rattle.st_noted.proofs.Working.{not_taken}
use Rattle.st_noted.proofs.steps.answer.Goals as goal

-- what holds of an answer that was taken
taken : (answered : Result (Unit {0}) AnswerFault) (P : Type 0) → is_ok answered ≡ true → OnOk answered P → P
taken (Ok x) P is p = p
taken (Err fault) P is p = absurd (true≢false (sym is))

-- an answer that was taken has added an entry
pub note_last-requires : goal.note_last-requires
note_last-requires g c =
    let is : is_ok c.answer.result ≡ true = sym c.ok.ensures.variant ∙ c.if-is_none.ensures in
    entry_added c.args.kernel.now (Worker c.args.worker) c.answer.new.added (taken c.answer.result _ is c.answer.ensures.entry) (taken c.answer.result _ is c.answer.ensures.enabled)

pub returns-clause-noted : goal.returns-clause-noted
returns-clause-noted g c =
    let is : is_ok c.answer.result ≡ true = sym c.ok.ensures.variant ∙ c.if-is_none.ensures in
    c.in_ok-note_last.ensures c.args.kernel.now (Worker c.args.worker) (taken c.answer.result _ is c.answer.ensures.ok) (sym (taken c.answer.result _ is c.answer.ensures.entry))

pub returns-clause-taken : goal.returns-clause-taken
returns-clause-taken g c =
    let is : is_ok c.answer.result ≡ true = sym c.ok.ensures.variant ∙ c.if-is_none.ensures in
    (taken c.answer.result _ is c.answer.ensures.kept, (taken c.answer.result _ is c.answer.ensures.enabled, taken c.answer.result _ is c.answer.ensures.ok))

pub returns-clause-step : goal.returns-clause-step
returns-clause-step g c =
    let is : is_ok c.answer.result ≡ true = sym c.ok.ensures.variant ∙ c.if-is_none.ensures in
    inr (taken c.answer.result _ is c.answer.ensures.ok)

-- what holds of an answer that wasn't taken
refused : (answered : Result (Unit {0}) AnswerFault) (P : AnswerFault → Type 0) (Q : Type 0) → is_ok answered ≡ false → IfErr answered P → OnErr answered Q → ((fault : AnswerFault) × P fault) × Q
refused (Ok x) P Q is p q = absurd (true≢false is)
refused (Err fault) P Q is p q = ((fault, p), q)

pub returns-then-is_none-clause-taken : goal.returns-then-is_none-clause-taken
returns-then-is_none-clause-taken g c =
    let is : is_ok c.answer.result ≡ false = sym c.ok.ensures.variant ∙ c.if-is_none.ensures in
    let back = refused c.answer.result _ _ is c.answer.ensures.fault c.answer.ensures.err in
    (λ there. not_taken c.args.kernel.now c.args.worker c.args.judged back.0.0 back.0.1, back.1)

pub returns-then-not-has_worker-clause-taken : goal.returns-then-not-has_worker-clause-taken
returns-then-not-has_worker-clause-taken g c = (λ there. absurd (true≢false (sym (c.if-not-has_worker.ensures.1 there))), refl)

-- what holds whether or not memory runs out
unnoted : (r : Result Bool AllocError) (P : Type 0) → P → OnErr r P
unnoted (Ok told) P p = tt
unnoted (Err e) P p = p

pub returns-in_err-note_last-clause-unnoted : goal.returns-in_err-note_last-clause-unnoted
returns-in_err-note_last-clause-unnoted g c =
    let is : is_ok c.answer.result ≡ true = sym c.ok.ensures.variant ∙ c.if-is_none.ensures in
    unnoted c.from_residual.result _ (taken c.answer.result _ is c.answer.ensures.kept, (taken c.answer.result _ is c.answer.ensures.enabled, taken c.answer.result _ is c.answer.ensures.ok))

pub returns-in_err-note_last-clause-step : goal.returns-in_err-note_last-clause-step
returns-in_err-note_last-clause-step g c =
    let is : is_ok c.answer.result ≡ true = sym c.ok.ensures.variant ∙ c.if-is_none.ensures in
    inr (taken c.answer.result _ is c.answer.ensures.ok)
