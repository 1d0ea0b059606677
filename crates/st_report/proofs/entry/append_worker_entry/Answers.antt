use Rattle.std.proofs.Common.{◌++◌, [], ◌∷◌, sym, ap, ◌∙◌, codes}
use Rattle.std.proofs.lemmas.Result.{on_ok_weaker}
use Rattle.st_calls.specs.declared.judged.Snapshot.{Snapshot}
use Rattle.st_trace.specs.declared.entry.Entry.TheVariants.{Answered}
use Rattle.st_report.specs.Fields.{number_fields}
use Rattle.st_report.specs.TraceText.{applied_field, asked_fields, entry_text, judged_fields, verdict_fields}
use Rattle.st_report.proofs.Joined.{six_joined}
use Rattle.st_report.proofs.entry.append_worker_entry.Goals as goal

pub returns-in_ok-append_judged-in-Answered : goal.returns-in_ok-append_judged-in-Answered
returns-in_ok-append_judged-in-Answered c =
    let x = c.in-Answered in
    let copies : Snapshot = c.get-copies.result.now in
    on_ok_weaker c.append_answer.result (λ last.
    six_joined c.args.text.now (codes "answered") (number_fields (x.worker ∷ copies.seq ∷ [])) (judged_fields copies) (asked_fields copies) (verdict_fields x.verdict) (applied_field x.applied)
    c.append_numbered-in-Answered.new.text c.append_judged.new.text (c.in_ok-append_numbered-in-Answered.ensures ∙ (λ k. c.args.text.now ++ codes "answered" ++ number_fields (c.from-in-Answered.ensures k ∷ c.from-in-Answered-2.ensures k ∷ []))) c.in_ok-append_judged-in-Answered.ensures
    c.append_answer.new.text last
    ∙ ap (λ (printed : Snapshot). c.args.text.now ++ entry_text (Answered x.worker printed x.verdict x.applied)) c.get-copies.ensures
    ∙ ap (λ e. c.args.text.now ++ entry_text e) (sym x.is)) c.append_answer.ensures
