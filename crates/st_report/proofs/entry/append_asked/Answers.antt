use Rattle.std.proofs.Common.{◌≡◌, ◌++◌, ap, ◌∙◌, codes}
use Rattle.std.proofs.lemmas.List.{append_assoc}
use Rattle.std.proofs.lemmas.Result.{on_ok_weaker}
use Rattle.st_calls.specs.Call.{name_of_rule}
use Rattle.st_calls.specs.Emulation.{emulation_prefix}
use Rattle.st_report.specs.TraceText.{args_fields, call_fields}
use Rattle.st_report.proofs.Joined.{four_joined}
use Rattle.st_report.proofs.entry.append_asked.Goals as goal

pub returns : goal.returns
returns c =
    let prefix : c.append-2.new.self ≡ c.args.text.now ++ (codes " rule " ++ emulation_prefix) =
    c.in_ok-append-2.ensures.ok ∙ ap (λ word. c.append.new.self ++ word) c.emulation_prefix.ensures
    ∙ ap (λ text. text ++ emulation_prefix) c.in_ok-append.ensures.ok ∙ append_assoc c.args.text.now (codes " rule ") emulation_prefix in
    on_ok_weaker c.append_args.result (λ last.
    four_joined c.args.text.now (codes " rule " ++ emulation_prefix) (name_of_rule c.args.copies.now.rule) (call_fields c.args.copies.now.call c.args.copies.now.regs) (args_fields c.args.copies.now.parts)
    c.append-2.new.self c.append-3.new.self c.append_call.new.text
    prefix (c.in_ok-append-3.ensures.ok ∙ ap (λ word. c.append-2.new.self ++ word) c.word.ensures) c.in_ok-append_call.ensures
    c.append_args.new.text (last ∙ ap (λ parts. c.append_call.new.text ++ args_fields parts) c.as_slice.ensures)) c.append_args.ensures
