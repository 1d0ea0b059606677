use Rattle.std.proofs.Common.{◌≡◌, ◌∙◌, ◌++◌, ap, false, rules}
use Rattle.std.proofs.lemmas.Result.{on_ok_weaker}
use Rattle.st_audit.specs.Recording.{IsAuditOf}
use Rattle.st_audit.specs.Ledger.{kept_line}
use Rattle.st_audit.specs.FromHistory.{concerns_call}
use Rattle.st_audit.proofs.Following.{audit_more, kept_more, kept_still, printed_still}
use Rattle.st_audit.proofs.audit.AuditRecorderRecorder.note.Goals as goal

pub returns-then-not-concerns_call : goal.returns-then-not-concerns_call
returns-then-not-concerns_call g c = λ trace same is.
    let i = c.args.input.now in
    let policies = c.args.compiled.now in
    let session = c.args.session.now.filters in
    let e = c.args.entry.now in
    let ledger = c.args.self.now.ledger in
    let none : concerns_call e ≡ false = search rules in
    record {
      text = audit_more i trace e _ policies session ledger c.args.self.now.text c.args.self.now.text c.requires same is.text is.kept (printed_still i _ policies session ledger e c.args.self.now.text none);
      kept = kept_more i trace e ledger ledger is.kept (λ h. kept_still i ledger h e none);
    }

pub returns : goal.returns
returns g c =
    let i = c.args.input.now in
    let session = c.args.session.now.filters in
    on_ok_weaker c.note.result (λ noted trace same (is : IsAuditOf c.args.self.now i trace _). record {
      text = audit_more i trace c.args.entry.now _ c.args.compiled.now session c.args.self.now.ledger c.args.self.now.text c.append_line.new.text c.requires same is.text is.kept
          (c.in_ok-append_line.ensures ∙ ap (λ emulation. c.args.self.now.text ++ kept_line i c.args.compiled.now session c.args.self.now.ledger c.args.entry.now emulation) c.emulation_by.ensures);
      kept = kept_more i trace c.args.entry.now c.args.self.now.ledger c.note.new.self is.kept noted;
    }) c.note.ensures
