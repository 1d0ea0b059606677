use Rattle.std.proofs.lemmas.Result.{on_ok_weaker}
use Rattle.st_audit.proofs.Following.{used_line}
use Rattle.st_audit.proofs.audit.append_line.Goals as goal

pub returns-in-Used : goal.returns-in-Used
returns-in-Used c = let x = c.in-Used in
    on_ok_weaker c.append_traced.result
    (used_line c.args.by.now.emulation c.args.by.now.input.now c.args.filters.now.policies.now c.args.filters.now.session.now.filters c.args.by.now.ledger.now c.args.entry.now x.tid x.seq x.call x.regs x.args x.ids x.outcome x.changes c.args.text.now c.append_traced.new.text c.as_slice.result.now c.args_used.result.now c.used.result c.is_logged.result c.decided-decided.result
    x.is c.decided-decided.ensures c.as_slice.ensures c.args_used.ensures c.used.ensures c.is_logged.ensures)
    c.append_traced.ensures
