use Rattle.std.proofs.lemmas.Result.{on_ok_weaker}
use Rattle.st_audit.proofs.Printing.{one_row}
use Rattle.st_audit.proofs.learnt.append_row.Goals as goal

pub returns : goal.returns
returns c =
    on_ok_weaker c.push.result (one_row c.args.emulation c.args.filter.now c.args.out.now c.print_filter.new.out c.push.new.self c.in_ok-print_filter.ensures.ok) c.push.ensures.ok
