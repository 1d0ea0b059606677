use Rattle.st_printing.proofs.Canons.{one_more_printed}
use Rattle.st_printing.proofs.print.print_policies.Goals as goal

pub loop-i-preserved : goal.loop-i-preserved
loop-i-preserved c =
    one_more_printed c.args.emulation c.args.set.now c.loop-i.i c.binary.result.now c.policy.result.now c.loop-i.out c.append_header.new.out c.append_filters.new.out
    c.binary.ensures c.policy.ensures.is c.loop-i.invariant c.in_ok-append_header.ensures c.in_ok-append_filters.ensures
