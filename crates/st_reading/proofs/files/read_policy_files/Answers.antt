use Rattle.std.proofs.Common.{ap, ◌∙◌, ◌+◌}
use Rattle.st_reading.specs.Files.{PoliciesEnd}
use Rattle.st_reading.proofs.Fetched.{handed_on, one_more_read, refused_at}
use Rattle.st_reading.proofs.Leads.{words_at}
use Rattle.st_reading.proofs.files.read_policy_files.Goals as goal

pub returns-in_err-read_policy_file-clause-ends : goal.returns-in_err-read_policy_file-clause-ends
returns-in_err-read_policy_file-clause-ends g c =
    handed_on (PoliciesEnd (g.F.Files.contents c.args.files.now) c.args.env.now (words_at c.args.names.now) (g.F.Files.faults c.args.files.now) (g.F.Files.faults c.read_policy_file.new.files) (g.F.Files.asked c.args.files.now) (g.F.Files.asked c.read_policy_file.new.files))
    c.in_err-read_policy_file.field-0.0 c.from_residual.result c.from_residual.ensures.0 c.from_residual.ensures.1
    (refused_at (g.F.Files.contents c.args.files.now) c.args.env.now c.args.names.now c.loop-name.name-index c.name-item.result c.loop-name-test.true c.name-item.is
    (g.F.Files.contents c.loop-name.files) c.loop-name.policies c.loop-name.number (g.F.Files.faults c.args.files.now) (g.F.Files.faults c.loop-name.files) (g.F.Files.faults c.read_policy_file.new.files)
    (g.F.Files.asked c.args.files.now) (g.F.Files.asked c.loop-name.files) (g.F.Files.asked c.read_policy_file.new.files) c.in_err-read_policy_file.field-0.0
    c.loop-name.invariant.read c.loop-name.invariant.contents c.loop-name.invariant.quiet c.loop-name.invariant.number c.loop-name.invariant.asked
    c.in_err-read_policy_file.ensures.asked c.in_err-read_policy_file.ensures.ends)

pub loop-name-preserved : goal.loop-name-preserved
loop-name-preserved g c =
    let more = one_more_read (g.F.Files.contents c.args.files.now) c.args.env.now c.args.names.now c.loop-name.name-index c.name-item.result c.loop-name-test.true c.name-item.is
    (g.F.Files.contents c.loop-name.files) c.loop-name.policies c.read_policy_file.new.policies
    (g.F.Files.asked c.args.files.now) (g.F.Files.asked c.loop-name.files) (g.F.Files.asked c.read_policy_file.new.files)
    c.loop-name.invariant.read c.loop-name.invariant.contents c.loop-name.invariant.asked c.in_ok-read_policy_file.ensures.asked c.in_ok-read_policy_file.ensures.ends in
    record {
      number = ap (λ n. n + 1) c.loop-name.invariant.number;
      contents = c.in_ok-read_policy_file.ensures.contents ∙ c.loop-name.invariant.contents;
      quiet = c.in_ok-read_policy_file.ensures.quiet (λ e. cc) ∙ c.loop-name.invariant.quiet;
      asked = more.1;
      read = more.0;
    }
