use Rattle.std.proofs.Common.{◌≡◌, [], ◌++◌, take}
use Rattle.st_reading.specs.Files.{ArePolicies}
use Rattle.st_reading.proofs.Leads.{words_at}
use Rattle.st_reading.proofs.files.read_policy_files.Given as goal

-- the files so far were asked for and have these policies, and nothing else changed
abbrev pub invariant-loop-name : goal.invariant-loop-name
invariant-loop-name g l = record {
  number : l.number ≡ l.name-index;
  contents : g.F.Files.contents l.files ≡ g.F.Files.contents l.initial.files;
  quiet : g.F.Files.faults l.files ≡ g.F.Files.faults l.initial.files;
  asked : g.F.Files.asked l.files ≡ g.F.Files.asked l.initial.files ++ words_at (take l.name-index l.names);
  read : ArePolicies (g.F.Files.contents l.initial.files) l.env (words_at (take l.name-index l.names)) [] l.policies;
}
