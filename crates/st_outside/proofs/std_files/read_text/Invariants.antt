use Rattle.std.proofs.Common.{◌-◌, ◌+◌, ◌≡◌, ◌≤◌, length}
use Rattle.std.specs.Io.KnownBytes.{Consumes}
use Rattle.st_outside.specs.declared.files.TheConstants.{FILE_LIMIT}
use Rattle.st_outside.proofs.std_files.read_text.Given as goal

-- the bytes read so far are the text
abbrev pub invariant-loop-buffer : goal.invariant-loop-buffer
invariant-loop-buffer g l = record {
  most : l.most ≡ FILE_LIMIT + 1;
  within : length l.text ≤ l.most;
  buffer : length l.buffer ≡ 4096;
  read : Consumes (g.F.Read.remaining l.initial.file) (g.F.Read.remaining l.file) l.text;
}

abbrev pub decreases-loop-buffer : goal.decreases-loop-buffer
decreases-loop-buffer g l = l.most - length l.text
