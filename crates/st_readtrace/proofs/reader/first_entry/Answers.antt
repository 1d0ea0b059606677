use Rattle.std.proofs.Common.{ℕ, take, subst}
use Rattle.st_readtrace.specs.Entries.{entry_of_line}
use Rattle.st_fields.specs.Reads.{Gives}
use Rattle.st_written.proofs.Parted.{text_of_bytes}
use Rattle.st_readtrace.proofs.NextLine.{is_first}
use Rattle.st_readtrace.proofs.reader.first_entry.Goals as goal

pub returns : goal.returns
returns c =
    is_first c.args.text.now c.entry_of_line.result (text_of_bytes c.args.text.now (λ k. (c.type_inv.text k).fits)) c.requires.some
    (subst (λ (n : ℕ). Gives c.entry_of_line.result (entry_of_line (take n c.args.text.now))) c.requires.line c.entry_of_line.ensures)
