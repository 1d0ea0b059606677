use Rattle.std.proofs.Common.{◌∙◌, ap, sym, Option}
use Rattle.st_memory.specs.Memory.{byte_of, bytes_after_put}
use Rattle.st_memory.specs.Pages.{words_of_entry}
use Rattle.st_memory.specs.declared.table.CountedPage.{CountedPage}
use Rattle.st_memory.proofs.Counts.{entry-written}
use Rattle.st_memory.proofs.table.put_bytes_into.Goals as goal

pub returns-clause-bytes : goal.returns-clause-bytes
returns-clause-bytes c = λ b.
    ap (λ (o : Option CountedPage). byte_of (words_of_entry o) b) (entry-written c.args.pages.now c.args.number c.index_mut-counted.result.now (record { page = c.put_bytes.new.self; count = c.index_mut-counted.result.now.count }) c.index_mut-counted.ensures.value)
    ∙ c.put_bytes.ensures b
    ∙ ap (λ (o : Option CountedPage). bytes_after_put (byte_of (words_of_entry o)) c.args.at c.args.bytes.now b) (sym c.index_mut-counted.ensures.value)
