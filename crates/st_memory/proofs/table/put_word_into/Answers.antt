use Rattle.std.proofs.Common.{◌∙◌, ap, sym, Option}
use Rattle.st_memory.specs.Memory.{byte_of, bytes_after_store}
use Rattle.st_memory.specs.Pages.{words_of_entry}
use Rattle.st_memory.specs.declared.table.CountedPage.{CountedPage}
use Rattle.st_memory.proofs.Counts.{entry-written}
use Rattle.st_memory.proofs.table.put_word_into.Goals as goal

pub returns-clause-bytes : goal.returns-clause-bytes
returns-clause-bytes c = λ b.
    ap (λ (o : Option CountedPage). byte_of (words_of_entry o) b) (entry-written c.args.pages.now c.args.number c.index_mut-counted.result.now (record { page = c.put_word.new.self; count = c.index_mut-counted.result.now.count }) c.index_mut-counted.ensures.value)
    ∙ c.put_word.ensures b
    ∙ ap (λ (o : Option CountedPage). bytes_after_store (byte_of (words_of_entry o)) c.args.place c.args.word b) (sym c.index_mut-counted.ensures.value)
