use Rattle.std.proofs.Common.{◌/◌, ℕ, List, get_or, Option, None, ap, ◌∙◌, arith}
use Rattle.std.specs.Prelude.{is_some, slice_get}
use Rattle.std.proofs.lemmas.Option.{slice_get-get_or}
use Rattle.st_base.specs.Numbered.{item_at_number_or}
use Rattle.st_memory.specs.Memory.{byte_in, bytes_after_store}
use Rattle.st_memory.specs.Pages.{numbers_of, words_of, Rows}
use Rattle.st_memory.proofs.Counts.{occurs-at}
use Rattle.st_memory.proofs.Rows.{found-in, is-there, row-size, row-there}
use Rattle.st_memory.proofs.Writes.{byte-before, changed-bytes, changed-numbers, changed-spaces, changed-table, store-away, store-here}
use Rattle.st_memory.proofs.spaces.Spaces.put_word_alone.Goals as goal

pub row_of-requires : goal.row_of-requires
row_of-requires c = ap (λ (r : Rows). is_some (item_at_number_or None r c.args.space)) c.deref.ensures.value ∙ is-there c.self.inside.rows.items (words_of c.self.inside.pages) c.args.space c.args.self.now c.self.view_is c.requires.live

pub put_word_into-requires-clause-there : goal.put_word_into-requires-clause-there
put_word_into-requires-clause-there c = let a = row-there c.self.inside.rows.items c.self.inside.pages c.row_of.result.now c.args.space c.self.invariant (found-in c.self.inside.rows.items c.deref.result.now c.args.space c.row_of.result.now c.deref.ensures.value c.row_of.ensures) (get_or c.row_of.result.now (c.args.place / 512) 0) in let b = occurs-at c.row_of.result.now (c.args.place / 512) (let s = row-size c.self.inside.rows.items c.self.inside.pages c.row_of.result.now c.args.space c.self.invariant (found-in c.self.inside.rows.items c.deref.result.now c.args.space c.row_of.result.now c.deref.ensures.value c.row_of.ensures) in let l = c.requires.inside in omega arith) in omega arith

pub invariant_of-self : goal.invariant_of-self
invariant_of-self c = changed-table c.self.inside.rows.items c.self.inside.pages c.put_word_into.new.pages c.args.space (c.args.place / 512) (get_or c.row_of.result.now (c.args.place / 512) 0) c.args.self.now c.self.invariant c.self.view_is (ap (λ (o : Option (List ℕ)). slice_get (numbers_of o) (c.args.place / 512)) (found-in c.self.inside.rows.items c.deref.result.now c.args.space c.row_of.result.now c.deref.ensures.value c.row_of.ensures) ∙ slice_get-get_or c.row_of.result.now (c.args.place / 512) 0 (let s = row-size c.self.inside.rows.items c.self.inside.pages c.row_of.result.now c.args.space c.self.invariant (found-in c.self.inside.rows.items c.deref.result.now c.args.space c.row_of.result.now c.deref.ensures.value c.row_of.ensures) in let l = c.requires.inside in omega arith)) c.put_word_into.ensures.changed

pub returns-clause-bytes : goal.returns-clause-bytes
returns-clause-bytes c = changed-bytes c.self.inside.rows.items c.self.inside.pages c.put_word_into.new.pages c.args.space (c.args.place / 512) (get_or c.row_of.result.now (c.args.place / 512) 0) c.args.self.now c.self.invariant c.self.view_is (ap (λ (o : Option (List ℕ)). slice_get (numbers_of o) (c.args.place / 512)) (found-in c.self.inside.rows.items c.deref.result.now c.args.space c.row_of.result.now c.deref.ensures.value c.row_of.ensures) ∙ slice_get-get_or c.row_of.result.now (c.args.place / 512) 0 (let s = row-size c.self.inside.rows.items c.self.inside.pages c.row_of.result.now c.args.space c.self.invariant (found-in c.self.inside.rows.items c.deref.result.now c.args.space c.row_of.result.now c.deref.ensures.value c.row_of.ensures) in let l = c.requires.inside in omega arith)) c.put_word_into.ensures.changed c.requires.alone (λ before. bytes_after_store before c.args.place c.args.word) (λ s b e at. store-here (byte_in c.args.self.now s) c.self.inside.pages c.put_word_into.new.pages (get_or c.row_of.result.now (c.args.place / 512) 0) c.args.place c.args.word b at (byte-before c.self.inside.rows.items c.self.inside.pages c.put_word_into.new.pages c.args.space (c.args.place / 512) (get_or c.row_of.result.now (c.args.place / 512) 0) c.args.self.now c.self.invariant c.self.view_is (ap (λ (o : Option (List ℕ)). slice_get (numbers_of o) (c.args.place / 512)) (found-in c.self.inside.rows.items c.deref.result.now c.args.space c.row_of.result.now c.deref.ensures.value c.row_of.ensures) ∙ slice_get-get_or c.row_of.result.now (c.args.place / 512) 0 (let s = row-size c.self.inside.rows.items c.self.inside.pages c.row_of.result.now c.args.space c.self.invariant (found-in c.self.inside.rows.items c.deref.result.now c.args.space c.row_of.result.now c.deref.ensures.value c.row_of.ensures) in let l = c.requires.inside in omega arith)) c.put_word_into.ensures.changed s b e at) c.put_word_into.ensures.bytes) (λ before b past. store-away before c.args.place c.args.word b past)

pub returns-clause-numbers : goal.returns-clause-numbers
returns-clause-numbers c = changed-numbers c.self.inside.rows.items c.self.inside.pages c.put_word_into.new.pages c.args.space (c.args.place / 512) (get_or c.row_of.result.now (c.args.place / 512) 0) c.args.self.now c.self.invariant c.self.view_is (ap (λ (o : Option (List ℕ)). slice_get (numbers_of o) (c.args.place / 512)) (found-in c.self.inside.rows.items c.deref.result.now c.args.space c.row_of.result.now c.deref.ensures.value c.row_of.ensures) ∙ slice_get-get_or c.row_of.result.now (c.args.place / 512) 0 (let s = row-size c.self.inside.rows.items c.self.inside.pages c.row_of.result.now c.args.space c.self.invariant (found-in c.self.inside.rows.items c.deref.result.now c.args.space c.row_of.result.now c.deref.ensures.value c.row_of.ensures) in let l = c.requires.inside in omega arith)) c.put_word_into.ensures.changed

pub returns-clause-spaces : goal.returns-clause-spaces
returns-clause-spaces c = changed-spaces c.self.inside.rows.items c.self.inside.pages c.put_word_into.new.pages c.args.space (c.args.place / 512) (get_or c.row_of.result.now (c.args.place / 512) 0) c.args.self.now c.self.invariant c.self.view_is (ap (λ (o : Option (List ℕ)). slice_get (numbers_of o) (c.args.place / 512)) (found-in c.self.inside.rows.items c.deref.result.now c.args.space c.row_of.result.now c.deref.ensures.value c.row_of.ensures) ∙ slice_get-get_or c.row_of.result.now (c.args.place / 512) 0 (let s = row-size c.self.inside.rows.items c.self.inside.pages c.row_of.result.now c.args.space c.self.invariant (found-in c.self.inside.rows.items c.deref.result.now c.args.space c.row_of.result.now c.deref.ensures.value c.row_of.ensures) in let l = c.requires.inside in omega arith)) c.put_word_into.ensures.changed
