use Rattle.std.proofs.Common.{None, ap, ◌∙◌, arith}
use Rattle.std.specs.Prelude.{is_some}
use Rattle.st_base.specs.Numbered.{item_at_number_or}
use Rattle.st_memory.specs.Pages.{words_of, Rows}
use Rattle.st_memory.proofs.Rows.{found-in, many-rows, is-there, few-counts, row-once, row-size, row-there}
use Rattle.st_memory.proofs.Steps.{on-err, copied-bytes, copied-view, pushed-live, pushed-next, pushed-table}
use Rattle.st_memory.proofs.spaces.Spaces.copy_space.Goals as goal

pub row_of-requires : goal.row_of-requires
row_of-requires c = ap (λ (r : Rows). is_some (item_at_number_or None r c.args.from)) c.deref.ensures.value ∙ is-there c.self.inside.rows.items (words_of c.self.inside.pages) c.args.from c.args.self.now c.self.view_is c.requires.live

pub share-requires-clause-there : goal.share-requires-clause-there
share-requires-clause-there c = λ n some. let a = row-there c.self.inside.rows.items c.self.inside.pages c.row_of.result.now c.args.from c.self.invariant (found-in c.self.inside.rows.items c.deref.result.now c.args.from c.row_of.result.now c.deref.ensures.value c.row_of.ensures) n in omega arith

pub share-requires-clause-few : goal.share-requires-clause-few
share-requires-clause-few c = few-counts c.self.inside.rows.items c.self.inside.pages c.row_of.result.now c.self.invariant (omega (arith, many-rows c.self.inside.rows.items (words_of c.self.inside.pages) c.args.self.now c.self.view_is, c.requires.room)) (row-once c.self.inside.rows.items c.self.inside.pages c.row_of.result.now c.args.from c.self.invariant (found-in c.self.inside.rows.items c.deref.result.now c.args.from c.row_of.result.now c.deref.ensures.value c.row_of.ensures))

pub invariant_of-self : goal.invariant_of-self
invariant_of-self c = rw c.in_err-push.ensures.items c.self.invariant

pub returns-in_err-push-clause-err : goal.returns-in_err-push-clause-err
returns-in_err-push-clause-err c = on-err c.from_residual.result (rw c.in_err-push.ensures.items c.self.view_is)

pub overflow_cast-result : goal.overflow_cast-result
overflow_cast-result c = omega (arith, c.len.ensures, c.in_ok-push.ensures.len, c.self.inside.rows.ok.0, many-rows c.self.inside.rows.items (words_of c.self.inside.pages) c.args.self.now c.self.view_is, c.requires.room)

pub returns-clause-number : goal.returns-clause-number
returns-clause-number c = omega (arith, c.len.ensures, c.in_ok-push.ensures.len, c.self.inside.rows.ok.0, many-rows c.self.inside.rows.items (words_of c.self.inside.pages) c.args.self.now c.self.view_is, c.requires.room)

pub invariant_of-self-2 : goal.invariant_of-self-2
invariant_of-self-2 c = pushed-table c.self.inside.rows.items c.push.new.self.items c.self.inside.pages c.share.new.pages c.row_of.result.now c.args.self.now c.self.invariant c.self.view_is c.in_ok-push.ensures.items c.share.ensures (row-size c.self.inside.rows.items c.self.inside.pages c.row_of.result.now c.args.from c.self.invariant (found-in c.self.inside.rows.items c.deref.result.now c.args.from c.row_of.result.now c.deref.ensures.value c.row_of.ensures)) (row-once c.self.inside.rows.items c.self.inside.pages c.row_of.result.now c.args.from c.self.invariant (found-in c.self.inside.rows.items c.deref.result.now c.args.from c.row_of.result.now c.deref.ensures.value c.row_of.ensures))

pub returns-clause-ok : goal.returns-clause-ok
returns-clause-ok c = copied-view c.self.inside.rows.items c.push.new.self.items c.self.inside.pages c.share.new.pages c.row_of.result.now c.args.self.now c.self.invariant c.self.view_is c.in_ok-push.ensures.items c.share.ensures c.args.from (found-in c.self.inside.rows.items c.deref.result.now c.args.from c.row_of.result.now c.deref.ensures.value c.row_of.ensures)

pub returns-clause-next : goal.returns-clause-next
returns-clause-next c = pushed-next c.self.inside.rows.items c.push.new.self.items c.self.inside.pages c.share.new.pages c.row_of.result.now c.args.self.now c.self.invariant c.self.view_is c.in_ok-push.ensures.items c.share.ensures

pub returns-clause-live : goal.returns-clause-live
returns-clause-live c = pushed-live c.self.inside.rows.items c.push.new.self.items c.self.inside.pages c.share.new.pages c.row_of.result.now c.args.self.now c.self.invariant c.self.view_is c.in_ok-push.ensures.items c.share.ensures

pub returns-clause-bytes : goal.returns-clause-bytes
returns-clause-bytes c = copied-bytes c.self.inside.rows.items c.push.new.self.items c.self.inside.pages c.share.new.pages c.row_of.result.now c.args.self.now c.self.invariant c.self.view_is c.in_ok-push.ensures.items c.share.ensures c.args.from (found-in c.self.inside.rows.items c.deref.result.now c.args.from c.row_of.result.now c.deref.ensures.value c.row_of.ensures)
