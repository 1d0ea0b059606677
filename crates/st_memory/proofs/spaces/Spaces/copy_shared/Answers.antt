use Rattle.std.proofs.Common.{◌<◌, [], length, None, ap, subst, refl, ◌∙◌, arith}
use Rattle.std.specs.Prelude.{is_some}
use Rattle.st_base.specs.Numbered.{item_at_number_or}
use Rattle.st_memory.specs.Memory.{byte_in, is_space_live, next_space, IsPageShared, Memories}
use Rattle.st_memory.specs.Pages.{words_of, Rows}
use Rattle.st_memory.proofs.Rows.{found-in, is-there, row-once, row-size, row-there}
use Rattle.st_memory.proofs.Steps.{on-err, table-same, view-unchanged}
use Rattle.st_memory.proofs.Writes.{many-is-shared, owned-bytes, owned-pages, owned-spaces, owned-table}
use Rattle.st_memory.proofs.spaces.Spaces.copy_shared.Goals as goal

pub row_of-row-requires : goal.row_of-row-requires
row_of-row-requires c = ap (λ (r : Rows). is_some (item_at_number_or None r c.args.space)) c.deref.ensures.value ∙ is-there c.self.inside.rows.items (words_of c.self.inside.pages) c.args.space c.args.self.now c.self.view_is c.requires.live

pub own_row-requires-clause-there : goal.own_row-requires-clause-there
own_row-requires-clause-there c = row-there c.self.inside.rows.items c.self.inside.pages c.row_of-row.result.now c.args.space c.self.invariant (found-in c.self.inside.rows.items c.deref.result.now c.args.space c.row_of-row.result.now c.deref.ensures.value c.row_of-row.ensures)

pub own_row-requires-clause-once : goal.own_row-requires-clause-once
own_row-requires-clause-once c = row-once c.self.inside.rows.items c.self.inside.pages c.row_of-row.result.now c.args.space c.self.invariant (found-in c.self.inside.rows.items c.deref.result.now c.args.space c.row_of-row.result.now c.deref.ensures.value c.row_of-row.ensures)

pub invariant_of-self : goal.invariant_of-self
invariant_of-self c = table-same c.self.inside.rows.items c.self.inside.pages c.own_row.new.pages c.args.self.now c.self.invariant c.self.view_is c.in_err-row.ensures.err

pub returns-in_err-row-clause-bytes : goal.returns-in_err-row-clause-bytes
returns-in_err-row-clause-bytes c = λ s b. ap (λ (m : Memories). byte_in m s b) (view-unchanged c.self.inside.rows.items c.self.inside.pages c.own_row.new.pages c.args.self.now c.self.invariant c.self.view_is c.in_err-row.ensures.err)

pub returns-in_err-row-clause-spaces : goal.returns-in_err-row-clause-spaces
returns-in_err-row-clause-spaces c = (ap next_space (view-unchanged c.self.inside.rows.items c.self.inside.pages c.own_row.new.pages c.args.self.now c.self.invariant c.self.view_is c.in_err-row.ensures.err), λ s. ap (λ (m : Memories). is_space_live m s) (view-unchanged c.self.inside.rows.items c.self.inside.pages c.own_row.new.pages c.args.self.now c.self.invariant c.self.view_is c.in_err-row.ensures.err))

pub returns-in_err-row-clause-shared : goal.returns-in_err-row-clause-shared
returns-in_err-row-clause-shared c = λ _.
    let x = c.in_err-row.ensures.shared refl in
    let low : x.0 < length c.row_of-row.result.now = omega (arith, row-size c.self.inside.rows.items c.self.inside.pages c.row_of-row.result.now c.args.space c.self.invariant (found-in c.self.inside.rows.items c.deref.result.now c.args.space c.row_of-row.result.now c.deref.ensures.value c.row_of-row.ensures), c.requires.inside, x.2) in
    (x.0, x.1, x.2, subst (λ (m : Memories). IsPageShared m c.args.space x.0) c.self.view_is (many-is-shared c.self.inside.rows.items c.self.inside.pages c.own_row.new.pages c.row_of-row.result.now [] c.args.first c.args.end c.args.space c.self.invariant (found-in c.self.inside.rows.items c.deref.result.now c.args.space c.row_of-row.result.now c.deref.ensures.value c.row_of-row.ensures) x.0 low x.3))

pub returns-in_err-row-clause-err : goal.returns-in_err-row-clause-err
returns-in_err-row-clause-err c = on-err c.from_residual.result (view-unchanged c.self.inside.rows.items c.self.inside.pages c.own_row.new.pages c.args.self.now c.self.invariant c.self.view_is c.in_err-row.ensures.err)

pub invariant_of-self-2 : goal.invariant_of-self-2
invariant_of-self-2 c = owned-table c.self.inside.rows.items c.self.inside.pages c.own_row.new.pages c.row_of-row.result.now c.in_ok-row.row c.args.first c.args.end c.args.space c.self.invariant (found-in c.self.inside.rows.items c.deref.result.now c.args.space c.row_of-row.result.now c.deref.ensures.value c.row_of-row.ensures) c.in_ok-row.ensures.owned

pub returns-clause-bytes : goal.returns-clause-bytes
returns-clause-bytes c = owned-bytes c.self.inside.rows.items c.self.inside.pages c.own_row.new.pages c.row_of-row.result.now c.in_ok-row.row c.args.first c.args.end c.args.space c.self.invariant (found-in c.self.inside.rows.items c.deref.result.now c.args.space c.row_of-row.result.now c.deref.ensures.value c.row_of-row.ensures) c.in_ok-row.ensures.owned c.args.self.now c.self.view_is

pub returns-clause-spaces : goal.returns-clause-spaces
returns-clause-spaces c = owned-spaces c.self.inside.rows.items c.self.inside.pages c.own_row.new.pages c.row_of-row.result.now c.in_ok-row.row c.args.first c.args.end c.args.space c.self.invariant (found-in c.self.inside.rows.items c.deref.result.now c.args.space c.row_of-row.result.now c.deref.ensures.value c.row_of-row.ensures) c.in_ok-row.ensures.owned c.args.self.now c.self.view_is

pub returns-clause-pages : goal.returns-clause-pages
returns-clause-pages c = owned-pages c.self.inside.rows.items c.self.inside.pages c.own_row.new.pages c.row_of-row.result.now c.in_ok-row.row c.args.first c.args.end c.args.space c.self.invariant (found-in c.self.inside.rows.items c.deref.result.now c.args.space c.row_of-row.result.now c.deref.ensures.value c.row_of-row.ensures) c.in_ok-row.ensures.owned c.args.self.now c.self.view_is c.requires.inside
