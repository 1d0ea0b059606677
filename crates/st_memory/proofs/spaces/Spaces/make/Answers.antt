use Rattle.std.proofs.Common.{◌≡◌, [], ◌∷◌, ◌++◌, Some, ap, ◌∙◌, arith}
use Rattle.st_memory.specs.Memory.{byte_in, next_space, Memories}
use Rattle.st_memory.specs.Pages.{words_of, Rows}
use Rattle.st_memory.proofs.Rows.{many-rows}
use Rattle.st_memory.proofs.Steps.{on-err, made-alone, made-others, made-zeros, pushed-added, pushed-live, pushed-next, pushed-table, table-same, view-unchanged}
use Rattle.st_memory.proofs.spaces.Spaces.make.Goals as goal

pub invariant_of-self : goal.invariant_of-self
invariant_of-self c = rw c.reserve.ensures.items c.self.invariant

pub returns-in_err-reserve-clause-others : goal.returns-in_err-reserve-clause-others
returns-in_err-reserve-clause-others c = λ s b. rw c.reserve.ensures.items (ap (λ (m : Memories). byte_in m s b) c.self.view_is)

pub returns-in_err-reserve-clause-err : goal.returns-in_err-reserve-clause-err
returns-in_err-reserve-clause-err c = on-err c.from_residual.result (rw c.reserve.ensures.items c.self.view_is)

pub invariant_of-self-in_err-row : goal.invariant_of-self-in_err-row
invariant_of-self-in_err-row c = rw c.reserve.ensures.items (table-same c.self.inside.rows.items c.self.inside.pages c.insert_zeros.new.pages c.args.self.now c.self.invariant c.self.view_is c.in_err-row.ensures.err)

pub returns-in_err-row-clause-others : goal.returns-in_err-row-clause-others
returns-in_err-row-clause-others c = λ s b. rw c.reserve.ensures.items (ap (λ (m : Memories). byte_in m s b) (view-unchanged c.self.inside.rows.items c.self.inside.pages c.insert_zeros.new.pages c.args.self.now c.self.invariant c.self.view_is c.in_err-row.ensures.err))

pub returns-in_err-row-clause-err : goal.returns-in_err-row-clause-err
returns-in_err-row-clause-err c = on-err c.from_residual-in_err-row.result (rw c.reserve.ensures.items (view-unchanged c.self.inside.rows.items c.self.inside.pages c.insert_zeros.new.pages c.args.self.now c.self.invariant c.self.view_is c.in_err-row.ensures.err))

pub overflow_cast-result : goal.overflow_cast-result
overflow_cast-result c = omega (arith, c.len.ensures, c.push_reserved.ensures.len, c.reserve.ensures.len, c.self.inside.rows.ok.0, many-rows c.self.inside.rows.items (words_of c.self.inside.pages) c.args.self.now c.self.view_is, c.requires)

pub returns-clause-number : goal.returns-clause-number
returns-clause-number c = omega (arith, c.len.ensures, c.push_reserved.ensures.len, c.reserve.ensures.len, c.self.inside.rows.ok.0, many-rows c.self.inside.rows.items (words_of c.self.inside.pages) c.args.self.now c.self.view_is, c.requires)

pub invariant_of-self-2 : goal.invariant_of-self-2
invariant_of-self-2 c = pushed-table c.self.inside.rows.items c.push_reserved.new.self.items c.self.inside.pages c.insert_zeros.new.pages c.in_ok-row.row c.args.self.now c.self.invariant c.self.view_is (c.push_reserved.ensures.items ∙ ap (λ (r : Rows). r ++ Some c.in_ok-row.row ∷ []) c.reserve.ensures.items) c.in_ok-row.ensures.row.added c.in_ok-row.ensures.len c.in_ok-row.ensures.row.once

pub returns-clause-ok : goal.returns-clause-ok
returns-clause-ok c = pushed-added c.self.inside.rows.items c.push_reserved.new.self.items c.self.inside.pages c.insert_zeros.new.pages c.in_ok-row.row c.args.self.now c.self.invariant c.self.view_is (c.push_reserved.ensures.items ∙ ap (λ (r : Rows). r ++ Some c.in_ok-row.row ∷ []) c.reserve.ensures.items) c.in_ok-row.ensures.row.added c.in_ok-row.ensures.len

pub returns-clause-next : goal.returns-clause-next
returns-clause-next c = pushed-next c.self.inside.rows.items c.push_reserved.new.self.items c.self.inside.pages c.insert_zeros.new.pages c.in_ok-row.row c.args.self.now c.self.invariant c.self.view_is (c.push_reserved.ensures.items ∙ ap (λ (r : Rows). r ++ Some c.in_ok-row.row ∷ []) c.reserve.ensures.items) c.in_ok-row.ensures.row.added

pub returns-clause-live : goal.returns-clause-live
returns-clause-live c = pushed-live c.self.inside.rows.items c.push_reserved.new.self.items c.self.inside.pages c.insert_zeros.new.pages c.in_ok-row.row c.args.self.now c.self.invariant c.self.view_is (c.push_reserved.ensures.items ∙ ap (λ (r : Rows). r ++ Some c.in_ok-row.row ∷ []) c.reserve.ensures.items) c.in_ok-row.ensures.row.added

pub returns-clause-zeros : goal.returns-clause-zeros
returns-clause-zeros c = λ b. made-zeros c.self.inside.rows.items c.push_reserved.new.self.items c.self.inside.pages c.insert_zeros.new.pages c.in_ok-row.row c.args.self.now c.self.invariant c.self.view_is (c.push_reserved.ensures.items ∙ ap (λ (r : Rows). r ++ Some c.in_ok-row.row ∷ []) c.reserve.ensures.items) c.in_ok-row.ensures.row.added c.in_ok-row.ensures.row c.len.result b (let n : c.len.result ≡ next_space c.args.self.now = omega (arith, c.len.ensures, c.push_reserved.ensures.len, c.reserve.ensures.len, c.self.inside.rows.ok.0, many-rows c.self.inside.rows.items (words_of c.self.inside.pages) c.args.self.now c.self.view_is, c.requires) in n)

pub returns-clause-alone : goal.returns-clause-alone
returns-clause-alone c = λ index x. made-alone c.self.inside.rows.items c.push_reserved.new.self.items c.self.inside.pages c.insert_zeros.new.pages c.in_ok-row.row c.args.self.now c.self.invariant c.self.view_is (c.push_reserved.ensures.items ∙ ap (λ (r : Rows). r ++ Some c.in_ok-row.row ∷ []) c.reserve.ensures.items) c.in_ok-row.ensures.row.added c.in_ok-row.ensures.row c.len.result index (let n : c.len.result ≡ next_space c.args.self.now = omega (arith, c.len.ensures, c.push_reserved.ensures.len, c.reserve.ensures.len, c.self.inside.rows.ok.0, many-rows c.self.inside.rows.items (words_of c.self.inside.pages) c.args.self.now c.self.view_is, c.requires) in n) x

pub returns-clause-others : goal.returns-clause-others
returns-clause-others c = λ s b. made-others c.self.inside.rows.items c.push_reserved.new.self.items c.self.inside.pages c.insert_zeros.new.pages c.in_ok-row.row c.args.self.now c.self.invariant c.self.view_is (c.push_reserved.ensures.items ∙ ap (λ (r : Rows). r ++ Some c.in_ok-row.row ∷ []) c.reserve.ensures.items) c.in_ok-row.ensures.row.added c.in_ok-row.ensures.row s b
