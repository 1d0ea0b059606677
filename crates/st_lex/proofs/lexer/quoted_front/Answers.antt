use Rattle.std.proofs.Common.{◌≡◌, ◌+◌, ◌<◌, get_or, length, ap, sym, ◌∙◌, arith, ltb-true}
use Rattle.std.specs.List.{prefix_len}
use Rattle.st_lex.specs.Quoted.{is_inner_byte}
use Rattle.st_lex.specs.declared.token.Front.TheVariants.{Piece}
use Rattle.st_lex.specs.declared.token.TokenKind.TheVariants.{Quoted}
use Rattle.st_lex.proofs.Plains.{closed_later}
use Rattle.st_lex.proofs.lexer.quoted_front.Goals as goal

pub returns-in-Some-eq34 : goal.returns-in-Some-eq34
returns-in-Some-eq34 c =
    let at = c.inner_len-inner.ensures.is in
    let found = c.in-Some-eq34.ensures.lookup in
    let inside : c.inner_len-inner.result < length c.args.after.now = ltb-true _ _ (sym found.0) in
    let quote : get_or c.args.after.now c.inner_len-inner.result c.in-Some-eq34.field-0.now ≡ 34 = sym found.1 ∙ c.in-Some-eq34.field-0-test in
    let closed = closed_later c.args.after.now c.in-Some-eq34.field-0.now (rw at at inside) (rw at at quote) in
    let longer : prefix_len is_inner_byte c.args.after.now + 2 ≡ 1 + (prefix_len is_inner_byte c.args.after.now + 1) = omega arith in
    rw (closed.0, closed.1, at) (ap (Piece Quoted) longer)
