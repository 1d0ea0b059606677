use Rattle.std.proofs.Common.{Bor, List, ◌+◌, ◌-◌, length, take, drop, sym, ap, ◌∙◌, arith}
use Rattle.std.proofs.lemmas.List.{take_rest, drop_all}
use Rattle.st_lex.specs.declared.token.Token.{Token}
use Rattle.st_lex.proofs.Lines.{next_row_at, no_row, rest_empty, rest_some}
use Rattle.st_lex.proofs.rows.next_row.Goals as goal
use Rattle.st_lex.proofs.rows.next_row.Goals.{then-end-rest, else-end-rest}

pub returns-then-is_empty : goal.returns-then-is_empty
returns-then-is_empty c = no_row c.args.tokens.now c.blank_len.result c.blank_len.ensures.is (rest_empty c.args.tokens.now c.blank_len.result _ c.is_empty.ensures c.if-is_empty.true)

pub returns : goal.returns
returns c =
    next_row_at c.args.tokens.now _ _ c.blank_len.result c.row_len-end.result (take_rest c.args.tokens.now c.blank_len.result) c.blank_len.ensures.is (rest_some c.args.tokens.now c.blank_len.result _ c.is_empty.ensures c.if-is_empty.false) c.row_len-end.ensures.is
    (elim c.if-end-rest.branch [
      | then-end-rest w ↦ ap (λ (b : Bor (List Token)). b.now) w.following-is ∙ take_rest (take (length c.args.tokens.now - c.blank_len.result) (drop c.blank_len.result c.args.tokens.now)) (c.row_len-end.result + 1)
      | else-end-rest w ↦ ap (λ (b : Bor (List Token)). b.now) w.following-is ∙ sym (drop_all (c.row_len-end.result + 1) (take (length c.args.tokens.now - c.blank_len.result) (drop c.blank_len.result c.args.tokens.now)) (omega (arith, w.if-end-rest.false)))
    ])
