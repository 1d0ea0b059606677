use Rattle.std.proofs.Common.{◌+◌, drop, ap, ◌∙◌, sym, arith}
use Rattle.st_lex.specs.declared.token.Token.{Token}
use Rattle.st_lex.specs.Tokens.{tokens_from, with_token}
use Rattle.st_lex.proofs.Skips.{length-following, gap_at, piece_at}
use Rattle.st_lex.proofs.lexer.Lexer.next_token.Goals as goal

pub loop-at-preserved : goal.loop-at-preserved
loop-at-preserved c =
    let text = c.loop-at.self-inside.text.now in
    let w = c.in-Gap.ensures.within in
    let n = length-following text c.loop-at.at c.loop-at-test.true in
    record {
      same = c.loop-at.invariant.same ∙ gap_at c.in-Gap.len c.loop-at.at c.loop-at.self-inside.line text c.loop-at-test.true c.in-Gap.ensures.is w.0 w.1;
      stays = c.loop-at.invariant.stays;
      place = omega (arith, w.1, n);
      following = omega (arith, c.loop-at.invariant.following);
      line = c.loop-at.invariant.line;
      small = c.loop-at.invariant.small;
    }

pub returns-in-Piece : goal.returns-in-Piece
returns-in-Piece c =
    let text = c.loop-at.self-inside.text.now in
    let at = c.loop-at.at in
    let line = c.loop-at.self-inside.line in
    let w = c.in-Piece.ensures.within in
    let token : Token = record { kind = c.in-Piece.kind; at = at; len = c.in-Piece.len; line = line } in
    c.loop-at.invariant.same ∙ piece_at c.in-Piece.kind c.in-Piece.len at line text c.loop-at-test.true c.in-Piece.ensures.is w.0 w.1
    ∙ ap (λ next. with_token token (tokens_from 0 (at + c.in-Piece.len) next (drop (at + c.in-Piece.len) text))) (sym c.line_after-self-inside.ensures)
