use Rattle.std.proofs.Common.{◌+◌, length, sym, subst, arith}
use Rattle.std.proofs.lemmas.List.Sums.{prefix_len-le-length}
use Rattle.st_lex.specs.Tokens.{IsFrontWithin, is_word_byte, is_no_newline}
use Rattle.st_lex.specs.Quoted.{closing_len, inner_fault}
use Rattle.st_lex.proofs.Within.{quoted_front-within, closing_len-within, inner_fault-within}
use Rattle.st_lex.proofs.lexer.front.Goals as goal

pub overflow_add-result : goal.overflow_add-result
overflow_add-result c = omega (arith, prefix_len-le-length is_no_newline c.args.after.now)

pub returns-then-first-eq35-clause-within : goal.returns-then-first-eq35-clause-within
returns-then-first-eq35-clause-within c = (omega arith, omega (arith, prefix_len-le-length is_no_newline c.args.after.now))

pub overflow_add-result-then-is_word_byte : goal.overflow_add-result-then-is_word_byte
overflow_add-result-then-is_word_byte c = omega (arith, prefix_len-le-length is_word_byte c.args.after.now)

pub returns-then-is_word_byte-clause-within : goal.returns-then-is_word_byte-clause-within
returns-then-is_word_byte-clause-within c = (omega arith, omega (arith, prefix_len-le-length is_word_byte c.args.after.now))

pub returns-then-first-eq34-clause-within : goal.returns-then-first-eq34-clause-within
returns-then-first-eq34-clause-within c =
    subst (IsFrontWithin (length c.args.after.now + 1)) (sym c.quoted_front.ensures) (quoted_front-within (length c.args.after.now) (closing_len c.args.after.now) (inner_fault c.args.after.now) (closing_len-within c.args.after.now) (inner_fault-within c.args.after.now))
