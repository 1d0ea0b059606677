use Rattle.std.proofs.Common.{◌∙◌, Ok, Err, ap, length, refl, subst, sym, take}
use Rattle.st_grammar.specs.Symbol.{seen}
use Rattle.st_grammar.specs.Reading.{as_reading}
use Rattle.st_grammar.proofs.Between.{IsReached, blank_line, old_is_kept, reached_first, reached_step}
use Rattle.st_grammar.proofs.Texts.{token_read}
use Rattle.st_policy.proofs.Tokens.{in_front}
use Rattle.st_policy.proofs.reader.read_all.Goals as goal

pub loop-token-init : goal.loop-token-init
loop-token-init c = record { rest = refl; reached = subst (IsReached c.args.env.now c.args.set.now) (sym c.requires.first) (reached_first c.args.env.now c.args.set.now c.requires.few) }

pub loop-token-preserved : goal.loop-token-preserved
loop-token-preserved c =
    let before = as_reading c.loop-token.reader c.loop-token.set in
    let after = as_reading c.read.new.reader c.read.new.set in
    let token = c.in-Ok-Some.token in
    record {
      rest = c.loop-token.invariant.rest ∙ token_read c.args.env.now c.args.text.now c.loop-token.lexer c.next_token.new.self token before (seen c.of-symbol.result) (Ok after) (in_front c.in-Ok-Some.field-0-is c.in-Ok-Some.ensures) c.of-symbol.ensures c.in_default.ensures.ok;
      reached = reached_step c.args.env.now c.args.set.now before after token.at (seen c.of-symbol.result) c.loop-token.invariant.reached c.in_default.ensures.ok;
    }

pub loop-token-preserved-then-is_between_rows : goal.loop-token-preserved-then-is_between_rows
loop-token-preserved-then-is_between_rows c =
    let here = as_reading c.loop-token.reader c.loop-token.set in
    let token = c.in-Ok-Some.token in
    let stays = blank_line c.args.env.now token.at c.loop-token.reader c.loop-token.set (seen c.of-symbol.result) c.place-place.result
    (sym c.is_line.ensures ∙ c.if-is_line.true) c.place-place.ensures (sym c.is_between_rows.ensures ∙ c.if-is_between_rows.true) in
    record {
      rest = c.loop-token.invariant.rest ∙ token_read c.args.env.now c.args.text.now c.loop-token.lexer c.next_token.new.self token here (seen c.of-symbol.result) (Ok here) (in_front c.in-Ok-Some.field-0-is c.in-Ok-Some.ensures) c.of-symbol.ensures stays;
      reached = c.loop-token.invariant.reached;
    }

pub returns-in-Err-read-clause-fault : goal.returns-in-Err-read-clause-fault
returns-in-Err-read-clause-fault c memory =
    let here = as_reading c.loop-token.reader c.loop-token.set in
    c.loop-token.invariant.rest ∙ token_read c.args.env.now c.args.text.now c.loop-token.lexer c.next_token.new.self c.in-Ok-Some.token here (seen c.of-symbol.result) (Err c.in-Err-read.fault) (in_front c.in-Ok-Some.field-0-is c.in-Ok-Some.ensures) c.of-symbol.ensures (c.in-Err-read.ensures.fault memory)
    ∙ ap (λ place. Err (record { fault = c.in-Err-read.fault; place = place })) (sym c.place-place.ensures)

pub returns-in-Err-read-clause-kept : goal.returns-in-Err-read-clause-kept
returns-in-Err-read-clause-kept c =
    let here = as_reading c.loop-token.reader c.loop-token.set in
    ap (take (length c.args.set.now)) c.in-Err-read.ensures.same ∙ old_is_kept c.args.env.now c.args.set.now here c.loop-token.invariant.reached
