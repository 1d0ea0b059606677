use Rattle.std.proofs.Common.{◌≡◌, ◌∷◌, ◌∙◌, [], Ok, ap, refl, sym, false}
use Rattle.st_grammar.specs.Diagram.{is_line_symbol, next}
use Rattle.st_grammar.specs.OneFilter.{filter_from, filter_of_tokens}
use Rattle.st_grammar.specs.Symbol.{symbol_of}
use Rattle.st_grammar.proofs.OneFilters.{begins, token_stands}
use Rattle.st_policy.proofs.Tokens.{in_front}
use Rattle.st_policy.proofs.one_filter.rest_of_filter.Goals as goal

pub loop-token-init : goal.loop-token-init
loop-token-init c =
    let begun = c.requires.begun in
    record {
      rest = rw (begun, filter_of_tokens) refl;
      within = record { front = symbol_of c.args.text.now c.args.first.now ∷ []; spelled = begins c.args.env.now c.args.first.now.at (symbol_of c.args.text.now c.args.first.now) c.args.reader.now begun };
    }

pub loop-token-preserved : goal.loop-token-preserved
loop-token-preserved c =
    let token = c.in-Ok-Some.token in
    let rest = c.next_token.new.self in
    let symbol = symbol_of c.args.text.now token in
    let goes : (known : _) → next c.args.env.now known c.loop-token.reader token.at symbol ≡ Ok c.step.new.self = λ known. ap (next c.args.env.now known c.loop-token.reader token.at) (sym c.of-symbol.ensures) ∙ c.in_ok-step.ensures known in
    let inside : is_line_symbol symbol ≡ false = ap is_line_symbol (sym c.of-symbol.ensures) ∙ sym c.is_line.ensures ∙ c.if-is_line.false in
    let s = token_stands c.args.env.now c.args.text.now rest.fault token rest.tokens c.loop-token.reader c.step.new.self goes inside c.loop-token.invariant.within in
    record { rest = c.loop-token.invariant.rest ∙ ap (λ l. filter_from c.args.env.now c.args.text.now l.fault c.loop-token.reader l.tokens) (in_front c.in-Ok-Some.field-0-is c.in-Ok-Some.ensures) ∙ s.0; within = s.1 }
