-- One token of a text, and its rest.
use Rattle.std.proofs.Common.{◌≡◌, List, ℕ, ap, sym, ◌∙◌, Option, Ok, Err}
use Rattle.st_lex.specs.Tokens.{with_token}
use Rattle.st_grammar.proofs.Common.{Env, Lexed, LexFault, read_from, read_step, Reading, Refusable, Symbol, symbol_of, Token}
use Rattle.st_grammar.proofs.Readings.{Read}

-- the result of a text after a token, by the token's result
abbrev pub result_after : Env → List ℕ → Option LexFault → Reading → List Token → Read → Refusable
result_after env text broken r ts (Ok r') = read_from env text broken r' ts
result_after env text broken r ts (Err fault) = Err (record { fault = fault; place = r.walk.place })

-- one more token is read
pub token_read : (env : Env) (text : List ℕ) (lexed rest : Lexed) (token : Token) (r : Reading) (s : Symbol) (x : Read) → lexed ≡ with_token token rest → s ≡ symbol_of text token → read_step env r token.at s ≡ x →
    read_from env text lexed.fault r lexed.tokens ≡ result_after env text rest.fault r rest.tokens x
token_read env text lexed rest token r s x e is h =
    ap (λ l. read_from env text l.fault r l.tokens) e ∙ ap (result_after env text rest.fault r rest.tokens) (ap (read_step env r token.at) (sym is) ∙ h)
