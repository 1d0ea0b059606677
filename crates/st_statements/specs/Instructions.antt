-- The rows of a thread's body.
use Rattle.std.specs.Prelude.{ℕ, ◌+◌, ◌/◌, ◌%◌, ◌==◌, ◌&&◌, if◌then◌else◌, nat_le, nat_lt, List, [], ◌∷◌, length, Option, Some, None, option_map, option_and_then, slice_get}
use Rattle.st_calls.specs.Call.{call_named}
use Rattle.st_calls.specs.declared.call.SysCall.{SysCall}
use Rattle.st_calls.specs.declared.call.SysCall.TheVariants as calls
use Rattle.st_lex.specs.declared.token.Token.{Token}
use Rattle.st_lex.specs.Text.{text_of_token, is_word}
use Rattle.st_model.specs.declared.limits.TheConstants.{SPACE_BYTES, SPACE_WORDS}
use Rattle.st_statements.specs.Parts.{word_at, quoted_at}
use Rattle.st_statements.specs.Values.{number_token, number_below}
use Rattle.st_statements.specs.declared.statement.Statement.{Statement}
use Rattle.st_statements.specs.declared.statement.Statement.TheVariants.{Store, Put, Call, Fork, Reload, End}

-- the word index that a token spells
abbrev pub word_place_at : List ℕ → Token → Option ℕ
word_place_at text token = option_and_then (number_below SPACE_WORDS) (number_token text token)

-- PLACE WORD
abbrev pub store_row : List ℕ → List Token → Option Statement
store_row text (place ∷ word ∷ []) = option_and_then (λ p. option_map (Store p) (number_token text word)) (word_place_at text place)
store_row text _ = None

-- the index of the first word of a text put at this byte, if the byte is a word's first and the text and a zero byte fit into memory
abbrev pub put_place : List ℕ → ℕ → Option ℕ
put_place bytes at = if at % 8 == 0 && nat_lt (at + length bytes) SPACE_BYTES then Some (at / 8) else None

-- the stores of a text from this byte on
abbrev pub put_at : List ℕ → ℕ → Option Statement
put_at bytes at = option_map (λ p. Put p bytes) (put_place bytes at)

-- AT "text"
abbrev pub put_row : List ℕ → List Token → Option Statement
put_row text (at ∷ quoted ∷ []) = option_and_then (λ bytes. option_and_then (put_at bytes) (number_token text at)) (quoted_at text quoted)
put_row text _ = None

-- a register: the number that a token spells, 0 if there is no token
abbrev pub register_token : List ℕ → Option Token → Option ℕ
register_token text None = Some 0
register_token text (Some token) = number_token text token

-- the register with this index, among the numbers of a row
abbrev pub register_at : List ℕ → List Token → ℕ → Option ℕ
register_at text numbers place = register_token text (slice_get numbers place)

-- the six registers from up to six numbers; those without a number are 0
abbrev pub registers : List ℕ → List Token → Option (List ℕ)
registers text numbers =
    if nat_le (length numbers) 6 then
    option_and_then (λ a. option_and_then (λ b. option_and_then (λ c. option_and_then (λ d. option_and_then (λ e. option_map
    (λ f. a ∷ b ∷ c ∷ d ∷ e ∷ f ∷ [])
    (register_at text numbers 5)) (register_at text numbers 4)) (register_at text numbers 3))
    (register_at text numbers 2)) (register_at text numbers 1)) (register_at text numbers 0)
    else None

-- a call that isn't fork, which has a row of its own
abbrev pub unless_fork : SysCall → Option SysCall
unless_fork calls.Fork = None
unless_fork call = Some call

-- the call that a Word names
abbrev pub call_at : List ℕ → Token → Option SysCall
call_at text token = if is_word token.kind then option_and_then unless_fork (call_named (text_of_token text token)) else None

-- NAME { NUMBER }
abbrev pub call_row : List ℕ → List Token → Option Statement
call_row text [] = None
call_row text (name ∷ numbers) = option_and_then (λ call. option_map (Call call) (registers text numbers)) (call_at text name)

-- THREAD
abbrev pub fork_row : List ℕ → List Token → Option Statement
fork_row text (name ∷ []) = option_map Fork (word_at text name)
fork_row text _ = None

-- POLICY
abbrev pub reload_row : List ℕ → List Token → Option Statement
reload_row text (name ∷ []) = option_map Reload (word_at text name)
reload_row text _ = None

-- nothing may follow `end`
abbrev pub end_row : List Token → Option Statement
end_row [] = Some End
end_row (token ∷ tokens) = None
