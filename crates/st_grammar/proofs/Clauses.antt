-- Places that read a symbol as another place does.
use Rattle.std.proofs.Common.{◌≡◌, ℕ, Bool, true, false, List, refl}
use Rattle.st_grammar.proofs.Common.{BinaryPolicy, Colon, Env, GrammarState, is_action, is_colon_symbol, is_line_symbol, Line, OpenBracket, read_step, Symbol}
use Rattle.st_grammar.specs.declared.place.Place.TheVariants as place
use Rattle.st_grammar.proofs.Readings.{reading_at}

abbrev pub is_open_bracket : Symbol → Bool
is_open_bracket OpenBracket = true
is_open_bracket _ = false

pub line-symbol : (s : Symbol) → is_line_symbol s ≡ true → s ≡ Line
line-symbol Line e = refl
line-symbol s e = absurd (cc)

module _ (env : Env) (w : GrammarState) (set : List BinaryPolicy) (at : ℕ) where
  -- a symbol that begins no action is read as an operand at the beginning of a clause too
  pub clause-operand : (s : Symbol) → is_action s ≡ false → read_step env (reading_at place.Clause w set) at s ≡ read_step env (reading_at place.Operand w set) at s
  clause-operand s e = rw e refl

  -- after a user, and after `deny`, what may follow an action may follow
  pub user-tail : (log : Bool) (s : Symbol) → is_colon_symbol s ≡ false → read_step env (reading_at (place.User log) w set) at s ≡ read_step env (reading_at (place.Tail false log) w set) at s
  user-tail log Colon e = absurd (cc)
  user-tail log s e = refl

  pub denial-tail : (s : Symbol) → is_open_bracket s ≡ false → read_step env (reading_at place.Denial w set) at s ≡ read_step env (reading_at (place.Tail false true) w set) at s
  denial-tail OpenBracket e = absurd (cc)
  denial-tail s e = refl
