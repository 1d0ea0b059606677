-- Policies that were read.
use Rattle.std.specs.Prelude.{ℕ, ◌<◌, ◌^◌, List, [], All}
use Rattle.st_lex.specs.Quote.{AreBytes}
use Rattle.st_grammar.specs.declared.env.Env.{Env}
use Rattle.st_grammar.specs.declared.env.NamedId.{NamedId}
use Rattle.st_filter.specs.declared.set.BinaryPolicy.{BinaryPolicy}
use Rattle.st_grammar.specs.Grammar.{Reads}

-- each number of a text is a byte
abbrev pub AreTextBytes : List ℕ → Type 0
AreTextBytes text = All (λ b. b < 256) text

-- texts that were read one after the other gave this set
pub data WasRead (env : Env) : List BinaryPolicy → Type 0 where
  Nothing : WasRead env []
  After : (text : List ℕ) (old set : List BinaryPolicy) → AreTextBytes text → WasRead env old → Reads text env old set → WasRead env set

-- the three texts consist of bytes that a quoted text can hold
pub record HasPlainDollars (env : Env) : Type 0 where
  pub home : AreBytes env.dollars.home
  pub user : AreBytes env.dollars.user
  pub cwd : AreBytes env.dollars.cwd

-- each id of these rows has 32 bits
abbrev pub AreSmallIds : List NamedId → Type 0
AreSmallIds rows = All (λ row. row.id < 2 ^ 32) rows

-- each id has 32 bits
pub record HasSmallIds (env : Env) : Type 0 where
  pub users : AreSmallIds env.users
  pub groups : AreSmallIds env.groups
