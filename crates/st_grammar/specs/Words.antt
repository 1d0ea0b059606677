-- The words of a policy.
use Rattle.std.specs.Prelude.{ℕ, ◌^◌, ◌-◌, Bool, true, false, ◌&&◌, ◌||◌, ◌==◌, not, if◌then◌else◌, nat_eq, nat_lt, List, [], ◌∷◌, length, drop, codes, Option, Some, None, option_map, option_and_then, find}
use Rattle.std.specs.Char.{is_ascii_alphanumeric}
use Rattle.std.specs.List.{starts_with, list_any, list_all}
use Rattle.std.specs.Str.{bytes_eq}
use Rattle.st_base.specs.Number.{number_in, numeral_up_to}
use Rattle.st_calls.specs.declared.rule.Rule.{Rule}
use Rattle.st_calls.specs.Argument.{has_argument, has_label}
use Rattle.st_calls.specs.Call.{rule_named}
use Rattle.st_emulation.specs.declared.emulation.Emulation.{Emulation}
use Rattle.st_emulation.specs.declared.emulation.Emulation.TheVariants.{Native}
use Rattle.st_emulation.specs.Words.{prefix_of}
use Rattle.st_grammar.specs.declared.env.Env.{Env}
use Rattle.st_grammar.specs.declared.env.NamedId.{NamedId}
use Rattle.st_filter.specs.declared.filter.FilterName.{FilterName}
use Rattle.st_filter.specs.declared.filter.FilterName.TheVariants as name
use Rattle.st_filter.specs.declared.filter.Op.{Op}
use Rattle.st_filter.specs.declared.filter.Op.TheVariants.{Match, Eq, Neq, Sub, Nsub, Inpath}
use Rattle.st_filter.specs.declared.filter.Who.{Who}
use Rattle.st_filter.specs.declared.filter.Who.TheVariants.{User, Group}

-- the words of the grammar that are no labels
abbrev pub reserved_words : List (List ℕ)
reserved_words = codes "not" ∷ codes "true" ∷ codes "and" ∷ codes "or" ∷ codes "then" ∷ codes "permit" ∷ codes "deny" ∷ codes "ask" ∷ []

-- any word but the reserved ones is a label
abbrev pub is_label : List ℕ → Bool
is_label word = not (list_any (bytes_eq word) reserved_words)

-- ---- filters' names

-- a letter, a digit or `_`
abbrev pub is_name_byte : ℕ → Bool
is_name_byte b = is_ascii_alphanumeric b || (b == 95)

-- a text that can be a call's name: letters, digits and `_`, at least one
abbrev pub if_name : List ℕ → Option (List ℕ)
if_name name = if nat_lt 0 (length name) && list_all is_name_byte name then Some name else None

-- the rest of a word after the emulation's prefix, if it can be the name of a call
abbrev pub call_after_prefix : List ℕ → Emulation → Option (List ℕ)
call_after_prefix word emulation = if starts_with nat_eq word (prefix_of emulation) then if_name (drop (length (prefix_of emulation)) word) else None

-- what a filter of this word is for: the rule that it names, if it names one, otherwise a call outside the model
abbrev pub name_by : List ℕ → Option Rule → FilterName
name_by word (Some rule) = name.Rule rule
name_by word None = name.Other word

-- what a filter of this name is for under an emulation: a rule of the model, or a call outside it
abbrev pub filter_name : List ℕ → Emulation → Option FilterName
filter_name word emulation = option_map (λ call. name_by call (rule_named call)) (call_after_prefix word emulation)

-- whether a filter may test the argument of this label and index
abbrev pub may_test : FilterName → List ℕ → ℕ → Bool
may_test (name.Rule rule) label index = has_argument rule label index
may_test (name.Other word) label index = true

-- whether a filter may test an argument of this label with some index
abbrev pub may_test_label : FilterName → List ℕ → Bool
may_test_label (name.Rule rule) label = has_label rule label
may_test_label (name.Other word) label = true

-- ---- operators, indexes and ids

-- the operator that a word names
abbrev pub op_named : List ℕ → Option Op
op_named word =
    if bytes_eq word (codes "match") then Some Match
    else if bytes_eq word (codes "eq") then Some Eq
    else if bytes_eq word (codes "neq") then Some Neq
    else if bytes_eq word (codes "sub") then Some Sub
    else if bytes_eq word (codes "nsub") then Some Nsub
    else if bytes_eq word (codes "inpath") then Some Inpath
    else None

-- a number below 2^32
abbrev pub if_small : ℕ → Option ℕ
if_small n = if nat_lt n (2 ^ 32) then Some n else None

-- the index that a word spells: a number below 2^32
abbrev pub index_in : List ℕ → Option ℕ
index_in word = option_and_then if_small (number_in word)

-- whether the row of an id has this name
abbrev pub is_id_named : List ℕ → NamedId → Bool
is_id_named word row = bytes_eq row.name word

-- the id that a word is: the number that it spells, if it spells one, otherwise that of the first row with this name
abbrev pub id_by : List NamedId → List ℕ → Option ℕ → Option ℕ
id_by rows word (Some id) = Some id
id_by rows word None = option_map (λ row. row.id) (find (is_id_named word) rows)

-- the id that a word spells: a decimal number below 2^32, otherwise the id of the first user, or group, of this name
abbrev pub id_in : List NamedId → List ℕ → Option ℕ
id_in rows word = id_by rows word (numeral_up_to (2 ^ 32 - 1) 10 word)

-- the known names of users, or of groups, with their ids
abbrev pub names_for : Env → Who → List NamedId
names_for env User = env.users
names_for env Group = env.groups

-- the native environment in which no user or group is known and nothing is granted or learnt
abbrev pub no_env : Env
no_env = record { users = []; groups = []; dollars = record { home = []; user = []; cwd = [] }; elevate = false; learn = false; emulation = Native }
