-- Tests of an argument's text that a cheap look at it may decide.
use Rattle.std.specs.Prelude.{ℕ, zero, suc, ◌==◌, ◌&&◌, ◌||◌, not, Bool, true, false, List, [], ◌∷◌, length, slice_get, if◌then◌else◌, Option, None, Some}
use Rattle.std.specs.List.{list_any}
use Rattle.st_calls.specs.declared.argument.ArgText.{ArgText}
use Rattle.st_filter.specs.Judging.{compares}
use Rattle.st_filter.specs.declared.filter.Op.{Op}
use Rattle.st_filter.specs.declared.filter.Op.TheVariants as op

-- whether a byte of a pattern only matches itself, wherever it is outside a class
abbrev pub is_literal : ℕ → Bool
is_literal byte = not ((byte == 42) || (byte == 63) || (byte == 91) || (byte == 92))

-- how many bytes at the beginning of a pattern only match themselves
abbrev pub literal_len : List ℕ → ℕ
literal_len [] = 0
literal_len (byte ∷ pattern) = if is_literal byte then suc (literal_len pattern) else 0

-- how many bytes at the beginning of a test's text each text that passes the test begins with
abbrev pub shared_len : Op → List ℕ → ℕ
shared_len op.Eq text = length text
shared_len op.Match text = literal_len text
shared_len _ text = 0

-- whether there are two bytes, and they are the same
abbrev pub are_same : Option ℕ → Option ℕ → Bool
are_same (Some a) (Some b) = a == b
are_same _ _ = false

-- whether an argument and a text have the same byte right before this place; if there is none before it, nothing is looked at
abbrev pub agree_before : ℕ → List ℕ → List ℕ → Bool
agree_before zero argument text = true
agree_before (suc last) argument text = are_same (slice_get argument last) (slice_get text last)

-- whether a path may have a component's end at a place
abbrev pub is_end : Option ℕ → Bool
is_end None = true
is_end (Some byte) = byte == 47

-- whether an argument has a byte; any has none
abbrev pub has_byte : Option ℕ → List ℕ → Bool
has_byte None argument = true
has_byte (Some byte) argument = list_any (λ each. each == byte) argument

-- whether a look at single bytes leaves it open that an argument passes a test
abbrev pub may_pass : Op → ℕ → List ℕ → List ℕ → Bool
may_pass op.Sub shared argument text = has_byte (slice_get text 0) argument
may_pass op.Inpath shared argument path = (length argument == 1) || is_end (slice_get path (length argument))
may_pass _ shared argument text = agree_before shared argument text

-- whether an optional argument passes a test
abbrev pub passes : Op → ℕ → List ℕ → Option ArgText → Bool
passes op shared text None = false
passes op shared text (Some arg) = may_pass op shared arg.text text && compares op arg.text text
