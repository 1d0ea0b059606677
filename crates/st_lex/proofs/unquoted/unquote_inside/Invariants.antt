use Rattle.std.proofs.Common.{◌≡◌, ◌-◌, ◌≤◌, ◌++◌, length, drop}
use Rattle.std.specs.Prelude.{option_copied}
use Rattle.st_lex.specs.Unquote.{names_in, unquoted_from}
use Rattle.st_lex.proofs.unquoted.unquote_inside.Given as goal

-- the text so far, followed by the text that the rest spells, is the whole text
abbrev pub invariant-loop-at : goal.invariant-loop-at
invariant-loop-at l = record {
  same : unquoted_from (names_in (option_copied l.dollars)) 0 l.bytes ≡ l.text ++ unquoted_from (names_in (option_copied l.dollars)) 0 (drop l.at l.bytes);
  place : l.at ≤ length l.bytes;
}

abbrev pub decreases-loop-at : goal.decreases-loop-at
decreases-loop-at l = length l.bytes - l.at
