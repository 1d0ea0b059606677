use Rattle.std.proofs.Common.{◌≡◌, ◌++◌, drop}
use Rattle.st_learn.specs.Learnt.{filters_added}
use Rattle.st_audit.specs.LearntText.{rows_text}
use Rattle.st_learn.specs.Sessions.{places_of}
use Rattle.st_learn.proofs.Filters.{filters_at, is_any}
use Rattle.st_audit.proofs.learnt.append_added.Given as goal

-- the text, and the rows that are left, are together the whole text
abbrev pub invariant-loop-place : goal.invariant-loop-place
invariant-loop-place l = record {
  items : l.place-items ≡ places_of l.session.filters l.policy;
  written : l.out ++ rows_text (filters_at l.session.filters is_any (drop l.place-index l.place-items)) l.emulation ≡ l.initial.out ++ rows_text (filters_added l.session.filters l.policy) l.emulation;
}
