-- The kinds of meanings that each command has.
use Rattle.st_reading.specs.Meaning.{Meaning, Runs, Replays, Prints}

-- a stop, a refusal, or a run
abbrev pub OnlyRuns : Meaning → Type 0
OnlyRuns (Replays input text) = ⊥
OnlyRuns (Prints text) = ⊥
OnlyRuns _ = Unit {0}

-- a stop, a refusal, or a replay
abbrev pub OnlyReplays : Meaning → Type 0
OnlyReplays (Runs input schedule) = ⊥
OnlyReplays (Prints text) = ⊥
OnlyReplays _ = Unit {0}

-- a stop, a refusal, or a text without a run
abbrev pub OnlyPrints : Meaning → Type 0
OnlyPrints (Runs input schedule) = ⊥
OnlyPrints (Replays input text) = ⊥
OnlyPrints _ = Unit {0}
