-- A schedule is played as a run in which each choice is enabled at its turn.
use native.Mathlib.Omega.{arith}
use Rattle.std.proofs.Common.{◌≡◌, ℕ, zero, suc, List, [], ◌∷◌, ◌++◌, length, reverse, Option, Some, None, refl, sym, ap, subst, ◌∙◌, length-append}
use Rattle.std.proofs.lemmas.List.{length-reverse, reverse-append}
use Rattle.std.proofs.lemmas.Option.{same_Some}
use Rattle.st_trace.specs.declared.entry.Choice.{Choice}
use Rattle.st_trace.specs.declared.entry.Entry.{Entry}
use Rattle.st_law.specs.declared.input.Input.{Input}
use Rattle.st_law.specs.declared.input.ReadSchedule.{ReadSchedule}
use Rattle.st_law.specs.declared.input.ScheduleLine.{ScheduleLine}
use Rattle.st_law.specs.declared.input.What.{What}
use Rattle.st_law.specs.declared.input.What.TheVariants.{Choose, Rest}
use Rattle.st_law.specs.Machine.{entry_of, first_state, history, history_with, run, state_after, state_at, state_of_run}
use Rattle.st_law.specs.Schedules.{BadLine, Choices, EnabledChoice, Played, ScheduleOutcome, ending_of, first_enabled, further_on, line_on, line_played, lines_played, most_steps, played, repeated, rest_from, rest_on}
use Rattle.st_law.proofs.Resting.{first_found}

module _ (i : Input) where
  -- choices, each of which was enabled, and the state after them
  record IsRun (p : Played) : Type 0 where
    reached : p.state ≡ state_of_run i p.choices
    enabled : length (history i (reverse p.choices)) ≡ length p.choices

  one_more : (p : Played) (c : Choice) (e : Entry) → IsRun p → entry_of i p.state c ≡ Some e → IsRun (record { choices = p.choices ++ c ∷ []; state = state_after i p.state e })
  one_more p c e x enabled =
      let there : entry_of i (state_of_run i p.choices) c ≡ Some e = ap (λ st. entry_of i st c) (sym x.reached) ∙ enabled in
      let same : history i (reverse (p.choices ++ c ∷ [])) ≡ e ∷ history i (reverse p.choices) = ap (history i) (reverse-append p.choices (c ∷ [])) ∙ ap (history_with (history i (reverse p.choices))) there in
      record {
        reached = ap (λ st. state_after i st e) x.reached ∙ sym (ap (state_at i) same);
        enabled = ap length same ∙ (let before = x.enabled in let more = length-append p.choices (c ∷ []) in omega (arith, before, more));
      }

  -- ---- lines

  -- every played result is a run
  abbrev AllRun : Option Played → Type 0
  AllRun o = (after : Played) → o ≡ Some after → IsRun after

  stepped : (count : ℕ) (c : Choice) (p : Played) → IsRun p → ((next : Played) → IsRun next → AllRun (repeated count c i next)) → (o : Option Entry) → entry_of i p.state c ≡ o
      → AllRun (further_on (λ e. repeated count c i (record { choices = p.choices ++ c ∷ []; state = state_after i p.state e })) o)
  stepped count c p x later None e = λ after f. cc
  stepped count c p x later (Some entry) e = later (record { choices = p.choices ++ c ∷ []; state = state_after i p.state entry }) (one_more p c entry x e)

  repeated_runs : (count : ℕ) (c : Choice) (p : Played) → IsRun p → AllRun (repeated count c i p)
  repeated_runs zero c p x = λ after e. subst IsRun (same_Some p after e) x
  repeated_runs (suc count) c p x = stepped count c p x (repeated_runs count c) (entry_of i p.state c) refl

  rested : (count : ℕ) (p : Played) → IsRun p → ((next : Played) → IsRun next → IsRun (rest_from count i next.state next.choices)) → (o : Option EnabledChoice) → first_enabled i p.state ≡ o
      → IsRun (rest_on p (λ found. rest_from count i (state_after i p.state found.entry) (p.choices ++ found.choice ∷ [])) o)
  rested count p x later None e = x
  rested count p x later (Some found) e = later (record { choices = p.choices ++ found.choice ∷ []; state = state_after i p.state found.entry })
      (one_more p found.choice found.entry x (first_found i p.state found e))

  rest_runs : (count : ℕ) (p : Played) → IsRun p → IsRun (rest_from count i p.state p.choices)
  rest_runs zero p x = x
  rest_runs (suc count) p x = rested count p x (rest_runs count) (first_enabled i p.state) refl

  line_runs : (what : What) (count : ℕ) (p : Played) → IsRun p → AllRun (line_played what count i p)
  line_runs (Choose c) count p x = repeated_runs count c p x
  line_runs Rest count p x = λ after e. subst IsRun (same_Some (rest_from (most_steps i) i p.state p.choices) after e) (rest_runs (most_steps i) p x)

  -- ---- schedules

  -- the outcome of a schedule, if it is choices, is a run
  abbrev Runs : ScheduleOutcome → Type 0
  Runs (Choices choices) = length (history i (reverse choices)) ≡ length choices
  Runs (BadLine line) = Unit {0}

  ended : (bad : Option ℕ) (p : Played) → IsRun p → Runs (ending_of bad p)
  ended None p x = x.enabled
  ended (Some line) p x = tt

  line_gone_on : (line : ℕ) (further : Played → ScheduleOutcome) → ((p : Played) → IsRun p → Runs (further p)) → (o : Option Played) → AllRun o → Runs (line_on line further o)
  line_gone_on line further rest None x = tt
  line_gone_on line further rest (Some after) x = rest after (x after refl)

  lines_run : (lines : List ScheduleLine) (bad : Option ℕ) (p : Played) → IsRun p → Runs (lines_played lines bad i p)
  lines_run [] bad p x = ended bad p x
  lines_run (each ∷ lines) bad p x = line_gone_on each.line (λ after. lines_played lines bad i after) (lines_run lines bad) (line_played each.what each.count i p) (line_runs each.what each.count p x)

  pub enabled_at_its_turn : (schedule : ReadSchedule) (choices : List Choice) → played i schedule ≡ Choices choices → length (run i choices) ≡ length choices
  enabled_at_its_turn schedule choices e =
      length-reverse (history i (reverse choices))
      ∙ subst Runs e (lines_run schedule.lines schedule.bad (record { choices = []; state = first_state i }) (record { reached = refl; enabled = refl }))
