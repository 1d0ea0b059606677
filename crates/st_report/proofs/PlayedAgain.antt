-- The lines printed of choices that were enabled make the same choices again.
use native.Mathlib.Omega.{arith}
use Rattle.std.proofs.Common.{◌≡◌, ℕ, zero, suc, ◌≤◌, List, [], ◌∷◌, ◌++◌, length, replicate, reverse, Option, Some, None, refl, sym, ap, subst, ◌∙◌}
use Rattle.std.proofs.lemmas.List.{append_assoc, append-nil, length-reverse, reverse-append}
use Rattle.st_trace.specs.declared.entry.Choice.{Choice}
use Rattle.st_trace.specs.declared.entry.Entry.{Entry}
use Rattle.st_law.specs.declared.input.Input.{Input}
use Rattle.st_law.specs.Machine.{entry_of, history, history_with, run, state_after, state_at, state_of_run}
use Rattle.st_law.specs.Schedules.{Choices, Played, further_on, line_on, lines_played, played, repeated}
use Rattle.st_report.specs.ScheduleText.{schedule_lines_from, printed_schedule, repeats_of, spelled_choices}
use Rattle.st_report.specs.declared.schedule.Repeat.{Repeat}
use Rattle.st_report.proofs.Repeats.{spelled_again}

module _ (i : Input) where
  -- ---- each choice is enabled at its turn

  -- each of these choices, the newest first, was enabled
  abbrev pub AreEnabled : List Choice → Type 0
  AreEnabled [] = Unit {0}
  AreEnabled (c ∷ cs) = ((e : Entry) × (entry_of i (state_at i (history i cs)) c ≡ Some e)) × AreEnabled cs

  one_more_at_most : (h : List Entry) (o : Option Entry) (n : ℕ) → length h ≤ n → length (history_with h o) ≤ suc n
  one_more_at_most h None n high = omega (arith, high)
  one_more_at_most h (Some e) n high = omega (arith, high)

  no_more : (cs : List Choice) → length (history i cs) ≤ length cs
  no_more [] = omega arith
  no_more (c ∷ cs) = one_more_at_most (history i cs) (entry_of i (state_at i (history i cs)) c) (length cs) (no_more cs)

  enabled_by : (c : Choice) (cs : List Choice) → (length (history i cs) ≡ length cs → AreEnabled cs) → length (history i (c ∷ cs)) ≡ suc (length cs)
      → (o : Option Entry) → entry_of i (state_at i (history i cs)) c ≡ o → AreEnabled (c ∷ cs)
  enabled_by c cs earlier e None f =
      let g : length (history i cs) ≡ suc (length cs) = sym (ap (λ o. length (history_with (history i cs) o)) f) ∙ e in
      let most = no_more cs in absurd (omega (arith, g, most))
  enabled_by c cs earlier e (Some entry) f =
      let g : suc (length (history i cs)) ≡ suc (length cs) = sym (ap (λ o. length (history_with (history i cs) o)) f) ∙ e in
      ((entry, f), earlier (omega (arith, g)))

  all_enabled : (cs : List Choice) → length (history i cs) ≡ length cs → AreEnabled cs
  all_enabled [] e = tt
  all_enabled (c ∷ cs) e = enabled_by c cs (all_enabled cs) e (entry_of i (state_at i (history i cs)) c) refl

  -- the choices of a run that has an entry for each
  pub enabled_of_run : (choices : List Choice) → length (run i choices) ≡ length choices → AreEnabled (reverse choices)
  enabled_of_run choices e = all_enabled (reverse choices) (sym (length-reverse (history i (reverse choices))) ∙ e ∙ sym (length-reverse choices))

  enabled_before : (later earlier : List Choice) → AreEnabled (later ++ earlier) → AreEnabled earlier
  enabled_before [] earlier x = x
  enabled_before (c ∷ later) earlier x = enabled_before later earlier x.1

  turned : (front : List Choice) (c : Choice) (rest : List Choice) → reverse (front ++ c ∷ rest) ≡ reverse rest ++ c ∷ reverse front
  turned front c rest = reverse-append front (c ∷ rest) ∙ ap (λ cs. cs ++ reverse front) (reverse-append (c ∷ []) rest) ∙ append_assoc (reverse rest) (c ∷ []) (reverse front)

  next_entry : (front : List Choice) (c : Choice) (rest : List Choice) → AreEnabled (reverse (front ++ c ∷ rest)) → (e : Entry) × (entry_of i (state_of_run i front) c ≡ Some e)
  next_entry front c rest x = (enabled_before (reverse rest) (c ∷ reverse front) (subst AreEnabled (turned front c rest) x)).0

  next_state : (front : List Choice) (c : Choice) (e : Entry) → entry_of i (state_of_run i front) c ≡ Some e → state_after i (state_of_run i front) e ≡ state_of_run i (front ++ c ∷ [])
  next_state front c e there =
      sym (ap (state_at i) (ap (history i) (reverse-append front (c ∷ [])) ∙ ap (history_with (history i (reverse front))) there))

  -- ---- lines

  -- the state that a run by choices has reached
  abbrev played_to : List Choice → Played
  played_to front = record { choices = front; state = state_of_run i front }

  repeated_again : (n : ℕ) (c : Choice) (front rest : List Choice) → AreEnabled (reverse (front ++ (replicate n c ++ rest))) → repeated n c i (played_to front) ≡ Some (played_to (front ++ replicate n c))
  repeated_again zero c front rest x = ap (λ cs. Some (played_to cs)) (sym (append-nil front))
  repeated_again (suc n) c front rest x =
      let next = next_entry front c (replicate n c ++ rest) x in
      ap (further_on (λ e. repeated n c i (record { choices = front ++ c ∷ []; state = state_after i (state_of_run i front) e }))) next.1
      ∙ ap (λ st. repeated n c i (record { choices = front ++ c ∷ []; state = st })) (next_state front c next.0 next.1)
      ∙ repeated_again n c (front ++ c ∷ []) rest (subst (λ cs. AreEnabled (reverse cs)) (sym (append_assoc front (c ∷ []) (replicate n c ++ rest))) x)
      ∙ ap (λ cs. Some (played_to cs)) (append_assoc front (c ∷ []) (replicate n c))

  lines_again : (line : ℕ) (repeats : List Repeat) (front : List Choice) → AreEnabled (reverse (front ++ spelled_choices repeats)) → lines_played (schedule_lines_from line repeats) None i (played_to front) ≡ Choices (front ++ spelled_choices repeats)
  lines_again line [] front x = ap Choices (sym (append-nil front))
  lines_again line (each ∷ repeats) front x =
      ap (line_on line (λ after. lines_played (schedule_lines_from (suc line) repeats) None i after)) (repeated_again each.times each.choice front (spelled_choices repeats) x)
      ∙ lines_again (suc line) repeats (front ++ replicate each.times each.choice) (subst (λ cs. AreEnabled (reverse cs)) (sym (append_assoc front (replicate each.times each.choice) (spelled_choices repeats))) x)
      ∙ ap Choices (append_assoc front (replicate each.times each.choice) (spelled_choices repeats))

  pub played_again : (choices : List Choice) → length (run i choices) ≡ length choices → played i (printed_schedule choices) ≡ Choices choices
  played_again choices e =
      lines_again 1 (repeats_of choices) [] (subst (λ cs. AreEnabled (reverse cs)) (sym (spelled_again choices)) (enabled_of_run choices e))
      ∙ ap Choices (spelled_again choices)
