-- The copies of directories that renewals need are made thread by thread, those of the last thread first.
use native.Mathlib.Omega.{arith}
use Rattle.std.proofs.Common.{◌≡◌, ◌≤◌, ◌+◌, ◌∙◌, ℕ, suc, drop, List, [], ◌∷◌, ◌++◌, length, Option, Some, None, refl, ap, sym, length-append}
use Rattle.st_model.specs.Processes.{Processes, process_at}
use Rattle.st_names.specs.Name.{Components}
use Rattle.st_threads.specs.Renewing.{call_renewed, calls_from, cwds_of, with_call, TakesCwd}
use Rattle.st_threads.specs.Thread.{ThreadRow}
use Rattle.st_threads.specs.declared.renewing.RenewedCall.{RenewedCall}

count_if : (call : Option RenewedCall) (calls : List RenewedCall) → length (with_call call calls) ≤ suc (length calls)
count_if None calls = omega arith
count_if (Some call) calls = omega arith

-- at most as many calls are renewed as there are threads
count_calls : (pids : ℕ → Option ℕ) (t : ℕ) (rows : List ThreadRow) → length (calls_from pids t rows) ≤ length rows
count_calls pids t [] = omega arith
count_calls pids t (row ∷ rows) =
    let more = count_if (call_renewed pids t row) (calls_from pids (suc t) rows) in
    let rest = count_calls pids (suc t) rows in
    omega (arith, more, rest)

module _ (processes : Processes) where
  count_cwds : (calls : List RenewedCall) → length (cwds_of processes calls) ≡ length calls
  count_cwds [] = refl
  count_cwds (call ∷ calls) =
      let one = length-append (cwds_of processes calls) ((process_at processes call.pid).cwd ∷ []) in
      let rest = count_cwds calls in
      omega (arith, one, rest)

  -- at most as many directories are copied
  pub few_cwds : (pids : ℕ → Option ℕ) (t : ℕ) (rows : List ThreadRow) → length (cwds_of processes (calls_from pids t rows)) ≤ length rows
  few_cwds pids t rows = let count = count_cwds (calls_from pids t rows) in let most = count_calls pids t rows in omega (arith, count, most)

  one_more : (call : Option RenewedCall) (calls : List RenewedCall) (cwds new : List Components) → cwds ≡ cwds_of processes calls → TakesCwd processes call new cwds → new ≡ cwds_of processes (with_call call calls)
  one_more None calls cwds new is takes = takes ∙ is
  one_more (Some call) calls cwds new is takes = takes ∙ ap (λ (l : List Components). l ++ (process_at processes call.pid).cwd ∷ []) is

  -- the copy for the thread before these is made
  pub next_copied : (pids : ℕ → Option ℕ) (rows : List ThreadRow) (n after : ℕ) → after ≡ n + 1 → (row : ThreadRow) → drop n rows ≡ row ∷ drop (n + 1) rows → (call : Option RenewedCall) → call ≡ call_renewed pids (n + 1) row
      → (cwds new : List Components) → TakesCwd processes call new cwds → cwds ≡ cwds_of processes (calls_from pids (suc after) (drop after rows)) → new ≡ cwds_of processes (calls_from pids (suc n) (drop n rows))
  next_copied pids rows n after after_is row here call call_is cwds new takes copied =
      let one : n + 1 ≡ suc n = omega arith in
      let is : call ≡ call_renewed pids (suc n) row = call_is ∙ ap (λ (t : ℕ). call_renewed pids t row) one in
      one_more call (calls_from pids (suc (n + 1)) (drop (n + 1) rows)) cwds new (copied ∙ ap (λ (k : ℕ). cwds_of processes (calls_from pids (suc k) (drop k rows))) after_is) takes
      ∙ (λ k. cwds_of processes (with_call (is k) (calls_from pids (suc (one k)) (drop (n + 1) rows))))
      ∙ ap (λ (l : List ThreadRow). cwds_of processes (calls_from pids (suc n) l)) (sym here)
