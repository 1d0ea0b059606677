-- When a process is live, by its threads and by their counts, and when a thread is its last.
use Rattle.std.proofs.Common.{◌≡◌, ◌≢◌, ℕ, ◌+◌, ◌==◌, ◌||◌, not, Bool, true, false, cond, List, [], ◌∷◌, Option, Some, None, inl, inr, refl, ap, sym, ◌∙◌, subst, arith}
use Rattle.std.proofs.lemmas.Bool.{true≢false, and_from, and_parts, and_right, ne_eqb, not-true, or_left, cases_eq, eq-eqb, eqb-true, false_from_ne_true, lt-ltb, le-ltb}
use Rattle.std.proofs.lemmas.List.Sums.{sum_by-cons}
use Rattle.std.specs.List.{count_by, list_any}
use Rattle.std.specs.Map.{values_of}
use Rattle.std.specs.Option.{option_map}
use Rattle.std.specs.Prelude.{nat_lt, ◌↔◌}
use Rattle.st_model.specs.Processes.{Processes, StartedThread, IsPid, processes_after_end_at, is_process_live, is_thread_of, is_running, is_pid, pid_of, has_not_ended, is_running_in, thread_at, processes_after_end, with_thread}
use Rattle.st_procs.specs.Laws.{AreOrdered, HasEnded, HasNoThread, IsLast, ProcessesEndWithLastThread, NewProcessesAreLive, ThreadEnds}
use Rattle.st_procs.specs.Rows.{thread_counts}
use Rattle.st_procs.specs.declared.rows.ThreadCounts.{ThreadCounts}
use Rattle.st_procs.proofs.Counts.{found}
use Rattle.st_base.proofs.Insertions.{lookup-insert_number}
use Rattle.st_procs.proofs.Lookups.{keys-kept, present-any}

-- ---- tests that pass, and threads that are found

-- a test passes for some item exactly if the count of items that pass isn't 0
counted-by : {X : Type 0} (p : X → Bool) (x : X) (xs : List X) → list_any p xs ≡ nat_lt 0 (count_by p xs) → (b : Bool) → p x ≡ b → list_any p (x ∷ xs) ≡ nat_lt 0 (count_by p (x ∷ xs))
counted-by p x xs more true is =
    let total : count_by p (x ∷ xs) ≡ cond (p x) 1 0 + count_by p xs = sum_by-cons (λ x. cond (p x) 1 0) x xs in
    let one = ap (λ b. cond {A = ℕ} b 1 0) is in
    or_left (p x) (list_any p xs) is ∙ sym (lt-ltb 0 (count_by p (x ∷ xs)) (omega (arith, total, one)))
counted-by p x xs more false is = rw is more

pub any_counted : {X : Type 0} (p : X → Bool) (xs : List X) → list_any p xs ≡ nat_lt 0 (count_by p xs)
any_counted p [] = refl
any_counted p (x ∷ xs) = counted-by p x xs (any_counted p xs) (p x) refl

-- the process of a thread that is found
pub of_found : (o : Option StartedThread) (pid : ℕ) → option_map (λ (t : StartedThread). t.pid) o ≡ Some pid → (t : StartedThread) × (o ≡ Some t) × (t.pid ≡ pid)
of_found None pid is = absurd cc
of_found (Some t) pid is = (t, refl, cc)

-- ---- live processes

there : (p : Processes) (pid : ℕ) → IsPid p pid → is_pid p pid ≡ true
there p pid is = and_from _ _ (lt-ltb 0 pid is.0) (lt-ltb pid _ is.1)

-- whether a process that exists is live
pub live-is_pid : (p : Processes) (pid : ℕ) → IsPid p pid → is_process_live p pid ≡ (not (list_any (is_thread_of pid) (values_of p.threads)) || list_any (is_running_in pid) (values_of p.threads))
live-is_pid p pid is = rw (there p pid is) refl

module _ (p : Processes) (pid : ℕ) where
  -- the process has some thread
  pub has : (tid : ℕ) → pid_of p tid ≡ Some pid → list_any (is_thread_of pid) (values_of p.threads) ≡ true
  has tid is =
      let t = of_found (thread_at p tid) pid is in
      any_counted (is_thread_of pid) (values_of p.threads) ∙ lt-ltb 0 _ (found (is_thread_of pid) p.threads tid t.0 t.1 (eq-eqb t.0.pid pid t.2))

  -- the process has some thread that runs
  has_running : (tid : ℕ) (t : StartedThread) → thread_at p tid ≡ Some t → is_running_in pid t ≡ true → list_any (is_running_in pid) (values_of p.threads) ≡ true
  has_running tid t is passes = any_counted (is_running_in pid) (values_of p.threads) ∙ lt-ltb 0 _ (found (is_running_in pid) p.threads tid t is passes)

  pub none_runs : AreOrdered p → ((tid : ℕ) → pid_of p tid ≡ Some pid → is_running p tid ≡ false) → list_any (is_running_in pid) (values_of p.threads) ≡ false
  none_runs ordered ended = false_from_ne_true _ (λ some.
      let one = present-any (is_running_in pid) p.threads ordered some in
      let parts = and_parts (one.1.pid == pid) (not one.1.ended) one.3 in
      let is : pid_of p one.0 ≡ Some pid = ap (option_map (λ (t : StartedThread). t.pid)) one.2 ∙ ap Some (eqb-true one.1.pid pid parts.0) in
      true≢false (sym parts.1 ∙ sym (ap has_not_ended one.2) ∙ ended one.0 is))

  pub none_is : AreOrdered p → HasNoThread p pid → list_any (is_thread_of pid) (values_of p.threads) ≡ false
  none_is ordered none = false_from_ne_true _ (λ some.
      let one = present-any (is_thread_of pid) p.threads ordered some in
      none one.0 (ap (option_map (λ (t : StartedThread). t.pid)) one.2 ∙ ap Some (eqb-true one.1.pid pid one.3)))

  -- if none runs, each thread has ended
  ended : list_any (is_running_in pid) (values_of p.threads) ≡ false → (tid : ℕ) → pid_of p tid ≡ Some pid → is_running p tid ≡ false
  ended none tid is = false_from_ne_true _ (λ running.
      let t = of_found (thread_at p tid) pid is in
      true≢false (sym (has_running tid t.0 t.1 (and_from _ _ (eq-eqb t.0.pid pid t.2) (sym (ap has_not_ended t.1) ∙ running))) ∙ none))

pub new_ones_live : NewProcessesAreLive
new_ones_live p pid ordered is none = live-is_pid p pid is ∙ rw (none_is p pid ordered none) refl

-- ---- processes that have ended

-- if a process isn't live, it has threads, and each has ended
ended_of : (p : Processes) (pid : ℕ) → AreOrdered p → (h r : Bool) → h ≡ list_any (is_thread_of pid) (values_of p.threads) → r ≡ list_any (is_running_in pid) (values_of p.threads) → (not h || r) ≡ false → HasEnded p pid
ended_of p pid ordered false r h_is r_is dead = absurd (true≢false dead)
ended_of p pid ordered true r h_is r_is dead =
    let one = present-any (is_thread_of pid) p.threads ordered (sym h_is) in
    ((one.0, ap (option_map (λ (t : StartedThread). t.pid)) one.2 ∙ ap Some (eqb-true one.1.pid pid one.3)), ended p pid (sym r_is ∙ dead))

pub ended_iff : (p : Processes) (pid : ℕ) → AreOrdered p → IsPid p pid → (b : Bool) → b ≡ is_process_live p pid → (b ≡ false) ↔ HasEnded p pid
ended_iff p pid ordered is b b_is = (
  λ dead. ended_of p pid ordered _ _ refl refl (sym (live-is_pid p pid is) ∙ sym b_is ∙ dead),
  λ has_ended. b_is ∙ live-is_pid p pid is ∙ rw (has p pid has_ended.0.0 has_ended.0.1, none_runs p pid ordered has_ended.1) refl,
)

-- a thread ends
module _ (p : Processes) (tid : ℕ) (t : StartedThread) (is : thread_at p tid ≡ Some t) (ordered : AreOrdered p) where
  abbrev over : StartedThread
  over = record { pid = t.pid; ended = true }

  abbrev new : Processes
  new = with_thread p tid over

  ordered_now : AreOrdered new
  ordered_now = rw (keys-kept tid over t p.threads ordered is) ordered

  at_own : thread_at new tid ≡ Some over
  at_own = lookup-insert_number tid tid over p.threads ∙ rw (eq-eqb tid tid refl) refl

  at_other : (other : ℕ) → other ≢ tid → thread_at new other ≡ thread_at p other
  at_other other ne = lookup-insert_number other tid over p.threads ∙ rw (ne_eqb other tid ne) refl

  pub own_has : list_any (is_thread_of t.pid) (values_of new.threads) ≡ true
  own_has = has new t.pid tid (ap (option_map (λ (t : StartedThread). t.pid)) at_own)

  -- if none runs afterwards, the thread was the last
  pub last_of : list_any (is_running_in t.pid) (values_of new.threads) ≡ false → IsLast p tid
  last_of none other ne same =
      let own : pid_of p tid ≡ Some t.pid = ap (option_map (λ (t : StartedThread). t.pid)) is in
      sym (ap has_not_ended (at_other other ne)) ∙ ended new t.pid none other (ap (option_map (λ (t : StartedThread). t.pid)) (at_other other ne) ∙ same ∙ own)

  not_running : IsLast p tid → (other : ℕ) → pid_of new other ≡ Some t.pid → is_running new other ≡ false
  not_running last other is_other = elim (cases_eq other tid) [
    | inl e ↦ rw e (ap has_not_ended at_own)
    | inr ne ↦ ap has_not_ended (at_other other ne) ∙ last other ne (sym (ap (option_map (λ (t : StartedThread). t.pid)) (at_other other ne)) ∙ is_other ∙ sym (ap (option_map (λ (t : StartedThread). t.pid)) is))
  ]

  pub none_of : IsLast p tid → list_any (is_running_in t.pid) (values_of new.threads) ≡ false
  none_of last = none_runs new t.pid ordered_now (not_running last)

ends : (p : Processes) (tid : ℕ) (t : StartedThread) → thread_at p tid ≡ Some t → AreOrdered p → IsLast p tid → is_process_live (processes_after_end p tid) t.pid ≡ false
ends p tid t is ordered last =
    let dead : is_process_live (with_thread p tid (record { pid = t.pid; ended = true })) t.pid ≡ false =
    and_right (is_pid (with_thread p tid (record { pid = t.pid; ended = true })) t.pid) _ (ap (λ h. not h || list_any (is_running_in t.pid) (values_of (with_thread p tid (record { pid = t.pid; ended = true })).threads)) (own_has p tid t is ordered) ∙ none_of p tid t is ordered last) in
    ap (λ o. is_process_live (processes_after_end_at p tid o) t.pid) is ∙ dead

pub last_ones_end : ProcessesEndWithLastThread
last_ones_end p tid pid ordered is last =
    let t = of_found (thread_at p tid) pid is in
    subst (λ n. is_process_live (processes_after_end p tid) n ≡ false) t.2 (ends p tid t.0 t.1 ordered last)

-- ---- threads that are the last

-- if a process with threads isn't live, none of them runs
dead-runs : (h r : Bool) → h ≡ true → (not h || r) ≡ false → r ≡ false
dead-runs true r is dead = dead
dead-runs false r is dead = absurd (true≢false dead)

last_dead : (p : Processes) (tid : ℕ) (t : StartedThread) → thread_at p tid ≡ Some t → AreOrdered p → IsPid p t.pid → is_process_live (processes_after_end p tid) t.pid ≡ false → IsLast p tid
last_dead p tid t is ordered there dead =
    let now : processes_after_end p tid ≡ with_thread p tid (record { pid = t.pid; ended = true }) = ap (processes_after_end_at p tid) is in
    let there_now : IsPid (with_thread p tid (record { pid = t.pid; ended = true })) t.pid = there in
    last_of p tid t is ordered (dead-runs _ _ (own_has p tid t is ordered) (sym (live-is_pid _ t.pid there_now) ∙ sym (ap (λ (p : Processes). is_process_live p t.pid) now) ∙ dead))

pub last_iff : (p : Processes) (tid pid : ℕ) → AreOrdered p → pid_of p tid ≡ Some pid → IsPid p pid → (b : Bool) → b ≡ is_process_live (processes_after_end p tid) pid → (not b ≡ true) ↔ IsLast p tid
last_iff p tid pid ordered is there b b_is =
    let t = of_found (thread_at p tid) pid is in (
      λ dead. last_dead p tid t.0 t.1 ordered (subst (IsPid p) (sym t.2) there) (ap (λ n. is_process_live (processes_after_end p tid) n) t.2 ∙ sym b_is ∙ not-true b dead),
      λ last. ap not (b_is ∙ last_ones_end p tid pid ordered is last),
    )

-- ---- by the counts of threads

-- whether a process is live, by its counts
pub live_new : (p : Processes) (pid : ℕ) (n : ThreadCounts) → IsPid p pid → n ≡ thread_counts p.threads pid → n.begun ≡ 0 → is_process_live p pid ≡ true
live_new p pid n is n_is none =
    let count : count_by (is_thread_of pid) (values_of p.threads) ≡ 0 = sym (ap (λ (n : ThreadCounts). n.begun) n_is) ∙ none in
    let no : list_any (is_thread_of pid) (values_of p.threads) ≡ false = any_counted (is_thread_of pid) (values_of p.threads) ∙ le-ltb 0 (count_by (is_thread_of pid) (values_of p.threads)) (omega (arith, count)) in
    live-is_pid p pid is ∙ ap (λ h. not h || list_any (is_running_in pid) (values_of p.threads)) no

pub live_begun : (p : Processes) (pid : ℕ) (n : ThreadCounts) → IsPid p pid → n ≡ thread_counts p.threads pid → n.begun ≢ 0 → nat_lt 0 n.running ≡ is_process_live p pid
live_begun p pid n is n_is some =
    let count : n.begun ≡ count_by (is_thread_of pid) (values_of p.threads) = ap (λ (n : ThreadCounts). n.begun) n_is in
    let yes : list_any (is_thread_of pid) (values_of p.threads) ≡ true = any_counted (is_thread_of pid) (values_of p.threads) ∙ lt-ltb 0 (count_by (is_thread_of pid) (values_of p.threads)) (omega (arith, count, some)) in
    ap (λ (n : ThreadCounts). nat_lt 0 n.running) n_is ∙ sym (any_counted (is_running_in pid) (values_of p.threads))
    ∙ sym (live-is_pid p pid is ∙ ap (λ h. not h || list_any (is_running_in pid) (values_of p.threads)) yes)

-- ---- what the end of a thread changes

threads_end-by : (p : Processes) (tid : ℕ) (o : Option StartedThread) → thread_at p tid ≡ o → ThreadEnds p tid (processes_after_end_at p tid o)
threads_end-by p tid None is = λ other. elim (cases_eq other tid) [
  | inl e ↦ rw (eq-eqb other tid e, e, is) refl
  | inr ne ↦ rw (ne_eqb other tid ne) refl
]
threads_end-by p tid (Some t) is = λ other. lookup-insert_number other tid (record { pid = t.pid; ended = true }) p.threads ∙
    ap (λ o. cond (other == tid) (option_map (λ (thread : StartedThread). record { pid = thread.pid; ended = true }) o) (thread_at p other)) (sym is)

pub threads_end : (p : Processes) (tid : ℕ) → ThreadEnds p tid (processes_after_end p tid)
threads_end p tid = threads_end-by p tid (thread_at p tid) refl
