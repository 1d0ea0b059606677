-- The counts of threads stay right when processes start, and when threads start and end.
use Rattle.std.proofs.Common.{◌≡◌, ◌≢◌, zero, suc, ℕ, ◌+◌, ◌-◌, ◌^◌, ◌<◌, ◌≤◌, Bool, true, false, cond, List, [], ◌∷◌, ◌++◌, Some, None, inl, inr, length, refl, ap, sym, ◌∙◌, arith}
use Rattle.std.proofs.Math.ListN.{get_or-eq_default}
use Rattle.std.proofs.lemmas.Bool.{cases_eq, cases_lt, eq-eqb, ne_eqb}
use Rattle.std.proofs.lemmas.Cmp.{nat_cmp_total}
use Rattle.std.proofs.lemmas.List.{length-append, length-set}
use Rattle.std.proofs.lemmas.List.Sums.{count_by-le-length}
use Rattle.std.proofs.lemmas.Map.Entries.{length-keys_of, length-values_of, sum_by-insert_entry, sum_by-remove_entry}
use Rattle.std.proofs.lemmas.Map.Views.{All-keys-insert_entry, length-le_from_below}
use Rattle.std.specs.BTreeMap.{insert_entry, is_at}
use Rattle.std.specs.List.{All, count_by, sum_by}
use Rattle.std.specs.List.Sorted.{IsStrictlySortedBy}
use Rattle.std.specs.Map.{keys_of, lookup, remove_entry, values_of}
use Rattle.std.specs.Option.{option_map, unwrap_or}
use Rattle.std.specs.Ordering.{nat_cmp}
use Rattle.st_model.specs.Processes.{StartedThread, is_thread_of, is_running_in}
use Rattle.st_base.specs.Numbered.{item_at_number_or, with_item_at_number}
use Rattle.st_procs.specs.Rows.{AreCounted, thread_counts, no_threads}
use Rattle.st_procs.specs.declared.rows.ThreadCounts.{ThreadCounts}
use Rattle.st_procs.proofs.Numbered.{at_number-push, at_number-put}

-- ---- threads that pass a test

abbrev pub pair : ℕ → ℕ → ThreadCounts
pair begun running = record { begun = begun; running = running }

pair-same : (a b c d : ℕ) → a ≡ c → b ≡ d → pair a b ≡ pair c d
pair-same a b c d p q = λ i. pair (p i) (q i)

abbrev counts-one : (StartedThread → Bool) → StartedThread → ℕ
counts-one p thread = cond (p thread) 1 0

module _ (es : List (ℕ × StartedThread)) (tid : ℕ) (thread : StartedThread) (ordered : IsStrictlySortedBy nat_cmp (keys_of es)) where
  -- a thread is inserted where none was
  put_in : (p : StartedThread → Bool) → lookup (is_at (nat_cmp tid)) es ≡ None → count_by p (values_of (insert_entry nat_cmp es tid thread)) ≡ count_by p (values_of es) + cond (p thread) 1 0
  put_in p none =
      let total : sum_by (counts-one p) (values_of (insert_entry nat_cmp es tid thread)) + unwrap_or (option_map (counts-one p) (lookup (is_at (nat_cmp tid)) es)) 0 ≡ sum_by (counts-one p) (values_of es) + counts-one p thread = sum_by-insert_entry (counts-one p) nat_cmp_total es tid thread ordered in
      let now = rw none at total in
      omega (arith, now)

  -- a thread replaces another
  put_over : (p : StartedThread → Bool) (before : StartedThread) → lookup (is_at (nat_cmp tid)) es ≡ Some before → count_by p (values_of (insert_entry nat_cmp es tid thread)) + cond (p before) 1 0 ≡ count_by p (values_of es) + cond (p thread) 1 0
  put_over p before is =
      let total : sum_by (counts-one p) (values_of (insert_entry nat_cmp es tid thread)) + unwrap_or (option_map (counts-one p) (lookup (is_at (nat_cmp tid)) es)) 0 ≡ sum_by (counts-one p) (values_of es) + counts-one p thread = sum_by-insert_entry (counts-one p) nat_cmp_total es tid thread ordered in
      rw is at total

-- a thread that is found and passes the test is counted
pub found : (p : StartedThread → Bool) (es : List (ℕ × StartedThread)) (tid : ℕ) (thread : StartedThread) → lookup (is_at (nat_cmp tid)) es ≡ Some thread → p thread ≡ true → 0 < count_by p (values_of es)
found p es tid thread is passes =
    let total : sum_by (counts-one p) (values_of (remove_entry (is_at (nat_cmp tid)) es)) + unwrap_or (option_map (counts-one p) (lookup (is_at (nat_cmp tid)) es)) 0 ≡ sum_by (counts-one p) (values_of es) = sum_by-remove_entry (counts-one p) (is_at (nat_cmp tid)) es in
    let now = rw (is, passes) at total in
    omega (arith, now)

-- ---- the counts of a process

-- a number with a thread in its counts is that of a process
there : (counts : List ThreadCounts) (pid : ℕ) → 0 < (item_at_number_or no_threads counts pid).begun → (0 < pid) × (pid ≤ length counts)
there counts zero some = absurd (omega (arith, some))
there counts (suc k) some = elim (cases_lt k (length counts)) [
  | inl inside ↦ (omega arith, omega (arith, inside))
  | inr past ↦ absurd (let none = rw (get_or-eq_default counts no_threads past) at some in omega (arith, none))
]

length-put : {X : Type 0} (xs : List X) (n : ℕ) (x : X) → length (with_item_at_number xs n x) ≡ length xs
length-put xs zero x = refl
length-put xs (suc k) x = length-set xs k x

module _ (counts : List ThreadCounts) (es : List (ℕ × StartedThread)) (are : AreCounted counts es) where
  -- the process of a thread exists
  pub known : (tid : ℕ) (thread : StartedThread) → lookup (is_at (nat_cmp tid)) es ≡ Some thread → (0 < thread.pid) × (thread.pid ≤ length counts)
  known tid thread is =
      let some = found (is_thread_of thread.pid) es tid thread is (eq-eqb thread.pid thread.pid refl) in
      there counts thread.pid (let now : 0 < (item_at_number_or no_threads counts thread.pid).begun = rw (are.counted thread.pid) some in now)

  -- there are at most 2 ^ 32 threads
  pub fits : (p : StartedThread → Bool) → count_by p (values_of es) ≤ 2 ^ 32
  fits p = omega (arith, count_by-le-length p (values_of es), length-values_of es, length-keys_of es, length-le_from_below (2 ^ 32) (keys_of es) are.ordered are.tids)

  beyond : item_at_number_or no_threads counts (suc (length counts)) ≡ no_threads
  beyond = get_or-eq_default counts no_threads (omega arith)

  -- ---- processes that start

  -- a process starts
  started-by : (pid : ℕ) → item_at_number_or no_threads (counts ++ no_threads ∷ []) pid ≡ thread_counts es pid
  started-by pid = elim (cases_eq pid (suc (length counts))) [
    | inl e ↦ let nothing : item_at_number_or no_threads counts pid ≡ no_threads = rw e beyond in at_number-push no_threads counts no_threads pid ∙ rw (eq-eqb pid (suc (length counts)) e) (sym nothing ∙ are.counted pid)
    | inr ne ↦ at_number-push no_threads counts no_threads pid ∙ rw (ne_eqb pid (suc (length counts)) ne) (are.counted pid)
  ]

  pub started : suc (length counts) < 2 ^ 32 - 1 → AreCounted (counts ++ no_threads ∷ []) es
  started room = record { counted = started-by; ordered = are.ordered; tids = are.tids; few = omega (arith, room, length-append counts (no_threads ∷ [])) }

  module _ (tid pid : ℕ) (new : List (ℕ × StartedThread)) (is_new : new ≡ insert_entry nat_cmp es tid (record { pid = pid; ended = false })) (none : lookup (is_at (nat_cmp tid)) es ≡ None) (small : tid < 2 ^ 32) (ordered : IsStrictlySortedBy nat_cmp (keys_of new)) where
    -- ---- threads that start

    abbrev fresh : StartedThread
    fresh = record { pid = pid; ended = false }

    -- the counts of a thread's process after the thread starts
    own : pair ((item_at_number_or no_threads counts pid).begun + 1) ((item_at_number_or no_threads counts pid).running + 1) ≡ thread_counts new pid
    own =
        let was = are.counted pid in
        let same = eq-eqb pid pid refl in
        let all = put_in es tid fresh are.ordered (is_thread_of pid) none in
        let live = put_in es tid fresh are.ordered (is_running_in pid) none in
        rw is_new (pair-same _ _ _ _ (ap (λ (c : ThreadCounts). c.begun + 1) was ∙ sym (rw same at all)) (ap (λ (c : ThreadCounts). c.running + 1) was ∙ sym (rw same at live)))

    others : (q : ℕ) → q ≢ pid → thread_counts es q ≡ thread_counts new q
    others q ne =
        let differ = ne_eqb pid q (λ e. ne (sym e)) in
        let all = put_in es tid fresh are.ordered (is_thread_of q) none in
        let live = put_in es tid fresh are.ordered (is_running_in q) none in
        rw is_new (pair-same _ _ _ _ (omega (arith, rw differ at all)) (omega (arith, rw differ at live)))

    tids_now : All (λ tid. tid < 2 ^ 32) (keys_of new)
    tids_now = rw is_new (All-keys-insert_entry nat_cmp tid fresh (λ tid. tid < 2 ^ 32) es are.tids small)

    pub begun : (counts_new : List ThreadCounts) → counts_new ≡ with_item_at_number counts pid (pair ((item_at_number_or no_threads counts pid).begun + 1) ((item_at_number_or no_threads counts pid).running + 1)) → 0 < pid → pid ≤ length counts → AreCounted counts_new new
    begun counts_new is from to = rw is record {
      counted = λ q. elim (cases_eq q pid) [
        | inl e ↦ at_number-put no_threads counts _ pid q from to ∙ rw (eq-eqb q pid e, e) own
        | inr ne ↦ at_number-put no_threads counts _ pid q from to ∙ rw (ne_eqb q pid ne) (are.counted q ∙ others q ne)
      ];
      ordered = ordered;
      tids = tids_now;
      few = omega (arith, are.few, length-put counts pid (pair ((item_at_number_or no_threads counts pid).begun + 1) ((item_at_number_or no_threads counts pid).running + 1)));
    }

    -- a thread starts together with its process
    pub forked : (counts_new : List ThreadCounts) → counts_new ≡ counts ++ pair 1 1 ∷ [] → pid ≡ suc (length counts) → suc (length counts) < 2 ^ 32 - 1 → AreCounted counts_new new
    forked counts_new is_counts is room =
        let nothing : item_at_number_or no_threads counts pid ≡ no_threads = rw is beyond in
        let first : pair 1 1 ≡ thread_counts new pid = rw nothing at own in
        rw is_counts record {
          counted = λ q. elim (cases_eq q pid) [
            | inl e ↦ at_number-push no_threads counts (pair 1 1) q ∙ rw (eq-eqb q (suc (length counts)) (e ∙ is), e) first
            | inr ne ↦ at_number-push no_threads counts (pair 1 1) q ∙ rw (ne_eqb q (suc (length counts)) (λ e. ne (e ∙ sym is))) (are.counted q ∙ others q ne)
          ];
          ordered = ordered;
          tids = tids_now;
          few = omega (arith, room, length-append counts (pair 1 1 ∷ []));
        }

  -- a thread that runs
  module _ (tid pid : ℕ) (is : lookup (is_at (nat_cmp tid)) es ≡ Some (record { pid = pid; ended = false })) where
    -- ---- threads that end

    -- the process counts the thread as running
    pub one_runs : 0 < (item_at_number_or no_threads counts pid).running
    one_runs =
        let some = found (is_running_in pid) es tid (record { pid = pid; ended = false }) is (rw (eq-eqb pid pid refl) refl) in
        rw (are.counted pid) some

    module _ (new : List (ℕ × StartedThread)) (is_new : new ≡ insert_entry nat_cmp es tid (record { pid = pid; ended = true })) where
      abbrev over : StartedThread
      over = record { pid = pid; ended = true }

      abbrev fewer : ThreadCounts
      fewer = pair (item_at_number_or no_threads counts pid).begun ((item_at_number_or no_threads counts pid).running - 1)

      -- the counts of its process after the thread ends
      ended-own : fewer ≡ thread_counts new pid
      ended-own =
          let was = are.counted pid in
          let same = eq-eqb pid pid refl in
          let all = put_over es tid over are.ordered (is_thread_of pid) (record { pid = pid; ended = false }) is in
          let live = put_over es tid over are.ordered (is_running_in pid) (record { pid = pid; ended = false }) is in
          let all_now = rw same at all in
          let live_now = rw same at live in
          rw is_new (pair-same _ _ _ _ (ap (λ (c : ThreadCounts). c.begun) was ∙ omega (arith, all_now)) (ap (λ (c : ThreadCounts). c.running - 1) was ∙ omega (arith, live_now)))

      ended-others : (q : ℕ) → q ≢ pid → thread_counts es q ≡ thread_counts new q
      ended-others q ne =
          let differ = ne_eqb pid q (λ e. ne (sym e)) in
          let all = put_over es tid over are.ordered (is_thread_of q) (record { pid = pid; ended = false }) is in
          let live = put_over es tid over are.ordered (is_running_in q) (record { pid = pid; ended = false }) is in
          rw is_new (pair-same _ _ _ _ (omega (arith, rw differ at all)) (omega (arith, rw differ at live)))

      pub ended : tid < 2 ^ 32 → IsStrictlySortedBy nat_cmp (keys_of new) → (counts_new : List ThreadCounts) → counts_new ≡ with_item_at_number counts pid fewer → AreCounted counts_new new
      ended small ordered counts_new is_counts =
          let inside = known tid (record { pid = pid; ended = false }) is in
          rw is_counts record {
            counted = λ q. elim (cases_eq q pid) [
              | inl e ↦ at_number-put no_threads counts fewer pid q inside.0 inside.1 ∙ rw (eq-eqb q pid e, e) ended-own
              | inr ne ↦ at_number-put no_threads counts fewer pid q inside.0 inside.1 ∙ rw (ne_eqb q pid ne) (are.counted q ∙ ended-others q ne)
            ];
            ordered = ordered;
            tids = rw is_new (All-keys-insert_entry nat_cmp tid over (λ tid. tid < 2 ^ 32) es are.tids small);
            few = omega (arith, are.few, length-put counts pid fewer);
          }
