-- Each thread of a script without a fault starts in at most one way: by its row, or by one fork.
use Rattle.std.proofs.Common.{◌≡◌, ℕ, zero, suc, ◌+◌, ◌-◌, ◌^◌, ◌≤◌, Bool, true, false, ◌||◌, ◌==◌, not, if◌then◌else◌, cond, List, [], ◌∷◌, ◌++◌, length, map, slice_get, Option, Some, None, refl, sym, ap, ◌∙◌, subst, arith}
use Rattle.std.proofs.Math.Nat.{min-eq_left}
use Rattle.std.proofs.lemmas.Bool.{eqb-true}
use Rattle.std.proofs.lemmas.List.Folds.{list_any-append}
use Rattle.std.proofs.lemmas.List.Sums.{sum_by-append, sum_by-cons}
use Rattle.std.proofs.lemmas.Slice.Eq.{bytes_eq-Decides}
use Rattle.std.specs.List.{count_by, position_or_len, range_with_len, sum_by}
use Rattle.std.specs.Prelude.{is_some, unwrap_or}
use Rattle.std.specs.Str.{bytes_eq}
use Rattle.st_base.specs.Numbered.{item_at_number}
use Rattle.st_reached.specs.Scripts.{is_start_of, starts_by_row}
use Rattle.st_script_faults.specs.Faults.{WholeScript, is_started, started_after, threads_after, with_started, with_thread_name}
use Rattle.st_script_names.specs.Names.{Name, Names, is_name_among, no_names, name_number, store_count, with_new_name, with_says}
use Rattle.st_script_names.specs.declared.limits.TheConstants.{MOST_THREADS}
use Rattle.st_statements.specs.declared.statement.OpenBody.TheVariants.{NoBody}
use Rattle.st_statements.specs.declared.statement.ScriptLine.{ScriptLine}
use Rattle.st_statements.specs.declared.statement.Statement.{Statement}
use Rattle.st_statements.specs.declared.statement.Statement.TheVariants as says
use Rattle.st_trace.specs.declared.start.Instr.{Instr}
use Rattle.st_trace.specs.declared.start.Instr.TheVariants.{Fork}
use Rattle.st_trace.specs.declared.start.ThreadRow.{ThreadRow}
use Rattle.st_script.specs.Reading.{BodyNames, body_in, body_names, store_of, stores, thread_with, threads_in}
use Rattle.st_script.proofs.Counted.{NoFault, AtEnd, After, added, kept_in, known_by, or_true, place_within}
use Rattle.st_script.proofs.Placed.{all_bodies, all_said, bodies_are_said}
use Rattle.st_script.proofs.Said.{ArePlaced}

-- ---- names and their numbers

get_front : {A : Type 0} (xs ys : List A) (k : ℕ) (x : A) → slice_get xs k ≡ Some x → slice_get (xs ++ ys) k ≡ Some x
get_front [] ys k x is = absurd (cc)
get_front (first ∷ xs) ys zero x is = is
get_front (first ∷ xs) ys (suc k) x is = get_front xs ys k x is

get_last : {A : Type 0} (xs : List A) (x : A) → slice_get (xs ++ x ∷ []) (length xs) ≡ Some x
get_last [] x = refl
get_last (first ∷ xs) x = get_last xs x

recorded : (names : List Name) (name : Name) (b : Bool) → is_name_among names name ≡ b → is_name_among (if b then names else names ++ name ∷ []) name ≡ true
recorded names name true is = is
recorded names name false is =
    let itself : (bytes_eq name name || false) ≡ true = ap (λ b. b || false) ((bytes_eq-Decides name name).1 refl) in
    list_any-append (bytes_eq name) names (name ∷ []) ∙ or_true (is_name_among names name) (bytes_eq name name || false) itself

place_by : (names : List Name) (name first : Name) (b : Bool) → bytes_eq name first ≡ b → (b || is_name_among names name) ≡ true → (is_name_among names name ≡ true → slice_get names (position_or_len (bytes_eq name) names) ≡ Some name) →
    slice_get (first ∷ names) (cond (not b) (1 + position_or_len (bytes_eq name) names) 0) ≡ Some name
place_by names name first true is has ih = ap Some (sym ((bytes_eq-Decides name first).0 is))
place_by names name first false is has ih = let next : 1 + position_or_len (bytes_eq name) names ≡ suc (position_or_len (bytes_eq name) names) = omega arith in ap (slice_get (first ∷ names)) next ∙ ih has

name_at_place : (names : List Name) (name : Name) → is_name_among names name ≡ true → slice_get names (position_or_len (bytes_eq name) names) ≡ Some name
name_at_place [] name has = absurd (cc)
name_at_place (first ∷ names) name has = place_by names name first (bytes_eq name first) refl has (name_at_place names name)

-- the number of a name determines the name, if there are no more names than a script may have threads
name_of_number : (names : List Name) (name : Name) → length names ≤ MOST_THREADS → is_name_among names name ≡ true → item_at_number names (name_number names name) ≡ Some name
name_of_number names name few has =
    let place : ℕ = position_or_len (bytes_eq name) names in
    let within = place_within names name has in
    let fits : place + 1 ≤ 2 ^ 32 - 1 = omega (arith, within, few) in
    let next : place + 1 ≡ suc place = omega arith in
    ap (item_at_number names) (min-eq_left fits ∙ next) ∙ name_at_place names name has

-- ---- forks

-- how often a thread may still be forked
abbrev room : Bool → ℕ
room started = if started then 0 else 1

room_most : (a : Bool) → room a ≤ 1
room_most true = omega arith
room_most false = omega arith

room_none : (a : Bool) → room (a || true) ≡ 0
room_none true = refl
room_none false = refl

room_less : (a b c : Bool) → (b ≡ true → c ≡ true) → room (a || c) ≤ room (a || b)
room_less true b c more = omega arith
room_less false false c more = room_most c
room_less false true true more = omega arith
room_less false true false more = let clash : false ≡ true = more refl in absurd (cc)

-- the number of instructions that start thread t
abbrev starts : ℕ → List Instr → ℕ
starts t instructions = count_by (is_start_of t) instructions

no_store_starts : (t first : ℕ) (bytes : List ℕ) (from count : ℕ) → starts t (map (store_of first bytes) (range_with_len from count)) ≡ 0
no_store_starts t first bytes from zero = refl
no_store_starts t first bytes from (suc count) = no_store_starts t first bytes (from + 1) count

-- the name of thread t
abbrev named : List Name → ℕ → Name
named ts t = unwrap_or (item_at_number ts t) []

module _ (whole : WholeScript) (ts : BodyNames) (uncut : whole.is_cut ≡ false) (threads_are : whole.threads ≡ ts.threads) (few : length ts.threads ≤ MOST_THREADS) (t : ℕ) where
  its_name : (name : Name) → is_name_among ts.threads name ≡ true → (name_number ts.threads name == t) ≡ true → named ts.threads t ≡ name
  its_name name has is =
      let number : name_number ts.threads name ≡ t = eqb-true (name_number ts.threads name) t is in
      let at : item_at_number ts.threads t ≡ Some name = ap (item_at_number ts.threads) (sym number) ∙ name_of_number ts.threads name few has in
      ap (λ o. unwrap_or o []) at

  fork_by : (above : Names) (name : Name) (below : List Instr) (b : Bool) → (b ≡ true → named ts.threads t ≡ name) → is_started whole above name ≡ false →
      starts t below ≤ room (is_name_among whole.started (named ts.threads t) || is_name_among (with_new_name above.forked name) (named ts.threads t)) →
      cond b 1 0 + starts t below ≤ room (is_name_among whole.started (named ts.threads t) || is_name_among above.forked (named ts.threads t))
  fork_by above name below false same new ih =
      let less = room_less (is_name_among whole.started (named ts.threads t)) (is_name_among above.forked (named ts.threads t)) (is_name_among (with_new_name above.forked name) (named ts.threads t)) (kept_in above.forked name (named ts.threads t) (is_name_among above.forked name)) in
      omega (arith, ih, less)
  fork_by above name below true same new ih =
      let unstarted : (is_name_among whole.started (named ts.threads t) || is_name_among above.forked (named ts.threads t)) ≡ false = ap (λ (n : Name). is_name_among whole.started n || is_name_among above.forked n) (same refl) ∙ new in
      let now : is_name_among (with_new_name above.forked name) (named ts.threads t) ≡ true = ap (is_name_among (with_new_name above.forked name)) (same refl) ∙ recorded above.forked name (is_name_among above.forked name) refl in
      let none = ap (λ b. room (is_name_among whole.started (named ts.threads t) || b)) now ∙ room_none (is_name_among whole.started (named ts.threads t)) in
      let one = ap room unstarted in
      omega (arith, ih, none, one)

  forks_once : (above : Names) (lines : List ScriptLine) → NoFault whole above lines → starts t (all_said ts lines) ≤ room (is_name_among whole.started (named ts.threads t) || is_name_among above.forked (named ts.threads t))
  forks_once above _ (AtEnd _) = omega arith
  forks_once above _ (After _ n (says.Fork name) lines ok rest) =
      let there : is_name_among whole.threads name ≡ true = known_by whole.is_cut (is_name_among whole.threads name) uncut ok.known in
      let among : is_name_among ts.threads name ≡ true = ap (λ names. is_name_among names name) (sym threads_are) ∙ there in
      let ih = forks_once (with_says above (Some (says.Fork name))) lines rest in
      let first = sum_by-cons (λ x. cond (is_start_of t x) 1 0) (Fork (name_number ts.threads name)) (all_said ts lines) in
      let few_more = fork_by above name (all_said ts lines) (name_number ts.threads name == t) (its_name name among) ok.new ih in
      omega (arith, first, few_more)
  forks_once above _ (After _ n (says.Put place bytes) lines ok rest) =
      let ih = forks_once (with_says above (Some (says.Put place bytes))) lines rest in
      let none = no_store_starts t place bytes 0 (store_count bytes) in
      let both = sum_by-append (λ x. cond (is_start_of t x) 1 0) (stores place bytes) (all_said ts lines) in
      omega (arith, ih, none, both)
  forks_once above _ (After _ n s lines ok rest) = forks_once (with_says above (Some s)) lines rest

-- ---- rows

-- the name with this index is that of a thread that starts in a process
record IsStartedAt (names started : List Name) (k : ℕ) : Type 0 where
  pub name : Name
  pub at : slice_get names k ≡ Some name
  pub is_recorded : is_name_among started name ≡ true

kept_name : (names : List Name) (other : Name) (k : ℕ) (name : Name) (b : Bool) → slice_get names k ≡ Some name → slice_get (if b then names else names ++ other ∷ []) k ≡ Some name
kept_name names other k name true at = at
kept_name names other k name false at = get_front names (other ∷ []) k name at

kept_row : (names : List Name) (o : Option Statement) (k : ℕ) (name : Name) → slice_get names k ≡ Some name → slice_get (with_thread_name names o) k ≡ Some name
kept_row names None k name at = at
kept_row names (Some (says.Thread other process)) k name at = kept_name names other k name (is_name_among names other) at
kept_row names (Some s) k name at = at

kept_thread : (names : List Name) (lines : List ScriptLine) (k : ℕ) (name : Name) → slice_get names k ≡ Some name → slice_get (threads_after names lines) k ≡ Some name
kept_thread names [] k name at = at
kept_thread names (line ∷ lines) k name at = kept_thread (with_thread_name names line.says) lines k name (kept_row names line.says k name at)

kept_start : (names : List Name) (o : Option Statement) (name : Name) → is_name_among names name ≡ true → is_name_among (with_started names o) name ≡ true
kept_start names None name has = has
kept_start names (Some (says.Thread other None)) name has = has
kept_start names (Some (says.Thread other (Some process))) name has = kept_in names other name (is_name_among names other) has
kept_start names (Some s) name has = has

kept_started : (names : List Name) (lines : List ScriptLine) (name : Name) → is_name_among names name ≡ true → is_name_among (started_after names lines) name ≡ true
kept_started names [] name has = has
kept_started names (line ∷ lines) name has = kept_started (with_started names line.says) lines name (kept_start names line.says name has)

name_last : (names : List Name) (name : Name) (b : Bool) → b ≡ false → slice_get (if b then names else names ++ name ∷ []) (length names + 0) ≡ Some name
name_last names name true new = absurd (cc)
name_last names name false new = let place : length names + 0 ≡ length names = omega arith in ap (slice_get (names ++ name ∷ [])) place ∙ get_last names name

-- a row that has its thread start in a process is such a thread's
rows_started : (whole : WholeScript) (ps : List Name) (ts : BodyNames) (above : Names) (lines : List ScriptLine) → NoFault whole above lines → (started : List Name) (k : ℕ) (row : ThreadRow) → slice_get (threads_in ps ts lines) k ≡ Some row → is_some row.process ≡ true →
    IsStartedAt (threads_after above.threads lines) (started_after started lines) (length above.threads + k)
rows_started whole ps ts above _ (AtEnd _) started k row is starts_it = absurd (cc)
rows_started whole ps ts above _ (After _ n (says.Thread name None) lines ok rest) started zero row is starts_it =
    let same : thread_with ps None (body_in ts lines) ≡ row = cc in
    let clash : false ≡ true = ap (λ (r : ThreadRow). is_some r.process) same ∙ starts_it in
    absurd (cc)
rows_started whole ps ts above _ (After _ n (says.Thread name (Some process)) lines ok rest) started zero row is starts_it = record {
  name = name;
  at = kept_thread (with_new_name above.threads name) lines (length above.threads + 0) name (name_last above.threads name (is_name_among above.threads name) ok.new);
  is_recorded = kept_started (with_new_name started name) lines name (recorded started name (is_name_among started name) refl);
}
rows_started whole ps ts above _ (After _ n (says.Thread name process) lines ok rest) started (suc k) row is starts_it =
    let ih = rows_started whole ps ts (with_says above (Some (says.Thread name process))) lines rest (with_started started (Some (says.Thread name process))) k row is starts_it in
    let more : length (with_new_name above.threads name) ≡ length above.threads + 1 = added above.threads name (is_name_among above.threads name) ok.new in
    let place : length (with_new_name above.threads name) + k ≡ length above.threads + suc k = omega (arith, more) in
    subst (IsStartedAt (threads_after (with_new_name above.threads name) lines) (started_after (with_started started (Some (says.Thread name process))) lines)) place ih
rows_started whole ps ts above _ (After _ n s lines ok rest) started k row is starts_it = rows_started whole ps ts (with_says above (Some s)) lines rest started k row is starts_it

-- ---- rows and forks together

total : (f : Instr → ℕ) (rows : List ThreadRow) → sum_by (λ row. sum_by f row.body) rows ≡ sum_by f (all_bodies rows)
total f [] = refl
total f (row ∷ rows) = sum_by-cons (λ (r : ThreadRow). sum_by f r.body) row rows ∙ ap (λ n. sum_by f row.body + n) (total f rows) ∙ sym (sum_by-append f row.body (all_bodies rows))

module _ (whole : WholeScript) (ps : List Name) (lines : List ScriptLine) (uncut : whole.is_cut ≡ false) (threads_are : whole.threads ≡ threads_after [] lines) (started_are : whole.started ≡ started_after [] lines) (few : length (threads_after [] lines) ≤ MOST_THREADS) (ok : NoFault whole no_names lines) where
  abbrev ts : BodyNames
  ts = body_names lines

  abbrev rows : List ThreadRow
  rows = threads_in ps ts lines

  row_started : (t : ℕ) (row : ThreadRow) → item_at_number rows t ≡ Some row → is_some row.process ≡ true → is_name_among whole.started (named ts.threads t) ≡ true
  row_started zero row is starts_it = absurd (cc)
  row_started (suc k) row is starts_it =
      let found : IsStartedAt ts.threads (started_after [] lines) (0 + k) = rows_started whole ps ts no_names lines ok [] k row is starts_it in
      let place : k ≡ 0 + k = omega arith in
      let at : slice_get ts.threads k ≡ Some found.name = ap (slice_get ts.threads) place ∙ found.at in
      let same : named ts.threads (suc k) ≡ found.name = ap (λ o. unwrap_or o []) at in
      ap (λ names. is_name_among names (named ts.threads (suc k))) started_are ∙ ap (is_name_among (started_after [] lines)) same ∙ found.is_recorded

  forked : (t : ℕ) → starts t (all_said ts lines) ≤ room (is_name_among whole.started (named ts.threads t) || false)
  forked t = forks_once whole ts uncut threads_are few t no_names lines ok

  by_process : (t : ℕ) (row : ThreadRow) → item_at_number rows t ≡ Some row → (b : Bool) → is_some row.process ≡ b → (if b then 1 else 0) + starts t (all_said ts lines) ≤ 1
  by_process t row is false waits = let most = forked t in let one = room_most (is_name_among whole.started (named ts.threads t) || false) in omega (arith, most, one)
  by_process t row is true starts_it = let most = forked t in let none = ap (λ b. room (b || false)) (row_started t row is starts_it) in omega (arith, most, none)

  by_row : (t : ℕ) (o : Option ThreadRow) → item_at_number rows t ≡ o → starts_by_row o + starts t (all_said ts lines) ≤ 1
  by_row t None is = let most = forked t in let one = room_most (is_name_among whole.started (named ts.threads t) || false) in omega (arith, most, one)
  by_row t (Some row) is = by_process t row is (is_some row.process) refl

  pub starts_once : ArePlaced NoBody lines → (t : ℕ) → starts_by_row (item_at_number rows t) + sum_by (λ row. count_by (is_start_of t) row.body) rows ≤ 1
  starts_once placed t =
      let all = total (λ x. cond (is_start_of t x) 1 0) rows ∙ ap (starts t) (bodies_are_said ps ts lines placed) in
      let once = by_row t (item_at_number rows t) refl in
      omega (arith, all, once)
