-- The state of memory, of the file tree and of the descriptors is read off the entries.
use Rattle.std.proofs.Common.{◌≡◌, ◌≤◌, ◌<◌, ℕ, ◌+◌, ◌-◌, ◌/◌, ◌%◌, Bool, true, false, cond, not, ◌&&◌, ◌==◌, nat_le, nat_lt, is_some, List, [], ◌∷◌, length, slice_index, fold, refl, ap, sym, ◌∙◌, arith, length-append}
use Rattle.std.proofs.lemmas.Bool.{eq-eqb, ne_eqb, eqb-true, and_from, le-leb, lt-ltb, leb-true, ltb-true, true≢false}
use Rattle.std.specs.Int.{w64, to_le_bytes}
use Rattle.st_model.specs.DescriptorCalls.{table_after_close_all}
use Rattle.st_model.specs.Descriptors.{Table}
use Rattle.st_effects.specs.Changes.{memory_after_change, tree_after, tree_after_change}
use Rattle.st_trace.specs.declared.entry.CallResult.TheVariants.{Value}
use Rattle.st_trace.specs.declared.entry.Change.{Change}
use Rattle.st_trace.specs.declared.entry.Change.TheVariants.{Put, Forked}
use Rattle.st_trace.specs.declared.entry.Entry.{Entry}
use Rattle.st_trace.specs.declared.entry.Entry.TheVariants.{Stored, Used, Ended, Reloaded}
use Rattle.st_law.specs.declared.input.Input.{Input}
use Rattle.st_law.specs.Entries.{Covers, GivesByte, GivesByteIn, GivesTable, IsLastOne, IsByteAt, TouchesByte, changes_so_far}
use Rattle.st_law.specs.History.{descriptors_at, looking_back}
use Rattle.st_law.specs.Processes.{byte_at, first_descriptors, first_tree, space_at, tree_at}
use Rattle.st_law.specs.Splits.{GivesSome, IsLastGiven, IsLastOf}
use Rattle.st_law.specs.State.{is_last_thread, is_running_in, thread_count}
use Rattle.st_law.specs.Threads.{History, has_ended_at, owner_at}
use Rattle.std.proofs.Math.Seq.{get_or-append_seam}
use Rattle.st_law.proofs.Least.{least}
use Rattle.st_law.proofs.Splitting.{when_same, when_other, none_in, fold_apart, fold_kept, fold_last, last_given, last_of}

-- ---- memory

-- two nested tests
inner_other : (s space : ℕ) (b c : Bool) (x y : ℕ) → (s ≡ space → b ≡ true → c ≡ true → ⊥) → cond (s == space) (cond (b && c) x y) y ≡ y
inner_other s space b c x y none = by (s == space) b c (λ e. none (eqb-true s space e))
  where
    by : (a b c : Bool) → (a ≡ true → b ≡ true → c ≡ true → ⊥) → cond a (cond (b && c) x y) y ≡ y
    by true true true none_of = absurd (none_of refl refl refl)
    by true true false none_of = refl
    by true false c none_of = refl
    by false b c none_of = refl

inner_same : (s space : ℕ) (b c : Bool) (x y : ℕ) → s ≡ space → b ≡ true → c ≡ true → cond (s == space) (cond (b && c) x y) y ≡ x
inner_same s space b c x y e f g = when_same s space (cond (b && c) x y) y e ∙ ap (λ t. cond t x y) (and_from b c f g)

covers_step : (own s b : ℕ) (memory : ℕ → ℕ → ℕ) (c : Change) → (Covers s b c → ⊥) → memory_after_change own memory c s b ≡ memory s b
covers_step own s b memory (Put space at bytes) none =
    inner_other s space (nat_le at b) (nat_lt b (at + length bytes)) (slice_index bytes (b - at)) (memory s b)
    (λ e low high. none (sym e, leb-true at b low, ltb-true b (at + length bytes) high))
covers_step own s b memory (Forked pid space tid) none = when_other s space (memory own b) (memory s b) (λ e. none (sym e))
covers_step own s b memory _ none = refl

byte_there : (b at : ℕ) (bytes : List ℕ) (v : ℕ) → IsByteAt b at bytes v → slice_index bytes (b - at) ≡ v
byte_there b at bytes v x =
    let place = x.place in
    let far : b - at ≡ length x.first = omega (arith, place) in
    ap (λ n. slice_index bytes n) far ∙ ap (λ all. slice_index all (length x.first)) x.split ∙ get_or-append_seam x.first v x.rest 0

byte_within : (b at : ℕ) (bytes : List ℕ) (v : ℕ) → IsByteAt b at bytes v → b < at + length bytes
byte_within b at bytes v x = let place = x.place in omega (arith, place, ap length x.split, length-append x.first (v ∷ x.rest))

byte_from : (b at : ℕ) (bytes : List ℕ) (v : ℕ) → IsByteAt b at bytes v → at ≤ b
byte_from b at bytes v x = let place = x.place in omega (arith, place)

change_gives : (i : Input) (s b u : ℕ) (h : History) (before : List Change) (c : Change) (v : ℕ) → GivesByteIn i s b u h before c v
    → memory_after_change (space_at i h u) (fold (memory_after_change (space_at i h u)) (byte_at i h) before) c s b ≡ v
change_gives i s b u h before (Put space at bytes) v x =
    let so_far = fold (memory_after_change (space_at i h u)) (byte_at i h) before in
    inner_same s space (nat_le at b) (nat_lt b (at + length bytes)) (slice_index bytes (b - at)) (so_far s b) (sym x.0)
    (le-leb at b (byte_from b at bytes v x.1)) (lt-ltb b (at + length bytes) (byte_within b at bytes v x.1)) ∙ byte_there b at bytes v x.1
change_gives i s b u h before (Forked pid space tid) v x =
    let own = space_at i h u in
    let so_far = fold (memory_after_change own) (byte_at i h) before in
    when_same s space (so_far own b) (so_far s b) (sym x.0)
    ∙ fold_kept (λ (memory : ℕ → ℕ → ℕ). memory own b) (memory_after_change own) (Covers own b) (covers_step own own b) (byte_at i h) before x.1 ∙ sym x.2
change_gives i s b u h before _ v x = absurd x

byte_step : (i : Input) (s b : ℕ) (e : Entry) (h : History) → (TouchesByte i s b e h → ⊥) → byte_at i (e ∷ h) s b ≡ byte_at i h s b
byte_step i s b (Stored u place word) h none =
    inner_other s (space_at i h u) true (b / 8 == place) (slice_index (to_le_bytes w64 word) (b % 8)) (byte_at i h s b)
    (λ e yes there. none (sym e, eqb-true (b / 8) place there))
byte_step i s b (Used u seq call regs args ids result changes) h none =
    fold_kept (λ (memory : ℕ → ℕ → ℕ). memory s b) (memory_after_change (space_at i h u)) (Covers s b) (covers_step (space_at i h u) s b) (byte_at i h) changes
    (none_in (Covers s b) changes none)
byte_step i s b _ h none = refl

byte_give : (i : Input) (s b : ℕ) (e : Entry) (h : History) (v : ℕ) → GivesByte i s b e h v → byte_at i (e ∷ h) s b ≡ v
byte_give i s b (Stored u place word) h v x =
    inner_same s (space_at i h u) true (b / 8 == place) (slice_index (to_le_bytes w64 word) (b % 8)) (byte_at i h s b) (sym x.0) refl (eq-eqb (b / 8) place x.1) ∙ sym x.2
byte_give i s b (Used u seq call regs args ids result changes) h v x =
    fold_last (λ (memory : ℕ → ℕ → ℕ). memory s b) (memory_after_change (space_at i h u)) (Covers s b) (covers_step (space_at i h u) s b) (GivesByteIn i s b u h) (byte_at i h)
    (change_gives i s b u h) changes v x
byte_give i s b _ h v x = absurd x

pub byte : (i : Input) (s b : ℕ) → IsLastGiven (λ h. byte_at i h s b) 0 (TouchesByte i s b) (GivesByte i s b)
byte i s b = last_given (λ h. byte_at i h s b) 0 (TouchesByte i s b) (GivesByte i s b) refl (byte_step i s b) (byte_give i s b)

-- ---- the file tree

pub tree : (i : Input) (h : History) → tree_at i h ≡ tree_after (first_tree i) (changes_so_far h)
tree i [] = refl
tree i (Used u seq call regs args ids result changes ∷ h) =
    ap (λ now. tree_after now changes) (tree i h) ∙ sym (fold_apart tree_after_change (first_tree i) (changes_so_far h) changes)
tree i (Reloaded u n done changes ∷ h) =
    ap (λ now. tree_after now changes) (tree i h) ∙ sym (fold_apart tree_after_change (first_tree i) (changes_so_far h) changes)
tree i (_ ∷ h) = tree i h

-- ---- descriptors

module _ (i : Input) (h : History) (t : ℕ) where
  -- another thread of the process hasn't ended
  abbrev other : ℕ → Bool
  other u = is_running_in (looking_back i h) (owner_at i h t) u && not (u == t)

  ended_by : (a b c : Bool) → ((a && not b) && not c) ≡ false → a ≡ true → c ≡ false → b ≡ true
  ended_by true true c e x y = refl
  ended_by true false c e x y = cc
  ended_by false b c e x y = cc

  runs_by : (a b c : Bool) → ((a && not b) && not c) ≡ true → (a ≡ true) × (b ≡ false) × (c ≡ false)
  runs_by true false false e = (refl, refl, refl)
  runs_by true true c e = cc
  runs_by true false true e = cc
  runs_by false b c e = cc

  last_is : is_last_thread i (looking_back i h) t ≡ true → IsLastOne i h t
  last_is = least (λ o. not (is_some o) ≡ true → IsLastOne i h t) other 1 (thread_count i)
      (λ q x e. absurd (true≢false (sym e)))
      (λ none e u low high differ same. ended_by (owner_at i h u == owner_at i h t) (has_ended_at h u) (u == t) (none u low (omega (arith, high))) (eq-eqb (owner_at i h u) (owner_at i h t) same) (ne_eqb u t differ))

  is_last : IsLastOne i h t → is_last_thread i (looking_back i h) t ≡ true
  is_last all = least (λ o. not (is_some o) ≡ true) other 1 (thread_count i)
      (λ q x. let parts = runs_by (owner_at i h q == owner_at i h t) (has_ended_at h q) (q == t) x.holds in
      let low = x.low in
      let high = x.high in
      absurd (true≢false (sym (all q low (omega (arith, high)) (λ e. true≢false (sym (eq-eqb q t e) ∙ parts.2)) (eqb-true (owner_at i h q) (owner_at i h t) parts.0)) ∙ parts.1)))
      (λ none. refl)

  not_last : {A : Type 0} (b : Bool) (x y : A) → (b ≡ true → ⊥) → cond b x y ≡ y
  not_last true x y none = absurd (none refl)
  not_last false x y none = refl

table_step : (i : Input) (e : Entry) (h : History) → (GivesSome (GivesTable i) e h → ⊥) → descriptors_at i (e ∷ h) ≡ descriptors_at i h
table_step i (Used t seq call regs args ids (Value n) changes) h none = absurd (none (_, refl))
table_step i (Ended t) h none =
    not_last i h t (is_last_thread i (looking_back i h) t) (table_after_close_all (descriptors_at i h) (owner_at i h t)) (descriptors_at i h)
    (λ e. none (table_after_close_all (descriptors_at i h) (owner_at i h t), (last_is i h t e, refl)))
table_step i _ h none = refl

table_give : (i : Input) (e : Entry) (h : History) (v : Table) → GivesTable i e h v → descriptors_at i (e ∷ h) ≡ v
table_give i (Used t seq call regs args ids (Value n) changes) h v x = sym x
table_give i (Ended t) h v x = ap (λ b. cond b (table_after_close_all (descriptors_at i h) (owner_at i h t)) (descriptors_at i h)) (is_last i h t x.0) ∙ sym x.1
table_give i _ h v x = absurd x

pub descriptors : (i : Input) → IsLastOf (descriptors_at i) (first_descriptors i) (GivesTable i)
descriptors i = last_of (descriptors_at i) (first_descriptors i) (GivesTable i) refl (table_step i) (table_give i)
