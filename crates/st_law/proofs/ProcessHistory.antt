-- The state of a process is read off the changes.
use Rattle.std.proofs.Common.{◌≡◌, ℕ, suc, Bool, List, ◌∷◌, ◌==◌, fold, refl, ap, sym, ◌∙◌}
use Rattle.st_base.specs.declared.ids.Ids.{Ids}
use Rattle.st_model.specs.Process.{Process}
use Rattle.st_names.specs.Name.{Components}
use Rattle.st_effects.specs.Changes.{process_after_change, next_process_after_change, next_space_after_change}
use Rattle.st_trace.specs.declared.entry.Change.{Change}
use Rattle.st_trace.specs.declared.entry.Change.TheVariants.{Forked, Execed, SetIds, Cwd, Policy}
use Rattle.st_trace.specs.declared.entry.Entry.{Entry}
use Rattle.st_trace.specs.declared.entry.Entry.TheVariants.{Used, Reloaded}
use Rattle.st_law.specs.declared.input.Input.{Input}
use Rattle.st_law.specs.Entries.{GivesCwd, GivesIds, GivesNextProcess, GivesNextSpace, GivesPolicy, GivesSpace, GivesTraced}
use Rattle.st_law.specs.Processes.{first_process, next_process_at, next_space_at, process_at, process_count}
use Rattle.st_law.specs.Splits.{ChangeGives, ChangeTouches, IsLastChanged}
use Rattle.st_law.specs.Threads.{History, owner_at}
use Rattle.st_law.proofs.Splitting.{when_same, when_other, when_either, none_in, fold_kept, fold_last, last_given}

-- process p after a change of thread u
abbrev changed : Input → ℕ → ℕ → History → Process → Change → Process
changed i p u h = process_after_change (process_at i h) (owner_at i h u) p

-- a part of a process, by how each change alters it
module _ {V : Type 0} (i : Input) (p : ℕ) (part : Process → V) (Gives : ℕ → History → Change → V → Type 0)
    (step : (u : ℕ) (h : History) (s : Process) (c : Change) → ((v : V) × Gives u h c v → ⊥) → part (changed i p u h s c) ≡ part s)
    (gives : (u : ℕ) (h : History) (s : Process) (c : Change) (v : V) → Gives u h c v → part (changed i p u h s c) ≡ v) where
  part_step : (e : Entry) (h : History) → (ChangeTouches Gives e h → ⊥) → part (process_at i (e ∷ h) p) ≡ part (process_at i h p)
  part_step (Used u seq call regs args ids result changes) h none =
      fold_kept part (changed i p u h) (λ c. (v : V) × Gives u h c v) (step u h) (process_at i h p) changes (none_in (λ c. (v : V) × Gives u h c v) changes none)
  part_step (Reloaded u n done changes) h none =
      fold_kept part (changed i p u h) (λ c. (v : V) × Gives u h c v) (step u h) (process_at i h p) changes (none_in (λ c. (v : V) × Gives u h c v) changes none)
  part_step _ h none = refl

  part_give : (e : Entry) (h : History) (v : V) → ChangeGives Gives e h v → part (process_at i (e ∷ h) p) ≡ v
  part_give (Used u seq call regs args ids result changes) h v x =
      fold_last part (changed i p u h) (λ c. (v : V) × Gives u h c v) (step u h) (λ before. Gives u h) (process_at i h p)
      (λ before c w y. gives u h (fold (changed i p u h) (process_at i h p) before) c w y) changes v x
  part_give (Reloaded u n done changes) h v x =
      fold_last part (changed i p u h) (λ c. (v : V) × Gives u h c v) (step u h) (λ before. Gives u h) (process_at i h p)
      (λ before c w y. gives u h (fold (changed i p u h) (process_at i h p) before) c w y) changes v x
  part_give _ h v x = absurd x

  part_given : IsLastChanged (λ h. part (process_at i h p)) (part (first_process i p)) Gives
  part_given = last_given (λ h. part (process_at i h p)) (part (first_process i p)) (ChangeTouches Gives) (ChangeGives Gives) refl part_step part_give

-- ---- traced

traced_step : (i : Input) (p u : ℕ) (h : History) (s : Process) (c : Change) → ((v : Bool) × GivesTraced i p u h c v → ⊥) → (changed i p u h s c).traced ≡ s.traced
traced_step i p u h s (Forked pid space tid) none = ap (λ (x : Process). x.traced) (when_other pid p (record (process_at i h (owner_at i h u)) { space = space }) s (λ e. none ((process_at i h (owner_at i h u)).traced, (e, refl))))
traced_step i p u h s (Policy binary) none = when_either (λ (x : Process). x.traced) (owner_at i h u == p) (record s { policy = binary }) s refl
traced_step i p u h s (SetIds ids) none = when_either (λ (x : Process). x.traced) (owner_at i h u == p) (record s { ids = ids }) s refl
traced_step i p u h s (Cwd name) none = when_either (λ (x : Process). x.traced) (owner_at i h u == p) (record s { cwd = name }) s refl
traced_step i p u h s (Execed binary space) none = when_either (λ (x : Process). x.traced) (owner_at i h u == p) (record s { space = space }) s refl
traced_step i p u h s _ none = refl

traced_give : (i : Input) (p u : ℕ) (h : History) (s : Process) (c : Change) (v : Bool) → GivesTraced i p u h c v → (changed i p u h s c).traced ≡ v
traced_give i p u h s (Forked pid space tid) v x = ap (λ (x : Process). x.traced) (when_same pid p (record (process_at i h (owner_at i h u)) { space = space }) s x.0) ∙ sym x.1
traced_give i p u h s _ v x = absurd x

pub traced : (i : Input) (p : ℕ) → IsLastChanged (λ h. (process_at i h p).traced) (first_process i p).traced (GivesTraced i p)
traced i p = part_given i p (λ x. x.traced) (GivesTraced i p) (traced_step i p) (traced_give i p)

-- ---- policy

policy_step : (i : Input) (p u : ℕ) (h : History) (s : Process) (c : Change) → ((v : List ℕ) × GivesPolicy i p u h c v → ⊥) → (changed i p u h s c).policy ≡ s.policy
policy_step i p u h s (Forked pid space tid) none = ap (λ (x : Process). x.policy) (when_other pid p (record (process_at i h (owner_at i h u)) { space = space }) s (λ e. none ((process_at i h (owner_at i h u)).policy, (e, refl))))
policy_step i p u h s (Policy binary) none = ap (λ (x : Process). x.policy) (when_other (owner_at i h u) p (record s { policy = binary }) s (λ e. none (binary, (e, refl))))
policy_step i p u h s (SetIds ids) none = when_either (λ (x : Process). x.policy) (owner_at i h u == p) (record s { ids = ids }) s refl
policy_step i p u h s (Cwd name) none = when_either (λ (x : Process). x.policy) (owner_at i h u == p) (record s { cwd = name }) s refl
policy_step i p u h s (Execed binary space) none = when_either (λ (x : Process). x.policy) (owner_at i h u == p) (record s { space = space }) s refl
policy_step i p u h s _ none = refl

policy_give : (i : Input) (p u : ℕ) (h : History) (s : Process) (c : Change) (v : List ℕ) → GivesPolicy i p u h c v → (changed i p u h s c).policy ≡ v
policy_give i p u h s (Forked pid space tid) v x = ap (λ (x : Process). x.policy) (when_same pid p (record (process_at i h (owner_at i h u)) { space = space }) s x.0) ∙ sym x.1
policy_give i p u h s (Policy binary) v x = ap (λ (x : Process). x.policy) (when_same (owner_at i h u) p (record s { policy = binary }) s x.0) ∙ sym x.1
policy_give i p u h s _ v x = absurd x

pub policy : (i : Input) (p : ℕ) → IsLastChanged (λ h. (process_at i h p).policy) (first_process i p).policy (GivesPolicy i p)
policy i p = part_given i p (λ x. x.policy) (GivesPolicy i p) (policy_step i p) (policy_give i p)

-- ---- ids

ids_step : (i : Input) (p u : ℕ) (h : History) (s : Process) (c : Change) → ((v : Ids) × GivesIds i p u h c v → ⊥) → (changed i p u h s c).ids ≡ s.ids
ids_step i p u h s (Forked pid space tid) none = ap (λ (x : Process). x.ids) (when_other pid p (record (process_at i h (owner_at i h u)) { space = space }) s (λ e. none ((process_at i h (owner_at i h u)).ids, (e, refl))))
ids_step i p u h s (Policy binary) none = when_either (λ (x : Process). x.ids) (owner_at i h u == p) (record s { policy = binary }) s refl
ids_step i p u h s (SetIds ids) none = ap (λ (x : Process). x.ids) (when_other (owner_at i h u) p (record s { ids = ids }) s (λ e. none (ids, (e, refl))))
ids_step i p u h s (Cwd name) none = when_either (λ (x : Process). x.ids) (owner_at i h u == p) (record s { cwd = name }) s refl
ids_step i p u h s (Execed binary space) none = when_either (λ (x : Process). x.ids) (owner_at i h u == p) (record s { space = space }) s refl
ids_step i p u h s _ none = refl

ids_give : (i : Input) (p u : ℕ) (h : History) (s : Process) (c : Change) (v : Ids) → GivesIds i p u h c v → (changed i p u h s c).ids ≡ v
ids_give i p u h s (Forked pid space tid) v x = ap (λ (x : Process). x.ids) (when_same pid p (record (process_at i h (owner_at i h u)) { space = space }) s x.0) ∙ sym x.1
ids_give i p u h s (SetIds ids) v x = ap (λ (x : Process). x.ids) (when_same (owner_at i h u) p (record s { ids = ids }) s x.0) ∙ sym x.1
ids_give i p u h s _ v x = absurd x

pub ids : (i : Input) (p : ℕ) → IsLastChanged (λ h. (process_at i h p).ids) (first_process i p).ids (GivesIds i p)
ids i p = part_given i p (λ x. x.ids) (GivesIds i p) (ids_step i p) (ids_give i p)

-- ---- directory

directory_step : (i : Input) (p u : ℕ) (h : History) (s : Process) (c : Change) → ((v : Components) × GivesCwd i p u h c v → ⊥) → (changed i p u h s c).cwd ≡ s.cwd
directory_step i p u h s (Forked pid space tid) none = ap (λ (x : Process). x.cwd) (when_other pid p (record (process_at i h (owner_at i h u)) { space = space }) s (λ e. none ((process_at i h (owner_at i h u)).cwd, (e, refl))))
directory_step i p u h s (Policy binary) none = when_either (λ (x : Process). x.cwd) (owner_at i h u == p) (record s { policy = binary }) s refl
directory_step i p u h s (SetIds ids) none = when_either (λ (x : Process). x.cwd) (owner_at i h u == p) (record s { ids = ids }) s refl
directory_step i p u h s (Cwd name) none = ap (λ (x : Process). x.cwd) (when_other (owner_at i h u) p (record s { cwd = name }) s (λ e. none (name, (e, refl))))
directory_step i p u h s (Execed binary space) none = when_either (λ (x : Process). x.cwd) (owner_at i h u == p) (record s { space = space }) s refl
directory_step i p u h s _ none = refl

directory_give : (i : Input) (p u : ℕ) (h : History) (s : Process) (c : Change) (v : Components) → GivesCwd i p u h c v → (changed i p u h s c).cwd ≡ v
directory_give i p u h s (Forked pid space tid) v x = ap (λ (x : Process). x.cwd) (when_same pid p (record (process_at i h (owner_at i h u)) { space = space }) s x.0) ∙ sym x.1
directory_give i p u h s (Cwd name) v x = ap (λ (x : Process). x.cwd) (when_same (owner_at i h u) p (record s { cwd = name }) s x.0) ∙ sym x.1
directory_give i p u h s _ v x = absurd x

pub directory : (i : Input) (p : ℕ) → IsLastChanged (λ h. (process_at i h p).cwd) (first_process i p).cwd (GivesCwd i p)
directory i p = part_given i p (λ x. x.cwd) (GivesCwd i p) (directory_step i p) (directory_give i p)

-- ---- memory

memory_step : (i : Input) (p u : ℕ) (h : History) (s : Process) (c : Change) → ((v : ℕ) × GivesSpace i p u h c v → ⊥) → (changed i p u h s c).space ≡ s.space
memory_step i p u h s (Forked pid space tid) none = ap (λ (x : Process). x.space) (when_other pid p (record (process_at i h (owner_at i h u)) { space = space }) s (λ e. none (space, (e, refl))))
memory_step i p u h s (Policy binary) none = when_either (λ (x : Process). x.space) (owner_at i h u == p) (record s { policy = binary }) s refl
memory_step i p u h s (SetIds ids) none = when_either (λ (x : Process). x.space) (owner_at i h u == p) (record s { ids = ids }) s refl
memory_step i p u h s (Cwd name) none = when_either (λ (x : Process). x.space) (owner_at i h u == p) (record s { cwd = name }) s refl
memory_step i p u h s (Execed binary space) none = ap (λ (x : Process). x.space) (when_other (owner_at i h u) p (record s { space = space }) s (λ e. none (space, (e, refl))))
memory_step i p u h s _ none = refl

memory_give : (i : Input) (p u : ℕ) (h : History) (s : Process) (c : Change) (v : ℕ) → GivesSpace i p u h c v → (changed i p u h s c).space ≡ v
memory_give i p u h s (Forked pid space tid) v x = ap (λ (x : Process). x.space) (when_same pid p (record (process_at i h (owner_at i h u)) { space = space }) s x.0) ∙ sym x.1
memory_give i p u h s (Execed binary space) v x = ap (λ (x : Process). x.space) (when_same (owner_at i h u) p (record s { space = space }) s x.0) ∙ sym x.1
memory_give i p u h s _ v x = absurd x

pub memory : (i : Input) (p : ℕ) → IsLastChanged (λ h. (process_at i h p).space) (first_process i p).space (GivesSpace i p)
memory i p = part_given i p (λ x. x.space) (GivesSpace i p) (memory_step i p) (memory_give i p)

-- ---- next process

next_process_change : (u : ℕ) (h : History) (n : ℕ) (c : Change) → ((v : ℕ) × GivesNextProcess u h c v → ⊥) → next_process_after_change n c ≡ n
next_process_change u h n (Forked pid space tid) none = absurd (none (suc pid, refl))
next_process_change u h n _ none = refl

next_process_by : (u : ℕ) (h : History) (n : ℕ) (c : Change) (v : ℕ) → GivesNextProcess u h c v → next_process_after_change n c ≡ v
next_process_by u h n (Forked pid space tid) v x = sym x
next_process_by u h n _ v x = absurd x

next_process_step : (i : Input) (e : Entry) (h : History) → (ChangeTouches GivesNextProcess e h → ⊥) → next_process_at i (e ∷ h) ≡ next_process_at i h
next_process_step i (Used u seq call regs args ids result changes) h none =
    fold_kept (λ n. n) next_process_after_change (λ c. (v : ℕ) × GivesNextProcess u h c v) (next_process_change u h) (next_process_at i h) changes (none_in (λ c. (v : ℕ) × GivesNextProcess u h c v) changes none)
next_process_step i (Reloaded u n done changes) h none =
    fold_kept (λ n. n) next_process_after_change (λ c. (v : ℕ) × GivesNextProcess u h c v) (next_process_change u h) (next_process_at i h) changes (none_in (λ c. (v : ℕ) × GivesNextProcess u h c v) changes none)
next_process_step i _ h none = refl

next_process_give : (i : Input) (e : Entry) (h : History) (v : ℕ) → ChangeGives GivesNextProcess e h v → next_process_at i (e ∷ h) ≡ v
next_process_give i (Used u seq call regs args ids result changes) h v x =
    fold_last (λ n. n) next_process_after_change (λ c. (v : ℕ) × GivesNextProcess u h c v) (next_process_change u h) (λ before. GivesNextProcess u h) (next_process_at i h)
    (λ before c w y. next_process_by u h (fold next_process_after_change (next_process_at i h) before) c w y) changes v x
next_process_give i (Reloaded u n done changes) h v x =
    fold_last (λ n. n) next_process_after_change (λ c. (v : ℕ) × GivesNextProcess u h c v) (next_process_change u h) (λ before. GivesNextProcess u h) (next_process_at i h)
    (λ before c w y. next_process_by u h (fold next_process_after_change (next_process_at i h) before) c w y) changes v x
next_process_give i _ h v x = absurd x

pub next_process : (i : Input) → IsLastChanged (next_process_at i) (suc (process_count i)) GivesNextProcess
next_process i = last_given (next_process_at i) (suc (process_count i)) (ChangeTouches GivesNextProcess) (ChangeGives GivesNextProcess) refl (next_process_step i) (next_process_give i)

-- ---- next memory

next_memory_change : (u : ℕ) (h : History) (n : ℕ) (c : Change) → ((v : ℕ) × GivesNextSpace u h c v → ⊥) → next_space_after_change n c ≡ n
next_memory_change u h n (Forked pid space tid) none = absurd (none (suc space, refl))
next_memory_change u h n (Execed binary space) none = absurd (none (suc space, refl))
next_memory_change u h n _ none = refl

next_memory_by : (u : ℕ) (h : History) (n : ℕ) (c : Change) (v : ℕ) → GivesNextSpace u h c v → next_space_after_change n c ≡ v
next_memory_by u h n (Forked pid space tid) v x = sym x
next_memory_by u h n (Execed binary space) v x = sym x
next_memory_by u h n _ v x = absurd x

next_memory_step : (i : Input) (e : Entry) (h : History) → (ChangeTouches GivesNextSpace e h → ⊥) → next_space_at i (e ∷ h) ≡ next_space_at i h
next_memory_step i (Used u seq call regs args ids result changes) h none =
    fold_kept (λ n. n) next_space_after_change (λ c. (v : ℕ) × GivesNextSpace u h c v) (next_memory_change u h) (next_space_at i h) changes (none_in (λ c. (v : ℕ) × GivesNextSpace u h c v) changes none)
next_memory_step i (Reloaded u n done changes) h none =
    fold_kept (λ n. n) next_space_after_change (λ c. (v : ℕ) × GivesNextSpace u h c v) (next_memory_change u h) (next_space_at i h) changes (none_in (λ c. (v : ℕ) × GivesNextSpace u h c v) changes none)
next_memory_step i _ h none = refl

next_memory_give : (i : Input) (e : Entry) (h : History) (v : ℕ) → ChangeGives GivesNextSpace e h v → next_space_at i (e ∷ h) ≡ v
next_memory_give i (Used u seq call regs args ids result changes) h v x =
    fold_last (λ n. n) next_space_after_change (λ c. (v : ℕ) × GivesNextSpace u h c v) (next_memory_change u h) (λ before. GivesNextSpace u h) (next_space_at i h)
    (λ before c w y. next_memory_by u h (fold next_space_after_change (next_space_at i h) before) c w y) changes v x
next_memory_give i (Reloaded u n done changes) h v x =
    fold_last (λ n. n) next_space_after_change (λ c. (v : ℕ) × GivesNextSpace u h c v) (next_memory_change u h) (λ before. GivesNextSpace u h) (next_space_at i h)
    (λ before c w y. next_memory_by u h (fold next_space_after_change (next_space_at i h) before) c w y) changes v x
next_memory_give i _ h v x = absurd x

pub next_memory : (i : Input) → IsLastChanged (next_space_at i) (suc (process_count i)) GivesNextSpace
next_memory i = last_given (next_space_at i) (suc (process_count i)) (ChangeTouches GivesNextSpace) (ChangeGives GivesNextSpace) refl (next_memory_step i) (next_memory_give i)
