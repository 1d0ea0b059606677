-- Changes that leave the numbers of messages, and those that leave processes and threads too.
use Rattle.std.proofs.Common.{◌≡◌, ℕ, Bool, true, false, cond, ◌==◌, List, [], ◌∷◌, Option, refl, ap, ◌∙◌}
use Rattle.std.specs.List.{fold}
use Rattle.st_model.specs.Process.{Process}
use Rattle.st_names.specs.Name.{Components}
use Rattle.st_effects.specs.Changes.{owner_after_change, owner_after, dying_after_change, dying_after, seq_after_change, seq_after, next_process_after_change, next_process_after, process_after_change, process_after}
use Rattle.st_trace.specs.declared.entry.Change.{Change}
use Rattle.st_trace.specs.declared.entry.Change.TheVariants.{Made, Linked, Removed, Renamed, Written, Cut, Moded, Owned, Put, Forked, Execed, SetIds, Cwd, Dying, Renewed, Policy}
use Rattle.st_law.specs.Messages.{Head, head_after_change, head_after_changes, posted_after_change, is_renewed_by}
use Rattle.st_law.proofs.Shapes.{IsQuiet, Each, AreQuiet}

-- what each of some changes leaves unchanged, all of them leave unchanged
pub fold_same : {A : Type 0} (f : A → Change → A) (P : Change → Type 0) → ((a : A) (c : Change) → P c → f a c ≡ a) → (a : A) (changes : List Change) → Each P changes → fold f a changes ≡ a
fold_same f P same a [] each = refl
fold_same f P same a (c ∷ changes) each = ap (λ b. fold f b changes) (same a c each.0) ∙ fold_same f P same a changes each.1

-- ---- changes that renew nothing

pub record IsMute (c : Change) : Type 0 where
  pub seq : (n : ℕ) → seq_after_change n c ≡ n
  pub head : (heads : ℕ → Option Head) (renewed : Head → Head) (q : ℕ) (before : Option Head) → head_after_change heads renewed q before c ≡ before
  pub renewed : (q : ℕ) (before : Bool) → is_renewed_by q before c ≡ before
  pub posted : (n : ℕ) → posted_after_change n c ≡ n

abbrev pub AreMute : List Change → Type 0
AreMute changes = Each IsMute changes

pub seq_mute : (n : ℕ) (changes : List Change) → AreMute changes → seq_after n changes ≡ n
seq_mute n changes mute = fold_same seq_after_change IsMute (λ n c x. x.seq n) n changes mute

pub head_mute : (heads : ℕ → Option Head) (renewed : Head → Head) (q : ℕ) (changes : List Change) → AreMute changes → head_after_changes heads renewed q changes ≡ heads q
head_mute heads renewed q changes mute = fold_same (head_after_change heads renewed q) IsMute (λ before c x. x.head heads renewed q before) (heads q) changes mute

pub renewed_mute : (q : ℕ) (before : Bool) (changes : List Change) → AreMute changes → fold (is_renewed_by q) before changes ≡ before
renewed_mute q before changes mute = fold_same (is_renewed_by q) IsMute (λ before c x. x.renewed q before) before changes mute

pub posted_mute : (n : ℕ) (changes : List Change) → AreMute changes → fold posted_after_change n changes ≡ n
posted_mute n changes mute = fold_same posted_after_change IsMute (λ n c x. x.posted n) n changes mute

-- a change is no renewal
abbrev pub IsNoRenewal : Change → Type 0
IsNoRenewal (Renewed old new) = ⊥
IsNoRenewal _ = Unit {0}

pub mute_of : (c : Change) → IsNoRenewal c → IsMute c
mute_of (Made name obj kind uid gid mode) x = record { seq = λ n. refl; head = λ heads renewed q before. refl; renewed = λ q before. refl; posted = λ n. refl }
mute_of (Linked name obj) x = record { seq = λ n. refl; head = λ heads renewed q before. refl; renewed = λ q before. refl; posted = λ n. refl }
mute_of (Removed name) x = record { seq = λ n. refl; head = λ heads renewed q before. refl; renewed = λ q before. refl; posted = λ n. refl }
mute_of (Renamed old new) x = record { seq = λ n. refl; head = λ heads renewed q before. refl; renewed = λ q before. refl; posted = λ n. refl }
mute_of (Written obj at bytes) x = record { seq = λ n. refl; head = λ heads renewed q before. refl; renewed = λ q before. refl; posted = λ n. refl }
mute_of (Cut obj len) x = record { seq = λ n. refl; head = λ heads renewed q before. refl; renewed = λ q before. refl; posted = λ n. refl }
mute_of (Moded obj mode) x = record { seq = λ n. refl; head = λ heads renewed q before. refl; renewed = λ q before. refl; posted = λ n. refl }
mute_of (Owned obj uid gid) x = record { seq = λ n. refl; head = λ heads renewed q before. refl; renewed = λ q before. refl; posted = λ n. refl }
mute_of (Put space at bytes) x = record { seq = λ n. refl; head = λ heads renewed q before. refl; renewed = λ q before. refl; posted = λ n. refl }
mute_of (Forked pid space tid) x = record { seq = λ n. refl; head = λ heads renewed q before. refl; renewed = λ q before. refl; posted = λ n. refl }
mute_of (Execed binary space) x = record { seq = λ n. refl; head = λ heads renewed q before. refl; renewed = λ q before. refl; posted = λ n. refl }
mute_of (SetIds ids) x = record { seq = λ n. refl; head = λ heads renewed q before. refl; renewed = λ q before. refl; posted = λ n. refl }
mute_of (Cwd name) x = record { seq = λ n. refl; head = λ heads renewed q before. refl; renewed = λ q before. refl; posted = λ n. refl }
mute_of (Dying pid) x = record { seq = λ n. refl; head = λ heads renewed q before. refl; renewed = λ q before. refl; posted = λ n. refl }
mute_of (Renewed old new) x = absurd x
mute_of (Policy binary) x = record { seq = λ n. refl; head = λ heads renewed q before. refl; renewed = λ q before. refl; posted = λ n. refl }

pub quiet_no_renewal : (c : Change) → IsQuiet c → IsNoRenewal c
quiet_no_renewal (Made name obj kind uid gid mode) x = tt
quiet_no_renewal (Linked name obj) x = tt
quiet_no_renewal (Removed name) x = tt
quiet_no_renewal (Renamed old new) x = tt
quiet_no_renewal (Written obj at bytes) x = tt
quiet_no_renewal (Cut obj len) x = tt
quiet_no_renewal (Moded obj mode) x = tt
quiet_no_renewal (Owned obj uid gid) x = tt
quiet_no_renewal (Put space at bytes) x = tt
quiet_no_renewal (Forked pid space tid) x = tt
quiet_no_renewal (Execed binary space) x = tt
quiet_no_renewal (SetIds ids) x = tt
quiet_no_renewal (Cwd name) x = tt
quiet_no_renewal (Dying pid) x = tt
quiet_no_renewal (Renewed old new) x = x
quiet_no_renewal (Policy binary) x = tt

pub mute_of_quiet : (changes : List Change) → AreQuiet changes → AreMute changes
mute_of_quiet [] quiet = tt
mute_of_quiet (c ∷ changes) quiet = (mute_of c (quiet_no_renewal c quiet.0), mute_of_quiet changes quiet.1)

-- ---- changes that leave processes and threads

pub record IsStill (c : Change) : Type 0 where
  pub owner : (t o : ℕ) → owner_after_change t o c ≡ o
  pub next : (n : ℕ) → next_process_after_change n c ≡ n
  pub ids : (processes : ℕ → Process) (m p : ℕ) (before : Process) → (process_after_change processes m p before c).ids ≡ before.ids
  pub policy : (processes : ℕ → Process) (m p : ℕ) (before : Process) → (process_after_change processes m p before c).policy ≡ before.policy

moved_ids : (name : Components) (before : Process) (b : Bool) → (cond b (record before { cwd = name }) before).ids ≡ before.ids
moved_ids name before true = refl
moved_ids name before false = refl

moved_policy : (name : Components) (before : Process) (b : Bool) → (cond b (record before { cwd = name }) before).policy ≡ before.policy
moved_policy name before true = refl
moved_policy name before false = refl

pub still_of : (c : Change) → IsQuiet c → IsStill c
still_of (Made name obj kind uid gid mode) x = record { owner = λ t o. refl; next = λ n. refl; ids = λ processes m p before. refl; policy = λ processes m p before. refl }
still_of (Linked name obj) x = record { owner = λ t o. refl; next = λ n. refl; ids = λ processes m p before. refl; policy = λ processes m p before. refl }
still_of (Removed name) x = record { owner = λ t o. refl; next = λ n. refl; ids = λ processes m p before. refl; policy = λ processes m p before. refl }
still_of (Renamed old new) x = record { owner = λ t o. refl; next = λ n. refl; ids = λ processes m p before. refl; policy = λ processes m p before. refl }
still_of (Written obj at bytes) x = record { owner = λ t o. refl; next = λ n. refl; ids = λ processes m p before. refl; policy = λ processes m p before. refl }
still_of (Cut obj len) x = record { owner = λ t o. refl; next = λ n. refl; ids = λ processes m p before. refl; policy = λ processes m p before. refl }
still_of (Moded obj mode) x = record { owner = λ t o. refl; next = λ n. refl; ids = λ processes m p before. refl; policy = λ processes m p before. refl }
still_of (Owned obj uid gid) x = record { owner = λ t o. refl; next = λ n. refl; ids = λ processes m p before. refl; policy = λ processes m p before. refl }
still_of (Put space at bytes) x = record { owner = λ t o. refl; next = λ n. refl; ids = λ processes m p before. refl; policy = λ processes m p before. refl }
still_of (Forked pid space tid) x = absurd x
still_of (Execed binary space) x = absurd x
still_of (SetIds ids) x = absurd x
still_of (Cwd name) x = record { owner = λ t o. refl; next = λ n. refl; ids = λ processes m p before. moved_ids name before (m == p); policy = λ processes m p before. moved_policy name before (m == p) }
still_of (Dying pid) x = record { owner = λ t o. refl; next = λ n. refl; ids = λ processes m p before. refl; policy = λ processes m p before. refl }
still_of (Renewed old new) x = absurd x
still_of (Policy binary) x = absurd x

pub owner_quiet : (t o : ℕ) (changes : List Change) → AreQuiet changes → owner_after t o changes ≡ o
owner_quiet t o changes quiet = fold_same (owner_after_change t) IsQuiet (λ o c x. (still_of c x).owner t o) o changes quiet

pub next_quiet : (n : ℕ) (changes : List Change) → AreQuiet changes → next_process_after n changes ≡ n
next_quiet n changes quiet = fold_same next_process_after_change IsQuiet (λ n c x. (still_of c x).next n) n changes quiet

module _ (processes : ℕ → Process) (m p : ℕ) where
  fold_ids : (before : Process) (changes : List Change) → AreQuiet changes → (fold (process_after_change processes m p) before changes).ids ≡ before.ids
  fold_ids before [] quiet = refl
  fold_ids before (c ∷ changes) quiet = fold_ids (process_after_change processes m p before c) changes quiet.1 ∙ (still_of c quiet.0).ids processes m p before

  fold_policy : (before : Process) (changes : List Change) → AreQuiet changes → (fold (process_after_change processes m p) before changes).policy ≡ before.policy
  fold_policy before [] quiet = refl
  fold_policy before (c ∷ changes) quiet = fold_policy (process_after_change processes m p before c) changes quiet.1 ∙ (still_of c quiet.0).policy processes m p before

  pub ids_quiet : (changes : List Change) → AreQuiet changes → (process_after processes m p changes).ids ≡ (processes p).ids
  ids_quiet changes quiet = fold_ids (processes p) changes quiet

  pub policy_quiet : (changes : List Change) → AreQuiet changes → (process_after processes m p changes).policy ≡ (processes p).policy
  policy_quiet changes quiet = fold_policy (processes p) changes quiet

-- ---- a dying thread stays dying

dying_more : (t p u m : ℕ) (c : Change) → dying_after_change t p u m true c ≡ true
dying_more t p u m (Made name obj kind uid gid mode) = refl
dying_more t p u m (Linked name obj) = refl
dying_more t p u m (Removed name) = refl
dying_more t p u m (Renamed old new) = refl
dying_more t p u m (Written obj at bytes) = refl
dying_more t p u m (Cut obj len) = refl
dying_more t p u m (Moded obj mode) = refl
dying_more t p u m (Owned obj uid gid) = refl
dying_more t p u m (Put space at bytes) = refl
dying_more t p u m (Forked pid space tid) = refl
dying_more t p u m (Execed binary space) = refl
dying_more t p u m (SetIds ids) = refl
dying_more t p u m (Cwd name) = refl
dying_more t p u m (Dying pid) = refl
dying_more t p u m (Renewed old new) = refl
dying_more t p u m (Policy binary) = refl

fold_dying : (t p u m : ℕ) (changes : List Change) → fold (dying_after_change t p u m) true changes ≡ true
fold_dying t p u m [] = refl
fold_dying t p u m (c ∷ changes) = ap (λ b. fold (dying_after_change t p u m) b changes) (dying_more t p u m c) ∙ fold_dying t p u m changes

pub undying_before : (t p u m : ℕ) (before : Bool) (changes : List Change) → dying_after t p u m before changes ≡ false → before ≡ false
undying_before t p u m true changes e = let dead : dying_after t p u m true changes ≡ true = fold_dying t p u m changes in cc
undying_before t p u m false changes e = refl
