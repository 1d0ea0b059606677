-- The progress of a message, by the first of its arguments that isn't finished.
use Rattle.std.proofs.Common.{◌≡◌, ◌<◌, ◌≤◌, ℕ, zero, suc, ◌+◌, Bool, true, false, not, cond, nat_lt, List, [], ◌∷◌, ◌++◌, length, map, get_or, Some, None, refl, ap, sym, ◌∙◌, subst, arith, append_assoc, length-append}
use Rattle.std.specs.Prelude.{All}
use Rattle.std.specs.List.{position}
use Rattle.std.proofs.lemmas.Bool.{ltb-false, true≢false}
use Rattle.std.proofs.lemmas.List.Quantifiers.{position-Some}
use Rattle.std.proofs.lemmas.List.Sums.{fails_before_first}
use Rattle.std.specs.List.{position_or_len}
use Rattle.st_calls.specs.Argument.{args_of}
use Rattle.st_calls.specs.declared.argument.ArgSpec.{ArgSpec}
use Rattle.st_calls.specs.declared.argument.ArgText.{ArgText}
use Rattle.st_calls.specs.declared.argument.PartKind.{PartKind}
use Rattle.st_calls.specs.declared.argument.PartKind.TheVariants as kind
use Rattle.st_effects.specs.Progress.{ArgRequest, Progress, Word, Look, Stuck, Ready, progress_from, progress_of_spelling, progress_of_text, progress_of_walk, with_arg, is_followed}
use Rattle.st_lookaside.specs.Head.{arg_request}
use Rattle.st_lookaside.specs.Need.{is_finished, need_of, progress_alone, IsWord}
use Rattle.st_lookaside.specs.Part.{Filled, filled_of, progress_of_arg, spelled_of, words_in, IsPart}
use Rattle.st_lookaside.specs.Slot.{Slot, kept_slot, next_need, part_at, part_next, slot_progress, progress_of_parts, IsDue, IsLookNext, HasAllArguments, IsSlot, IsWordNext}
use Rattle.st_lookaside.specs.declared.head.Head.{Head}
use Rattle.st_lookaside.specs.declared.need.Need.{Need}
use Rattle.st_lookaside.specs.declared.need.Need.TheVariants as need
use Rattle.st_lookaside.specs.declared.part.Part.{Part}
use Rattle.st_lookaside.specs.declared.slot.Next.{Next}
use Rattle.st_lookaside.specs.declared.slot.Next.TheVariants as next
use Rattle.st_model.specs.Spelling as spelling
use Rattle.st_model.specs.Walk as model
use Rattle.st_model.specs.Walk.{WalkState, start_walk}
use Rattle.st_names.specs.Name.{Components}
use Rattle.st_names.specs.declared.seen.SeenText.{SeenText}

-- ---- an argument before others

-- the progress of an argument by itself, with this index and before others
abbrev pub in_front : ℕ → Progress → Progress → Progress
in_front j (Word part place) rest = Word j place
in_front j (Look part name) rest = Look j name
in_front j (Stuck errno) rest = Stuck errno
in_front j (Ready []) rest = rest
in_front j (Ready (arg ∷ args)) rest = with_arg arg rest

front_of_walk : (j : ℕ) (spec : ArgSpec) (w : WalkState) (rest : Progress) → progress_of_walk j spec w rest ≡ in_front j (progress_of_walk 0 spec w (Ready [])) rest
front_of_walk j spec (model.Next name) rest = refl
front_of_walk j spec (model.Fault errno) rest = refl
front_of_walk j spec (model.Name name) rest = refl

front_of_text : (k : PartKind) (j : ℕ) (spec : ArgSpec) (cwd : Components) (follow : Bool) (lookups : List SeenText) (text : List ℕ) (rest : Progress) →
    progress_of_text k j spec cwd follow lookups text rest ≡ in_front j (progress_of_text k 0 spec cwd follow lookups text (Ready [])) rest
front_of_text kind.Name j spec cwd follow lookups text rest = front_of_walk j spec (start_walk text cwd follow lookups) rest
front_of_text kind.Plain j spec cwd follow lookups text rest = refl
front_of_text kind.Addr j spec cwd follow lookups text rest = refl
front_of_text kind.Argv j spec cwd follow lookups text rest = refl
front_of_text kind.Decimal j spec cwd follow lookups text rest = refl
front_of_text kind.Octal j spec cwd follow lookups text rest = refl
front_of_text kind.Domain j spec cwd follow lookups text rest = refl
front_of_text kind.SockType j spec cwd follow lookups text rest = refl

pub front_is : (j : ℕ) (spec : ArgSpec) (cwd : Components) (follow : Bool) (lookups : List SeenText) (s : spelling.Spelled) (rest : Progress) →
    progress_of_spelling j spec cwd follow lookups s rest ≡ in_front j (progress_alone spec cwd follow lookups s) rest
front_is j spec cwd follow lookups (spelling.More place) rest = refl
front_is j spec cwd follow lookups (spelling.Fault errno) rest = refl
front_is j spec cwd follow lookups (spelling.Text text) rest = front_of_text spec.kind j spec cwd follow lookups text rest

-- ---- the arguments that are kept

-- the progress of an argument, by what is kept of it
abbrev pub progress_of_part : ArgRequest → Part → Progress
progress_of_part asked part = progress_of_arg asked part.spec (words_in part.copying) part.lookups.items

-- the progress of these arguments, from this index on
abbrev pub progress_kept : ℕ → ArgRequest → List Part → Progress
progress_kept j asked [] = Ready []
progress_kept j asked (part ∷ parts) = in_front j (progress_of_part asked part) (progress_kept (j + 1) asked parts)

part_here : (front : List Part) (part : Part) (parts : List Part) → part_at (map filled_of (front ++ part ∷ parts)) (length front) ≡ filled_of part
part_here [] part parts = refl
part_here (first ∷ front) part parts = part_here front part parts

kept_from : (asked : ArgRequest) (all front parts : List Part) → all ≡ front ++ parts →
    progress_from (length front) (map (λ part. part.spec) parts) asked (λ j. (part_at (map filled_of all) j).words) (λ j. (part_at (map filled_of all) j).lookups) ≡ progress_kept (length front) asked parts
kept_from asked all front [] e = refl
kept_from asked all front (part ∷ parts) e =
    let j : ℕ = length front in
    let w : ℕ → List ℕ = λ j. (part_at (map filled_of all) j).words in
    let l : ℕ → List SeenText = λ j. (part_at (map filled_of all) j).lookups in
    let here : part_at (map filled_of all) j ≡ filled_of part = ap (λ (ps : List Part). part_at (map filled_of ps) j) e ∙ part_here front part parts in
    let more : length (front ++ part ∷ []) ≡ j + 1 = length-append front (part ∷ []) in
    let rest : progress_from (j + 1) (map (λ part. part.spec) parts) asked w l ≡ progress_kept (j + 1) asked parts =
    subst (λ (n : ℕ). progress_from n (map (λ part. part.spec) parts) asked w l ≡ progress_kept n asked parts) more
    (kept_from asked all (front ++ part ∷ []) parts (e ∙ sym (append_assoc front (part ∷ []) parts))) in
    front_is j part.spec asked.cwd (is_followed asked part.spec) (l j) (spelled_of asked part.spec (w j)) _
    ∙ ap (λ (f : Filled). in_front j (progress_of_arg asked part.spec f.words f.lookups) (progress_from (j + 1) (map (λ part. part.spec) parts) asked w l)) here
    ∙ ap (in_front j (progress_of_part asked part)) rest

-- the progress of a message is that of the arguments that are kept of it
pub progress_is : (head : Head) (parts : List Part) → map (λ part. part.spec) parts ≡ args_of head.rule → progress_of_parts head (map filled_of parts) ≡ progress_kept 0 (arg_request head) parts
progress_is head parts specs =
    ap (λ (ss : List ArgSpec). progress_from 0 ss (arg_request head) (λ j. (part_at (map filled_of parts) j).words) (λ j. (part_at (map filled_of parts) j).lookups)) (sym specs)
    ∙ kept_from (arg_request head) parts [] parts refl

-- ---- the first argument that isn't finished

-- something is needed, or there is a fault
abbrev pub is_open : Progress → Bool
is_open p = not (is_finished (need_of p))

passes : (j : ℕ) (p rest : Progress) → is_open p ≡ false → is_open rest ≡ true → in_front j p rest ≡ rest
passes j (Word part place) rest p_is rest_is = cc
passes j (Look part name) rest p_is rest_is = cc
passes j (Stuck errno) rest p_is rest_is = cc
passes j (Ready []) rest p_is rest_is = refl
passes j (Ready (arg ∷ args)) (Word part place) p_is rest_is = refl
passes j (Ready (arg ∷ args)) (Look part name) p_is rest_is = refl
passes j (Ready (arg ∷ args)) (Stuck errno) p_is rest_is = refl
passes j (Ready (arg ∷ args)) (Ready more) p_is rest_is = cc

stops : (j : ℕ) (p rest : Progress) → is_open p ≡ true → in_front j p rest ≡ in_front j p (Ready [])
stops j (Word part place) rest p_is = refl
stops j (Look part name) rest p_is = refl
stops j (Stuck errno) rest p_is = refl
stops j (Ready args) rest p_is = cc

pub open_in_front : (j : ℕ) (p rest : Progress) → is_open p ≡ true → is_open (in_front j p rest) ≡ true
open_in_front j (Word part place) rest p_is = refl
open_in_front j (Look part name) rest p_is = refl
open_in_front j (Stuck errno) rest p_is = refl
open_in_front j (Ready args) rest p_is = cc

first_open : (asked : ArgRequest) (parts : List Part) (i j : ℕ) (d : Part) → i < length parts → ((k : ℕ) → k < i → is_open (progress_of_part asked (get_or parts k d)) ≡ false) →
    is_open (progress_of_part asked (get_or parts i d)) ≡ true → progress_kept j asked parts ≡ in_front (j + i) (progress_of_part asked (get_or parts i d)) (Ready [])
first_open asked [] i j d within before here = absurd (omega arith)
first_open asked (part ∷ parts) zero j d within before here = stops j (progress_of_part asked part) _ here ∙ ap (λ (n : ℕ). in_front n (progress_of_part asked part) (Ready [])) (omega arith)
first_open asked (part ∷ parts) (suc i) j d within before here =
    let rest : progress_kept (j + 1) asked parts ≡ in_front (j + suc i) (progress_of_part asked (get_or parts i d)) (Ready []) =
    first_open asked parts i (j + 1) d (omega arith) (λ k lt. before (suc k) (omega arith)) here
    ∙ ap (λ (n : ℕ). in_front n (progress_of_part asked (get_or parts i d)) (Ready [])) (omega arith) in
    ap (in_front j (progress_of_part asked part)) rest
    ∙ passes j (progress_of_part asked part) _ (before 0 (omega arith)) (open_in_front (j + suc i) (progress_of_part asked (get_or parts i d)) (Ready []) here)

module _ (asked : ArgRequest) (parts : List Part) (are : All (IsPart asked) parts) (d : Part) where
  kept_open : (k : ℕ) → k < length parts → not (is_finished (get_or parts k d).need) ≡ is_open (progress_of_part asked (get_or parts k d))
  kept_open k within = ap (λ (n : Need). not (is_finished n)) (are k d within).need

-- the arguments before it are finished, and it decides the progress of the message
pub record IsOpenAt (head : Head) (parts : List Part) (j : ℕ) (part : Part) : Type 0 where
  pub within : j < length parts
  pub is_part : IsPart (arg_request head) part
  pub here : part ≡ get_or parts j part
  pub before : (k : ℕ) (d : Part) → k < j → (get_or parts k d).need ≡ need.Nothing
  pub opened : is_open (progress_of_part (arg_request head) part) ≡ true
  pub progress : progress_of_parts head (map filled_of parts) ≡ in_front j (progress_of_part (arg_request head) part) (Ready [])

finished_by : (n : Need) → not (is_finished n) ≡ false → n ≡ need.Nothing
finished_by (need.Word place) e = cc
finished_by need.Look e = cc
finished_by (need.Fault errno) e = cc
finished_by need.Nothing e = refl

pub open_at : (head : Head) (parts same : List Part) (j : ℕ) (part : Part) → IsSlot head parts → same ≡ parts → Some j ≡ position (λ part. not (is_finished part.need)) same → part ≡ get_or parts j part → IsOpenAt head parts j part
open_at head parts same j part slot copied first here =
    let asked = arg_request head in
    let specs = slot.specs in
    let are : All (IsPart asked) parts = slot.parts in
    let found : position (λ part. not (is_finished part.need)) parts ≡ Some j = ap (position (λ (part : Part). not (is_finished part.need))) (sym copied) ∙ sym first in
    let at = position-Some (λ part. not (is_finished part.need)) parts j part found in
    let opened : is_open (progress_of_part asked (get_or parts j part)) ≡ true = sym (kept_open asked parts are part j at.0) ∙ at.1 in
    let before : (k : ℕ) → k < j → is_open (progress_of_part asked (get_or parts k part)) ≡ false = λ k lt. sym (kept_open asked parts are part k (omega (arith, at.0, lt))) ∙ at.2 k lt in
    record {
      within = at.0;
      here = here;
      is_part = subst (IsPart asked) (sym here) (are j part at.0);
      before = λ k d lt. finished_by _ ((position-Some (λ part. not (is_finished part.need)) parts j d found).2 k lt);
      opened = subst (λ (p : Part). is_open (progress_of_part asked p) ≡ true) (sym here) opened;
      progress = progress_is head parts specs ∙ first_open asked parts j 0 part at.0 before opened ∙ ap (λ (n : ℕ). in_front n (progress_of_part asked (get_or parts j part)) (Ready [])) (omega arith)
          ∙ ap (λ (p : Part). in_front j (progress_of_part asked p) (Ready [])) (sym here);
    }

-- what is needed next, by the argument that decides it
abbrev pub next_at : ℕ → Need → Next
next_at j (need.Word place) = next.Word j place
next_at j need.Look = next.Look j
next_at j (need.Fault errno) = next.Fault errno
next_at j need.Nothing = next.Ready

pub next_in_front : (j : ℕ) (p : Progress) → next_need (in_front j p (Ready [])) ≡ next_at j (need_of p)
next_in_front j (Word part place) = refl
next_in_front j (Look part name) = refl
next_in_front j (Stuck errno) = refl
next_in_front j (Ready []) = refl
next_in_front j (Ready (arg ∷ args)) = refl

word_in_front : (j : ℕ) (p : Progress) → IsWordNext (in_front j p (Ready [])) → IsWord (need_of p) × (part_next (in_front j p (Ready [])) ≡ j)
word_in_front j (Word part place) is = (tt, refl)
word_in_front j (Look part name) is = absurd is
word_in_front j (Stuck errno) is = absurd is
word_in_front j (Ready []) is = absurd is
word_in_front j (Ready (arg ∷ args)) is = absurd is

look_in_front : (j : ℕ) (p : Progress) → IsLookNext (in_front j p (Ready [])) → (need_of p ≡ need.Look) × (part_next (in_front j p (Ready [])) ≡ j)
look_in_front j (Word part place) is = absurd is
look_in_front j (Look part name) is = (refl, refl)
look_in_front j (Stuck errno) is = absurd is
look_in_front j (Ready []) is = absurd is
look_in_front j (Ready (arg ∷ args)) is = absurd is

due_in_front : (j : ℕ) (p : Progress) → IsDue (in_front j p (Ready [])) → part_next (in_front j p (Ready [])) ≡ j
due_in_front j (Word part place) is = refl
due_in_front j (Look part name) is = refl
due_in_front j (Stuck errno) is = absurd is
due_in_front j (Ready []) is = absurd is
due_in_front j (Ready (arg ∷ args)) is = absurd is

module _ (head : Head) (parts : List Part) (j : ℕ) (part : Part) (at : IsOpenAt head parts j part) where
  pub next_is : next_at j part.need ≡ next_need (progress_of_parts head (map filled_of parts))
  next_is = ap (next_at j) at.is_part.need ∙ sym (ap next_need at.progress ∙ next_in_front j (progress_of_part (arg_request head) part))

  pub word_due : IsWordNext (progress_of_parts head (map filled_of parts)) → IsWord part.need × (part_next (progress_of_parts head (map filled_of parts)) ≡ j)
  word_due is =
      let due = word_in_front j (progress_of_part (arg_request head) part) (subst IsWordNext at.progress is) in
      (subst IsWord (sym at.is_part.need) due.0, ap part_next at.progress ∙ due.1)

  pub look_due : IsLookNext (progress_of_parts head (map filled_of parts)) → (part.need ≡ need.Look) × (part_next (progress_of_parts head (map filled_of parts)) ≡ j)
  look_due is =
      let due = look_in_front j (progress_of_part (arg_request head) part) (subst IsLookNext at.progress is) in
      (at.is_part.need ∙ due.0, ap part_next at.progress ∙ due.1)

  pub due_place : IsDue (progress_of_parts head (map filled_of parts)) → part_next (progress_of_parts head (map filled_of parts)) ≡ j
  due_place is = ap part_next at.progress ∙ due_in_front j (progress_of_part (arg_request head) part) (subst IsDue at.progress is)

  -- an argument that needs something isn't finished
  pub not_finished : part.need ≡ need.Nothing → ⊥
  not_finished is = true≢false (sym at.opened ∙ ap (λ (n : Need). not (is_finished n)) (sym at.is_part.need ∙ is))

  pub not_ready : HasAllArguments (progress_of_parts head (map filled_of parts)) → ⊥
  not_ready is = ready_open _ (subst HasAllArguments at.progress is) (open_in_front j (progress_of_part (arg_request head) part) (Ready []) at.opened) where
    ready_open : (p : Progress) → HasAllArguments p → is_open p ≡ true → ⊥
    ready_open (Word part place) is e = is
    ready_open (Look part name) is e = is
    ready_open (Stuck errno) is e = is
    ready_open (Ready args) is e = true≢false (sym e)

-- ---- all arguments are finished

none_in_front : (j : ℕ) (p rest : Progress) → is_open p ≡ false → is_open rest ≡ false → is_open (in_front j p rest) ≡ false
none_in_front j (Word part place) rest p_is rest_is = cc
none_in_front j (Look part name) rest p_is rest_is = cc
none_in_front j (Stuck errno) rest p_is rest_is = cc
none_in_front j (Ready []) rest p_is rest_is = rest_is
none_in_front j (Ready (arg ∷ args)) (Word part place) p_is rest_is = cc
none_in_front j (Ready (arg ∷ args)) (Look part name) p_is rest_is = cc
none_in_front j (Ready (arg ∷ args)) (Stuck errno) p_is rest_is = cc
none_in_front j (Ready (arg ∷ args)) (Ready more) p_is rest_is = refl

none_open : (asked : ArgRequest) (parts : List Part) (j : ℕ) (d : Part) → ((k : ℕ) → k < length parts → is_open (progress_of_part asked (get_or parts k d)) ≡ false) → is_open (progress_kept j asked parts) ≡ false
none_open asked [] j d are = refl
none_open asked (part ∷ parts) j d are = none_in_front j (progress_of_part asked part) _ (are 0 (omega arith)) (none_open asked parts (j + 1) d (λ k lt. are (suc k) (omega arith)))

-- nothing is needed and there is no fault
pub record IsAllThere (p : Progress) : Type 0 where
  pub ready : next.Ready ≡ next_need p
  pub no_word : IsWordNext p → ⊥
  pub no_look : IsLookNext p → ⊥
  pub not_due : IsDue p → ⊥

ready_next : (p : Progress) → is_open p ≡ false → IsAllThere p
ready_next (Word part place) e = absurd (true≢false e)
ready_next (Look part name) e = absurd (true≢false e)
ready_next (Stuck errno) e = absurd (true≢false e)
ready_next (Ready args) e = record { ready = refl; no_word = λ is. is; no_look = λ is. is; not_due = λ is. is }

none_by : (b : Bool) (n m : ℕ) → nat_lt n m ≡ b → cond b (Some n) None ≡ None → m ≤ n
none_by true n m e none = cc
none_by false n m e none = ltb-false _ _ e

none_passes : (test : Part → Bool) (parts : List Part) (k : ℕ) (d : Part) → position test parts ≡ None → k < length parts → test (get_or parts k d) ≡ false
none_passes test parts k d none within =
    fails_before_first test parts k d (let all = none_by _ (position_or_len test parts) (length parts) refl none in omega (arith, all, within))

-- if no argument is open, the message is ready
finished_all : (head : Head) (parts : List Part) → map (λ part. part.spec) parts ≡ args_of head.rule → All (IsPart (arg_request head)) parts → None ≡ position (λ part. not (is_finished part.need)) parts → IsAllThere (progress_of_parts head (map filled_of parts))
finished_all head [] specs are none = ready_next _ (ap is_open (progress_is head [] specs))
finished_all head (part ∷ parts) specs are none =
    ready_next _ (ap is_open (progress_is head (part ∷ parts) specs) ∙ none_open (arg_request head) (part ∷ parts) 0 part
    (λ k lt. sym (kept_open (arg_request head) (part ∷ parts) are part k lt) ∙ none_passes (λ part. not (is_finished part.need)) (part ∷ parts) k part (sym none) lt))

pub all_finished : (head : Head) (parts same : List Part) (sealed : Bool) (now : Slot) → IsSlot head parts → kept_slot head parts sealed ≡ now → same ≡ parts → None ≡ position (λ part. not (is_finished part.need)) same → IsAllThere (slot_progress now)
all_finished head parts same sealed now slot view copied none =
    subst (λ (s : Slot). IsAllThere (slot_progress s)) view
    (finished_all head parts slot.specs slot.parts (none ∙ ap (position (λ (part : Part). not (is_finished part.need))) copied))

-- ---- the arguments of a message that is ready

-- these are the arguments of such parts, one for each
abbrev pub AreArgs : ArgRequest → List Part → List ArgText → Type 0
AreArgs asked [] [] = Unit {0}
AreArgs asked [] (arg ∷ args) = ⊥
AreArgs asked (part ∷ parts) [] = ⊥
AreArgs asked (part ∷ parts) (arg ∷ args) = (progress_of_part asked part ≡ Ready (arg ∷ [])) × AreArgs asked parts args

pub AreArgs-push : (asked : ArgRequest) (parts : List Part) (args : List ArgText) (part : Part) (arg : ArgText) → AreArgs asked parts args → progress_of_part asked part ≡ Ready (arg ∷ []) → AreArgs asked (parts ++ part ∷ []) (args ++ arg ∷ [])
AreArgs-push asked [] [] part arg are is = (is, tt)
AreArgs-push asked [] (a ∷ args) part arg are is = absurd are
AreArgs-push asked (p ∷ parts) [] part arg are is = absurd are
AreArgs-push asked (p ∷ parts) (a ∷ args) part arg are is = (are.0, AreArgs-push asked parts args part arg are.1 is)

kept_args : (asked : ArgRequest) (parts : List Part) (args : List ArgText) (j : ℕ) → AreArgs asked parts args → progress_kept j asked parts ≡ Ready args
kept_args asked [] [] j are = refl
kept_args asked [] (arg ∷ args) j are = absurd are
kept_args asked (part ∷ parts) [] j are = absurd are
kept_args asked (part ∷ parts) (arg ∷ args) j are = ap (λ (p : Progress). in_front j p (progress_kept (j + 1) asked parts)) are.0 ∙ ap (with_arg arg) (kept_args asked parts args (j + 1) are.1)

pub ready_args : (head : Head) (parts : List Part) (args : List ArgText) → map (λ part. part.spec) parts ≡ args_of head.rule → AreArgs (arg_request head) parts args → progress_of_parts head (map filled_of parts) ≡ Ready args
ready_args head parts args specs are = progress_is head parts specs ∙ kept_args (arg_request head) parts args 0 are

both_ready : (j : ℕ) (p rest : Progress) → HasAllArguments (in_front j p rest) → (is_open p ≡ false) × HasAllArguments rest
both_ready j (Word part place) rest is = absurd is
both_ready j (Look part name) rest is = absurd is
both_ready j (Stuck errno) rest is = absurd is
both_ready j (Ready []) rest is = (refl, is)
both_ready j (Ready (arg ∷ args)) (Word part place) is = absurd is
both_ready j (Ready (arg ∷ args)) (Look part name) is = absurd is
both_ready j (Ready (arg ∷ args)) (Stuck errno) is = absurd is
both_ready j (Ready (arg ∷ args)) (Ready more) is = (refl, tt)

each_finished : (asked : ArgRequest) (parts : List Part) (j k : ℕ) (d : Part) → HasAllArguments (progress_kept j asked parts) → k < length parts → is_open (progress_of_part asked (get_or parts k d)) ≡ false
each_finished asked [] j k d is within = absurd (omega arith)
each_finished asked (part ∷ parts) j zero d is within = (both_ready j (progress_of_part asked part) _ is).0
each_finished asked (part ∷ parts) j (suc k) d is within = each_finished asked parts (j + 1) k d (both_ready j (progress_of_part asked part) _ is).1 (omega arith)

-- each argument of a message that is ready is finished
pub ready_finished : (head : Head) (parts : List Part) (k : ℕ) (d : Part) → map (λ part. part.spec) parts ≡ args_of head.rule → All (IsPart (arg_request head)) parts → HasAllArguments (progress_of_parts head (map filled_of parts)) → k < length parts →
    (get_or parts k d).need ≡ need.Nothing
ready_finished head parts k d specs are is within =
    finished_by _ (kept_open (arg_request head) parts are d k within ∙ each_finished (arg_request head) parts 0 k d (subst HasAllArguments (progress_is head parts specs) is) within)
