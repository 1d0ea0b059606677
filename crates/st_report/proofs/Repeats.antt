-- What lines of joined neighbours spell, and that no other such lines spell the same.
use native.Mathlib.Omega.{arith}
use Rattle.std.proofs.Common.{◌≡◌, ℕ, zero, suc, ◌+◌, ◌<◌, ◌≤◌, Bool, true, false, cond, List, [], ◌∷◌, ◌++◌, replicate, refl, sym, ap, subst, ◌∙◌}
use Rattle.std.specs.Prelude.{length, nat_lt, slice_index_or, slice_set}
use Rattle.std.proofs.lemmas.Bool.{and_from, and_parts, eq-eqb, eqb-true, lt-ltb, ltb-true}
use Rattle.st_trace.specs.declared.entry.Choice.{Choice}
use Rattle.st_trace.specs.declared.entry.Choice.TheVariants.{Thread, Worker, Operator}
use Rattle.st_law.specs.declared.input.TheConstants.{MOST_TIMES}
use Rattle.st_report.specs.ScheduleText.{AreJoined, is_same_choice, joins, repeat_of, repeats_after, repeats_of, repeats_with, spelled_choices}
use Rattle.st_report.specs.declared.schedule.Repeat.{Repeat}

-- ---- choices

same_choice : (c d : Choice) → is_same_choice c d ≡ true → c ≡ d
same_choice (Thread t) (Thread u) e = ap Thread (eqb-true t u e)
same_choice (Thread t) (Worker w) e = cc
same_choice (Thread t) Operator e = cc
same_choice (Worker w) (Thread t) e = cc
same_choice (Worker v) (Worker w) e = ap Worker (eqb-true v w e)
same_choice (Worker w) Operator e = cc
same_choice Operator (Thread t) e = cc
same_choice Operator (Worker w) e = cc
same_choice Operator Operator e = refl

one_choice : (c : Choice) → is_same_choice c c ≡ true
one_choice (Thread t) = eq-eqb t t refl
one_choice (Worker w) = eq-eqb w w refl
one_choice Operator = refl

-- whether the next choice joins the line
abbrev is_printed_with : Choice → ℕ → Choice → Bool
is_printed_with c n d = joins (repeat_of c n) d

-- it does if the line isn't full and the choice is the same
printed_parts : (c d : Choice) (n : ℕ) → is_printed_with c n d ≡ true → (is_same_choice c d ≡ true) × (nat_lt n MOST_TIMES ≡ true)
printed_parts c d n e = let both = and_parts (nat_lt n MOST_TIMES) (is_same_choice c d) e in (both.1, both.0)

printed_from : (c d : Choice) (n : ℕ) → is_same_choice c d ≡ true → nat_lt n MOST_TIMES ≡ true → is_printed_with c n d ≡ true
printed_from c d n same room = and_from (nat_lt n MOST_TIMES) (is_same_choice c d) room same

one_more_time : (n : ℕ) (c : Choice) (cs : List Choice) → replicate (suc n) c ++ cs ≡ replicate n c ++ c ∷ cs
one_more_time zero c cs = refl
one_more_time (suc n) c cs = ap (λ rest. c ∷ rest) (one_more_time n c cs)

-- ---- lines spell their choices

spelled_by : (c d : Choice) (n : ℕ) (cs : List Choice) → spelled_choices (repeats_after c (suc n) cs) ≡ replicate (suc n) c ++ cs → spelled_choices (repeats_after d 1 cs) ≡ d ∷ cs
    → (b : Bool) → is_printed_with c n d ≡ b → spelled_choices (cond b (repeats_after c (suc n) cs) (repeat_of c n ∷ repeats_after d 1 cs)) ≡ replicate n c ++ d ∷ cs
spelled_by c d n cs more other true e =
    let same : c ≡ d = same_choice c d (printed_parts c d n e).0 in
    more ∙ one_more_time n c cs ∙ ap (λ (x : Choice). replicate n c ++ x ∷ cs) same
spelled_by c d n cs more other false e = ap (λ rest. replicate n c ++ rest) other

spelled_later : (c : Choice) (n : ℕ) (cs : List Choice) → spelled_choices (repeats_after c n cs) ≡ replicate n c ++ cs
spelled_later c n [] = refl
spelled_later c n (d ∷ cs) = spelled_by c d n cs (spelled_later c (suc n) cs) (spelled_later d 1 cs) (is_printed_with c n d) refl

pub spelled_again : (choices : List Choice) → spelled_choices (repeats_of choices) ≡ choices
spelled_again [] = refl
spelled_again (c ∷ cs) = spelled_later c 1 cs

-- ---- each line is as long as it may be

-- lines begin with this choice
record BeginsWith (c : Choice) (repeats : List Repeat) : Type 0 where
  times : ℕ
  later : List Repeat
  split : repeats ≡ repeat_of c times ∷ later

begins_by : (c d : Choice) (n : ℕ) (cs : List Choice) → BeginsWith c (repeats_after c (suc n) cs) → (b : Bool) → BeginsWith c (cond b (repeats_after c (suc n) cs) (repeat_of c n ∷ repeats_after d 1 cs))
begins_by c d n cs more true = more
begins_by c d n cs more false = record { times = n; later = repeats_after d 1 cs; split = refl }

begins : (c : Choice) (n : ℕ) (cs : List Choice) → BeginsWith c (repeats_after c n cs)
begins c n [] = record { times = n; later = []; split = refl }
begins c n (d ∷ cs) = begins_by c d n cs (begins c (suc n) cs) (is_printed_with c n d)

joined_before : (c d : Choice) (n : ℕ) (repeats : List Repeat) → 1 ≤ n → n ≤ MOST_TIMES → (c ≡ d → n ≡ MOST_TIMES) → BeginsWith d repeats → AreJoined repeats → AreJoined (repeat_of c n ∷ repeats)
joined_before c d n repeats low high full x joined =
    subst (λ rs. AreJoined (repeat_of c n ∷ rs)) (sym x.split) (low, high, full, subst AreJoined x.split joined)

full_line : (c d : Choice) (n : ℕ) → n ≤ MOST_TIMES → is_printed_with c n d ≡ false → c ≡ d → n ≡ MOST_TIMES
full_line c d n high e same = by (nat_lt n MOST_TIMES) refl where
  by : (b : Bool) → nat_lt n MOST_TIMES ≡ b → n ≡ MOST_TIMES
  by true f = absurd (let g : is_printed_with c n d ≡ true = printed_from c d n (ap (is_same_choice c) (sym same) ∙ one_choice c) f in cc)
  by false f = let ltb = lt-ltb n MOST_TIMES in by_order n MOST_TIMES high (λ low. let g = ltb low in cc) where
    by_order : (m k : ℕ) → m ≤ k → (m < k → ⊥) → m ≡ k
    by_order m k high none = omega (arith, high, none)

joined_by : (c d : Choice) (n : ℕ) (cs : List Choice) → 1 ≤ n → n ≤ MOST_TIMES → (suc n ≤ MOST_TIMES → AreJoined (repeats_after c (suc n) cs)) → AreJoined (repeats_after d 1 cs)
    → (b : Bool) → is_printed_with c n d ≡ b → AreJoined (cond b (repeats_after c (suc n) cs) (repeat_of c n ∷ repeats_after d 1 cs))
joined_by c d n cs low high more other true e = let room = ltb-true n MOST_TIMES (printed_parts c d n e).1 in more (omega (arith, room))
joined_by c d n cs low high more other false e = joined_before c d n (repeats_after d 1 cs) low high (full_line c d n high e) (begins d 1 cs) other

joined_after : (c : Choice) (n : ℕ) (cs : List Choice) → 1 ≤ n → n ≤ MOST_TIMES → AreJoined (repeats_after c n cs)
joined_after c n [] low high = (low, high)
joined_after c n (d ∷ cs) low high =
    joined_by c d n cs low high (λ room. joined_after c (suc n) cs (omega arith) room) (joined_after d 1 cs (omega arith) (omega arith)) (is_printed_with c n d) refl

pub joined : (choices : List Choice) → AreJoined (repeats_of choices)
joined [] = tt
joined (c ∷ cs) = joined_after c 1 cs (omega arith) (omega arith)

-- ---- no other lines are like this

-- lines of a choice, which was made this many times already, are joined again
again_after : (c : Choice) (k m : ℕ) (repeats : List Repeat) → AreJoined (repeat_of c (k + m) ∷ repeats) → repeats_after c (k + m) (spelled_choices repeats) ≡ repeat_of c (k + m) ∷ repeats
    → repeats_after c k (replicate m c ++ spelled_choices repeats) ≡ repeat_of c (k + m) ∷ repeats
again_after c k zero repeats x last = subst (λ n. repeats_after c n (spelled_choices repeats) ≡ repeat_of c (k + 0) ∷ repeats) (let e : k + 0 ≡ k = omega arith in e) last
again_after c k (suc m) repeats x last =
    let high = most repeats x in
    let room : is_printed_with c k c ≡ true = printed_from c c k (one_choice c) (lt-ltb k MOST_TIMES (omega (arith, high))) in
    let more : k + suc m ≡ suc k + m = omega arith in
    ap (λ b. cond b (repeats_after c (suc k) (replicate m c ++ spelled_choices repeats)) (repeat_of c k ∷ repeats_after c 1 (replicate m c ++ spelled_choices repeats))) room
    ∙ again_after c (suc k) m repeats (subst (λ n. AreJoined (repeat_of c n ∷ repeats)) more x) (subst (λ n. repeats_after c n (spelled_choices repeats) ≡ repeat_of c n ∷ repeats) more last)
    ∙ ap (λ n. repeat_of c n ∷ repeats) (sym more) where
      most : (rs : List Repeat) → AreJoined (repeat_of c (k + suc m) ∷ rs) → k + suc m ≤ MOST_TIMES
      most [] y = y.1
      most (each ∷ rs) y = y.1

lowest : (each : Repeat) (repeats : List Repeat) → AreJoined (each ∷ repeats) → 1 ≤ each.times
lowest each [] x = x.0
lowest each (next ∷ repeats) x = x.0

joined_later : (each : Repeat) (repeats : List Repeat) → AreJoined (each ∷ repeats) → AreJoined repeats
joined_later each [] x = tt
joined_later each (next ∷ repeats) x = x.3

-- a line ends if it is full, or if another choice comes after it
ends_there : (c : Choice) (n : ℕ) (repeats : List Repeat) → AreJoined (repeat_of c n ∷ repeats) → repeats_of (spelled_choices repeats) ≡ repeats → repeats_after c n (spelled_choices repeats) ≡ repeat_of c n ∷ repeats
ends_there c n [] x later = refl
ends_there c n (each ∷ repeats) x later = by each.times refl where
  ends : is_printed_with c n each.choice ≡ false
  ends = tell (is_printed_with c n each.choice) refl where
    tell : (b : Bool) → is_printed_with c n each.choice ≡ b → is_printed_with c n each.choice ≡ false
    tell false e = e
    tell true e =
        let both = printed_parts c each.choice n e in
        let room = ltb-true n MOST_TIMES both.1 in
        let full : n ≡ MOST_TIMES = x.2 (same_choice c each.choice both.0) in absurd (omega (arith, room, full))

  by : (times : ℕ) → each.times ≡ times → repeats_after c n (spelled_choices (each ∷ repeats)) ≡ repeat_of c n ∷ each ∷ repeats
  by zero e = let low = lowest each repeats x.3 in absurd (omega (arith, low, e))
  by (suc m) e =
      let spelled : spelled_choices (each ∷ repeats) ≡ each.choice ∷ (replicate m each.choice ++ spelled_choices repeats) = ap (λ times. replicate times each.choice ++ spelled_choices repeats) e in
      ap (repeats_after c n) spelled
      ∙ ap (λ b. cond b (repeats_after c (suc n) (replicate m each.choice ++ spelled_choices repeats)) (repeat_of c n ∷ repeats_after each.choice 1 (replicate m each.choice ++ spelled_choices repeats))) ends
      ∙ ap (λ rs. repeat_of c n ∷ rs) (sym (ap repeats_of spelled) ∙ later)

printed_by : (each : Repeat) (repeats : List Repeat) → AreJoined (each ∷ repeats) → repeats_after each.choice each.times (spelled_choices repeats) ≡ each ∷ repeats
    → (times : ℕ) → each.times ≡ times → repeats_of (spelled_choices (each ∷ repeats)) ≡ each ∷ repeats
printed_by each repeats x last zero e = let low = lowest each repeats x in absurd (omega (arith, low, e))
printed_by each repeats x last (suc m) e =
    let same : 1 + m ≡ each.times = omega (arith, e) in
    ap (λ times. repeats_of (replicate times each.choice ++ spelled_choices repeats)) e
    ∙ again_after each.choice 1 m repeats (subst (λ n. AreJoined (repeat_of each.choice n ∷ repeats)) (sym same) x)
    (subst (λ n. repeats_after each.choice n (spelled_choices repeats) ≡ repeat_of each.choice n ∷ repeats) (sym same) last)
    ∙ ap (λ n. repeat_of each.choice n ∷ repeats) same

printed_again : (repeats : List Repeat) → AreJoined repeats → repeats_of (spelled_choices repeats) ≡ repeats
printed_again [] x = refl
printed_again (each ∷ repeats) x =
    printed_by each repeats x (ends_there each.choice each.times repeats x (printed_again repeats (joined_later each repeats x))) each.times refl

pub no_others : (choices : List Choice) (repeats : List Repeat) → AreJoined repeats → spelled_choices repeats ≡ choices → repeats ≡ repeats_of choices
no_others choices repeats x e = sym (printed_again repeats x) ∙ ap repeats_of e

-- ---- one more choice

-- after a first line, the last line grows
grows_after : (each : Repeat) (d c : Choice) (repeats : List Repeat) → BeginsWith d repeats → repeats_with (each ∷ repeats) c ≡ each ∷ repeats_with repeats c
grows_after each d c repeats x = subst (λ rs. repeats_with (each ∷ rs) c ≡ each ∷ repeats_with rs c) (sym x.split) refl

more_by : (c d e : Choice) (n : ℕ) (cs : List Choice) → repeats_after c (suc n) (cs ++ e ∷ []) ≡ repeats_with (repeats_after c (suc n) cs) e → repeats_after d 1 (cs ++ e ∷ []) ≡ repeats_with (repeats_after d 1 cs) e
    → (b : Bool) → cond b (repeats_after c (suc n) (cs ++ e ∷ [])) (repeat_of c n ∷ repeats_after d 1 (cs ++ e ∷ [])) ≡ repeats_with (cond b (repeats_after c (suc n) cs) (repeat_of c n ∷ repeats_after d 1 cs)) e
more_by c d e n cs more other true = more
more_by c d e n cs more other false = ap (λ rs. repeat_of c n ∷ rs) other ∙ sym (grows_after (repeat_of c n) d e (repeats_after d 1 cs) (begins d 1 cs))

more_after : (c e : Choice) (n : ℕ) (cs : List Choice) → repeats_after c n (cs ++ e ∷ []) ≡ repeats_with (repeats_after c n cs) e
more_after c e n [] = refl
more_after c e n (d ∷ cs) = more_by c d e n cs (more_after c e (suc n) cs) (more_after d e 1 cs) (is_printed_with c n d)

pub one_more_choice : (choices : List Choice) (c : Choice) → repeats_with (repeats_of choices) c ≡ repeats_of (choices ++ c ∷ [])
one_more_choice [] c = refl
one_more_choice (d ∷ cs) c = sym (more_after d c 1 cs)

-- ---- the last line

-- a choice that joins the last line makes that longer; the code reads the line twice, to test and to change it
pub last_grown : (repeats : List Repeat) (n : ℕ) (seen last : Repeat) (c : Choice) → length repeats ≡ suc n → seen ≡ slice_index_or repeats n seen → last ≡ slice_index_or repeats n last → joins seen c ≡ true
    → slice_set repeats n (repeat_of last.choice (last.times + 1)) ≡ repeats_with repeats c
last_grown [] n seen last c long was is joined = cc
last_grown (x ∷ []) zero seen last c long was is joined =
    let more : last.times + 1 ≡ suc last.times = omega arith in
    ap (λ times. repeat_of last.choice times ∷ []) more
    ∙ ap (λ (each : Repeat). repeat_of each.choice (suc each.times) ∷ []) is
    ∙ ap (λ b. cond b (repeat_of x.choice (suc x.times) ∷ []) (x ∷ repeat_of c 1 ∷ [])) (sym (ap (λ (each : Repeat). joins each c) (sym was) ∙ joined))
last_grown (x ∷ []) (suc n) seen last c long was is joined = absurd (omega (arith, long))
last_grown (x ∷ y ∷ repeats) zero seen last c long was is joined = absurd (omega (arith, long))
last_grown (x ∷ y ∷ repeats) (suc n) seen last c long was is joined = ap (λ rs. x ∷ rs) (last_grown (y ∷ repeats) n seen last c (omega (arith, long)) was is joined)

-- a choice that doesn't join the last line is appended
pub last_kept : (repeats : List Repeat) (n : ℕ) (last : Repeat) (c : Choice) → length repeats ≡ suc n → last ≡ slice_index_or repeats n last → joins last c ≡ false → repeats ++ repeat_of c 1 ∷ [] ≡ repeats_with repeats c
last_kept [] n last c long is apart = cc
last_kept (x ∷ []) zero last c long is apart =
    ap (λ (each : Repeat). each ∷ repeat_of c 1 ∷ []) (sym is)
    ∙ ap (λ b. cond b (repeat_of last.choice (suc last.times) ∷ []) (last ∷ repeat_of c 1 ∷ [])) (sym apart)
    ∙ ap (λ (each : Repeat). repeats_with (each ∷ []) c) is
last_kept (x ∷ []) (suc n) last c long is apart = absurd (omega (arith, long))
last_kept (x ∷ y ∷ repeats) zero last c long is apart = absurd (omega (arith, long))
last_kept (x ∷ y ∷ repeats) (suc n) last c long is apart = ap (λ rs. x ∷ rs) (last_kept (y ∷ repeats) n last c (omega (arith, long)) is apart)

-- if there is no line, the choice has the first one
pub none_kept : (repeats : List Repeat) (c : Choice) → length repeats ≡ 0 → repeats ++ repeat_of c 1 ∷ [] ≡ repeats_with repeats c
none_kept [] c none = refl
none_kept (x ∷ repeats) c none = absurd (omega (arith, none))
