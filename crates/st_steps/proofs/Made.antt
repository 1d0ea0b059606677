-- Calls that are made, and how their changes alter the threads and the live numbers of the law's machine.
use Rattle.std.proofs.Common.{◌≡◌, ◌≢◌, ◌∙◌, ℕ, ◌&&◌, ◌||◌, ◌==◌, not, Bool, true, false, cond, List, [], ◌∷◌, Option, Some, None, refl, ap, sym}
use Rattle.std.proofs.lemmas.Bool.{ne_eqb}
use Rattle.std.specs.Option.{option_map, unwrap_or}
use Rattle.st_effects.specs.Changes.{dying_after, owner_after, owner_after_change}
use Rattle.st_effects.specs.Processes.{policy_changes}
use Rattle.st_law.specs.Messages.{Head}
use Rattle.st_law.specs.State.{State, ThreadState}
use Rattle.st_law.proofs.QuietChanges.{fold_same, mute_of, AreMute, IsNoRenewal}
use Rattle.st_law.proofs.Shapes.{AreQuiet, Each, IsQuiet}
use Rattle.st_model.specs.Processes.{Processes, StartedThread, thread_at, owner_of}
use Rattle.st_reached.specs.Reached.{is_head_of, life_after_change, life_after_changes}
use Rattle.st_reached.proofs.Life.{eqb-sym}
use Rattle.st_system.specs.System.{IsThreadState}
use Rattle.st_trace.specs.declared.entry.Change.{Change}
use Rattle.st_trace.specs.declared.entry.Change.TheVariants.{Dying, Execed, Forked, Renewed}
use Rattle.st_threads.specs.Ending.{ends_with, is_ended_by, is_head_among, life_but}

-- ---- changes that neither renew a number nor start a thread

abbrev pub IsCalm : Change → Type 0
IsCalm (Renewed old new) = ⊥
IsCalm (Forked pid space tid) = ⊥
IsCalm _ = Unit {0}

calm_of_quiet : (c : Change) → IsQuiet c → IsCalm c
calm_of_quiet (Renewed old new) x = x
calm_of_quiet (Forked pid space tid) x = x
calm_of_quiet _ x = tt

pub calm_when_quiet : (changes : List Change) → AreQuiet changes → Each IsCalm changes
calm_when_quiet [] x = tt
calm_when_quiet (c ∷ changes) x = (calm_of_quiet c x.0, calm_when_quiet changes x.1)

pub calm_when_execed : (binary : List ℕ) (space : ℕ) (inherit : Bool) → Each IsCalm (Execed binary space ∷ policy_changes inherit binary)
calm_when_execed binary space true = (tt, tt)
calm_when_execed binary space false = (tt, (tt, tt))

calm_owner : (t o : ℕ) (c : Change) → IsCalm c → owner_after_change t o c ≡ o
calm_owner t o (Forked pid space tid) x = absurd x
calm_owner t o _ x = refl

pub owner_when_calm : (t o : ℕ) (changes : List Change) → Each IsCalm changes → owner_after t o changes ≡ o
owner_when_calm t o changes calm = fold_same (owner_after_change t) IsCalm (λ o c x. calm_owner t o c x) o changes calm

no_renewal : (c : Change) → IsCalm c → IsNoRenewal c
no_renewal (Renewed old new) x = x
no_renewal _ x = tt

pub mute_when_calm : (changes : List Change) → Each IsCalm changes → AreMute changes
mute_when_calm [] x = tt
mute_when_calm (c ∷ changes) x = (mute_of c (no_renewal c x.0), mute_when_calm changes x.1)

-- ---- which threads these changes end

or_none : (b : Bool) → b ≡ (b || false)
or_none true = refl
or_none false = refl

or_more : (b d e : Bool) → ((b || d) || e) ≡ (b || (d || e))
or_more true d e = refl
or_more false d e = refl

and_so : (b : Bool) → b ≡ (b && true)
and_so true = refl
and_so false = refl

module _ (processes : Processes) (t m : ℕ) where
  abbrev ended : List Change → ℕ → Bool
  ended changes u = is_ended_by processes t m changes u

  module _ (u p : ℕ) (own : owner_of processes u ≡ p) (there : u ≢ 0) where
    -- a process ends
    killed : (pid : ℕ) → (pid == p) ≡ ends_with processes pid 0 u
    killed pid = and_so (pid == p) ∙ (λ k. eqb-sym pid (sym own k) k && not (sym (ne_eqb u 0 there) k))

    -- another binary is run
    replaced : (m == p && not (t == u)) ≡ ends_with processes m t u
    replaced = λ k. eqb-sym m (sym own k) k && not (eqb-sym t u k)

    pub dying_when_calm : (changes : List Change) → Each IsCalm changes → (before : Bool) → dying_after u p t m before changes ≡ (before || ended changes u)
    dying_when_calm [] calm before = or_none before
    dying_when_calm (Renewed old new ∷ changes) calm before = absurd calm.0
    dying_when_calm (Forked pid space tid ∷ changes) calm before = absurd calm.0
    dying_when_calm (Dying pid ∷ changes) calm before = dying_when_calm changes calm.1 (before || pid == p) ∙ or_more before (pid == p) (ended changes u) ∙ ap (λ (b : Bool). before || (b || ended changes u)) (killed pid)
    dying_when_calm (Execed binary space ∷ changes) calm before =
        dying_when_calm changes calm.1 (before || (m == p && not (t == u))) ∙ or_more before (m == p && not (t == u)) (ended changes u) ∙ ap (λ (b : Bool). before || (b || ended changes u)) replaced
    dying_when_calm (_ ∷ changes) calm before = dying_when_calm changes calm.1 before

  -- ---- which numbers are live after these changes

  module _ (st : State) (other : ℕ) (own : (head : Head) → (st.messages other).head ≡ Some head → owner_of processes head.tid ≡ (st.threads head.tid).owner) where
    dead_stays : (b : Bool) → cond b false false ≡ false
    dead_stays true = refl
    dead_stays false = refl

    -- a number that isn't live stays so
    dead_when_calm : (changes : List Change) → Each IsCalm changes → (alive : ℕ → Bool) → alive other ≡ false → life_after_changes st m alive changes other ≡ false
    dead_when_calm [] calm alive e = e
    dead_when_calm (Renewed old new ∷ changes) calm alive e = absurd calm.0
    dead_when_calm (Forked pid space tid ∷ changes) calm alive e = absurd calm.0
    dead_when_calm (Dying pid ∷ changes) calm alive e = dead_when_calm changes calm.1 (life_after_change st m alive (Dying pid)) (ap (λ (b : Bool). cond (is_head_of st pid (st.messages other).head) false b) e ∙ dead_stays (is_head_of st pid (st.messages other).head))
    dead_when_calm (Execed binary space ∷ changes) calm alive e = dead_when_calm changes calm.1 (life_after_change st m alive (Execed binary space)) (ap (λ (b : Bool). cond (is_head_of st m (st.messages other).head) false b) e ∙ dead_stays (is_head_of st m (st.messages other).head))
    dead_when_calm (_ ∷ changes) calm alive e = dead_when_calm changes calm.1 alive e

    -- a live number stays live, unless its thread ends
    module _ (head : Head) (posted : (st.messages other).head ≡ Some head) (there : head.tid ≢ 0) (another : head.tid ≢ t) where
      abbrev u : ℕ
      u = head.tid

      -- after a change that ends its thread or doesn't, by what the later changes do
      following : (changes : List Change) → Each IsCalm changes → ((alive : ℕ → Bool) → alive other ≡ true → life_after_changes st m alive changes other ≡ not (ended changes u)) → (then : ℕ → Bool) (b d : Bool) → then other ≡ cond b false true → b ≡ d
          → life_after_changes st m then changes other ≡ not (d || ended changes u)
      following changes calm on then true d is same = dead_when_calm changes calm then is ∙ ap (λ (b : Bool). not (b || ended changes u)) same
      following changes calm on then false d is same = on then is ∙ ap (λ (b : Bool). not (b || ended changes u)) same

      goes_on : (changes : List Change) → Each IsCalm changes → (alive : ℕ → Bool) → alive other ≡ true → life_after_changes st m alive changes other ≡ not (ended changes u)
      goes_on [] calm alive e = e
      goes_on (Renewed old new ∷ changes) calm alive e = absurd calm.0
      goes_on (Forked pid space tid ∷ changes) calm alive e = absurd calm.0
      goes_on (Dying pid ∷ changes) calm alive e =
          following changes calm.1 (goes_on changes calm.1) (life_after_change st m alive (Dying pid)) (pid == (st.threads u).owner) (ends_with processes pid 0 u)
          (λ k. cond (is_head_of st pid (posted k)) false (e k)) (killed u (st.threads u).owner (own head posted) there pid)
      goes_on (Execed binary space ∷ changes) calm alive e =
          following changes calm.1 (goes_on changes calm.1) (life_after_change st m alive (Execed binary space)) (m == (st.threads u).owner) (ends_with processes m t u)
          (λ k. cond (is_head_of st m (posted k)) false (e k))
          (and_so (m == (st.threads u).owner) ∙ ap (λ (b : Bool). m == (st.threads u).owner && not b) (sym (ne_eqb t u (λ e. another (sym e)))) ∙ replaced u (st.threads u).owner (own head posted) there)
      goes_on (_ ∷ changes) calm alive e = goes_on changes calm.1 alive e

  -- the numbers that are still live are those of threads that go on
  pub life_when_calm : (st : State) (changes : List Change) → Each IsCalm changes → (alive : ℕ → Bool) (other : ℕ) → (alive other ≡ true → (head : Head) × ((st.messages other).head ≡ Some head) × (head.tid ≢ 0) × (head.tid ≢ t))
      → ((head : Head) → (st.messages other).head ≡ Some head → owner_of processes head.tid ≡ (st.threads head.tid).owner)
      → life_after_changes st m alive changes other ≡ life_but (ended changes) st alive other
  life_when_calm st changes calm alive other mine own = by (alive other) refl where
    dead_then : (b : Bool) → false ≡ cond b false false
    dead_then true = refl
    dead_then false = refl

    as_cond : (b : Bool) → not b ≡ cond b false true
    as_cond true = refl
    as_cond false = refl

    by : (b : Bool) → alive other ≡ b → life_after_changes st m alive changes other ≡ life_but (ended changes) st alive other
    by false e = dead_when_calm st other own changes calm alive e ∙ dead_then (is_head_among (ended changes) (st.messages other).head) ∙ ap (λ (b : Bool). cond (is_head_among (ended changes) (st.messages other).head) false b) (sym e)
    by true e =
        let x = mine e in
        goes_on st other own x.0 x.1 x.2 x.3 changes calm alive e ∙ as_cond (ended changes x.0.tid) ∙ (λ k. cond (is_head_among (ended changes) (sym x.1 k)) false (sym e k))

-- ---- the processes of threads

-- a thread's process is that of its state
pub owner_by : (processes : Processes) (u : ℕ) (thread : ThreadState) → IsThreadState (thread_at processes u) thread → owner_of processes u ≡ thread.owner
owner_by processes u thread is = by (thread_at processes u) is where
  by : (o : Option StartedThread) → IsThreadState o thread → unwrap_or (option_map (λ (started : StartedThread). started.pid) o) 0 ≡ thread.owner
  by None x = sym x.0
  by (Some started) x = sym x.0
