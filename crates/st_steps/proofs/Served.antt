-- Steps of workers, composed of the contracts of the messages and of the system.
use Rattle.std.proofs.Common.{◌↔◌, ◌≡◌, ◌≢◌, ◌<◌, ◌∙◌, zero, suc, ℕ, arith, Bool, false, true, Option, Some, None, refl, ap, subst, sym}
use Rattle.std.proofs.lemmas.Option.{none-some, same_Some}
use Rattle.std.specs.Option.{option_map}
use Rattle.std.specs.Prelude.{OnErr, Result, Ok, Err}
use Rattle.st_calls.specs.declared.judged.Snapshot.{Snapshot}
use Rattle.st_calls.specs.declared.judged.Verdict.{Verdict}
use Rattle.st_filter.specs.Judged.{verdict_under}
use Rattle.st_messages.specs.Messages.{is_live_drawing}
use Rattle.st_messages.specs.declared.message.Delivered.{Delivered}
use Rattle.st_messages.specs.declared.message.Delivered.TheVariants.{Applied, Stale}
use Rattle.st_model.specs.Memory.{word_of}
use Rattle.st_model.specs.Processes.{next_pid, IsPid}
use Rattle.st_model.specs.Tree.{Tree, look}
use Rattle.st_names.specs.Name.{Components}
use Rattle.st_names.specs.declared.seen.SeenText.{SeenText}
use Rattle.st_trace.specs.declared.entry.Choice.{Choice}
use Rattle.st_trace.specs.declared.entry.Choice.TheVariants as choice
use Rattle.st_trace.specs.declared.entry.Entry.{Entry}
use Rattle.st_trace.specs.declared.entry.Entry.TheVariants as entry
use Rattle.st_law.specs.declared.input.Input.{Input}
use Rattle.st_law.specs.Machine.{state_after, worker_entry}
use Rattle.st_law.specs.Messages.{Head}
use Rattle.st_law.specs.State as law
use Rattle.st_law.specs.State.{State, ThreadState, space_of_head, word_for}
use Rattle.st_base.specs.declared.errno.Errno.{Errno}
use Rattle.st_model.specs.Processes.{StartedThread, thread_at as started_at}
use Rattle.st_system.specs.System.{IsSystem, IsThreadState, Parts}
use Rattle.st_workers.specs.Numbers.{CarriesEntry, KeepsNumbers, IsNumbered}
use Rattle.st_workers.specs.Refinement.{drawn_copies, RepresentsAfterEntry, RepresentsMessages, RepresentsMessagesAfter, SameWorkersState}
use Rattle.st_workers.specs.Tasks.{IsOfProcess}
use Rattle.st_workers.specs.UnderWay.{turn_of_worker, UnderWay}
use Rattle.st_workers.specs.declared.task.Task.TheVariants as tasks
use Rattle.st_workers.specs.declared.turn.Turn.{Turn}
use Rattle.st_workers.specs.declared.turn.Turn.TheVariants.{Idle, Working, Ready}
use Rattle.st_decide.specs.Machine as machine
use Rattle.st_steps.specs.Serving.{is_applied}
use Rattle.st_decide.specs.Machine.{HasTask, Refines, RefinesSomeState, IsDrawnStep, IsStep, Running}
use Rattle.st_reached.proofs.Owning.{own_process}
use Rattle.st_workers.proofs.Ended.{lives_as}
use Rattle.st_decide.proofs.Reached.{reached_of}
use Rattle.st_steps.proofs.After.{AreRows, following, with_parts}

-- ---- only the messages change

-- the machine that runs, with other messages
abbrev pub with_workers : Running → UnderWay → Running
with_workers m workers = with_parts m m.system workers m.threads

-- the machine represents the same state as before if its messages do
pub stands_so : (m : Running) (new : UnderWay) → SameWorkersState m.workers new → new.calls ≡ m.workers.calls → machine.SameState m (with_workers m new)
stands_so m new stands same st is = (stood, same) where
  stood : Refines (with_workers m new) st
  stood = record {
    reached = is.reached;
    bounded = is.bounded;
    ungranted = is.ungranted;
    replies = is.replies;
    system = is.system;
    workers = stands m.input st.messages st.turns (law.is_live st) st.posted is.workers;
    threads = is.threads;
    count = is.count;
    answers = is.answers;
    operator = is.operator;
  }

above_none : (n : ℕ) → n ≢ 0 → 0 < n
above_none zero ne = absurd (ne refl)
above_none (suc n) ne = omega arith

space_is : (st : State) (o : Option Head) (pid : ℕ) → option_map (λ (head : Head). head.pid) o ≡ Some pid → space_of_head st o ≡ (st.processes pid).space
space_is st None pid is = absurd (none-some pid is)
space_is st (Some head) pid is = ap (λ (p : ℕ). (st.processes p).space) (same_Some head.pid pid is)

-- the word with an index in the memory of a message's process
word_is : (st : State) (q place pid : ℕ) → IsOfProcess st q pid → word_for st q place ≡ word_of (st.memory (st.processes pid).space) place
word_is st q place pid is = ap (λ (space : ℕ). word_of (st.memory space) place) (space_is st (st.messages q).head pid is)

-- a message that is of a process has a head
head_there : (o : Option Head) (pid : ℕ) → option_map (λ (head : Head). head.pid) o ≡ Some pid → (head : Head) × (o ≡ Some head) × (head.pid ≡ pid)
head_there None pid is = absurd (none-some pid is)
head_there (Some head) pid is = (head, refl, same_Some head.pid pid is)

-- the copies that a worker is ready with, or the given ones
abbrev copies_of : Snapshot → Option Turn → Snapshot
copies_of s None = s
copies_of s (Some Idle) = s
copies_of s (Some (Working q)) = s
copies_of s (Some (Ready q own)) = own

-- the drawing of the message that a worker is ready with, or the given one
abbrev drawing_of : ℕ → Option Turn → ℕ
drawing_of d None = d
drawing_of d (Some Idle) = d
drawing_of d (Some (Working q)) = d
drawing_of d (Some (Ready q own)) = q

pub same_copies : (kept : UnderWay) (w p q : ℕ) (one two : Snapshot) → turn_of_worker kept w ≡ Some (Ready p one) → turn_of_worker kept w ≡ Some (Ready q two) → one ≡ two
same_copies kept w p q one two first second = ap (copies_of one) (sym first ∙ second)

same_drawing : (kept : UnderWay) (w p q : ℕ) (one two : Snapshot) → turn_of_worker kept w ≡ Some (Ready p one) → turn_of_worker kept w ≡ Some (Ready q two) → p ≡ q
same_drawing kept w p q one two first second = ap (drawing_of p) (sym first ∙ second)

-- an answer is applied iff its number is live
pub applied_as : (delivered : Delivered) (live : Bool) → ((delivered ≡ Applied) ↔ (live ≡ true)) → is_applied delivered ≡ live
applied_as Applied live x = sym (x.0 refl)
applied_as Stale true x = absurd (unlike (x.1 refl)) where
  unlike : Stale ≡ Applied → ⊥
  unlike e = cc
applied_as Stale false x = refl

-- ---- one more entry of a worker

same_thread : (o : Option StartedThread) (a b : ThreadState) → b.owner ≡ a.owner → b.ended ≡ a.ended → IsThreadState o a → IsThreadState o b
same_thread None a b owner ended x = (owner ∙ x.0, ended ∙ x.1)
same_thread (Some thread) a b owner ended x = (owner ∙ x.0, ended ∙ x.1)

-- the system represents the state after an entry that leaves its parts unchanged
pub same_system : (i : Input) (st new : State) (parts : Parts) → new.tree ≡ st.tree → new.descriptors ≡ st.descriptors → new.processes ≡ st.processes → new.next_process ≡ st.next_process → new.memory ≡ st.memory
    → new.next_space ≡ st.next_space → ((t : ℕ) → (new.threads t).owner ≡ (st.threads t).owner) → ((t : ℕ) → (new.threads t).ended ≡ (st.threads t).ended) → IsSystem i st parts → IsSystem i new parts
same_system i st new parts tree descriptors processes next_process memory next_space owners ends x = record {
  tree = tree ∙ x.tree;
  descriptors = descriptors ∙ x.descriptors;
  processes = λ p. (λ k. processes k p) ∙ x.processes p;
  next_process = next_process ∙ x.next_process;
  memory = λ s b left. (λ k. memory k s b) ∙ x.memory s b left;
  next_space = next_space ∙ x.next_space;
  threads = λ t. same_thread (started_at parts.processes t) (st.threads t) (new.threads t) (owners t) (ends t) (x.threads t);
  among = x.among;
}

module _ (m : Running) (st : State) (is : Refines m st) (w : ℕ) (new : UnderWay) where
  -- the messages after a worker's step, and its entry
  abbrev pub IsServedBy : Entry → Type 0
  IsServedBy e = (worker_entry m.input st w ≡ Some e) × Refines (with_workers m new) (state_after m.input st e)

  rows : AreRows m.threads st.threads
  rows = is.threads

  pub claimed_step : (v q : ℕ) → worker_entry m.input st w ≡ Some (entry.Claimed v q) → RepresentsMessagesAfter m.input st (entry.Claimed v q) (law.is_live st) new → IsServedBy (entry.Claimed v q)
  claimed_step v q is_entry kept = (
    is_entry,
    following m st is (choice.Worker w) (entry.Claimed v q) is_entry refl refl (λ b. refl) refl m.system new m.threads
        (same_system m.input st (state_after m.input st (entry.Claimed v q)) m.system refl refl refl refl refl refl (λ t. refl) (λ t. refl) is.system) kept rows refl,
  )

  pub copied_step : (q part place word : ℕ) → worker_entry m.input st w ≡ Some (entry.Copied q part place word) → RepresentsMessagesAfter m.input st (entry.Copied q part place word) (law.is_live st) new → IsServedBy (entry.Copied q part place word)
  copied_step q part place word is_entry kept = (
    is_entry,
    following m st is (choice.Worker w) (entry.Copied q part place word) is_entry refl refl (λ b. refl) refl m.system new m.threads
        (same_system m.input st (state_after m.input st (entry.Copied q part place word)) m.system refl refl refl refl refl refl (λ t. refl) (λ t. refl) is.system) kept rows refl,
  )

  pub looked_step : (q part : ℕ) (name : Components) (seen : SeenText) → worker_entry m.input st w ≡ Some (entry.Looked q part name seen) → RepresentsMessagesAfter m.input st (entry.Looked q part name seen) (law.is_live st) new → IsServedBy (entry.Looked q part name seen)
  looked_step q part name seen is_entry kept = (
    is_entry,
    following m st is (choice.Worker w) (entry.Looked q part name seen) is_entry refl refl (λ b. refl) refl m.system new m.threads
        (same_system m.input st (state_after m.input st (entry.Looked q part name seen)) m.system refl refl refl refl refl refl (λ t. refl) (λ t. refl) is.system) kept rows refl,
  )

  pub faulted_step : (q : ℕ) (errno : Errno) → worker_entry m.input st w ≡ Some (entry.Faulted q errno) → RepresentsMessagesAfter m.input st (entry.Faulted q errno) (law.is_live st) new → IsServedBy (entry.Faulted q errno)
  faulted_step q errno is_entry kept = (
    is_entry,
    following m st is (choice.Worker w) (entry.Faulted q errno) is_entry refl refl (λ b. refl) refl m.system new m.threads
        (same_system m.input st (state_after m.input st (entry.Faulted q errno)) m.system refl refl refl refl refl refl (λ t. refl) (λ t. refl) is.system) kept rows refl,
  )

  pub answered_step : (v : ℕ) (s : Snapshot) (verdict : Verdict) (applied : Bool) → worker_entry m.input st w ≡ Some (entry.Answered v s verdict applied) → RepresentsMessagesAfter m.input st (entry.Answered v s verdict applied) (law.is_live st) new
      → IsServedBy (entry.Answered v s verdict applied)
  answered_step v s verdict applied is_entry kept = (
    is_entry,
    following m st is (choice.Worker w) (entry.Answered v s verdict applied) is_entry refl refl (λ b. refl) refl m.system new m.threads
        (same_system m.input st (state_after m.input st (entry.Answered v s verdict applied)) m.system refl refl refl refl refl refl (λ t. refl) (λ t. refl) is.system) kept rows refl,
  )

-- ---- the steps, by the contracts of the messages

module _ (m : Running) (w : ℕ) (new : UnderWay) where
  abbrev HasEntry : Entry → Type 0
  HasEntry e = (i : Input) (st : State) → RepresentsMessages i st (law.is_live st) m.workers → worker_entry i st w ≡ Some e

  -- the step of a worker draws no number
  with_numbers : (st : State) (e : Entry) → (worker_entry m.input st w ≡ Some e) × Refines (with_workers m new) (state_after m.input st e) → CarriesEntry e m.workers new
      → (worker_entry m.input st w ≡ Some e) × Refines (with_workers m new) (state_after m.input st e) × CarriesEntry e m.workers new
  with_numbers st e step carries = (step.0, step.1, carries)

  pub claimed : (q : ℕ) → HasEntry (entry.Claimed w q) → RepresentsAfterEntry m.workers (entry.Claimed w q) new → KeepsNumbers m.workers.calls new.calls → IsDrawnStep m (choice.Worker w) (entry.Claimed w q) (with_workers m new)
  claimed q its follows fewer = λ st is. with_numbers st (entry.Claimed w q) (claimed_step m st is w new w q (its m.input st is.workers) (follows m.input st (law.is_live st) is.workers)) (λ ready are. fewer)

  pub faulted : (q : ℕ) (errno : Errno) → HasTask m w (tasks.Fault q errno) → RepresentsAfterEntry m.workers (entry.Faulted q errno) new → KeepsNumbers m.workers.calls new.calls → IsDrawnStep m (choice.Worker w) (entry.Faulted q errno) (with_workers m new)
  faulted q errno task follows fewer = λ st is. with_numbers st (entry.Faulted q errno) (faulted_step m st is w new q errno (task.law m.input st is.workers) (follows m.input st (law.is_live st) is.workers)) (λ ready are. fewer)

  -- a worker that copies the word that its message's memory has
  pub copied : (q pid part place word : ℕ) → HasTask m w (tasks.Copy q pid part place)
      → ((i : Input) (st : State) → IsSystem i st m.system → word ≡ word_of (st.memory (st.processes pid).space) place)
      → RepresentsAfterEntry m.workers (entry.Copied q part place word) new → KeepsNumbers m.workers.calls new.calls → IsDrawnStep m (choice.Worker w) (entry.Copied q part place word) (with_workers m new)
  copied q pid part place word task is_word follows fewer = λ st is.
      let own = task.law m.input st is.workers in
      with_numbers st (entry.Copied q part place word) (
      copied_step m st is w new q part place word
      (own.0 ∙ ap (λ (v : ℕ). Some (entry.Copied q part place v)) (word_is st q place pid own.1 ∙ sym (is_word m.input st is.system)))
      (follows m.input st (law.is_live st) is.workers)
      ) (λ ready are. fewer)

  -- a worker that looks at a name, and sees what the tree has under it
  pub looked : (readied : UnderWay) (q part : ℕ) (name : Components) (seen : SeenText) → seen ≡ look m.system.tree name → SameWorkersState m.workers readied
      → ((i : Input) (st : State) → RepresentsMessages i st (law.is_live st) m.workers → worker_entry i st w ≡ Some (entry.Looked q part name (look st.tree name)))
      → RepresentsAfterEntry readied (entry.Looked q part name seen) new → KeepsNumbers m.workers.calls new.calls → IsDrawnStep m (choice.Worker w) (entry.Looked q part name seen) (with_workers m new)
  looked readied q part name seen is_seen stands its follows fewer = λ st is.
      with_numbers st (entry.Looked q part name seen) (
      looked_step m st is w new q part name seen
      (its m.input st is.workers ∙ ap (λ (tree : Tree). Some (entry.Looked q part name (look tree name))) is.system.tree ∙ ap (λ (x : SeenText). Some (entry.Looked q part name x)) (sym is_seen))
      (follows m.input st (law.is_live st) (stands m.input st.messages st.turns (law.is_live st) st.posted is.workers))
      ) (λ ready are. fewer)

  -- a ready worker answers
  pub answered : (q : ℕ) (s : Snapshot) (v : Verdict) (applied : Bool) → turn_of_worker m.workers w ≡ Some (Ready q s) → v ≡ verdict_under m.input.policies s
      → ((i : Input) (st : State) (alive : ℕ → Bool) → RepresentsMessages i st alive m.workers → applied ≡ alive q) → HasTask m w tasks.Answer
      → ((i : Input) (st : State) (alive : ℕ → Bool) → RepresentsMessages i st alive m.workers → v ≡ verdict_under i.policies s → RepresentsMessagesAfter i st (entry.Answered w (drawn_copies q s) v (alive q)) alive new)
      → KeepsNumbers m.workers.calls new.calls
      → IsDrawnStep m (choice.Worker w) (entry.Answered w (drawn_copies q s) v applied) (with_workers m new)
  answered q s v applied ready judged lives task after fewer = λ st is.
      let own = task.law m.input st is.workers in
      let here : own.1 ≡ s = same_copies m.workers w own.0 q own.1 s own.2 ready in
      let there : own.0 ≡ q = same_drawing m.workers w own.0 q own.1 s own.2 ready in
      let applies : applied ≡ law.is_live st q = lives m.input st (law.is_live st) is.workers in
      with_numbers st (entry.Answered w (drawn_copies q s) v applied) (
      answered_step m st is w new w (drawn_copies q s) v applied
      (own.3 ∙ ap (λ (x : Snapshot). Some (entry.Answered w (drawn_copies own.0 x) (verdict_under m.input.policies x) (law.is_live st own.0))) here
      ∙ ap (λ (n : ℕ). Some (entry.Answered w (drawn_copies n s) (verdict_under m.input.policies s) (law.is_live st n))) there
      ∙ ap (λ (x : Verdict). Some (entry.Answered w (drawn_copies q s) x (law.is_live st q))) (sym judged) ∙ ap (λ (b : Bool). Some (entry.Answered w (drawn_copies q s) v b)) (sym applies))
      (subst (λ (b : Bool). RepresentsMessagesAfter m.input st (entry.Answered w (drawn_copies q s) v b) (law.is_live st) new) (sym applies) (after m.input st (law.is_live st) is.workers judged))
      ) (λ ready are. fewer)

-- the process of a live message exists
pub process_there : (m : Running) → RefinesSomeState m → (q pid : ℕ) → is_live_drawing m.workers.calls q ≡ true
    → ((i : Input) (st : State) → RepresentsMessages i st (law.is_live st) m.workers → IsOfProcess st q pid) → IsPid m.system.processes pid
process_there m run q pid live of_process =
    let st = run.state in
    let is = run.is in
    let own = head_there (st.messages q).head pid (of_process m.input st is.workers) in
    let alive : law.is_live st q ≡ true = sym (lives_as m.input st (law.is_live st) m.workers q is.workers) ∙ live in
    let reached = reached_of m.input st is.reached in
    let owner : pid ≡ (st.threads own.0.tid).owner = sym own.2 ∙ own_process st reached.owned m.input reached.whole.calls q own.0 alive own.1 in
    let some : 0 < (st.threads own.0.tid).owner = above_none (st.threads own.0.tid).owner (reached.owned.own q own.0 alive own.1).started in
    let low : (st.threads own.0.tid).owner < st.next_process = reached.whole.calls.owners own.0.tid in
    let next : st.next_process ≡ next_pid m.system.processes = is.system.next_process in
    (omega (arith, owner, some), omega (arith, owner, low, next))

-- a proposition that holds also holds on an error
pub on_err : {A E P : Type 0} (result : Result A E) → P → OnErr result P
on_err (Ok a) x = tt
on_err (Err e) x = x

-- the entry that is stored for the caller is that of the step, with its numbers
pub left_as : (old seen new : Running) → old ≡ seen → (c : Choice) (added : Option Entry) (e given : Entry) → added ≡ Some given → IsDrawnStep old c e new → IsNumbered e given old.workers → IsStep seen c added new
left_as old seen new same c added e given is step numbered = subst (λ (o : Option Entry). IsStep seen c o new) (sym is) (subst (λ (m : Running). IsStep m c (Some given) new) same (e, step, numbered))

-- representing the same state as before is transitive
pub stands_on : (a b d : UnderWay) → SameWorkersState a b → SameWorkersState b d → SameWorkersState a d
stands_on a b d first second = λ i messages turns alive posted kept. second i messages turns alive posted (first i messages turns alive posted kept)

-- ---- the machine that runs, after a step

pub running_step : (m new : Running) (c : Choice) (e : Entry) → RefinesSomeState m → IsDrawnStep m c e new → RefinesSomeState new
running_step m new c e run step = record { state = state_after m.input run.state e; is = (step run.state run.is).1 }

pub running_stands : (m new : Running) → RefinesSomeState m → machine.SameState m new → RefinesSomeState new
running_stands m new run stands = record { state = run.state; is = (stands run.state run.is).0 }
