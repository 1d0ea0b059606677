-- The bound of numbers of a run: the numbers drawn and those that its threads may still draw are together never more than at first.
use native.Mathlib.Omega.{arith}
use Rattle.std.proofs.Common.{◌≡◌, ◌≤◌, ℕ, ◌+◌, ◌*◌, Bool, true, false, cond, List, [], ◌∷◌, length, refl, ap, sym, subst, ◌∙◌, inl, inr}
use Rattle.std.proofs.lemmas.List.Sums.{sum_by-cons}
use Rattle.std.specs.List.{fold, sum_by}
use Rattle.std.specs.Prelude.{count_by}
use Rattle.st_calls.specs.Call.{sets_ids}
use Rattle.st_calls.specs.declared.call.SysCall.{SysCall}
use Rattle.st_trace.specs.Instructions.{IsCallOf}
use Rattle.st_trace.specs.declared.entry.Change.{Change}
use Rattle.st_trace.specs.declared.entry.Choice.{Choice}
use Rattle.st_trace.specs.declared.entry.Entry.{Entry}
use Rattle.st_trace.specs.declared.entry.Entry.TheVariants.{Stored, Entered, Claimed, Copied, Looked, Faulted, Answered, Used, Denied, Ended, Learned, Replied, Reloaded}
use Rattle.st_trace.specs.declared.entry.Way.{Way}
use Rattle.st_trace.specs.declared.entry.Way.TheVariants.{Fast, Barred, Held, Untraced}
use Rattle.st_trace.specs.declared.start.Instr.{Instr}
use Rattle.st_trace.specs.declared.start.Instr.TheVariants.{Store, Call, Fork, Reload}
use Rattle.st_trace.specs.declared.start.ThreadRow.{ThreadRow}
use Rattle.st_law.specs.declared.input.Input.{Input}
use Rattle.st_law.specs.Inputs.{IsStartable}
use Rattle.st_law.specs.Machine.{state_of_run}
use Rattle.st_law.specs.Messages.{posted_after, posted_after_change}
use Rattle.st_law.specs.Schedules.{is_renewing_instruction}
use Rattle.st_law.specs.State.{State, thread_count}
use Rattle.st_law.specs.Threads.{PendingCall, changes_of}
use Rattle.st_law.proofs.UsedPosted.{PostsFew, reload_posts, used_posts}
use Rattle.st_reached.proofs.Spending.{Spends, all_of, enters_call, spent_most}
use Rattle.st_reached.specs.Reached.{most_numbers}

-- ---- numbers that may still be drawn

-- a call draws one number if it is held, and a call that sets ids and a reload renew those of at most 64 threads
abbrev renewed_most : Bool → ℕ
renewed_most sets = 64 * cond sets 1 0

abbrev worth : Instr → ℕ
worth x = 1 + renewed_most (is_renewing_instruction x)

-- the number of a pending call is already drawn
abbrev call_worth : PendingCall → ℕ
call_worth entered = renewed_most (sets_ids entered.call)

-- an instruction sets ids if its call does
sets_by : (x : Instr) (call : SysCall) (regs : List ℕ) → IsCallOf x call regs → sets_ids call ≡ is_renewing_instruction x
sets_by (Store place word) call regs makes = absurd makes
sets_by (Call own own_regs) call regs makes = ap sets_ids makes.0
sets_by (Fork child) call regs makes = ap sets_ids makes.0
sets_by (Reload n) call regs makes = absurd makes

-- ---- at first

body_worth : (body : List Instr) → sum_by worth body ≡ length body + 64 * count_by is_renewing_instruction body
body_worth [] = omega arith
body_worth (x ∷ later) =
    let more = sum_by-cons worth x later in
    let counts = sum_by-cons (λ y. cond (is_renewing_instruction y) 1 0) x later in
    let rest = body_worth later in
    omega (arith, more, counts, rest)

all_worth : (rows : List ThreadRow) → all_of worth call_worth rows ≡ sum_by (λ row. length row.body) rows + 64 * sum_by (λ row. count_by is_renewing_instruction row.body) rows
all_worth [] = omega arith
all_worth (row ∷ rows) =
    let more = sum_by-cons (λ each. sum_by worth each.body) row rows in
    let lengths = sum_by-cons (λ each. length each.body) row rows in
    let counts = sum_by-cons (λ each. count_by is_renewing_instruction each.body) row rows in
    let here = body_worth row.body in
    let rest = all_worth rows in
    omega (arith, more, lengths, counts, here, rest)

-- ---- from entry to entry

entered_posts : (posted u : ℕ) (call : SysCall) (regs : List ℕ) (way : Way) → posted_after (Entered u call regs way) posted ≤ posted + 1
entered_posts posted u call regs Fast = omega arith
entered_posts posted u call regs (Barred n) = omega arith
entered_posts posted u call regs (Held q) = omega arith
entered_posts posted u call regs Untraced = omega arith

still_posted : (posted : ℕ) (e : Entry) → changes_of e ≡ [] → enters_call e ≡ false → posted_after e posted ≡ posted
still_posted posted (Entered u call regs way) none unentered = cc
still_posted posted (Used u seq call regs args ids result changes) none unentered = ap (fold posted_after_change posted) none
still_posted posted (Reloaded u n done changes) none unentered = ap (fold posted_after_change posted) none
still_posted posted (Stored u place word) none unentered = refl
still_posted posted (Claimed w q) none unentered = refl
still_posted posted (Copied q part place word) none unentered = refl
still_posted posted (Looked q part name seen) none unentered = refl
still_posted posted (Faulted q errno) none unentered = refl
still_posted posted (Answered w s v applied) none unentered = refl
still_posted posted (Denied u seq errno cause) none unentered = refl
still_posted posted (Ended u) none unentered = refl
still_posted posted (Learned q n) none unentered = refl
still_posted posted (Replied q reply n) none unentered = refl

module _ (i : Input) (few : thread_count i ≤ 64) where
  used_most : (st : State) (u : ℕ) (call : SysCall) (changes : List Change) (entered : PendingCall) → entered.call ≡ call → PostsFew i st few u call changes → fold posted_after_change st.posted changes ≤ st.posted + call_worth entered
  used_most st u call changes entered is (inl same) = omega (arith, same)
  used_most st u call changes entered is (inr x) =
      let all : call_worth entered ≡ renewed_most true = ap (λ each. renewed_most (sets_ids each)) is ∙ ap renewed_most x.0 in
      let high = x.1 in
      omega (arith, all, high)

  draws : Spends worth call_worth i (λ st. st.posted)
  draws = record {
    entering = 1;
    entered = λ x later call regs way makes. let same = ap renewed_most (sets_by x call regs makes) in omega (arith, same);
    enters = λ st u call regs way. entered_posts st.posted u call regs way;
    still = λ st e none unentered. still_posted st.posted e none unentered;
    used = λ st u seq call regs args ids result changes entered pending same y. used_most st u call changes entered same (used_posts i st few u call regs args ids result changes seq y);
    reloaded = λ st u n done changes y. let high : fold posted_after_change st.posted changes ≤ st.posted + 64 = subst (λ cs. fold posted_after_change st.posted cs ≤ st.posted + 64) (sym y.changes_are) (reload_posts i st few n done) in omega (arith, high);
  }

-- ---- every run

module _ (i : Input) (startable : IsStartable i) where
  -- no run draws more numbers than its script allows
  pub few_drawn : (choices : List Choice) → (state_of_run i choices).posted ≤ most_numbers i
  few_drawn choices =
      let most = spent_most worth call_worth i startable (λ st. st.posted) (draws i startable.few_threads) choices in
      let all = all_worth i.start.threads in
      omega (arith, most, all)
