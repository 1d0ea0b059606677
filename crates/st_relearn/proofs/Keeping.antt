-- The texts that a lawful run keeps can be quoted, so its copies can be quoted.
use Rattle.std.proofs.Common.{◌≡◌, ◌+◌, ◌==◌, ◌&&◌, ◌++◌, ℕ, zero, suc, Bool, true, false, cond, List, [], ◌∷◌, slice_get, option_map, Option, Some, None, refl, sym, subst}
use Rattle.std.proofs.lemmas.List.Elements.{recursion_from_All}
use Rattle.std.proofs.lemmas.Option.{same_Some}
use Rattle.std.specs.List.{AllByRecursion, fold}
use Rattle.st_base.specs.Numbered.{item_at_number}
use Rattle.st_base.specs.declared.errno.Errno.{Errno}
use Rattle.st_base.specs.declared.ids.Ids.{Ids}
use Rattle.st_calls.specs.Argument.{args_of}
use Rattle.st_calls.specs.Call.{rule_of}
use Rattle.st_calls.specs.declared.argument.ArgText.{ArgText}
use Rattle.st_calls.specs.declared.call.SysCall.{SysCall}
use Rattle.st_calls.specs.declared.judged.Snapshot.{Snapshot}
use Rattle.st_lex.specs.Quote.{AreBytes}
use Rattle.st_model.specs.Process.{Process}
use Rattle.st_model.specs.Tree.{root_only}
use Rattle.st_names.specs.Name.{Components}
use Rattle.st_names.specs.declared.seen.SeenText.{SeenText}
use Rattle.st_effects.specs.Changes.{process_after, process_after_change}
use Rattle.st_effects.specs.Effect.{effect}
use Rattle.st_effects.specs.Processes.{renewals_by}
use Rattle.st_effects.specs.Progress.{ArgRequest, Look, Progress, Ready, Stuck, Word, progress}
use Rattle.st_effects.specs.System.{HeldCall, Outcome}
use Rattle.st_trace.specs.declared.entry.CallResult.{CallResult}
use Rattle.st_trace.specs.declared.entry.Change.{Change}
use Rattle.st_trace.specs.declared.entry.Change.TheVariants.{Cwd, Execed, Forked, Policy, Renewed, SetIds}
use Rattle.st_trace.specs.declared.entry.Entry.{Entry}
use Rattle.st_trace.specs.declared.entry.Entry.TheVariants.{Stored, Entered, Claimed, Copied, Looked, Faulted, Answered, Used, Denied, Ended, Replied, Learned, Reloaded}
use Rattle.st_trace.specs.declared.entry.Way.{Way}
use Rattle.st_trace.specs.declared.entry.Way.TheVariants.{Fast, Barred, Held, Untraced}
use Rattle.st_trace.specs.declared.start.ProcessRow.{ProcessRow}
use Rattle.st_law.specs.Arguments.{Surroundings}
use Rattle.st_law.specs.History.{looking_back}
use Rattle.st_law.specs.Inputs.{IsStartable}
use Rattle.st_law.specs.Lawful.{IsEffect, IsFailure, IsLawful, IsLawfulBack, IsReloaded, IsUnheldOutcome, IsUnlinkedOutcome, IsUsed, IsWay}
use Rattle.st_law.specs.Machine.{first_state, state_after}
use Rattle.st_law.specs.Messages.{Head, head_after, head_after_change, new_head, renewed_head}
use Rattle.st_law.specs.Processes.{process_of_row}
use Rattle.st_law.specs.State.{State, answer_in, arguments_now, link_now, process_in, progress_of_head, request_of, request_of_head, snapshot_in, snapshot_of_progress, snapshot_with, system_of, held_from, is_held_under, reload_changes, thread_count}
use Rattle.st_law.specs.Threads.{History}
use Rattle.st_law.specs.Versions.{version_after}
use Rattle.st_law.specs.declared.input.Input.{Input}
use Rattle.st_law.proofs.ShortArguments.{HasShortFirst, arguments_short, copies_short, fit_arguments}
use Rattle.st_law.proofs.ShortLinks.{Short, short_of}
use Rattle.st_law.proofs.ShortOutcomes.{Fits, fits_of}
use Rattle.st_law.proofs.ShortTrees.{AreFit}
use Rattle.st_relearn.specs.Plain.{AreWritableCopies, HasPlainTexts, IsPlainProcess}
use Rattle.st_relearn.specs.Writable.{IsWritableBinary}
use Rattle.st_base.proofs.Each.{each-append}
use Rattle.st_relearn.proofs.Names.{AreNames, ArePlainLooks, HasPlainLinks, IsPlainSeen, look_plain}
use Rattle.st_relearn.proofs.Outcomes.{ArePlainChanges, IsPlainChange, plain_effect, renewals_plain}
use Rattle.st_relearn.proofs.Parts.{ArePlainArgs, IsReadyWith, held_plain, texts_plain, unheld_plain}
use Rattle.st_relearn.proofs.Trees.{rows_plain, tree_plain}

-- ---- what is kept

-- the directory of a process can be quoted, and the policy of a traced process can be written
record IsPlain (p : Process) : Type 0 where
  cwd : AreNames p.cwd
  policy : p.traced ≡ true → IsWritableBinary p.policy

-- the same of a held call
abbrev IsPlainHead : Option Head → Type 0
IsPlainHead None = Unit {0}
IsPlainHead (Some head) = AreNames head.cwd × IsWritableBinary head.policy

-- all texts of a run's state from which the texts of its copies come
record IsPlainState (st : State) : Type 0 where
  links : HasPlainLinks st.tree
  processes : (p : ℕ) → IsPlain (st.processes p)
  heads : (q : ℕ) → IsPlainHead (st.messages q).head
  looks : (q j : ℕ) → ArePlainLooks ((st.messages q).lookups j)

-- ---- copies

copies_by : (q : ℕ) (s : Snapshot) (o : Option Head) (words : ℕ → List ℕ) (lookups : ℕ → List SeenText) → IsPlainHead o → ((j : ℕ) → ArePlainLooks (lookups j)) → snapshot_of_progress q o (progress_of_head o words lookups) ≡ Some s → AreWritableCopies s
copies_by q s None words lookups head looks e = absurd (cc)
copies_by q s (Some h) words lookups head looks e = by (progress (request_of_head h) words lookups) (held_plain (request_of_head h) words lookups head.0 looks) e where
  by : (p : Progress) → IsReadyWith (args_of h.rule) p → snapshot_of_progress q (Some h) p ≡ Some s → AreWritableCopies s
  by (Word part place) ready e = absurd (cc)
  by (Look part name) ready e = absurd (cc)
  by (Stuck errno) ready e = absurd (cc)
  by (Ready args) ready e = subst AreWritableCopies (same_Some (snapshot_with q h args) s e) (record { parts = ready; policy = head.1 })

copies_plain : (st : State) (q : ℕ) (s : Snapshot) → IsPlainState st → snapshot_in st q ≡ Some s → AreWritableCopies s
copies_plain st q s x e = copies_by q s (st.messages q).head (st.messages q).words (st.messages q).lookups (x.heads q) (x.looks q) e

-- ---- processes

either_process : (b : Bool) (x y : Process) → IsPlain x → IsPlain y → IsPlain (cond b x y)
either_process true x y p q = p
either_process false x y p q = q

module _ (processes : ℕ → Process) (all : (p : ℕ) → IsPlain (processes p)) (m p : ℕ) where
  process_change : (before : Process) (c : Change) → IsPlainChange c → IsPlain before → IsPlain (process_after_change processes m p before c)
  process_change before (Forked pid space tid) plain x =
      either_process (pid == p) (record (processes m) { space = space }) before (record { cwd = (all m).cwd; policy = (all m).policy }) x
  process_change before (Execed binary space) plain x = either_process (m == p) (record before { space = space }) before (record { cwd = x.cwd; policy = x.policy }) x
  process_change before (SetIds ids) plain x = either_process (m == p) (record before { ids = ids }) before (record { cwd = x.cwd; policy = x.policy }) x
  process_change before (Cwd name) plain x = either_process (m == p) (record before { cwd = name }) before (record { cwd = plain; policy = x.policy }) x
  process_change before (Policy binary) plain x = either_process (m == p) (record before { policy = binary }) before (record { cwd = x.cwd; policy = λ traced. plain }) x
  process_change before _ plain x = x

  process_changes : (before : Process) (changes : List Change) → ArePlainChanges changes → IsPlain before → IsPlain (fold (process_after_change processes m p) before changes)
  process_changes before [] plain x = x
  process_changes before (c ∷ changes) plain x = process_changes (process_after_change processes m p before c) changes plain.1 (process_change before c plain.0 x)

-- ---- heads

head_renewed : (processes : ℕ → Process) (versions : List ℕ → ℕ) (o : Option Head) → ((p : ℕ) → IsPlain (processes p)) → IsPlainHead o → IsPlainHead (option_map (renewed_head processes versions) o)
head_renewed processes versions None plain x = tt
head_renewed processes versions (Some head) plain x = ((plain head.pid).cwd, x.1)

either_head : (b : Bool) (x y : Option Head) → IsPlainHead x → IsPlainHead y → IsPlainHead (cond b x y)
either_head true x y p q = p
either_head false x y p q = q

module _ (heads : ℕ → Option Head) (all : (q : ℕ) → IsPlainHead (heads q)) (processes : ℕ → Process) (versions : List ℕ → ℕ) (plain : (p : ℕ) → IsPlain (processes p)) (q : ℕ) where
  head_change : (before : Option Head) (c : Change) → IsPlainHead before → IsPlainHead (head_after_change heads (renewed_head processes versions) q before c)
  head_change before (Renewed old new) x = either_head (new == q) (option_map (renewed_head processes versions) (heads old)) before (head_renewed processes versions (heads old) plain (all old)) x
  head_change before _ x = x

  head_changes : (before : Option Head) (changes : List Change) → IsPlainHead before → IsPlainHead (fold (head_after_change heads (renewed_head processes versions) q) before changes)
  head_changes before [] x = x
  head_changes before (c ∷ changes) x = head_changes (head_after_change heads (renewed_head processes versions) q before c) changes (head_change before c x)

-- the head of a call that is held; only calls of traced processes are
head_entered : (i : Input) (st : State) → IsPlainState st → (t : ℕ) (call : SysCall) (regs : List ℕ) (way : Way) → IsWay (process_in st t).traced (suc st.posted) way (answer_in i st (process_in st t) call regs)
    → (q : ℕ) → IsPlainHead (head_after i st.versions st.processes (st.threads t).owner (λ p. (st.messages p).head) (Entered t call regs way) q)
head_entered i st x t call regs Fast is q = x.heads q
head_entered i st x t call regs Untraced is q = x.heads q
head_entered i st x t call regs (Barred n) is q = x.heads q
head_entered i st x t call regs (Held p) is q =
    either_head (p == q) (Some (new_head i t (st.threads t).owner (process_in st t) (st.versions (process_in st t).policy) call regs)) (st.messages q).head
    ((x.processes (st.threads t).owner).cwd, (x.processes (st.threads t).owner).policy is.0) (x.heads q)

-- ---- a call that is made

module _ (i : Input) (st : State) (s : Short i st) (x : IsPlainState st) where
  module _ (t : ℕ) (seq : Option ℕ) (call : SysCall) (regs : List ℕ) (args : List ArgText) (ids : Ids) where
    abbrev new : CallResult → List Change → State
    new result changes = state_after i st (Used t seq call regs args ids result changes)

    abbrev outcome : Outcome
    outcome = effect (system_of i st) call (request_of i st t regs args ids)

    used_plain : (result : CallResult) (changes : List Change) → AreFit st.tree.objects changes → ArePlainChanges changes → IsPlainState (new result changes)
    used_plain result changes fit plain =
        let m : ℕ = (st.threads t).owner in
        let after : (p : ℕ) → IsPlain (process_after st.processes m p changes) = λ p. process_changes st.processes x.processes m p (st.processes p) changes plain (x.processes p) in record {
          links = tree_plain st.tree changes fit plain x.links;
          processes = after;
          heads = λ q. head_changes (λ p. (st.messages p).head) x.heads (λ p. process_after st.processes m p changes) st.versions after q (st.messages q).head changes (x.heads q);
          looks = x.looks;
        }

    effect_plain : (result : CallResult) (changes : List Change) → IsEffect i st t call regs ids args result changes → link_now i st call regs args ≡ None → HasShortFirst call args → ArePlainArgs args → IsPlainState (new result changes)
    effect_plain result changes y none short plain =
        let fits : Fits (system_of i st) outcome = fits_of (system_of i st) (request_of i st t regs args ids) s.files call (fit_arguments i st t call regs args ids s.root none short) in
        subst (λ cs. IsPlainState (new result cs)) (sym y.changes_are)
        (used_plain result outcome.changes fits.changes (plain_effect (system_of i st) (request_of i st t regs args ids) plain call))

    failure_plain : (errno : Errno) (result : CallResult) (changes : List Change) → IsFailure errno args result changes → IsPlainState (new result changes)
    failure_plain errno result changes y = subst (λ cs. IsPlainState (new result cs)) (sym y.changes_are) (used_plain result [] tt tt)

    unlinked_plain : (result : CallResult) (changes : List Change) (found : List ArgText) → HasShortFirst call found → ArePlainArgs found → (o : Option Components) → link_now i st call regs found ≡ o → IsUnlinkedOutcome i st t call regs ids found o args result changes → IsPlainState (new result changes)
    unlinked_plain result changes found short plain (Some name) met y = failure_plain _ result changes y
    unlinked_plain result changes found short plain None met y =
        effect_plain result changes y.1 (subst (λ given. link_now i st call regs given ≡ None) (sym y.0) met) (subst (HasShortFirst call) (sym y.0) short) (subst ArePlainArgs (sym y.0) plain)

    unheld_by : (result : CallResult) (changes : List Change) (p : Progress) → arguments_now i st t call regs ≡ p → IsReadyWith (args_of (rule_of call regs i.options.aliasing)) p → IsUnheldOutcome i st t call regs ids p args result changes → IsPlainState (new result changes)
    unheld_by result changes (Word part place) now ready y = absurd y
    unheld_by result changes (Look part name) now ready y = absurd y
    unheld_by result changes (Stuck errno) now ready y = failure_plain errno result changes y
    unheld_by result changes (Ready found) now ready y =
        unlinked_plain result changes found (arguments_short i st t call regs found now) (texts_plain (args_of (rule_of call regs i.options.aliasing)) found ready) (link_now i st call regs found) refl y

    unheld_call : (result : CallResult) (changes : List Change) → IsUnheldOutcome i st t call regs ids (arguments_now i st t call regs) args result changes → IsPlainState (new result changes)
    unheld_call result changes y =
        let asked : ArgRequest = record { rule = rule_of call regs i.options.aliasing; call = call; regs = regs; cwd = (process_in st t).cwd } in
        let around : Surroundings = record { bytes = st.memory (process_in st t).space; tree = st.tree } in
        unheld_by result changes (arguments_now i st t call regs) refl (unheld_plain asked around (x.processes (st.threads t).owner).cwd x.links) y

  call_plain : (t : ℕ) (seq : Option ℕ) (call : SysCall) (regs : List ℕ) (args : List ArgText) (ids : Ids) (result : CallResult) (changes : List Change) → IsUsed i st t seq call regs args ids result changes → IsPlainState (state_after i st (Used t seq call regs args ids result changes))
  call_plain t None call regs args ids result changes y = unheld_call t None call regs args ids result changes y.outcome
  call_plain t (Some q) call regs args ids result changes y =
      let parts : AreWritableCopies y.copies = copies_plain st q y.copies x y.permitted.judged.copies in
      effect_plain t (Some q) call regs args ids result changes y.outcome y.unlinked
      (subst (HasShortFirst call) (sym y.args_are) (copies_short i st q y.copies call (s.rules q) y.permitted.judged.copies y.call_is))
      (subst ArePlainArgs (sym y.args_are) (texts_plain (args_of y.copies.rule) y.copies.parts parts.parts))

  -- ---- a reload

  renewals_fit : (is : HeldCall → Bool) (next : ℕ) (helds : List HeldCall) → AreFit st.tree.objects (renewals_by is next helds)
  renewals_fit is next [] = tt
  renewals_fit is next (held ∷ more) = by (is held) (renewals_fit is (next + 1) more) (renewals_fit is next more) where
    by : (b : Bool) → AreFit st.tree.objects (renewals_by is (next + 1) more) → AreFit st.tree.objects (renewals_by is next more) → AreFit st.tree.objects (cond b (Renewed held.number next ∷ renewals_by is (next + 1) more) (renewals_by is next more))
    by true fit rest = (tt, fit)
    by false fit rest = rest

  -- the changes of a reload leave no texts, whether it is done or not
  reload_plain : (n : ℕ) (done : Bool) → ArePlainChanges (reload_changes i st n done) × AreFit st.tree.objects (reload_changes i st n done)
  reload_plain n false = (tt, tt)
  reload_plain n true = (renewals_plain (is_held_under i st n) (suc st.posted) (held_from st 1 (thread_count i)), renewals_fit (is_held_under i st n) (suc st.posted) (held_from st 1 (thread_count i)))

  reloaded_plain : (t n : ℕ) (done : Bool) (changes : List Change) → AreFit st.tree.objects changes → ArePlainChanges changes → IsPlainState (state_after i st (Reloaded t n done changes))
  reloaded_plain t n done changes fit plain =
      let m : ℕ = (st.threads t).owner in
      let after : (p : ℕ) → IsPlain (process_after st.processes m p changes) = λ p. process_changes st.processes x.processes m p (st.processes p) changes plain (x.processes p) in record {
        links = tree_plain st.tree changes fit plain x.links;
        processes = after;
        heads = λ q. head_changes (λ p. (st.messages p).head) x.heads (λ p. process_after st.processes m p changes) (λ binary. version_after i (Reloaded t n done changes) binary (st.versions binary)) after q (st.messages q).head changes (x.heads q);
        looks = x.looks;
      }

  reload_keeps : (t n : ℕ) (done : Bool) (changes : List Change) → IsReloaded i st t n done changes → IsPlainState (state_after i st (Reloaded t n done changes))
  reload_keeps t n done changes y =
      let both = reload_plain n done in
      subst (λ cs. IsPlainState (state_after i st (Reloaded t n done cs))) (sym y.changes_are) (reloaded_plain t n done (reload_changes i st n done) both.1 both.0)

  -- ---- every entry

  looks_more : (b : Bool) (before : List SeenText) (seen : SeenText) → ArePlainLooks before → IsPlainSeen seen → ArePlainLooks (cond b (before ++ seen ∷ []) before)
  looks_more true before seen all here = each-append IsPlainSeen before (seen ∷ []) all (here, tt)
  looks_more false before seen all here = all

  plain_after : (e : Entry) → IsLawful i st e → IsPlainState (state_after i st e)
  plain_after (Used t seq call regs args ids result changes) y = call_plain t seq call regs args ids result changes y
  plain_after (Reloaded t n done changes) y = reload_keeps t n done changes y
  plain_after (Entered t call regs way) y = record { links = x.links; processes = x.processes; heads = head_entered i st x t call regs way y.way_is; looks = x.looks }
  plain_after (Looked p part name seen) y = record {
    links = x.links;
    processes = x.processes;
    heads = x.heads;
    looks = λ q j. looks_more (p == q && part == j) ((st.messages q).lookups j) seen (x.looks q j) (subst IsPlainSeen (sym y.seen_is) (look_plain st.tree name x.links));
  }
  plain_after (Stored t place word) y = record { links = x.links; processes = x.processes; heads = x.heads; looks = x.looks }
  plain_after (Claimed w q) y = record { links = x.links; processes = x.processes; heads = x.heads; looks = x.looks }
  plain_after (Copied q part place word) y = record { links = x.links; processes = x.processes; heads = x.heads; looks = x.looks }
  plain_after (Faulted q errno) y = record { links = x.links; processes = x.processes; heads = x.heads; looks = x.looks }
  plain_after (Answered w copies v applied) y = record { links = x.links; processes = x.processes; heads = x.heads; looks = x.looks }
  plain_after (Denied t seq errno cause) y = record { links = x.links; processes = x.processes; heads = x.heads; looks = x.looks }
  plain_after (Ended t) y = record { links = x.links; processes = x.processes; heads = x.heads; looks = x.looks }
  plain_after (Learned q n) y = record { links = x.links; processes = x.processes; heads = x.heads; looks = x.looks }
  plain_after (Replied q reply n) y = record { links = x.links; processes = x.processes; heads = x.heads; looks = x.looks }

-- ---- every lawful history

abbrev IsPlainRow : Option ProcessRow → Type 0
IsPlainRow None = Unit {0}
IsPlainRow (Some row) = IsPlainProcess row

row_at : (rows : List ProcessRow) (place : ℕ) → AllByRecursion IsPlainProcess rows → IsPlainRow (slice_get rows place)
row_at [] place all = tt
row_at (row ∷ rows) zero all = all.0
row_at (row ∷ rows) (suc place) all = row_at rows place all.1

row_of : (rows : List ProcessRow) (p : ℕ) → AllByRecursion IsPlainProcess rows → IsPlainRow (item_at_number rows p)
row_of rows zero all = tt
row_of rows (suc place) all = row_at rows place all

started_plain : (i : Input) (p : ℕ) (o : Option ProcessRow) → IsPlainRow o → IsPlain (process_of_row i p o)
started_plain i p None plain = record { cwd = tt; policy = λ traced. absurd (cc) }
started_plain i p (Some row) plain = record { cwd = recursion_from_All AreBytes row.cwd plain.cwd; policy = λ traced. plain.binary }

plain_first : (i : Input) → HasPlainTexts i.start → IsPlainState (first_state i)
plain_first i texts = record {
  links = rows_plain i.start.tree root_only texts.targets (tt, tt);
  processes = λ p. started_plain i p (item_at_number i.start.processes p) (row_of i.start.processes p (recursion_from_All IsPlainProcess i.start.processes texts.processes));
  heads = λ q. tt;
  looks = λ q j. tt;
}

plain_of : (i : Input) → IsStartable i → HasPlainTexts i.start → (h : History) → IsLawfulBack i h → IsPlainState (looking_back i h)
plain_of i startable texts [] lawful = plain_first i texts
plain_of i startable texts (e ∷ h) lawful =
    plain_after i (looking_back i h) (short_of i startable h lawful.1) (plain_of i startable texts h lawful.1) e lawful.0

-- the copies of every lawful run
pub copies_of_runs : (i : Input) → IsStartable i → HasPlainTexts i.start → (h : History) → IsLawfulBack i h → (q : ℕ) (s : Snapshot) → snapshot_in (looking_back i h) q ≡ Some s → AreWritableCopies s
copies_of_runs i startable texts h lawful q s e = copies_plain (looking_back i h) q s (plain_of i startable texts h lawful) e
