-- The links of the tree of every lawful run are short, so a look at one of them shows few components.
use native.Mathlib.Omega.{arith}
use Rattle.std.proofs.Common.{◌≡◌, ◌≤◌, ℕ, zero, suc, Bool, true, false, cond, ◌==◌, List, [], ◌∷◌, ◌++◌, slice_get, option_map, Option, Some, None, refl, sym, subst}
use Rattle.std.specs.List.{fold, range_with_len}
use Rattle.st_base.specs.declared.errno.Errno.{Errno}
use Rattle.st_base.specs.declared.ids.Ids.{Ids}
use Rattle.st_calls.specs.declared.argument.ArgText.{ArgText}
use Rattle.st_calls.specs.declared.call.SysCall.{SysCall}
use Rattle.st_model.specs.DescriptorCalls.{table_after_close_all}
use Rattle.st_model.specs.Process.{Process}
use Rattle.st_model.specs.Tree.{Tree, Node, root_only, is_directory, seen_of, seen_of_kind, seen_through, look, look_along, node_of, node_at, object_of}
use Rattle.st_model.specs.declared.object.Kind.{Kind}
use Rattle.st_model.specs.declared.object.Kind.TheVariants as object_kind
use Rattle.st_model.proofs.Endings.{link_parts, few_components}
use Rattle.st_names.specs.Name.{Components}
use Rattle.st_names.specs.declared.seen.SeenText.{SeenText}
use Rattle.st_names.specs.declared.seen.SeenText.TheVariants.{NotDir}
use Rattle.st_effects.specs.Changes.{process_after, tree_after}
use Rattle.st_effects.specs.Effect.{effect}
use Rattle.st_effects.specs.Progress.{Progress, Word, Look, Stuck, Ready}
use Rattle.st_effects.specs.System.{Outcome}
use Rattle.st_trace.specs.declared.entry.CallResult.{CallResult}
use Rattle.st_trace.specs.declared.entry.CallResult.TheVariants.{Value, Failed}
use Rattle.st_trace.specs.declared.entry.Change.{Change}
use Rattle.st_trace.specs.declared.entry.Change.TheVariants.{Renewed}
use Rattle.st_trace.specs.declared.entry.Entry.{Entry}
use Rattle.st_trace.specs.declared.entry.Entry.TheVariants.{Stored, Entered, Claimed, Copied, Looked, Faulted, Answered, Used, Denied, Ended, Replied, Learned, Reloaded}
use Rattle.st_trace.specs.declared.entry.Way.{Way}
use Rattle.st_trace.specs.declared.entry.Way.TheVariants.{Fast, Barred, Held, Untraced}
use Rattle.st_law.specs.declared.input.Input.{Input}
use Rattle.st_law.specs.History.{looking_back}
use Rattle.st_law.specs.Inputs.{IsStartable}
use Rattle.st_law.specs.Lawful.{IsEffect, IsFailure, IsUnlinkedOutcome, IsUnheldOutcome, IsUsed, IsLawful, IsLawfulBack}
use Rattle.st_law.specs.Machine.{first_state, state_after}
use Rattle.st_law.specs.Messages.{Head, new_head, renewed_head, head_after_change, head_after}
use Rattle.st_law.specs.Processes.{process_count, no_descriptors, first_tree}
use Rattle.st_law.specs.State.{State, held_from, is_held_under, is_last_thread, reload_changes, system_of, thread_count, request_of, arguments_now, link_now}
use Rattle.st_law.specs.Threads.{History}
use Rattle.st_law.proofs.ShortArguments.{HasShortFirst, HasRule, arguments_short, copies_short, fit_arguments}
use Rattle.st_law.proofs.ShortOutcomes.{Fits, fits_of, renewals_fit}
use Rattle.st_law.proofs.ShortTables.{HasPlainFiles, files_then, close_all_plain, start_plain}
use Rattle.st_law.proofs.ShortTrees.{IsShortContent, AreShort, HasShortLinks, IsPlainAt, IsShortStep, AreFit, steps_of, short_rows}

-- an invariant of every lawful run: links are short, neither the root nor an open file is a link, and the rule of a held call is that of
-- its call and registers
pub record Short (i : Input) (st : State) : Type 0 where
  pub links : HasShortLinks st.tree
  pub root : IsPlainAt st.tree.objects 0
  pub files : HasPlainFiles st.tree.objects st.descriptors
  pub rules : (q : ℕ) → HasRule i (st.messages q).head

-- ---- heads

module _ (i : Input) where
  -- a renewed head keeps its rule
  rule_renewed : (processes : ℕ → Process) (versions : List ℕ → ℕ) (o : Option Head) → HasRule i o → HasRule i (option_map (renewed_head processes versions) o)
  rule_renewed processes versions None rule = tt
  rule_renewed processes versions (Some head) rule = rule

  -- one of two heads
  either_rule : (b : Bool) (first second : Option Head) → HasRule i first → HasRule i second → HasRule i (cond b first second)
  either_rule true first second x y = x
  either_rule false first second x y = y

  module _ (heads : ℕ → Option Head) (rules : (q : ℕ) → HasRule i (heads q)) (processes : ℕ → Process) (versions : List ℕ → ℕ) (q : ℕ) where
    rule_change : (before : Option Head) (c : Change) → HasRule i before → HasRule i (head_after_change heads (renewed_head processes versions) q before c)
    rule_change before (Renewed old new) rule = either_rule (new == q) (option_map (renewed_head processes versions) (heads old)) before (rule_renewed processes versions (heads old) (rules old)) rule
    rule_change before _ rule = rule

    rule_changes : (before : Option Head) (changes : List Change) → HasRule i before → HasRule i (fold (head_after_change heads (renewed_head processes versions) q) before changes)
    rule_changes before [] rule = rule
    rule_changes before (c ∷ changes) rule = rule_changes (head_after_change heads (renewed_head processes versions) q before c) changes (rule_change before c rule)

  -- the head of a held call
  rule_entered : (versions : List ℕ → ℕ) (processes : ℕ → Process) (m t : ℕ) (call : SysCall) (regs : List ℕ) (way : Way) (heads : ℕ → Option Head) → ((q : ℕ) → HasRule i (heads q)) → (q : ℕ) → HasRule i (head_after i versions processes m heads (Entered t call regs way) q)
  rule_entered versions processes m t call regs Fast heads rules q = rules q
  rule_entered versions processes m t call regs Untraced heads rules q = rules q
  rule_entered versions processes m t call regs (Barred n) heads rules q = rules q
  rule_entered versions processes m t call regs (Held p) heads rules q = either_rule (p == q) (Some (new_head i t m (processes m) (versions (processes m).policy) call regs)) (heads q) refl (rules q)

-- ---- a call that is made

module _ (i : Input) (st : State) (x : Short i st) where
  module _ (t : ℕ) (seq : Option ℕ) (call : SysCall) (regs : List ℕ) (args : List ArgText) (ids : Ids) where
    abbrev new : CallResult → List Change → State
    new result changes = state_after i st (Used t seq call regs args ids result changes)

    abbrev outcome : Outcome
    outcome = effect (system_of i st) call (request_of i st t regs args ids)

    -- after changes that fit
    used_short : (result : CallResult) (changes : List Change) → AreFit st.tree.objects changes → HasPlainFiles (tree_after st.tree changes).objects (new result changes).descriptors → Short i (new result changes)
    used_short result changes fit files =
        let step : IsShortStep st.tree.objects (tree_after st.tree changes).objects = steps_of st.tree changes fit in record {
          links = step.short x.links;
          root = step.plain 0 x.root;
          files = files;
          rules = λ q. rule_changes i (λ p. (st.messages p).head) x.rules (λ p. process_after st.processes (st.threads t).owner p changes) st.versions q (st.messages q).head changes (x.rules q);
        }

    -- a call that fails leaves the descriptors
    files_by : (result : CallResult) → Fits (system_of i st) outcome → HasPlainFiles (tree_after st.tree outcome.changes).objects (new result outcome.changes).descriptors
    files_by (Value n) fits = fits.files
    files_by (Failed errno) fits = files_then st.tree.objects (tree_after st.tree outcome.changes).objects (steps_of st.tree outcome.changes fits.changes) st.descriptors.files x.files

    effect_short : (result : CallResult) (changes : List Change) → IsEffect i st t call regs ids args result changes → link_now i st call regs args ≡ None → HasShortFirst call args → Short i (new result changes)
    effect_short result changes y none short =
        let fits : Fits (system_of i st) outcome = fits_of (system_of i st) (request_of i st t regs args ids) x.files call (fit_arguments i st t call regs args ids x.root none short) in
        subst (λ cs. Short i (new result cs)) (sym y.changes_are) (used_short result outcome.changes fits.changes (files_by result fits))

    failure_short : (errno : Errno) (result : CallResult) (changes : List Change) → IsFailure errno args result changes → Short i (new result changes)
    failure_short errno result changes y =
        subst (λ cs. Short i (new result cs)) (sym y.changes_are)
        (subst (λ r. Short i (new r [])) (sym y.result_is) (used_short (Failed errno) [] tt x.files))

    unlinked_short : (result : CallResult) (changes : List Change) (found : List ArgText) → HasShortFirst call found → (o : Option Components) → link_now i st call regs found ≡ o → IsUnlinkedOutcome i st t call regs ids found o args result changes → Short i (new result changes)
    unlinked_short result changes found short (Some name) met y = failure_short _ result changes y
    unlinked_short result changes found short None met y =
        effect_short result changes y.1 (subst (λ given. link_now i st call regs given ≡ None) (sym y.0) met) (subst (HasShortFirst call) (sym y.0) short)

    unheld_short : (result : CallResult) (changes : List Change) (p : Progress) → arguments_now i st t call regs ≡ p → IsUnheldOutcome i st t call regs ids p args result changes → Short i (new result changes)
    unheld_short result changes (Word part place) now y = absurd y
    unheld_short result changes (Look part name) now y = absurd y
    unheld_short result changes (Stuck errno) now y = failure_short errno result changes y
    unheld_short result changes (Ready found) now y = unlinked_short result changes found (arguments_short i st t call regs found now) (link_now i st call regs found) refl y

  -- a call that is made, by whether it has a number
  call_short : (t : ℕ) (seq : Option ℕ) (call : SysCall) (regs : List ℕ) (args : List ArgText) (ids : Ids) (result : CallResult) (changes : List Change) → IsUsed i st t seq call regs args ids result changes → Short i (state_after i st (Used t seq call regs args ids result changes))
  call_short t None call regs args ids result changes y = unheld_short t None call regs args ids result changes (arguments_now i st t call regs) refl y.outcome
  call_short t (Some q) call regs args ids result changes y =
      effect_short t (Some q) call regs args ids result changes y.outcome y.unlinked
      (subst (HasShortFirst call) (sym y.args_are) (copies_short i st q y.copies call (x.rules q) y.permitted.judged.copies y.call_is))

  -- ---- a reload

  reload_fit : (n : ℕ) (done : Bool) → AreFit st.tree.objects (reload_changes i st n done)
  reload_fit n true = renewals_fit (system_of i st) (is_held_under i st n) (suc st.posted) (held_from st 1 (thread_count i))
  reload_fit n false = tt

  reload_short : (t n : ℕ) (done : Bool) → Short i (state_after i st (Reloaded t n done (reload_changes i st n done)))
  reload_short t n done =
      let changes : List Change = reload_changes i st n done in
      let step : IsShortStep st.tree.objects (tree_after st.tree changes).objects = steps_of st.tree changes (reload_fit n done) in record {
        links = step.short x.links;
        root = step.plain 0 x.root;
        files = files_then st.tree.objects (tree_after st.tree changes).objects step st.descriptors.files x.files;
        rules = λ q. rule_changes i (λ p. (st.messages p).head) x.rules (λ p. process_after st.processes (st.threads t).owner p changes) (state_after i st (Reloaded t n done changes)).versions q (st.messages q).head changes (x.rules q);
      }

  -- ---- every entry

  -- the open files after the end of a thread
  ended_files : (t : ℕ) (b : Bool) → HasPlainFiles st.tree.objects (cond b (table_after_close_all st.descriptors (st.threads t).owner) st.descriptors)
  ended_files t true = close_all_plain st.tree.objects st.descriptors (st.threads t).owner x.files
  ended_files t false = x.files

  -- the invariant is kept by each lawful entry
  pub short_later : (e : Entry) → IsLawful i st e → Short i (state_after i st e)
  short_later (Used t seq call regs args ids result changes) y = call_short t seq call regs args ids result changes y
  short_later (Reloaded t n done changes) y = subst (λ cs. Short i (state_after i st (Reloaded t n done cs))) (sym y.changes_are) (reload_short t n done)
  short_later (Entered t call regs way) y = record { links = x.links; root = x.root; files = x.files; rules = λ q. rule_entered i st.versions st.processes (st.threads t).owner t call regs way (λ p. (st.messages p).head) x.rules q }
  short_later (Ended t) y = record { links = x.links; root = x.root; files = ended_files t (is_last_thread i st t); rules = x.rules }
  short_later (Stored t place word) y = record { links = x.links; root = x.root; files = x.files; rules = x.rules }
  short_later (Claimed w q) y = record { links = x.links; root = x.root; files = x.files; rules = x.rules }
  short_later (Copied q part place word) y = record { links = x.links; root = x.root; files = x.files; rules = x.rules }
  short_later (Looked q part name seen) y = record { links = x.links; root = x.root; files = x.files; rules = x.rules }
  short_later (Faulted q errno) y = record { links = x.links; root = x.root; files = x.files; rules = x.rules }
  short_later (Answered w s v applied) y = record { links = x.links; root = x.root; files = x.files; rules = x.rules }
  short_later (Denied t seq errno cause) y = record { links = x.links; root = x.root; files = x.files; rules = x.rules }
  short_later (Learned q n) y = record { links = x.links; root = x.root; files = x.files; rules = x.rules }
  short_later (Replied q reply n) y = record { links = x.links; root = x.root; files = x.files; rules = x.rules }

-- ---- every lawful history

-- the invariant holds before the first entry
short_first : (i : Input) → IsStartable i → Short i (first_state i)
short_first i startable =
    let step : IsShortStep root_only.objects (first_tree i).objects = short_rows i.start.tree root_only startable.targets in record {
      links = step.short (tt, tt);
      root = step.plain 0 refl;
      files = start_plain (first_tree i).objects no_descriptors (range_with_len 1 (process_count i)) tt;
      rules = λ q. tt;
    }

-- the invariant holds after each lawful history
pub short_of : (i : Input) → IsStartable i → (h : History) → IsLawfulBack i h → Short i (looking_back i h)
short_of i startable [] lawful = short_first i startable
short_of i startable (e ∷ h) lawful = short_later i (looking_back i h) (short_of i startable h lawful.1) e lawful.0

-- every link of the tree has a target of at most 255 bytes
pub links_short : (i : Input) → IsStartable i → (h : History) → IsLawfulBack i h → HasShortLinks (looking_back i h).tree
links_short i startable h lawful = (short_of i startable h lawful).links

-- ---- looks

-- a node, if there is one, is no link with a long target
abbrev IsShortNode : Option Node → Type 0
IsShortNode None = Unit {0}
IsShortNode (Some node) = IsShortContent node.kind node.content

-- the node at an index
get_short : (nodes : List Node) (place : ℕ) → AreShort nodes → IsShortNode (slice_get nodes place)
get_short [] place all = tt
get_short (node ∷ nodes) zero all = all.0
get_short (node ∷ nodes) (suc place) all = get_short nodes place all.1

-- the node of an object's number
at_short : (tree : Tree) (o : Option ℕ) → HasShortLinks tree → IsShortNode (node_at tree o)
at_short tree None all = tt
at_short tree (Some zero) all = tt
at_short tree (Some (suc place)) all = get_short tree.objects place all

-- what is seen of an object, by its kind
kind_short : (kind : Kind) (content : List ℕ) → IsShortContent kind content → link_parts (seen_of_kind kind content) ≤ 128
kind_short object_kind.Dir content short = omega arith
kind_short object_kind.File content short = omega arith
kind_short object_kind.Link content short = let few = few_components content in omega (arith, few, short)

-- what is seen of an object, or of none
seen_short : (o : Option Node) → IsShortNode o → link_parts (seen_of o) ≤ 128
seen_short None short = omega arith
seen_short (Some node) short = kind_short node.kind node.content short

-- what is seen through a directory
through_short : (o : Option Node) (rest : SeenText) → link_parts rest ≤ 128 → link_parts (seen_through o rest) ≤ 128
through_short None rest few = omega arith
through_short (Some node) rest few = by_kind (is_directory node.kind) rest few where
  by_kind : (b : Bool) (rest : SeenText) → link_parts rest ≤ 128 → link_parts (cond b rest NotDir) ≤ 128
  by_kind true rest few = few
  by_kind false rest few = omega arith

-- what is seen along a name
along_short : (tree : Tree) (done rest : Components) → HasShortLinks tree → link_parts (look_along tree done rest) ≤ 128
along_short tree done [] all = seen_short (node_of tree done) (at_short tree (object_of tree done) all)
along_short tree done (part ∷ rest) all = through_short (node_of tree done) (look_along tree (done ++ part ∷ []) rest) (along_short tree (done ++ part ∷ []) rest all)

-- a look at a name of a tree with short links shows at most 128 components
pub looked_short : (tree : Tree) (name : Components) → HasShortLinks tree → link_parts (look tree name) ≤ 128
looked_short tree name all = along_short tree [] name all
