-- The filters that lawful runs add to a session can be written. So the policies, written and read again, permit what the runs made.
use Rattle.std.proofs.Common.{◌≡◌, ◌≢◌, ◌≤◌, ◌∙◌, ◌++◌, ◌&&◌, ℕ, zero, suc, Bool, true, false, cond, List, [], ◌∷◌, slice_get, Option, Some, None, refl, sym}
use Rattle.std.proofs.lemmas.List.Elements.{All-from_recursion, All-weaker, recursion_from_All}
use Rattle.std.specs.List.{All, AllByRecursion}
use Rattle.st_base.specs.Numbered.{item_at_number}
use Rattle.st_base.specs.declared.ids.Ids.{Ids}
use Rattle.st_calls.specs.declared.argument.ArgText.{ArgText}
use Rattle.st_calls.specs.declared.call.SysCall.{SysCall}
use Rattle.st_calls.specs.declared.judged.Snapshot.{Snapshot}
use Rattle.st_filter.specs.Policies.{filters_in, in_force, is_block_of, with_binary}
use Rattle.st_filter.specs.declared.filter.Action.{Action}
use Rattle.st_filter.specs.declared.filter.Action.TheVariants.{Permit, Deny, Ask}
use Rattle.st_filter.specs.declared.set.BinaryPolicy.{BinaryPolicy}
use Rattle.st_filter.specs.declared.set.Reply.{Reply}
use Rattle.st_filter.specs.declared.set.TheConstants.{MOST_FILTERS}
use Rattle.st_trace.specs.declared.entry.CallResult.{CallResult}
use Rattle.st_trace.specs.declared.entry.Change.{Change}
use Rattle.st_trace.specs.declared.entry.Entry.{Entry}
use Rattle.st_trace.specs.declared.entry.Entry.TheVariants.{Stored, Entered, Claimed, Copied, Looked, Faulted, Answered, Used, Denied, Ended, Replied, Learned, Reloaded}
use Rattle.st_law.specs.History.{changed_at, looking_back, message_at, session_at}
use Rattle.st_law.specs.Inputs.{IsStartable}
use Rattle.st_law.specs.Lawful.{IsLawfulBack, IsReplied}
use Rattle.st_law.specs.Sessions.{SessionFilter, learnt_by, replied_by, with_binaries}
use Rattle.st_law.specs.State.{snapshot_of_message}
use Rattle.st_law.specs.Threads.{History}
use Rattle.st_law.specs.Versions.{version_at, with_binary_of}
use Rattle.st_law.specs.declared.input.Input.{Input}
use Rattle.st_law.specs.declared.input.Mode.TheVariants.{Learn, AskText}
use Rattle.st_learn.specs.Learnt.{HaveSameVersions, NoneAsks, NoneAsksInForce, learnt_in}
use Rattle.st_learn.specs.Permitted.{IsPermittedBy}
use Rattle.st_learn.proofs.Unasked.{unasked_as_read}
use Rattle.st_grammar.specs.Grammar.{Reads}
use Rattle.st_reread.specs.Readable.{WasRead, HasPlainDollars, HasSmallIds}
use Rattle.st_grammar.specs.declared.env.Env.{Env}
use Rattle.st_relearn.specs.Plain.{AreWritableCopies, HasPlainTexts}
use Rattle.st_relearn.specs.Relearnt.{AreWritableInForce, HasWritableBlocks, HasWritableReplies, IsWritableKept, ReadsAndPermits, learnt_policy_text}
use Rattle.st_relearn.specs.Writable.{AreWritable, IsWritableAction, IsWritableBinary, IsWritableFilter, IsWritablePolicy}
use Rattle.st_relearn.proofs.Keeping.{copies_of_runs}
use Rattle.st_relearn.proofs.LearntFilters.{learnt_is_writable}
use Rattle.st_base.proofs.Each.{each-append}
use Rattle.st_reached.proofs.NoReloads.{reload_given, versions_while_learning}
use Rattle.st_relearn.proofs.Sessions.{IsWritableBlock, block_in_force, block_of, learnt_is_read, read_in_force, with_writable}
use Rattle.st_relearn.proofs.Writing.{read_is_writable}

module _ (env : Env) where
  learnt_kept : (o : Option Snapshot) → ((s : Snapshot) → o ≡ Some s → AreWritableCopies s) → AllByRecursion (IsWritableKept env) (learnt_by o)
  learnt_kept None parts = tt
  learnt_kept (Some s) parts = (record { policy = (parts s refl).policy; filter = learnt_is_writable env s (parts s refl).parts }, tt)

  -- a reply's filter can be written, if there is a reply
  abbrev IsWritableReply : Option Reply → Type 0
  IsWritableReply None = Unit {0}
  IsWritableReply (Some reply) = IsWritableFilter env reply.filter

  reply_at : (replies : List Reply) (place : ℕ) → AllByRecursion (λ reply. IsWritableFilter env reply.filter) replies → IsWritableReply (slice_get replies place)
  reply_at [] place all = tt
  reply_at (reply ∷ replies) zero all = all.0
  reply_at (reply ∷ replies) (suc place) all = reply_at replies place all.1

  reply_of : (replies : List Reply) (n : ℕ) → AllByRecursion (λ reply. IsWritableFilter env reply.filter) replies → IsWritableReply (item_at_number replies n)
  reply_of replies zero all = tt
  reply_of replies (suc place) all = reply_at replies place all

  replied_kept : (r : Option Reply) (o : Option Snapshot) → IsWritableReply r → ((s : Snapshot) → o ≡ Some s → AreWritableCopies s) → AllByRecursion (IsWritableKept env) (replied_by r o)
  replied_kept None o writable parts = tt
  replied_kept (Some reply) None writable parts = tt
  replied_kept (Some reply) (Some s) writable parts = (record { policy = (parts s refl).policy; filter = writable }, tt)

  module _ (i : Input) (startable : IsStartable i) (texts : HasPlainTexts i.start) (replies : HasWritableReplies env i) where
    session_kept : (h : History) → IsLawfulBack i h → AllByRecursion (IsWritableKept env) (session_at i h)
    session_kept [] lawful = tt
    session_kept (Learned q n ∷ h) lawful =
        each-append (IsWritableKept env) (session_at i h) (learnt_by (snapshot_of_message q (message_at i h q))) (session_kept h lawful.1)
        (learnt_kept (snapshot_of_message q (message_at i h q)) (copies_of_runs i startable texts h lawful.1 q))
    session_kept (Replied q reply n ∷ h) lawful =
        let y : IsReplied i (looking_back i h) q reply n = lawful.0 in
        each-append (IsWritableKept env) (session_at i h) (replied_by (item_at_number i.replies reply) (snapshot_of_message q (message_at i h q))) (session_kept h lawful.1)
        (replied_kept (item_at_number i.replies reply) (snapshot_of_message q (message_at i h q))
        (reply_of i.replies reply (recursion_from_All (λ given. IsWritableFilter env given.filter) i.replies (replies y.mode)))
        (copies_of_runs i startable texts h lawful.1 q))
    session_kept (Stored u place word ∷ h) lawful = session_kept h lawful.1
    session_kept (Entered u call regs way ∷ h) lawful = session_kept h lawful.1
    session_kept (Claimed w p ∷ h) lawful = session_kept h lawful.1
    session_kept (Copied p part place word ∷ h) lawful = session_kept h lawful.1
    session_kept (Looked p part name seen ∷ h) lawful = session_kept h lawful.1
    session_kept (Faulted p errno ∷ h) lawful = session_kept h lawful.1
    session_kept (Answered w s v applied ∷ h) lawful = session_kept h lawful.1
    session_kept (Used u seq call regs args ids result changes ∷ h) lawful = session_kept h lawful.1
    session_kept (Denied u seq errno cause ∷ h) lawful = session_kept h lawful.1
    session_kept (Ended u ∷ h) lawful = session_kept h lawful.1
    session_kept (Reloaded u n done changes ∷ h) lawful = session_kept h lawful.1

-- the filters that a run adds can be written
pub run_adds_writable : (env : Env) (i : Input) → IsStartable i → HasPlainTexts i.start → HasWritableReplies env i → (h : History) → IsLawfulBack i h → All (IsWritableKept env) (session_at i h)
run_adds_writable env i startable texts replies h lawful = All-from_recursion (IsWritableKept env) (session_at i h) (session_kept env i startable texts replies h lawful)

-- ---- what a run has changed of the policies that were read

module _ (env : Env) (i : Input) (startable : IsStartable i) (blocks : HasWritableBlocks env i) where
  -- a policy that is reloaded can be written
  reloaded_block : (h : History) (t n : ℕ) (done : Bool) (changes : List Change) → IsLawfulBack i (Reloaded t n done changes ∷ h) → IsWritableBlock env (item_at_number i.policies.blocks n)
  reloaded_block h t n done changes lawful = block_of env i.policies.blocks n (blocks (reload_given i startable h t n done changes lawful).1)

  module _ (w : AreWritable env i.policies.read) where
    abbrev HasWritable : List ℕ → ℕ → Type 0
    HasWritable binary version = All (IsWritableFilter env) (in_force i.policies binary version)

    at_version : (n : ℕ) (binary : List ℕ) → IsWritableBlock env (item_at_number i.policies.blocks n) → HasWritable binary n
    at_version zero binary block = read_in_force env i.policies.read binary (recursion_from_All (IsWritablePolicy env) i.policies.read w.each)
    at_version (suc before) binary block = block_in_force env (item_at_number i.policies.blocks (suc before)) binary block

    either_version : (b : Bool) (n m : ℕ) (binary : List ℕ) → HasWritable binary n → HasWritable binary m → HasWritable binary (cond b n m)
    either_version true n m binary x y = x
    either_version false n m binary x y = y

    -- the filters in force after a lawful history can be written
    pub forced_writable : (h : History) → IsLawfulBack i h → AreWritableInForce env i.policies (version_at i h)
    forced_writable [] lawful binary = at_version 0 binary tt
    forced_writable (Reloaded t n done changes ∷ h) lawful binary =
        either_version (done && is_block_of i.policies n binary) n (version_at i h binary) binary (at_version n binary (reloaded_block h t n done changes lawful)) (forced_writable h lawful.1 binary)
    forced_writable (Stored u place word ∷ h) lawful binary = forced_writable h lawful.1 binary
    forced_writable (Entered u call regs way ∷ h) lawful binary = forced_writable h lawful.1 binary
    forced_writable (Claimed x p ∷ h) lawful binary = forced_writable h lawful.1 binary
    forced_writable (Copied p part place word ∷ h) lawful binary = forced_writable h lawful.1 binary
    forced_writable (Looked p part name seen ∷ h) lawful binary = forced_writable h lawful.1 binary
    forced_writable (Faulted p errno ∷ h) lawful binary = forced_writable h lawful.1 binary
    forced_writable (Answered x s v applied ∷ h) lawful binary = forced_writable h lawful.1 binary
    forced_writable (Used u seq call regs args ids result changes ∷ h) lawful binary = forced_writable h lawful.1 binary
    forced_writable (Denied u seq errno cause ∷ h) lawful binary = forced_writable h lawful.1 binary
    forced_writable (Ended u ∷ h) lawful binary = forced_writable h lawful.1 binary
    forced_writable (Replied p reply n ∷ h) lawful binary = forced_writable h lawful.1 binary
    forced_writable (Learned p n ∷ h) lawful binary = forced_writable h lawful.1 binary

  module _ (texts : HasPlainTexts i.start) where
    more_kept : (before : List (List ℕ)) (kept : List SessionFilter) → AllByRecursion IsWritableBinary before → AllByRecursion (λ each. IsWritableBinary each.policy) kept → AllByRecursion IsWritableBinary (with_binaries before kept)
    more_kept before [] each more = each
    more_kept before (k ∷ kept) each more = more_kept (with_binary before k.policy) kept (with_writable before k.policy more.0 each) more.1

    learnt_binary : (o : Option Snapshot) → ((s : Snapshot) → o ≡ Some s → AreWritableCopies s) → AllByRecursion (λ each. IsWritableBinary each.policy) (learnt_by o)
    learnt_binary None parts = tt
    learnt_binary (Some s) parts = ((parts s refl).policy, tt)

    replied_binary : (r : Option Reply) (o : Option Snapshot) → ((s : Snapshot) → o ≡ Some s → AreWritableCopies s) → AllByRecursion (λ each. IsWritableBinary each.policy) (replied_by r o)
    replied_binary None o parts = tt
    replied_binary (Some reply) None parts = tt
    replied_binary (Some reply) (Some s) parts = ((parts s refl).policy, tt)

    more_block : (before : List (List ℕ)) (o : Option BinaryPolicy) → IsWritableBlock env o → AllByRecursion IsWritableBinary before → AllByRecursion IsWritableBinary (with_binary_of before o)
    more_block before None block each = each
    more_block before (Some policy) block each = with_writable before policy.binary block.binary each

    either_binaries : (b : Bool) (bs cs : List (List ℕ)) → AllByRecursion IsWritableBinary bs → AllByRecursion IsWritableBinary cs → AllByRecursion IsWritableBinary (cond b bs cs)
    either_binaries true bs cs x y = x
    either_binaries false bs cs x y = y

    changed_writable : (h : History) → IsLawfulBack i h → AllByRecursion IsWritableBinary (changed_at i h)
    changed_writable [] lawful = tt
    changed_writable (Learned q n ∷ h) lawful =
        let o : Option Snapshot = snapshot_of_message q (message_at i h q) in
        more_kept (changed_at i h) (learnt_by o) (changed_writable h lawful.1) (learnt_binary o (copies_of_runs i startable texts h lawful.1 q))
    changed_writable (Replied q reply n ∷ h) lawful =
        let o : Option Snapshot = snapshot_of_message q (message_at i h q) in
        more_kept (changed_at i h) (replied_by (item_at_number i.replies reply) o) (changed_writable h lawful.1)
        (replied_binary (item_at_number i.replies reply) o (copies_of_runs i startable texts h lawful.1 q))
    changed_writable (Reloaded t n done changes ∷ h) lawful =
        let block : Option BinaryPolicy = item_at_number i.policies.blocks n in
        let before : AllByRecursion IsWritableBinary (changed_at i h) = changed_writable h lawful.1 in
        either_binaries done (with_binary_of (changed_at i h) block) (changed_at i h) (more_block (changed_at i h) block (reloaded_block h t n done changes lawful) before) before
    changed_writable (Stored u place word ∷ h) lawful = changed_writable h lawful.1
    changed_writable (Entered u call regs way ∷ h) lawful = changed_writable h lawful.1
    changed_writable (Claimed w p ∷ h) lawful = changed_writable h lawful.1
    changed_writable (Copied p part place word ∷ h) lawful = changed_writable h lawful.1
    changed_writable (Looked p part name seen ∷ h) lawful = changed_writable h lawful.1
    changed_writable (Faulted p errno ∷ h) lawful = changed_writable h lawful.1
    changed_writable (Answered w s v applied ∷ h) lawful = changed_writable h lawful.1
    changed_writable (Used u seq call regs args ids result changes ∷ h) lawful = changed_writable h lawful.1
    changed_writable (Denied u seq errno cause ∷ h) lawful = changed_writable h lawful.1
    changed_writable (Ended u ∷ h) lawful = changed_writable h lawful.1

-- the filters in force can be written
pub in_force_writable : (env : Env) (i : Input) → IsStartable i → AreWritable env i.policies.read → HasWritableBlocks env i → (h : History) → IsLawfulBack i h → AreWritableInForce env i.policies (looking_back i h).versions
in_force_writable env i startable w blocks h lawful = forced_writable env i startable blocks w h lawful

-- the binaries whose policies a run has changed can be written
pub run_changes_writable : (env : Env) (i : Input) → IsStartable i → HasPlainTexts i.start → HasWritableBlocks env i → (h : History) → IsLawfulBack i h → All IsWritableBinary (looking_back i h).changed
run_changes_writable env i startable texts blocks h lawful = All-from_recursion IsWritableBinary (changed_at i h) (changed_writable env i startable blocks texts h lawful)

-- ---- what is read again

-- the law that calls that were made are permitted by the policies in force with what was added
abbrev pub PermitsMade : Type 0
PermitsMade =
    (i : Input) → (later earlier : History) (t q : ℕ) (call : SysCall) (regs : List ℕ) (args : List ArgText) (ids : Ids) (result : CallResult) (changes : List Change) →
    NoneAsksInForce i.policies (looking_back i (later ++ Used t (Some q) call regs args ids result changes ∷ earlier)).versions → HaveSameVersions (looking_back i earlier) (looking_back i (later ++ Used t (Some q) call regs args ids result changes ∷ earlier)) →
    IsLawfulBack i (later ++ Used t (Some q) call regs args ids result changes ∷ earlier) →
    IsPermittedBy (learnt_in i (looking_back i (later ++ Used t (Some q) call regs args ids result changes ∷ earlier))) (looking_back i earlier) q ids

-- the law that a text has at most one reading
abbrev pub ReadsOnce : Type 0
ReadsOnce = (text : List ℕ) (env : Env) (old a b : List BinaryPolicy) → Reads text env old a → Reads text env old b → a ≡ b

-- the policies after a run are read again
run_is_read : (env : Env) (i : Input) → IsStartable i → HasPlainTexts i.start → HasWritableReplies env i → HasWritableBlocks env i → AreWritable env i.policies.read → (h : History) → IsLawfulBack i h →
    filters_in (learnt_in i (looking_back i h)) ≤ MOST_FILTERS → Reads (learnt_policy_text i (looking_back i h) env.emulation) env [] (learnt_in i (looking_back i h))
run_is_read env i startable texts replies blocks w h lawful few =
    learnt_is_read env i.policies (version_at i h) (changed_at i h) (session_at i h) w (forced_writable env i startable blocks w h lawful)
    (run_changes_writable env i startable texts blocks h lawful) (run_adds_writable env i startable texts replies h lawful) few

-- calls that were made are permitted by the policies that are read again
pub read_permits_made : PermitsMade → ReadsOnce → (env : Env) (i : Input) → IsStartable i → HasPlainTexts i.start → HasWritableReplies env i → HasWritableBlocks env i → AreWritable env i.policies.read →
    (later earlier : History) (t q : ℕ) (call : SysCall) (regs : List ℕ) (args : List ArgText) (ids : Ids) (result : CallResult) (changes : List Change) →
    NoneAsksInForce i.policies (looking_back i (later ++ Used t (Some q) call regs args ids result changes ∷ earlier)).versions → HaveSameVersions (looking_back i earlier) (looking_back i (later ++ Used t (Some q) call regs args ids result changes ∷ earlier)) →
    IsLawfulBack i (later ++ Used t (Some q) call regs args ids result changes ∷ earlier) →
    filters_in (learnt_in i (looking_back i (later ++ Used t (Some q) call regs args ids result changes ∷ earlier))) ≤ MOST_FILTERS →
    ReadsAndPermits (learnt_policy_text i (looking_back i (later ++ Used t (Some q) call regs args ids result changes ∷ earlier)) env.emulation) env (looking_back i earlier) q ids
read_permits_made permits_made once env i startable texts replies blocks writable later earlier t q call regs args ids result changes plain same lawful few =
    let whole : History = later ++ Used t (Some q) call regs args ids result changes ∷ earlier in
    let set : List BinaryPolicy = learnt_in i (looking_back i whole) in
    let reads : Reads (learnt_policy_text i (looking_back i whole) env.emulation) env [] set = run_is_read env i startable texts replies blocks writable whole lawful few in
    record {
      set = set;
      reads = reads;
      alone = λ other again. once (learnt_policy_text i (looking_back i whole) env.emulation) env [] other set again reads;
      permitted = permits_made i later earlier t q call regs args ids result changes plain same lawful;
    }

-- ---- runs that learn

no_ask : (env : Env) (a : Action) → env.learn ≡ true → IsWritableAction env a → a ≢ Ask
no_ask env Permit learns w e = absurd (cc)
no_ask env (Deny errno) learns w e = absurd (cc)
no_ask env Ask learns w e = absurd (clash (sym learns ∙ w)) where
  clash : true ≡ false → ⊥
  clash f = cc

-- no filter that was read asks
none_asks : (env : Env) (policies : List BinaryPolicy) → env.learn ≡ true → AreWritable env policies → NoneAsks policies
none_asks env policies learns w =
    All-weaker (IsWritablePolicy env) (λ p. All (λ f. f.action ≢ Ask) p.filters)
    (λ p own. All-weaker (IsWritableFilter env) (λ f. f.action ≢ Ask) (λ f here. no_ask env f.action learns here.action) p.filters own.filters)
    policies w.each

-- no reply is given
no_replies : (env : Env) (i : Input) → i.options.mode ≡ Learn → HasWritableReplies env i
no_replies env i learns asks = absurd (clash (sym learns ∙ asks)) where
  clash : Learn ≡ AskText → ⊥
  clash f = cc

pub learnt_permits_made : PermitsMade → ReadsOnce → (env : Env) (i : Input) → IsStartable i → HasPlainTexts i.start → i.options.mode ≡ Learn → env.learn ≡ true → HasPlainDollars env → HasSmallIds env → WasRead env i.policies.read →
    (later earlier : History) (t q : ℕ) (call : SysCall) (regs : List ℕ) (args : List ArgText) (ids : Ids) (result : CallResult) (changes : List Change) →
    IsLawfulBack i (later ++ Used t (Some q) call regs args ids result changes ∷ earlier) →
    filters_in (learnt_in i (looking_back i (later ++ Used t (Some q) call regs args ids result changes ∷ earlier))) ≤ MOST_FILTERS →
    ReadsAndPermits (learnt_policy_text i (looking_back i (later ++ Used t (Some q) call regs args ids result changes ∷ earlier)) env.emulation) env (looking_back i earlier) q ids
learnt_permits_made permits_made once env i startable texts mode learns plain small was later earlier t q call regs args ids result changes lawful few =
    let w : AreWritable env i.policies.read = read_is_writable env i.policies.read was plain small in
    let made : Entry = Used t (Some q) call regs args ids result changes in
    let now : (binary : List ℕ) → version_at i (later ++ made ∷ earlier) binary ≡ 0 = versions_while_learning i startable mode [] (later ++ made ∷ earlier) lawful in
    let before : (binary : List ℕ) → version_at i (made ∷ earlier) binary ≡ 0 = versions_while_learning i startable mode later (made ∷ earlier) lawful in
    read_permits_made permits_made once env i startable texts (no_replies env i mode) (λ other. absurd (other mode)) w later earlier t q call regs args ids result changes
    (unasked_as_read i.policies (version_at i (later ++ made ∷ earlier)) (none_asks env i.policies.read learns w) now)
    (λ binary. now binary ∙ sym (before binary))
    lawful few
