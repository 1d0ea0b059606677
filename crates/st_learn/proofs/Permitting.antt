-- The policies with the session's filters permit what the run has made.
use Rattle.std.proofs.Common.{◌≡◌, ◌≢◌, ◌∙◌, ◌++◌, ◌&&◌, ◌||◌, ℕ, Bool, true, false, cond, not, List, [], ◌∷◌, map, filter, Option, Some, None, refl, ap, sym, true≢false}
use Rattle.std.proofs.lemmas.Bool.{and_parts, or_parts}
use Rattle.std.proofs.lemmas.Cmp.{nat_list_eq_equiv}
use Rattle.std.proofs.lemmas.Option.{same_Some}
use Rattle.std.specs.List.{list_any}
use Rattle.std.specs.Str.{bytes_eq}
use Rattle.st_base.specs.Numbered.{item_at_number}
use Rattle.st_base.specs.declared.ids.Ids.{Ids}
use Rattle.st_calls.proofs.Rules.{same_rule-Decides}
use Rattle.st_calls.specs.declared.argument.ArgText.{ArgText}
use Rattle.st_calls.specs.declared.call.SysCall.{SysCall}
use Rattle.st_calls.specs.declared.judged.Snapshot.{Snapshot}
use Rattle.st_calls.specs.declared.judged.Verdict.{Verdict}
use Rattle.st_calls.specs.declared.judged.Verdict.TheVariants.{Permit, Unmatched}
use Rattle.st_calls.specs.declared.rule.Rule.{Rule}
use Rattle.st_filter.specs.Formula.{FilterValue}
use Rattle.st_filter.specs.Policies.{filters_in_force, is_for, is_of_binary, with_binary}
use Rattle.st_filter.specs.declared.set.BinaryPolicy.{BinaryPolicy}
use Rattle.st_filter.specs.declared.filter.FilterName.{FilterName}
use Rattle.st_filter.specs.declared.filter.FilterName.TheVariants as name
use Rattle.st_filter.specs.declared.set.Reply.{Reply}
use Rattle.st_trace.specs.declared.entry.CallResult.{CallResult}
use Rattle.st_trace.specs.declared.entry.Change.{Change}
use Rattle.st_trace.specs.declared.entry.Entry.TheVariants.{Stored, Entered, Claimed, Copied, Looked, Faulted, Answered, Used, Denied, Ended, Replied, Learned, Reloaded}
use Rattle.st_law.specs.declared.input.Input.{Input}
use Rattle.st_law.specs.History.{changed_at, looking_back, message_at, session_at}
use Rattle.st_law.specs.Lawful.{IsLawfulBack, IsReplied, IsUsedHeld}
use Rattle.st_law.specs.Sessions.{SessionFilter, decision, is_reply_for, learnt_by, replied_by, session_filters, with_binaries}
use Rattle.st_law.specs.State.{decision_in, snapshot_of_message}
use Rattle.st_law.specs.Threads.{History}
use Rattle.st_law.specs.Versions.{version_at, with_binary_of}
use Rattle.st_law.proofs.Growth.{session_append}
use Rattle.st_law.proofs.Standing.{decision_append, session_grows}
use Rattle.st_learn.specs.Learnt.{AreChanged, HaveSameVersions, NoneAsksInForce, filters_added, learnt_in}
use Rattle.st_learn.specs.Permitted.{IsPermittedBy}
use Rattle.st_learn.specs.Sessions.{is_filter_for}
use Rattle.st_learn.proofs.Binaries.{known_one}
use Rattle.st_learn.proofs.Deciding.{AreOwn, decides_by}

-- ---- each filter of a session is for its own rule

own_append : (session more : List SessionFilter) → AreOwn session → AreOwn more → AreOwn (session ++ more)
own_append [] more x y = y
own_append (kept ∷ session) more x y = (x.0, own_append session more x.1 y)

learnt_own : (o : Option Snapshot) → AreOwn (learnt_by o)
learnt_own None = tt
learnt_own (Some s) = (refl, tt)

named : (rule : Rule) (n : FilterName) → is_for rule n ≡ true → n ≡ name.Rule rule
named rule (name.Rule other) e = ap name.Rule ((same_rule-Decides other rule).0 e)
named rule (name.Other other) e = cc

replied_own : (policy : List ℕ) (rule : Rule) (r : Option Reply) (o : Option Snapshot) (left : Bool) → (is_reply_for policy rule r && left) ≡ true → ((s : Snapshot) → o ≡ Some s → s.rule ≡ rule) → AreOwn (replied_by r o)
replied_own policy rule None o left e same = tt
replied_own policy rule (Some reply) None left e same = tt
replied_own policy rule (Some reply) (Some s) left e same =
    let both = and_parts (bytes_eq reply.binary policy && is_for rule reply.filter.name) left e in
    (named rule reply.filter.name (and_parts (bytes_eq reply.binary policy) (is_for rule reply.filter.name) both.0).1 ∙ ap name.Rule (sym (same s refl)), tt)

session_own : (i : Input) (h : History) → IsLawfulBack i h → AreOwn (session_at i h)
session_own i [] lawful = tt
session_own i (Learned q n ∷ h) lawful = own_append (session_at i h) (learnt_by (snapshot_of_message q (message_at i h q))) (session_own i h lawful.1) (learnt_own (snapshot_of_message q (message_at i h q)))
session_own i (Replied q reply n ∷ h) lawful =
    let y : IsReplied i (looking_back i h) q reply n = lawful.0 in
    own_append (session_at i h) (replied_by (item_at_number i.replies reply) (snapshot_of_message q (message_at i h q))) (session_own i h lawful.1)
    (replied_own y.copies.policy y.copies.rule (item_at_number i.replies reply) (snapshot_of_message q (message_at i h q)) (not ((looking_back i h).replied reply)) y.there
    (λ s is. ap (λ (c : Snapshot). c.rule) (same_Some s y.copies (sym is ∙ y.asked.copies))))
session_own i (Stored u place word ∷ h) lawful = session_own i h lawful.1
session_own i (Entered u call regs way ∷ h) lawful = session_own i h lawful.1
session_own i (Claimed w p ∷ h) lawful = session_own i h lawful.1
session_own i (Copied p part place word ∷ h) lawful = session_own i h lawful.1
session_own i (Looked p part name seen ∷ h) lawful = session_own i h lawful.1
session_own i (Faulted p errno ∷ h) lawful = session_own i h lawful.1
session_own i (Answered w s v applied ∷ h) lawful = session_own i h lawful.1
session_own i (Used u seq call regs args ids result changes ∷ h) lawful = session_own i h lawful.1
session_own i (Denied u seq errno cause ∷ h) lawful = session_own i h lawful.1
session_own i (Ended u ∷ h) lawful = session_own i h lawful.1
session_own i (Reloaded u n done changes ∷ h) lawful = session_own i h lawful.1

-- ---- a binary that isn't among those that were changed has the policy that was read, and no filters of the session

none_added : (session : List SessionFilter) (b : List ℕ) → list_any (λ kept. bytes_eq b kept.policy) session ≡ false → filters_added session b ≡ []
none_added [] b none = refl
none_added (kept ∷ session) b none = by (is_filter_for b kept) (nat_list_eq_equiv.symm kept.policy b) none (none_added session b) where
  by : (t : Bool) → t ≡ bytes_eq b kept.policy → (bytes_eq b kept.policy || list_any (λ each. bytes_eq b each.policy) session) ≡ false → (list_any (λ each. bytes_eq b each.policy) session ≡ false → filters_added session b ≡ [])
      → map (λ (each : SessionFilter). each.filter) (cond t (kept ∷ filter (is_filter_for b) session) (filter (is_filter_for b) session)) ≡ []
  by true same none later = absurd (true≢false (same ∙ (or_parts (bytes_eq b kept.policy) (list_any (λ each. bytes_eq b each.policy) session) none).0))
  by false same none later = later (or_parts (bytes_eq b kept.policy) (list_any (λ each. bytes_eq b each.policy) session) none).1

-- with the binaries of filters, binaries have those and what they had
known_more : (kept : List SessionFilter) (bs : List (List ℕ)) (b : List ℕ) → list_any (bytes_eq b) (with_binaries bs kept) ≡ false → (list_any (bytes_eq b) bs ≡ false) × (list_any (λ each. bytes_eq b each.policy) kept ≡ false)
known_more [] bs b none = (none, refl)
known_more (each ∷ kept) bs b none =
    let later = known_more kept (with_binary bs each.policy) b none in
    let parts = or_parts (list_any (bytes_eq b) bs) (bytes_eq b each.policy) (sym (known_one bs each.policy b) ∙ later.0) in
    (parts.0, λ k. parts.1 k || later.1 k)

added_more : (session more : List SessionFilter) (b : List ℕ) → filters_added session b ≡ [] → filters_added more b ≡ [] → filters_added (session ++ more) b ≡ []
added_more [] more b none rest = rest
added_more (kept ∷ session) more b none rest = by (is_filter_for b kept) none (added_more session more b) where
  by : (t : Bool) → map (λ (each : SessionFilter). each.filter) (cond t (kept ∷ filter (is_filter_for b) session) (filter (is_filter_for b) session)) ≡ [] → (filters_added session b ≡ [] → filters_added more b ≡ [] → filters_added (session ++ more) b ≡ [])
      → map (λ (each : SessionFilter). each.filter) (cond t (kept ∷ filter (is_filter_for b) (session ++ more)) (filter (is_filter_for b) (session ++ more))) ≡ []
  by true none later = cc
  by false none later = later none rest

gain_changed : (changed : List (List ℕ)) (versions : List ℕ → ℕ) (session more : List SessionFilter) → AreChanged changed versions session → AreChanged (with_binaries changed more) versions (session ++ more)
gain_changed changed versions session more are = record {
  versions_stay = λ b none. are.versions_stay b (known_more more changed b none).0;
  filters_stay = λ b none. let parts = known_more more changed b none in added_more session more b (are.filters_stay b parts.0) (none_added more b parts.1);
}

reload_changed : (changed : List (List ℕ)) (versions : List ℕ → ℕ) (session : List SessionFilter) (n : ℕ) (done : Bool) (o : Option BinaryPolicy) → AreChanged changed versions session
    → AreChanged (cond done (with_binary_of changed o) changed) (λ b. cond (done && is_of_binary o b) n (versions b)) session
reload_changed changed versions session n false o are = are
reload_changed changed versions session n true None are = are
reload_changed changed versions session n true (Some block) are = record {
  versions_stay = λ b none. let parts = apart b none in (λ k. cond ((nat_list_eq_equiv.symm block.binary b ∙ parts.1) k) n (versions b)) ∙ are.versions_stay b parts.0;
  filters_stay = λ b none. are.filters_stay b (apart b none).0;
} where
  apart : (b : List ℕ) → list_any (bytes_eq b) (with_binary changed block.binary) ≡ false → (list_any (bytes_eq b) changed ≡ false) × (bytes_eq b block.binary ≡ false)
  apart b none = or_parts (list_any (bytes_eq b) changed) (bytes_eq b block.binary) (sym (known_one changed block.binary b) ∙ none)

pub changed_is : (i : Input) (h : History) → AreChanged (changed_at i h) (version_at i h) (session_at i h)
changed_is i [] = record { versions_stay = λ b none. refl; filters_stay = λ b none. refl }
changed_is i (Learned q n ∷ h) = gain_changed (changed_at i h) (version_at i h) (session_at i h) (learnt_by (snapshot_of_message q (message_at i h q))) (changed_is i h)
changed_is i (Replied q reply n ∷ h) = gain_changed (changed_at i h) (version_at i h) (session_at i h) (replied_by (item_at_number i.replies reply) (snapshot_of_message q (message_at i h q))) (changed_is i h)
changed_is i (Reloaded u n done changes ∷ h) = reload_changed (changed_at i h) (version_at i h) (session_at i h) n done (item_at_number i.policies.blocks n) (changed_is i h)
changed_is i (Stored u place word ∷ h) = changed_is i h
changed_is i (Entered u call regs way ∷ h) = changed_is i h
changed_is i (Claimed w p ∷ h) = changed_is i h
changed_is i (Copied p part place word ∷ h) = changed_is i h
changed_is i (Looked p part name seen ∷ h) = changed_is i h
changed_is i (Faulted p errno ∷ h) = changed_is i h
changed_is i (Answered w s v applied ∷ h) = changed_is i h
changed_is i (Used u seq call regs args ids result changes ∷ h) = changed_is i h
changed_is i (Denied u seq errno cause ∷ h) = changed_is i h
changed_is i (Ended u ∷ h) = changed_is i h

-- ---- what was made

lawful_after : (i : Input) (later earlier : History) → IsLawfulBack i (later ++ earlier) → IsLawfulBack i earlier
lawful_after i [] earlier lawful = lawful
lawful_after i (e ∷ later) earlier lawful = lawful_after i later earlier lawful.1

decided : (v : Verdict) (n : ℕ) (ids : Ids) → v ≡ Permit n ids → v ≢ Unmatched
decided v n ids is none = clash (sym is ∙ none) where
  clash : Permit n ids ≡ Unmatched → ⊥
  clash e = cc

-- a decision stands while the session grows and the version of its policy stays
stands : (i : Input) (later earlier : History) (s : Snapshot) → version_at i (later ++ earlier) s.policy ≡ version_at i earlier s.policy → decision_in i (looking_back i earlier) s ≢ Unmatched
    → decision_in i (looking_back i (later ++ earlier)) s ≡ decision_in i (looking_back i earlier) s
stands i later earlier s same some =
    let grown = session_grows i later earlier in
    let force : List FilterValue = filters_in_force i.policies s.policy (version_at i earlier s.policy) s.rule in
    (λ k. decision (filters_in_force i.policies s.policy (same k) s.rule) (session_filters (grown.1 k) s.policy s.rule) s)
    ∙ ap (λ fs. decision force fs s) (session_append (session_at i earlier) grown.0 s.policy s.rule)
    ∙ decision_append force (session_filters (session_at i earlier) s.policy s.rule) (session_filters grown.0 s.policy s.rule) s some

-- what was made is permitted by the policies with the session's filters at the end of the run, if no policy was reloaded since
pub permits_made : (i : Input) (later earlier : History) (t q : ℕ) (call : SysCall) (regs : List ℕ) (args : List ArgText) (ids : Ids) (result : CallResult) (changes : List Change)
    → NoneAsksInForce i.policies (looking_back i (later ++ Used t (Some q) call regs args ids result changes ∷ earlier)).versions
    → HaveSameVersions (looking_back i earlier) (looking_back i (later ++ Used t (Some q) call regs args ids result changes ∷ earlier))
    → IsLawfulBack i (later ++ Used t (Some q) call regs args ids result changes ∷ earlier)
    → IsPermittedBy (learnt_in i (looking_back i (later ++ Used t (Some q) call regs args ids result changes ∷ earlier))) (looking_back i earlier) q ids
permits_made i later earlier t q call regs args ids result changes plain same lawful =
    let whole : History = later ++ Used t (Some q) call regs args ids result changes ∷ earlier in
    let here = lawful_after i later (Used t (Some q) call regs args ids result changes ∷ earlier) lawful in
    let y : IsUsedHeld i (looking_back i earlier) t q call regs args ids result changes = here.0 in
    let s : Snapshot = y.copies in
    let so : decision_in i (looking_back i (Used t (Some q) call regs args ids result changes ∷ earlier)) s ≡ Permit y.permitted.filter ids = y.permitted.permitted in
    record {
      copies = s;
      there = y.permitted.judged.copies;
      filter = y.permitted.filter;
      permitted =
          decides_by i.policies (version_at i whole) (changed_at i whole) (session_at i whole) s plain (changed_is i whole) (session_own i whole lawful)
          ∙ stands i later (Used t (Some q) call regs args ids result changes ∷ earlier) s (same s.policy) (decided (decision_in i (looking_back i (Used t (Some q) call regs args ids result changes ∷ earlier)) s) y.permitted.filter ids so)
          ∙ so;
    }
