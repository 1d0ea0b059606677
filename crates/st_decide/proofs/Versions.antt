-- A live message is judged by the filters in force: its version is the one of its policy that is in force.
use Rattle.std.proofs.Common.{◌≡◌, ◌∙◌, ℕ, true, Some, ap, sym}
use Rattle.st_calls.specs.declared.judged.Snapshot.{Snapshot}
use Rattle.st_filter.specs.Judged.{verdict_under}
use Rattle.st_filter.specs.Judging.{verdict}
use Rattle.st_filter.specs.Policies.{filters_in_force}
use Rattle.st_law.specs.State.{State, is_live, read_at, snapshot_in}
use Rattle.st_law.specs.Messages.{Head}
use Rattle.st_law.proofs.ThreadSteps.{copies_of}
use Rattle.st_law.proofs.Whole.{live_head}
use Rattle.st_reached.specs.Reached.{IsHolding}
use Rattle.st_reached.proofs.Owning.{own_head}
use Rattle.st_decide.specs.Machine.{Refines, Running}
use Rattle.st_decide.proofs.Reached.{reached_of}

module _ (m : Running) (st : State) (is : Refines m st) (q : ℕ) (s : Snapshot) (live : is_live st q ≡ true) (there : snapshot_in st q ≡ Some s) where
  -- its copies have the version in force
  version_now : s.version ≡ st.versions s.policy
  version_now =
      let reached = reached_of m.input st is.reached in
      let posted : (head : Head) × ((st.messages q).head ≡ Some head) = live_head st q live in
      let holding : IsHolding st posted.0.tid q = reached.owned.own q posted.0 live posted.1 in
      let own = own_head st reached.owned m.input reached.whole.calls q posted.0 live posted.1 holding.entered holding.pending in
      let copy = copies_of st q posted.0 posted.1 s there in
      copy.version ∙ own.version_is ∙ ap st.versions (sym copy.policy)

  pub judged_now : verdict_under m.input.policies s ≡ verdict (read_at m.input st s.policy s.rule) s
  judged_now = ap (λ (n : ℕ). verdict (filters_in_force m.input.policies s.policy n s.rule) s) version_now
