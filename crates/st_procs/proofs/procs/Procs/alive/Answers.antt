use Rattle.std.proofs.Common.{◌≡◌, List, ap, sym, ◌∙◌, subst}
use Rattle.std.proofs.lemmas.Bool.{eq-eqb}
use Rattle.st_model.specs.Processes.{Processes}
use Rattle.st_base.specs.Numbered.{item_at_number_or}
use Rattle.st_procs.specs.Laws.{AreOrdered}
use Rattle.st_procs.specs.Rows.{thread_counts, counts_of, no_threads}
use Rattle.st_procs.specs.declared.rows.Row.{Row}
use Rattle.st_procs.proofs.Live.{ended_iff, live_begun, live_new}
use Rattle.st_procs.proofs.procs.Procs.alive.Goals as goal

pub returns-then-counts-eq0-clause-live : goal.returns-then-counts-eq0-clause-live
returns-then-counts-eq0-clause-live c =
    let p = c.args.self.now in
    let is : c.counts-counts.result ≡ thread_counts p.threads c.args.pid = c.counts-counts.ensures ∙ ap (λ (r : List Row). item_at_number_or no_threads (counts_of r) c.args.pid) c.deref.ensures.value ∙ c.self.invariant.counted c.args.pid ∙ ap (λ (p : Processes). thread_counts p.threads c.args.pid) c.self.view_is in
    eq-eqb c.counts-counts.result.begun 0 c.if-counts-eq0.true ∙ sym (live_new p c.args.pid c.counts-counts.result c.requires is c.if-counts-eq0.true)

pub returns-then-counts-eq0-clause-ended : goal.returns-then-counts-eq0-clause-ended
returns-then-counts-eq0-clause-ended c =
    let p = c.args.self.now in
    let is : c.counts-counts.result ≡ thread_counts p.threads c.args.pid = c.counts-counts.ensures ∙ ap (λ (r : List Row). item_at_number_or no_threads (counts_of r) c.args.pid) c.deref.ensures.value ∙ c.self.invariant.counted c.args.pid ∙ ap (λ (p : Processes). thread_counts p.threads c.args.pid) c.self.view_is in
    ended_iff p c.args.pid (subst AreOrdered c.self.view_is c.self.invariant.ordered) c.requires _
    (eq-eqb c.counts-counts.result.begun 0 c.if-counts-eq0.true ∙ sym (live_new p c.args.pid c.counts-counts.result c.requires is c.if-counts-eq0.true))

pub returns-else-counts-eq0-clause-live : goal.returns-else-counts-eq0-clause-live
returns-else-counts-eq0-clause-live c =
    let p = c.args.self.now in
    let is : c.counts-counts.result ≡ thread_counts p.threads c.args.pid = c.counts-counts.ensures ∙ ap (λ (r : List Row). item_at_number_or no_threads (counts_of r) c.args.pid) c.deref.ensures.value ∙ c.self.invariant.counted c.args.pid ∙ ap (λ (p : Processes). thread_counts p.threads c.args.pid) c.self.view_is in
    live_begun p c.args.pid c.counts-counts.result c.requires is c.if-counts-eq0.false

pub returns-else-counts-eq0-clause-ended : goal.returns-else-counts-eq0-clause-ended
returns-else-counts-eq0-clause-ended c =
    let p = c.args.self.now in
    let is : c.counts-counts.result ≡ thread_counts p.threads c.args.pid = c.counts-counts.ensures ∙ ap (λ (r : List Row). item_at_number_or no_threads (counts_of r) c.args.pid) c.deref.ensures.value ∙ c.self.invariant.counted c.args.pid ∙ ap (λ (p : Processes). thread_counts p.threads c.args.pid) c.self.view_is in
    ended_iff p c.args.pid (subst AreOrdered c.self.view_is c.self.invariant.ordered) c.requires _ (live_begun p c.args.pid c.counts-counts.result c.requires is c.if-counts-eq0.false)
