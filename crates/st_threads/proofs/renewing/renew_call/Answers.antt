use Rattle.std.proofs.Common.{◌≡◌, ◌∷◌, ◌++◌, ◌∙◌, [], Bool, Option, Some, ℕ, true, ap, refl, subst, sym}
use Rattle.std.proofs.lemmas.List.{append-nil, same_from_push}
use Rattle.std.proofs.lemmas.List.Elements.{All-pop}
use Rattle.std.specs.Prelude.{IfSome}
use Rattle.st_lookaside.specs.Need.{IsShort}
use Rattle.st_lookaside.specs.declared.head.Renewal.{Renewal}
use Rattle.st_messages.specs.Messages.{is_live_drawing, seq_of}
use Rattle.st_model.specs.Processes.{process_at}
use Rattle.st_names.specs.Name.{Components}
use Rattle.st_threads.specs.Renewing.{numbers_after_renewals, renewals_from, with_call, AreNumberedFrom, RenewsIf, RenewsOne, TakesCwd}
use Rattle.st_threads.specs.declared.renewing.RenewedCall.{RenewedCall}
use Rattle.st_trace.specs.declared.entry.Change.TheVariants.{Renewed}
use Rattle.st_workers.specs.Numbers.{AreReady, CarriesNumbers}
use Rattle.st_workers.proofs.Numbered.{live_has_seq}
use Rattle.st_threads.proofs.Renewed.{one_numbered}
use Rattle.st_threads.proofs.renewing.renew_call.Goals as goal

pub seq-old-requires : goal.seq-old-requires
seq-old-requires c = live_has_seq c.args.workers.now.calls c.in-Some.call.drawing (subst (λ (o : Option RenewedCall). IfSome o (λ its. is_live_drawing c.args.workers.now.calls its.drawing ≡ true)) c.in-Some.is c.requires.live)

pub renew-requires-clause-short : goal.renew-requires-clause-short
renew-requires-clause-short c = (All-pop IsShort c.args.plan.now.cwds.items c.pop.new.self.items (Some c.in-Some-pop.cwd) c.in-Some-pop.ensures.items c.requires.short).1

pub returns-in-Some-pop-clause-short : goal.returns-in-Some-pop-clause-short
returns-in-Some-pop-clause-short c = (All-pop IsShort c.args.plan.now.cwds.items c.pop.new.self.items (Some c.in-Some-pop.cwd) c.in-Some-pop.ensures.items c.requires.short).0

-- the directory that was taken is that of the call's process
taken : (c : goal.After-push_reserved) → (c.pop.new.self.items ≡ c.requires.cwds.0) × (c.in-Some-pop.cwd ≡ (process_at c.args.system.now.processes c.in-Some.call.pid).cwd)
taken c =
    let takes : TakesCwd c.args.system.now.processes (Some c.in-Some.call) c.args.plan.now.cwds.items c.requires.cwds.0 =
    subst (λ (o : Option RenewedCall). TakesCwd c.args.system.now.processes o c.args.plan.now.cwds.items c.requires.cwds.0) c.in-Some.is c.requires.cwds.1 in
    same_from_push c.pop.new.self.items c.requires.cwds.0 c.in-Some-pop.cwd (process_at c.args.system.now.processes c.in-Some.call.pid).cwd (sym c.in-Some-pop.ensures.items ∙ takes)

pub returns-in-Some-pop-clause-kept : goal.returns-in-Some-pop-clause-kept
returns-in-Some-pop-clause-kept c =
    let processes = c.args.system.now.processes in
    let call = c.in-Some.call in
    subst (λ (o : Option RenewedCall). RenewsIf processes c.args.plan.now.version o c.args.workers.now c.renew.new.self) (sym c.in-Some.is)
    (subst (λ (renewal : Renewal). RenewsOne renewal call.drawing c.args.workers.now c.renew.new.self) (λ k. record { ids = c.ids.ensures k; cwd = (taken c).1 k; version = c.args.plan.now.version }) c.renew.ensures.kept)

pub returns-in-Some-pop-clause-numbers : goal.returns-in-Some-pop-clause-numbers
returns-in-Some-pop-clause-numbers c =
    subst (λ (o : Option RenewedCall). (ready : ℕ → Bool) → AreReady ready c.args.workers.now → CarriesNumbers (numbers_after_renewals ready (renewals_from c.args.workers.now.calls.next (with_call o []))) c.args.workers.now.calls c.renew.new.self.calls)
    (sym c.in-Some.is) c.renew.ensures.numbers

pub returns-in-Some-pop-clause-cwds : goal.returns-in-Some-pop-clause-cwds
returns-in-Some-pop-clause-cwds c =
    subst (λ (o : Option RenewedCall). TakesCwd c.args.system.now.processes o c.args.plan.now.cwds.items c.pop.new.self.items) (sym c.in-Some.is)
    (c.in-Some-pop.ensures.items ∙ ap (λ (cwd : Components). c.pop.new.self.items ++ cwd ∷ []) (taken c).1)

pub returns-in-Some-pop-clause-changes : goal.returns-in-Some-pop-clause-changes
returns-in-Some-pop-clause-changes c = (
  Renewed c.seq-old.result c.next_seq-new.result ∷ [],
  c.push_reserved.ensures.items,
  subst (λ (o : Option RenewedCall). AreNumberedFrom c.args.workers.now (renewals_from c.args.workers.now.calls.next (with_call o [])) (Renewed c.seq-old.result c.next_seq-new.result ∷ [])) (sym c.in-Some.is)
      (one_numbered c.args.workers.now c.renew.new.self c.in-Some.call c.seq-old.result c.next_seq-new.result c.seq-old.ensures.given c.seq-old.ensures.seq
      (ap (seq_of c.renew.new.self.calls) (sym c.renew.ensures.drawing) ∙ c.renew.ensures.seq ∙ ap Some (sym c.next_seq-new.ensures)) c.renew.ensures.numbers),
)

pub returns-in_default-clause-changes : goal.returns-in_default-clause-changes
returns-in_default-clause-changes c = (
  [],
  sym (append-nil c.args.plan.now.changes.items),
  subst (λ (o : Option RenewedCall). AreNumberedFrom c.args.workers.now (renewals_from c.args.workers.now.calls.next (with_call o [])) []) (sym c.in_default.is) (λ ready are law has. refl),
)
