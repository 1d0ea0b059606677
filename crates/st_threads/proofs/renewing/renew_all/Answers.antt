use native.Mathlib.Omega.{arith}
use Rattle.std.proofs.Common.{◌≡◌, ◌∙◌, ◌+◌, ◌<◌, ◌∷◌, List, ℕ, ap, drop, get_or, length, refl, set, subst, sym}
use Rattle.std.proofs.lemmas.List.{drop_more}
use Rattle.std.proofs.lemmas.Option.{same_Some, slice_get-get_or}
use Rattle.st_threads.specs.Renewing.{pids_of, row_renewed, RenewsIf}
use Rattle.st_threads.specs.Thread.{ThreadRow}
use Rattle.st_threads.proofs.Renewed.{RenewedSoFar, all_numbered, all_renewed, next_cwd, next_lives, next_renewed, next_room, none_so_far}
use Rattle.st_threads.proofs.renewing.renew_all.Goals as goal

pub loop-i-init : goal.loop-i-init
loop-i-init c = record {
  so_far = none_so_far c.args.system.now.processes (pids_of c.args.system.now.processes c.args.which) c.args.plan.version c.args.threads.now c.args.workers.now c.args.plan.cwds.items c.args.plan.changes.items c.requires.calls c.requires.room c.requires.in_use c.requires.cwds;
  version = refl;
  short = c.requires.short;
  space = c.requires.space;
}

inside : (c : goal.After-plan-1) → c.loop-i.i < length c.loop-i.threads
inside c = let end = c.loop-i-test.true in let same = c.loop-i.auto.threads in omega (arith, end, same)

abbrev row : goal.After-plan-1 → ThreadRow
row c = get_or c.loop-i.threads c.loop-i.i c.index-threads-i.result

here : (c : goal.After-plan-1) → drop c.loop-i.i c.loop-i.threads ≡ row c ∷ drop (c.loop-i.i + 1) c.loop-i.threads
here c = drop_more c.loop-i.threads c.loop-i.i c.index-threads-i.result (inside c)

pub renew_call-requires-clause-live : goal.renew_call-requires-clause-live
renew_call-requires-clause-live c = next_lives c.args.system.now.processes (pids_of c.args.system.now.processes c.args.which) c.args.plan.version c.args.threads.now c.args.workers.now c.loop-i.i c.loop-i.threads c.loop-i.workers c.loop-i.plan.cwds.items c.args.plan.changes.items c.loop-i.plan.changes.items c.loop-i.invariant.so_far
    (row c) (inside c) (here c) c.call_renewed-call.result c.call_renewed-call.ensures.call

pub renew_call-requires-clause-room : goal.renew_call-requires-clause-room
renew_call-requires-clause-room c = next_room c.args.system.now.processes (pids_of c.args.system.now.processes c.args.which) c.args.plan.version c.args.threads.now c.args.workers.now c.loop-i.i c.loop-i.threads c.loop-i.workers c.loop-i.plan.cwds.items c.args.plan.changes.items c.loop-i.plan.changes.items c.loop-i.invariant.so_far
    (row c) (inside c) (here c) c.call_renewed-call.result c.call_renewed-call.ensures.call

pub renew_call-requires-clause-cwds : goal.renew_call-requires-clause-cwds
renew_call-requires-clause-cwds c = (
  _,
  next_cwd c.args.system.now.processes (pids_of c.args.system.now.processes c.args.which) c.args.plan.version c.args.threads.now c.args.workers.now c.loop-i.i c.loop-i.threads c.loop-i.workers c.loop-i.plan.cwds.items c.args.plan.changes.items c.loop-i.plan.changes.items c.loop-i.invariant.so_far
      (row c) (inside c) (here c) c.call_renewed-call.result c.call_renewed-call.ensures.call,
)

pub renew_call-requires-clause-few : goal.renew_call-requires-clause-few
renew_call-requires-clause-few c = c.loop-i.invariant.so_far.few

pub renew_call-requires-clause-short : goal.renew_call-requires-clause-short
renew_call-requires-clause-short c = c.loop-i.invariant.short

pub renew_call-requires-clause-space : goal.renew_call-requires-clause-space
renew_call-requires-clause-space c = c.loop-i.invariant.space

-- the thread that is tested is the thread whose call gets a number
same_row : (rows : List ThreadRow) (i : ℕ) (a b : ThreadRow) → i < length rows → get_or rows i a ≡ get_or rows i b
same_row rows i a b inside = same_Some (get_or rows i a) (get_or rows i b) (sym (slice_get-get_or rows i a inside) ∙ slice_get-get_or rows i b inside)

pub loop-i-preserved : goal.loop-i-preserved
loop-i-preserved c =
    let within : c.loop-i.i < length c.loop-i.threads = let end = c.loop-i-test.true in let same = c.loop-i.auto.threads in omega (arith, end, same) in
    let it = get_or c.loop-i.threads c.loop-i.i c.index-threads-i.result in
    let there = drop_more c.loop-i.threads c.loop-i.i c.index-threads-i.result within in
    let processes = c.args.system.now.processes in
    let same = same_row c.loop-i.threads c.loop-i.i c.index-threads-i.result c.index-threads-i-in-loop-i.result within in
    record {
      so_far = subst (λ (row : ThreadRow). RenewedSoFar processes (pids_of processes c.args.which) c.args.plan.version c.args.threads.now c.args.workers.now (c.loop-i.i + 1) (set c.loop-i.threads c.loop-i.i row) c.renew_call.new.workers c.renew_call.new.plan.cwds.items c.args.plan.changes.items c.renew_call.new.plan.changes.items)
          (ap (row_renewed c.loop-i.workers.calls.next c.call_renewed-call.result) same ∙ sym c.renew_call.ensures.thread)
          (next_renewed c.args.system.now.processes (pids_of c.args.system.now.processes c.args.which) c.args.plan.version c.args.threads.now c.args.workers.now c.loop-i.i c.loop-i.threads c.loop-i.workers c.loop-i.plan.cwds.items c.args.plan.changes.items c.loop-i.plan.changes.items c.loop-i.invariant.so_far
          it within there c.call_renewed-call.result c.call_renewed-call.ensures.call c.renew_call.new.workers (subst (λ (version : ℕ). RenewsIf processes version c.call_renewed-call.result c.loop-i.workers c.renew_call.new.workers) c.loop-i.invariant.version c.renew_call.ensures.kept) c.renew_call.new.plan.cwds.items c.renew_call.ensures.cwds c.renew_call.ensures.few c.renew_call.ensures.ready c.renew_call.ensures.numbers
          c.renew_call.new.plan.changes.items c.renew_call.ensures.changes);
      version = c.renew_call.ensures.version ∙ c.loop-i.invariant.version;
      short = c.renew_call.ensures.short;
      space = c.renew_call.ensures.space;
    }

pub returns-clause-renewed : goal.returns-clause-renewed
returns-clause-renewed c = all_renewed c.args.system.now.processes (pids_of c.args.system.now.processes c.args.which) c.args.plan.version c.args.threads.now c.args.workers.now c.loop-i.i c.loop-i.threads c.loop-i.workers c.loop-i.plan.cwds.items c.args.plan.changes.items c.loop-i.plan.changes.items c.loop-i.invariant.so_far (let past = c.loop-i-test.false in let same = c.loop-i.auto.threads in omega (arith, past, same))

pub returns-clause-changes : goal.returns-clause-changes
returns-clause-changes c =
    let all = all_numbered c.args.system.now.processes (pids_of c.args.system.now.processes c.args.which) c.args.plan.version c.args.threads.now c.args.workers.now c.loop-i.i c.loop-i.threads c.loop-i.workers c.loop-i.plan.cwds.items c.args.plan.changes.items c.loop-i.plan.changes.items c.loop-i.invariant.so_far (let past = c.loop-i-test.false in let same = c.loop-i.auto.threads in omega (arith, past, same)) in
    (all.0, all.1, all.2)
