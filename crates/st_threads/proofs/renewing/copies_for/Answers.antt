use native.Mathlib.Omega.{arith}
use Rattle.std.proofs.Common.{◌≡◌, ◌≤◌, ◌<◌, ◌+◌, ◌-◌, ◌∙◌, ◌∷◌, ℕ, suc, List, ap, drop, length, sym}
use Rattle.std.proofs.lemmas.List.{drop_more}
use Rattle.std.proofs.lemmas.List.Elements.{All-nil, All-same}
use Rattle.std.proofs.Math.ListN.{drop_of_length-le}
use Rattle.st_lookaside.specs.Need.{IsShort}
use Rattle.st_threads.specs.Renewing.{calls_from, cwds_of, pids_of}
use Rattle.st_threads.specs.Thread.{ThreadRow}
use Rattle.st_threads.proofs.Planned.{few_cwds, next_copied}
use Rattle.st_threads.proofs.renewing.copies_for.Goals as goal

pub loop-i-init : goal.loop-i-init
loop-i-init c =
    let processes = c.args.system.now.processes in
    let pids = pids_of processes c.args.which in
    let rows : List ThreadRow = c.args.threads.now in
    let all : length rows ≤ length rows = omega arith in
    record {
      within = all;
      copied = c.new-cwds.ensures.items ∙ ap (λ (l : List ThreadRow). cwds_of processes (calls_from pids (suc (length rows)) l)) (sym (drop_of_length-le rows {i = length rows} all));
      short = All-same IsShort c.new-cwds.result.items _ c.new-cwds.ensures.items (All-nil IsShort);
    }

pub loop-i-preserved : goal.loop-i-preserved
loop-i-preserved c =
    let processes = c.args.system.now.processes in
    let pids = pids_of processes c.args.which in
    let rows : List ThreadRow = c.args.threads.now in
    let inside : c.loop-i.i - 1 < length rows = omega (arith, c.loop-i.invariant.within, c.loop-i-test.true) in
    let last : c.loop-i.i ≡ c.loop-i.i - 1 + 1 = omega (arith, c.loop-i-test.true) in
    record {
      within = omega (arith, inside);
      copied = next_copied processes pids rows (c.loop-i.i - 1) c.loop-i.i last c.index-threads-i.result
          (drop_more rows (c.loop-i.i - 1) c.index-threads-i.result inside ∙ ap (λ (row : ThreadRow). row ∷ drop (c.loop-i.i - 1 + 1) rows) (sym c.index-threads-i.is))
          c.call_renewed-call.result c.call_renewed-call.ensures.call c.loop-i.cwds.items c.add_copy.new.cwds.items c.in_ok-add_copy.ensures.cwds c.loop-i.invariant.copied;
      short = c.in_ok-add_copy.ensures.short c.loop-i.invariant.short;
    }

pub returns-clause-cwds : goal.returns-clause-cwds
returns-clause-cwds c =
    let processes = c.args.system.now.processes in
    let pids = pids_of processes c.args.which in
    let none : c.loop-i.i ≡ 0 = omega (arith, c.loop-i-test.false) in
    c.loop-i.invariant.copied ∙ ap (λ (n : ℕ). cwds_of processes (calls_from pids (suc n) (drop n c.args.threads.now))) none

pub returns-clause-few : goal.returns-clause-few
returns-clause-few c =
    let copied = ap length (returns-clause-cwds c) in
    let most = few_cwds c.args.system.now.processes (pids_of c.args.system.now.processes c.args.which) 1 c.args.threads.now in
    omega (arith, copied, most)

pub returns-clause-short : goal.returns-clause-short
returns-clause-short c = c.loop-i.invariant.short
