-- The invariants of the parts hold after each step.
use Rattle.std.proofs.Common.{◌≡◌, ◌∙◌, ◌==◌, ℕ, Bool, true, false, cond, refl, ap, subst, sym, Option, Some, None}
use Rattle.std.proofs.lemmas.Cmp.{nat_cmp_total}
use Rattle.std.specs.List.{All}
use Rattle.std.specs.Option.{option_map}
use Rattle.std.specs.Ordering.{nat_cmp}
use Rattle.st_fds.specs.Table.{KeepsTables}
use Rattle.st_memory.specs.Memory.{Memories, is_space_live, KeepsSpaces}
use Rattle.st_model.specs.DescriptorCalls.{table_after_close_all}
use Rattle.st_model.specs.Descriptors.{Table}
use Rattle.st_model.specs.Processes.{Processes, StartedThread, IsPid, process_at, processes_after_end, processes_after_end_at, thread_at}
use Rattle.st_model.proofs.Ordered.{sorted-insert_entry}
use Rattle.st_procs.specs.Laws.{AreOrdered, ThreadEnds}
use Rattle.st_request.specs.Ready.{IsValidOpenFile}
use Rattle.st_system.specs.System.{HasOwner, IsValidSystem, Parts}
use Rattle.st_system.proofs.Short.{IsShort}

-- memory is written, and no space is made or given up
pub whole_memory : (parts : Parts) (new : Memories) → IsValidSystem parts → KeepsSpaces parts.memories new
    → IsValidSystem (record { tree = parts.tree; descriptors = parts.descriptors; processes = parts.processes; memories = new })
whole_memory parts new x keeps = record {
  ordered = x.ordered;
  owners = x.owners;
  ready = λ p is. let r = x.ready p is in record { table = r.table; process = r.process; space = keeps.1 (process_at parts.processes p).space ∙ r.space; real = r.real };
  tables = x.tables;
  apart = x.apart;
  short = x.short;
}

-- ---- the end of a thread

ordered_end : (processes : Processes) (t : ℕ) (o : Option StartedThread) → AreOrdered processes → AreOrdered (processes_after_end_at processes t o)
ordered_end processes t None ordered = ordered
ordered_end processes t (Some thread) ordered = sorted-insert_entry nat_cmp nat_cmp_total processes.threads t (record thread { ended = true }) ordered

rows_end : (processes : Processes) (t : ℕ) (o : Option StartedThread) → (processes_after_end_at processes t o).rows ≡ processes.rows
rows_end processes t None = refl
rows_end processes t (Some thread) = refl

-- the rows of processes are unchanged
pub rows_stay : (processes : Processes) (t : ℕ) → (processes_after_end processes t).rows ≡ processes.rows
rows_stay processes t = rows_end processes t (thread_at processes t)

owner_ended : (processes new : Processes) → new.rows ≡ processes.rows → (b : Bool) (o mine : Option StartedThread) → HasOwner processes o → (b ≡ true → HasOwner processes mine)
    → HasOwner new (cond b (option_map (λ (thread : StartedThread). record thread { ended = true }) mine) o)
owner_ended processes new rows true o None x y = tt
owner_ended processes new rows true o (Some thread) x y = subst (λ rows. IsPid (record { rows = rows; threads = new.threads }) thread.pid) (sym rows) (y refl)
owner_ended processes new rows false None mine x y = tt
owner_ended processes new rows false (Some thread) mine x y = subst (λ rows. IsPid (record { rows = rows; threads = new.threads }) thread.pid) (sym rows) x

files_of : (parts : Parts) (p : ℕ) (r : Bool) (new : Table) → new ≡ cond r (table_after_close_all parts.descriptors p) parts.descriptors → new.files ≡ parts.descriptors.files
files_of parts p true new is = ap (λ (t : Table). t.files) is
files_of parts p false new is = ap (λ (t : Table). t.files) is

pub whole_end : (parts : Parts) (t p : ℕ) (r : Bool) (new : Processes) (table : Table) → IsValidSystem parts → new ≡ processes_after_end parts.processes t → ThreadEnds parts.processes t new
    → table ≡ cond r (table_after_close_all parts.descriptors p) parts.descriptors → KeepsTables parts.descriptors table
    → IsValidSystem (record { tree = parts.tree; descriptors = table; processes = new; memories = parts.memories })
whole_end parts t p r new table x is ends is_table keeps =
    let rows : new.rows ≡ parts.processes.rows = ap (λ (q : Processes). q.rows) is ∙ rows_stay parts.processes t in
    let back : (q : ℕ) → IsPid new q → IsPid parts.processes q = λ q there. subst (λ rows. IsPid (record { rows = rows; threads = new.threads }) q) rows there in
    let same_space : (q : ℕ) → (process_at parts.processes q).space ≡ (process_at new q).space = λ q. ap (λ rows. (process_at (record { rows = rows; threads = new.threads }) q).space) (sym rows) in
    let now : (q : ℕ) → IsPid parts.processes q → IsPid new q = λ q there. subst (λ rows. IsPid (record { rows = rows; threads = new.threads }) q) (sym rows) there in
    record {
      ordered = subst AreOrdered (sym is) (ordered_end parts.processes t (thread_at parts.processes t) x.ordered);
      owners = λ u. subst (HasOwner new) (sym (ends u)) (owner_ended parts.processes new rows (u == t) (thread_at parts.processes u) (thread_at parts.processes t) (x.owners u) (λ e. x.owners t));
      ready = λ q there. let before = x.ready q (back q there) in record {
        table = keeps q ∙ before.table;
        process = there;
        space = ap (λ rows. is_space_live parts.memories (process_at (record { rows = rows; threads = new.threads }) q).space) rows ∙ before.space;
        real = subst (All (IsValidOpenFile parts.tree)) (sym (files_of parts p r table is_table)) before.real;
      };
      tables = λ q has. now q (x.tables q (sym (keeps q) ∙ has));
      apart = λ q r is other same. x.apart q r (back q is) (back r other) (same_space q ∙ same ∙ sym (same_space r));
      short = λ q. subst (λ rows. IsShort (process_at (record { rows = rows; threads = new.threads }) q).cwd) (sym rows) (x.short q);
    }
