-- The bodies of a script's threads, one after the other, are the instructions of its lines.
use Rattle.std.proofs.Common.{◌≡◌, true, if◌then◌else◌, List, [], ◌∷◌, ◌++◌, Option, Some, None, refl, ap, ◌∙◌, append_assoc}
use Rattle.std.specs.List.{flat_map}
use Rattle.std.specs.Prelude.{IfSome}
use Rattle.st_script_faults.specs.Faults.{is_end}
use Rattle.st_script_names.specs.Names.{Name}
use Rattle.st_statements.specs.Statements.{body_after}
use Rattle.st_statements.specs.declared.statement.OpenBody.{OpenBody}
use Rattle.st_statements.specs.declared.statement.OpenBody.TheVariants.{NoBody, ThreadBody, PolicyBody}
use Rattle.st_statements.specs.declared.statement.ScriptLine.{ScriptLine}
use Rattle.st_statements.specs.declared.statement.Statement.{Statement}
use Rattle.st_statements.specs.declared.statement.Statement.TheVariants as says
use Rattle.st_trace.specs.declared.start.Instr.{Instr}
use Rattle.st_trace.specs.declared.start.ThreadRow.{ThreadRow}
use Rattle.st_script.specs.Reading.{BodyNames, body_in, instructions_said, thread_said, threads_in}
use Rattle.st_script.proofs.Counted.{threads_with}
use Rattle.st_script.proofs.Said.{ArePlaced, kind_of, stands_in}

-- the instructions of all bodies
abbrev pub all_bodies : List ThreadRow → List Instr
all_bodies rows = flat_map (λ row. row.body) rows

-- the instructions of all lines
abbrev pub all_said : BodyNames → List ScriptLine → List Instr
all_said ts lines = flat_map (λ line. instructions_said ts line.says) lines

-- the instructions that lines add to the thread whose body they begin in
abbrev begun : OpenBody → List Instr → List Instr
begun ThreadBody body = body
begun NoBody body = []
begun PolicyBody body = []

inside_by : (here body others below : List Instr) → body ++ others ≡ below → (here ++ body) ++ others ≡ here ++ below
inside_by here body others below ih = append_assoc here body others ∙ ap (λ xs. here ++ xs) ih

placed_by : (ps : List Name) (ts : BodyNames) (body : OpenBody) (o : Option Statement) (lines : List ScriptLine) → IfSome o (λ s. stands_in body (kind_of s) ≡ true) →
    begun (body_after body o) (body_in ts lines) ++ all_bodies (threads_in ps ts lines) ≡ all_said ts lines →
    begun body (if is_end o then [] else instructions_said ts o ++ body_in ts lines) ++ all_bodies (threads_with ps ts lines (thread_said o)) ≡ instructions_said ts o ++ all_said ts lines
placed_by ps ts ThreadBody None lines is ih = ih
placed_by ps ts ThreadBody (Some (says.Store place word)) lines is ih = inside_by (instructions_said ts (Some (says.Store place word))) (body_in ts lines) (all_bodies (threads_in ps ts lines)) (all_said ts lines) ih
placed_by ps ts ThreadBody (Some (says.Put place bytes)) lines is ih = inside_by (instructions_said ts (Some (says.Put place bytes))) (body_in ts lines) (all_bodies (threads_in ps ts lines)) (all_said ts lines) ih
placed_by ps ts ThreadBody (Some (says.Call call regs)) lines is ih = inside_by (instructions_said ts (Some (says.Call call regs))) (body_in ts lines) (all_bodies (threads_in ps ts lines)) (all_said ts lines) ih
placed_by ps ts ThreadBody (Some (says.Fork name)) lines is ih = inside_by (instructions_said ts (Some (says.Fork name))) (body_in ts lines) (all_bodies (threads_in ps ts lines)) (all_said ts lines) ih
placed_by ps ts ThreadBody (Some (says.Reload name)) lines is ih = inside_by (instructions_said ts (Some (says.Reload name))) (body_in ts lines) (all_bodies (threads_in ps ts lines)) (all_said ts lines) ih
placed_by ps ts ThreadBody (Some says.End) lines is ih = ih
placed_by ps ts ThreadBody (Some s) lines is ih = absurd (cc)
placed_by ps ts NoBody None lines is ih = ih
placed_by ps ts NoBody (Some (says.Filter text)) lines is ih = absurd (cc)
placed_by ps ts NoBody (Some (says.Store place word)) lines is ih = absurd (cc)
placed_by ps ts NoBody (Some (says.Put place bytes)) lines is ih = absurd (cc)
placed_by ps ts NoBody (Some (says.Call call regs)) lines is ih = absurd (cc)
placed_by ps ts NoBody (Some (says.Fork name)) lines is ih = absurd (cc)
placed_by ps ts NoBody (Some (says.Reload name)) lines is ih = absurd (cc)
placed_by ps ts NoBody (Some says.End) lines is ih = absurd (cc)
placed_by ps ts NoBody (Some s) lines is ih = ih
placed_by ps ts PolicyBody None lines is ih = ih
placed_by ps ts PolicyBody (Some (says.Filter text)) lines is ih = ih
placed_by ps ts PolicyBody (Some says.End) lines is ih = ih
placed_by ps ts PolicyBody (Some s) lines is ih = absurd (cc)

-- if the first lines are in a thread's body, what they add to it comes first
bodies_from : (ps : List Name) (ts : BodyNames) (body : OpenBody) (lines : List ScriptLine) → ArePlaced body lines → begun body (body_in ts lines) ++ all_bodies (threads_in ps ts lines) ≡ all_said ts lines
bodies_from ps ts NoBody [] placed = refl
bodies_from ps ts ThreadBody [] placed = refl
bodies_from ps ts PolicyBody [] placed = refl
bodies_from ps ts body (line ∷ lines) placed = placed_by ps ts body line.says lines placed.0 (bodies_from ps ts (body_after body line.says) lines placed.1)

-- the instructions of all bodies, in order, are those of all lines
pub bodies_are_said : (ps : List Name) (ts : BodyNames) (lines : List ScriptLine) → ArePlaced NoBody lines → all_bodies (threads_in ps ts lines) ≡ all_said ts lines
bodies_are_said ps ts lines placed = bodies_from ps ts NoBody lines placed
