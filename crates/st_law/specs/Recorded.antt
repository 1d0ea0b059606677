-- The choices that a trace implies.
use Rattle.std.specs.Prelude.{ℕ, List, [], ◌∷◌, reverse, unwrap_or}
use Rattle.st_model.specs.Tree.{is_number}
use Rattle.st_trace.specs.declared.entry.Choice.{Choice}
use Rattle.st_trace.specs.declared.entry.Choice.TheVariants.{Thread, Worker, Operator}
use Rattle.st_trace.specs.declared.entry.Entry.{Entry}
use Rattle.st_trace.specs.declared.entry.Entry.TheVariants.{Stored, Entered, Claimed, Copied, Looked, Faulted, Answered, Used, Denied, Ended, Replied, Learned, Reloaded}
use Rattle.st_law.specs.declared.input.Input.{Input}
use Rattle.st_law.specs.History.{looking_back}
use Rattle.st_law.specs.Sessions.{least_from}
use Rattle.st_law.specs.State.{State, worker_at}
use Rattle.st_law.specs.Threads.{History}

-- the least worker that is at this number, 0 if none is
abbrev pub worker_for : Input → State → ℕ → ℕ
worker_for i st q = unwrap_or (least_from (λ w. is_number q (worker_at st w)) 1 i.options.workers) 0

-- the choice that an entry implies in the state before it: its thread, the worker that it names or that is at its number, or the operator
abbrev pub choice_of : Input → State → Entry → Choice
choice_of i st (Stored t place word) = Thread t
choice_of i st (Entered t call regs way) = Thread t
choice_of i st (Claimed w q) = Worker w
choice_of i st (Copied q part place word) = Worker (worker_for i st q)
choice_of i st (Looked q part name seen) = Worker (worker_for i st q)
choice_of i st (Faulted q errno) = Worker (worker_for i st q)
choice_of i st (Answered w s v applied) = Worker w
choice_of i st (Used t seq call regs args ids result changes) = Thread t
choice_of i st (Denied t seq errno cause) = Thread t
choice_of i st (Ended t) = Thread t
choice_of i st (Replied q reply n) = Operator
choice_of i st (Learned q n) = Operator
choice_of i st (Reloaded t n done changes) = Thread t

-- the choices that a history implies, the newest first, as its entries are
abbrev pub choices_back : Input → History → List Choice
choices_back i [] = []
choices_back i (e ∷ h) = choice_of i (looking_back i h) e ∷ choices_back i h

-- the choices that a trace implies, in order: one for each entry, by the entries before it
abbrev pub recorded_choices : Input → List Entry → List Choice
recorded_choices i trace = reverse (choices_back i (reverse trace))
