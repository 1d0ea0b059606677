-- Which threads an entry wakes, and which threads are marked as asleep.
use Rattle.std.specs.Prelude.{◌==◌, ℕ, if◌then◌else◌, Bool, true, false, List, Option, Some, None, get_or}
use Rattle.std.specs.List.{list_any}
use Rattle.st_trace.specs.declared.entry.Entry.{Entry}
use Rattle.st_trace.specs.declared.entry.Entry.TheVariants.{Faulted, Answered, Used, Learned, Replied}
use Rattle.st_decide.specs.Holding.{is_held_alike, held_head}
use Rattle.st_decide.specs.Machine.{Running}
use Rattle.st_messages.specs.Messages.{HeldCalls, drawing_of, thread_of_drawing}
use Rattle.st_reached.specs.Waiting.{wakes_all}
use Rattle.st_waking.specs.declared.waking.Woken.{Woken}
use Rattle.st_waking.specs.declared.waking.Woken.TheVariants.{Nobody, One, SameRule, Everybody}

-- whether thread t may have been woken, according to the machine that runs
abbrev pub is_woken : Running → Woken → ℕ → Bool
is_woken m Nobody t = false
is_woken m (One tid) t = t == tid
is_woken m (SameRule q) t = is_held_alike m (held_head m q) t
is_woken m Everybody t = true

-- the thread that holds the call of a number is woken, or every thread if the holder isn't known
abbrev pub holder_woken : Option ℕ → Woken
holder_woken None = Everybody
holder_woken (Some tid) = One tid

-- the thread that holds the call of a drawing, if there is a drawing
abbrev pub thread_if : HeldCalls → Option ℕ → Option ℕ
thread_if calls None = None
thread_if calls (Some q) = thread_of_drawing calls q

-- the threads that hold calls of the same policy and rule as the message of a drawing are woken, or every thread if it isn't known
abbrev pub alike_woken : Option ℕ → Woken
alike_woken None = Everybody
alike_woken (Some q) = SameRule q

-- which threads an entry of numbers wakes, according to the held calls after it
abbrev pub woken_by : HeldCalls → Entry → Woken
woken_by calls (Used u seq call regs args ids result changes) = if list_any wakes_all changes then Everybody else Nobody
woken_by calls (Faulted q errno) = holder_woken (thread_if calls (drawing_of calls q))
woken_by calls (Answered w snapshot verdict applied) = if applied then holder_woken (thread_if calls (drawing_of calls snapshot.seq)) else Nobody
woken_by calls (Learned q n) = alike_woken (drawing_of calls q)
woken_by calls (Replied q reply n) = alike_woken (drawing_of calls q)
woken_by calls _ = Nobody

-- whether the thread at an index is marked as asleep
abbrev pub is_asleep : List Bool → ℕ → Bool
is_asleep asleep place = get_or asleep place false
