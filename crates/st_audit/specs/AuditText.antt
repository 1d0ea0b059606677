-- What is printed of a run: a line for each call that a traced process made or was denied.
use Rattle.std.specs.Prelude.{◌≡◌, ℕ, Bool, true, false, List, [], ◌∷◌, ◌++◌, reverse, codes, decimal, Option, Some, None, if◌then◌else◌}
use Rattle.std.specs.List.{flat_map}
use Rattle.st_calls.specs.Argument.{index_text, name_of_label}
use Rattle.st_calls.specs.Call.{name_of_rule, rule_of}
use Rattle.st_calls.specs.declared.argument.ArgText.{ArgText}
use Rattle.st_calls.specs.declared.call.SysCall.{SysCall}
use Rattle.st_calls.specs.declared.rule.Rule.{Rule}
use Rattle.st_emulation.specs.Words.{prefix_of}
use Rattle.st_emulation.specs.declared.emulation.Emulation.{Emulation}
use Rattle.st_emulation.specs.declared.emulation.Emulation.TheVariants.{Native, Linux}
use Rattle.st_linux.specs.Errors.{linux_number}
use Rattle.st_lex.specs.Quote.{quoted}
use Rattle.st_trace.specs.declared.entry.CallResult.{CallResult}
use Rattle.st_trace.specs.declared.entry.CallResult.TheVariants.{Failed, Value}
use Rattle.st_trace.specs.declared.entry.Entry.{Entry}
use Rattle.st_trace.specs.declared.entry.Entry.TheVariants.{Used, Denied}
use Rattle.st_law.specs.declared.input.Input.{Input}
use Rattle.st_law.specs.History.{looking_back}
use Rattle.st_law.specs.Numbers.{drawn}
use Rattle.st_law.specs.Threads.{History, owner_at}
use Rattle.st_audit.specs.declared.how.How.{How}
use Rattle.st_audit.specs.How.{Decided, args_used, decided_in, decided_on, how_denied, how_text, how_used, is_logged, parts_of, seq_of_decision}
use Rattle.st_audit.specs.Rows.{Row, entered_at, row_at}
use Rattle.st_report.specs.TraceText.{result_text}
use Rattle.st_audit.specs.declared.entered.EnteredCall.{EnteredCall}

-- ---- a line

-- a blank, and an argument as label="text" or label[N]="text"
abbrev pub printed_arg : ArgText → List ℕ
printed_arg arg = codes " " ++ name_of_label arg.label ++ index_text arg.index ++ codes "=" ++ quoted arg.text

-- PID.TID "POLICY" EMULATION-RULE
abbrev pub caller_text : ℕ → ℕ → List ℕ → Rule → Emulation → List ℕ
caller_text pid tid policy rule emulation = decimal pid ++ codes "." ++ decimal tid ++ codes " " ++ quoted policy ++ codes " " ++ prefix_of emulation ++ name_of_rule rule

-- a result as Linux returns it: a value, or an error as `-` and its number there
abbrev pub linux_result : CallResult → List ℕ
linux_result (Value n) = decimal n
linux_result (Failed errno) = codes "-" ++ decimal (linux_number errno)

-- a result: a value or an error's name, and under Linux as it returns it
abbrev pub audit_result : CallResult → Emulation → List ℕ
audit_result result Native = result_text result
audit_result result Linux = linux_result result

-- the mark, if the filter that decided asks for it
abbrev pub log_text : Bool → List ℕ
log_text true = codes " log"
log_text false = []

-- what a line says after its caller:{ ARG} HOW = RESULT[ log], and a newline
abbrev pub ending_text : List ArgText → How → CallResult → Bool → Emulation → List ℕ
ending_text args how result log emulation = flat_map printed_arg args ++ codes " " ++ how_text how ++ codes " = " ++ audit_result result emulation ++ log_text log ++ codes "\n"

-- the line of a call of a traced process; none for another process
abbrev pub traced_line : Row → ℕ → ℕ → Rule → List ℕ → Emulation → List ℕ
traced_line row pid tid rule ending emulation = if row.traced then caller_text pid tid row.policy rule emulation ++ ending else []

-- the line of a thread's call, by its process
abbrev pub call_line : Input → (ℕ → Row) → ℕ → ℕ → SysCall → List ℕ → List ℕ → Emulation → List ℕ
call_line i rows pid tid call regs ending emulation = traced_line (rows pid) pid tid (rule_of call regs i.options.aliasing) ending emulation

-- the line of the call that a thread had entered and that was denied; none if the thread had entered none
abbrev pub denied_line : Input → (ℕ → Row) → ℕ → ℕ → Option EnteredCall → List ℕ → Emulation → List ℕ
denied_line i rows pid tid None ending emulation = []
denied_line i rows pid tid (Some entered) ending emulation = call_line i rows pid tid entered.call entered.regs ending emulation

-- ---- the audit

-- what an entry prints, by the processes of threads, the rows of processes, the calls that were entered, and what is known of each
-- held call
abbrev pub line_by : Input → (ℕ → ℕ) → (ℕ → Row) → (ℕ → Option EnteredCall) → (ℕ → Option Decided) → Entry → Emulation → List ℕ
line_by i owners rows entered decided (Used t seq call regs args ids result changes) emulation =
    call_line i rows (owners t) t call regs
    (ending_text (args_used seq args) (how_used seq (decided_on decided seq) ids) result (is_logged (decided_on decided seq)) emulation) emulation
line_by i owners rows entered decided (Denied t seq errno cause) emulation =
    denied_line i rows (owners t) t (entered t)
    (ending_text (parts_of (decided_on decided (seq_of_decision seq cause))) (how_denied seq cause) (Failed errno) (is_logged (decided_on decided (seq_of_decision seq cause))) emulation)
    emulation
line_by i owners rows entered decided _ emulation = []

-- what an entry after a history prints
abbrev pub audit_line : Input → History → Entry → Emulation → List ℕ
audit_line i h e emulation = line_by i (owner_at i h) (row_at i h) (entered_at i h) (decided_in i (looking_back i h)) e emulation

-- the audit of a history: the lines of its entries, the oldest first
abbrev pub audit_back : Input → History → Emulation → List ℕ
audit_back i [] emulation = []
audit_back i (e ∷ h) emulation = audit_back i h emulation ++ audit_line i h e emulation

-- the audit of a trace of drawings, by the names of an emulation: the lines of its entries, in order
abbrev pub audit : Input → List Entry → Emulation → List ℕ
audit i trace emulation = audit_back i (reverse trace) emulation

-- the audit of a trace of numbers: that of its drawings
abbrev pub audit_by_number : Input → List Entry → Emulation → List ℕ
audit_by_number i trace emulation = audit i (drawn trace) emulation

-- ---- longer runs

-- a text has another as its prefix
abbrev pub BeginsWith : List ℕ → List ℕ → Type 0
BeginsWith text front = (following : List ℕ) × (text ≡ front ++ following)

-- what is printed of a longer run begins with what is printed of the shorter one
abbrev pub GrowsWithTheRun : (Input → List Entry → Emulation → List ℕ) → Type 0
GrowsWithTheRun text = (input : Input) (trace more : List Entry) (emulation : Emulation) → BeginsWith (text input (trace ++ more) emulation) (text input trace emulation)
