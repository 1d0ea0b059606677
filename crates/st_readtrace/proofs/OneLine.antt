-- What is printed of an entry is one line: it has no newline.
use Rattle.std.proofs.Common.{◌≡◌, ℕ, ◌+◌, ◌-◌, ◌≤◌, ◌/◌, ◌%◌, Bool, true, false, ◌==◌, ◌||◌, ◌&&◌, cond, nat_lt, List, [], ◌∷◌, ◌++◌, codes, decimal, Option, Some, None, refl, ◌∙◌, arith}
use Rattle.std.proofs.lemmas.Bool.{and_from}
use Rattle.std.proofs.lemmas.Bool.Decides.{nat_tests}
use Rattle.std.proofs.lemmas.Fmt.{decimal_is_IsNumeral, digits_is_IsNumeral}
use Rattle.std.proofs.lemmas.List.Folds.{list_all-append}
use Rattle.std.proofs.lemmas.Str.Parse.{digit_from_value}
use Rattle.std.specs.Fmt.{digits}
use Rattle.std.specs.Int.{IsInRange}
use Rattle.std.specs.List.{AllByRecursion, flat_map, list_all}
use Rattle.std.specs.Str.Parse.{AllDigits}
use Rattle.st_base.specs.Errno.{name_of_error}
use Rattle.st_base.specs.declared.errno.Errno.{Errno}
use Rattle.st_base.specs.declared.errno.Errno.TheVariants.{EPERM}
use Rattle.st_base.specs.declared.ids.Ids.{Ids}
use Rattle.st_calls.specs.Argument.{name_of_label}
use Rattle.st_calls.specs.Call.{name_of_call, name_of_rule}
use Rattle.st_calls.specs.declared.argument.ArgText.{ArgText}
use Rattle.st_calls.specs.declared.argument.Label.{Label}
use Rattle.st_calls.specs.declared.argument.Label.TheVariants.{Filename}
use Rattle.st_calls.specs.declared.call.SysCall.{SysCall}
use Rattle.st_calls.specs.declared.call.SysCall.TheVariants.{Open}
use Rattle.st_calls.specs.declared.judged.Snapshot.{Snapshot}
use Rattle.st_calls.specs.declared.judged.Verdict.{Verdict}
use Rattle.st_calls.specs.declared.judged.Verdict.TheVariants.{Permit, Refuse, Unmatched}
use Rattle.st_calls.specs.declared.rule.Rule.{Rule}
use Rattle.st_calls.specs.declared.rule.Rule.TheVariants.{Call, FsRead, FsWrite}
use Rattle.st_lex.specs.Quote.{escaped_byte, hex_digit, quoted_byte, quoted_bytes}
use Rattle.st_lex.specs.Tokens.{is_no_newline}
use Rattle.st_model.specs.declared.object.NewKind.{NewKind}
use Rattle.st_model.specs.declared.object.NewKind.TheVariants.{Dir, File, Link}
use Rattle.st_names.specs.Name.{Components, printed_name}
use Rattle.st_names.specs.declared.seen.SeenText.{SeenText}
use Rattle.st_names.specs.declared.seen.SeenText.TheVariants as seen
use Rattle.st_report.specs.ChangeText.{change_field, change_text, changes_fields, kind_word, target_text}
use Rattle.st_report.specs.Fields.{bytes_field, four_ids, hex_byte, ids_fields, mode_field, name_field, number_field, number_fields, text_field, word_field}
use Rattle.st_report.specs.TraceText.{applied_field, arg_fields, args_fields, asked_fields, call_fields, cause_fields, done_field, entry_text, judged_fields, result_text, seen_fields, seq_field, verdict_fields, version_field, way_fields}
use Rattle.st_trace.specs.declared.entry.CallResult.{CallResult}
use Rattle.st_trace.specs.declared.entry.CallResult.TheVariants.{Value, Failed}
use Rattle.st_trace.specs.declared.entry.Cause.{Cause}
use Rattle.st_trace.specs.declared.entry.Cause.TheVariants as cause
use Rattle.st_trace.specs.declared.entry.Change.{Change}
use Rattle.st_trace.specs.declared.entry.Change.TheVariants.{Made, Linked, Removed, Renamed, Written, Cut, Moded, Owned, Put, Forked, Execed, SetIds, Cwd, Dying, Renewed, Policy}
use Rattle.st_trace.specs.declared.entry.Entry.{Entry}
use Rattle.st_trace.specs.declared.entry.Entry.TheVariants.{Stored, Entered, Claimed, Copied, Looked, Faulted, Answered, Replied, Learned, Used, Denied, Ended, Reloaded}
use Rattle.st_trace.specs.declared.entry.Way.{Way}
use Rattle.st_trace.specs.declared.entry.Way.TheVariants.{Fast, Barred, Held, Untraced}
use Rattle.st_written.specs.Written.{AreArgs, AreChanges, AreIds, AreRegs, Has32, Has64, IsArg, IsCause, IsChange, IsEntry, IsResult, IsSeq, IsSnapshot, IsVerdict, IsWay}

-- the bytes have no newline
abbrev pub IsLine : List ℕ → Type 0
IsLine bytes = list_all is_no_newline bytes ≡ true

both : (front rest : List ℕ) → IsLine front → IsLine rest → IsLine (front ++ rest)
both front rest a b = list_all-append is_no_newline front rest ∙ and_from (list_all is_no_newline front) (list_all is_no_newline rest) a b

line_3 : (a b c : List ℕ) → IsLine a → IsLine b → IsLine c → IsLine ((a ++ b) ++ c)
line_3 a b c p q r = both (a ++ b) c (both a b p q) r

line_4 : (a b c d : List ℕ) → IsLine a → IsLine b → IsLine c → IsLine d → IsLine (((a ++ b) ++ c) ++ d)
line_4 a b c d p q r s = both ((a ++ b) ++ c) d (line_3 a b c p q r) s

line_5 : (a b c d e : List ℕ) → IsLine a → IsLine b → IsLine c → IsLine d → IsLine e → IsLine ((((a ++ b) ++ c) ++ d) ++ e)
line_5 a b c d e p q r s t = both (((a ++ b) ++ c) ++ d) e (line_4 a b c d p q r s) t

-- ---- values

digit_line : (d : ℕ) → IsInRange 48 57 d → is_no_newline d ≡ true
digit_line d range = grind (arith, nat_tests)

digits_line : (radix : ℕ) (ds : List ℕ) → radix ≤ 10 → AllDigits radix ds → IsLine ds
digits_line radix [] small all = refl
digits_line radix (d ∷ ds) small all =
    and_from (is_no_newline d) (list_all is_no_newline ds) (digit_line d (digit_from_value d (omega (arith, all.0)))) (digits_line radix ds small all.1)

number : (n : ℕ) → Has64 n → IsLine (number_field n)
number n small = digits_line 10 (decimal n) (omega arith) (decimal_is_IsNumeral n small).0.1

mode_line : (n : ℕ) → Has32 n → IsLine (mode_field n)
mode_line n small = digits_line 8 (digits 8 false n) (omega arith) (digits_is_IsNumeral 8 false (omega arith) (omega arith) n (omega (arith, small))).0.1

no_numbers : IsLine (number_fields [])
no_numbers = refl

more_numbers : (n : ℕ) (numbers : List ℕ) → Has64 n → IsLine (number_fields numbers) → IsLine (number_fields (n ∷ numbers))
more_numbers n numbers small more = both (number_field n) (number_fields numbers) (number n small) more

numbers_1 : (a : ℕ) → Has64 a → IsLine (number_fields (a ∷ []))
numbers_1 a p = more_numbers a [] p refl

numbers_2 : (a b : ℕ) → Has64 a → Has64 b → IsLine (number_fields (a ∷ b ∷ []))
numbers_2 a b p q = more_numbers a (b ∷ []) p (numbers_1 b q)

numbers_3 : (a b c : ℕ) → Has64 a → Has64 b → Has64 c → IsLine (number_fields (a ∷ b ∷ c ∷ []))
numbers_3 a b c p q r = more_numbers a (b ∷ c ∷ []) p (numbers_2 b c q r)

numbers_4 : (a b c d : ℕ) → Has64 a → Has64 b → Has64 c → Has64 d → IsLine (number_fields (a ∷ b ∷ c ∷ d ∷ []))
numbers_4 a b c d p q r s = more_numbers a (b ∷ c ∷ d ∷ []) p (numbers_3 b c d q r s)

regs_line : (numbers : List ℕ) → AllByRecursion Has64 numbers → IsLine (number_fields numbers)
regs_line [] small = refl
regs_line (n ∷ numbers) small = more_numbers n numbers small.0 (regs_line numbers small.1)

hex_by : (n : ℕ) (b : Bool) → nat_lt n 10 ≡ b → is_no_newline (cond b (48 + n) (97 + (n - 10))) ≡ true
hex_by n true e = grind (arith, nat_tests)
hex_by n false e = grind (arith, nat_tests)

hex_line : (n : ℕ) → is_no_newline (hex_digit n) ≡ true
hex_line n = hex_by n (nat_lt n 10) refl

two_digits : (b : ℕ) → IsLine (hex_digit (b / 16) ∷ hex_digit (b % 16) ∷ [])
two_digits b = and_from (is_no_newline (hex_digit (b / 16))) (is_no_newline (hex_digit (b % 16)) && true) (hex_line (b / 16)) (and_from (is_no_newline (hex_digit (b % 16))) true (hex_line (b % 16)) refl)

quoted_by : (b : ℕ) (marked escaped : Bool) → ((b == 34) || (b == 92)) ≡ marked → ((b == 36) || (nat_lt b 0x20 || nat_lt 0x7e b)) ≡ escaped → IsLine (cond marked (92 ∷ b ∷ []) (cond escaped (escaped_byte b) (b ∷ [])))
quoted_by b true escaped m e = grind (arith, nat_tests)
quoted_by b false true m e = two_digits b
quoted_by b false false m e = grind (arith, nat_tests)

inside_line : (bytes : List ℕ) → IsLine (quoted_bytes bytes)
inside_line [] = refl
inside_line (b ∷ bytes) = both (quoted_byte b) (quoted_bytes bytes) (quoted_by b ((b == 34) || (b == 92)) ((b == 36) || (nat_lt b 0x20 || nat_lt 0x7e b)) refl refl) (inside_line bytes)

text_line : (bytes : List ℕ) → IsLine (text_field bytes)
text_line bytes = both (quoted_bytes bytes) (34 ∷ []) (inside_line bytes) refl

name_line : (name : Components) → IsLine (name_field name)
name_line name = text_line (printed_name name)

hex_bytes : (bytes : List ℕ) → IsLine (flat_map hex_byte bytes)
hex_bytes [] = refl
hex_bytes (b ∷ bytes) = both (hex_byte b) (flat_map hex_byte bytes) (two_digits b) (hex_bytes bytes)

bytes_line : (bytes : List ℕ) → IsLine (bytes_field bytes)
bytes_line [] = refl
bytes_line (b ∷ bytes) = hex_bytes (b ∷ bytes)

call_line : (call : SysCall) → IsLine (word_field (name_of_call call))
call_line Open = refl
call_line _ = refl

label_line : (label : Label) → IsLine (word_field (name_of_label label))
label_line Filename = refl
label_line _ = refl

error_line : (errno : Errno) → IsLine (name_of_error errno)
error_line EPERM = refl
error_line _ = refl

rule_call : (call : SysCall) → IsLine (name_of_call call)
rule_call Open = refl
rule_call _ = refl

rule_line : (rule : Rule) → IsLine (name_of_rule rule)
rule_line (Call call) = rule_call call
rule_line FsRead = refl
rule_line FsWrite = refl

four_line : (ids : Ids) → AreIds ids → IsLine (four_ids ids)
four_line ids is = numbers_4 ids.ruid ids.euid ids.rgid ids.egid (omega (arith, is.0)) (omega (arith, is.1)) (omega (arith, is.2)) (omega (arith, is.3))

-- ---- changes

kind_line : (kind : NewKind) → IsLine (kind_word kind)
kind_line Dir = refl
kind_line (File content) = refl
kind_line (Link target) = refl

change_line : (change : Change) → IsChange change → IsLine (change_text change)
change_line (Made name obj kind uid gid mode) is =
    let object : List ℕ = (((name_field name ++ number_fields (obj ∷ [])) ++ codes " ") ++ kind_word kind) ++ number_fields (uid ∷ gid ∷ []) in
    line_3 object (mode_field mode) (text_field (target_text kind))
    (line_5 (name_field name) (number_fields (obj ∷ [])) (codes " ") (kind_word kind) (number_fields (uid ∷ gid ∷ [])) (name_line name) (numbers_1 obj (omega (arith, is.1))) refl (kind_line kind) (numbers_2 uid gid (omega (arith, is.3)) (omega (arith, is.4))))
    (mode_line mode is.5) (text_line (target_text kind))
change_line (Linked name obj) is = both (name_field name) (number_fields (obj ∷ [])) (name_line name) (numbers_1 obj (omega (arith, is.1)))
change_line (Removed name) is = name_line name
change_line (Renamed old new) is = both (name_field old) (name_field new) (name_line old) (name_line new)
change_line (Written obj at bytes) is = both (number_fields (obj ∷ at ∷ [])) (bytes_field bytes) (numbers_2 obj at (omega (arith, is.0)) is.1) (bytes_line bytes)
change_line (Cut obj len) is = numbers_2 obj len (omega (arith, is.0)) is.1
change_line (Moded obj mode) is = both (number_fields (obj ∷ [])) (mode_field mode) (numbers_1 obj (omega (arith, is.0))) (mode_line mode is.1)
change_line (Owned obj uid gid) is = numbers_3 obj uid gid (omega (arith, is.0)) (omega (arith, is.1)) (omega (arith, is.2))
change_line (Put space at bytes) is = both (number_fields (space ∷ at ∷ [])) (bytes_field bytes) (numbers_2 space at (omega (arith, is.0)) is.1) (bytes_line bytes)
change_line (Forked pid space tid) is = numbers_3 pid space tid (omega (arith, is.0)) (omega (arith, is.1)) (omega (arith, is.2))
change_line (Execed binary space) is = both (text_field binary) (number_fields (space ∷ [])) (text_line binary) (numbers_1 space (omega (arith, is.1)))
change_line (SetIds ids) is = four_line ids is
change_line (Cwd name) is = name_line name
change_line (Dying pid) is = numbers_1 pid (omega (arith, is))
change_line (Renewed old new) is = numbers_2 old new (omega (arith, is.0)) (omega (arith, is.1))
change_line (Policy binary) is = text_line binary

changes_line : (changes : List Change) → AreChanges changes → IsLine (changes_fields changes)
changes_line [] are = refl
changes_line (change ∷ changes) are = both (change_field change) (changes_fields changes) (change_line change are.0) (changes_line changes are.1)

-- ---- parts of entries

call_fields_line : (call : SysCall) (regs : List ℕ) → AreRegs regs → IsLine (call_fields call regs)
call_fields_line call regs is = both (word_field (name_of_call call)) (number_fields regs) (call_line call) (regs_line regs is.1)

arg_line : (arg : ArgText) → IsArg arg → IsLine (arg_fields arg)
arg_line arg is = line_3 (word_field (name_of_label arg.label)) (number_fields (arg.index ∷ [])) (text_field arg.text) (label_line arg.label) (numbers_1 arg.index (omega (arith, is.0))) (text_line arg.text)

args_line : (args : List ArgText) → AreArgs args → IsLine (args_fields args)
args_line [] are = refl
args_line (arg ∷ args) are = both (arg_fields arg) (args_fields args) (arg_line arg are.0) (args_line args are.1)

way_line : (way : Way) → IsWay way → IsLine (way_fields way)
way_line Fast is = refl
way_line (Barred n) is = numbers_1 n (omega (arith, is))
way_line (Held seq) is = numbers_1 seq (omega (arith, is))
way_line Untraced is = refl

seen_line : (saw : SeenText) → IsLine (seen_fields saw)
seen_line seen.Missing = refl
seen_line seen.NotDir = refl
seen_line seen.Dir = refl
seen_line seen.File = refl
seen_line (seen.Link target) = text_line target

verdict_line : (verdict : Verdict) → IsVerdict verdict → IsLine (verdict_fields verdict)
verdict_line (Permit n ids) is = both (number_fields (n ∷ [])) (ids_fields ids) (numbers_1 n (omega (arith, is.0))) (four_line ids is.1)
verdict_line (Refuse n errno) is = both (number_fields (n ∷ [])) (word_field (name_of_error errno)) (numbers_1 n (omega (arith, is))) (error_line errno)
verdict_line Unmatched is = refl

applied_line : (applied : Bool) → IsLine (applied_field applied)
applied_line true = refl
applied_line false = refl

done_line : (done : Bool) → IsLine (done_field done)
done_line true = refl
done_line false = refl

seq_line : (seq : Option ℕ) → IsSeq seq → IsLine (seq_field seq)
seq_line None is = refl
seq_line (Some n) is = numbers_1 n (omega (arith, is))

result_line : (result : CallResult) → IsResult result → IsLine (result_text result)
result_line (Value n) is = number n is
result_line (Failed errno) is = error_line errno

cause_line : (why : Cause) → IsCause why → IsLine (cause_fields why)
cause_line (cause.Filter n) is = numbers_1 n (omega (arith, is))
cause_line cause.NoFilter is = refl
cause_line cause.Fault is = refl
cause_line (cause.Link name) is = name_line name

version_by : (b : Bool) (version : ℕ) → Has32 version → IsLine (cond b [] (codes " version" ++ number_fields (version ∷ [])))
version_by true version is = refl
version_by false version is = numbers_1 version (omega (arith, is))

judged_line : (s : Snapshot) → IsSnapshot s → IsLine (judged_fields s)
judged_line s is =
    line_5 (number_fields (s.pid ∷ [])) (ids_fields s.ids) (codes " policy") (text_field s.policy) (version_field s.version)
    (numbers_1 s.pid (omega (arith, is.1))) (four_line s.ids is.2) refl (text_line s.policy) (version_by (s.version == 0) s.version is.4)

asked_line : (s : Snapshot) → IsSnapshot s → IsLine (asked_fields s)
asked_line s is = line_3 (name_of_rule s.rule) (call_fields s.call s.regs) (args_fields s.parts) (rule_line s.rule) (call_fields_line s.call s.regs is.5) (args_line s.parts is.6)

-- ---- entries

pub entry_is_line : (entry : Entry) → IsEntry entry → IsLine (entry_text entry)
entry_is_line (Stored tid place word) is = numbers_3 tid place word (omega (arith, is.0)) (omega (arith, is.1)) is.2
entry_is_line (Entered tid call regs way) is =
    line_3 (number_fields (tid ∷ [])) (call_fields call regs) (way_fields way) (numbers_1 tid (omega (arith, is.0))) (call_fields_line call regs is.1) (way_line way is.2)
entry_is_line (Claimed worker seq) is = numbers_2 worker seq (omega (arith, is.0)) (omega (arith, is.1))
entry_is_line (Copied seq part place word) is = numbers_4 seq part place word (omega (arith, is.0)) (omega (arith, is.1)) (omega (arith, is.2)) is.3
entry_is_line (Looked seq part name saw) is =
    line_3 (number_fields (seq ∷ part ∷ [])) (name_field name) (seen_fields saw) (numbers_2 seq part (omega (arith, is.0)) (omega (arith, is.1))) (name_line name) (seen_line saw)
entry_is_line (Faulted seq errno) is = both (number_fields (seq ∷ [])) (word_field (name_of_error errno)) (numbers_1 seq (omega (arith, is))) (error_line errno)
entry_is_line (Answered worker s verdict applied) is =
    line_5 (number_fields (worker ∷ s.seq ∷ [])) (judged_fields s) (asked_fields s) (verdict_fields verdict) (applied_field applied)
    (numbers_2 worker s.seq (omega (arith, is.0)) (omega (arith, is.1.0))) (judged_line s is.1) (asked_line s is.1) (verdict_line verdict is.2) (applied_line applied)
entry_is_line (Replied seq reply n) is = numbers_3 seq reply n (omega (arith, is.0)) (omega (arith, is.1)) (omega (arith, is.2))
entry_is_line (Learned seq n) is = numbers_2 seq n (omega (arith, is.0)) (omega (arith, is.1))
entry_is_line (Used tid seq call regs args ids result changes) is =
    let call_and_args : List ℕ = (((number_fields (tid ∷ []) ++ seq_field seq) ++ call_fields call regs) ++ ids_fields ids) ++ args_fields args in
    line_4 call_and_args (codes " = ") (result_text result) (changes_fields changes)
    (line_5 (number_fields (tid ∷ [])) (seq_field seq) (call_fields call regs) (ids_fields ids) (args_fields args)
    (numbers_1 tid (omega (arith, is.0))) (seq_line seq is.1) (call_fields_line call regs is.2) (four_line ids is.4) (args_line args is.3))
    refl (result_line result is.5) (changes_line changes is.6)
entry_is_line (Denied tid seq errno why) is =
    line_4 (number_fields (tid ∷ [])) (seq_field seq) (word_field (name_of_error errno)) (cause_fields why) (numbers_1 tid (omega (arith, is.0))) (seq_line seq is.1) (error_line errno) (cause_line why is.2)
entry_is_line (Ended tid) is = numbers_1 tid (omega (arith, is))
entry_is_line (Reloaded tid policy done changes) is =
    line_3 (number_fields (tid ∷ policy ∷ [])) (done_field done) (changes_fields changes) (numbers_2 tid policy (omega (arith, is.0)) (omega (arith, is.1))) (done_line done) (changes_line changes is.2)
