-- The entries that traces are written of: their numbers have the bits of their types, their texts are bytes, their names are absolute names, and
-- a file that is made is empty.
use Rattle.std.specs.Prelude.{ℕ, ◌≡◌, ◌<◌, ◌^◌, true, false, List, [], length, Option, Some, None}
use Rattle.std.specs.List.{AllByRecursion}
use Rattle.st_base.specs.declared.ids.Ids.{Ids}
use Rattle.st_calls.specs.declared.argument.ArgText.{ArgText}
use Rattle.st_calls.specs.declared.judged.Snapshot.{Snapshot}
use Rattle.st_calls.specs.declared.judged.Verdict.{Verdict}
use Rattle.st_calls.specs.declared.judged.Verdict.TheVariants.{Permit, Refuse, Unmatched}
use Rattle.st_model.specs.declared.object.NewKind.{NewKind}
use Rattle.st_model.specs.declared.object.NewKind.TheVariants.{Dir, File, Link}
use Rattle.st_names.specs.Name.{Components, has_slash, is_component}
use Rattle.st_names.specs.declared.seen.SeenText.{SeenText}
use Rattle.st_names.specs.declared.seen.SeenText.TheVariants as seen
use Rattle.st_trace.specs.declared.entry.CallResult.{CallResult}
use Rattle.st_trace.specs.declared.entry.CallResult.TheVariants.{Value, Failed}
use Rattle.st_trace.specs.declared.entry.Cause.{Cause}
use Rattle.st_trace.specs.declared.entry.Cause.TheVariants as cause
use Rattle.st_trace.specs.declared.entry.Change.{Change}
use Rattle.st_trace.specs.declared.entry.Change.TheVariants.{Made, Linked, Removed, Renamed, Written, Cut, Moded, Owned, Put, Forked, Execed, SetIds, Cwd, Dying, Renewed, Policy}
use Rattle.st_trace.specs.declared.entry.Entry.{Entry}
use Rattle.st_trace.specs.declared.entry.Entry.TheVariants.{Stored, Entered, Claimed, Copied, Looked, Faulted, Answered, Replied, Learned, Used, Denied, Ended, Reloaded}
use Rattle.st_trace.specs.declared.entry.Way.{Way}
use Rattle.st_trace.specs.declared.entry.Way.TheVariants.{Fast, Barred, Held, Untraced}

-- ---- values

-- numbers of so many bits
abbrev pub Has16 : ℕ → Type 0
Has16 n = n < 2 ^ 16

abbrev pub Has32 : ℕ → Type 0
Has32 n = n < 2 ^ 32

abbrev pub Has64 : ℕ → Type 0
Has64 n = n < 2 ^ 64

-- a text is of bytes
abbrev pub IsText : List ℕ → Type 0
IsText text = AllByRecursion (λ b. b < 256) text

-- a component of a name: bytes without a slash, and neither nothing nor `.`
abbrev pub IsPart : List ℕ → Type 0
IsPart part = (is_component part ≡ true) × (has_slash part ≡ false) × IsText part

abbrev pub IsName : Components → Type 0
IsName name = AllByRecursion IsPart name

abbrev pub AreIds : Ids → Type 0
AreIds ids = Has32 ids.ruid × Has32 ids.euid × Has32 ids.rgid × Has32 ids.egid

abbrev pub AreRegs : List ℕ → Type 0
AreRegs regs = (length regs ≡ 6) × AllByRecursion Has64 regs

abbrev pub IsArg : ArgText → Type 0
IsArg arg = Has32 arg.index × IsText arg.text

abbrev pub AreArgs : List ArgText → Type 0
AreArgs args = AllByRecursion IsArg args

-- ---- parts of entries

abbrev pub IsWay : Way → Type 0
IsWay Fast = Unit {0}
IsWay (Barred n) = Has32 n
IsWay (Held seq) = Has16 seq
IsWay Untraced = Unit {0}

abbrev pub IsSeen : SeenText → Type 0
IsSeen (seen.Link target) = IsText target
IsSeen _ = Unit {0}

abbrev pub IsVerdict : Verdict → Type 0
IsVerdict (Permit n ids) = Has32 n × AreIds ids
IsVerdict (Refuse n errno) = Has32 n
IsVerdict Unmatched = Unit {0}

abbrev pub IsSeq : Option ℕ → Type 0
IsSeq None = Unit {0}
IsSeq (Some seq) = Has16 seq

abbrev pub IsResult : CallResult → Type 0
IsResult (Value n) = Has64 n
IsResult (Failed errno) = Unit {0}

abbrev pub IsCause : Cause → Type 0
IsCause (cause.Filter n) = Has32 n
IsCause cause.NoFilter = Unit {0}
IsCause cause.Fault = Unit {0}
IsCause (cause.Link name) = IsName name

abbrev pub IsSnapshot : Snapshot → Type 0
IsSnapshot s =
    Has16 s.seq × Has32 s.pid × AreIds s.ids × IsText s.policy × Has32 s.version × AreRegs s.regs × AreArgs s.parts

-- the kind of an object that is made: a new file is empty
abbrev pub IsKind : NewKind → Type 0
IsKind Dir = Unit {0}
IsKind (File content) = content ≡ []
IsKind (Link target) = IsText target

abbrev pub IsChange : Change → Type 0
IsChange (Made name obj kind uid gid mode) = IsName name × Has32 obj × IsKind kind × Has32 uid × Has32 gid × Has32 mode
IsChange (Linked name obj) = IsName name × Has32 obj
IsChange (Removed name) = IsName name
IsChange (Renamed old new) = IsName old × IsName new
IsChange (Written obj at bytes) = Has32 obj × Has64 at × IsText bytes
IsChange (Cut obj len) = Has32 obj × Has64 len
IsChange (Moded obj mode) = Has32 obj × Has32 mode
IsChange (Owned obj uid gid) = Has32 obj × Has32 uid × Has32 gid
IsChange (Put space at bytes) = Has32 space × Has64 at × IsText bytes
IsChange (Forked pid space tid) = Has32 pid × Has32 space × Has32 tid
IsChange (Execed binary space) = IsText binary × Has32 space
IsChange (SetIds ids) = AreIds ids
IsChange (Cwd name) = IsName name
IsChange (Dying pid) = Has32 pid
IsChange (Renewed old new) = Has16 old × Has16 new
IsChange (Policy binary) = IsText binary

abbrev pub AreChanges : List Change → Type 0
AreChanges changes = AllByRecursion IsChange changes

-- ---- entries

abbrev pub IsEntry : Entry → Type 0
IsEntry (Stored tid place word) = Has32 tid × Has32 place × Has64 word
IsEntry (Entered tid call regs way) = Has32 tid × AreRegs regs × IsWay way
IsEntry (Claimed worker seq) = Has32 worker × Has16 seq
IsEntry (Copied seq part place word) = Has16 seq × Has32 part × Has32 place × Has64 word
IsEntry (Looked seq part name saw) = Has16 seq × Has32 part × IsName name × IsSeen saw
IsEntry (Faulted seq errno) = Has16 seq
IsEntry (Answered worker snapshot verdict applied) = Has32 worker × IsSnapshot snapshot × IsVerdict verdict
IsEntry (Replied seq reply n) = Has16 seq × Has32 reply × Has32 n
IsEntry (Learned seq n) = Has16 seq × Has32 n
IsEntry (Used tid seq call regs args ids result changes) =
    Has32 tid × IsSeq seq × AreRegs regs × AreArgs args × AreIds ids × IsResult result × AreChanges changes
IsEntry (Denied tid seq errno why) = Has32 tid × IsSeq seq × IsCause why
IsEntry (Ended tid) = Has32 tid
IsEntry (Reloaded tid policy done changes) = Has32 tid × Has32 policy × AreChanges changes

abbrev pub AreEntries : List Entry → Type 0
AreEntries trace = AllByRecursion IsEntry trace
