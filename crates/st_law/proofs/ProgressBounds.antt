-- Only the first two parts of a call can be in memory, and a part that needs one more word or look has taken few.
use native.Mathlib.Omega.{arith}
use Rattle.std.proofs.Common.{◌≡◌, ◌≤◌, ◌<◌, ℕ, ◌+◌, Bool, true, false, List, [], ◌∷◌, length, refl, ap, subst}
use Rattle.std.specs.Prelude.{slice_index_or}
use Rattle.st_calls.specs.Argument.{args_of}
use Rattle.st_calls.specs.Call.{follows}
use Rattle.st_calls.specs.declared.argument.ArgSpec.{ArgSpec}
use Rattle.st_calls.specs.declared.argument.ArgText.{ArgText}
use Rattle.st_calls.specs.declared.argument.PartKind.{PartKind}
use Rattle.st_calls.specs.declared.argument.PartKind.TheVariants as kind
use Rattle.st_calls.specs.declared.call.SysCall.{SysCall}
use Rattle.st_calls.specs.declared.call.SysCall.TheVariants.{Open, Close, Read, Write, Lseek, Dup, Stat, Lstat, Access, Readlink, Unlink, Link, Symlink, Rename, Mkdir, Rmdir, Chdir, Chmod, Chown, Truncate, Fork, Execve, Exit, Kill, GetPid, GetUid, GetEuid, SetUid, SetEuid, SetGid, SetEgid, Socket, Bind, Connect}
use Rattle.st_calls.specs.declared.rule.Rule.{Rule}
use Rattle.st_calls.specs.declared.rule.Rule.TheVariants as rule
use Rattle.st_model.specs.Spelling.{Spelled, Text, Fault, More, spell}
use Rattle.st_model.specs.Walk.{WalkState, needs_lookup, start_walk}
use Rattle.st_model.specs.Walk as walk
use Rattle.st_model.proofs.Endings.{AreWithin, start_early, few_components}
use Rattle.st_model.proofs.Spelled.{short_text}
use Rattle.st_names.specs.Name.{Components}
use Rattle.st_names.specs.declared.seen.SeenText.{SeenText}
use Rattle.st_effects.specs.Progress.{Progress, Word, Look, Stuck, Ready, ArgRequest, with_arg, name_arg, text_arg, progress_of_walk, progress_of_text, progress_of_spelling, progress_from, progress}
use Rattle.st_model.proofs.Words.{few_words_of}

-- whether a part is in memory, by its kind
abbrev is_in_memory : PartKind → Bool
is_in_memory kind.Name = true
is_in_memory kind.Plain = true
is_in_memory kind.Addr = true
is_in_memory kind.Argv = true
is_in_memory kind.Decimal = false
is_in_memory kind.Octal = false
is_in_memory kind.Domain = false
is_in_memory kind.SockType = false

-- no part after the second is in memory
abbrev AreEarly : ℕ → List ArgSpec → Type 0
AreEarly j [] = Unit {0}
AreEarly j (spec ∷ specs) = (is_in_memory spec.kind ≡ true → j < 2) × AreEarly (j + 1) specs

-- ---- parts that need more

-- the part that needs more has taken few words, or few looks
abbrev pub IsFew : (ℕ → List ℕ) → (ℕ → List SeenText) → Progress → Type 0
IsFew words lookups (Word part place) = (part < 2) × (length (words part) ≤ 192)
IsFew words lookups (Look part name) = (part < 2) × (length (lookups part) < 4608)
IsFew words lookups (Stuck errno) = Unit {0}
IsFew words lookups (Ready args) = Unit {0}

module _ (words : ℕ → List ℕ) (lookups : ℕ → List SeenText) (within : (j : ℕ) → AreWithin 128 (lookups j)) where
  with_few : (arg : ArgText) (rest : Progress) → IsFew words lookups rest → IsFew words lookups (with_arg arg rest)
  with_few arg (Word part place) x = x
  with_few arg (Look part name) x = x
  with_few arg (Stuck errno) x = tt
  with_few arg (Ready args) x = tt

  -- a walk of a name that needs one more look has taken few
  walk_few : (j : ℕ) (spec : ArgSpec) (cwd : Components) (follow : Bool) (text : List ℕ) (w : WalkState) (rest : Progress) → j < 2 → length text ≤ 1024 → start_walk text cwd follow (lookups j) ≡ w → IsFew words lookups rest → IsFew words lookups (progress_of_walk j spec w rest)
  walk_few j spec cwd follow text (walk.Name name) rest early short e x = with_few (name_arg spec name) rest x
  walk_few j spec cwd follow text (walk.Fault errno) rest early short e x = tt
  walk_few j spec cwd follow text (walk.Next name) rest early short e x =
      let few = start_early 128 cwd text follow (lookups j) (within j) (ap needs_lookup e) in
      let parts = few_components text in
      (early, omega (arith, few, parts, short))

  text_few : (k : PartKind) (j : ℕ) (spec : ArgSpec) (cwd : Components) (follow : Bool) (text : List ℕ) (rest : Progress) → (is_in_memory k ≡ true → j < 2) → (k ≡ kind.Name → length text ≤ 1024) → IsFew words lookups rest → IsFew words lookups (progress_of_text k j spec cwd follow (lookups j) text rest)
  text_few kind.Name j spec cwd follow text rest early short x = walk_few j spec cwd follow text (start_walk text cwd follow (lookups j)) rest (early refl) (short refl) refl x
  text_few kind.Plain j spec cwd follow text rest early short x = with_few (text_arg spec text) rest x
  text_few kind.Addr j spec cwd follow text rest early short x = with_few (text_arg spec text) rest x
  text_few kind.Argv j spec cwd follow text rest early short x = with_few (text_arg spec text) rest x
  text_few kind.Decimal j spec cwd follow text rest early short x = with_few (text_arg spec text) rest x
  text_few kind.Octal j spec cwd follow text rest early short x = with_few (text_arg spec text) rest x
  text_few kind.Domain j spec cwd follow text rest early short x = with_few (text_arg spec text) rest x
  text_few kind.SockType j spec cwd follow text rest early short x = with_few (text_arg spec text) rest x

  -- a part that needs a word is in memory
  asks_in_memory : (k : PartKind) (at : ℕ) (copied : List ℕ) (place : ℕ) → spell k at copied ≡ More place → is_in_memory k ≡ true
  asks_in_memory kind.Name at copied place e = refl
  asks_in_memory kind.Plain at copied place e = refl
  asks_in_memory kind.Addr at copied place e = refl
  asks_in_memory kind.Argv at copied place e = refl
  asks_in_memory kind.Decimal at copied place e = cc
  asks_in_memory kind.Octal at copied place e = cc
  asks_in_memory kind.Domain at copied place e = cc
  asks_in_memory kind.SockType at copied place e = cc

  spelling_few : (j : ℕ) (spec : ArgSpec) (cwd : Components) (follow : Bool) (at : ℕ) (s : Spelled) (rest : Progress) → (is_in_memory spec.kind ≡ true → j < 2) → spell spec.kind at (words j) ≡ s → IsFew words lookups rest → IsFew words lookups (progress_of_spelling j spec cwd follow (lookups j) s rest)
  spelling_few j spec cwd follow at (More place) rest early e x = (early (asks_in_memory spec.kind at (words j) place e), few_words_of spec.kind at (words j) place e)
  spelling_few j spec cwd follow at (Fault errno) rest early e x = tt
  spelling_few j spec cwd follow at (Text text) rest early e x = text_few spec.kind j spec cwd follow text rest early
      (λ same. short_text at (words j) text (subst (λ k. spell k at (words j) ≡ Text text) same e)) x

  from_few : (j : ℕ) (specs : List ArgSpec) (asked : ArgRequest) → AreEarly j specs → IsFew words lookups (progress_from j specs asked words lookups)
  from_few j [] asked early = tt
  from_few j (spec ∷ specs) asked early =
      spelling_few j spec asked.cwd (follows asked.call asked.regs spec.register) (slice_index_or asked.regs spec.register 0)
      (spell spec.kind (slice_index_or asked.regs spec.register 0) (words j)) (progress_from (j + 1) specs asked words lookups) early.0 refl (from_few (j + 1) specs asked early.1)

-- ---- the table of arguments

call_early : (call : SysCall) → AreEarly 0 (args_of (rule.Call call))
call_early Open = (λ e. omega arith, tt)
call_early Close = tt
call_early Read = tt
call_early Write = tt
call_early Lseek = tt
call_early Dup = tt
call_early Stat = (λ e. omega arith, tt)
call_early Lstat = (λ e. omega arith, tt)
call_early Access = (λ e. omega arith, tt)
call_early Readlink = (λ e. omega arith, tt)
call_early Unlink = (λ e. omega arith, tt)
call_early Link = (λ e. omega arith, (λ e. omega arith, tt))
call_early Symlink = (λ e. omega arith, (λ e. omega arith, tt))
call_early Rename = (λ e. omega arith, (λ e. omega arith, tt))
call_early Mkdir = (λ e. omega arith, tt)
call_early Rmdir = (λ e. omega arith, tt)
call_early Chdir = (λ e. omega arith, tt)
call_early Chmod = (λ e. omega arith, (λ e. omega arith, tt))
call_early Chown = (λ e. omega arith, (λ e. omega arith, (λ e. cc, tt)))
call_early Truncate = (λ e. omega arith, tt)
call_early Fork = tt
call_early Execve = (λ e. omega arith, (λ e. omega arith, tt))
call_early Exit = tt
call_early Kill = (λ e. omega arith, (λ e. omega arith, tt))
call_early GetPid = tt
call_early GetUid = tt
call_early GetEuid = tt
call_early SetUid = (λ e. omega arith, tt)
call_early SetEuid = (λ e. omega arith, tt)
call_early SetGid = (λ e. omega arith, tt)
call_early SetEgid = (λ e. omega arith, tt)
call_early Socket = (λ e. omega arith, (λ e. omega arith, tt))
call_early Bind = (λ e. omega arith, tt)
call_early Connect = (λ e. omega arith, tt)

rule_early : (r : Rule) → AreEarly 0 (args_of r)
rule_early (rule.Call call) = call_early call
rule_early rule.FsRead = (λ e. omega arith, tt)
rule_early rule.FsWrite = (λ e. omega arith, tt)

-- if the arguments of a call need a word or a look, the part that needs it is one of the first two, and has taken few
pub progress_few : (asked : ArgRequest) (words : ℕ → List ℕ) (lookups : ℕ → List SeenText) → ((j : ℕ) → AreWithin 128 (lookups j)) → IsFew words lookups (progress asked words lookups)
progress_few asked words lookups within = from_few words lookups within 0 (args_of asked.rule) asked (rule_early asked.rule)
