-- Arguments in their order: each is complete, or the first that isn't decides.
use native.Mathlib.Omega.{arith}
use Rattle.std.proofs.Common.{◌≡◌, ◌<◌, ℕ, suc, ◌+◌, List, [], ◌∷◌, ◌++◌, length, drop, get_or, refl, sym, ap, ◌∙◌, add-one, drop-cons}
use Rattle.st_base.specs.declared.errno.Errno.{Errno}
use Rattle.st_calls.specs.Argument.{args_of}
use Rattle.st_calls.specs.declared.argument.ArgSpec.{ArgSpec}
use Rattle.st_calls.specs.declared.argument.ArgText.{ArgText}
use Rattle.st_calls.specs.declared.argument.PartKind.{PartKind}
use Rattle.st_calls.specs.declared.argument.PartKind.TheVariants as kind
use Rattle.st_effects.specs.Progress.{ArgRequest, Progress, Stuck, Ready, progress_of_walk, text_arg, with_arg, is_followed}
use Rattle.st_law.specs.Arguments.{Surroundings, arguments_in, part_of_spelling, part_of_text, parts_from}
use Rattle.st_model.specs.Spelling.{Spelled, Text, Fault}
use Rattle.st_model.specs.Walk as walk
use Rattle.st_names.specs.Name.{Components, printed_name}
use Rattle.std.specs.Prelude.{slice_index_or}
use Rattle.std.proofs.lemmas.List.{get_or_default}
use Rattle.st_arguments.specs.Parts.{part_in, IsArgument, IsFaultOf, IsSpelledBy}

-- the progress of arguments that come after these complete ones
abbrev pub with_args : List ArgText → Progress → Progress
with_args [] rest = rest
with_args (arg ∷ args) rest = with_arg arg (with_args args rest)

pub with_args-push : (args : List ArgText) (arg : ArgText) (rest : Progress) → with_args (args ++ arg ∷ []) rest ≡ with_args args (with_arg arg rest)
with_args-push [] arg rest = refl
with_args-push (first ∷ args) arg rest = ap (with_arg first) (with_args-push args arg rest)

pub with_args-stuck : (args : List ArgText) (errno : Errno) → with_args args (Stuck errno) ≡ Stuck errno
with_args-stuck [] errno = refl
with_args-stuck (first ∷ args) errno = ap (with_arg first) (with_args-stuck args errno)

pub with_args-ready : (args : List ArgText) → with_args args (Ready []) ≡ Ready args
with_args-ready [] = refl
with_args-ready (first ∷ args) = ap (with_arg first) (with_args-ready args)

-- ---- one argument

module _ (asked : ArgRequest) (around : Surroundings) (spec : ArgSpec) where
  -- an argument with this spelling
  spells : (s : Spelled) → IsSpelledBy around.bytes spec.kind (slice_index_or asked.regs spec.register 0) s → (j : ℕ) (rest : Progress) → part_in asked around spec j rest ≡ part_of_spelling j spec asked around.tree s rest
  spells s x j rest = ap (λ (s : Spelled). part_of_spelling j spec asked around.tree s rest) x.is

  -- an argument with a fault in memory
  pub fault_in_memory : (errno : Errno) → IsSpelledBy around.bytes spec.kind (slice_index_or asked.regs spec.register 0) (Fault errno) → IsFaultOf asked around spec errno
  fault_in_memory errno x = record { is = λ j rest. spells (Fault errno) x j rest }

  module _ (text : List ℕ) (spelled : IsSpelledBy around.bytes spec.kind (slice_index_or asked.regs spec.register 0) (Text text)) where
    named : spec.kind ≡ kind.Name → (j : ℕ) (rest : Progress) → part_in asked around spec j rest ≡ progress_of_walk j spec (walk.resolve around.tree asked.cwd text (is_followed asked spec)) rest
    named name j rest = spells (Text text) spelled j rest ∙ ap (λ (k : PartKind). part_of_text k j spec asked around.tree text rest) name

    -- a name that can't be resolved
    pub fault_of_name : spec.kind ≡ kind.Name → (errno : Errno) → walk.resolve around.tree asked.cwd text (is_followed asked spec) ≡ walk.Fault errno → IsFaultOf asked around spec errno
    fault_of_name name errno e = record { is = λ j rest. named name j rest ∙ ap (λ (w : walk.WalkState). progress_of_walk j spec w rest) e }

    -- a name, printed as it is resolved
    pub name_argument : spec.kind ≡ kind.Name → (printed : List ℕ) → (name : Components) × (walk.resolve around.tree asked.cwd text (is_followed asked spec) ≡ walk.Name name) × (printed ≡ printed_name name) → IsArgument asked around spec (text_arg spec printed)
    name_argument name printed found = record {
      is = λ j rest.
          named name j rest ∙ ap (λ (w : walk.WalkState). progress_of_walk j spec w rest) found.1
          ∙ ap (λ (t : List ℕ). with_arg (text_arg spec t) rest) (sym found.2);
    }

    plain : (k : PartKind) → (k ≡ kind.Name → ⊥) → (j : ℕ) (rest : Progress) → part_of_text k j spec asked around.tree text rest ≡ with_arg (text_arg spec text) rest
    plain kind.Name differs j rest = absurd (differs refl)
    plain kind.Plain differs j rest = refl
    plain kind.Addr differs j rest = refl
    plain kind.Argv differs j rest = refl
    plain kind.Decimal differs j rest = refl
    plain kind.Octal differs j rest = refl
    plain kind.Domain differs j rest = refl
    plain kind.SockType differs j rest = refl

    -- any other text
    pub text_argument : (spec.kind ≡ kind.Name → ⊥) → IsArgument asked around spec (text_arg spec text)
    text_argument differs = record { is = λ j rest. spells (Text text) spelled j rest ∙ plain spec.kind differs j rest }

-- ---- all of them

-- the first `count` of all arguments are these
pub record HasCome (asked : ArgRequest) (around : Surroundings) (count : ℕ) (args : List ArgText) : Type 0 where
  pub is : arguments_in asked around ≡ with_args args (parts_from count (drop count (args_of asked.rule)) asked around)

pub come_first : (asked : ArgRequest) (around : Surroundings) → HasCome asked around 0 []
come_first asked around = record { is = refl }

module _ (asked : ArgRequest) (around : Surroundings) (count : ℕ) (args : List ArgText) (come : HasCome asked around count args) where
  next : (spec : ArgSpec) → count < length (args_of asked.rule) → spec ≡ get_or (args_of asked.rule) count spec → arguments_in asked around ≡ with_args args (part_in asked around spec count (parts_from (count + 1) (drop (count + 1) (args_of asked.rule)) asked around))
  next spec within is =
      come.is ∙ ap (λ (specs : List ArgSpec). with_args args (parts_from count specs asked around))
      (drop-cons (args_of asked.rule) count spec within ∙ ap (λ (s : ArgSpec). s ∷ drop (suc count) (args_of asked.rule)) (sym is) ∙ ap (λ (n : ℕ). spec ∷ drop n (args_of asked.rule)) (sym (add-one count)))

  -- one more argument that is complete
  pub come_on : (spec : ArgSpec) (arg : ArgText) → count < length (args_of asked.rule) → spec ≡ get_or (args_of asked.rule) count spec → IsArgument asked around spec arg → HasCome asked around (count + 1) (args ++ arg ∷ [])
  come_on spec arg within is there = record {
    is = next spec within is ∙ ap (with_args args) (there.is count _) ∙ sym (with_args-push args arg _);
  }

  -- an argument with a fault
  pub come_stuck : (spec : ArgSpec) (errno : Errno) → count < length (args_of asked.rule) → spec ≡ get_or (args_of asked.rule) count spec → IsFaultOf asked around spec errno → arguments_in asked around ≡ Stuck errno
  come_stuck spec errno within is fault = next spec within is ∙ ap (with_args args) (fault.is count _) ∙ with_args-stuck args errno

  -- no argument is left
  pub come_ready : count ≡ length (args_of asked.rule) → arguments_in asked around ≡ Ready args
  come_ready all = come.is ∙ ap (λ (specs : List ArgSpec). with_args args (parts_from count specs asked around)) (ap (λ (n : ℕ). drop n (args_of asked.rule)) all ∙ drop_all (args_of asked.rule)) ∙ with_args-ready args where
    drop_all : (specs : List ArgSpec) → drop (length specs) specs ≡ []
    drop_all [] = refl
    drop_all (spec ∷ specs) = drop_all specs

-- ---- the arguments as they are read

-- an item that is read is the one at its index
pub item_read : (items specs : List ArgSpec) (i : ℕ) (d : ArgSpec) → items ≡ specs → i < length items → (i < length specs) × (get_or items i d ≡ get_or specs i (get_or items i d))
item_read items specs i d is within =
    let l = ap length is in
    let low : i < length specs = omega (arith, l, within) in
    let same : get_or items i d ≡ get_or specs i d = ap (λ (s : List ArgSpec). get_or s i d) is in
    (low, same ∙ get_or_default specs i d (get_or items i d) low)
