-- Complete arguments of a call are fit for it: a directory's name isn't too long, and an address has a port of 16 bits.
use native.Mathlib.Omega.{arith}
use Rattle.std.proofs.Common.{◌≡◌, ◌≤◌, ◌<◌, ◌^◌, ℕ, zero, suc, Bool, true, false, cond, List, [], ◌∷◌, ◌++◌, length, slice_index_or, refl, ap, subst, sym}
use Rattle.std.proofs.lemmas.List.{length-append}
use Rattle.std.specs.Int.{w64, to_le_bytes}
use Rattle.std.specs.List.{filter, flat_map}
use Rattle.st_base.specs.declared.errno.Errno.{Errno}
use Rattle.st_calls.specs.Argument.{args_of, argument, filename}
use Rattle.st_calls.specs.Call.{follows, rule_of}
use Rattle.st_calls.specs.declared.argument.ArgSpec.{ArgSpec}
use Rattle.st_calls.specs.declared.argument.ArgText.{ArgText}
use Rattle.st_calls.specs.declared.argument.Label.TheVariants.{SockAddr}
use Rattle.st_calls.specs.declared.argument.PartKind.TheVariants as kind
use Rattle.st_calls.specs.declared.call.SysCall.{SysCall}
use Rattle.st_calls.specs.declared.call.SysCall.TheVariants.{Bind, Chdir, Connect}
use Rattle.st_calls.specs.declared.rule.Rule.TheVariants.{Call}
use Rattle.st_names.specs.Name.{Components, components_of, is_component, printed_name, slash, split_at_slashes, with_slash}
use Rattle.st_names.specs.declared.seen.SeenText.{SeenText}
use Rattle.st_names.proofs.Spelled.{slashed-parts}
use Rattle.st_model.specs.Memory.{word_of}
use Rattle.st_model.specs.Spelling.{Spelled, Text, Fault, More, address_text, spell}
use Rattle.st_model.specs.Tree.{Tree, look}
use Rattle.st_model.specs.Walk as walk
use Rattle.st_model.specs.Walk.{WalkState, resolve_within, start_walk, walk_through}
use Rattle.st_model.specs.declared.limits.TheConstants.{SPACE_WORDS}
use Rattle.st_model.proofs.Walks.{IsShortWalk, walk_short}
use Rattle.st_effects.specs.Progress.{ArgRequest, Progress, Word, Look, Stuck, Ready, progress, progress_from, progress_of_spelling, progress_of_walk}
use Rattle.st_effects.specs.Sockets.{port_in}
use Rattle.st_exec_sys.proofs.Ports.{port_of_address, two_bytes}
use Rattle.st_law.specs.declared.input.Input.{Input}
use Rattle.st_law.specs.Arguments.{Surroundings, arguments_in, part_of_spelling, parts_from, spelled_in, spelled_on, spelled_within}
use Rattle.st_law.specs.State.{State, arguments_now, process_in}
use Rattle.st_system.specs.Fit.{AreFit, first_text}
use Rattle.st_system.proofs.Short.{IsShort}

-- ---- names that are printed and read again

flat_fewer : (b : Bool) (part : List ℕ) (some all : Components) → length (flat_map with_slash some) ≤ length (flat_map with_slash all) → length (flat_map with_slash (cond b (part ∷ some) some)) ≤ length (flat_map with_slash (part ∷ all))
flat_fewer true part some all low = let x = length-append (with_slash part) (flat_map with_slash some) in let y = length-append (with_slash part) (flat_map with_slash all) in omega (arith, low, x, y)
flat_fewer false part some all low = let y = length-append (with_slash part) (flat_map with_slash all) in omega (arith, low, y)

flat_filtered : (parts : Components) → length (flat_map with_slash (filter is_component parts)) ≤ length (flat_map with_slash parts)
flat_filtered [] = omega arith
flat_filtered (part ∷ parts) = flat_fewer (is_component part) part (filter is_component parts) parts (flat_filtered parts)

printed_flat : (parts : Components) (longest : ℕ) → 1 ≤ longest → length (flat_map with_slash parts) ≤ longest → length (printed_name parts) ≤ longest
printed_flat [] longest some low = some
printed_flat (part ∷ parts) longest some low = low

-- a text that begins with a slash
slashed : (text : List ℕ) → length (printed_name (components_of (slash ∷ text))) ≤ suc (length text)
slashed text = printed_flat (components_of (slash ∷ text)) (suc (length text)) (omega arith)
    (let few = flat_filtered (split_at_slashes text) in let all = ap length (slashed-parts text) in omega (arith, few, all))

reprinted : (name : Components) → IsShort name → IsShort (components_of (printed_name name))
reprinted [] short = short
reprinted (part ∷ rest) short = let low = slashed (part ++ flat_map with_slash rest) in omega (arith, low, short)

-- ---- walks

by_state : (w : WalkState) → ((name : Components) → w ≡ walk.Name name → IsShort name) → IsShortWalk w
by_state (walk.Name name) f = f name refl
by_state (walk.Next name) f = tt
by_state (walk.Fault errno) f = tt

either_fault : (b : Bool) (errno : Errno) (w : WalkState) → IsShortWalk w → IsShortWalk (cond b (walk.Fault errno) w)
either_fault true errno w x = tt
either_fault false errno w x = x

start_short : (text : List ℕ) (cwd : Components) (follow : Bool) (lookups : List SeenText) → IsShortWalk (start_walk text cwd follow lookups)
start_short text cwd follow lookups = search (either_fault, by_state, walk_short)

through_short : (further : Components → WalkState) (w : WalkState) → IsShortWalk w → ((name : Components) → IsShortWalk (further name)) → IsShortWalk (walk_through further w)
through_short further (walk.Name name) x more = x
through_short further (walk.Next name) x more = more name
through_short further (walk.Fault errno) x more = tt

resolved_short : (looks : ℕ) (tree : Tree) (cwd : Components) (text : List ℕ) (follow : Bool) (lookups : List SeenText) → IsShortWalk (resolve_within looks tree cwd text follow lookups)
resolved_short zero tree cwd text follow lookups = start_short text cwd follow lookups
resolved_short (suc looks) tree cwd text follow lookups =
    through_short (λ name. resolve_within looks tree cwd text follow (lookups ++ look tree name ∷ [])) (start_walk text cwd follow lookups) (start_short text cwd follow lookups)
    (λ name. resolved_short looks tree cwd text follow (lookups ++ look tree name ∷ []))

-- ---- addresses

-- a text that is spelled has a port of 16 bits
abbrev HasPortText : Spelled → Type 0
HasPortText (Text text) = port_in text < 2 ^ 16
HasPortText (Fault errno) = Unit {0}
HasPortText (More place) = Unit {0}

one_of_two : (b : Bool) (s other : Spelled) → HasPortText s → HasPortText other → HasPortText (cond b s other)
one_of_two true s other x y = x
one_of_two false s other x y = y

port_small : (word : ℕ) → port_in (address_text (to_le_bytes w64 word)) < 2 ^ 16
port_small word = let small = two_bytes word in let port = port_of_address (to_le_bytes w64 word) (omega (arith, small)) in omega (arith, small, port)

fault_fits : (errno : Errno) → HasPortText (Fault errno)
fault_fits errno = tt

more_fits : (place : ℕ) → HasPortText (More place)
more_fits place = tt

spell_port : (at : ℕ) (words : List ℕ) → HasPortText (spell kind.Addr at words)
spell_port at [] = search (one_of_two, fault_fits, more_fits)
spell_port at (word ∷ words) = search (one_of_two, fault_fits, port_small)

on_port : (further : ℕ → Spelled) (s : Spelled) → HasPortText s → ((place : ℕ) → HasPortText (further place)) → HasPortText (spelled_on further s)
on_port further (Text text) x more = x
on_port further (Fault errno) x more = tt
on_port further (More place) x more = more place

within_port : (count at : ℕ) (bytes : ℕ → ℕ) (words : List ℕ) → HasPortText (spelled_within count kind.Addr at bytes words)
within_port zero at bytes words = spell_port at words
within_port (suc count) at bytes words =
    on_port (λ place. spelled_within count kind.Addr at bytes (words ++ word_of bytes place ∷ [])) (spell kind.Addr at words) (spell_port at words)
    (λ place. within_port count at bytes (words ++ word_of bytes place ∷ []))

-- ---- arguments

-- if the arguments are complete, they are fit for the call
abbrev IsFitProgress : SysCall → Progress → Type 0
IsFitProgress call (Word part place) = Unit {0}
IsFitProgress call (Look part name) = Unit {0}
IsFitProgress call (Stuck errno) = Unit {0}
IsFitProgress call (Ready args) = AreFit call args

walked : (spec : ArgSpec) (w : WalkState) → IsShortWalk w → IsFitProgress Chdir (progress_of_walk 0 spec w (Ready []))
walked spec (walk.Name name) x = reprinted name x
walked spec (walk.Next name) x = tt
walked spec (walk.Fault errno) x = tt

-- the name of a directory, for a call that is made in one step
step_name : (asked : ArgRequest) (tree : Tree) (s : Spelled) → IsFitProgress Chdir (part_of_spelling 0 filename asked tree s (Ready []))
step_name asked tree (Text text) = walked filename _ (resolved_short (walk.most_lookups tree text) tree asked.cwd text (follows asked.call asked.regs 0) [])
step_name asked tree (Fault errno) = tt
step_name asked tree (More place) = tt

step_port : (call : SysCall) → ((args : List ArgText) → port_in (first_text args) < 2 ^ 16 → AreFit call args) → (asked : ArgRequest) (tree : Tree) (s : Spelled) → HasPortText s
    → IsFitProgress call (part_of_spelling 0 (argument SockAddr 1 kind.Addr) asked tree s (Ready []))
step_port call fits asked tree (Text text) x = fits _ x
step_port call fits asked tree (Fault errno) x = tt
step_port call fits asked tree (More place) x = tt

-- the name of a directory, for a held call
held_name : (cwd : Components) (follow : Bool) (lookups : List SeenText) (s : Spelled) → IsFitProgress Chdir (progress_of_spelling 0 filename cwd follow lookups s (Ready []))
held_name cwd follow lookups (Text text) = walked filename _ (start_short text cwd follow lookups)
held_name cwd follow lookups (Fault errno) = tt
held_name cwd follow lookups (More place) = tt

held_port : (call : SysCall) → ((args : List ArgText) → port_in (first_text args) < 2 ^ 16 → AreFit call args) → (cwd : Components) (follow : Bool) (lookups : List SeenText) (s : Spelled) → HasPortText s
    → IsFitProgress call (progress_of_spelling 0 (argument SockAddr 1 kind.Addr) cwd follow lookups s (Ready []))
held_port call fits cwd follow lookups (Text text) x = fits _ x
held_port call fits cwd follow lookups (Fault errno) x = tt
held_port call fits cwd follow lookups (More place) x = tt

-- aliasing doesn't change the rules of these calls
rule_chdir : (regs : List ℕ) (aliasing : Bool) → rule_of Chdir regs aliasing ≡ Call Chdir
rule_chdir regs true = refl
rule_chdir regs false = refl

rule_bind : (regs : List ℕ) (aliasing : Bool) → rule_of Bind regs aliasing ≡ Call Bind
rule_bind regs true = refl
rule_bind regs false = refl

rule_connect : (regs : List ℕ) (aliasing : Bool) → rule_of Connect regs aliasing ≡ Call Connect
rule_connect regs true = refl
rule_connect regs false = refl

any_fits : (call : SysCall) (p : Progress) → ((args : List ArgText) → AreFit call args) → IsFitProgress call p
any_fits call (Word part place) fits = tt
any_fits call (Look part name) fits = tt
any_fits call (Stuck errno) fits = tt
any_fits call (Ready args) fits = fits args

module _ (regs : List ℕ) (cwd : Components) (aliasing : Bool) where
  -- the request for the arguments of a call
  abbrev asked : SysCall → ArgRequest
  asked call = record { rule = rule_of call regs aliasing; call = call; regs = regs; cwd = cwd }

  in_one_step : (call : SysCall) (around : Surroundings) → IsFitProgress call (arguments_in (asked call) around)
  in_one_step Chdir around = subst (λ rule. IsFitProgress Chdir (parts_from 0 (args_of rule) (asked Chdir) around)) (sym (rule_chdir regs aliasing))
      (step_name (asked Chdir) around.tree (spelled_in around.bytes kind.Name (slice_index_or regs 0 0)))
  in_one_step Bind around = subst (λ rule. IsFitProgress Bind (parts_from 0 (args_of rule) (asked Bind) around)) (sym (rule_bind regs aliasing))
      (step_port Bind (λ args x. x) (asked Bind) around.tree (spelled_in around.bytes kind.Addr (slice_index_or regs 1 0)) (within_port SPACE_WORDS (slice_index_or regs 1 0) around.bytes []))
  in_one_step Connect around = subst (λ rule. IsFitProgress Connect (parts_from 0 (args_of rule) (asked Connect) around)) (sym (rule_connect regs aliasing))
      (step_port Connect (λ args x. x) (asked Connect) around.tree (spelled_in around.bytes kind.Addr (slice_index_or regs 1 0)) (within_port SPACE_WORDS (slice_index_or regs 1 0) around.bytes []))
  in_one_step call around = any_fits call (arguments_in (asked call) around) (λ args. tt)

  while_held : (call : SysCall) (words : ℕ → List ℕ) (lookups : ℕ → List SeenText) → IsFitProgress call (progress (asked call) words lookups)
  while_held Chdir words lookups = subst (λ rule. IsFitProgress Chdir (progress_from 0 (args_of rule) (asked Chdir) words lookups)) (sym (rule_chdir regs aliasing))
      (held_name cwd (follows Chdir regs 0) (lookups 0) (spell kind.Name (slice_index_or regs 0 0) (words 0)))
  while_held Bind words lookups = subst (λ rule. IsFitProgress Bind (progress_from 0 (args_of rule) (asked Bind) words lookups)) (sym (rule_bind regs aliasing))
      (held_port Bind (λ args x. x) cwd (follows Bind regs 1) (lookups 0) (spell kind.Addr (slice_index_or regs 1 0) (words 0)) (spell_port (slice_index_or regs 1 0) (words 0)))
  while_held Connect words lookups = subst (λ rule. IsFitProgress Connect (progress_from 0 (args_of rule) (asked Connect) words lookups)) (sym (rule_connect regs aliasing))
      (held_port Connect (λ args x. x) cwd (follows Connect regs 1) (lookups 0) (spell kind.Addr (slice_index_or regs 1 0) (words 0)) (spell_port (slice_index_or regs 1 0) (words 0)))
  while_held call words lookups = any_fits call (progress (asked call) words lookups) (λ args. tt)

-- the arguments of a call that is made in one step
pub step_fit : (i : Input) (st : State) (t : ℕ) (call : SysCall) (regs : List ℕ) (args : List ArgText) → arguments_now i st t call regs ≡ Ready args → AreFit call args
step_fit i st t call regs args ready =
    subst (IsFitProgress call) ready (in_one_step regs (process_in st t).cwd i.options.aliasing call (record { bytes = st.memory (process_in st t).space; tree = st.tree }))

-- the copies of a held call
pub held_fit : (cwd : Components) (call : SysCall) (regs : List ℕ) (aliasing : Bool) (words : ℕ → List ℕ) (lookups : ℕ → List SeenText) (args : List ArgText)
    → progress (record { rule = rule_of call regs aliasing; call = call; regs = regs; cwd = cwd }) words lookups ≡ Ready args → AreFit call args
held_fit cwd call regs aliasing words lookups args ready = subst (IsFitProgress call) ready (while_held regs cwd aliasing call words lookups)
