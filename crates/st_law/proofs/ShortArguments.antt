-- Facts about the arguments of a call that takes effect: the target of a new link is short, and what is opened or cut is no link.
use native.Mathlib.Omega.{arith}
use Rattle.std.proofs.Common.{◌≡◌, ◌≤◌, ℕ, zero, suc, Bool, true, false, cond, not, ◌&&◌, ◌||◌, List, [], ◌∷◌, ◌++◌, length, slice_get, slice_index_or, option_map, unwrap_or, Option, Some, None, refl, sym, ap, subst, ◌∙◌}
use Rattle.std.proofs.lemmas.List.{append_assoc, append-nil}
use Rattle.st_base.specs.declared.ids.Ids.{Ids}
use Rattle.st_calls.specs.Argument.{args_of, argument, filename}
use Rattle.st_calls.specs.Call.{follows, reads_alone, rule_of}
use Rattle.st_calls.specs.declared.argument.ArgSpec.{ArgSpec}
use Rattle.st_calls.specs.declared.argument.ArgText.{ArgText}
use Rattle.st_calls.specs.declared.argument.Label.TheVariants.{String}
use Rattle.st_calls.specs.declared.argument.PartKind.TheVariants as kind
use Rattle.st_calls.specs.declared.call.SysCall.{SysCall}
use Rattle.st_calls.specs.declared.call.SysCall.TheVariants.{Open, Symlink, Truncate}
use Rattle.st_calls.specs.declared.judged.Snapshot.{Snapshot}
use Rattle.st_calls.specs.declared.rule.Rule.TheVariants.{Call, FsRead, FsWrite}
use Rattle.st_names.specs.Name.{Components, components_of}
use Rattle.st_names.specs.declared.seen.SeenText.{SeenText}
use Rattle.st_model.specs.Memory.{word_of}
use Rattle.st_model.specs.Spelling.{Spelled, Text, Fault, More, spell, spell_text}
use Rattle.st_model.specs.Tree.{Tree, Node}
use Rattle.st_model.specs.Walk.{is_last}
use Rattle.st_model.specs.declared.limits.TheConstants.{LONGEST_TEXT, SPACE_WORDS}
use Rattle.st_model.proofs.Spelled.{short_text_of}
use Rattle.st_effects.specs.Progress.{Progress, Word, Look, Stuck, Ready, ArgRequest, with_arg, text_arg, progress_of_spelling, progress_from, progress}
use Rattle.st_law.specs.declared.input.Input.{Input}
use Rattle.st_law.specs.Arguments.{spelled_on, spelled_within, spelled_in, Surroundings, part_of_spelling, parts_from, arguments_in, is_link_node, is_link_at, link_along, link_on_way, first_of_two, link_among}
use Rattle.st_law.specs.Messages.{Head}
use Rattle.st_law.specs.State.{State, process_in, request_of_head, progress_of_head, snapshot_with, snapshot_of_progress, snapshot_in, system_of, request_of, arguments_now, link_now}
use Rattle.st_law.proofs.ShortOutcomes.{HasFitArguments}
use Rattle.st_law.proofs.ShortTrees.{IsPlainAt}

-- the text of the first argument
abbrev pub first_text : List ArgText → List ℕ
first_text args = unwrap_or (option_map (λ arg. arg.text) (slice_get args 0)) []

-- the first argument of a call that makes a link isn't too long
abbrev pub HasShortFirst : SysCall → List ArgText → Type 0
HasShortFirst Symlink args = length (first_text args) ≤ LONGEST_TEXT
HasShortFirst _ args = Unit {0}

-- ---- texts that words spell

-- a spelled text isn't too long
abbrev IsShortSpelled : Spelled → Type 0
IsShortSpelled (Text text) = length text ≤ LONGEST_TEXT
IsShortSpelled (Fault errno) = Unit {0}
IsShortSpelled (More place) = Unit {0}

-- by the spelling
spelled_short : (at : ℕ) (words : List ℕ) (s : Spelled) → spell_text LONGEST_TEXT at words ≡ s → IsShortSpelled s
spelled_short at words (Text text) e = short_text_of LONGEST_TEXT at words text e
spelled_short at words (Fault errno) e = tt
spelled_short at words (More place) e = tt

-- by the words that were copied
spell_short : (at : ℕ) (words : List ℕ) → IsShortSpelled (spell kind.Plain at words)
spell_short at words = spelled_short at words (spell_text LONGEST_TEXT at words) refl

-- by the spelling with one more word
on_short : (further : ℕ → Spelled) (s : Spelled) → IsShortSpelled s → ((place : ℕ) → IsShortSpelled (further place)) → IsShortSpelled (spelled_on further s)
on_short further (Text text) short rest = short
on_short further (Fault errno) short rest = tt
on_short further (More place) short rest = rest place

-- by the words of a memory
within_short : (count at : ℕ) (bytes : ℕ → ℕ) (words : List ℕ) → IsShortSpelled (spelled_within count kind.Plain at bytes words)
within_short zero at bytes words = spell_short at words
within_short (suc count) at bytes words =
    on_short (λ place. spelled_within count kind.Plain at bytes (words ++ word_of bytes place ∷ [])) (spell kind.Plain at words) (spell_short at words)
    (λ place. within_short count at bytes (words ++ word_of bytes place ∷ []))

-- ---- complete arguments

-- the text of the first argument, if all are complete
abbrev ready_text : Progress → List ℕ
ready_text (Word part place) = []
ready_text (Look part name) = []
ready_text (Stuck errno) = []
ready_text (Ready args) = first_text args

-- the argument of a call that makes a link
abbrev target_spec : ArgSpec
target_spec = argument String 0 kind.Plain

-- a text before the other arguments
with_short : (text : List ℕ) (rest : Progress) → length text ≤ LONGEST_TEXT → length (ready_text (with_arg (text_arg target_spec text) rest)) ≤ LONGEST_TEXT
with_short text (Word part place) short = omega arith
with_short text (Look part name) short = omega arith
with_short text (Stuck errno) short = omega arith
with_short text (Ready args) short = short

-- the first part of a held call
held_part_short : (cwd : Components) (follow : Bool) (lookups : List SeenText) (s : Spelled) (rest : Progress) → IsShortSpelled s → length (ready_text (progress_of_spelling 0 target_spec cwd follow lookups s rest)) ≤ LONGEST_TEXT
held_part_short cwd follow lookups (Text text) rest short = with_short text rest short
held_part_short cwd follow lookups (Fault errno) rest short = omega arith
held_part_short cwd follow lookups (More place) rest short = omega arith

-- the first part of a call that is made in one step
part_short : (asked : ArgRequest) (tree : Tree) (s : Spelled) (rest : Progress) → IsShortSpelled s → length (ready_text (part_of_spelling 0 target_spec asked tree s rest)) ≤ LONGEST_TEXT
part_short asked tree (Text text) rest short = with_short text rest short
part_short asked tree (Fault errno) rest short = omega arith
part_short asked tree (More place) rest short = omega arith

-- aliasing doesn't change the rule of a call that makes a link
symlink_rule : (regs : List ℕ) (aliasing : Bool) → rule_of Symlink regs aliasing ≡ Call Symlink
symlink_rule regs true = refl
symlink_rule regs false = refl

-- the arguments of a held call
held_short : (asked : ArgRequest) (words : ℕ → List ℕ) (lookups : ℕ → List SeenText) → asked.rule ≡ Call Symlink → length (ready_text (progress asked words lookups)) ≤ LONGEST_TEXT
held_short asked words lookups is =
    subst (λ rule. length (ready_text (progress_from 0 (args_of rule) asked words lookups)) ≤ LONGEST_TEXT) (sym is)
    (held_part_short asked.cwd (follows asked.call asked.regs 0) (lookups 0) (spell kind.Plain (slice_index_or asked.regs 0 0) (words 0)) _ (spell_short (slice_index_or asked.regs 0 0) (words 0)))

-- the arguments of a call that isn't held
unheld_short : (asked : ArgRequest) (around : Surroundings) → asked.rule ≡ Call Symlink → length (ready_text (arguments_in asked around)) ≤ LONGEST_TEXT
unheld_short asked around is =
    subst (λ rule. length (ready_text (parts_from 0 (args_of rule) asked around)) ≤ LONGEST_TEXT) (sym is)
    (part_short asked around.tree (spelled_in around.bytes kind.Plain (slice_index_or asked.regs 0 0)) _ (within_short SPACE_WORDS (slice_index_or asked.regs 0 0) around.bytes []))

-- the complete arguments of a call that isn't held
pub arguments_short : (i : Input) (st : State) (t : ℕ) (call : SysCall) (regs : List ℕ) (found : List ArgText) → arguments_now i st t call regs ≡ Ready found → HasShortFirst call found
arguments_short i st t Symlink regs found ready =
    let asked : ArgRequest = record { rule = rule_of Symlink regs i.options.aliasing; call = Symlink; regs = regs; cwd = (process_in st t).cwd } in
    let around : Surroundings = record { bytes = st.memory (process_in st t).space; tree = st.tree } in
    subst (λ p. length (ready_text p) ≤ LONGEST_TEXT) ready (unheld_short asked around (symlink_rule regs i.options.aliasing))
arguments_short i st t _ regs found ready = tt

-- ---- copies

-- the rule of a held call is that of its call and registers
abbrev pub HasRule : Input → Option Head → Type 0
HasRule i None = Unit {0}
HasRule i (Some head) = head.rule ≡ rule_of head.call head.regs i.options.aliasing

-- the copies of a held call that makes a link, by its head
copies_by : (i : Input) (q : ℕ) (s : Snapshot) (o : Option Head) (words : ℕ → List ℕ) (lookups : ℕ → List SeenText) → HasRule i o → snapshot_of_progress q o (progress_of_head o words lookups) ≡ Some s → s.call ≡ Symlink → length (first_text s.parts) ≤ LONGEST_TEXT
copies_by i q s None words lookups rule copies is = cc
copies_by i q s (Some head) words lookups rule copies is =
    by (progress (request_of_head head) words lookups)
    (λ own. held_short (request_of_head head) words lookups (rule ∙ ap (λ call. rule_of call head.regs i.options.aliasing) own ∙ symlink_rule head.regs i.options.aliasing)) copies where
      by : (p : Progress) → (head.call ≡ Symlink → length (ready_text p) ≤ LONGEST_TEXT) → snapshot_of_progress q (Some head) p ≡ Some s → length (first_text s.parts) ≤ LONGEST_TEXT
      by (Word part place) short e = cc
      by (Look part name) short e = cc
      by (Stuck errno) short e = cc
      by (Ready args) short e =
          let same : snapshot_with q head args ≡ s = ap (λ o. unwrap_or o (snapshot_with q head args)) e in
          subst (λ copies. copies.call ≡ Symlink → length (first_text copies.parts) ≤ LONGEST_TEXT) same short is

-- the copies of a held call
pub copies_short : (i : Input) (st : State) (q : ℕ) (s : Snapshot) (call : SysCall) → HasRule i (st.messages q).head → snapshot_in st q ≡ Some s → s.call ≡ call → HasShortFirst call s.parts
copies_short i st q s Symlink rule copies is = copies_by i q s (st.messages q).head (st.messages q).words (st.messages q).lookups rule copies is
copies_short i st q s _ rule copies is = tt

-- ---- names without a link in the way

-- if no link is on the way to a name, whose end is followed, the name itself is no link's
unlinked_along : (tree : Tree) (done rest : Components) → is_link_at tree done ≡ false → link_along tree true done rest ≡ None → is_link_at tree (done ++ rest) ≡ false
unlinked_along tree done [] here none = ap (is_link_at tree) (append-nil done) ∙ here
unlinked_along tree done (part ∷ rest) here none =
    let first : (is_link_at tree (done ++ part ∷ []) ≡ false) × (link_along tree true (done ++ part ∷ []) rest ≡ None) =
    by (is_link_at tree (done ++ part ∷ [])) none in
    ap (is_link_at tree) (sym (append_assoc done (part ∷ []) rest)) ∙ unlinked_along tree (done ++ part ∷ []) rest first.0 first.1 where
      by : (b : Bool) → cond (b && (true || not (is_last rest))) (Some (done ++ part ∷ [])) (link_along tree true (done ++ part ∷ []) rest) ≡ None → (b ≡ false) × (link_along tree true (done ++ part ∷ []) rest ≡ None)
      by true e = cc
      by false e = (refl, e)

-- if neither of two names exists, the first does not
first_none : (o other : Option Components) → first_of_two o other ≡ None → o ≡ None
first_none None other e = refl
first_none (Some name) other e = cc

-- the root is no link
root_unlinked : (nodes : List Node) → IsPlainAt nodes 0 → is_link_node (slice_get nodes 0) ≡ false
root_unlinked [] plain = absurd plain
root_unlinked (node ∷ nodes) plain = plain

-- a name that is followed to its end is no link's, if no link is in the way
first_unlinked : (tree : Tree) (call : SysCall) (regs : List ℕ) (args : List ArgText) → IsPlainAt tree.objects 0 → follows call regs 0 ≡ true → link_among tree call regs (filename ∷ []) args ≡ None → is_link_at tree (components_of (first_text args)) ≡ false
first_unlinked tree call regs [] root follow none = root_unlinked tree.objects root
first_unlinked tree call regs (arg ∷ args) root follow none =
    let way : link_on_way tree (follows call regs 0) (components_of arg.text) ≡ None = first_none (link_on_way tree (follows call regs 0) (components_of arg.text)) _ none in
    unlinked_along tree [] (components_of arg.text) (root_unlinked tree.objects root)
    (subst (λ b. link_on_way tree b (components_of arg.text) ≡ None) follow way)

-- the argument of an open is one name
open_args : (regs : List ℕ) (aliasing : Bool) → args_of (rule_of Open regs aliasing) ≡ filename ∷ []
open_args regs true = by (reads_alone (slice_index_or regs 1 0)) where
  by : (b : Bool) → args_of (cond b FsRead FsWrite) ≡ filename ∷ []
  by true = refl
  by false = refl
open_args regs false = refl

-- the argument of a truncate is one name
truncate_args : (regs : List ℕ) (aliasing : Bool) → args_of (rule_of Truncate regs aliasing) ≡ filename ∷ []
truncate_args regs true = refl
truncate_args regs false = refl

-- the arguments of a call without a link in its way
pub fit_arguments : (i : Input) (st : State) (t : ℕ) (call : SysCall) (regs : List ℕ) (args : List ArgText) (ids : Ids) → IsPlainAt st.tree.objects 0 → link_now i st call regs args ≡ None → HasShortFirst call args → HasFitArguments (system_of i st) (request_of i st t regs args ids) call
fit_arguments i st t Open regs args ids root none short = λ unexcluded.
    first_unlinked st.tree Open regs args root (ap not unexcluded)
    (subst (λ specs. link_among st.tree Open regs specs args ≡ None) (open_args regs i.options.aliasing) none)
fit_arguments i st t Symlink regs args ids root none short = short
fit_arguments i st t Truncate regs args ids root none short =
    first_unlinked st.tree Truncate regs args root refl
    (subst (λ specs. link_among st.tree Truncate regs specs args ≡ None) (truncate_args regs i.options.aliasing) none)
fit_arguments i st t _ regs args ids root none short = tt
