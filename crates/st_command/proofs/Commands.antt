-- Words spell exactly the command that is read from them.
use Rattle.std.proofs.Common.{◌≡◌, ◌≢◌, ℕ, ◌≤◌, arith, Bool, true, false, ◌&&◌, ◌==◌, not, if◌then◌else◌, nat_le, List, [], ◌∷◌, ◌++◌, codes, Option, Some, None, option_map, refl, ap, sym, ◌∙◌, subst, leb-true, le-leb}
use Rattle.std.proofs.lemmas.Bool.{and_parts, and_from, eqb-true}
use Rattle.std.proofs.lemmas.Slice.Eq.{bytes_eq-Decides}
use Rattle.std.specs.Prelude.{IfSome}
use Rattle.std.specs.List.{list_all}
use Rattle.std.specs.Str.{bytes_eq}
use Rattle.st_command.specs.Words.{Word, has_dash, rounds_in}
use Rattle.st_command.specs.Given.{GivenOption, all_spelled, AreWithin, count_of, options_in}
use Rattle.st_command.specs.Command.{RunWords, step_words, replay_words, run_words, check_words, run_with, run_in, gen_in, single_kinds, unchecked_kinds, may_be_given, may_be_replayed, may_be_checked, step_with, step_in, replay_with, replay_in, check_with, check_in}
use Rattle.st_command.specs.Grammar.{MayBeGiven, SpellsStep, SpellsReplay, SpellsRun, SpellsGen, maybe_word, MayBeOperand, SpellsCheck, SpellsCommand}
use Rattle.st_command.specs.Reading.{command_in, run_of_words, gen_of_words}
use Rattle.st_command.specs.declared.command.Command.{Command}
use Rattle.st_command.specs.declared.command.Command.TheVariants as command
use Rattle.st_command.specs.declared.given.Kind.{Kind}
use Rattle.st_command.specs.declared.given.Kind.TheVariants as kind
use Rattle.st_command.proofs.Numbers.{ArePositive, positive_in-decimal, positive_in-sound}
use Rattle.st_command.proofs.Options.{pick, if_mapped, all_options, WereTaken, options_were_taken}

-- ---- options that may be given together

may_from : (given : List GivenOption) → MayBeGiven given → may_be_given given ≡ true
may_from given may =
    and_from _ _ (le-leb _ _ may.few_policies) (
    and_from _ _ (once kind.Mode (λ e. cc)) (
    and_from _ _ (once kind.Inherit (λ e. cc)) (
    and_from _ _ (once kind.Unaliased (λ e. cc)) (
    and_from _ _ (once kind.Ids (λ e. cc)) (
    and_from _ _ (once kind.Workers (λ e. cc)) (
    and_from _ _ (once kind.Print (λ e. cc)) (
    and_from _ _ (once kind.Linux (λ e. cc)) refl)))))))
  where
    once : (k : Kind) → k ≢ kind.Policy → nat_le (count_of k given) 1 ≡ true
    once k other = le-leb (count_of k given) 1 (may.once k other)

seven_parts : (a b c d e f g : Bool) → (a && (b && (c && (d && (e && (f && (g && true))))))) ≡ true → (a ≡ true) × (b ≡ true) × (c ≡ true) × (d ≡ true) × (e ≡ true) × (f ≡ true) × (g ≡ true)
seven_parts a b c d e f g h =
    let p = and_parts a (b && (c && (d && (e && (f && (g && true)))))) h in
    let q = and_parts b (c && (d && (e && (f && (g && true))))) p.1 in
    let r = and_parts c (d && (e && (f && (g && true)))) q.1 in
    let s = and_parts d (e && (f && (g && true))) r.1 in
    let t = and_parts e (f && (g && true)) s.1 in
    let u = and_parts f (g && true) t.1 in
    (p.0, q.0, r.0, s.0, t.0, u.0, (and_parts g true u.1).0)

abbrev is_single : List GivenOption → Kind → Bool
is_single given k = nat_le (count_of k given) 1

single_parts : (given : List GivenOption) → list_all (is_single given) single_kinds ≡ true → (is_single given kind.Mode ≡ true) × (is_single given kind.Inherit ≡ true) × (is_single given kind.Unaliased ≡ true) × (is_single given kind.Ids ≡ true) × (is_single given kind.Workers ≡ true) × (is_single given kind.Print ≡ true) × (is_single given kind.Linux ≡ true)
single_parts given h = seven_parts (is_single given kind.Mode) (is_single given kind.Inherit) (is_single given kind.Unaliased) (is_single given kind.Ids) (is_single given kind.Workers) (is_single given kind.Print) (is_single given kind.Linux) h

single_of : (given : List GivenOption) → list_all (is_single given) single_kinds ≡ true → (k : Kind) → k ≢ kind.Policy → count_of k given ≤ 1
single_of given h kind.Policy other = absurd (other refl)
single_of given h kind.Mode other = leb-true (count_of kind.Mode given) 1 (single_parts given h).0
single_of given h kind.Inherit other = leb-true (count_of kind.Inherit given) 1 (single_parts given h).1
single_of given h kind.Unaliased other = leb-true (count_of kind.Unaliased given) 1 (single_parts given h).2
single_of given h kind.Ids other = leb-true (count_of kind.Ids given) 1 (single_parts given h).3
single_of given h kind.Workers other = leb-true (count_of kind.Workers given) 1 (single_parts given h).4
single_of given h kind.Print other = leb-true (count_of kind.Print given) 1 (single_parts given h).5
single_of given h kind.Linux other = leb-true (count_of kind.Linux given) 1 (single_parts given h).6

to_may : (given : List GivenOption) → may_be_given given ≡ true → MayBeGiven given
to_may given may =
    let both : ((nat_le (count_of kind.Policy given) 8 ≡ true) × (list_all (is_single given) single_kinds ≡ true)) = and_parts (nat_le (count_of kind.Policy given) 8) (list_all (is_single given) single_kinds) may in
    record { few_policies = leb-true (count_of kind.Policy given) 8 both.0; once = single_of given both.1 }

-- ---- what is spelled is read

and_three : (a b c : Bool) → a ≡ false → b ≡ false → c ≡ true → (not a && (not b && c)) ≡ true
and_three a b c x y z = rw (x, y, z) refl

step_read : (given : List GivenOption) (script schedule : Word) → AreWithin given → MayBeGiven given → has_dash script ≡ false → has_dash schedule ≡ false → command_in (codes "step" ∷ (all_spelled given ++ script ∷ schedule ∷ [])) ≡ Some (command.Step (step_words given script schedule))
step_read given script schedule within may one two =
    ap (λ taken. option_map command.Step (step_in taken)) (all_options given script (schedule ∷ []) within one) ∙
    ap (λ (b : Bool). option_map command.Step (if b then Some (step_words given script schedule) else None)) (and_three (has_dash script) (has_dash schedule) (may_be_given given) one two (may_from given may))

replayed_from : (given : List GivenOption) → MayBeGiven given → count_of kind.Print given ≡ 0 → may_be_replayed given ≡ true
replayed_from given may none = and_from _ _ (may_from given may) (ap (λ n. n == 0) none)

replay_read : (given : List GivenOption) (script trace : Word) → AreWithin given → MayBeGiven given → count_of kind.Print given ≡ 0 → has_dash script ≡ false → has_dash trace ≡ false → command_in (codes "replay" ∷ (all_spelled given ++ script ∷ trace ∷ [])) ≡ Some (command.Replay (replay_words given script trace))
replay_read given script trace within may none one two =
    ap (λ taken. option_map command.Replay (replay_in taken)) (all_options given script (trace ∷ []) within one) ∙
    ap (λ (b : Bool). option_map command.Replay (if b then Some (replay_words given script trace) else None)) (and_three (has_dash script) (has_dash trace) (may_be_replayed given) one two (replayed_from given may none))

run_read : (given : List GivenOption) (script : Word) → AreWithin given → MayBeGiven given → has_dash script ≡ false → run_of_words (codes "run" ∷ (all_spelled given ++ script ∷ [])) ≡ Some (run_words given script)
run_read given script within may one =
    ap run_in (all_options given script [] within one) ∙
    ap (λ (b : Bool). if b then Some (run_words given script) else None) (and_from _ _ (ap not one) (may_from given may))

run_of_spelled : (words : List Word) (run : RunWords) → SpellsRun words run → run_of_words words ≡ Some run
run_of_spelled words run is = ap run_of_words is.words_are ∙ run_read is.given run.script is.within is.together is.script ∙ ap (λ r. Some r) (sym is.asked)

gen_of_spelled : (words : List Word) (rounds : ℕ) → SpellsGen words rounds → gen_of_words words ≡ Some rounds
gen_of_spelled words rounds is = ap gen_of_words is.words_are ∙ positive_in-decimal 512 rounds (omega (arith, is.most)) is.least is.most

is_none : (k : Kind) (given : List GivenOption) → count_of k given ≡ 0 → (count_of k given == 0) ≡ true
is_none k given none = ap (λ n. n == 0) none

checked_from : (given : List GivenOption) → MayBeGiven given → ((k : Kind) → k ≢ kind.Ids → k ≢ kind.Linux → count_of k given ≡ 0) → may_be_checked given ≡ true
checked_from given may none =
    and_from _ _ (may_from given may) (
    and_from _ _ (is_none kind.Policy given (none kind.Policy (λ e. cc) (λ e. cc))) (
    and_from _ _ (is_none kind.Mode given (none kind.Mode (λ e. cc) (λ e. cc))) (
    and_from _ _ (is_none kind.Inherit given (none kind.Inherit (λ e. cc) (λ e. cc))) (
    and_from _ _ (is_none kind.Unaliased given (none kind.Unaliased (λ e. cc) (λ e. cc))) (
    and_from _ _ (is_none kind.Workers given (none kind.Workers (λ e. cc) (λ e. cc))) (
    and_from _ _ (is_none kind.Print given (none kind.Print (λ e. cc) (λ e. cc))) refl))))))

with_read : (given : List GivenOption) (policy : Word) (script : Option Word) → may_be_checked given ≡ true → has_dash policy ≡ false → MayBeOperand script →
    check_with given (policy ∷ maybe_word script) ≡ Some (check_words given policy script)
with_read given policy None may one two =
    ap (λ (b : Bool). if b then Some (check_words given policy None) else None) (and_from _ _ (ap not one) may)
with_read given policy (Some script) may one two =
    ap (λ (b : Bool). if b then Some (check_words given policy (Some script)) else None) (and_three (has_dash policy) (has_dash script) (may_be_checked given) one two may)

check_read : (given : List GivenOption) (policy : Word) (script : Option Word) → AreWithin given → may_be_checked given ≡ true → has_dash policy ≡ false → MayBeOperand script →
    command_in (codes "check" ∷ (all_spelled given ++ policy ∷ maybe_word script)) ≡ Some (command.Check (check_words given policy script))
check_read given policy script within may one two =
    ap (λ taken. option_map command.Check (check_in taken)) (all_options given policy (maybe_word script) within one) ∙
    ap (option_map command.Check) (with_read given policy script may one two)

read_of_spelled : (words : List Word) (c : Command) → SpellsCommand words c → command_in words ≡ Some c
read_of_spelled words (command.Step step) is =
    ap command_in is.words_are ∙ step_read is.given step.script step.schedule is.within is.together is.script is.schedule ∙ ap (λ s. Some (command.Step s)) (sym is.asked)
read_of_spelled words (command.Replay replay) is =
    ap command_in is.words_are ∙ replay_read is.given replay.script replay.trace is.within is.together is.no_print is.script is.trace ∙ ap (λ r. Some (command.Replay r)) (sym is.asked)
read_of_spelled words (command.Check check) is =
    ap command_in is.words_are ∙
    check_read is.given check.policy check.script is.within (checked_from is.given is.together is.no_more) is.policy is.script ∙
    ap (λ c. Some (command.Check c)) (sym is.asked)

-- ---- what is read is spelled

if_some : {A : Type 0} (P : A → Type 0) (b : Bool) (o : Option A) → (b ≡ true → IfSome o P) → IfSome (if b then o else None) P
if_some P true o f = f refl
if_some P false o f = tt

no_dash : (b : Bool) → not b ≡ true → b ≡ false
no_dash true e = cc
no_dash false e = refl

step_spelled : (given : List GivenOption) (rest words : List Word) → words ≡ all_spelled given ++ rest → AreWithin given → IfSome (step_with given rest) (SpellsStep (codes "step" ∷ words))
step_spelled given [] words are within = tt
step_spelled given (a ∷ []) words are within = tt
step_spelled given (script ∷ schedule ∷ []) words are within =
    if_some (SpellsStep (codes "step" ∷ words)) (not (has_dash script) && (not (has_dash schedule) && may_be_given given)) (Some (step_words given script schedule)) (λ all.
    let p : ((not (has_dash script) ≡ true) × ((not (has_dash schedule) && may_be_given given) ≡ true)) = and_parts (not (has_dash script)) (not (has_dash schedule) && may_be_given given) all in
    let q : ((not (has_dash schedule) ≡ true) × (may_be_given given ≡ true)) = and_parts (not (has_dash schedule)) (may_be_given given) p.1 in
    record {
      given = given;
      within = within;
      together = to_may given q.1;
      script = no_dash (has_dash script) p.0;
      schedule = no_dash (has_dash schedule) q.0;
      words_are = ap (λ ws. codes "step" ∷ ws) are;
      asked = refl;
    })
step_spelled given (a ∷ b ∷ c ∷ rest) words are within = tt

replay_spelled : (given : List GivenOption) (rest words : List Word) → words ≡ all_spelled given ++ rest → AreWithin given → IfSome (replay_with given rest) (SpellsReplay (codes "replay" ∷ words))
replay_spelled given [] words are within = tt
replay_spelled given (a ∷ []) words are within = tt
replay_spelled given (script ∷ trace ∷ []) words are within =
    if_some (SpellsReplay (codes "replay" ∷ words)) (not (has_dash script) && (not (has_dash trace) && may_be_replayed given)) (Some (replay_words given script trace)) (λ all.
    let p : ((not (has_dash script) ≡ true) × ((not (has_dash trace) && may_be_replayed given) ≡ true)) = and_parts (not (has_dash script)) (not (has_dash trace) && may_be_replayed given) all in
    let q : ((not (has_dash trace) ≡ true) × (may_be_replayed given ≡ true)) = and_parts (not (has_dash trace)) (may_be_replayed given) p.1 in
    let m : ((may_be_given given ≡ true) × ((count_of kind.Print given == 0) ≡ true)) = and_parts (may_be_given given) (count_of kind.Print given == 0) q.1 in
    record {
      given = given;
      within = within;
      together = to_may given m.0;
      no_print = eqb-true (count_of kind.Print given) 0 m.1;
      script = no_dash (has_dash script) p.0;
      trace = no_dash (has_dash trace) q.0;
      words_are = ap (λ ws. codes "replay" ∷ ws) are;
      asked = refl;
    })
replay_spelled given (a ∷ b ∷ c ∷ rest) words are within = tt

run_spelled : (given : List GivenOption) (rest words : List Word) → words ≡ all_spelled given ++ rest → AreWithin given → IfSome (run_with given rest) (SpellsRun (codes "run" ∷ words))
run_spelled given [] words are within = tt
run_spelled given (script ∷ []) words are within =
    if_some (SpellsRun (codes "run" ∷ words)) (not (has_dash script) && may_be_given given) (Some (run_words given script)) (λ all.
    let p : ((not (has_dash script) ≡ true) × (may_be_given given ≡ true)) = and_parts (not (has_dash script)) (may_be_given given) all in
    record {
      given = given;
      within = within;
      together = to_may given p.1;
      script = no_dash (has_dash script) p.0;
      words_are = ap (λ ws. codes "run" ∷ ws) are;
      asked = refl;
    })
run_spelled given (a ∷ b ∷ rest) words are within = tt

gen_spelled : (words : List Word) → IfSome (gen_in words) (SpellsGen (codes "gen" ∷ words))
gen_spelled [] = tt
gen_spelled (word ∷ []) = of_number (rounds_in word) (positive_in-sound 512 word (omega arith))
  where
    of_number : (o : Option ℕ) → IfSome o (ArePositive 512 word) → IfSome o (SpellsGen (codes "gen" ∷ word ∷ []))
    of_number (Some rounds) is = record { least = is.1; most = is.2; words_are = ap (λ w. codes "gen" ∷ w ∷ []) is.0 }
    of_number None is = tt
gen_spelled (a ∷ b ∷ rest) = tt

abbrev has_none : List GivenOption → Kind → Bool
has_none given k = count_of k given == 0

unchecked_parts : (given : List GivenOption) → list_all (has_none given) unchecked_kinds ≡ true → (has_none given kind.Policy ≡ true) × (has_none given kind.Mode ≡ true) × (has_none given kind.Inherit ≡ true) × (has_none given kind.Unaliased ≡ true) × (has_none given kind.Workers ≡ true) × (has_none given kind.Print ≡ true)
unchecked_parts given h =
    let parts = seven_parts true (has_none given kind.Policy) (has_none given kind.Mode) (has_none given kind.Inherit) (has_none given kind.Unaliased) (has_none given kind.Workers) (has_none given kind.Print) h in
    (parts.1, parts.2, parts.3, parts.4, parts.5, parts.6)

none_of : (given : List GivenOption) → list_all (has_none given) unchecked_kinds ≡ true → (k : Kind) → k ≢ kind.Ids → k ≢ kind.Linux → count_of k given ≡ 0
none_of given h kind.Policy ids linux = eqb-true (count_of kind.Policy given) 0 (unchecked_parts given h).0
none_of given h kind.Mode ids linux = eqb-true (count_of kind.Mode given) 0 (unchecked_parts given h).1
none_of given h kind.Inherit ids linux = eqb-true (count_of kind.Inherit given) 0 (unchecked_parts given h).2
none_of given h kind.Unaliased ids linux = eqb-true (count_of kind.Unaliased given) 0 (unchecked_parts given h).3
none_of given h kind.Ids ids linux = absurd (ids refl)
none_of given h kind.Workers ids linux = eqb-true (count_of kind.Workers given) 0 (unchecked_parts given h).4
none_of given h kind.Print ids linux = eqb-true (count_of kind.Print given) 0 (unchecked_parts given h).5
none_of given h kind.Linux ids linux = absurd (linux refl)

is_spelled_check : (given : List GivenOption) (policy : Word) (script : Option Word) (words : List Word) → words ≡ all_spelled given ++ policy ∷ maybe_word script → AreWithin given → not (has_dash policy) ≡ true → MayBeOperand script →
    may_be_checked given ≡ true → SpellsCheck (codes "check" ∷ words) (check_words given policy script)
is_spelled_check given policy script words are within one two may =
    let m : ((may_be_given given ≡ true) × (list_all (has_none given) unchecked_kinds ≡ true)) = and_parts (may_be_given given) (list_all (has_none given) unchecked_kinds) may in
    record {
      given = given;
      within = within;
      together = to_may given m.0;
      no_more = none_of given m.1;
      policy = no_dash (has_dash policy) one;
      script = two;
      words_are = ap (λ ws. codes "check" ∷ ws) are;
      asked = refl;
    }

check_spelled : (given : List GivenOption) (rest words : List Word) → words ≡ all_spelled given ++ rest → AreWithin given → IfSome (check_with given rest) (SpellsCheck (codes "check" ∷ words))
check_spelled given [] words are within = tt
check_spelled given (policy ∷ []) words are within =
    if_some (SpellsCheck (codes "check" ∷ words)) (not (has_dash policy) && may_be_checked given) (Some (check_words given policy None)) (λ all.
    let p : ((not (has_dash policy) ≡ true) × (may_be_checked given ≡ true)) = and_parts (not (has_dash policy)) (may_be_checked given) all in
    is_spelled_check given policy None words are within p.0 tt p.1)
check_spelled given (policy ∷ script ∷ []) words are within =
    if_some (SpellsCheck (codes "check" ∷ words)) (not (has_dash policy) && (not (has_dash script) && may_be_checked given)) (Some (check_words given policy (Some script))) (λ all.
    let p : ((not (has_dash policy) ≡ true) × ((not (has_dash script) && may_be_checked given) ≡ true)) = and_parts (not (has_dash policy)) (not (has_dash script) && may_be_checked given) all in
    let q : ((not (has_dash script) ≡ true) × (may_be_checked given ≡ true)) = and_parts (not (has_dash script)) (may_be_checked given) p.1 in
    is_spelled_check given policy (Some script) words are within p.0 (no_dash (has_dash script) q.0) q.1)
check_spelled given (a ∷ b ∷ c ∷ rest) words are within = tt

named : (name known : Word) (words : List Word) (P : List Word → Type 0) → bytes_eq name known ≡ true → P (known ∷ words) → P (name ∷ words)
named name known words P same p = subst (λ w. P (w ∷ words)) (sym ((bytes_eq-Decides name known).0 same)) p

pub read_is_spelled : (words : List Word) → IfSome (command_in words) (SpellsCommand words)
read_is_spelled [] = tt
read_is_spelled (name ∷ words) =
    let taken = options_in words in
    let were : WereTaken words taken = options_were_taken words in
    let P = SpellsCommand (name ∷ words) in
    pick P (bytes_eq name (codes "check")) _ _ (λ same. if_mapped command.Check (SpellsCheck (codes "check" ∷ words)) P (check_in taken)
    (λ check is. named name (codes "check") words (λ ws. SpellsCheck ws check) same is) (check_spelled taken.given taken.rest words were.words_are were.within)) (
    pick P (bytes_eq name (codes "step")) _ _ (λ same. if_mapped command.Step (SpellsStep (codes "step" ∷ words)) P (step_in taken)
    (λ step is. named name (codes "step") words (λ ws. SpellsStep ws step) same is) (step_spelled taken.given taken.rest words were.words_are were.within)) (
    pick P (bytes_eq name (codes "replay")) _ _ (λ same. if_mapped command.Replay (SpellsReplay (codes "replay" ∷ words)) P (replay_in taken)
    (λ replay is. named name (codes "replay") words (λ ws. SpellsReplay ws replay) same is) (replay_spelled taken.given taken.rest words were.words_are were.within)) tt))

pub spelled_exactly : (words : List Word) (c : Command) → (SpellsCommand words c → command_in words ≡ Some c) × (command_in words ≡ Some c → SpellsCommand words c)
spelled_exactly words c = (read_of_spelled words c, λ is. subst (λ o. IfSome o (SpellsCommand words)) is (read_is_spelled words))

pub read_is_spelled_run : (words : List Word) → IfSome (run_of_words words) (SpellsRun words)
read_is_spelled_run [] = tt
read_is_spelled_run (name ∷ words) =
    let taken = options_in words in
    let were : WereTaken words taken = options_were_taken words in
    if_some (SpellsRun (name ∷ words)) (bytes_eq name (codes "run")) (run_in taken) (λ same.
    named name (codes "run") words (λ ws. IfSome (run_in taken) (SpellsRun ws)) same (run_spelled taken.given taken.rest words were.words_are were.within))

pub read_is_spelled_gen : (words : List Word) → IfSome (gen_of_words words) (SpellsGen words)
read_is_spelled_gen [] = tt
read_is_spelled_gen (name ∷ words) =
    if_some (SpellsGen (name ∷ words)) (bytes_eq name (codes "gen")) (gen_in words) (λ same.
    named name (codes "gen") words (λ ws. IfSome (gen_in words) (SpellsGen ws)) same (gen_spelled words))

pub run_spelled_exactly : (words : List Word) (run : RunWords) → (SpellsRun words run → run_of_words words ≡ Some run) × (run_of_words words ≡ Some run → SpellsRun words run)
run_spelled_exactly words run = (run_of_spelled words run, λ is. subst (λ o. IfSome o (SpellsRun words)) is (read_is_spelled_run words))

pub gen_spelled_exactly : (words : List Word) (rounds : ℕ) → (SpellsGen words rounds → gen_of_words words ≡ Some rounds) × (gen_of_words words ≡ Some rounds → SpellsGen words rounds)
gen_spelled_exactly words rounds = (gen_of_spelled words rounds, λ is. subst (λ o. IfSome o (SpellsGen words)) is (read_is_spelled_gen words))

-- ---- words spell one command

pub run_alone : (words : List Word) (run : RunWords) → SpellsRun words run → (command_in words ≡ None) × (gen_of_words words ≡ None)
run_alone words run is = (ap command_in is.words_are, ap gen_of_words is.words_are)

pub gen_alone : (words : List Word) (rounds : ℕ) → SpellsGen words rounds → command_in words ≡ None
gen_alone words rounds is = ap command_in is.words_are
