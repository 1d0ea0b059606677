-- The options read at the beginning of words are those that the words spell.
use Rattle.std.proofs.Common.{◌≡◌, Bool, true, false, if◌then◌else◌, List, [], ◌∷◌, ◌++◌, codes, decimal, Option, Some, None, option_map, refl, ap, sym, ◌∙◌, append_assoc, arith}
use Rattle.std.proofs.lemmas.Bool.{false_from_ne_true}
use Rattle.std.proofs.lemmas.Slice.Eq.{bytes_eq-Decides}
use Rattle.std.specs.Prelude.{IfSome}
use Rattle.std.specs.Str.{bytes_eq}
use Rattle.st_law.specs.declared.input.Mode.{Mode}
use Rattle.st_law.specs.declared.input.Mode.TheVariants.{Enforce, Learn, AskText}
use Rattle.st_command.specs.Words.{Word, has_dash, ids_in, workers_in}
use Rattle.st_command.specs.Given.{GivenOption, PolicyFile, ModeIs, Inherits, Unaliased, IdsAre, WorkersAre, PrintIs, EmulatesLinux, mode_word, print_word, option_words, all_spelled, IsOptionWithin, AreWithin, alone, print_in, valued, TakenOptions, with_option, none_taken, options_in, next_option}
use Rattle.st_command.specs.declared.given.Print.{Print}
use Rattle.st_command.specs.declared.given.Print.TheVariants.{Audit, Trace, Schedule, Policy}
use Rattle.st_command.proofs.Numbers.{AreIds, ids_in-decimal, ids_in-sound, ArePositive, positive_in-decimal, positive_in-sound}

-- ---- what is spelled is read

pub print_in-word : (print : Print) → print_in (print_word print) ≡ Some print
print_in-word Audit = refl
print_in-word Trace = refl
print_in-word Schedule = refl
print_in-word Policy = refl

-- what is taken from two words on, by the option that the first is alone and the option that both are
abbrev from_two : Word → Word → List Word → Option GivenOption → Option GivenOption → TakenOptions
from_two word value words o p =
    elim o [
      | Some option ↦ with_option option (options_in (value ∷ words))
      | None ↦ elim p [
        | Some option ↦ with_option option (options_in words)
        | None ↦ none_taken (word ∷ value ∷ words)
      ]
    ]

-- what is taken from the last word, by the option that it is alone
abbrev from_one_word : Word → Option GivenOption → TakenOptions
from_one_word word o = elim o [ Some option ↦ with_option option (none_taken []) | None ↦ none_taken (word ∷ []) ]

-- one more word after an option without a value
alone_more : (word : Word) (words : List Word) (option : GivenOption) → alone word ≡ Some option → options_in (word ∷ words) ≡ with_option option (options_in words)
alone_more word [] option is = ap (from_one_word word) is
alone_more word (value ∷ words) option is = ap (λ o. from_two word value words o (valued word value)) is

valued_more : (word value : Word) (words : List Word) (option : GivenOption) → alone word ≡ None → valued word value ≡ Some option → options_in (word ∷ value ∷ words) ≡ with_option option (options_in words)
valued_more word value words option isnt is = ap (λ o. from_two word value words o (valued word value)) isnt ∙ ap (from_two word value words None) is

mode_alone : (mode : Mode) → alone (mode_word mode) ≡ Some (ModeIs mode)
mode_alone Enforce = refl
mode_alone Learn = refl
mode_alone AskText = refl

-- an option is read from its words
spelled_first : (option : GivenOption) (words : List Word) → IsOptionWithin option → options_in (option_words option ++ words) ≡ with_option option (options_in words)
spelled_first (PolicyFile name) words within = valued_more (codes "-f") name words (PolicyFile name) refl refl
spelled_first (ModeIs mode) words within = alone_more (mode_word mode) words (ModeIs mode) (mode_alone mode)
spelled_first Inherits words within = alone_more (codes "-i") words Inherits refl
spelled_first Unaliased words within = alone_more (codes "-u") words Unaliased refl
spelled_first (IdsAre uid gid) words within =
    valued_more (codes "-c") (decimal uid ++ (codes ":" ++ decimal gid)) words (IdsAre uid gid) refl (ap (option_map (λ ids. IdsAre ids.0 ids.1)) (ids_in-decimal uid gid within.0 within.1))
spelled_first (WorkersAre count) words within =
    valued_more (codes "-w") (decimal count) words (WorkersAre count) refl (ap (option_map WorkersAre) (positive_in-decimal 8 count (omega (arith, within.1)) within.0 within.1))
spelled_first (PrintIs print) words within =
    valued_more (codes "--print") (print_word print) words (PrintIs print) refl (ap (option_map PrintIs) (print_in-word print))
spelled_first EmulatesLinux words within = alone_more (codes "--linux") words EmulatesLinux refl

-- options added before what is taken
abbrev pub with_options : List GivenOption → TakenOptions → TakenOptions
with_options given taken = record { given = given ++ taken.given; rest = taken.rest }

-- options are read from their words
pub all_spelled_first : (given : List GivenOption) (words : List Word) → AreWithin given → options_in (all_spelled given ++ words) ≡ with_options given (options_in words)
all_spelled_first [] words within = refl
all_spelled_first (option ∷ given) words within =
    ap options_in (append_assoc (option_words option) (all_spelled given) words) ∙
    spelled_first option (all_spelled given ++ words) within.0 ∙
    ap (with_option option) (all_spelled_first given words within.1)

-- no options are read after them, at a word without a dash
append_nil : (given : List GivenOption) → given ++ [] ≡ given
append_nil [] = refl
append_nil (option ∷ given) = ap (λ more. option ∷ more) (append_nil given)

-- a word without a dash differs from a word that has one
unlike : (word known : Word) → has_dash word ≡ false → has_dash known ≡ true → bytes_eq word known ≡ false
unlike word known without with = false_from_ne_true (bytes_eq word known) (λ same.
    let e : has_dash word ≡ has_dash known = ap has_dash ((bytes_eq-Decides word known).0 same) in
    let clash : false ≡ true = sym without ∙ e ∙ with in cc)

alone_none : (word : Word) → has_dash word ≡ false → alone word ≡ None
alone_none word h =
    rw (unlike word (codes "-A") h refl, unlike word (codes "-a") h refl, unlike word (codes "-t") h refl, unlike word (codes "-i") h refl, unlike word (codes "-u") h refl, unlike word (codes "--linux") h refl) refl

valued_none : (word value : Word) → has_dash word ≡ false → valued word value ≡ None
valued_none word value h =
    rw (unlike word (codes "-f") h refl, unlike word (codes "-c") h refl, unlike word (codes "-w") h refl, unlike word (codes "--print") h refl) refl

-- no option begins with a word without a dash
pub no_option_first : (word : Word) (words : List Word) → has_dash word ≡ false → options_in (word ∷ words) ≡ none_taken (word ∷ words)
no_option_first word [] h = ap (from_one_word word) (alone_none word h)
no_option_first word (value ∷ words) h =
    ap (λ o. from_two word value words o (valued word value)) (alone_none word h) ∙ ap (from_two word value words None) (valued_none word value h)

pub all_options : (given : List GivenOption) (word : Word) (words : List Word) → AreWithin given → has_dash word ≡ false → options_in (all_spelled given ++ word ∷ words) ≡ record { given = given; rest = word ∷ words }
all_options given word words within h =
    all_spelled_first given (word ∷ words) within ∙ ap (with_options given) (no_option_first word words h) ∙
    ap (λ (options : List GivenOption). let taken : TakenOptions = record { given = options; rest = word ∷ words } in taken) (append_nil given)

-- ---- what is read was spelled

-- an option is within its bounds, and these are its words
abbrev IsSpelled : List Word → GivenOption → Type 0
IsSpelled words option = (option_words option ≡ words) × IsOptionWithin option

pub pick : {A : Type 0} (P : A → Type 0) (b : Bool) (x y : Option A) → (b ≡ true → IfSome x P) → IfSome y P → IfSome (if b then x else y) P
pick P true x y f p = f refl
pick P false x y f p = p

same_word : (word known : Word) → bytes_eq word known ≡ true → known ≡ word
same_word word known same = sym ((bytes_eq-Decides word known).0 same)

alone_sound : (word : Word) → IfSome (alone word) (IsSpelled (word ∷ []))
alone_sound word =
    let P = IsSpelled (word ∷ []) in
    pick P (bytes_eq word (codes "-A")) _ _ (λ same. (ap (λ w. w ∷ []) (same_word word (codes "-A") same), tt)) (
    pick P (bytes_eq word (codes "-a")) _ _ (λ same. (ap (λ w. w ∷ []) (same_word word (codes "-a") same), tt)) (
    pick P (bytes_eq word (codes "-t")) _ _ (λ same. (ap (λ w. w ∷ []) (same_word word (codes "-t") same), tt)) (
    pick P (bytes_eq word (codes "-i")) _ _ (λ same. (ap (λ w. w ∷ []) (same_word word (codes "-i") same), tt)) (
    pick P (bytes_eq word (codes "-u")) _ _ (λ same. (ap (λ w. w ∷ []) (same_word word (codes "-u") same), tt)) (
    pick P (bytes_eq word (codes "--linux")) _ _ (λ same. (ap (λ w. w ∷ []) (same_word word (codes "--linux") same), tt)) tt)))))

print_sound : (word : Word) → IfSome (print_in word) (λ print. print_word print ≡ word)
print_sound word =
    let P : Print → Type 0 = λ print. print_word print ≡ word in
    pick P (bytes_eq word (codes "audit")) _ _ (λ same. same_word word (codes "audit") same) (
    pick P (bytes_eq word (codes "trace")) _ _ (λ same. same_word word (codes "trace") same) (
    pick P (bytes_eq word (codes "schedule")) _ _ (λ same. same_word word (codes "schedule") same) (
    pick P (bytes_eq word (codes "policy")) _ _ (λ same. same_word word (codes "policy") same) tt)))

pub if_mapped : {A B : Type 0} (f : A → B) (P : A → Type 0) (Q : B → Type 0) (o : Option A) → ((a : A) → P a → Q (f a)) → IfSome o P → IfSome (option_map f o) Q
if_mapped f P Q (Some a) leads p = leads a p
if_mapped f P Q None leads p = tt

two : (a b c d : Word) → a ≡ b → c ≡ d → a ∷ c ∷ [] ≡ b ∷ d ∷ []
two a b c d e f = cc

valued_sound : (word value : Word) → IfSome (valued word value) (IsSpelled (word ∷ value ∷ []))
valued_sound word value =
    let P = IsSpelled (word ∷ value ∷ []) in
    pick P (bytes_eq word (codes "-f")) _ _ (λ same. (two (codes "-f") word value value (same_word word (codes "-f") same) refl, tt)) (
    pick P (bytes_eq word (codes "-c")) _ _ (λ same. if_mapped (λ ids. IdsAre ids.0 ids.1) (AreIds value) P (ids_in value)
    (λ ids is. (two (codes "-c") word _ value (same_word word (codes "-c") same) (sym is.0), (is.1, is.2))) (ids_in-sound value)) (
    pick P (bytes_eq word (codes "-w")) _ _ (λ same. if_mapped WorkersAre (ArePositive 8 value) P (workers_in value)
    (λ count is. (two (codes "-w") word _ value (same_word word (codes "-w") same) (sym is.0), (is.1, is.2))) (positive_in-sound 8 value (omega arith))) (
    pick P (bytes_eq word (codes "--print")) _ _ (λ same. if_mapped PrintIs (λ print. print_word print ≡ value) P (print_in value)
    (λ print is. (two (codes "--print") word _ value (same_word word (codes "--print") same) is, tt)) (print_sound value)) tt)))

-- words are those of the options that were taken, followed by the rest
pub record WereTaken (words : List Word) (taken : TakenOptions) : Type 0 where
  pub words_are : words ≡ all_spelled taken.given ++ taken.rest
  pub within : AreWithin taken.given

taken_more : (option : GivenOption) (front words : List Word) (taken : TakenOptions) → IsSpelled front option → WereTaken words taken → WereTaken (front ++ words) (with_option option taken)
taken_more option front words taken is before = record {
  words_are =
      ap (λ f. f ++ words) (sym is.0) ∙ ap (λ ws. option_words option ++ ws) before.words_are ∙
      sym (append_assoc (option_words option) (all_spelled taken.given) taken.rest);
  within = (is.1, before.within);
}

none_were_taken : (words : List Word) → WereTaken words (none_taken words)
none_were_taken words = record { words_are = refl; within = tt }

by_alone : (word : Word) (o : Option GivenOption) → IfSome o (IsSpelled (word ∷ [])) → WereTaken (word ∷ []) (from_one_word word o)
by_alone word (Some option) is = taken_more option (word ∷ []) [] (none_taken []) is (none_were_taken [])
by_alone word None is = none_were_taken (word ∷ [])

by_both : (word value : Word) (words : List Word) (o p : Option GivenOption) → IfSome o (IsSpelled (word ∷ [])) → IfSome p (IsSpelled (word ∷ value ∷ [])) → (one two : TakenOptions) → WereTaken (value ∷ words) one → WereTaken words two →
    WereTaken (word ∷ value ∷ words) (elim o [
      | Some option ↦ with_option option one
      | None ↦ elim p [
        | Some option ↦ with_option option two
        | None ↦ none_taken (word ∷ value ∷ words)
      ]
    ])
by_both word value words (Some option) p is_one is_two one two after_one after_two = taken_more option (word ∷ []) (value ∷ words) one is_one after_one
by_both word value words None (Some option) is_one is_two one two after_one after_two = taken_more option (word ∷ value ∷ []) words two is_two after_two
by_both word value words None None is_one is_two one two after_one after_two = none_were_taken (word ∷ value ∷ words)

pub options_were_taken : (words : List Word) → WereTaken words (options_in words)
options_were_taken [] = none_were_taken []
options_were_taken (word ∷ []) = by_alone word (alone word) (alone_sound word)
options_were_taken (word ∷ value ∷ words) =
    by_both word value words (alone word) (valued word value) (alone_sound word) (valued_sound word value) (options_in (value ∷ words)) (options_in words)
    (options_were_taken (value ∷ words)) (options_were_taken words)

-- ---- option by option

-- what is taken after the first option, or nothing if there is none
abbrev pub after_next : Option (GivenOption × List Word) → List Word → TakenOptions
after_next (Some next) words = with_option next.0 (options_in next.1)
after_next None words = none_taken words

pub options_by_next : (words : List Word) → options_in words ≡ after_next (next_option words) words
options_by_next [] = refl
options_by_next (word ∷ []) = one (alone word)
  where
    one : (o : Option GivenOption) → elim o [ Some option ↦ with_option option (none_taken []) | None ↦ none_taken (word ∷ []) ] ≡ after_next (option_map (λ option. (option, [])) o) (word ∷ [])
    one (Some option) = refl
    one None = refl
options_by_next (word ∷ value ∷ words) = both (alone word) (valued word value)
  where
    both : (o p : Option GivenOption) →
        elim o [
          | Some option ↦ with_option option (options_in (value ∷ words))
          | None ↦ elim p [
            | Some option ↦ with_option option (options_in words)
            | None ↦ none_taken (word ∷ value ∷ words)
          ]
        ] ≡ after_next (elim o [ Some option ↦ Some (option, value ∷ words) | None ↦ option_map (λ option. (option, words)) p ]) (word ∷ value ∷ words)
    both (Some option) p = refl
    both None (Some option) = refl
    both None None = refl

pub next_taken : (words : List Word) (option : GivenOption) (following : List Word) → Some (option, following) ≡ next_option words → options_in words ≡ with_option option (options_in following)
next_taken words option following next = options_by_next words ∙ ap (λ o. after_next o words) (sym next)

pub no_next_taken : (words : List Word) → None ≡ next_option words → options_in words ≡ none_taken words
no_next_taken words next = options_by_next words ∙ ap (λ o. after_next o words) (sym next)

pub one_more : (given : List GivenOption) (option : GivenOption) (taken : TakenOptions) → with_options (given ++ option ∷ []) taken ≡ with_options given (with_option option taken)
one_more given option taken = ap (λ (options : List GivenOption). let more : TakenOptions = record { given = options; rest = taken.rest } in more) (append_assoc given (option ∷ []) taken.given)

pub no_more : (given : List GivenOption) (words : List Word) → with_options given (none_taken words) ≡ record { given = given; rest = words }
no_more given words = ap (λ (options : List GivenOption). let taken : TakenOptions = record { given = options; rest = words } in taken) (append_nil given)
