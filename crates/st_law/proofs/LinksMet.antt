-- The first link in the way of a call, by the law, is the first on the way to one of its names.
use native.Mathlib.Omega.{arith}
use Rattle.std.proofs.Common.{◌≡◌, ◌≢◌, ◌<◌, ℕ, zero, suc, Bool, true, false, cond, not, ◌&&◌, ◌||◌, List, [], ◌∷◌, ◌++◌, length, slice_get, Option, Some, None, refl, sym, ap, subst, ◌∙◌}
use Rattle.std.proofs.lemmas.Option.{same_Some}
use Rattle.std.proofs.lemmas.Bool.{ne_eqb}
use Rattle.std.proofs.lemmas.List.{append_assoc}
use Rattle.st_calls.specs.Argument.{args_of}
use Rattle.st_calls.specs.Call.{follows}
use Rattle.st_calls.specs.declared.argument.ArgSpec.{ArgSpec}
use Rattle.st_calls.specs.declared.argument.ArgText.{ArgText}
use Rattle.st_calls.specs.declared.argument.PartKind.{PartKind}
use Rattle.st_calls.specs.declared.argument.PartKind.TheVariants as kind
use Rattle.st_calls.specs.declared.call.SysCall.{SysCall}
use Rattle.st_calls.specs.declared.rule.Rule.{Rule}
use Rattle.st_model.specs.Tree.{Tree, Node, node_of}
use Rattle.st_model.specs.Walk.{is_last}
use Rattle.st_model.specs.declared.object.Kind.{Kind}
use Rattle.st_model.specs.declared.object.Kind.TheVariants as object_kind
use Rattle.st_names.specs.Name.{Components, components_of}
use Rattle.st_effects.specs.Names.{is_link}
use Rattle.st_law.specs.Arguments.{is_link_node, is_link_at, link_along, link_on_way, first_of_two, link_of_part, link_among, link_met}
use Rattle.st_law.specs.Links.{IsLinkName, IsOnWay, IsUnlinked, IsLinkFound, IsNamePart, NoPartHasLink, IsFirstLinkAmongParts, IsFirstLinkInWay}

-- ---- the test of one name

kind_is : (k : Kind) → is_link k ≡ true → k ≡ object_kind.Link
kind_is object_kind.Dir e = cc
kind_is object_kind.File e = cc
kind_is object_kind.Link e = refl

link_name : (tree : Tree) (name : Components) → is_link_at tree name ≡ true → IsLinkName tree name
link_name tree name e = by (node_of tree name) refl e where
  by : (o : Option Node) → node_of tree name ≡ o → is_link_node o ≡ true → IsLinkName tree name
  by None there x = cc
  by (Some node) there x = record { node = node; there = there; kind = kind_is node.kind x }

test_of : (tree : Tree) (name : Components) → IsLinkName tree name → is_link_at tree name ≡ true
test_of tree name x = ap is_link_node x.there ∙ ap is_link x.kind

-- ---- one name's way

abbrev later_of : Components → Components
later_of [] = []
later_of (part ∷ rest) = rest

abbrev first_of : List ℕ → Components → List ℕ
first_of other [] = other
first_of other (part ∷ rest) = part

some_parts : (part : List ℕ) (mid : Components) → part ∷ mid ≢ []
some_parts part mid e = cc

-- a name on the way that is longer than its first component is, without it, on the way to the rest
deeper : (follow : Bool) (part first : List ℕ) (rest mid : Components) → mid ≢ [] → IsOnWay follow (part ∷ rest) (first ∷ mid) → IsOnWay follow rest mid
deeper follow part first rest mid more x = record { rest = x.rest; split = ap later_of x.split; below = more; followed = x.followed }

longer : (follow : Bool) (part : List ℕ) (rest mid : Components) → IsOnWay follow rest mid → IsOnWay follow (part ∷ rest) (part ∷ mid)
longer follow part rest mid x = record { rest = x.rest; split = ap (λ name. part ∷ name) x.split; below = some_parts part mid; followed = x.followed }

-- no link among the names on the way from `done` on that satisfy Q
module _ (tree : Tree) (follow : Bool) (done : Components) (part : List ℕ) (rest : Components) where
  pub none_from : (Q : Components → Type 0) → ((rest ≡ [] → follow ≡ true) → Q (part ∷ []) → IsLinkName tree (done ++ part ∷ []) → ⊥)
      → ((mid : Components) → IsOnWay follow rest mid → Q (part ∷ mid) → IsLinkName tree ((done ++ part ∷ []) ++ mid) → ⊥)
      → (mid : Components) → IsOnWay follow (part ∷ rest) mid → Q mid → IsLinkName tree (done ++ mid) → ⊥
  none_from Q here later [] x allowed link = x.below refl
  none_from Q here later (first ∷ []) x allowed link =
      let same : part ≡ first = ap (first_of part) x.split in
      here (λ last. x.followed (sym (ap later_of x.split) ∙ last)) (subst (λ p. Q (p ∷ [])) (sym same) allowed) (subst (λ p. IsLinkName tree (done ++ p ∷ [])) (sym same) link)
  none_from Q here later (first ∷ second ∷ mid) x allowed link =
      let same : part ≡ first = ap (first_of part) x.split in
      later (second ∷ mid) (deeper follow part first rest (second ∷ mid) (some_parts second mid) x) (subst (λ p. Q (p ∷ second ∷ mid)) (sym same) allowed)
      (subst (IsLinkName tree) (ap (λ p. done ++ p ∷ second ∷ mid) (sym same) ∙ sym (append_assoc done (part ∷ []) (second ∷ mid))) link)

-- the first link on the way from `done` on, or none
abbrev FoundFrom : Tree → Bool → Components → Components → Option Components → Type 0
FoundFrom tree follow done rest None = (mid : Components) → IsOnWay follow rest mid → IsLinkName tree (done ++ mid) → ⊥
FoundFrom tree follow done rest (Some link) = (mid : Components) × IsOnWay follow rest mid × (link ≡ done ++ mid) × IsLinkName tree link
    × ((on : Components) → IsOnWay follow rest on → length on < length mid → IsLinkName tree (done ++ on) → ⊥)

-- a link that may be followed: the name continues after it, or the last name is followed
may_follow : (follow : Bool) (rest : Components) → (rest ≡ [] → follow ≡ true) → (follow || not (is_last rest)) ≡ true
may_follow true rest x = refl
may_follow false [] x = x refl
may_follow false (part ∷ rest) x = ap not (ne_eqb (length (part ∷ rest)) 0 (λ e. omega (arith, e)))

follow_of : (follow : Bool) (rest : Components) → (follow || not (is_last rest)) ≡ true → rest ≡ [] → follow ≡ true
follow_of true rest x e = refl
follow_of false [] x e = cc
follow_of false (part ∷ rest) x e = cc

both_of : (a b : Bool) → (a && b) ≡ true → (a ≡ true) × (b ≡ true)
both_of true b e = (refl, e)
both_of false b e = cc

along : (tree : Tree) (follow : Bool) (done rest : Components) → FoundFrom tree follow done rest (link_along tree follow done rest)
along tree follow done [] = λ mid x link. x.below (nothing mid x.rest x.split) where
  nothing : (mid rest : Components) → [] ≡ mid ++ rest → mid ≡ []
  nothing [] rest e = refl
  nothing (part ∷ mid) rest e = cc
along tree follow done (part ∷ rest) = by (is_link_at tree (done ++ part ∷ []) && (follow || not (is_last rest))) refl (along tree follow (done ++ part ∷ []) rest) where
  here : (is_link_at tree (done ++ part ∷ []) && (follow || not (is_last rest))) ≡ true → FoundFrom tree follow done (part ∷ rest) (Some (done ++ part ∷ []))
  here e = let both : (is_link_at tree (done ++ part ∷ []) ≡ true) × ((follow || not (is_last rest)) ≡ true) = both_of (is_link_at tree (done ++ part ∷ [])) (follow || not (is_last rest)) e in (
    part ∷ [],
    record { rest = rest; split = refl; below = some_parts part []; followed = follow_of follow rest both.1 },
    refl,
    link_name tree (done ++ part ∷ []) both.0,
    none_from tree follow done part rest (λ on. length on < 1) (λ last short link. omega (arith, short)) (λ mid x short link. omega (arith, short)),
  )

  not_here : (is_link_at tree (done ++ part ∷ []) && (follow || not (is_last rest))) ≡ false → (rest ≡ [] → follow ≡ true) → IsLinkName tree (done ++ part ∷ []) → ⊥
  not_here e last link = clash (test_of tree (done ++ part ∷ []) link) (may_follow follow rest last) e where
    clash : is_link_at tree (done ++ part ∷ []) ≡ true → (follow || not (is_last rest)) ≡ true → (is_link_at tree (done ++ part ∷ []) && (follow || not (is_last rest))) ≡ false → ⊥
    clash a b c = cc

  later : (is_link_at tree (done ++ part ∷ []) && (follow || not (is_last rest))) ≡ false → (o : Option Components) → FoundFrom tree follow (done ++ part ∷ []) rest o → FoundFrom tree follow done (part ∷ rest) o
  later e None x = λ mid on link. none_from tree follow done part rest (λ mid. Unit {0}) (λ last allowed. not_here e last) (λ mid on allowed. x mid on) mid on tt link
  later e (Some link) x = (
    part ∷ x.0,
    longer follow part rest x.0 x.1,
    x.2 ∙ append_assoc done (part ∷ []) x.0,
    x.3,
    none_from tree follow done part rest (λ on. length on < length (part ∷ x.0)) (λ last allowed. not_here e last) (λ mid on short. x.4 mid on (omega (arith, short))),
  )

  by : (b : Bool) → (is_link_at tree (done ++ part ∷ []) && (follow || not (is_last rest))) ≡ b
      → FoundFrom tree follow (done ++ part ∷ []) rest (link_along tree follow (done ++ part ∷ []) rest) → FoundFrom tree follow done (part ∷ rest) (cond b (Some (done ++ part ∷ [])) (link_along tree follow (done ++ part ∷ []) rest))
  by true e further = here e
  by false e further = later e (link_along tree follow (done ++ part ∷ []) rest) further

pub on_way : (tree : Tree) (follow : Bool) (name : Components) → IsLinkFound tree follow name (link_on_way tree follow name)
on_way tree follow name = by (link_on_way tree follow name) (along tree follow [] name) where
  by : (o : Option Components) → FoundFrom tree follow [] name o → IsLinkFound tree follow name o
  by None x = x
  by (Some link) x = record {
    on_way = subst (IsOnWay follow name) (sym x.2) x.1;
    is_link = x.3;
    first = λ on way short. x.4 on way (subst (λ found. length on < length found) x.2 short);
  }

-- ---- the names of a call

-- a part after the first is one of the rest
rest_part : (spec : ArgSpec) (specs : List ArgSpec) (arg : ArgText) (args : List ArgText) (j register : ℕ) (text : List ℕ) → IsNamePart (spec ∷ specs) (arg ∷ args) (suc j) register text → IsNamePart specs args j register text
rest_part spec specs arg args j register text x =
    record { spec = x.spec; arg = x.arg; spec_is = x.spec_is; arg_is = x.arg_is; kind = x.kind; register_is = x.register_is; text_is = x.text_is }

later_part : (spec : ArgSpec) (specs : List ArgSpec) (arg : ArgText) (args : List ArgText) (j register : ℕ) (text : List ℕ) → IsNamePart specs args j register text → IsNamePart (spec ∷ specs) (arg ∷ args) (suc j) register text
later_part spec specs arg args j register text x =
    record { spec = x.spec; arg = x.arg; spec_is = x.spec_is; arg_is = x.arg_is; kind = x.kind; register_is = x.register_is; text_is = x.text_is }

no_part : {A : Type 0} (j : ℕ) (x : A) → slice_get [] j ≡ Some x → ⊥
no_part zero x e = cc
no_part (suc j) x e = cc

-- only a name can have a link on its way
name_of_link : (k : PartKind) (tree : Tree) (follow : Bool) (text : List ℕ) (link : Components) → link_of_part k tree follow text ≡ Some link → k ≡ kind.Name
name_of_link kind.Name tree follow text link e = refl
name_of_link _ tree follow text link e = cc

module _ (tree : Tree) (call : SysCall) (regs : List ℕ) where
  -- the first link on the way to the first part, if that is a name
  abbrev OfPart : ArgSpec → ArgText → Option Components → Type 0
  OfPart spec arg o = spec.kind ≡ kind.Name → IsLinkFound tree (follows call regs spec.register) (components_of arg.text) o

  by_kind : (spec : ArgSpec) (arg : ArgText) (k : PartKind) → spec.kind ≡ k → OfPart spec arg (link_of_part k tree (follows call regs spec.register) arg.text)
  by_kind spec arg k e is = subst (λ k. IsLinkFound tree (follows call regs spec.register) (components_of arg.text) (link_of_part k tree (follows call regs spec.register) arg.text)) (sym is ∙ e)
      (on_way tree (follows call regs spec.register) (components_of arg.text))

  module _ (spec : ArgSpec) (specs : List ArgSpec) (arg : ArgText) (args : List ArgText) where
    -- what is found for the first part is found for it as one of the parts
    first_found : (o : Option Components) → OfPart spec arg o → (register : ℕ) (text : List ℕ) → IsNamePart (spec ∷ specs) (arg ∷ args) 0 register text
        → IsLinkFound tree (follows call regs register) (components_of text) o
    first_found o found register text x =
        let same_spec : spec ≡ x.spec = same_Some spec x.spec x.spec_is in
        let same_arg : arg ≡ x.arg = same_Some arg x.arg x.arg_is in
        subst (λ r. IsLinkFound tree (follows call regs r) (components_of text) o) (ap (λ s. s.register) same_spec ∙ x.register_is)
        (subst (λ words. IsLinkFound tree (follows call regs spec.register) (components_of words) o) (ap (λ a. a.text) same_arg ∙ x.text_is)
        (found (ap (λ s. s.kind) same_spec ∙ x.kind)))

    none_meets : OfPart spec arg None → NoPartHasLink tree call regs specs args → NoPartHasLink tree call regs (spec ∷ specs) (arg ∷ args)
    none_meets found rest zero register text x = first_found None found register text x
    none_meets found rest (suc j) register text x = rest j register text (rest_part spec specs arg args j register text x)

    joined : (o : Option Components) → OfPart spec arg o → ((link : Components) → o ≡ Some link → spec.kind ≡ kind.Name) → (other : Option Components)
        → IsFirstLinkAmongParts tree call regs specs args other → IsFirstLinkAmongParts tree call regs (spec ∷ specs) (arg ∷ args) (first_of_two o other)
    joined (Some link) found named other rest = record {
      j = 0;
      register = spec.register;
      text = arg.text;
      part = record { spec = spec; arg = arg; spec_is = refl; arg_is = refl; kind = named link refl; register_is = refl; text_is = refl };
      meets = found (named link refl);
      before = λ k other words low. absurd (omega (arith, low));
    }
    joined None found named None rest = none_meets found rest
    joined None found named (Some link) rest = record {
      j = suc rest.j;
      register = rest.register;
      text = rest.text;
      part = later_part spec specs arg args rest.j rest.register rest.text rest.part;
      meets = rest.meets;
      before = before;
    } where
      before : (k other : ℕ) (words : List ℕ) → k < suc rest.j → IsNamePart (spec ∷ specs) (arg ∷ args) k other words → IsUnlinked tree (follows call regs other) (components_of words)
      before zero other words low x = first_found None found other words x
      before (suc k) other words low x = rest.before k other words (omega (arith, low)) (rest_part spec specs arg args k other words x)

  among : (specs : List ArgSpec) (args : List ArgText) → IsFirstLinkAmongParts tree call regs specs args (link_among tree call regs specs args)
  among [] args = λ j register text x. absurd (no_part j x.spec x.spec_is)
  among (spec ∷ specs) [] = λ j register text x. absurd (no_part j x.arg x.arg_is)
  among (spec ∷ specs) (arg ∷ args) = joined spec specs arg args (link_of_part spec.kind tree (follows call regs spec.register) arg.text) (by_kind spec arg spec.kind refl)
      (λ link. name_of_link spec.kind tree (follows call regs spec.register) arg.text link) (link_among tree call regs specs args) (among specs args)

pub call_meets : (tree : Tree) (rule : Rule) (call : SysCall) (regs : List ℕ) (args : List ArgText) → IsFirstLinkInWay tree rule call regs args (link_met tree rule call regs args)
call_meets tree rule call regs args = among tree call regs (args_of rule) args
