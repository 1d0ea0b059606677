-- The results of a reading's parts, stated of the files as they were before.
use Rattle.std.proofs.Common.{◌≡◌, ℕ, ◌+◌, ◌<◌, List, [], ◌∷◌, ◌++◌, length, get_or, take, Result, Ok, Err, ap, sym, ◌∙◌, subst, append_assoc}
use Rattle.std.specs.Borrow.{Bor}
use Rattle.std.specs.Result.{IsErr, IsErrAnd}
use Rattle.st_filter.specs.declared.set.BinaryPolicy.{BinaryPolicy}
use Rattle.st_grammar.specs.declared.env.Env.{Env}
use Rattle.st_command.specs.Words.{Word}
use Rattle.st_reading.specs.Meaning.{Contents}
use Rattle.st_reading.specs.Files.{FetchRefused, IsPolicy, PolicyRefused, ArePolicies, PoliciesRefused}
use Rattle.st_reading.specs.declared.refusal.Refusal.{Refusal}
use Rattle.st_reading.specs.declared.refusal.Which.{Which}
use Rattle.st_reading.proofs.Leads.{words_at, words_more, comes_at, one_policy_more}

-- an error that is passed on
pub handed_on : {A : Type 0} (P : Result A Refusal → Type 0) (s : Refusal) (r : Result A Refusal) → IsErr r → IsErrAnd r (λ e. e ≡ s) → P (Err s) → P r
handed_on P s (Ok value) failed same p = cc
handed_on P s (Err e) failed same p = subst (λ v. P (Err v)) (sym same) p

module _ (contents : Contents) (env : Env) (names : List (Bor Word)) (i : ℕ) (name : Bor Word) (inside : i < length names) (is : name ≡ get_or names i name) where
  -- one more policy file was read
  pub one_more_read : (h : Contents) (before more : List BinaryPolicy) (old mid new : List Word) → ArePolicies contents env (words_at (take i names)) [] before → h ≡ contents →
      mid ≡ old ++ words_at (take i names) → new ≡ mid ++ name.now ∷ [] → IsPolicy (h name.now) env before more →
      ArePolicies contents env (words_at (take (i + 1) names)) [] more × (new ≡ old ++ words_at (take (i + 1) names))
  one_more_read h before more old mid new read same mid_is new_is one = (
    subst (λ ns. ArePolicies contents env ns [] more) (sym (words_more names i name inside is))
        (one_policy_more contents env (words_at (take i names)) name.now [] before more read (subst (λ (x : Contents). IsPolicy (x name.now) env before more) same one)),
    new_is ∙ ap (λ ns. ns ++ name.now ∷ []) mid_is ∙ append_assoc old (words_at (take i names)) (name.now ∷ []) ∙ ap (λ ns. old ++ ns) (sym (words_more names i name inside is)),
  )

  -- or the policy file was refused
  pub refused_at : (h : Contents) (policies : List BinaryPolicy) (number faults faults_then faults_after : ℕ) (old mid new : List Word) (r : Refusal) →
      ArePolicies contents env (words_at (take i names)) [] policies → h ≡ contents → faults_then ≡ faults → number ≡ i → mid ≡ old ++ words_at (take i names) → new ≡ mid ++ name.now ∷ [] →
      PolicyRefused (h name.now) env policies (number + 1) faults_then faults_after r → PoliciesRefused contents env (words_at names) faults faults_after old new r
  refused_at h policies number faults faults_then faults_after old mid new r read same quiet counted mid_is new_is p = record {
    n = i + 1;
    name = name.now;
    policies = policies;
    comes = comes_at contents env names i name policies inside is read;
    refused =
        subst (λ k. PolicyRefused (contents name.now) env policies (k + 1) faults faults_after r) counted
        (subst (λ f. PolicyRefused (contents name.now) env policies (number + 1) f faults_after r) quiet
        (subst (λ (x : Contents). PolicyRefused (x name.now) env policies (number + 1) faults_then faults_after r) same p));
    asked = new_is ∙ ap (λ ns. ns ++ name.now ∷ []) mid_is ∙ append_assoc old (words_at (take i names)) (name.now ∷ []);
  }

module _ (contents h : Contents) (env : Env) (names ns : List Word) (same : h ≡ contents) (names_are : ns ≡ names) where
  pub are_from : (policies : List BinaryPolicy) → ArePolicies h env ns [] policies → ArePolicies contents env names [] policies
  are_from policies are =
      subst (λ (x : Contents). ArePolicies x env names [] policies) same (subst (λ xs. ArePolicies h env xs [] policies) names_are are)

  pub refused_from : (faults faults_then faults_after : ℕ) (old mid new : List Word) (r : Refusal) → faults_then ≡ faults → mid ≡ old →
      PoliciesRefused h env ns faults_then faults_after mid new r → PoliciesRefused contents env names faults faults_after old new r
  refused_from faults faults_then faults_after old mid new r quiet asked p =
      subst (λ (x : Contents). PoliciesRefused x env names faults faults_after old new r) same
      (subst (λ xs. PoliciesRefused h env xs faults faults_after old new r) names_are
      (subst (λ f. PoliciesRefused h env ns f faults_after old new r) quiet
      (subst (λ a. PoliciesRefused h env ns faults_then faults_after a new r) asked p)))

-- the names that were asked for, with more names added
pub asked_more : (old mid new more names : List Word) → mid ≡ old → more ≡ names → new ≡ mid ++ more → new ≡ old ++ names
asked_more old mid new more names mid_is more_are new_is = new_is ∙ ap (λ ns. ns ++ more) mid_is ∙ ap (λ ns. old ++ ns) more_are

-- why a file was not fetched, stated of the files as they were before
pub fetch_refused_before : (contents h : Contents) (last : Word) (w : Which) (faults faults_then faults_after : ℕ) (r : Refusal) → h ≡ contents → faults_then ≡ faults →
    FetchRefused (h last) w faults_then faults_after r → FetchRefused (contents last) w faults faults_after r
fetch_refused_before contents h last w faults faults_then faults_after r same quiet p =
    subst (λ f. FetchRefused (contents last) w f faults_after r) quiet (subst (λ (x : Contents). FetchRefused (x last) w faults_then faults_after r) same p)
