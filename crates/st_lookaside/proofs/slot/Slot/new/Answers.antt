use Rattle.std.proofs.Common.{◌≡◌, ◌∙◌, ◌<◌, ◌++◌, ◌∷◌, [], ℕ, List, length, map, take, get_or, ap, sym, subst, arith}
use Rattle.std.specs.Prelude.{All}
use Rattle.std.proofs.lemmas.List.{get_or_default, map-append, take_more}
use Rattle.std.proofs.lemmas.List.Elements.{All-push}
use Rattle.std.proofs.Math.Seq.{take-length}
use Rattle.st_calls.specs.Argument.{args_of}
use Rattle.st_calls.specs.declared.argument.ArgSpec.{ArgSpec}
use Rattle.st_calls.specs.declared.argument.Label.TheVariants as label
use Rattle.st_calls.specs.declared.argument.PartKind.TheVariants as kind
use Rattle.st_lookaside.specs.Head.{arg_request}
use Rattle.st_lookaside.specs.Part.{filled_of, nothing_filled, IsPart}
use Rattle.st_lookaside.specs.declared.part.Part.{Part}
use Rattle.st_lookaside.proofs.Turns.{begun_anew}
use Rattle.st_lookaside.proofs.slot.Slot.new.Goals as goal

pub loop-spec-preserved : goal.loop-spec-preserved
loop-spec-preserved c =
    let i = c.loop-spec.spec-index in
    let old : List Part = c.loop-spec.parts.items in
    let part : Part = c.in_ok-begin.field-0 in
    let within : i < length (args_of c.args.head.rule) = subst (λ (l : List ArgSpec). i < length l) c.args_of-specs.ensures c.loop-spec-test.true in
    let items = c.in_ok-push.ensures.items in
    let specs : List ArgSpec = args_of c.args.head.rule in
    let none : ArgSpec = record { label = label.Filename; index = 0; register = 0; kind = kind.Name } in
    let here : part.spec ≡ get_or specs i part.spec =
    c.in_ok-begin.ensures.spec ∙ ap (λ (l : List ArgSpec). get_or l i none) c.args_of-specs.ensures ∙ get_or_default specs i none part.spec within in
    record {
      specs = ap (map (λ (p : Part). p.spec)) items ∙ map-append (λ (p : Part). p.spec) old (part ∷ []) ∙ ap (λ (l : List ArgSpec). l ++ part.spec ∷ []) c.loop-spec.invariant.specs
          ∙ ap (λ (x : ArgSpec). take i specs ++ x ∷ []) here ∙ sym (take_more specs i part.spec within);
      parts = subst (All (IsPart (arg_request c.args.head))) (sym items) (All-push (IsPart (arg_request c.args.head)) old part c.loop-spec.invariant.parts c.in_ok-begin.ensures.part);
      filled = subst (All (λ (p : Part). filled_of p ≡ nothing_filled)) (sym items) (All-push (λ p. filled_of p ≡ nothing_filled) old part c.loop-spec.invariant.filled c.in_ok-begin.ensures.filled);
    }

pub returns : goal.returns
returns c =
    let specs : List ArgSpec = args_of c.args.head.rule in
    let len = ap length c.args_of-specs.ensures in
    let all : c.loop-spec.spec-index ≡ length specs = omega (arith, len, c.loop-spec-test.false, c.loop-spec.auto.spec-index-end) in
    begun_anew c.args.head c.loop-spec.parts.items (c.loop-spec.invariant.specs ∙ ap (λ (n : ℕ). take n specs) all ∙ take-length specs) c.loop-spec.invariant.filled
