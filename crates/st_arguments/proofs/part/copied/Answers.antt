use Rattle.std.proofs.Common.{◌≤◌, ◌∷◌, [], ap, refl, sym, subst, length, length-append, IsSome, arith, rules}
use Rattle.st_memory.specs.Memory.{byte_in}
use Rattle.st_arguments.proofs.Spelled.{copying_begun, copying_on, copying_ended, few_copied, IsCopying}
use Rattle.st_arguments.proofs.part.copied.Goals as goal

pub loop-place-init : goal.loop-place-init
loop-place-init c = copying_begun (byte_in c.args.spaces.now c.args.space) c.args.kind c.args.at c.in_ok-copying.copying (search (rules, c))

pub loop-place-smaller : goal.loop-place-smaller
loop-place-smaller c =
    let few : length c.loop-place.copying.words ≤ 192 = few_copied (byte_in c.args.spaces.now c.args.space) c.args.kind c.args.at c.loop-place.copying c.loop-place.invariant (subst IsSome c.in-Some.ensures.value refl) in
    let more = ap (λ copied. length copied.words) c.take.ensures.words in
    let one = length-append c.loop-place.copying.words (c.in-Some-word.word ∷ []) in
    omega (arith, few, more, one)

pub loop-place-preserved : goal.loop-place-preserved
loop-place-preserved c =
    subst (IsCopying (byte_in c.args.spaces.now c.args.space) c.args.kind c.args.at) (sym c.take.ensures.words)
    (copying_on (byte_in c.args.spaces.now c.args.space) c.args.kind c.args.at c.loop-place.copying c.in-Some.place c.in-Some-word.word c.loop-place.invariant c.in-Some.ensures.value c.in-Some-word.ensures.value)

pub returns-clause-spelled : goal.returns-clause-spelled
returns-clause-spelled c = copying_ended (byte_in c.args.spaces.now c.args.space) c.args.kind c.args.at c.loop-place.copying c.loop-place.invariant (search (rules, c))
