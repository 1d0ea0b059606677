use Rattle.std.proofs.Common.{◌≡◌, subst, rules}
use Rattle.st_memory.specs.Memory.{byte_in}
use Rattle.st_model.specs.Spelling.{Text, Fault}
use Rattle.st_translate.specs.Copied.{spelled_words}
use Rattle.st_arguments.specs.Parts.{IsSpelledBy}
use Rattle.st_arguments.proofs.Spelled.{fault_spelled, spelled_plain}
use Rattle.st_arguments.proofs.part.spelled_text.Goals as goal

pub returns-in-Some-clause-fault : goal.returns-in-Some-clause-fault
returns-in-Some-clause-fault c = λ errno h.
    let fault : spelled_words c.in_ok-copying-in-Name.copying ≡ Fault errno = fault_spelled (spelled_words c.in_ok-copying-in-Name.copying) (search (rules, c, h)) in
    subst (IsSpelledBy (byte_in c.args.spaces.now c.args.space) c.args.kind c.args.register) fault c.in_ok-copying-in-Name.ensures.spelled

pub returns-in-Name-clause-text : goal.returns-in-Name-clause-text
returns-in-Name-clause-text c =
    let text : spelled_words c.in_ok-copying-in-Name.copying ≡ Text c.in_ok-of-in-None.field-0 = search (rules, c) in
    subst (IsSpelledBy (byte_in c.args.spaces.now c.args.space) c.args.kind c.args.register) text c.in_ok-copying-in-Name.ensures.spelled

pub returns-clause-text : goal.returns-clause-text
returns-clause-text c = spelled_plain (byte_in c.args.spaces.now c.args.space) c.args.kind c.args.register c.in_ok-plain_text-in-Decimal.field-0 c.in_ok-plain_text-in-Decimal.ensures
