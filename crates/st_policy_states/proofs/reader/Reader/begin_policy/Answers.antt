use Rattle.std.proofs.Common.{◌≡◌, ◌∙◌, Bool, true, false, cond, Err, ap, sym}
use Rattle.std.specs.List.{list_any}
use Rattle.std.specs.Str.{bytes_eq}
use Rattle.st_grammar.specs.Diagram.{step_to}
use Rattle.st_grammar.specs.Reading.{binaries}
use Rattle.st_grammar.specs.declared.fault.PolicyFault.TheVariants.{DuplicatePolicy}
use Rattle.st_grammar.specs.declared.place.Place.TheVariants as place
use Rattle.st_grammar.proofs.Policies.{any-binaries}
use Rattle.st_policy_states.proofs.reader.Reader.begin_policy.Goals as goal

pub returns-then-has-clause-ok : goal.returns-then-has-clause-ok
returns-then-has-clause-ok c = λ memory.
    let known : list_any (λ b. bytes_eq b c.args.binary.now) (binaries c.args.known.now) ≡ true = any-binaries c.args.binary.now c.args.known.now ∙ sym c.has.ensures ∙ c.if-has.true in
    ap (λ (b : Bool). cond b (Err (DuplicatePolicy c.args.at)) (step_to c.args.self.now place.Comma)) known

pub returns-clause-ok : goal.returns-clause-ok
returns-clause-ok c =
    let other : list_any (λ b. bytes_eq b c.args.binary.now) (binaries c.args.known.now) ≡ false = any-binaries c.args.binary.now c.args.known.now ∙ sym c.has.ensures ∙ c.if-has.false in
    ap (λ (b : Bool). cond b (Err (DuplicatePolicy c.args.at)) (step_to c.args.self.now place.Comma)) other ∙ ap (λ w. step_to w place.Comma) (sym c.self.view_is)
