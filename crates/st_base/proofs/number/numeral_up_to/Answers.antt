use Rattle.std.proofs.Common.{arith, ◌≡◌, ◌≢◌, length, take, ap, sym, ◌∙◌, subst}
use Rattle.std.proofs.lemmas.Bool.{eqb-false}
use Rattle.std.proofs.lemmas.List.{take_all}
use Rattle.std.specs.Str.Parse.{AllDigits, digits_value}
use Rattle.std.proofs.lemmas.Int.Digits.{digits_more}
use Rattle.st_base.proofs.Digits.{cannot_go_on, goes_on, numeral_up_to-some}
use Rattle.st_base.proofs.number.numeral_up_to.Goals as goal

pub loop-byte-preserved : goal.loop-byte-preserved
loop-byte-preserved c = record {
  digits = digits_more c.args.radix c.args.digits.now c.loop-byte.byte-index (omega arith) c.loop-byte.invariant.digits c.in_ok-value.ensures.found.0;
  value = c.in_ok-value.ensures.found.1 ∙ goes_on c.args.radix c.loop-byte.value c.loop-byte.byte-index c.args.digits.now (omega arith) c.loop-byte.invariant.value;
}

pub returns-in_err-value : goal.returns-in_err-value
returns-in_err-value c =
    c.from_residual.ensures ∙ sym (cannot_go_on c.args.most c.args.radix c.loop-byte.value c.loop-byte.byte-index c.args.digits.now (omega arith) (omega arith) (omega arith) c.loop-byte.invariant.value c.in_err-value.ensures.none)

pub returns-then-value-most : goal.returns-then-value-most
returns-then-value-most c =
    let whole : take c.loop-byte.byte-index c.args.digits.now ≡ c.args.digits.now = take_all c.loop-byte.byte-index c.args.digits.now (omega arith) in
    let some : length c.args.digits.now ≢ 0 = eqb-false (length c.args.digits.now) 0 (sym c.is_empty.ensures ∙ c.if-is_empty.false) in
    numeral_up_to-some c.args.most c.args.radix c.loop-byte.value c.args.digits.now (omega arith)
    (subst (AllDigits c.args.radix) whole c.loop-byte.invariant.digits)
    (c.loop-byte.invariant.value ∙ ap (digits_value c.args.radix) whole)
    c.if-value-most.true
