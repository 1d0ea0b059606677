use Rattle.std.proofs.Common.{◌≡◌, take}
use Rattle.std.specs.Str.Parse.{AllDigits, digits_value}
use Rattle.st_base.proofs.number.numeral_up_to.Given as goal

-- the bytes so far are digits, and spell the value so far
abbrev pub invariant-loop-byte : goal.invariant-loop-byte
invariant-loop-byte l = record {
  digits : AllDigits l.radix (take l.byte-index l.digits);
  value : l.value ≡ digits_value l.radix (take l.byte-index l.digits);
}
