use Rattle.std.proofs.Common.{◌≤◌, length, decimal, arith}
use Rattle.std.proofs.lemmas.Fmt.{length-decimal-le}
use Rattle.st_translate.proofs.address.push_octet.Goals as goal

pub push_number-requires : goal.push_number-requires
push_number-requires c =
    let fits = c.ranges.octet.fits in
    let same = c.from.ensures in
    let digits : length (decimal c.from.result) ≤ 3 = length-decimal-le 3 c.from.result (omega arith) (omega (arith, fits, same)) (omega (arith, fits, same)) in
    let room = c.requires in
    omega (arith, digits, room)

pub returns-clause-len : goal.returns-clause-len
returns-clause-len c =
    let fits = c.ranges.octet.fits in
    let same = c.from.ensures in
    let digits : length (decimal c.from.result) ≤ 3 = length-decimal-le 3 c.from.result (omega arith) (omega (arith, fits, same)) (omega (arith, fits, same)) in
    let len = c.push_number.ensures.len in
    omega (arith, digits, len)
