use Rattle.std.proofs.Common.{◌∙◌, ◌++◌, ◌∷◌, [], ℕ, List, take, get_or, ap, sym, append_assoc, arith}
use Rattle.std.proofs.lemmas.List.{take_more}
use Rattle.std.proofs.lemmas.List.Sums.{prefix_len-le-length}
use Rattle.st_translate.specs.Bytes.{is_letter}
use Rattle.st_translate.proofs.Letters.{goes_past, none_stops, stops_at}
use Rattle.st_translate.proofs.stage.push_until_zero.Goals as goal

pub returns-then-byte-eq0-clause-bytes : goal.returns-then-byte-eq0-clause-bytes
returns-then-byte-eq0-clause-bytes c =
    let front = c.loop-count.invariant.3 in
    let stops = stops_at c.args.bytes.now c.loop-count.count front c.loop-count-test.true c.if-byte-eq0.true in
    c.loop-count.invariant.0 ∙ ap (λ (n : ℕ). c.args.text.now.items ++ take n c.args.bytes.now) stops.0

pub returns-then-byte-eq0-clause-count : goal.returns-then-byte-eq0-clause-count
returns-then-byte-eq0-clause-count c = (stops_at c.args.bytes.now c.loop-count.count c.loop-count.invariant.3 c.loop-count-test.true c.if-byte-eq0.true).0

pub returns-then-byte-eq0-clause-ended : goal.returns-then-byte-eq0-clause-ended
returns-then-byte-eq0-clause-ended c = sym (stops_at c.args.bytes.now c.loop-count.count c.loop-count.invariant.3 c.loop-count-test.true c.if-byte-eq0.true).1

pub loop-count-preserved : goal.loop-count-preserved
loop-count-preserved c =
    let below = c.loop-count-test.true in
    let byte = get_or c.args.bytes.now c.loop-count.count 0 in (
      c.push_reserved.ensures.items
          ∙ ap (λ (items : List ℕ). items ++ byte ∷ []) c.loop-count.invariant.0
          ∙ append_assoc c.args.text.now.items (take c.loop-count.count c.args.bytes.now) (byte ∷ [])
          ∙ ap (λ (front : List ℕ). c.args.text.now.items ++ front) (sym (take_more c.args.bytes.now c.loop-count.count 0 below)),
      (let more = c.push_reserved.ensures.len in let len = c.loop-count.invariant.1 in omega (arith, more, len)),
      (let same = c.push_reserved.ensures.capacity in let room = c.loop-count.invariant.2 in omega (arith, same, room)),
      goes_past c.args.bytes.now c.loop-count.count c.loop-count.invariant.3 below c.if-byte-eq0.false,
    )

pub returns-clause-count : goal.returns-clause-count
returns-clause-count c =
    let front = c.loop-count.invariant.3 in
    let over = c.loop-count-test.false in
    let within = prefix_len-le-length is_letter c.args.bytes.now in
    omega (arith, front, over, within)

pub returns-clause-ended : goal.returns-clause-ended
returns-clause-ended c =
    let front = c.loop-count.invariant.3 in
    let over = c.loop-count-test.false in
    sym (none_stops c.args.bytes.now (omega (arith, front, over)))
