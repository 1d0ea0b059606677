use Rattle.std.proofs.Common.{◌≡◌, ℕ, ◌-◌, List, length, take, drop, ◌++◌, ap, ◌∙◌, sym, arith}
use Rattle.std.specs.Prelude.{option_copied}
use Rattle.std.proofs.lemmas.List.Sums.{prefix_len-le-length}
use Rattle.std.proofs.lemmas.List.{take_rest, length-drop}
use Rattle.st_lex.specs.Unquote.{is_plain_byte, names_in, unquoted_from}
use Rattle.st_lex.proofs.Plains.{names_apart, plain_first}
use Rattle.st_lex.proofs.Unquotes.{front_at}
use Rattle.st_lex.proofs.unquoted.unquote_inside.Goals as goal

pub loop-at-init : goal.loop-at-init
loop-at-init c =
    record {
      same = plain_first (names_in (option_copied c.args.dollars)) (names_apart (option_copied c.args.dollars)) c.args.bytes.now
          ∙ ap (λ (n : ℕ). take n c.args.bytes.now ++ unquoted_from (names_in (option_copied c.args.dollars)) 0 (drop n c.args.bytes.now)) (sym c.plain_len-at.ensures)
          ∙ ap (λ (xs : List ℕ). xs ++ unquoted_from (names_in (option_copied c.args.dollars)) 0 (drop c.plain_len-at.result c.args.bytes.now)) (sym c.in_ok-text.ensures);
      place = omega (arith, prefix_len-le-length is_plain_byte c.args.bytes.now, c.plain_len-at.ensures);
    }

pub loop-at-preserved : goal.loop-at-preserved
loop-at-preserved c =
    let cut = take_rest c.args.bytes.now c.loop-at.at in
    let n : length (take (length c.args.bytes.now - c.loop-at.at) (drop c.loop-at.at c.args.bytes.now)) ≡ length c.args.bytes.now - c.loop-at.at = ap length cut ∙ length-drop c.loop-at.at c.args.bytes.now in
    record {
      same = front_at (names_in (option_copied c.args.dollars)) _ c.loop-at.text c.append_front.new.out c.args.bytes.now _ c.loop-at.at c.in_ok-at.field-0 cut (omega (arith, n)) c.loop-at.invariant.same c.in_ok-at.ensures.len c.in_ok-at.ensures.some c.in_ok-at.ensures.text;
      place = omega (arith, n, c.in_ok-at.ensures.within);
    }
