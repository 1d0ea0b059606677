-- Examples of patterns and of the texts that they match or don't match.
use Rattle.std.proofs.Common.{◌≡◌, true, false, refl, codes}
use Rattle.st_glob.specs.Glob.{glob}

star_takes_a_part : glob (codes "/usr/*") (codes "/usr/lib/a") ≡ true
star_takes_a_part = refl

star_takes_nothing : glob (codes "/usr/*") (codes "/usr/") ≡ true
star_takes_nothing = refl

slash_is_wanted : glob (codes "/usr/*") (codes "/usr") ≡ false
slash_is_wanted = refl

class_then_any : glob (codes "[a-c]?") (codes "bx/y") ≡ true
class_then_any = refl

open_bracket_stays : glob (codes "a[") (codes "a[") ≡ true
open_bracket_stays = refl

no_class_takes_a_slash : glob (codes "[!/]") (codes "/") ≡ false
no_class_takes_a_slash = refl

front_of_no_bytes : glob (codes "") (codes "/x") ≡ true
front_of_no_bytes = refl

no_bytes : glob (codes "") (codes "") ≡ true
no_bytes = refl

no_front_within_a_part : glob (codes "") (codes "x") ≡ false
no_front_within_a_part = refl

star_stops_at_slash : glob (codes "*b") (codes "a/b") ≡ false
star_stops_at_slash = refl

star_before_slash : glob (codes "*/b") (codes "a/b/c") ≡ true
star_before_slash = refl

stars_in_a_part : glob (codes "*a*b") (codes "xaxaxbxb") ≡ true
stars_in_a_part = refl

stars_miss : glob (codes "*a*b") (codes "xbxa") ≡ false
stars_miss = refl

star_lets_go : glob (codes "*ab") (codes "aab") ≡ true
star_lets_go = refl

star_twice : glob (codes "a**") (codes "abc") ≡ true
star_twice = refl

any_takes_no_slash : glob (codes "a?b") (codes "a/b") ≡ false
any_takes_no_slash = refl

any_takes_one : glob (codes "a?") (codes "a") ≡ false
any_takes_one = refl

pair_is_a_byte : glob (codes "\\*") (codes "*") ≡ true
pair_is_a_byte = refl

pair_takes_no_other : glob (codes "\\*") (codes "a") ≡ false
pair_takes_no_other = refl

backslash_at_the_end : glob (codes "a\\") (codes "a\\") ≡ true
backslash_at_the_end = refl

negated_by_mark : glob (codes "[!a]") (codes "b") ≡ true
negated_by_mark = refl

negated_by_hat : glob (codes "[^a]") (codes "a") ≡ false
negated_by_hat = refl

negated_once : glob (codes "[^!a]") (codes "!") ≡ false
negated_once = refl

first_bracket_is_listed : glob (codes "[]a]") (codes "]") ≡ true
first_bracket_is_listed = refl

first_bracket_after_negation : glob (codes "[!]]") (codes "]") ≡ false
first_bracket_after_negation = refl

negation_alone : glob (codes "[!]") (codes "[!]") ≡ true
negation_alone = refl

bracket_alone : glob (codes "[]") (codes "[]") ≡ true
bracket_alone = refl

pair_closes_nothing : glob (codes "[\\]") (codes "[\\]") ≡ false
pair_closes_nothing = refl

pair_is_read_outside : glob (codes "[\\]") (codes "[]") ≡ true
pair_is_read_outside = refl

range_in_order : glob (codes "[a-c-e]") (codes "d") ≡ false
range_in_order = refl

range_then_dash : glob (codes "[a-c-e]") (codes "-") ≡ true
range_then_dash = refl

range_then_byte : glob (codes "[a-c-e]") (codes "e") ≡ true
range_then_byte = refl

range_has_its_ends : glob (codes "[a-c]") (codes "c") ≡ true
range_has_its_ends = refl

range_to_dash : glob (codes "[a--]") (codes "-") ≡ false
range_to_dash = refl

range_from_dash : glob (codes "[--a]") (codes "A") ≡ true
range_from_dash = refl

range_from_bracket : glob (codes "[]-a]") (codes "_") ≡ true
range_from_bracket = refl

range_to_a_pair : glob (codes "[a-\\]]") (codes "]") ≡ false
range_to_a_pair = refl

dash_first : glob (codes "[-a]") (codes "-") ≡ true
dash_first = refl

dash_last : glob (codes "[a-]") (codes "-") ≡ true
dash_last = refl

pair_of_dash : glob (codes "[a\\-c]") (codes "b") ≡ false
pair_of_dash = refl

range_from_a_pair : glob (codes "[\\a-c]") (codes "b") ≡ true
range_from_a_pair = refl

slash_listed_in_vain : glob (codes "a[a/b]") (codes "a/") ≡ false
slash_listed_in_vain = refl

slash_within_a_range : glob (codes "[.-0]") (codes "/") ≡ false
slash_within_a_range = refl

class_across_bytes : glob (codes "[ab]c") (codes "bc") ≡ true
class_across_bytes = refl

unclosed_class_is_read_on : glob (codes "[a*") (codes "[axy") ≡ true
unclosed_class_is_read_on = refl
