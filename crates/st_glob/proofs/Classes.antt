-- Classes: their members, ranges and closing brackets.
use Rattle.std.proofs.Common.{◌≡◌, ℕ, ◌+◌, ◌<◌, ◌≤◌, ◌≢◌, ◌==◌, ◌||◌, ◌&&◌, Bool, true, false, List, [], ◌∷◌, length, drop, get_or, Option, None, Some, refl, ap, sym, subst, ◌∙◌, arith, cond}
use Rattle.std.proofs.lemmas.Bool.Decides.{nat_tests}
use Rattle.st_glob.specs.Items.{Member, members, has_byte, is_listed, in_range, dash, farther_by, member_len, to_bracket, class_len, is_negated, bracket_item, byte_item, backslash_item, first_item, SizedItem}

pub either : (b : Bool) (P : Type 0) → (b ≡ true → P) → (b ≡ false → P) → P
either true P f g = f refl
either false P f g = g refl

in_range-one : (a c : ℕ) → in_range a a c ≡ (a == c)
in_range-one a c = grind (arith, nat_tests)

or-false : (b : Bool) → b ≡ (b || false)
or-false true = refl
or-false false = refl

lists-single : (m : Member) (c : ℕ) → has_byte (m ∷ []) c ≡ (in_range m.byte m.byte c || has_byte [] c)
lists-single m c = sym (in_range-one m.byte c) ∙ or-false (in_range m.byte m.byte c)

lists-plain : (m b : Member) (ms : List Member) (c : ℕ) → (b.bare && (b.byte == dash)) ≡ false → has_byte (m ∷ b ∷ ms) c ≡ (in_range m.byte m.byte c || has_byte (b ∷ ms) c)
lists-plain m b [] c e = ap (λ (x : Bool). x || (b.byte == c)) (sym (in_range-one m.byte c))
lists-plain m b (d ∷ ms) c e = rw e (ap (λ (x : Bool). x || has_byte (b ∷ d ∷ ms) c) (sym (in_range-one m.byte c)))

members-plain : (b : ℕ) (rest : List ℕ) → (b == 92) ≡ false → members (b ∷ rest) ≡ record { byte = b; bare = true } ∷ members rest
members-plain b [] e = refl
members-plain b (c ∷ rest) e = rw e refl

members-pair : (b c : ℕ) (rest : List ℕ) → (b == 92) ≡ true → members (b ∷ c ∷ rest) ≡ record { byte = c; bare = false } ∷ members rest
members-pair b c rest e = rw e refl

-- a member before bytes that don't begin with a dash is a range of one byte
lists-no-dash : (m : Member) (b : ℕ) (rest : List ℕ) (c : ℕ) → (b == dash) ≡ false → has_byte (m ∷ members (b ∷ rest)) c ≡ (in_range m.byte m.byte c || has_byte (members (b ∷ rest)) c)
lists-no-dash m b [] c e = lists-plain m (record { byte = b; bare = true }) [] c e
lists-no-dash m b (d ∷ rest) c e =
    let P : List Member → Type 0 = λ ms. has_byte (m ∷ ms) c ≡ (in_range m.byte m.byte c || has_byte ms c) in
    either (b == 92) (P (members (b ∷ d ∷ rest)))
    (λ h. subst P (sym (members-pair b d rest h)) (lists-plain m (record { byte = d; bare = false }) (members rest) c refl))
    (λ h. subst P (sym (members-plain b (d ∷ rest) h)) (lists-plain m (record { byte = b; bare = true }) (members (d ∷ rest)) c e))

pub listed-short : (class following : List ℕ) (m : Member) → members class ≡ m ∷ members following → length following < 2 → (c : ℕ) → is_listed class c ≡ (in_range m.byte m.byte c || is_listed following c)
listed-short class [] m e h c = ap (λ (ms : List Member). has_byte ms c) e ∙ lists-single m c
listed-short class (b ∷ []) m e h c = ap (λ (ms : List Member). has_byte ms c) e ∙ ap (λ (x : Bool). x || (b == c)) (sym (in_range-one m.byte c))
listed-short class (b ∷ d ∷ rest) m e h c = absurd (omega arith)

pub listed-plain : (class following : List ℕ) (m : Member) → members class ≡ m ∷ members following → get_or following 0 0 ≢ 45 → (c : ℕ) → is_listed class c ≡ (in_range m.byte m.byte c || is_listed following c)
listed-plain class [] m e h c = ap (λ (ms : List Member). has_byte ms c) e ∙ lists-single m c
listed-plain class (b ∷ rest) m e h c = ap (λ (ms : List Member). has_byte ms c) e ∙ lists-no-dash m b rest c (grind (arith, nat_tests))

-- a member, a dash and another member are a range
pub listed-range : (class following : List ℕ) (m h : Member) (more : ℕ) →
    members class ≡ m ∷ members following → 2 ≤ length following → get_or following 0 0 ≡ 45 → members (drop 1 following) ≡ h ∷ members (drop more (drop 1 following)) →
    (c : ℕ) → is_listed class c ≡ (in_range m.byte h.byte c || is_listed (drop more (drop 1 following)) c)
listed-range class [] m h more e n d f c = absurd (omega arith)
listed-range class (b ∷ []) m h more e n d f c = absurd (omega arith)
listed-range class (b ∷ d ∷ rest) m h more e n is f c =
    let dash_first : members (b ∷ d ∷ rest) ≡ record { byte = 45; bare = true } ∷ members (d ∷ rest) = rw is refl in
    ap (λ (ms : List Member). has_byte ms c) (e ∙ ap (λ (ms : List Member). m ∷ ms) (dash_first ∙ ap (λ (ms : List Member). record { byte = 45; bare = true } ∷ ms) f))

further-further : (a b : ℕ) (n : Option ℕ) → farther_by a (farther_by b n) ≡ farther_by (a + b) n
further-further a b None = refl
further-further a b (Some n) = ap Some (omega arith)

pub further-none : (n : Option ℕ) → n ≡ farther_by 0 n
further-none None = refl
further-none (Some n) = ap Some (omega arith)

bracket-member : (bytes : List ℕ) → 0 < length bytes → get_or bytes 0 0 ≢ 93 → to_bracket bytes ≡ farther_by (member_len bytes) (to_bracket (drop (member_len bytes) bytes))
bracket-member [] h n = absurd (omega arith)
bracket-member (b ∷ []) h n = grind (arith, nat_tests)
bracket-member (b ∷ c ∷ rest) h n =
    let k : (b == 93) ≡ false = grind (arith, nat_tests) in
    let P : ℕ → Option ℕ → Type 0 = λ len n. n ≡ farther_by len (to_bracket (drop len (b ∷ c ∷ rest))) in
    either (b == 92) (P (member_len (b ∷ c ∷ rest)) (to_bracket (b ∷ c ∷ rest)))
    (λ e. rw (k, e) refl)
    (λ e. rw (k, e) refl)

pub bracket-more : (all bytes : List ℕ) (count len : ℕ) → 0 < length bytes → get_or bytes 0 0 ≢ 93 → len ≡ member_len bytes →
    to_bracket all ≡ farther_by count (to_bracket bytes) → to_bracket all ≡ farther_by (count + len) (to_bracket (drop len bytes))
bracket-more all bytes count len h n e i =
    i ∙ ap (farther_by count) (bracket-member bytes h n) ∙ further-further count (member_len bytes) (to_bracket (drop (member_len bytes) bytes)) ∙
    ap (λ (k : ℕ). farther_by (count + k) (to_bracket (drop k bytes))) (sym e)

pub bracket-here : (bytes : List ℕ) → 0 < length bytes → get_or bytes 0 0 ≡ 93 → to_bracket bytes ≡ Some 0
bracket-here [] h e = absurd (omega arith)
bracket-here (b ∷ []) h e = grind (arith, nat_tests)
bracket-here (b ∷ c ∷ rest) h e = grind (arith, nat_tests)

-- ---- unclosed brackets

further-is-none : (k : ℕ) (n : Option ℕ) → farther_by k n ≡ None → n ≡ None
further-is-none k None e = refl
further-is-none k (Some n) e = absurd (cc)

no-bracket : (b : ℕ) (rest : List ℕ) → to_bracket (b ∷ rest) ≡ None → b ≢ 93
no-bracket b rest e h = let f : to_bracket (b ∷ rest) ≡ Some 0 = bracket-here (b ∷ rest) (omega arith) h in absurd (cc)

-- a byte that isn't a backslash is skipped alone
pub unclosed-later : (b : ℕ) (rest : List ℕ) → (b == 92) ≡ false → to_bracket (b ∷ rest) ≡ None → to_bracket rest ≡ None
unclosed-later b [] n e = refl
unclosed-later b (c ∷ rest) n e =
    let h : (b == 93) ≡ false = let g : b ≢ 93 = no-bracket b (c ∷ rest) e in grind (arith, nat_tests) in
    let f : farther_by 1 (to_bracket (c ∷ rest)) ≡ None = rw (h, n) at e in
    further-is-none 1 (to_bracket (c ∷ rest)) f

unclosed-class : (bytes : List ℕ) → to_bracket bytes ≡ None → class_len bytes ≡ None
unclosed-class [] e = refl
unclosed-class (b ∷ rest) e =
    let h : (b == 93) ≡ false = let g : b ≢ 93 = no-bracket b rest e in grind (arith, nat_tests) in
    rw h e

unclosed-negated : (bytes : List ℕ) → is_negated bytes ≡ true → to_bracket bytes ≡ None → class_len (drop 1 bytes) ≡ None
unclosed-negated [] n e = absurd (cc)
unclosed-negated (b ∷ rest) n e =
    let h : (b == 92) ≡ false = grind (arith, nat_tests) in
    unclosed-class rest (unclosed-later b rest h e)

pub unclosed-item : (following : List ℕ) → to_bracket following ≡ None → bracket_item following ≡ byte_item 91
unclosed-item following e =
    either (is_negated following) (bracket_item following ≡ byte_item 91)
    (λ n. let l : class_len (drop 1 following) ≡ None = unclosed-negated following n e in rw (n, l) refl)
    (λ n. let l : class_len following ≡ None = unclosed-class following e in rw (n, l) refl)

pub unclosed-bracket : (following : List ℕ) → to_bracket (91 ∷ following) ≡ None → bracket_item following ≡ byte_item 91
unclosed-bracket following e = unclosed-item following (unclosed-later 91 following refl e)

-- a property of a choice, from both of its values
pub tested : {A : Type 0} (P : A → Type 0) (b : Bool) (x y : A) → P x → P y → P (cond b x y)
tested P true x y p q = p
tested P false x y p q = q

one-byte : (b : ℕ) (following : List ℕ) → (b == 92) ≡ false → to_bracket following ≡ None → (first_item b following).following ≡ 0
one-byte b following n e =
    let P : SizedItem → Type 0 = λ s. s.following ≡ 0 in
    rw (n, unclosed-item following e) (tested P (b == 42) _ _ refl (tested P (b == 63) _ _ refl (tested P (b == 91) _ _ refl refl)))

following-backslash : (following : List ℕ) → to_bracket (92 ∷ following) ≡ None → to_bracket (drop (backslash_item following).following following) ≡ None
following-backslash [] e = refl
following-backslash (b ∷ rest) e = further-is-none 2 (to_bracket rest) e

-- if no closing bracket follows in a pattern, none follows after its first item
pub still-unclosed : (b : ℕ) (following : List ℕ) → to_bracket (b ∷ following) ≡ None → to_bracket (drop (first_item b following).following following) ≡ None
still-unclosed b following e =
    let P : Type 0 = to_bracket (drop (first_item b following).following following) ≡ None in
    either (b == 92) P
    (λ h. let g : b ≡ 92 = grind (arith, nat_tests) in subst (λ (x : ℕ). to_bracket (drop (first_item x following).following following) ≡ None) (sym g) (following-backslash following (subst (λ (x : ℕ). to_bracket (x ∷ following) ≡ None) g e)))
    (λ h. let f : to_bracket following ≡ None = unclosed-later b following h e in
    subst (λ (k : ℕ). to_bracket (drop k following) ≡ None) (sym (one-byte b following h f)) f)
