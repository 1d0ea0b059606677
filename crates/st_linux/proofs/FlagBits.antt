-- The native flags for flags of Linux, by their bits.
use native.Mathlib.Omega.{arith}
use Rattle.std.proofs.Common.{◌≡◌, ◌≢◌, ◌<◌, ◌+◌, ◌*◌, ◌/◌, ◌%◌, ◌^◌, ℕ, zero, suc, false, not, ◌==◌, if◌then◌else◌, refl, sym, ap, ◌∙◌}
use Rattle.std.proofs.lemmas.Bool.{ne_eqb}
use Rattle.std.proofs.lemmas.Nat.Bits.{and_pow, bit_at-lt, bit_at_above}
use Rattle.std.proofs.lemmas.Nat.{pow_pos}
use Rattle.std.specs.Int.{bit_at}
use Rattle.st_linux.specs.Flags.{flag_if_set, native_flags}

-- a flag that is chosen by one bit
by_bit : (b k native : ℕ) → b < 2 → (if not (b * 2 ^ k == 0) then native else 0) ≡ b * native
by_bit zero k native few =
    let none : 0 * 2 ^ k ≡ 0 = omega arith in
    rw none (omega arith)
by_bit (suc zero) k native few =
    let some : (1 * 2 ^ k == 0) ≡ false = ne_eqb (1 * 2 ^ k) 0 (λ e. let more : 0 < 2 ^ k = pow_pos k in omega (arith, e, more)) in
    rw some (omega arith)
by_bit (suc (suc b)) k native few = absurd (omega arith)

flag_bit : (flags k native : ℕ) → flag_if_set flags (2 ^ k) native ≡ bit_at flags k * native
flag_bit flags k native = ap (λ n. if not (n == 0) then native else 0) (and_pow flags k) ∙ by_bit (bit_at flags k) k native (bit_at-lt flags k)

-- the sum of the requested access and the flags, by bits
abbrev by_bits : ℕ → ℕ → ℕ → ℕ → ℕ → ℕ
by_bits access create exclusive truncate append = access + create * 512 + exclusive * 2048 + truncate * 1024 + append * 8

native_bits : (flags : ℕ) → native_flags flags ≡ by_bits (flags % 4) (bit_at flags 6) (bit_at flags 7) (bit_at flags 9) (bit_at flags 10)
native_bits flags = rw (sym (flag_bit flags 6 512), sym (flag_bit flags 7 2048), sym (flag_bit flags 9 1024), sym (flag_bit flags 10 8)) refl

-- each bit of the sum, where the access is below 4 and each bit is 0 or 1
module _ (a c e t p : ℕ) (access : a < 4) (create : c < 2) (exclusive : e < 2) (truncate : t < 2) (append : p < 2) where
  bit_0 : (by_bits a c e t p) / 1 % 2 ≡ a % 2
  bit_0 = omega (arith, access, create, exclusive, truncate, append)

  bit_1 : (by_bits a c e t p) / 2 % 2 ≡ a / 2 % 2
  bit_1 = omega (arith, access, create, exclusive, truncate, append)

  bit_3 : (by_bits a c e t p) / 8 % 2 ≡ p
  bit_3 = omega (arith, access, create, exclusive, truncate, append)

  bit_9 : (by_bits a c e t p) / 512 % 2 ≡ c
  bit_9 = omega (arith, access, create, exclusive, truncate, append)

  bit_10 : (by_bits a c e t p) / 1024 % 2 ≡ t
  bit_10 = omega (arith, access, create, exclusive, truncate, append)

  bit_11 : (by_bits a c e t p) / 2048 % 2 ≡ e
  bit_11 = omega (arith, access, create, exclusive, truncate, append)

  bit_2 : (by_bits a c e t p) / 4 % 2 ≡ 0
  bit_2 = omega (arith, access, create, exclusive, truncate, append)

  bit_4 : (by_bits a c e t p) / 16 % 2 ≡ 0
  bit_4 = omega (arith, access, create, exclusive, truncate, append)

  bit_5 : (by_bits a c e t p) / 32 % 2 ≡ 0
  bit_5 = omega (arith, access, create, exclusive, truncate, append)

  bit_6 : (by_bits a c e t p) / 64 % 2 ≡ 0
  bit_6 = omega (arith, access, create, exclusive, truncate, append)

  bit_7 : (by_bits a c e t p) / 128 % 2 ≡ 0
  bit_7 = omega (arith, access, create, exclusive, truncate, append)

  bit_8 : (by_bits a c e t p) / 256 % 2 ≡ 0
  bit_8 = omega (arith, access, create, exclusive, truncate, append)

  below : by_bits a c e t p < 2 ^ 12
  below = omega (arith, access, create, exclusive, truncate, append)

  no_more : (k : ℕ) → k ≢ 0 → k ≢ 1 → k ≢ 3 → k ≢ 9 → k ≢ 10 → k ≢ 11 → bit_at (by_bits a c e t p) k ≡ 0
  no_more zero n0 n1 n3 n9 n10 n11 = absurd (n0 refl)
  no_more (suc zero) n0 n1 n3 n9 n10 n11 = absurd (n1 refl)
  no_more (suc (suc zero)) n0 n1 n3 n9 n10 n11 = bit_2
  no_more (suc (suc (suc zero))) n0 n1 n3 n9 n10 n11 = absurd (n3 refl)
  no_more (suc (suc (suc (suc zero)))) n0 n1 n3 n9 n10 n11 = bit_4
  no_more (suc (suc (suc (suc (suc zero))))) n0 n1 n3 n9 n10 n11 = bit_5
  no_more (suc (suc (suc (suc (suc (suc zero)))))) n0 n1 n3 n9 n10 n11 = bit_6
  no_more (suc (suc (suc (suc (suc (suc (suc zero))))))) n0 n1 n3 n9 n10 n11 = bit_7
  no_more (suc (suc (suc (suc (suc (suc (suc (suc zero)))))))) n0 n1 n3 n9 n10 n11 = bit_8
  no_more (suc (suc (suc (suc (suc (suc (suc (suc (suc zero))))))))) n0 n1 n3 n9 n10 n11 = absurd (n9 refl)
  no_more (suc (suc (suc (suc (suc (suc (suc (suc (suc (suc zero)))))))))) n0 n1 n3 n9 n10 n11 = absurd (n10 refl)
  no_more (suc (suc (suc (suc (suc (suc (suc (suc (suc (suc (suc zero))))))))))) n0 n1 n3 n9 n10 n11 = absurd (n11 refl)
  no_more (suc (suc (suc (suc (suc (suc (suc (suc (suc (suc (suc (suc k)))))))))))) n0 n1 n3 n9 n10 n11 = bit_at_above (by_bits a c e t p) 12 (suc (suc (suc (suc (suc (suc (suc (suc (suc (suc (suc (suc k)))))))))))) below (omega arith)

-- ---- the bits of the native flags

module _ (flags : ℕ) where
  access_bound : flags % 4 < 4
  access_bound = omega arith

  bit_of : (k n : ℕ) → bit_at (by_bits (flags % 4) (bit_at flags 6) (bit_at flags 7) (bit_at flags 9) (bit_at flags 10)) k ≡ n → bit_at (native_flags flags) k ≡ n
  bit_of k n is = ap (λ m. bit_at m k) (native_bits flags) ∙ is

  low : flags % 4 % 2 ≡ flags / 1 % 2
  low = omega arith

  pub read : bit_at (native_flags flags) 0 ≡ bit_at flags 0
  read = bit_of 0 (bit_at flags 0) (bit_0 (flags % 4) (bit_at flags 6) (bit_at flags 7) (bit_at flags 9) (bit_at flags 10) access_bound (bit_at-lt flags 6) (bit_at-lt flags 7) (bit_at-lt flags 9) (bit_at-lt flags 10) ∙ low)

  high : flags % 4 / 2 % 2 ≡ flags / 2 % 2
  high = omega arith

  pub write : bit_at (native_flags flags) 1 ≡ bit_at flags 1
  write = bit_of 1 (bit_at flags 1) (bit_1 (flags % 4) (bit_at flags 6) (bit_at flags 7) (bit_at flags 9) (bit_at flags 10) access_bound (bit_at-lt flags 6) (bit_at-lt flags 7) (bit_at-lt flags 9) (bit_at-lt flags 10) ∙ high)

  pub append_bit : bit_at (native_flags flags) 3 ≡ bit_at flags 10
  append_bit = bit_of 3 (bit_at flags 10) (bit_3 (flags % 4) (bit_at flags 6) (bit_at flags 7) (bit_at flags 9) (bit_at flags 10) access_bound (bit_at-lt flags 6) (bit_at-lt flags 7) (bit_at-lt flags 9) (bit_at-lt flags 10))

  pub create_bit : bit_at (native_flags flags) 9 ≡ bit_at flags 6
  create_bit = bit_of 9 (bit_at flags 6) (bit_9 (flags % 4) (bit_at flags 6) (bit_at flags 7) (bit_at flags 9) (bit_at flags 10) access_bound (bit_at-lt flags 6) (bit_at-lt flags 7) (bit_at-lt flags 9) (bit_at-lt flags 10))

  pub truncate_bit : bit_at (native_flags flags) 10 ≡ bit_at flags 9
  truncate_bit = bit_of 10 (bit_at flags 9) (bit_10 (flags % 4) (bit_at flags 6) (bit_at flags 7) (bit_at flags 9) (bit_at flags 10) access_bound (bit_at-lt flags 6) (bit_at-lt flags 7) (bit_at-lt flags 9) (bit_at-lt flags 10))

  pub exclusive_bit : bit_at (native_flags flags) 11 ≡ bit_at flags 7
  exclusive_bit = bit_of 11 (bit_at flags 7) (bit_11 (flags % 4) (bit_at flags 6) (bit_at flags 7) (bit_at flags 9) (bit_at flags 10) access_bound (bit_at-lt flags 6) (bit_at-lt flags 7) (bit_at-lt flags 9) (bit_at-lt flags 10))

  pub no_more_bits : (k : ℕ) → k ≢ 0 → k ≢ 1 → k ≢ 3 → k ≢ 9 → k ≢ 10 → k ≢ 11 → bit_at (native_flags flags) k ≡ 0
  no_more_bits k n0 n1 n3 n9 n10 n11 = bit_of k 0 (no_more (flags % 4) (bit_at flags 6) (bit_at flags 7) (bit_at flags 9) (bit_at flags 10) access_bound (bit_at-lt flags 6) (bit_at-lt flags 7) (bit_at-lt flags 9) (bit_at-lt flags 10) k n0 n1 n3 n9 n10 n11)
