-- Numbers and the bytes that they are made of.
--     word-low_bytes_N, word-high_bytes      the number that the bytes of a number make
--     word-of_4_to_7, word-of_1_to_3         fewer than eight bytes as a number, by reads that may overlap
use Rattle.std.proofs.Common.{◌≡◌, ◌≤◌, ◌<◌, ◌+◌, ◌-◌, ◌*◌, ◌/◌, ◌%◌, ◌^◌, ℕ, List, [], ◌∷◌, length, get_or, bit_or}
use Rattle.std.proofs.Common.{sym, arith}
use Rattle.std.proofs.Math.Nat.{div-div-eq-div-mul}
use Rattle.std.specs.Int.{w64, from_le_bytes, bytes_low_first}
use Rattle.std.specs.Int.Bits.{or_self, or_shifted_r}
use Rattle.std.proofs.lemmas.Nat.{from_le_bytes-to_le_bytes_2, from_le_bytes-to_le_bytes_4, from_le_bytes-to_le_bytes_8}

pub word-low_bytes_2 : (n : ℕ) → n < 2 ^ 16 → from_le_bytes w64 (bytes_low_first 0 2 n) ≡ n
word-low_bytes_2 n fits = omega (arith, from_le_bytes-to_le_bytes_2 n fits)

pub word-low_bytes_4 : (n : ℕ) → n < 2 ^ 32 → from_le_bytes w64 (bytes_low_first 0 4 n) ≡ n
word-low_bytes_4 n fits = omega (arith, from_le_bytes-to_le_bytes_4 n fits)

pub word-low_bytes_8 : (n : ℕ) → from_le_bytes w64 (bytes_low_first 0 8 n) ≡ n % 2 ^ 64
word-low_bytes_8 n =
    let fits : n % 2 ^ 64 < 2 ^ 64 = omega arith in
    let at_0 : n % 256 ≡ n % 2 ^ 64 % 256 = omega arith in
    let at_1 : n / 256 % 256 ≡ n % 2 ^ 64 / 256 % 256 = omega arith in
    let at_2 : n / 65536 % 256 ≡ n % 2 ^ 64 / 65536 % 256 = omega arith in
    let at_3 : n / 16777216 % 256 ≡ n % 2 ^ 64 / 16777216 % 256 = omega arith in
    let at_4 : n / 4294967296 % 256 ≡ n % 2 ^ 64 / 4294967296 % 256 = omega arith in
    let at_5 : n / 1099511627776 % 256 ≡ n % 2 ^ 64 / 1099511627776 % 256 = omega arith in
    let at_6 : n / 281474976710656 % 256 ≡ n % 2 ^ 64 / 281474976710656 % 256 = omega arith in
    let at_7 : n / 72057594037927936 % 256 ≡ n % 2 ^ 64 / 72057594037927936 % 256 = omega arith in
    rw (at_0, at_1, at_2, at_3, at_4, at_5, at_6, at_7) (from_le_bytes-to_le_bytes_8 (n % 2 ^ 64) fits)

pub word-high_bytes : (n : ℕ) → n < 2 ^ 128 → from_le_bytes w64 (bytes_low_first 8 8 n) ≡ n / 2 ^ 64
word-high_bytes n fits =
    let high : n / 2 ^ 64 < 2 ^ 64 = omega arith in
    let at_1 : n / 2 ^ 72 ≡ n / 2 ^ 64 / 256 = sym (div-div-eq-div-mul n (2 ^ 64) 256) in
    let at_2 : n / 2 ^ 80 ≡ n / 2 ^ 64 / 65536 = sym (div-div-eq-div-mul n (2 ^ 64) 65536) in
    let at_3 : n / 2 ^ 88 ≡ n / 2 ^ 64 / 16777216 = sym (div-div-eq-div-mul n (2 ^ 64) 16777216) in
    let at_4 : n / 2 ^ 96 ≡ n / 2 ^ 64 / 4294967296 = sym (div-div-eq-div-mul n (2 ^ 64) 4294967296) in
    let at_5 : n / 2 ^ 104 ≡ n / 2 ^ 64 / 1099511627776 = sym (div-div-eq-div-mul n (2 ^ 64) 1099511627776) in
    let at_6 : n / 2 ^ 112 ≡ n / 2 ^ 64 / 281474976710656 = sym (div-div-eq-div-mul n (2 ^ 64) 281474976710656) in
    let at_7 : n / 2 ^ 120 ≡ n / 2 ^ 64 / 72057594037927936 = sym (div-div-eq-div-mul n (2 ^ 64) 72057594037927936) in
    rw (at_1, at_2, at_3, at_4, at_5, at_6, at_7) (from_le_bytes-to_le_bytes_8 (n / 2 ^ 64) high)

pub word-of_4_to_7 : (bs : List ℕ) (first last : ℕ) → ((k : ℕ) → get_or bs k 0 < 256) → 4 ≤ length bs → length bs < 8
    → first ≡ get_or bs 0 0 + get_or bs 1 0 * 256 + get_or bs 2 0 * 65536 + get_or bs 3 0 * 16777216
    → last ≡ get_or bs (length bs - 4) 0 + get_or bs (length bs - 3) 0 * 256 + get_or bs (length bs - 2) 0 * 65536
    + get_or bs (length bs - 1) 0 * 16777216
    → first + last / 2 ^ (8 * (8 - length bs)) * 4294967296 % 18446744073709551616 ≡ from_le_bytes w64 bs
word-of_4_to_7 (a ∷ b ∷ c ∷ d ∷ []) first last small four few f l =
    let at_0 : a < 256 = small 0 in
    let at_1 : b < 256 = small 1 in
    let at_2 : c < 256 = small 2 in
    let at_3 : d < 256 = small 3 in
    omega arith
word-of_4_to_7 (a ∷ b ∷ c ∷ d ∷ e ∷ []) first last small four few f l =
    let at_1 : b < 256 = small 1 in
    let at_2 : c < 256 = small 2 in
    let at_3 : d < 256 = small 3 in
    let at_4 : e < 256 = small 4 in
    omega arith
word-of_4_to_7 (a ∷ b ∷ c ∷ d ∷ e ∷ g ∷ []) first last small four few f l =
    let at_2 : c < 256 = small 2 in
    let at_3 : d < 256 = small 3 in
    let at_4 : e < 256 = small 4 in
    let at_5 : g < 256 = small 5 in
    omega arith
word-of_4_to_7 (a ∷ b ∷ c ∷ d ∷ e ∷ g ∷ h ∷ []) first last small four few f l =
    let at_3 : d < 256 = small 3 in
    let at_4 : e < 256 = small 4 in
    let at_5 : g < 256 = small 5 in
    let at_6 : h < 256 = small 6 in
    omega arith
word-of_4_to_7 [] first last small four few f l = absurd (omega arith)
word-of_4_to_7 (a ∷ []) first last small four few f l = absurd (omega arith)
word-of_4_to_7 (a ∷ b ∷ []) first last small four few f l = absurd (omega arith)
word-of_4_to_7 (a ∷ b ∷ c ∷ []) first last small four few f l = absurd (omega arith)
word-of_4_to_7 (a ∷ b ∷ c ∷ d ∷ e ∷ g ∷ h ∷ i ∷ bs) first last small four few f l = absurd (omega arith)

pub word-of_1_to_3 : (bs : List ℕ) → ((k : ℕ) → get_or bs k 0 < 256) → 0 < length bs → length bs < 4
    → bit_or (get_or bs 0 0) (bit_or (get_or bs (length bs / 2) 0 * 2 ^ (8 * (length bs / 2)) % 18446744073709551616)
    (get_or bs (length bs - 1) 0 * 2 ^ (8 * (length bs - 1)) % 18446744073709551616)) ≡ from_le_bytes w64 bs
word-of_1_to_3 [] small some few = absurd (omega arith)
word-of_1_to_3 (a ∷ []) small some few =
    let at_0 : a < 256 = small 0 in
    let whole : a * 1 % 18446744073709551616 ≡ a = omega arith in
    let sum : a + 0 ≡ a = omega arith in
    rw (whole, or_self a, or_self a) (omega arith)
word-of_1_to_3 (a ∷ b ∷ []) small some few =
    let at_0 : a < 2 ^ 8 = small 0 in
    let at_1 : b < 256 = small 1 in
    let whole : b * 256 % 18446744073709551616 ≡ b * 2 ^ 8 = omega arith in
    rw (whole, or_self (b * 2 ^ 8), or_shifted_r b 8 a at_0) (omega arith)
word-of_1_to_3 (a ∷ b ∷ c ∷ []) small some few =
    let at_0 : a < 2 ^ 8 = small 0 in
    let at_1 : b < 256 = small 1 in
    let at_2 : c < 256 = small 2 in
    let low : b * 256 % 18446744073709551616 ≡ b * 256 = omega arith in
    let high : c * 65536 % 18446744073709551616 ≡ c * 2 ^ 16 = omega arith in
    let below : b * 256 < 2 ^ 16 = omega arith in
    let both : c * 2 ^ 16 + b * 256 ≡ (c * 256 + b) * 2 ^ 8 = omega arith in
    rw (low, high, or_shifted_r c 16 (b * 256) below, both, or_shifted_r (c * 256 + b) 8 a at_0) (omega arith)
word-of_1_to_3 (a ∷ b ∷ c ∷ d ∷ bs) small some few = absurd (omega arith)
