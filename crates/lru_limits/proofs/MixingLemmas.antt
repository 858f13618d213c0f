-- The hasher after it wrote the bytes of a number.
--     written-le_bytes_N      the hasher after a number of N bytes
--     number_writes           the lemmas for numbers that one step writes
use Rattle.std.proofs.Common.{◌≡◌, ◌<◌, ◌+◌, ◌*◌, ◌/◌, ◌%◌, ◌^◌, ℕ, ap, arith, ◌∙◌}
use Rattle.std.specs.Hash.{le_bytes}
use Rattle.lru_limits.specs.Mixing.{Mixer, joined, written}
use Rattle.lru_limits.proofs.ByteLemmas.{word-low_bytes_2, word-low_bytes_4, word-low_bytes_8, word-high_bytes}

pub written-le_bytes_2 : (h : Mixer) (n : ℕ) → n < 2 ^ 16 → written h (le_bytes 2 n)
    ≡ record h { state = joined h.rest_key h.state (n + 2 * 2 ^ 56) }
unfolding le_bytes
written-le_bytes_2 h n fits = ap (λ w. record h { state = joined h.rest_key h.state (w + 2 * 2 ^ 56) })
    (word-low_bytes_2 n fits)

pub written-le_bytes_4 : (h : Mixer) (n : ℕ) → n < 2 ^ 32 → written h (le_bytes 4 n)
    ≡ record h { state = joined h.rest_key h.state (n + 4 * 2 ^ 56) }
unfolding le_bytes
written-le_bytes_4 h n fits = ap (λ w. record h { state = joined h.rest_key h.state (w + 4 * 2 ^ 56) })
    (word-low_bytes_4 n fits)

pub written-le_bytes_8 : (h : Mixer) (n : ℕ) → n < 2 ^ 64 → written h (le_bytes 8 n)
    ≡ record h { state = joined h.word_key h.state n }
unfolding le_bytes
written-le_bytes_8 h n fits =
    let whole : n % 2 ^ 64 ≡ n = omega arith in
    ap (λ w. record h { state = joined h.word_key h.state w }) (word-low_bytes_8 n ∙ whole)

pub written-le_bytes_16 : (h : Mixer) (n : ℕ) → n < 2 ^ 128 → written h (le_bytes 16 n)
    ≡ record h { state = joined h.word_key (joined h.word_key h.state (n % 2 ^ 64)) (n / 2 ^ 64) }
unfolding le_bytes
written-le_bytes_16 h n fits =
    rw (word-low_bytes_8 n, word-high_bytes n fits)

pub ruleset number_writes = (written-le_bytes_2, written-le_bytes_4, written-le_bytes_8)
