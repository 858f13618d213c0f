use Rattle.std.proofs.Common.{◌≡◌, ◌<◌, ◌≤◌, ◌+◌, ◌-◌, ◌%◌, ◌^◌, ℕ, zero, suc, refl, ap, ◌∙◌, arith}
use Rattle.lru_caches_tests.specs.Fibonacci.{fibonacci_number}

pub small : (n : ℕ) → n < 2 → n ≡ fibonacci_number n
small zero h = refl
small (suc zero) h = refl
small (suc (suc n)) h = omega (arith, h)

next : (n : ℕ) → 2 ≤ n → (fibonacci_number (n - 1) + fibonacci_number (n - 2)) % 2 ^ 64 ≡ fibonacci_number n
next zero h = omega (arith, h)
next (suc zero) h = omega (arith, h)
next (suc (suc n)) h =
    let one : suc (suc n) - 1 ≡ suc n = omega arith in
    let two : suc (suc n) - 2 ≡ n = omega arith in
    ap (λ k. (fibonacci_number k + fibonacci_number (suc (suc n) - 2)) % 2 ^ 64) one
    ∙ ap (λ k. (fibonacci_number (suc n) + fibonacci_number k) % 2 ^ 64) two

pub sum_is : (n a b : ℕ) → 2 ≤ n → a ≡ fibonacci_number (n - 1) → b ≡ fibonacci_number (n - 2)
    → (a + b) % 2 ^ 64 ≡ fibonacci_number n
sum_is n a b h e f =
    ap (λ x. (x + b) % 2 ^ 64) e ∙ ap (λ y. (fibonacci_number (n - 1) + y) % 2 ^ 64) f ∙ next n h
