-- The Fibonacci numbers, modulo 2 ^ 64.
use Rattle.std.specs.Prelude.{ℕ, zero, suc, ◌+◌, ◌%◌, ◌^◌}

abbrev pub fibonacci_number : ℕ → ℕ
fibonacci_number zero = 0
fibonacci_number (suc zero) = 1
fibonacci_number (suc (suc n)) = (fibonacci_number (suc n) + fibonacci_number n) % 2 ^ 64
