-- The sizes that a line names: numbers below 2 ^ 64 in decimal digits, separated by single spaces.
use Rattle.std.specs.Prelude.{ℕ, ◌+◌, ◌-◌, ◌*◌, ◌^◌, ◌&&◌, nat_lt, nat_le, ◌==◌, if◌then◌else◌, List, [], ◌∷◌, ◌++◌}
use Rattle.std.specs.Prelude.{Option, Some, None}
use Rattle.std.specs.Option.{option_and_then, unwrap_or}

abbrev pub with_digit : ℕ → ℕ → Option ℕ
with_digit number b = if nat_le 48 b && (nat_le b 57 && nat_lt (10 * number + (b - 48)) (2 ^ 64))
    then Some (10 * number + (b - 48)) else None

-- The number that the bytes spell in decimal digits. If `number` is not `None`, the bytes are read as if the digits of
-- this number stood before them.
abbrev pub number_from : Option ℕ → List ℕ → Option ℕ
number_from number [] = number
number_from number (b ∷ bytes) =
    option_and_then (λ n. number_from (Some n) bytes) (with_digit (unwrap_or number 0) b)

-- The sizes `before`, followed by the sizes that the bytes name. If a number is given, the bytes are read as if its
-- digits stood before them.
abbrev pub sizes_from : List ℕ → Option ℕ → List ℕ → Option (List ℕ)
sizes_from before None [] = None
sizes_from before (Some number) [] = Some (before ++ number ∷ [])
sizes_from before None (b ∷ bytes) = option_and_then (λ n. sizes_from before (Some n) bytes) (with_digit 0 b)
sizes_from before (Some number) (b ∷ bytes) = if b == 32 then sizes_from (before ++ number ∷ []) None bytes
    else option_and_then (λ n. sizes_from before (Some n) bytes) (with_digit number b)
