-- What a purge of all paths below a prefix does to the host of these paths.
use Rattle.std.specs.Prelude.{◌≡◌, ℕ, nat_eq, Bool, not, List, filter, string_bytes}
use Rattle.std.specs.List.{starts_with}
use Rattle.std.specs.declared.string.String.{String}
use Rattle.std.specs.declared.alloc.Global.{Global}
use Rattle.example_responses.specs.LookUps.{Host}

abbrev pub is_below : List ℕ → String Global → Bool
is_below prefix path = starts_with nat_eq (string_bytes path) prefix

abbrev pub PurgesBelow : {S : Type 0} → List ℕ → Host (String Global) S → Unit {0}
    → Host (String Global) S → Type 0
PurgesBelow prefix old done new = new.pairs ≡ filter (λ pair. not (is_below prefix pair.0)) old.pairs
