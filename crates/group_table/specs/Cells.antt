-- Whether a place holds an entry.
use Rattle.std.specs.Prelude.{◌≡◌, ℕ, List, Option, Some, None, get_or}

abbrev pub Holds : {T : Type 0} → List (Option T) → ℕ → Type 0
Holds {T} places b = (entry : T) × (get_or places b None ≡ Some entry)
