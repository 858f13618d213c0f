-- What an insert does to an ordered map.
use Rattle.std.specs.Prelude.{Bool, List, [], ◌∷◌, ◌++◌, is_some, if◌then◌else◌}
use Rattle.std.specs.Map.{lookup, set_value}

-- The entries of an ordered map, oldest first, after an insert. A new entry comes last.
abbrev pub put : {K V : Type 0} → (K → Bool) → K × V → List (K × V) → List (K × V)
put names entry entries =
    if is_some (lookup names entries) then set_value names entries entry.1 else entries ++ entry ∷ []
