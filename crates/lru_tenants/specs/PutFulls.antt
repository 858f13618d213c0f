-- The value that a `put_full` returns.
use Rattle.std.specs.Prelude.{Bool, Option, Some, length, is_some, not, ◌&&◌, if◌then◌else◌}
use Rattle.lru_limits.specs.Admissions.{Terms, offers_of}
use Rattle.lru_limits.specs.Rules.{Rules}
use Rattle.lru_model.specs.Inserts.{unkept_value}
use Rattle.lru_model.specs.Lists.{lookup}
use Rattle.lru_model.specs.State.{State, contents}

module _ {K V L S : Type 0} (terms : Terms K V L) (eq : K → K → Bool) (key : K) (value : V) where
  abbrev pub rejects : State K V L S → Bool
  rejects map = not (terms.accepts map.limiter (length map.pairs) key value) && not (is_some (lookup (eq key) map.pairs))

  -- The value that the map does not keep. If the limiter rejects the entry of a new key, this is the given value.
  -- Otherwise it is the `unkept_value` of the insert.
  abbrev pub comes_back : Rules K V L → State K V L S → Option V
  comes_back rules map =
      if rejects map then Some value else unkept_value rules (offers_of terms) eq key value (contents map)
