-- What `update` does: it offers the limiter a new value for a key of the map.
--     `names i k`: the given key i names the key k.
use Rattle.std.specs.Prelude.{◌≡◌, Bool, true, false, List, [], Some, None}
use Rattle.lru_limits.specs.Rules.{Rules, Offers}
use Rattle.lru_model.specs.Lists.{lookup_entry, set_entry}
use Rattle.lru_model.specs.State.{State, Contents, contents, Leaves, trim}
use Rattle.lru_model.specs.Inserts.{replacement, with_new_value, with_removed}
use Rattle.lru_model.specs.Callbacks.{noting, noting_offers, noted}
use Rattle.lru_model.specs.declared.results.Updated.{Updated}
use Rattle.lru_model.specs.declared.results.Updated.TheVariants.{Replaced, Rejected, Absent}

module _ {K V S I : Type 0} (rules : Rules K V S) (offers : Offers K V S I) (names : I → K → Bool) where
  -- the contents after the limiter accepted the new value: the pair is now `with_new_value`, in its old place
  abbrev pub with_updated : K × V → I → V → Contents K V S → Contents K V S
  with_updated pair i v c = record {
    pairs = set_entry (names i) (with_new_value rules offers names pair i v c) c.pairs;
    limiter = (replacement rules offers names pair i v c).limiter;
  }

  pub data Update {H : Type 0} (i : I) (v : V) (old : State K V S H) (result : Updated V) (new : State K V S H)
      : Type 0 where
    -- The map contains the key, and the limiter accepts the new value. A trim follows.
    updated : (pair : K × V) → lookup_entry (names i) old.pairs ≡ Some pair →
        (replacement rules offers names pair i v (contents old)).taken ≡ true →
        result ≡ Replaced (replacement rules offers names pair i v (contents old)).old_value →
        Leaves old (trim rules (with_updated pair i v (contents old))) new →
        Update i v old result new
    -- The map contains the key, and the limiter rejects the new value: the pair is removed.
    rejected : (pair : K × V) → lookup_entry (names i) old.pairs ≡ Some pair →
        (replacement rules offers names pair i v (contents old)).taken ≡ false →
        result ≡ Rejected (replacement rules offers names pair i v (contents old)).new_value →
        Leaves old (with_removed rules offers names pair i v (contents old)) new →
        Update i v old result new
    -- The key is not in the map, and nothing changes.
    not_there : lookup_entry (names i) old.pairs ≡ None →
        result ≡ Absent v → new ≡ old →
        Update i v old result new

-- an update that passes the pairs `passed` to its callback
abbrev pub UpdatePasses : {K V S H I : Type 0} → Rules K V S → Offers K V S I → (I → K → Bool) → I → V → State K V S H
    → Updated V → List (K × V) → State K V S H → Type 0
UpdatePasses rules offers names i v old result passed new =
    Update (noting rules) (noting_offers offers) names i v (noted [] old) result (noted passed new)
