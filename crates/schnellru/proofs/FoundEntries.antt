use Rattle.std.proofs.Common.{◌≡◌, ℕ, Bool, true, false, cond, nat_eq, List, [], ◌∷◌, Some, None, refl, ap, ◌∙◌}
use Rattle.std.specs.Prelude.{Contains}
use Rattle.std.specs.List.{list_any}
use Rattle.std.specs.Map.{set_value}
use Rattle.std.specs.Borrow.{MutBor}
use Rattle.std.specs.Coded.{Coded-set, coded_bool}
use Rattle.std.specs.declared.cmp.PartialEq as equality
use Rattle.std.specs.declared.hash.Hash as hashing
use Rattle.std.specs.declared.hash.Hasher as hasher
use Rattle.std.specs.declared.hash.BuildHasher as builder
use Rattle.std.proofs.lemmas.Bool.{eqb-true}
use Rattle.std.proofs.lemmas.Map.Views.{Contains-from_any}
use Rattle.lru_limits.specs.declared.keys.KeyHasher as key_hasher
use Rattle.group_table.specs.declared.link.LinkType as link_type
use Rattle.lru_limits.specs.declared.limiter.Limiter as limiter
use Rattle.lru_model.specs.Calls.{promoted, written}
use Rattle.lru_model.specs.Lists.{place_of}
use Rattle.lru_model.specs.State.{State, place_in}
use Rattle.lru_model.proofs.PairLists.NamedPlaces.{front_place}
use Rattle.schnellru.specs.declared.map.entry.OccupiedEntry.{OccupiedEntry}

pub bucket_there : (b : ℕ) (places : List ℕ) → list_any (nat_eq b) places ≡ true → Contains places b
bucket_there b places there = Contains-from_any eqb-true b places there

module _ {K V : Type 0} (names : K → Bool) where
  value_place : (w : V) (pairs : List (K × V)) (places : List ℕ) → place_of names (set_value names pairs w) places
      ≡ place_of names pairs places
  value_place w [] places = refl
  value_place w (p ∷ ps) [] = go (names p.0)
    where
      go : (y : Bool) → place_of names (cond y ((p.0, w) ∷ ps) (p ∷ set_value names ps w)) [] ≡ None
      go true = refl
      go false = refl
  value_place w (p ∷ ps) (c ∷ cs) = go (names p.0) refl (value_place w ps cs)
    where
      go : (y : Bool) → names p.0 ≡ y → place_of names (set_value names ps w) cs ≡ place_of names ps cs
          → place_of names (cond y ((p.0, w) ∷ ps) (p ∷ set_value names ps w)) (c ∷ cs)
          ≡ cond y (Some c) (place_of names ps cs)
      go true is later = ap (λ y. cond y (Some c) (place_of names ps cs)) is
      go false is later = ap (λ y. cond y (Some c) (place_of names (set_value names ps w) cs)) is ∙ later

  module _ {S H : Type 0} (st new : State K V S H) (b : ℕ) (place : place_in names st ≡ Some b) where
    pub promoted_place : new ≡ promoted names st → place_in names new ≡ Some b
    promoted_place is = ap (place_in names) is ∙ front_place names st.pairs st.table.places b place

    pub written_place : (w : V) → new ≡ written names w st → place_in names new ≡ Some b
    written_place w is = ap (place_in names) is ∙ value_place w st.pairs st.table.places ∙ place

module _ {K V L S N H : Type 0} {equal : equality.Ghosts K} {input : hashing.Ghosts K} {limits : limiter.Ghosts L K V N}
    {links : link_type.Ghosts N}
    {keyed : key_hasher.Ghosts S K H} {build : builder.Ghosts S H} {hash : hasher.Ghosts H} where
  abbrev entry : (m : MutBor (State K V L S)) (b : ℕ) → list_any (nat_eq b) m.now.table.places ≡ true
      → OccupiedEntry K V L S N H equal input limits links keyed build hash
  entry m b there = record { map = m; bucket = b; there = there }

  -- handles on the same bucket are equal, because proofs of the same fact are equal
  pub same_entry : {m : MutBor (State K V L S)} {b : ℕ} {there again : list_any (nat_eq b) m.now.table.places ≡ true}
      → entry m b there ≡ entry m b again
  same_entry {m} {b} {there} {again} = λ i. entry m b (Coded-set coded_bool _ _ there again i)
