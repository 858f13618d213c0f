-- A `&` to places can be made if a `&` to an entry can.
use Prim.Native.Nat.{ℕ, ◌+◌}
use Rattle.std.specs.Prelude.{List, [], ◌∷◌, Option, Some, None}
use Rattle.std.specs.Mem.{type_size}
use seplogic.Ra.Ura.{Ura}
use base.Fml.{Lft, Incl, ftrue, ffalse}
use types.Logic.{Logic}
use denote.RattleType.{RattleType, RowLaws}
use denote.Param.Laws.{Laws}
use denote.RawPtr.{Ptr, block_ptr, null_ptr}
use denote.Sharing.{ShrLaws, said}
use denote.SharingLaws.{beside_shr_laws, nothing_shr_laws, said_shr_laws}
use denote.Shares.{Shares-less}
use denote.Struct.Lending.{Lends, Lends-both, Lends-nothing, Lends-said, Lends-false}
use Rattle.group_table.specs.CellOwners.{place, places, place_lent, places_lent, addressable, owns_cells, lends_cells}

module _ (R : RattleType) (laws : RowLaws R) where
  of_place : (block o : ℕ) (held : Option R.Denot) → ShrLaws (place_lent R block o held)
  of_place block o None = nothing_shr_laws
  of_place block o (Some entry) = laws entry block o

  of_places : (block o : ℕ) (held : List (Option R.Denot)) → ShrLaws (places_lent R block o held)
  of_places block o [] = nothing_shr_laws
  of_places block o (first ∷ more) =
      beside_shr_laws _ _ (of_place block o first) (of_places block (o + type_size R) more)

  pub cells_lent_laws : (start : Ptr) (held : List (Option R.Denot)) → ShrLaws (lends_cells R start held)
  cells_lent_laws null_ptr held = said_shr_laws ffalse tt
  cells_lent_laws (block_ptr block o) held =
      beside_shr_laws _ _ (said_shr_laws (addressable R held) tt) (of_places block o held)

module _ {M : Type 1} {𝓤 : Ura M} (𝓛 : Logic 𝓤) (l : Lft) (R : RattleType) (laws : Laws R)
    (outlives : Incl l R.lives) where
  lends_one : (block o : ℕ) (held : Option R.Denot) → Lends 𝓛 (place R block o held) (place_lent R block o held) l
  lends_one block o None = Lends-nothing 𝓛 (place R block o None) l
  lends_one block o (Some entry) =
      λ κ tokens. Shares-less 𝓛 R R.lives l outlives (laws.shares 𝓛) entry κ tokens block o

  lends_each : (block o : ℕ) (held : List (Option R.Denot))
      → Lends 𝓛 (places R block o held) (places_lent R block o held) l
  lends_each block o [] = Lends-nothing 𝓛 ftrue l
  lends_each block o (first ∷ more) = let next = o + type_size R in
      Lends-both 𝓛 (place R block o first) (places R block next more) (place_lent R block o first)
      (places_lent R block next more) l (lends_one block o first) (lends_each block next more)

  pub lends_all : (start : Ptr) (held : List (Option R.Denot))
      → Lends 𝓛 (owns_cells R start held) (lends_cells R start held) l
  lends_all null_ptr held = Lends-false 𝓛 (said ffalse) l
  lends_all (block_ptr block o) held = Lends-both 𝓛 (addressable R held) (places R block o held)
      (said (addressable R held)) (places_lent R block o held) l (Lends-said 𝓛 (addressable R held) tt l)
      (lends_each block o held)
