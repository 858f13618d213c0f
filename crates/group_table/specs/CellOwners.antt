-- A block of places for entries of type R: what the block owns and lends.
use Rattle.std.specs.Prelude.{ℕ, ◌+◌, ◌*◌, ◌^◌, List, [], ◌∷◌, length, Option, Some, None}
use Rattle.std.specs.Mem.{type_size}
use base.Fraction.{full_share}
use base.Fml.{Lft, Fml, ftrue, ffalse, fsep, flt, froom}
use mir.Syntax.{Ty, ty_array}
use mir.Raw.{raw}
use denote.RattleType.{RattleType}
use denote.Memory.{lone, part_at, shared_of}
use denote.Sharing.{nothing, said, beside}
use denote.RawPtr.{Ptr, block_ptr, null_ptr}

module _ (R : RattleType) where
  -- the place that begins at byte o of a block: an entry, or uninitialised memory for an entry
  abbrev pub place : ℕ → ℕ → Option R.Denot → Fml
  place block o (Some entry) = part_at R full_share entry block o
  place block o None = froom (raw (lone R.mir)) block o

  -- adjacent places; the first place begins at byte o of a block
  abbrev pub places : ℕ → ℕ → List (Option R.Denot) → Fml
  places block o [] = ftrue
  places block o (held ∷ more) = fsep (place block o held) (places block (o + type_size R) more)

  -- what may be read through a `&` to one place
  abbrev pub place_lent : ℕ → ℕ → Option R.Denot → Lft → Fml
  place_lent block o (Some entry) = shared_of R entry block o
  place_lent block o None = nothing

  -- what may be read through a `&` to a list of adjacent places
  abbrev pub places_lent : ℕ → ℕ → List (Option R.Denot) → Lft → Fml
  places_lent block o [] = nothing
  places_lent block o (held ∷ more) = beside (place_lent block o held) (places_lent block (o + type_size R) more)

  -- the places have fewer than 2 ^ 63 bytes
  abbrev pub addressable : List (Option R.Denot) → Fml
  addressable held = flt (length held * type_size R) (2 ^ 63)

  -- all places of a block that begins at this pointer
  abbrev pub owns_cells : Ptr → List (Option R.Denot) → Fml
  owns_cells (block_ptr block o) held = fsep (addressable held) (places block o held)
  owns_cells null_ptr held = ffalse

  -- what may be read through a `&` to all places of a block
  abbrev pub lends_cells : Ptr → List (Option R.Denot) → Lft → Fml
  lends_cells (block_ptr block o) held = beside (said (addressable held)) (places_lent block o held)
  lends_cells null_ptr held = said ffalse

  -- the allocator's token for a block of `count` places
  abbrev pub owns_block : (Ty → Ptr → Fml) → Ptr → ℕ → Fml
  owns_block token start count = token (raw (ty_array (lone R.mir) count)) start
