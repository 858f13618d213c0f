-- The places of `Entries`, and their block of memory.
use Rattle.std.specs.Prelude.{◌≡◌, ◌<◌, List, [], length, Option, Some, None, ⊤}
use Rattle.std.specs.declared.alloc.Global.{Global}
use Rattle.group_table.specs.declared.entries.Row.{Row}

module _ {T : Type 0} where
  abbrev pub places_of : Option (Row T) → List (Option T)
  places_of None = []
  places_of (Some row) = row.cells.places

  -- The pointer, the places and the deed (the right to free the block) belong to one block of this allocator. The block
  -- has at least one place.
  pub record IsOneBlock (row : Row T) (alloc : Global) : Type 0 where
    pub places_start : row.cells.start ≡ row.block.start
    pub deed_start : row.deed.start ≡ row.block.start
    pub deed_count : row.deed.count ≡ length row.cells.places
    pub deed_alloc : row.deed.alloc ≡ alloc
    pub some : 0 < length row.cells.places

  -- the table has no row of places, or the row is one block
  abbrev pub IsRow : Option (Row T) → Global → Type 0
  IsRow None alloc = ⊤
  IsRow (Some row) alloc = IsOneBlock row alloc
