-- How a table is copied.
use Rattle.std.specs.Prelude.{◌≡◌, List, Option, Some, None, Result, Ok}
use Rattle.std.specs.declared.alloc.AllocError.{AllocError}
use Rattle.std.specs.List.{AllZip}
use Rattle.std.specs.Borrow.{Bor}
use Rattle.std.specs.Fn.{Shared, FnReturnsAt}
use Rattle.group_table.specs.Bucket.{Slot, empty, deleted, full}

module _ {T F : Type 0} (closure : Shared F (Bor T × Unit {0}) (Result T AllocError)) (f : F) where
  -- The copy of a free bucket has the same state. The copy of a full bucket has the same tag, and an entry that the
  -- closure f may return for the old entry.
  abbrev pub IsCopyOf : Slot T → Slot T → Type 0
  IsCopyOf empty copy = copy ≡ empty
  IsCopyOf deleted copy = copy ≡ deleted
  IsCopyOf (full held) copy = (made : T) × FnReturnsAt closure f held.entry (Ok made)
      × (copy ≡ full (record held { entry = made }))

  abbrev pub Copies : List (Slot T) → List (Slot T) → Type 0
  Copies old new = AllZip IsCopyOf old new

  -- The copy of a place without an entry has no entry. If a place has an entry, the copy has an entry that the closure
  -- f may return for the old entry.
  abbrev pub IsPlaceCopy : Option T → Option T → Type 0
  IsPlaceCopy None copy = copy ≡ None
  IsPlaceCopy (Some entry) copy = (made : T) × FnReturnsAt closure f entry (Ok made) × (copy ≡ Some made)
