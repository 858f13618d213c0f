use Rattle.std.proofs.Common.{◌≡◌, ℕ, List, get_or, Option, Some, None, IsSome, refl, sym, ◌∙◌, ap}
use Rattle.std.proofs.lemmas.Bool.{false≢true}
use Rattle.std.specs.declared.alloc.Global.{Global}
use Rattle.group_table.specs.Cells.{Holds}
use Rattle.group_table.specs.Entries.{places_of, IsRow}
use Rattle.group_table.specs.declared.entries.Row.{Row}

module _ {T : Type 0} where
  some_held : (place : Option T) → IsSome place → (entry : T) × (place ≡ Some entry)
  some_held (Some entry) some = (entry, refl)
  some_held None some = absurd (false≢true some)

  pub held_there : {row : Option (Row T)} {there : Row T} {places : List (Option T)}
      (alloc : Global) (b : ℕ)
      → row ≡ Some there → IsRow row alloc → places_of row ≡ places → IsSome (get_or places b None)
      → (there.cells.start ≡ there.block.start) × Holds there.cells.places b
  held_there {row} {there} {places} alloc b is whole seen some =
      let block = rw is at whole in
      let held = some_held _ some in
      let same : there.cells.places ≡ places = sym (ap places_of is) ∙ seen in
      (block.places_start, (held.0, ap (λ held. get_or held b None) same ∙ held.1))
