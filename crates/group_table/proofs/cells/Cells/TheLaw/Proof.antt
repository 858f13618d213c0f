use mathlib.Core.List.{[], ◌++◌}
use base.Fml.{Incl-trans}
use contract.BorrowLft.{meet_⊑_left}
use denote.RattleType.{RattleType}
use denote.RawPtr.{RawPtr}
use denote.Param.Laws.{Laws}
use denote.Param.Shared.{copy_shared}
use denote.Struct.Laws.{field_copy}
use denote.Struct.Lending.{of_Lends}
use Rattle.std.specs.contracts.marker.PhantomData as mark
use Rattle.group_table.specs.contracts.cells.Cells as cells
use Rattle.group_table.proofs.cells.Cells.TheLaw.Statement.{statement}
use Rattle.group_table.proofs.CellSharing.{cells_lent_laws, lends_all}

pub shares : (R : RattleType) (L : Laws R) → statement R L
shares R L =
    of_Lends (cells.struct R) (cells.the_codes R.Denot R.coded (mark.the_row RawPtr).coded) (cells.the_heap R)
    (cells.the_lent R) (λ c p. cells_lent_laws R L.shr_laws c.start c.places)
    (copy_shared (mark.the_field RawPtr) (field_copy (mark.the_type RawPtr) tt), tt)
    (λ M 𝓤 𝓛 c p. lends_all 𝓛 (cells.the_row R).lives R L
    (Incl-trans (meet_⊑_left (R.lives ++ []) _) (meet_⊑_left R.lives [])) c.start c.places)
