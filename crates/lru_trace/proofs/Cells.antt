use Rattle.std.proofs.Common.{◌≡◌, ℕ, zero, suc, [], refl}
use Rattle.lru_trace.specs.Lines.{cell}

pub cell_of_nothing : (separator n : ℕ) → cell separator n [] ≡ []
cell_of_nothing separator zero = refl
cell_of_nothing separator (suc n) = cell_of_nothing separator n
