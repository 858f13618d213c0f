use Rattle.std.proofs.Common.{◌≡◌, ℕ, ◌+◌, ◌<◌, ◌≤◌, inl, inr, List, length, arith}
use Rattle.group_table.specs.Sizes.{IsPowerFromFour, full_capacity}
use Rattle.group_table.specs.Bucket.{BucketState, growth_left}
use Rattle.group_table.proofs.CountedStates.{facts}
use Rattle.lru_model.specs.State.{Counts, IsSound}

module _ {n entry_bytes max : ℕ} {states : List BucketState} {counts : Counts} (ok : IsSound n entry_bytes max states counts)
  where
    pub fits : n + growth_left states ≤ full_capacity (length states)
    fits = omega (arith, (facts ok.table).within, ok.taken)

    pub exact : length states ≤ 16 → n + growth_left states ≡ full_capacity (length states)
    exact small = omega (arith, (facts ok.table).exact small, ok.taken)

    pub own_count : 0 < length states → IsPowerFromFour (length states)
    own_count some = elim ok.table.count [ inl none ↦ absurd (omega (arith, none, some)) | inr power ↦ power ]
