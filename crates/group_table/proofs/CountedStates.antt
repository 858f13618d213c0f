use Rattle.std.proofs.Common.{◌≡◌, ℕ, ◌+◌, ◌<◌, ◌≤◌, List, length, ap, arith, inl, inr, subst}
use Rattle.group_table.specs.Sizes.{full_capacity, IsPowerFromFour}
use Rattle.group_table.specs.Bucket.{BucketState, empty, bucket_at, is_full, entry_count, growth_left}
use Rattle.group_table.specs.Table.{IsTable}
use Rattle.group_table.specs.Probe.{probed, IsFirstFree}
use Rattle.group_table.proofs.SizeLemmas.{full_capacity-lt}
use Rattle.group_table.proofs.BucketLemmas.{some_empty, room_is, used_count-split}
use Rattle.group_table.proofs.ProbeLemmas.{probed-lt, probed-meets}
use Rattle.group_table.proofs.FirstFree.{first_free_there}

pub record TableFacts (states : List BucketState) : Type 0 where
  pub within : entry_count states + growth_left states ≤ full_capacity (length states)
  pub exact : length states ≤ 16 → entry_count states + growth_left states ≡ full_capacity (length states)
  pub some_empty : 0 < length states → (b : ℕ) × (b < length states) × (bucket_at states b ≡ empty)
  pub some_free : 0 < length states → (hash : ℕ) → (b : ℕ) × (b < length states) × IsFirstFree states hash b
  pub visits_each : (hash b : ℕ) → b < length states
      → (step : ℕ) × (step < length states) × (probed (length states) hash step ≡ b)

module _ {states : List BucketState} (table : IsTable states) where
  power : 0 < length states → IsPowerFromFour (length states)
  power pos = elim table.count [ inl none ↦ absurd (omega (arith, none, pos)) | inr p ↦ p ]

  empty_there : 0 < length states → (b : ℕ) × (b < length states) × (bucket_at states b ≡ empty)
  empty_there pos = some_empty states (omega (arith, table.used_within, full_capacity-lt (length states) (power pos)))

  free_there : 0 < length states → (hash : ℕ) → (b : ℕ) × (b < length states) × IsFirstFree states hash b
  free_there pos hash =
      let (b, below, is) = empty_there pos in
      let (c, first) = first_free_there states hash (power pos) b below (ap is_full is) in
      (c, subst (λ n. n < length states) first.there (probed-lt (length states) hash first.step pos), first)

  pub facts : TableFacts states
  facts =
      let split = used_count-split states in
      let spare = room_is states in
      record {
        within = omega (arith, split, spare, table.used_within);
        exact = λ small. omega (arith, split, spare, table.used_within, table.none_deleted small);
        some_empty = empty_there;
        some_free = free_there;
        visits_each = λ hash b p. probed-meets (length states) hash b (power (omega (arith, p))) p;
      }
