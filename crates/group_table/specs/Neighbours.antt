-- Runs of 16 neighbouring buckets on the circle of all buckets. A search reads such a run as one group.
use Rattle.std.specs.Prelude.{◌≡◌, ℕ, ◌+◌, ◌%◌, ◌<◌}

module _ (Empty : ℕ → Type 0) (buckets b : ℕ) where
  -- each run of 16 neighbouring buckets that includes b contains an empty bucket
  abbrev pub HasEmptyNeighbours : Type 0
  HasEmptyNeighbours = (start at : ℕ) → at < 16 → (start + at) % buckets ≡ b
      → (lane : ℕ) × (lane < 16) × Empty ((start + lane) % buckets)

  -- some run of 16 neighbouring buckets includes b and contains no empty bucket
  pub record IsHemmedIn : Type 0 where
    pub start : ℕ
    pub at : ℕ
    pub within : at < 16
    pub there : (start + at) % buckets ≡ b
    pub none_empty : (lane : ℕ) → lane < 16 → Empty ((start + lane) % buckets) → ⊥
