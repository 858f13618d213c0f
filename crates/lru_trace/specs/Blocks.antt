-- A list of weights, and the sums of its blocks of 16 weights.
use Rattle.std.specs.Prelude.{◌≡◌, ℕ, ◌*◌, ◌≤◌, ◌<◌, List, length, drop, sum}

-- For each block, the sums from this block on add up to as much as the weights from this block on.
pub record AreSums (weights sums : List ℕ) : Type 0 where
  pub enough : length weights ≤ 16 * length sums
  pub from : (block : ℕ) → sum (drop block sums) ≡ sum (drop (16 * block) weights)

-- the slots of a tree, and the slots of the tree above it
abbrev pub IsAbove : List ℕ → List ℕ → Type 0
IsAbove weights sums = (length sums < length weights) × AreSums weights sums
