-- The miss-ratio curve of a trace, computed while the references are counted.
use Rattle.std.specs.Prelude.{◌≡◌, ℕ, ◌+◌, ◌≤◌, ◌<◌, List, [], length, map, take, sum, Option, Some, IfSome, nat_eq, true}
use Rattle.lru_theory.specs.Traces.{is_in, recency, misses, past_after}
use Rattle.lru_trace.specs.Names.{number_in}
use Rattle.lru_trace.specs.Slots.{Recent}

pub record Counted : Type 0 where
  -- the texts of the keys: each key has the index of its text as its number
  pub names : List (List ℕ)
  -- the numbers of the keys, the last referenced key first
  pub recency : List ℕ
  -- for each reuse distance, how many counted references had this distance
  pub counts : List ℕ
  pub references : ℕ
  -- for each counted reference, the number of its key; or `None` if the curve does not keep the references
  pub kept : Option (List ℕ)

-- the curve counts the references of `trace`, after the warm-up `warm`
pub record IsOf (warm trace : List (List ℕ)) (curve : Counted) : Type 0 where
  pub before : List ℕ
  pub numbers : List ℕ
  pub warmed : map (number_in curve.names) warm ≡ map Some before
  pub named : map (number_in curve.names) trace ≡ map Some numbers
  pub order : curve.recency ≡ recency nat_eq (past_after (past_after [] before) numbers)
  pub hits : (n : ℕ) → misses nat_eq n (past_after [] before) numbers + sum (take n curve.counts) ≡ curve.references
  pub all : curve.references ≡ length trace
  pub kept : IfSome curve.kept (λ kept. kept ≡ numbers)

-- all referenced keys were added
abbrev pub AreAdded : Recent → Type 0
AreAdded recent = (number : ℕ) → is_in nat_eq number recent.recency ≡ true → number < recent.keys

pub record IsCounted (names : List (List ℕ)) (recent : Recent) (counts : List ℕ) (first references : ℕ)
    : Type 0 where
  pub numbered : length names ≡ recent.keys
  pub within : AreAdded recent
  pub firsts : first ≡ length recent.recency
  pub few : first ≤ length counts
  pub total : sum counts ≤ references
  pub plain : recent.weights ≡ []
