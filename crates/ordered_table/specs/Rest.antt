-- How the fields of a walk determine the pairs that the walk has still to visit. No public contract uses this module.
use Rattle.std.specs.Prelude.{◌≡◌, ℕ, ◌<◌, List, [], ◌∷◌, ◌++◌, length, take, nat_eq, if◌then◌else◌, Some}
use Rattle.ordered_table.specs.OrderedTable.{OrderedTable, IsLinked, entries_in}
use Rattle.lru_model.specs.Lists.{first as first_bucket, last as last_bucket}

-- the buckets of an order from bucket b on
abbrev pub from_bucket : ℕ → List ℕ → List ℕ
from_bucket b [] = []
from_bucket b (c ∷ cs) = if nat_eq c b then c ∷ cs else from_bucket b cs

module _ {K V : Type 0} (t : OrderedTable K V) where
  -- the next `left` pairs of the walk; the first of these pairs is in the bucket `front`
  abbrev pub rest_of : ℕ → ℕ → List (K × V)
  rest_of front left = entries_in t.slots (take left (from_bucket front t.order))

  -- The walk has returned the entries in the buckets `before` from the front, and the entries in the buckets `after`
  -- from the back. The entries in the buckets `middle` are left.
  pub record IsRest (front back left : ℕ) : Type 0 where
    pub linked : IsLinked t
    pub before : List ℕ
    pub middle : List ℕ
    pub after : List ℕ
    pub order : t.order ≡ before ++ (middle ++ after)
    pub count : length middle ≡ left
    -- If buckets are left, `front` is the first of them, and `back` is the last. If no bucket is left, `front` and
    -- `back` may be any numbers.
    pub first : 0 < left → first_bucket middle ≡ Some front
    pub last : 0 < left → last_bucket middle ≡ Some back
