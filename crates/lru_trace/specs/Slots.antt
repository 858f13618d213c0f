-- A log of references: a list of slots. A slot contains the number of a key, or 2 ^ 32 - 1 if the slot is free.
use Rattle.std.specs.Prelude.{◌≡◌, ◌≢◌, ℕ, ◌-◌, ◌*◌, ◌^◌, ◌≤◌, ◌<◌, if◌then◌else◌, List, [], ◌∷◌, ◌++◌, length}
use Rattle.std.specs.Prelude.{map, sum, sum_by, get_or, Option, Some, None, nat_eq, Vec, vec_capacity}
use Rattle.std.specs.Option.{option_to_list}
use Rattle.lru_theory.specs.Traces.{is_in, since}
use Rattle.lru_trace.specs.Blocks.{AreSums}

-- `recency` contains the referenced keys, the last referenced key first. `weights` contains the weights of the keys
-- from key 0 on. `room` is the number of free slots at the end of the log.
pub record Recent : Type 0 where
  pub recency : List ℕ
  pub keys : ℕ
  pub weights : List ℕ
  pub room : ℕ

-- the weight of the key, or 1 if the list contains no weight for this key
abbrev pub weight_in : List ℕ → ℕ → ℕ
weight_in weights key = get_or weights key 1

-- the sum of the weights of the keys before this key in the recency list, or `None` if the key is not in the list
abbrev pub position : (ℕ → ℕ) → ℕ → List ℕ → Option ℕ
position weight key recency =
    if is_in nat_eq key recency then Some (sum_by weight (since nat_eq key recency)) else None

abbrev pub weight_of : (ℕ → ℕ) → Option ℕ → ℕ
weight_of weight None = 0
weight_of weight (Some key) = weight key

-- the keys in the slots, the last slot first
abbrev pub newest : List (Option ℕ) → List ℕ
newest [] = []
newest (slot ∷ slots) = newest slots ++ option_to_list slot

-- the key in a slot with this content, or `None` if the slot is free
abbrev pub held : ℕ → Option ℕ
held number = if nat_eq number (2 ^ 32 - 1) then None else Some number

abbrev pub live : List ℕ → List (Option ℕ)
live log = map held log

-- the weight of a slot with this content: the weight of its key, or 0 if the slot is free
abbrev pub slot_weight : (ℕ → ℕ) → ℕ → ℕ
slot_weight weight number = weight_of weight (held number)

abbrev pub weights_of : (ℕ → ℕ) → List ℕ → List ℕ
weights_of weight log = map (slot_weight weight) log

-- A key whose slot is 2 ^ 64 - 1 has no slot.
pub record HasSlot (slots : List ℕ) (key slot : ℕ) : Type 0 where
  pub within : key < length slots
  pub is : get_or slots key 0 ≡ slot
  pub some : slot ≢ 2 ^ 64 - 1

pub record IsLog {Z : Type 0} (log : Vec ℕ Z) (slots weights blocks : List ℕ) (used : ℕ) : Type 0 where
  pub room : 16 * length blocks ≤ vec_capacity log
  pub few : length slots < 2 ^ 32
  pub keys : (key slot : ℕ) → get_or (live log.items) slot None ≡ Some key → HasSlot slots key slot
  pub found : (key slot : ℕ) → HasSlot slots key slot → get_or (live log.items) slot None ≡ Some key
  pub sums : AreSums (weights_of (weight_in weights) log.items) blocks
  pub fits : sum blocks < 2 ^ 64
  pub counted : used ≡ length (newest (live log.items))
