-- What a counted map counts.
use Rattle.std.specs.Prelude.{ℕ, ◌+◌, ◌-◌, ◌^◌, min, Bool, true, false, if◌then◌else◌, List, length, Result, Ok, Err}
use Rattle.lru_caches.specs.declared.counted.Counts.{Counts}
use Rattle.lru_model.specs.Lists.{without}
use Rattle.lru_model.specs.State.{State}

pub record Counted (K V S H : Type 0) : Type 0 where
  pub map : State K V S H
  pub counts : Counts

abbrev pub count_up : ℕ → ℕ → ℕ
count_up n more = min (n + more) (2 ^ 64 - 1)

abbrev pub looked_up : Bool → Counts → Counts
looked_up found counts = if found then record counts { hits = count_up counts.hits 1 }
    else record counts { misses = count_up counts.misses 1 }

-- the counts after an insert that evicted n entries
abbrev pub inserted : {E : Type 0} → Result Bool E → ℕ → Counts → Counts
inserted (Ok true) n counts = record counts {
  insertions = count_up counts.insertions 1;
  evictions = count_up counts.evictions n;
}
inserted (Ok false) n counts = record counts {
  rejections = count_up counts.rejections 1;
  evictions = count_up counts.evictions n;
}
inserted (Err error) n counts = record counts { evictions = count_up counts.evictions n }

-- the number of evicted entries whose key is not the named key
abbrev pub evicted : {K V : Type 0} → (K → Bool) → List (K × V) → List (K × V) → ℕ
evicted names old new = length (without names old) - length (without names new)

abbrev pub zeros : Counts
zeros = record { hits = 0; misses = 0; insertions = 0; rejections = 0; evictions = 0 }
