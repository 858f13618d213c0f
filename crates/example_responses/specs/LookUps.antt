-- What a look-up of a response does to the host of the response.
--     `names path`: whether this path is looked up.
--     `now`: the time of the look-up.
use Rattle.std.specs.Prelude.{◌≡◌, ◌⊎◌, ℕ, nat_lt, Bool, if◌then◌else◌, List, vec_items, Option, Some, None, is_some}
use Rattle.std.specs.Prelude.{Result, Ok, Err}
use Rattle.lru_caches.specs.Counted.{looked_up as count_look_up}
use Rattle.lru_caches.specs.declared.counted.Counts.{Counts}
use Rattle.lru_limits.specs.Budget.{Budget}
use Rattle.lru_model.specs.Lists.{lookup, front, without}
use Rattle.lru_model.specs.State.{State}
use Rattle.lru_tenants.specs.declared.counting.Counting.{Counting}
use Rattle.lru_tenants.specs.declared.error.TenantError.{TenantError}
use Rattle.lru_tenants.specs.declared.error.TenantError.TheVariants.{Memory}
use Rattle.example_responses.specs.declared.cache.Response.{Response}

-- the map of a host
abbrev pub Host : Type 0 → Type 0 → Type 0
Host K S = State K Response (Counting Budget) S

abbrev pub fresh_at : ℕ → Option Response → Option Response
fresh_at now None = None
fresh_at now (Some response) = if nat_lt now response.expires then Some response else None

module _ {K : Type 0} (names : K → Bool) (now : ℕ) where
  abbrev pub without_stale : List (K × Response) → List (K × Response)
  without_stale pairs = if is_some (fresh_at now (lookup names pairs)) then pairs else without names pairs

  -- A fresh response becomes the newest, and a stale response is removed.
  abbrev pub looked_up : List (K × Response) → List (K × Response)
  looked_up pairs = if is_some (fresh_at now (lookup names pairs)) then front names pairs else without names pairs

-- The map `old` after these changes: its list is `list`, its counts are `counts`, and `left` gives its table and its
-- running total.
abbrev pub with_list : {K S : Type 0} → List (K × Response) → Counts → Host K S → Host K S → Host K S
with_list list counts left old = record old {
  pairs = list;
  limiter = record {
    limiter = record old.limiter.limiter { cost = left.limiter.limiter.cost };
    counts = counts;
  };
  table = left.table;
}

abbrev pub DropsStale : {K S : Type 0} → (K → Bool) → ℕ → Host K S → Result (Unit {0}) TenantError
    → Option (Host K S) → Type 0
DropsStale {K} {S} names now old answer new = (left : Host K S) × (answer ≡ Ok tt) × (new ≡ Some left)
    × (left ≡ with_list (without_stale names now old.pairs) old.limiter.counts left old)
    × (lookup names left.pairs ≡ fresh_at now (lookup names old.pairs))

abbrev pub IsCopy : Response → Response → Type 0
IsCopy stored copy = (vec_items copy.body ≡ vec_items stored.body) × (copy.expires ≡ stored.expires)

-- The answer is a copy of the stored response. If no response is stored, the answer is `None`. If the copy runs out of
-- memory, the answer is `Memory`.
abbrev pub Copies : Option Response → Result (Option Response) TenantError → Type 0
Copies None answer = answer ≡ Ok None
Copies (Some stored) answer =
    ((copy : Response) × IsCopy stored copy × (answer ≡ Ok (Some copy))) ⊎ (answer ≡ Err Memory)

-- If a fresh response is stored, the call counts a hit. If no fresh response is stored, the call counts a miss.
abbrev pub GetsCopy : {K S : Type 0} → (K → Bool) → ℕ → Host K S
    → Result (Option Response) TenantError → Option (Host K S) → Type 0
GetsCopy {K} {S} names now old answer new = (left : Host K S)
    × Copies (fresh_at now (lookup names old.pairs)) answer × (new ≡ Some left)
    × (left ≡ with_list (looked_up names now old.pairs)
    (count_look_up (is_some (fresh_at now (lookup names old.pairs))) old.limiter.counts) left old)
