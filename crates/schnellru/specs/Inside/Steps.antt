-- How a call changes the pair in a bucket: it replaces the value of the pair, or takes the pair out. No public contract
-- uses this module.
use Rattle.std.specs.Prelude.{◌≡◌, ℕ, ◌+◌, Bool, true, false, Some}
use Rattle.group_table.specs.Bucket.{bucket_states, growth_left as growth_left_of, growth_left_at}
use Rattle.group_table.specs.Change.{Removes}
use Rattle.lru_limits.specs.Rules.{Rules, Offers, Replaced}
use Rattle.lru_model.specs.Lists.{lookup_entry}
use Rattle.lru_model.specs.State.{State, Leaves, contents, notified_of}
use Rattle.lru_model.specs.Calls.{left_of}
use Rattle.lru_model.specs.Inserts.{replacement, unkept_of, with_removed}
use Rattle.lru_model.specs.Updates.{with_updated}
use Rattle.ordered_table.specs.OrderedTable.{OrderedTable, Takes, with_pair, without_bucket}

-- The limiter accepted the new value for the pair in bucket b. The pair keeps its place in the order.
pub record IsReplaced {K V S : Type 0} (by : Replaced K V S) (b : ℕ) (old new : OrderedTable K V) (limiter : S)
    : Type 0 where
  pub slots : new.slots ≡ (with_pair old b (by.key, by.new_value)).slots
  pub order : new.order ≡ old.order
  pub insertions : new.insertions ≡ old.insertions
  pub notified : limiter ≡ by.limiter

-- The limiter rejected the new value, and the pair in bucket b was removed.
pub record IsRemoved {K V S : Type 0} (rules : Rules K V S) (by : Replaced K V S) (b : ℕ) (old new : OrderedTable K V)
    (limiter : S) : Type 0 where
  pub slots : Removes (with_pair old b (by.key, by.old_value)).slots new.slots b
  pub order : new.order ≡ without_bucket b old.order
  pub insertions : new.insertions ≡ old.insertions
  pub growth_left : growth_left_of (bucket_states new.slots) ≡ growth_left_of (bucket_states old.slots) + growth_left_at (bucket_states new.slots) b
  pub notified : limiter ≡ (rules.on_removed by.limiter by.key by.old_value).limiter

-- The pair in bucket b was evicted or removed. The limiter was notified of the pair, and may have changed it before the
-- call returns it.
pub record IsTakenOut {K V S : Type 0} (rules : Rules K V S) (b : ℕ) (old new : OrderedTable K V) (limiter : S)
    (result : K × V) (after : S) : Type 0 where
  pub pair : K × V
  pub takes : Takes old new b pair
  pub left : Some result ≡ left_of rules limiter (Some pair)
  pub notified : after ≡ notified_of rules (Some pair) limiter

-- The limiter was offered a new value for the key's pair. The result is whether the limiter accepted it, and the value
-- that the map does not keep.
pub record IsOffered {K V S H I : Type 0} (rules : Rules K V S) (offers : Offers K V S I) (names : I → K → Bool) (i : I)
    (v : V) (old : State K V S H) (result : Bool × V) (new : State K V S H) : Type 0 where
  pub pair : K × V
  pub there : lookup_entry (names i) old.pairs ≡ Some pair
  pub taken : (replacement rules offers names pair i v (contents old)).taken ≡ result.0
  pub unkept : result.1 ≡ unkept_of (replacement rules offers names pair i v (contents old))
  pub accepted : result.0 ≡ true → Leaves old (with_updated rules offers names pair i v (contents old)) new
  pub place : result.0 ≡ true → new.table.places ≡ old.table.places
  pub rejected : result.0 ≡ false → Leaves old (with_removed rules offers names pair i v (contents old)) new
