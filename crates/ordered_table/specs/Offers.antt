-- What becomes of a stored pair if the limiter is offered a new value.
use Rattle.std.specs.Prelude.{◌≡◌, ℕ, Bool, Some, if◌then◌else◌}
use Rattle.group_table.specs.Bucket.{entry_at}
use Rattle.lru_limits.specs.Rules.{Replaced}
use Rattle.lru_model.specs.Inserts.{unkept_of}
use Rattle.ordered_table.specs.OrderedTable.{OrderedTable, with_pair}

-- `by` is what the limiter did with the offered value. `after` is the stored pair after the offer, with the new value
-- if the limiter accepted it. `value` is the value that is not stored.
pub record Offered {K V S : Type 0} (by : Replaced K V S) (result : Bool) (after : K × V) (limiter : S) (value : V)
    : Type 0 where
  pub taken : result ≡ by.taken
  pub after_is : after ≡ (by.key, if by.taken then by.new_value else by.old_value)
  pub notified : limiter ≡ by.limiter
  pub unkept : value ≡ unkept_of by

-- the limiter was offered a new value for the pair in bucket b
pub record IsOffered {K V S : Type 0} (by : K × V → Replaced K V S) (b : ℕ) (old : OrderedTable K V) (result : Bool)
    (new : OrderedTable K V) (limiter : S) (value : V) : Type 0 where
  pub pair : K × V
  pub there : entry_at old.slots b ≡ Some pair
  pub after : K × V
  pub offered : Offered (by pair) result after limiter value
  pub table : new ≡ with_pair old b after
