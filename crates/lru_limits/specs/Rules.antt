-- What a limiter with states S does. The functions and relations are named after the callbacks.
--     `Rules K V S`: which lengths are over the limit, and what a limiter does at a removal, a clear or a growth.
--     `Offers K V S I`: what a limiter does with entries that are offered with a key of type I.
--     `Notified K V S`: the limiter, the key and the value after `on_removed`.
--     `Allowed S`: the limiter after `on_grow`, and the result of `on_grow`.
--     `Replaced K V S`: the limiter, the key and both values after `on_replace`.
use Rattle.std.specs.Prelude.{ℕ, Bool, Option}

pub record Notified (K V S : Type 0) : Type 0 where
  pub limiter : S
  pub key : K
  pub value : V

pub record Allowed (S : Type 0) : Type 0 where
  pub limiter : S
  pub allowed : Bool

pub record Replaced (K V S : Type 0) : Type 0 where
  pub limiter : S
  -- whether the new value replaces the old value
  pub taken : Bool
  pub key : K
  pub old_value : V
  pub new_value : V

pub record Rules (K V S : Type 0) : Type 0 where
  -- whether a map of n entries is over the limit
  pub is_over_the_limit : S → ℕ → Bool
  pub on_removed : S → K → V → Notified K V S
  pub on_cleared : S → S
  -- whether a table of n bytes is permitted
  pub on_grow : S → ℕ → Allowed S

pub record Offers (K V S I : Type 0) : Type 1 where
  -- The possible results of an offer to a map of n entries: the limiter after the offer, and the entry to store.
  -- `on_insert` is a relation, not a function: the stored key may be in newly allocated memory, and the address of this
  -- memory is not determined.
  pub on_insert : S → ℕ → I → V → S → Option (K × V) → Type 0
  pub may_run_out : S → ℕ → I → V → Type 0
  -- what `on_replace` does with the stored key, the offered key, the old value and the new value
  pub on_replace : S → ℕ → K → I → V → V → Replaced K V S
