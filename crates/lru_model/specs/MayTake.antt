-- What a call requires of its callback. If the call may evict, remove or reject n pairs, its callback must accept n
-- calls, each with any of these pairs.
use Rattle.std.specs.Prelude.{◌≡◌, ℕ, ◌<◌, Bool, true, false, List, [], ◌∷◌, length, None, Some, Contains, All}
use Rattle.std.specs.Fn.{Mut, Takes as MayBeCalled}
use Rattle.lru_limits.specs.Rules.{Rules, Offers, Replaced}
use Rattle.lru_model.specs.Lists.{lookup_entry}
use Rattle.lru_model.specs.State.{Contents}
use Rattle.lru_model.specs.Calls.{left_of}
use Rattle.lru_model.specs.Inserts.{replacement, with_replaced, MayGive}
use Rattle.lru_model.specs.Callbacks.{CalledWith}

-- The callback f may be called n times, one after another, each time with a pair that passes the test.
abbrev pub MayTake : {K V F : Type 0} → Mut F (K × (V × Unit {0})) (Unit {0}) → (K × V → Type 0) → ℕ → F → Type 0
MayTake {K} {V} {F} closure passes n f = (before : List (K × V)) (g : F) (pair : K × V) → length before < n
    → All passes before → CalledWith closure f before g → passes pair → MayBeCalled closure g (pair.0, (pair.1, tt))

module _ {K V S : Type 0} (rules : Rules K V S) where
  -- `left` is one of these pairs, as `on_removed` may leave the pair
  abbrev pub IsLeftOf : List (K × V) → K × V → Type 0
  IsLeftOf pairs left = (s : S) × (pair : K × V) × Contains pairs pair × (left_of rules s (Some pair) ≡ Some left)

  module _ {F : Type 0} (closure : Mut F (K × (V × Unit {0})) (Unit {0})) where
    -- If the list has n pairs, f may be called n times, each time with any pair of the list as `on_removed` leaves it.
    abbrev pub MayTakeEach : List (K × V) → F → Type 0
    MayTakeEach pairs f = MayTake closure (IsLeftOf pairs) (length pairs) f

    -- if the limiter rejects a new value, the callback f may be called with the removed pair
    abbrev pub MayTakeRejected : Replaced K V S → F → Type 0
    MayTakeRejected by f = by.taken ≡ false → MayTakeEach ((by.key, by.old_value) ∷ []) f

    module _ {I : Type 0} (offers : Offers K V S I) (names : I → K → Bool) where
      -- if the map contains the key, the callback f may be called with each pair that an insert or an update may evict
      -- or remove
      pub record MayTakeReplaced (i : I) (v : V) (c : Contents K V S) (f : F) : Type 0 where
        pub accepted : (pair : K × V) → lookup_entry (names i) c.pairs ≡ Some pair
            → (replacement rules offers names pair i v c).taken ≡ true
            → MayTakeEach (with_replaced rules offers names pair i v c).pairs f
        pub rejected : (pair : K × V) → lookup_entry (names i) c.pairs ≡ Some pair
            → MayTakeRejected (replacement rules offers names pair i v c) f

      -- if the key is new, the callback f may be called with the pair that the limiter returns, and with each pair of
      -- the map
      abbrev pub MayTakeNew : I → V → Contents K V S → F → Type 0
      MayTakeNew i v c f = lookup_entry (names i) c.pairs ≡ None → (s : S) (pair : K × V)
          → MayGive rules offers names i v c s (Some pair) → MayTakeEach (pair ∷ c.pairs) f

      -- the callback f accepts each pair that an insert may pass to it
      pub record MayTakeInserted (i : I) (v : V) (c : Contents K V S) (f : F) : Type 0 where
        pub replaced : MayTakeReplaced i v c f
        pub new : MayTakeNew i v c f
