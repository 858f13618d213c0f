-- What a drain takes out of a map: pairs from both ends, and all other pairs when the drain is dropped.
use Rattle.std.specs.Prelude.{◌≡◌, ℕ, zero, suc, List, [], ◌++◌, option_to_list}
use Rattle.lru_limits.specs.Rules.{Rules}
use Rattle.lru_model.specs.Lists.{first, last}
use Rattle.lru_model.specs.State.{State, Contents, contents, Leaves, pop, pops}
use Rattle.lru_model.specs.Calls.{left_of, pop_first, cleared}

module _ {K V S : Type 0} (rules : Rules K V S) where
  -- the contents after n pops of the newest pair
  abbrev pub pops_first : ℕ → Contents K V S → Contents K V S
  pops_first zero c = c
  pops_first (suc n) c = pops_first n (pop_first rules c)

  -- the pairs that n calls of `pop_newest` return
  abbrev pub newest_given : ℕ → Contents K V S → List (K × V)
  newest_given zero c = []
  newest_given (suc n) c = option_to_list (left_of rules c.limiter (first c.pairs))
      ++ newest_given n (pop_first rules c)

  -- the pairs that n calls of `pop_oldest` return
  abbrev pub oldest_given : ℕ → Contents K V S → List (K × V)
  oldest_given zero c = []
  oldest_given (suc n) c = option_to_list (left_of rules c.limiter (last c.pairs)) ++ oldest_given n (pop rules c)

module _ {K V S H : Type 0} (rules : Rules K V S) where
  -- A drain from its creation to its drop. The drain pops the newest pair `newest` times, and then the oldest pair
  -- `oldest` times. It returns the popped pairs. When the drain is dropped, it clears the map.
  pub record Drained (newest oldest : ℕ) (old : State K V S H) (result : List (K × V))
      (new : State K V S H) : Type 0 where
    pub pairs : result ≡ newest_given rules newest (contents old)
        ++ oldest_given rules oldest (pops_first rules newest (contents old))
    pub state : (mid : State K V S H) × Leaves old (pops rules oldest (pops_first rules newest (contents old))) mid
        × (new ≡ cleared rules mid)
