-- What a part of a call passes to the callback. No public contract uses this module.
use Rattle.std.specs.Prelude.{List}
use Rattle.std.specs.Fn.{Mut, Called}
use Rattle.lru_limits.specs.Rules.{Rules, Replaced}
use Rattle.lru_model.specs.Callbacks.{CalledWith, noting, noted}
use Rattle.lru_model.specs.State.{State}

module _ {K V F : Type 0} (closure : Mut F (K × (V × Unit {0})) (Unit {0})) where
  -- This part of a call changes the map from `old` to `new`, as `step` says, and the callback from f to g. The callback
  -- gets the pairs of which the limiter is notified. By the end of this part, it got the pairs in `after`, which begins
  -- with the pairs in `before`.
  abbrev pub Passes : {S H : Type 0} → Rules K V S → F → F → State K V S H → State K V S H
      → (Rules K V (S × List (K × V)) → State K V (S × List (K × V)) H → State K V (S × List (K × V)) H → Type 0)
      → Type 0
  Passes rules f g old new step = (first : F) (before : List (K × V)) → CalledWith closure first before f
      → (after : List (K × V)) × CalledWith closure first after g
      × step (noting rules) (noted before old) (noted after new)

  -- if the limiter rejected a new value, the callback gets the removed pair, as `on_removed` of the limiter left it
  abbrev pub PassesRemoved : {S : Type 0} → Rules K V S → Replaced K V S → F → F → Type 0
  PassesRemoved rules by f g = let notified = rules.on_removed by.limiter by.key by.old_value in
      Called closure f (notified.key, (notified.value, tt)) tt g
