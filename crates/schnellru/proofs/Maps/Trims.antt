use Rattle.std.proofs.Common.{◌≡◌, ◌<◌, true, Some, [], ◌∷◌, ◌++◌, length, ap, sym, ◌∙◌, subst}
use Rattle.std.specs.Fn.{Mut, Called}
use Rattle.lru_limits.specs.Rules.{Rules}
use Rattle.lru_model.specs.State.{State, contents, trim, Leaves}
use Rattle.lru_model.specs.Calls.{PopOldest}
use Rattle.lru_model.specs.Callbacks.{noting, noted}
use Rattle.schnellru.specs.Inside.Passing.{Passes}
use Rattle.lru_model.proofs.States.LeavingPairs.{leaves_trans, trim-over}
use Rattle.schnellru.proofs.Maps.NotedStates.{takes_more, noted_pop}

module _ {K V S H F : Type 0} (rules : Rules K V S) (closure : Mut F (K × (V × Unit {0})) (Unit {0}))
    (old : State K V S H) (sink : F) where
  -- The evicted pairs were passed to the callback. A trim of the current map and a trim of the old map have the same
  -- result.
  abbrev pub IsTrimmedTo : State K V S H → F → Type 0
  IsTrimmedTo st f = Passes closure rules sink f old st (λ rules old st.
      Leaves old (contents st) st × (trim rules (contents old) ≡ trim rules (contents st)))

  pub trims_more : (st u : State K V S H) (f g : F) (pair : K × V) → 0 < length st.pairs
      → rules.is_over_the_limit st.limiter (length st.pairs) ≡ true → PopOldest rules st (Some pair) u
      → Called closure f (pair.0, (pair.1, tt)) tt g → IsTrimmedTo st f → IsTrimmedTo u g
  trims_more st u f g pair some over popped called so_far first before taken =
      let (mid, had, trimmed) = so_far first before taken in
      let pops = noted_pop rules mid st u pair popped in let left = ap contents pops.is in (
        mid ++ pair ∷ [],
        takes_more closure first mid f pair g had called,
        (
          leaves_trans (noted before old) (noted mid st) (noted (mid ++ pair ∷ []) u) (contents (noted mid st))
              (contents (noted (mid ++ pair ∷ []) u)) trimmed.0
              (subst (λ left. Leaves (noted mid st) left (noted (mid ++ pair ∷ []) u)) (sym left) pops),
          trimmed.1 ∙ trim-over (noting rules) (contents (noted mid st)) some over
              ∙ ap (trim (noting rules)) (sym left),
        ),
      )
