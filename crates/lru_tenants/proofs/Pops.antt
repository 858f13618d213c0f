use Rattle.std.proofs.Common.{◌≡◌, Option, Some, None, List, [], ◌∷◌, ◌++◌, reverse, refl, sym, ap, ◌∙◌, arith}
use Rattle.std.proofs.lemmas.List.{reverse-append}
use Rattle.lru_limits.specs.Laws.{ChangesNoPair}
use Rattle.lru_limits.specs.Rules.{Rules}
use Rattle.lru_model.specs.Lists.{last, without_last}
use Rattle.lru_model.specs.Calls.{left_of, PopOldest}
use Rattle.lru_model.specs.State.{State}

module _ {X : Type 0} where
  last-end : (xs : List X) (x : X) → last xs ≡ Some x → xs ≡ without_last xs ++ x ∷ []
  last-end [] x e = absurd (grind (arith, e))
  last-end (y ∷ []) x e = ap (λ o. after-last y o) e
    where
      after-last : X → Option X → List X
      after-last y None = y ∷ []
      after-last y (Some z) = z ∷ []
  last-end (y ∷ z ∷ zs) x e = ap (λ l. y ∷ l) (last-end (z ∷ zs) x e)

  pub no-last : (xs : List X) → last xs ≡ None → xs ≡ []
  no-last [] e = refl
  no-last (y ∷ []) e = absurd (grind (arith, e))
  no-last (y ∷ z ∷ zs) e = absurd (some z zs e)
    where
      some : (z : X) (zs : List X) → last (z ∷ zs) ≡ None → ⊥
      some z [] e = grind (arith, e)
      some z (w ∷ ws) e = some w ws e

module _ {K V L S : Type 0} (rules : Rules K V L) (leaves : ChangesNoPair rules) (old new : State K V L S) where
  left-same : (o : Option (K × V)) → left_of rules old.limiter o ≡ o
  left-same None = refl
  left-same (Some p) = λ i. Some (leaves.key old.limiter p.0 p.1 i, leaves.value old.limiter p.0 p.1 i)

  pub popped-last : (pair : K × V) → PopOldest rules old (Some pair) new → old.pairs ≡ new.pairs ++ pair ∷ []
  popped-last pair popped = last-end old.pairs pair (sym (popped.pair ∙ left-same (last old.pairs)))
      ∙ ap (λ l. l ++ pair ∷ []) (sym (ap (λ st. st.pairs) popped.state.is))

  pub popped-reverse : (pair : K × V) → PopOldest rules old (Some pair) new
      → reverse old.pairs ≡ pair ∷ reverse new.pairs
  popped-reverse pair popped = ap reverse (popped-last pair popped) ∙ reverse-append new.pairs (pair ∷ [])

  pub popped-none : PopOldest rules old None new → old.pairs ≡ []
  popped-none popped = no-last old.pairs (sym (popped.pair ∙ left-same (last old.pairs)))
