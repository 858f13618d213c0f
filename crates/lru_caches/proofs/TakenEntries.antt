use Rattle.std.proofs.Common.{◌≡◌, List, [], ◌∷◌, length, Option, Some, None, refl, sym, ap, arith, subst}
use Rattle.std.proofs.lemmas.List.{length-append}
use Rattle.std.specs.Iterator.{MakesProgress, at_most}
use Rattle.std.specs.Map.Iter.{TakesLast}
use Rattle.lru_model.specs.Lists.{last, without_last}

module _ {X : Type 0} where
  ends : (xs : List X) → TakesLast (λ (x : X). x) xs (last xs) (without_last xs)
  ends [] = (refl, refl)
  ends (x ∷ []) = refl
  ends (x ∷ y ∷ ys) = go (last (y ∷ ys)) (ends (y ∷ ys))
    where
      go : (o : Option X) → TakesLast (λ (z : X). z) (y ∷ ys) o (without_last (y ∷ ys))
          → TakesLast (λ (z : X). z) (x ∷ y ∷ ys) o (x ∷ without_last (y ∷ ys))
      go None nothing = absurd (omega (arith, ap length nothing.0))
      go (Some z) is = ap (λ l. x ∷ l) is

  pub taken_last : (xs ys : List X) (taken : Option X) → taken ≡ last xs → ys ≡ without_last xs
      → TakesLast (λ (x : X). x) xs taken ys
  taken_last xs ys taken is left =
      subst (λ l. TakesLast (λ (x : X). x) xs taken l) (sym left)
      (subst (λ o. TakesLast (λ (x : X). x) xs o (without_last xs)) (sym is) (ends xs))

  pub last_goes : (xs ys : List X) (taken : Option X) → TakesLast (λ (x : X). x) xs taken ys
      → MakesProgress (λ _. Unit {0}) (λ l. at_most (length l)) xs taken ys
  last_goes xs ys None is = record { on = λ _. tt; keeps = tt; rests = λ _. tt }
  last_goes xs ys (Some x) is = record {
    on = λ _. (tt, tt, omega (arith, ap length is, length-append ys (x ∷ [])));
    keeps = tt;
    rests = λ _. tt;
  }
