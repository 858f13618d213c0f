use Rattle.std.proofs.Common.{◌≡◌, ◌≤◌, ◌+◌, ℕ, Bool, List, [], ◌∷◌, Option, None, map, refl, sym, ap, ◌∙◌, arith}
use Rattle.std.proofs.Common.{sum_by}
use Rattle.std.specs.Option.{option_map, unwrap_or}
use Rattle.std.specs.List.{All}
use Rattle.std.proofs.lemmas.List.Sums.{sum_by-cons}
use Rattle.std.proofs.lemmas.List.Elements.{All-head, All-tail, All-weaker}
use Rattle.lru_model.specs.State.{State}
use Rattle.lru_tenants.specs.Cache.{IsTenant}

pub mapped : {X Y : Type 0} (f : Y → ℕ) (g : X → Y) (xs : List X) → sum_by f (map g xs) ≡ sum_by (λ x. f (g x)) xs
mapped f g [] = refl
mapped f g (x ∷ xs) = sum_by-cons f (g x) (map g xs) ∙ ap (λ n. f (g x) + n) (mapped f g xs)
    ∙ sym (sum_by-cons (λ y. f (g y)) x xs)

pub at-most : {X : Type 0} (f g : X → ℕ) (xs : List X) → All (λ x. f x ≤ g x) xs → sum_by f xs ≤ sum_by g xs
at-most f g [] all = omega arith
at-most f g (x ∷ xs) all = omega (
  arith,
  sum_by-cons f x xs,
  sum_by-cons g x xs,
  All-head (λ x. f x ≤ g x) x xs all,
  at-most f g xs (All-tail (λ x. f x ≤ g x) x xs all),
)

pub costs-within : {K V L S : Type 0} {eq : K → K → Bool} {cost : K → V → ℕ} {account budget : L → ℕ}
    (maps : List (State K V L S)) → All (IsTenant eq cost account budget) maps
    → sum_by (λ map. account map.limiter) maps ≤ sum_by (λ map. budget map.limiter) maps
costs-within {eq = eq} {cost = cost} {account = account} {budget = budget} maps all =
    at-most (λ map. account map.limiter) (λ map. budget map.limiter) maps (All-weaker (IsTenant eq cost account budget)
    (λ map. account map.limiter ≤ budget map.limiter) (λ map is. is.within) maps all)

pub opened : {X : Type 0} (f : X → ℕ) (old : Option X) (new was own budget : ℕ) → old ≡ None
    → new + unwrap_or (option_map f old) 0 ≡ was + own → own ≡ budget → new ≡ was + budget
opened f old new was own budget none sum is =
    omega (arith, ap (λ o. unwrap_or (option_map f o) 0) none, sum, is)
