use Rattle.std.proofs.Common.{ℕ, ◌+◌, ◌≤◌, Bool, List, ◌∷◌, length, ap, arith}
use Rattle.std.proofs.lemmas.Map.{length-set_value}
use Rattle.lru_limits.specs.Laws.{IsLookup, IsInsertion}
use Rattle.lru_limits.specs.Rules.{Rules, Offers}
use Rattle.lru_model.specs.Lists.{without}
use Rattle.lru_model.specs.Runs.{Step}
use Rattle.lru_model.specs.Runs.{AnyStep, calls, writes, sets_limiter}
use Rattle.lru_model.specs.State.{State}
use Rattle.lru_model.specs.Theorems.{EvictsOldest, with_pair, with_none, without_one}
use Rattle.lru_model.proofs.Theorems.Fronts.{insert_evicts, length-front}
use Rattle.lru_model.proofs.Theorems.Limits.{length-without, length-update}
use Rattle.lru_model.proofs.Theorems.StepTotals.{step_ends}
use Rattle.lru_model.proofs.Theorems.Sums.{total-one}

evicts_adds : {K V : Type 0} (names : K → Bool) (refuses : K × V → Type 0) (xs ys : List (K × V))
    → EvictsOldest names refuses (λ pair. pair ∷ without names xs) xs ys → length ys ≤ length xs + 1
evicts_adds names refuses xs ys (with_pair pair named f) =
    omega (arith, length-front ys (pair ∷ without names xs) f, length-without names xs)
evicts_adds names refuses xs ys (with_none absent f) = omega (arith, length-front ys xs f)
evicts_adds names refuses xs ys (without_one pair found r e) = omega (arith, ap length e, length-without names xs)

module _ {K V S H I : Type 0} {rules : Rules K V S} {offers : Offers K V S I} {names : I → K → Bool}
    {hash_of : H → K → ℕ} {eq : K → K → Bool} {query_input : I → List (List ℕ)} {key_input : K → List (List ℕ)}
    (looks_up : IsLookup names eq query_input key_input)
    (laws : IsInsertion names eq offers) (old new : State K V S H) where
  step_adds : Step rules offers names hash_of old new → length new.pairs ≤ length old.pairs + 1
  step_adds = step_ends (λ _. 1)
      (λ k v result h. evicts_adds (names k) _ old.pairs new.pairs (insert_evicts looks_up laws k v old result new h))
      (λ k v result h. omega (arith, length-update result h))
      (λ h. omega (arith, h, total-one old.pairs, total-one new.pairs))

  pub any_adds : AnyStep rules offers names hash_of old new → length new.pairs ≤ length old.pairs + 1
  any_adds (calls step) = step_adds step
  any_adds (writes test value e) = omega
      (arith, ap (λ st. length st.pairs) e, length-set_value test old.pairs value)
  any_adds (sets_limiter s e) = omega (arith, ap (λ st. length st.pairs) e)
