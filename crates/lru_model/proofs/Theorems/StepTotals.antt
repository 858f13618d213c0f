use Rattle.std.proofs.Common.{ℕ, ◌≤◌, ◌⊎◌, inr, Bool, List, [], ◌∷◌, Result, ap, arith}
use Rattle.std.specs.declared.alloc.AllocError.{AllocError}
use Rattle.lru_limits.specs.Rules.{Rules, Offers}
use Rattle.lru_model.specs.Inserts.{Insert}
use Rattle.lru_model.specs.Lists.{last, without_first, without_last}
use Rattle.lru_model.specs.State.{State, contents, IsWithin}
use Rattle.lru_model.specs.Runs.{Step, inserts, updates, gets, demotes, removes, pops_oldest}
use Rattle.lru_model.specs.Runs.{pops_newest, drains, clears, reserves, shrinks, trims, retains}
use Rattle.lru_model.specs.Updates.{Update}
use Rattle.lru_model.specs.declared.results.Updated.{Updated}
use Rattle.lru_model.proofs.Theorems.Fronts.{front_trim}
use Rattle.lru_model.proofs.Theorems.Limits.{insert_within, update_within, total-without}
use Rattle.lru_model.proofs.Theorems.Reservations.{reserved_list}
use Rattle.lru_model.proofs.Theorems.RetainedPairs.{total-retained}
use Rattle.lru_model.proofs.Theorems.Shrinks.{shrunk_list}
use Rattle.lru_model.proofs.Theorems.Sums.{total, total-front, total-back, total-least, split-least, split_last}

module _ {K V S H I : Type 0} (f : K × V → ℕ) {rules : Rules K V S} {offers : Offers K V S I} {names : I → K → Bool}
    {hash_of : H → K → ℕ} {old new : State K V S H} where
  module _ {R : Type 0}
      (inserted_so : (k : I) (v : V) (result : Result Bool AllocError)
      → Insert rules offers names hash_of k v old result new → R)
      (updated_so : (k : I) (v : V) (result : Updated V) → Update rules offers names k v old result new → R)
      (less : total f new.pairs ≤ total f old.pairs → R) where
    pub step_ends : Step rules offers names hash_of old new → R
    step_ends (inserts k v result h) = inserted_so k v result h
    step_ends (updates k v result h) = updated_so k v result h
    step_ends (gets named e) = less
        (omega (arith, ap (λ st. total f st.pairs) e, total-front f named old.pairs))
    step_ends (demotes named e) = less
        (omega (arith, ap (λ st. total f st.pairs) e, total-back f named old.pairs))
    step_ends (removes test result h) = less
        (omega (arith, ap (λ st. total f st.pairs) h.state.is, total-without f test old.pairs))
    step_ends (pops_oldest result h) = less
        (omega (
          arith,
          ap (λ st. total f st.pairs) h.state.is,
          split-least f old.pairs (last old.pairs) (without_last old.pairs) (split_last f old.pairs),
        ))
    step_ends (pops_newest result h) = less
        (omega (arith, ap (λ st. total f st.pairs) h.state.is, fewer old.pairs))
      where
        fewer : (xs : List (K × V)) → total f (without_first xs) ≤ total f xs
        fewer [] = omega arith
        fewer (x ∷ xs) = omega arith
    step_ends (drains newest oldest result h) = less
        (omega (arith, ap (λ st. total f st.pairs) h.state.2))
    step_ends (clears e) = less (omega (arith, ap (λ st. total f st.pairs) e))
    step_ends (reserves n result h) = less
        (omega (arith, ap (total f) (reserved_list _ n old result new h).0))
    step_ends (shrinks result h) = less (omega (arith, ap (total f) (shrunk_list old result new h).0))
    step_ends (trims h) = less
        (omega (
          arith,
          ap (λ st. total f st.pairs) h.is,
          total-least f _ old.pairs (front_trim rules (contents old)),
        ))
    step_ends (retains asked each h) = less
        (omega (
          arith,
          ap (λ st. total f st.pairs) h.is,
          total-retained rules f asked old.limiter,
          ap (total f) each,
        ))

  pub step_total : Step rules offers names hash_of old new
      → IsWithin rules (contents new) ⊎ (total f new.pairs ≤ total f old.pairs)
  step_total = step_ends (λ k v result h. insert_within f h) (λ k v result h. update_within f result h) inr
