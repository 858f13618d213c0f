use Rattle.std.proofs.Common.{◌≡◌, ℕ, Bool, List, [], length, refl, sym, subst, ◌∙◌}
use Rattle.std.specs.Cmp.{IsEquivalence}
use Rattle.std.specs.List.{IsDistinct}
use Rattle.std.proofs.lemmas.Map.{length-set_value, keys-set_value}
use Rattle.lru_limits.specs.Laws.{IsLookup}
use Rattle.lru_model.specs.Lists.{front, back}
use Rattle.lru_model.specs.State.{State, IsSound, IsSized, IsMap}
use Rattle.lru_model.specs.Calls.{promoted, demoted, written}
use Rattle.lru_model.proofs.PairLists.DistinctKeys.{distinct_first}
use Rattle.lru_model.proofs.Theorems.Sums.{total-one, total-front, total-back}

module _ {K V : Type 0} (names : K → Bool) where
  pub length-front_pairs : (xs : List (K × V)) → length (front names xs) ≡ length xs
  length-front_pairs xs = sym (total-one (front names xs)) ∙ total-front (λ _. 1) names xs ∙ total-one xs

  pub length-back_pairs : (xs : List (K × V)) → length (back names xs) ≡ length xs
  length-back_pairs xs = sym (total-one (back names xs)) ∙ total-back (λ _. 1) names xs ∙ total-one xs

module _ {K V S H : Type 0} (st : State K V S H) where
  sized_with : (pairs : List (K × V)) → length pairs ≡ length st.pairs → IsSized st
      → IsSized (record st { pairs = pairs })
  sized_with pairs same ok =
      subst (λ n. IsSound n st.entry_bytes st.max st.table.states st.counts) (sym same) ok

  pub promoted_sized : (names : K → Bool) → IsSized st → IsSized (promoted names st)
  promoted_sized names ok = sized_with _ (length-front_pairs names st.pairs) ok

  pub demoted_sized : (names : K → Bool) → IsSized st → IsSized (demoted names st)
  demoted_sized names ok = sized_with _ (length-back_pairs names st.pairs) ok

  pub written_sized : (names : K → Bool) (value : V) → IsSized st → IsSized (written names value st)
  written_sized names value ok = sized_with _ (length-set_value names st.pairs value) ok

  pub written_is_map : (names : K → Bool) (value : V) {eq : K → K → Bool} → IsMap eq st
      → IsMap eq (written names value st)
  written_is_map names value {eq} ok = record {
    distinct = subst (IsDistinct eq) (sym (keys-set_value names st.pairs value)) ok.distinct;
    sized = written_sized names value ok.sized;
    paid = ok.paid;
  }

module _ {K V S H Q : Type 0} {names : Q → K → Bool} {eq : K → K → Bool} {query_input : Q → List (List ℕ)}
    {key_input : K → List (List ℕ)} (looks_up : IsLookup names eq query_input key_input) (q : Q)
    (old : State K V S H) where
  pub promoted_is_map : IsMap eq old → IsMap eq (promoted (names q) old)
  promoted_is_map ok = record {
    distinct = distinct_first eq (names q) (looks_up.one q) old.pairs ok.distinct;
    sized = promoted_sized old (names q) ok.sized;
    paid = ok.paid;
  }

pub equal_is_map : {K V S H : Type 0} {eq : K → K → Bool} → IsEquivalence eq → (key : K) (old : State K V S H)
    → IsMap eq old
    → IsMap eq (promoted (eq key) old)
equal_is_map {K} {eq} laws key old ok = promoted_is_map {names = eq} {query_input = λ k. []} {key_input = λ k. []}
    (record { writes = λ q k h. refl; one = laws.congr }) key old ok
