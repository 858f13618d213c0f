use Rattle.std.proofs.Common.{◌≡◌, ℕ, Bool, true, false, List, Option, Some, None, Result, Ok, Err, refl, sym, ◌∙◌}
use Rattle.std.proofs.Common.{option_map, arith}
use Rattle.std.specs.declared.alloc.AllocError.{AllocError}
use Rattle.std.proofs.lemmas.Option.{none-some}
use Rattle.lru_limits.specs.Rules.{Rules, Offers}
use Rattle.lru_limits.specs.Laws.{IsLookup, IsInsertion}
use Rattle.lru_model.specs.Lists.{lookup, lookup_entry, without, front, after}
use Rattle.lru_model.specs.State.{State}
use Rattle.lru_model.specs.Theorems.{IsNewest, SaysWhether}
use Rattle.lru_model.specs.GetOrInserts.{MakesNewest, got, inserted, SaysNewest, IsOutOfMemoryFor}
use Rattle.lru_model.specs.GetOrInserts.{MakesNewestIfMade, failed, as_made, or_memory}
use Rattle.lru_model.specs.declared.results.GetOrInsertError.{GetOrInsertError}
use Rattle.lru_model.proofs.PairLists.DistinctKeys.{AreDistinct}
use Rattle.lru_model.proofs.Theorems.Fronts.{found_named}
use Rattle.lru_model.proofs.PairLists.NamedPairs.{lookup-entry, no_pair}
use Rattle.lru_model.proofs.Theorems.InsertAnswers.{insert_says}
use Rattle.lru_model.proofs.Theorems.OutOfMemory.{err_is}
use Rattle.lru_model.proofs.States.Outcomes.{ok-not_err}
use Rattle.lru_model.specs.declared.results.GetOrInsertError.TheVariants.{Memory}
use Rattle.std.specs.Prelude.{IsErr}

first_named : {K V : Type 0} (names : K → Bool) (xs : List (K × V)) (w : V) → lookup names xs ≡ Some w
    → IsNewest names (front names xs)
first_named {K} {V} names xs w e = go (lookup_entry names xs) refl (sym (lookup-entry names xs) ∙ e)
  where
    go : (o : Option (K × V)) → lookup_entry names xs ≡ o → option_map (λ p. p.1) o ≡ Some w
        → IsNewest names (after o (without names xs))
    go None is h = absurd (none-some w h)
    go (Some pair) is h = record {
      pair = pair;
      rest = without names xs;
      first = refl;
      named = found_named names xs pair is;
    }

module _ {K V S H : Type 0} (rules : Rules K V S) (names : K → Bool) (old new : State K V S H) where
  says_newest : (result : Result Bool AllocError) → SaysWhether rules names result new
      → SaysNewest rules names old result new
  says_newest (Ok true) s = (s.0, λ none. s.1)
  says_newest (Ok false) s = s
  says_newest (Err e) s = s

  says_or_memory : (E : Type 0) (flag : Result Bool AllocError) → SaysNewest rules names old flag new
      → SaysNewest {E = GetOrInsertError E} rules names old (or_memory flag) new
  says_or_memory E (Ok true) s = s
  says_or_memory E (Ok false) s = s
  says_or_memory E (Err e) s = s

module _ {K V S H I : Type 0} {rules : Rules K V S} {offers : Offers K V S I} {names : I → K → Bool}
    {hash_of : H → K → ℕ} {eq : K → K → Bool} {query_input : I → List (List ℕ)} {key_input : K → List (List ℕ)}
    (looks_up : IsLookup names eq query_input key_input) (laws : IsInsertion names eq offers) {i : I}
    {makes : V → Type 0} {old : State K V S H} where
  pub makes_says : {result : Result Bool AllocError} {new : State K V S H} → AreDistinct eq old.pairs
      → MakesNewest rules offers names hash_of makes i old result new → SaysNewest rules (names i) old result new
  makes_says {result} {new} d (got w there r step) = rw r
      (rw step (first_named (names i) old.pairs w there), λ none. absurd (none-some w (sym none ∙ there)))
  makes_says {result} {new} d (inserted absent v made step) = says_newest rules (names i) old new result
      (insert_says looks_up laws d step)

module _ {K V S H I E : Type 0} {rules : Rules K V S} {offers : Offers K V S I} {names : I → K → Bool}
    {hash_of : H → K → ℕ} {eq : K → K → Bool} {query_input : I → List (List ℕ)} {key_input : K → List (List ℕ)}
    (looks_up : IsLookup names eq query_input key_input) (laws : IsInsertion names eq offers) {i : I}
    {makes : Result V E → Type 0} {old : State K V S H} where
  pub says_if_made : {result : Result Bool (GetOrInsertError E)} {new : State K V S H} → AreDistinct eq old.pairs
      → MakesNewestIfMade rules offers names hash_of makes i old result new → SaysNewest rules (names i) old result new
  says_if_made {result} {new} d (failed none e made r step) = rw r (rw step (no_pair (names i) old.pairs none))
  says_if_made {result} {new} d (as_made flag step r) =
      rw r (says_or_memory rules (names i) old new E flag (makes_says looks_up laws d step))

module _ {K V S H I : Type 0} {rules : Rules K V S} {offers : Offers K V S I} {names : I → K → Bool}
    {hash_of : H → K → ℕ} {i : I} {old new : State K V S H} where
  pub newest_out_of_memory : {makes : V → Type 0} {result : Result Bool AllocError} → IsErr result
      → MakesNewest rules offers names hash_of makes i old result new
      → IsOutOfMemoryFor rules offers names hash_of makes i old new
  newest_out_of_memory {result = result} h (got w there r step) = ok-not_err result (rw r refl) h
  newest_out_of_memory h (inserted absent v made step) = (v, made, err_is h step)

  pub out_of_memory_if_made : {E : Type 0} {makes : Result V E → Type 0} {result : Result Bool (GetOrInsertError E)}
      → result ≡ Err Memory → MakesNewestIfMade rules offers names hash_of makes i old result new
      → IsOutOfMemoryFor rules offers names hash_of (λ v. makes (Ok v)) i old new
  out_of_memory_if_made h (failed none e made r step) = absurd (grind (arith, sym r ∙ h))
  out_of_memory_if_made {E} h (as_made flag step r) = newest_out_of_memory (is_err flag (sym r ∙ h)) step
    where
      is_err : (flag : Result Bool AllocError)
          → ◌≡◌ {A = Result Bool (GetOrInsertError E)} (or_memory flag) (Err Memory) → IsErr flag
      is_err (Ok b) e = absurd (grind (arith, e))
      is_err (Err a) e = refl
