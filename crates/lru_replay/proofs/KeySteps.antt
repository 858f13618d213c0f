-- What a call does to the keys if it makes no reference.
use Rattle.std.proofs.Common.{◌≡◌, ℕ, Bool, true, cond, List, [], ◌∷◌, Option, Some, None, Result}
use Rattle.std.proofs.Common.{refl, sym, ap, ◌∙◌, subst}
use Rattle.std.proofs.lemmas.Map.{keys-set_value}
use Rattle.std.specs.Cmp.{IsEquivalence}
use Rattle.std.specs.Set.{remove_key}
use Rattle.std.specs.declared.alloc.AllocError.{AllocError}
use Rattle.lru_limits.specs.Limiters.{length_rules, length_offers}
use Rattle.lru_limits.specs.Limits.{length-limits}
use Rattle.lru_model.proofs.CallerLemmas.{found_named, without_none, shrink_contents}
use Rattle.lru_model.proofs.Theorems.NewestInserts.{keeps_on, keeps_written}
use Rattle.lru_model.proofs.Theorems.RunLimits.{step_keeps_number}
use Rattle.lru_model.specs.Calls.{promoted, written, Remove, cleared}
use Rattle.lru_model.specs.Lists.{keys_of, lookup_entry, without, after, front}
use Rattle.lru_model.specs.Reservations.{Reserve}
use Rattle.lru_model.specs.Runs.{Step, gets, removes, clears, reserves, shrinks}
use Rattle.lru_model.specs.Shrinks.{Shrink}
use Rattle.lru_model.specs.State.{State, IsSized}
use Rattle.lru_model.specs.declared.results.ReserveError.{ReserveError}
use Rattle.lru_theory.specs.Inclusion.{KeyCall, promotes, looks, after_call}
use Rattle.lru_theory.specs.Inclusion.{removes as removal_of, clears as all_removed}
use Rattle.lru_theory.specs.Traces.{AreEqual, is_in}
use Rattle.lru_theory.proofs.EqualKeys.{equal_refl, both_equal}
use Rattle.lru_replay.specs.References.{ChangesKeys}
use Rattle.lru_replay.proofs.ReferenceSteps.{reserve_is}
use Rattle.lru_replay.proofs.StoredCounts.{keys_without, there, absent}

same_keys : {K : Type 0} {eq : K → K → Bool} → IsEquivalence eq → (xs ys : List K) → xs ≡ ys → AreEqual eq xs ys
same_keys {eq = eq} laws xs ys e = subst (AreEqual eq xs) e (equal_refl laws xs)

module _ {K V H : Type 0} {eq : K → K → Bool} (laws : IsEquivalence eq) (hash_of : H → K → ℕ) where
  step_does : (call : KeyCall K) (old new : State K V ℕ H) → IsSized new
      → Step length_rules length_offers eq hash_of old new
      → AreEqual eq (keys_of new.pairs) (after_call eq old.limiter call (keys_of old.pairs))
      → ChangesKeys eq call old new
  step_does call old new sized step keys = record {
    keys = keys;
    limit = step_keeps_number eq hash_of length-limits.fixed old new step;
    keeps = λ keeps. keeps_on eq old new keeps sized step;
  }

  front_keys : (key : K) (xs : List (K × V)) → AreEqual eq (keys_of (front (eq key) xs))
      (cond (is_in eq key (keys_of xs)) (key ∷ remove_key (eq key) (keys_of xs)) (keys_of xs))
  front_keys key xs = go (lookup_entry (eq key) xs) refl
    where
      go : (o : Option (K × V)) → lookup_entry (eq key) xs ≡ o
          → AreEqual eq (keys_of (after o (without (eq key) xs)))
          (cond (is_in eq key (keys_of xs)) (key ∷ remove_key (eq key) (keys_of xs)) (keys_of xs))
      go None e = rw (absent (eq key) xs e)
          (same_keys laws (keys_of (without (eq key) xs)) (keys_of xs) (ap keys_of (without_none (eq key) xs e)))
      go (Some p) e =
          let first : eq p.0 key ≡ true = laws.symm p.0 key ∙ found_named (eq key) xs p e in
          rw (there (eq key) xs p e) (both_equal eq p.0 (keys_of (without (eq key) xs)) key
          (remove_key (eq key) (keys_of xs)) first
          (same_keys laws (keys_of (without (eq key) xs)) (remove_key (eq key) (keys_of xs)) (keys_without (eq key) xs)))

  pub promotes_does : (names : K → Bool) (key : K) (old new : State K V ℕ H) → names ≡ eq key → IsSized new
      → new ≡ promoted names old → ChangesKeys eq (promotes key) old new
  promotes_does names key old new same sized e = step_does (promotes key) old new sized (gets names e)
      (subst (λ ks. AreEqual eq ks (after_call eq old.limiter (promotes key) (keys_of old.pairs)))
      (sym (ap (λ st. keys_of st.pairs) e ∙ ap (λ test. keys_of (front test old.pairs)) same))
      (front_keys key old.pairs))

  pub removes_does : (names : K → Bool) (key : K) (result : Option V) (old new : State K V ℕ H) → names ≡ eq key
      → IsSized new → Remove length_rules names old result new → ChangesKeys eq (removal_of key) old new
  removes_does names key result old new same sized h = step_does (removal_of key) old new sized (removes names result h)
      (same_keys laws (keys_of new.pairs) (remove_key (eq key) (keys_of old.pairs))
      (ap (λ st. keys_of st.pairs) h.state.is ∙ ap (λ test. keys_of (without test old.pairs)) same
      ∙ keys_without (eq key) old.pairs))

  pub clears_does : (old new : State K V ℕ H) → IsSized new → new ≡ cleared length_rules old
      → ChangesKeys eq all_removed old new
  clears_does old new sized e = step_does all_removed old new sized (clears e)
      (same_keys laws (keys_of new.pairs) [] (ap (λ st. keys_of st.pairs) e))

  pub reserves_does : (n : ℕ) (result : Result (Unit {0}) ReserveError) (old new : State K V ℕ H) → IsSized new
      → Reserve length_rules n old result new → ChangesKeys eq looks old new
  reserves_does n result old new sized h = step_does looks old new sized (reserves n result h)
      (same_keys laws (keys_of new.pairs) (keys_of old.pairs)
      (ap keys_of (reserve_is length_rules (λ s bytes. (refl, refl)) n old result new h).0))

  pub shrinks_does : (result : Result Bool AllocError) (old new : State K V ℕ H) → IsSized new
      → Shrink old result new → ChangesKeys eq looks old new
  shrinks_does result old new sized h = step_does looks old new sized (shrinks result h)
      (same_keys laws (keys_of new.pairs) (keys_of old.pairs)
      (ap (λ c. keys_of c.pairs) (shrink_contents old result new h)))

  pub writes_does : (names : K → Bool) (value : V) (old : State K V ℕ H)
      → ChangesKeys eq looks old (written names value old)
  writes_does names value old = record {
    keys = same_keys laws (keys_of (written names value old).pairs) (keys_of old.pairs) (keys-set_value names old.pairs value);
    limit = refl;
    keeps = keeps_written names value old;
  }

  pub looks_does : (st : State K V ℕ H) → ChangesKeys eq looks st st
  looks_does st = record { keys = equal_refl laws (keys_of st.pairs); limit = refl; keeps = λ keeps. keeps }
