-- Limiters that accept pairs unchanged satisfy the premises of the laws on what an insert keeps.
use Rattle.std.proofs.Common.{◌≡◌, ℕ, ◌+◌, Bool, true, false, cond, List, length, Some, None, Option, refl, sym}
use Rattle.std.proofs.Common.{ap}
use Rattle.std.proofs.Common.{◌∙◌}
use Rattle.std.specs.Prelude.{option_map, unwrap_or}
use Rattle.lru_limits.specs.Rules.{Rules}
use Rattle.lru_limits.specs.Budget.{by_weight, by_cost}
use Rattle.lru_limits.specs.Admissions.{Terms, offers_of}
use Rattle.lru_limits.specs.Stores.{plain, given-is}
use Rattle.lru_model.specs.Lists.{lookup_entry}
use Rattle.lru_model.specs.State.{State, Contents}
use Rattle.lru_model.specs.Exact.{IsDetermined}
use Rattle.lru_model.specs.Theorems.{Stores, left, given, KeepsValues}
use Rattle.lru_limits.specs.Laws.{ChangesNoPair}
use Rattle.lru_model.specs.Kept.{AcceptsNew, stored_key}
use Rattle.lru_model.proofs.Theorems.Fronts.{found_named}

pub plain-changes_none : {K V S : Type 0} (over grants : S → ℕ → Bool) → ChangesNoPair
    (plain {K = K} {V = V} over grants)
plain-changes_none over grants = record { key = λ s k v. refl; value = λ s k v. refl }

pub by_weight-changes_none : {K V : Type 0} (weight : K → V → ℕ) → ChangesNoPair (by_weight weight)
by_weight-changes_none weight = record { key = λ s k v. refl; value = λ s k v. refl }

pub by_cost-changes_none : {K V : Type 0} (cost : V → ℕ) → ChangesNoPair (by_cost {K = K} cost)
by_cost-changes_none cost = by_weight-changes_none (λ k v. cost v)

module _ {K V S : Type 0} (terms : Terms K V S) where
  pub offers_of-keeps : KeepsValues (offers_of terms)
  offers_of-keeps = record {
    given = λ s n i v t k w h. ap (λ p. p.1) (given-is (terms.accepts s n i v) (terms.admit s n i v) i v t (k, w) h);
    replaced = λ s n k i v w. refl;
  }

  pub offers_of-determined : IsDetermined (offers_of terms)
  offers_of-determined = λ s n i v t u given other h k. (h.limiter ∙ sym k.limiter, h.pair ∙ sym k.pair)

  pub offers_of-accepts : (rules : Rules K V S) (eq : K → K → Bool) (key : K) (value : V) (c : Contents K V S)
      → terms.accepts c.limiter (length c.pairs) key value ≡ true
      → rules.is_over_the_limit (terms.admit c.limiter (length c.pairs) key value) (length c.pairs + 1) ≡ false
      → AcceptsNew rules (offers_of terms) eq key value c (key, value)
  offers_of-accepts rules eq key value c accepted within = record {
    finds = λ out_of_memory. out_of_memory;
    gives = λ s given h. (
      h.pair ∙ ap (λ b. cond b (Some (key, value)) None) accepted,
      ap (λ t. rules.is_over_the_limit t (length c.pairs + 1)) h.limiter ∙ within,
    );
  }

pub stored_key-same : {K V : Type 0} (names : K → Bool) (key : K) (pairs : List (K × V))
    → ((k : K) → names k ≡ true → key ≡ k) → stored_key names key pairs ≡ key
stored_key-same {K} {V} names key pairs one = go (lookup_entry names pairs) refl
  where
    go : (o : Option (K × V)) → lookup_entry names pairs ≡ o → unwrap_or (option_map (λ p. p.0) o) key ≡ key
    go None e = refl
    go (Some was) e = sym (one was.0 (found_named names pairs was e))

pub stored-came : {K V S H : Type 0} (rules : Rules K V S) (terms : Terms K V S) (eq : K → K → Bool) (key : K)
    (value : V) (old : State K V S H) (pair : K × V) → ((k : K) → eq key k ≡ true → key ≡ k)
    → Stores rules (offers_of terms) eq key value old pair → pair ≡ (key, value)
stored-came rules terms eq key value old pair one (left was found y is) =
    is ∙ ap (λ k. (k, value)) (sym (one was.0 (found_named (eq key) old.pairs was found)))
stored-came rules terms eq key value old pair one (given absent s n) =
    given-is (terms.accepts old.limiter (length old.pairs) key value)
    (terms.admit old.limiter (length old.pairs) key value) key value s pair n
