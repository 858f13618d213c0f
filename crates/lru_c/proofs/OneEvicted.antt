-- If an insert leaves the newest pairs of a map, it evicts at most one pair of another key.
use Rattle.std.proofs.Common.{◌≡◌, ◌≤◌, ◌+◌, ◌-◌, min, ℕ, Bool, true, false, cond, not, List, [], ◌∷◌, length, nat_eq, Result, Ok, Err}
use Rattle.std.proofs.Common.{refl, ap, subst, arith, take, reverse}
use Rattle.std.proofs.lemmas.Cmp.{nat_eq_equiv}
use Rattle.std.proofs.lemmas.List.{length-append, length-reverse, length-take}
use Rattle.std.proofs.lemmas.List.Elements.{filter-append}
use Rattle.std.specs.Prelude.{OnOk, OnErr}
use Rattle.std.specs.declared.alloc.AllocError.{AllocError}
use Rattle.lru_limits.specs.Admissions.{offers_of-lawful}
use Rattle.lru_limits.specs.Limiters.{length_rules, length_terms, length_offers}
use Rattle.lru_model.specs.Kept.{LosesNothing, stored, value_rejected, nothing_to_store, pair_not_stored}
use Rattle.lru_model.specs.Kept.{LeavesTheNewest, stored_key}
use Rattle.lru_model.specs.Lists.{without}
use Rattle.lru_model.specs.Theorems.{others}
use Rattle.lru_model.proofs.CallerLemmas.{length-without, without_none}
use Rattle.lru_c.specs.Handle.{Map}

fewer : (key : ℕ) (pairs : List (ℕ × ℕ)) → length (others (nat_eq key) pairs) ≤ length pairs
fewer key [] = omega arith
fewer key (pair ∷ pairs) = go (nat_eq key pair.0) (fewer key pairs)
  where
    go : (own : Bool) → length (others (nat_eq key) pairs) ≤ length pairs
        → length (cond (not own) (pair ∷ others (nat_eq key) pairs) (others (nat_eq key) pairs))
        ≤ length (pair ∷ pairs)
    go true few = omega (arith, few)
    go false few = omega (arith, few)

own_pair : (key : ℕ) (pair : ℕ × ℕ) → nat_eq key pair.0 ≡ true → others (nat_eq key) (pair ∷ []) ≡ []
own_pair key pair own = rw own refl

module _ (key value : ℕ) (old new : Map) (result : Result Bool AllocError) (passed : List (ℕ × ℕ))
    (within : length old.pairs ≤ old.limiter)
    (newest : LeavesTheNewest nat_eq old.limiter key value old.pairs result new.pairs) where
  left_ok : (kept : Bool) → result ≡ Ok kept → length new.pairs
      ≡ min old.limiter (length (without (nat_eq key) old.pairs) + 1)
  left_ok kept is =
      let whole = (stored_key (nat_eq key) key old.pairs, value) ∷ without (nat_eq key) old.pairs in
      let left : new.pairs ≡ take old.limiter whole =
      subst (λ r. OnOk r (new.pairs ≡ take old.limiter whole)) is newest.newest in
      omega (arith, ap length left, length-take old.limiter whole)

  left_err : (error : AllocError) → result ≡ Err error → length new.pairs ≡ min (old.limiter - 1) (length old.pairs)
  left_err error is =
      let left : new.pairs ≡ take (old.limiter - 1) old.pairs =
      subst (λ r. OnErr r (new.pairs ≡ take (old.limiter - 1) old.pairs)) is newest.others in
      omega (arith, ap length left, length-take (old.limiter - 1) old.pairs)

  pub one_evicted : LosesNothing length_rules length_offers nat_eq key value old result passed new
      → length (others (nat_eq key) passed) ≤ 1
  one_evicted (stored pair is kept all) = omega (
    arith,
    fewer key passed,
    ap length all,
    length-append new.pairs (reverse passed),
    length-reverse passed,
    left_ok _ kept,
    length-without (nat_eq key) old.pairs,
    within,
  )
  one_evicted (value_rejected was found refused kept all left) = omega (arith, fewer key passed, ap length all)
  one_evicted (nothing_to_store absent why none left) = omega (arith, fewer key passed, ap length none)
  one_evicted (pair_not_stored absent s pair given not_kept evicted is all) = go result refl
    where
      own : nat_eq key pair.0 ≡ true
      own = (offers_of-lawful length_terms nat_eq nat_eq_equiv).names_given old.limiter (length old.pairs) key value s pair.0 pair.1 given

      same : length (others (nat_eq key) passed) ≤ length evicted
      same = omega (
        arith,
        ap (λ l. length (others (nat_eq key) l)) is,
        ap length (filter-append (λ p. not (nat_eq key p.0)) evicted (pair ∷ [])),
        length-append (others (nat_eq key) evicted) (others (nat_eq key) (pair ∷ [])),
        ap length (own_pair key pair own),
        fewer key evicted,
      )

      left : length new.pairs + length evicted ≡ length old.pairs
      left = omega (arith, ap length all, length-append new.pairs (reverse evicted), length-reverse evicted)

      go : (r : Result Bool AllocError) → result ≡ r → length (others (nat_eq key) passed) ≤ 1
      go (Ok kept) e = omega (
        arith,
        same,
        left,
        left_ok kept e,
        ap length (without_none (nat_eq key) old.pairs absent),
        within,
      )
      go (Err error) e = omega (
        arith,
        same,
        left,
        left_err error e,
        within,
      )
