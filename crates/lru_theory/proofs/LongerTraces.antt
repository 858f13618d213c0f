use Rattle.std.proofs.Common.{◌≡◌, ℕ, ◌+◌, Bool, cond, List, [], ◌∷◌, ◌++◌, refl, arith}
use Rattle.lru_theory.specs.Traces.{is_far, misses, cached_by, faults_by, fault, past_after}
use Rattle.lru_theory.specs.Inclusion.{KeyCall, after_call, after_calls}

module _ {K : Type 0} (eq : K → K → Bool) (refer : K → List K → List K) where
  pub cached_more : (trace : List K) (key : K) (keys : List K)
      → cached_by refer keys (trace ++ key ∷ []) ≡ refer key (cached_by refer keys trace)
  cached_more [] key keys = refl
  cached_more (x ∷ trace) key keys = cached_more trace key (refer x keys)

  pub faults_more : (trace : List K) (key : K) (keys : List K)
      → faults_by eq refer keys (trace ++ key ∷ [])
      ≡ faults_by eq refer keys trace + fault eq key (cached_by refer keys trace)
  faults_more [] key keys = omega arith
  faults_more (x ∷ trace) key keys = omega (arith, faults_more trace key (refer x keys))

module _ {K : Type 0} (eq : K → K → Bool) (n : ℕ) where
  pub called_more : (calls : List (KeyCall K)) (call : KeyCall K) (keys : List K)
      → after_calls eq n (calls ++ call ∷ []) keys ≡ after_call eq n call (after_calls eq n calls keys)
  called_more [] call keys = refl
  called_more (one ∷ calls) call keys = called_more calls call (after_call eq n one keys)

module _ {K : Type 0} where
  pub past_more : (past trace : List K) (key : K) → past_after past (trace ++ key ∷ []) ≡ key ∷ past_after past trace
  past_more past [] key = refl
  past_more past (x ∷ trace) key = past_more (x ∷ past) trace key

  pub misses_more : (eq : K → K → Bool) (n : ℕ) (past trace : List K) (key : K)
      → misses eq n past (trace ++ key ∷ [])
      ≡ misses eq n past trace + cond (is_far eq n key (past_after past trace)) 1 0
  misses_more eq n past [] key = omega arith
  misses_more eq n past (x ∷ trace) key = omega (arith, misses_more eq n (x ∷ past) trace key)
