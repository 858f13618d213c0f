use Rattle.std.proofs.Common.{◌≡◌, ℕ, ◌≤◌, Bool, true, List, length, take, sym, subst, arith, ◌∙◌}
use Rattle.std.proofs.lemmas.Map.Entries.{length-keys_of}
use Rattle.std.specs.Cmp.{IsEquivalence}
use Rattle.lru_model.specs.Lists.{keys_of}
use Rattle.lru_model.specs.State.{State}
use Rattle.lru_limits.specs.Budget.{Budget}
use Rattle.lru_theory.specs.Budgets.{refer_within, cached_within}
use Rattle.lru_theory.specs.Inclusion.{KeyCall, IsIncluded, after_calls}
use Rattle.lru_theory.specs.Traces.{AreEqual, cached_by, faults_by}
use Rattle.lru_theory.proofs.Affordable.{front_cached, front_of, front_taken, fewer_faults}
use Rattle.lru_theory.proofs.EqualKeys.{equal_trans, equal_sym, cached_equal, faults_equal, taken_equal, equal_long}
use Rattle.lru_theory.proofs.Inclusions.{all_calls, included_faults, included_equal}
use Rattle.lru_theory.proofs.Lists.{cached_taken}
use Rattle.lru_replay.specs.References.{Cache, Referenced, Did, of_cost, of_length}
use Rattle.lru_replay.proofs.ReferenceRuns.{IsCache, after, length_is, cost_is, did_keys}

-- The smaller cache begins with the keys `first`. If it contains the first l keys of the larger cache after the trace,
-- the smaller map contains the first l keys of the larger map.
module _ {K V S H : Type 0} {cache : Cache K V S H} (is : IsCache cache) (old other : State K V S H) (trace first : List K)
    (missed more : ℕ) (small large : State K V S H) (run : Referenced cache old trace missed small)
    (others : Referenced cache other trace more large) (begin : AreEqual cache.eq (keys_of old.pairs) first) where
  abbrev little : K → List K → List K
  little = cache.refer (cache.limit old.limiter)

  abbrev all : List K
  all = cached_by (cache.refer (cache.limit other.limiter)) (keys_of other.pairs) trace

  pub front_by : (l : ℕ) → cached_by little first trace ≡ take l all
      → AreEqual cache.eq (keys_of small.pairs) (take l (keys_of large.pairs))
  front_by l law =
      equal_trans is.laws (keys_of small.pairs) (cached_by little (keys_of old.pairs) trace) (take l (keys_of large.pairs))
      (after is old trace missed small run).keys
      (equal_trans is.laws (cached_by little (keys_of old.pairs) trace) (cached_by little first trace)
      (take l (keys_of large.pairs))
      (cached_equal is.laws little (is.alike (cache.limit old.limiter)) trace (keys_of old.pairs) first begin)
      (subst (λ ks. AreEqual cache.eq ks (take l (keys_of large.pairs))) (sym law)
      (taken_equal cache.eq l all (keys_of large.pairs)
      (equal_sym is.laws (keys_of large.pairs) all (after is other trace more large others).keys))))

  pub missed_by : missed ≡ faults_by cache.eq little first trace
  missed_by = (after is old trace missed small run).misses_so
      ∙ faults_equal is.laws little (is.alike (cache.limit old.limiter)) trace (keys_of old.pairs) first begin

module _ {K V H : Type 0} {eq : K → K → Bool} (laws : IsEquivalence eq) (old other : State K V ℕ H) where
  pub front_after : (trace : List K) (missed more : ℕ) (small large : State K V ℕ H)
      → Referenced (of_length eq) old trace missed small → Referenced (of_length eq) other trace more large
      → old.limiter ≤ other.limiter → AreEqual eq (keys_of old.pairs) (take old.limiter (keys_of other.pairs))
      → AreEqual eq (keys_of small.pairs) (take old.limiter (keys_of large.pairs))
  front_after trace missed more small large run others few front =
      front_by (length_is laws) old other trace (take old.limiter (keys_of other.pairs)) missed more small large run others
      front old.limiter (sym (cached_taken eq old.limiter other.limiter few trace (keys_of other.pairs)))

  pub fewer_missed : (trace : List K) (missed more : ℕ) (small large : State K V ℕ H)
      → Referenced (of_length eq) old trace missed small → Referenced (of_length eq) other trace more large
      → old.limiter ≤ other.limiter → IsIncluded eq old.limiter other.limiter (keys_of old.pairs) (keys_of other.pairs)
      → more ≤ missed
  fewer_missed trace missed more small large run others few included =
      let fewer = included_faults laws old.limiter other.limiter few trace (keys_of old.pairs) (keys_of other.pairs)
      included in
      omega (
        arith,
        fewer,
        (after (length_is laws) old trace missed small run).misses_so,
        (after (length_is laws) other trace more large others).misses_so,
      )

  pub included_after : (calls : List (KeyCall K)) (small large : State K V ℕ H) → Did eq old calls small
      → Did eq other calls large → old.limiter ≤ other.limiter
      → IsIncluded eq old.limiter other.limiter (keys_of old.pairs) (keys_of other.pairs)
      → IsIncluded eq old.limiter other.limiter (keys_of small.pairs) (keys_of large.pairs)
  included_after calls small large run others few before =
      let n = old.limiter in let m = other.limiter in
      included_equal laws n m (after_calls eq n calls (keys_of old.pairs)) (keys_of small.pairs)
      (after_calls eq m calls (keys_of other.pairs)) (keys_of large.pairs)
      (did_keys laws old calls small run).0 (did_keys laws other calls large others).0
      (all_calls laws n m few calls (keys_of old.pairs) (keys_of other.pairs) before)

module _ {K V H : Type 0} {eq : K → K → Bool} (laws : IsEquivalence eq) (weight : K → V → ℕ) (cost : K → ℕ)
    (same : (key other : K) → eq key other ≡ true → cost key ≡ cost other) (trace : List K) (missed more : ℕ)
    (old small other large : State K V Budget H) (run : Referenced (of_cost eq weight cost) old trace missed small)
    (others : Referenced (of_cost eq weight cost) other trace more large)
    (few : old.limiter.limit ≤ other.limiter.limit)
    (front : AreEqual eq (keys_of old.pairs) (take (length old.pairs) (keys_of other.pairs))) where
  abbrev n : ℕ
  n = old.limiter.limit

  abbrev m : ℕ
  m = other.limiter.limit

  abbrev first : List K
  first = take (length old.pairs) (keys_of other.pairs)

  pub front_within : AreEqual eq (keys_of small.pairs) (take (length small.pairs) (keys_of large.pairs))
  front_within =
      let is : IsCache (of_cost {H = H} eq weight cost) = cost_is laws weight cost same in
      let l = length (cached_within eq cost n first trace) in
      let long : l ≡ length small.pairs =
      sym (equal_long eq (keys_of small.pairs) (cached_within eq cost n first trace)
      (equal_trans laws (keys_of small.pairs) (cached_within eq cost n (keys_of old.pairs) trace)
      (cached_within eq cost n first trace) (after is old trace missed small run).keys
      (cached_equal laws (refer_within eq cost n) (is.alike n) trace (keys_of old.pairs) first front)))
      ∙ length-keys_of small.pairs in
      subst (λ k. AreEqual eq (keys_of small.pairs) (take k (keys_of large.pairs))) long
      (front_by is old other trace first missed more small large run others front l
      (front_taken (cached_within eq cost n first trace) (cached_within eq cost m (keys_of other.pairs) trace)
      (front_cached eq cost n m few trace first (keys_of other.pairs) (front_of (length old.pairs) (keys_of other.pairs)))))

  pub fewer_within : more ≤ missed
  fewer_within =
      let is : IsCache (of_cost {H = H} eq weight cost) = cost_is laws weight cost same in
      let fewer = fewer_faults eq cost n m few trace first (keys_of other.pairs)
      (front_of (length old.pairs) (keys_of other.pairs)) in
      omega (
        arith,
        fewer,
        missed_by is old other trace first missed more small large run others front,
        (after is other trace more large others).misses_so,
      )
