use Rattle.std.proofs.Common.{◌≡◌, ℕ, ◌+◌, ◌≤◌, Bool, true, cond, List, length, take}
use Rattle.std.proofs.Common.{refl, sym, ap, ◌∙◌, subst, arith}
use Rattle.std.proofs.lemmas.List.{take_all}
use Rattle.std.proofs.lemmas.Map.Entries.{length-keys_of}
use Rattle.std.specs.Cmp.{IsEquivalence}
use Rattle.std.specs.List.{IsDistinct}
use Rattle.group_table.specs.Change.{count_up}
use Rattle.lru_model.specs.Lists.{keys_of}
use Rattle.lru_model.specs.State.{State, IsSized}
use Rattle.lru_theory.specs.Inclusion.{KeyCall, after_call, after_calls}
use Rattle.lru_theory.specs.Traces.{AreEqual, recency, misses, cached_by, faults_by, faults, fault, past_after, cached}
use Rattle.lru_theory.proofs.Affordable.{within_equal}
use Rattle.lru_theory.proofs.EqualKeys.{equal_refl, equal_trans, is_in_equal, refer_equal, call_equal, recency_distinct}
use Rattle.lru_theory.proofs.Lists.{cached_is, faults_is}
use Rattle.lru_theory.proofs.LongerTraces.{cached_more, faults_more, called_more}
use Rattle.lru_replay.specs.References.{Cache, Referenced, begins, refers, reads, of_length, of_cost}
use Rattle.lru_replay.specs.References.{Did, nothing, does_more}

-- What is proved of a kind of cache.
pub record IsCache {K V S H : Type 0} (cache : Cache K V S H) : Type 0 where
  pub laws : IsEquivalence cache.eq
  pub alike : (n : ℕ) (key : K) (xs ys : List K) → AreEqual cache.eq xs ys
      → AreEqual cache.eq (cache.refer n key xs) (cache.refer n key ys)

pub length_is : {K V H : Type 0} {eq : K → K → Bool} → IsEquivalence eq → IsCache (of_length {K = K} {V = V} {H = H} eq)
length_is laws = record { laws = laws; alike = refer_equal laws }

pub cost_is : {K V H : Type 0} {eq : K → K → Bool} (laws : IsEquivalence eq) (weight : K → V → ℕ) (cost : K → ℕ)
    → ((key other : K) → eq key other ≡ true → cost key ≡ cost other) → IsCache (of_cost {K = K} {V = V} {H = H} eq weight cost)
cost_is laws weight cost same = record { laws = laws; alike = within_equal laws cost same }

module _ {K V S H : Type 0} {cache : Cache K V S H} (is : IsCache cache) (old : State K V S H) where
  abbrev n : ℕ
  n = cache.limit old.limiter

  pub record After (trace : List K) (missed : ℕ) (st : State K V S H) : Type 0 where
    pub keys : AreEqual cache.eq (keys_of st.pairs) (cached_by (cache.refer n) (keys_of old.pairs) trace)
    pub limit : cache.limit st.limiter ≡ n
    pub misses_so : missed ≡ faults_by cache.eq (cache.refer n) (keys_of old.pairs) trace
    pub stored : cache.Stores n → IsSized old → st.counts.placed ≡ count_up old.counts.placed missed

  counts_on : (first a b : ℕ) → count_up (count_up first a) b ≡ count_up first (a + b)
  counts_on first a b = omega arith

  pub after : (trace : List K) (missed : ℕ) (new : State K V S H) → Referenced cache old trace missed new
      → After trace missed new
  after _ _ _ begins = record {
    keys = equal_refl is.laws (keys_of old.pairs);
    limit = refl;
    misses_so = refl;
    stored = λ some sized. omega (arith, sized.placed);
  }
  after _ _ _ (refers key trace missed mid new run h) =
      let was = after trace missed mid run in
      let keys = cached_by (cache.refer n) (keys_of old.pairs) trace in
      record {
        keys = subst (AreEqual cache.eq (keys_of new.pairs))
            (sym (cached_more cache.eq (cache.refer n) trace key (keys_of old.pairs)))
            (equal_trans is.laws (keys_of new.pairs) (cache.refer n key (keys_of mid.pairs)) (cache.refer n key keys)
            (subst (λ m. AreEqual cache.eq (keys_of new.pairs) (cache.refer m key (keys_of mid.pairs))) was.limit h.does.keys)
            (is.alike n key (keys_of mid.pairs) keys was.keys));
        limit = h.does.limit ∙ was.limit;
        misses_so = (λ i. was.misses_so i + cond (is_in_equal is.laws key (keys_of mid.pairs) keys was.keys i) 0 1)
            ∙ sym (faults_more cache.eq (cache.refer n) trace key (keys_of old.pairs));
        stored = λ some sized. h.stored (subst cache.Stores (sym was.limit) some)
            ∙ ap (λ m. count_up m (fault cache.eq key (keys_of mid.pairs))) (was.stored some sized)
            ∙ counts_on old.counts.placed missed (fault cache.eq key (keys_of mid.pairs));
      }
  after _ _ _ (reads trace missed mid new run h) =
      let was = after trace missed mid run in
      record {
        keys = equal_trans is.laws (keys_of new.pairs) (keys_of mid.pairs)
            (cached_by (cache.refer n) (keys_of old.pairs) trace) h.does.keys was.keys;
        limit = h.does.limit ∙ was.limit;
        misses_so = was.misses_so;
        stored = λ some sized. h.stored ∙ was.stored some sized;
      }

module _ {K V H : Type 0} {eq : K → K → Bool} (laws : IsEquivalence eq) (old : State K V ℕ H) where
  newest_before : IsDistinct eq (keys_of old.pairs) → length old.pairs ≤ old.limiter
      → keys_of old.pairs ≡ take old.limiter (recency eq (keys_of old.pairs))
  newest_before distinct within =
      sym (take_all old.limiter (keys_of old.pairs) (omega (arith, length-keys_of old.pairs, within)))
      ∙ ap (take old.limiter) (sym (recency_distinct laws (keys_of old.pairs) distinct))

  pub after_keys : IsDistinct eq (keys_of old.pairs) → length old.pairs ≤ old.limiter → (trace : List K) (missed : ℕ)
      (new : State K V ℕ H) → Referenced (of_length eq) old trace missed new
      → AreEqual eq (keys_of new.pairs) (take old.limiter (recency eq (past_after (keys_of old.pairs) trace)))
  after_keys distinct within trace missed new run =
      subst (AreEqual eq (keys_of new.pairs))
      (ap (λ keys. cached eq old.limiter keys trace) (newest_before distinct within)
      ∙ cached_is eq old.limiter (keys_of old.pairs) trace) (after (length_is laws) old trace missed new run).keys

  pub after_misses : IsDistinct eq (keys_of old.pairs) → length old.pairs ≤ old.limiter → (trace : List K) (missed : ℕ)
      (new : State K V ℕ H) → Referenced (of_length eq) old trace missed new
      → missed ≡ misses eq old.limiter (keys_of old.pairs) trace
  after_misses distinct within trace missed new run =
      (after (length_is laws) old trace missed new run).misses_so
      ∙ ap (λ keys. faults eq old.limiter keys trace) (newest_before distinct within)
      ∙ faults_is laws old.limiter (keys_of old.pairs) trace

  pub did_keys : (calls : List (KeyCall K)) (new : State K V ℕ H) → Did eq old calls new
      → AreEqual eq (keys_of new.pairs) (after_calls eq old.limiter calls (keys_of old.pairs))
      × (new.limiter ≡ old.limiter)
  did_keys _ _ nothing = (equal_refl laws (keys_of old.pairs), refl)
  did_keys _ _ (does_more call calls mid new run h) =
      let was = did_keys calls mid run in
      let keys = after_calls eq old.limiter calls (keys_of old.pairs) in (
        subst (AreEqual eq (keys_of new.pairs)) (sym (called_more eq old.limiter calls call (keys_of old.pairs)))
            (equal_trans laws (keys_of new.pairs) (after_call eq old.limiter call (keys_of mid.pairs))
            (after_call eq old.limiter call keys)
            (subst (λ n. AreEqual eq (keys_of new.pairs) (after_call eq n call (keys_of mid.pairs))) was.1 h.keys)
            (call_equal laws old.limiter call (keys_of mid.pairs) keys was.0)),
        h.limit ∙ was.1,
      )
