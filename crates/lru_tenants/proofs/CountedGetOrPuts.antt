use Rattle.std.proofs.Common.{◌≡◌, ℕ, Bool, true, false, List, Option, Some, None, Result, Ok, Err, is_some, refl, sym}
use Rattle.std.proofs.Common.{ap, ◌∙◌}
use Rattle.std.proofs.lemmas.Bool.{true≢false}
use Rattle.std.specs.Cmp.{IsEquivalence}
use Rattle.std.specs.Map.{set_value}
use Rattle.std.specs.Option.{option_map}
use Rattle.std.specs.Result.{result_map_both}
use Rattle.std.specs.declared.alloc.AllocError.{AllocError}
use Rattle.lru_caches.specs.Counted.{looked_up, inserted, evicted}
use Rattle.lru_caches.specs.declared.counted.Counts.{Counts}
use Rattle.lru_limits.specs.Rules.{Rules, Offers}
use Rattle.lru_model.specs.Calls.{promoted}
use Rattle.lru_model.specs.GetOrInserts.{MakesNewest, got, inserted as made}
use Rattle.lru_model.specs.Inserts.{Insert}
use Rattle.lru_model.specs.Lists.{first, lookup}
use Rattle.lru_model.specs.State.{State}
use Rattle.lru_tenants.proofs.CountedPuts.{some-mapped}
use Rattle.lru_tenants.proofs.GetOrPuts.{gets_value, Ends, ends-open}
use Rattle.lru_tenants.specs.Counting.{counted, got_or_put, CountsGetOrInsert, CountsGetOrPut, CountsInsert}
use Rattle.lru_tenants.specs.GetOrPuts.{GetsOrPuts, newest_answer}
use Rattle.lru_tenants.specs.declared.counting.Counting.{Counting}
use Rattle.lru_tenants.specs.declared.error.TenantError.{TenantError}

module _ {K V L S : Type 0} (rules : Rules K V (Counting L)) (offers : Offers K V (Counting L) K)
    (eq : K → K → Bool) (hash_of : S → K → ℕ) (makes : V → Type 0) (key : K) (old : State K V (Counting L) S) where
  abbrev pub CountedStep : Result Bool AllocError → State K V (Counting L) S → Type 0
  CountedStep = CountsGetOrInsert (MakesNewest rules offers eq hash_of makes key) (eq key) old

  pub counts-got : (left new : State K V (Counting L) S) → is_some (lookup (eq key) old.pairs) ≡ true
      → left ≡ promoted (eq key) old → new ≡ counted (looked_up true) left → CountedStep (Ok true) new
  counts-got left new found turned is = (
    left,
    step (lookup (eq key) old.pairs) refl found,
    is ∙ ap (λ b. counted (got_or_put {E = AllocError} b (Ok true) (evicted (eq key) old.pairs left.pairs)) left)
        (sym found),
  )
    where
      step : (o : Option V) → lookup (eq key) old.pairs ≡ o → is_some o ≡ true
          → MakesNewest rules offers eq hash_of makes key old (Ok true) left
      step None e some = absurd (true≢false (sym some))
      step (Some w) e some = got w e refl turned

  pub counts-inserted : lookup (eq key) old.pairs ≡ None → (v : V) → makes v → (done : Result Bool AllocError)
      (mid new : State K V (Counting L) S) → CountsInsert (Insert rules offers eq hash_of key v) (eq key) old done mid
      → new ≡ counted (looked_up false) mid → CountedStep done new
  counts-inserted none v may done mid new (left, inserts, is) last = (
    left,
    made none v may inserts,
    last ∙ ap (counted (looked_up false)) is
        ∙ ap (λ b. counted (got_or_put b done (evicted (eq key) old.pairs left.pairs)) left) (sym (ap is_some none)),
  )

kept-answer : {K V L S : Type 0} (left : State K V L S) (done : Result Bool AllocError)
    → (done ≡ Ok true → is_some (first left.pairs) ≡ true) → (n : ℕ) (counts : Counts)
    → inserted done n counts ≡ inserted (result_map_both is_some (λ e. e) (newest_answer done left)) n counts
kept-answer left (Ok true) there n counts = ap (λ b. inserted {E = TenantError} (Ok b) n counts)
    (sym (some-mapped (λ pair. pair.1) (first left.pairs) ∙ there refl))
kept-answer left (Ok false) there n counts = refl
kept-answer left (Err e) there n counts = refl

same-counts : {K V L S : Type 0} (left : State K V L S) (done : Result Bool AllocError)
    → (done ≡ Ok true → is_some (first left.pairs) ≡ true) → (was : Bool) (n : ℕ) (counts : Counts)
    → got_or_put was done n counts
    ≡ got_or_put was (result_map_both is_some (λ e. e) (newest_answer done left)) n counts
same-counts left done there true n counts = refl
same-counts left done there false n counts = ap (looked_up false) (kept-answer left done there n counts)

same-answer : {K V L S : Type 0} (done : Result Bool AllocError) (left new : State K V L S) → new.pairs ≡ left.pairs
    → newest_answer done new ≡ newest_answer done left
same-answer (Ok true) left new is = ap (λ xs. Ok (option_map (λ pair. pair.1) (first xs))) is
same-answer (Ok false) left new is = refl
same-answer (Err e) left new is = refl

module _ {K V L S : Type 0} (rules : Rules K V (Counting L)) (offers : Offers K V (Counting L) K) (budget_of : L → ℕ)
    (eq : K → K → Bool) (hash_of : S → K → ℕ) (makes : V → Type 0) (key : K) where
  abbrev pub CountedCall : State K V (Counting L) S → Result (Option V) TenantError
      → Option (State K V (Counting L) S) → Type 0
  CountedCall =
      CountsGetOrPut (GetsOrPuts rules offers (λ s. budget_of s.limiter) eq hash_of makes key) (eq key)

  module _ (answer : Result (Option V) TenantError) (was : State K V (Counting L) S) (done : Result Bool AllocError)
      (new : State K V (Counting L) S) (said : answer ≡ newest_answer done new)
      (step : CountedStep rules offers eq hash_of makes key was done new)
      (there : done ≡ Ok true → is_some (first new.pairs) ≡ true)
      (budget : budget_of new.limiter.limiter ≡ budget_of was.limiter.limiter) where
    counts-call : CountedCall was answer (Some new)
    counts-call =
        let (left, makes, is) = step in
        let old = is_some (lookup (eq key) was.pairs) in let n = evicted (eq key) was.pairs left.pairs in
        let says : answer ≡ newest_answer done left = said ∙ same-answer done left new (ap (λ st. st.pairs) is) in (
          left,
          record {
            left = left;
            result = done;
            step = makes;
            budget = sym (ap (λ st. budget_of st.limiter.limiter) is) ∙ budget;
            said = says;
            is = refl;
          },
          ap Some (is ∙ ap (λ counts. counted (λ _. counts) left)
              (same-counts left done (λ e. sym (ap (λ st. is_some (first st.pairs)) is) ∙ there e) old n
              left.limiter.counts
              ∙ ap (λ a. got_or_put old (result_map_both is_some (λ e. e) a) n left.limiter.counts) (sym says))),
        )

    pub counted-ends : {N : Type 0} {same : N → N → Bool} {names : N → Bool}
        (one : (x y : N) → names x ≡ true → names y ≡ same x y) → IsEquivalence same
        → (old : List (N × State K V (Counting L) S)) → lookup names old ≡ Some was
        → Ends eq key answer CountedCall one old (set_value names old new)
    counted-ends one laws old is =
        let (left, gets, counts) = counts-call in
        ends-open eq key answer CountedCall one laws old was new is counts-call
        (gets_value rules offers (λ s. budget_of s.limiter) eq hash_of makes key answer was (Some left) gets)
