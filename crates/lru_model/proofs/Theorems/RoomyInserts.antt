-- For the laws `inserts_with_room_are_exact` and `deleted_buckets_serve`: nothing is evicted or passed.
use Rattle.std.proofs.Common.{◌≡◌, ℕ, ◌+◌, ◌<◌, ◌≤◌, Bool, false, List, [], length, Some, None, Result, Ok, refl}
use Rattle.std.proofs.Common.{sym, ap, ◌∙◌, subst, arith}
use Rattle.std.specs.Prelude.{not, unwrap_or}
use Rattle.std.proofs.lemmas.Option.{none-some}
use Rattle.std.specs.declared.alloc.AllocError.{AllocError}
use Rattle.group_table.specs.Bucket.{deleted, growth_left as growth_left_of}
use Rattle.lru_limits.specs.Rules.{Rules, Offers}
use Rattle.lru_model.specs.Lists.{is_empty, lookup_entry}
use Rattle.lru_model.specs.State.{State, Contents, contents, buckets, growth_left, FirstFreeIs}
use Rattle.lru_model.specs.Place.{Place, Outcome, placed, IsPlaced, HasPairsButNoGrowth}
use Rattle.lru_model.specs.Inserts.{Insert, replaced, not_replaced, no_memory_to_admit, not_admitted, admitted}
use Rattle.lru_model.specs.Inserts.{make_room}
use Rattle.lru_model.specs.Inserts.{Settles}
use Rattle.lru_model.specs.Callbacks.{noting, noting_offers, noted, InsertPasses}
use Rattle.lru_model.specs.Kept.{AcceptsNew, IsAdded}
use Rattle.lru_model.proofs.States.LeavingPairs.{trim-within}
use Rattle.lru_model.proofs.Theorems.DeletedBuckets.{deleted_serves}
use Rattle.lru_model.proofs.Theorems.GrantedGrowth.{place_with_room}
use Rattle.lru_model.proofs.Theorems.Moves.{behind, left_are}

module _ {K V S H I : Type 0} (rules : Rules K V S) (offers : Offers K V S I) (names : I → K → Bool) (i : I) (v : V)
    (pair : K × V) (old : State K V S H) (result : Result Bool AllocError) (new : State K V S H) (hash_of : H → K → ℕ)
  where
    abbrev Fits : Type 0
    Fits = (ready : State K V S H) → (ready.pairs ≡ old.pairs) × (ready.hasher ≡ old.hasher)
        → ready.table.states ≡ old.table.states → (outcome : Outcome) (landed : State K V S H)
        → Place rules hash_of pair ready outcome landed
        → (outcome ≡ placed) × IsPlaced pair (buckets ready) 0 ready landed × (growth_left ready ≤ growth_left landed + 1)

    added_if_fits : Fits → AcceptsNew rules offers names i v (contents old) pair → lookup_entry (names i) old.pairs ≡ None
        → Insert rules offers names hash_of i v old result new → IsAdded rules offers names i v pair old result new
    added_if_fits fits w absent (replaced was found y r l) = absurd (none-some was (sym absent ∙ found))
    added_if_fits fits w absent (not_replaced was found y r l) = absurd (none-some was (sym absent ∙ found))
    added_if_fits fits w absent (no_memory_to_admit a k r e) = absurd (w.finds k)
    added_if_fits fits w absent (not_admitted a s n r e) = absurd (none-some pair (w.gives s None n).0)
    added_if_fits fits w absent (admitted a s given n (ready, l, (outcome, landed, p, t))) =
        let g = w.gives s (Some given) n in
        let same : given ≡ pair = ap (λ o. unwrap_or o given) g.0 in
        let c : Contents K V S = record { pairs = old.pairs; limiter = s } in
        let way : make_room rules c ≡ c = rw g.1 refl in
        let stay : contents ready ≡ c = left_are _ _ ready l ∙ way in
        let states : ready.table.states ≡ old.table.states = l.growth_left.untouched (ap (λ d. length d.pairs) stay) in
        let is = fits ready (ap (λ d. d.pairs) stay, ap (λ st. st.hasher) l.is) states outcome landed
        (subst (λ g. Place rules hash_of g ready outcome landed) same p) in
        let end : Settles rules placed landed result new = subst (λ o. Settles rules o landed result new) is.0 t in
        let landed_is : contents landed ≡ behind pair c = ap contents is.1.state ∙ ap (behind pair) stay in
        let one : length (behind pair c).pairs ≡ length old.pairs + 1 = omega arith in
        let within : rules.is_over_the_limit landed.limiter (length landed.pairs) ≡ false =
        ap (λ d. rules.is_over_the_limit d.limiter (length d.pairs)) landed_is
        ∙ ap (rules.is_over_the_limit s) one ∙ g.1 in
        let left : contents new ≡ behind pair c =
        left_are landed _ new end.1 ∙ trim-within rules (contents landed) within ∙ landed_is in
        record {
          answer = end.0 ∙ ap (λ d. Ok (not (is_empty d.pairs))) left;
          pairs = ap (λ d. d.pairs) left;
          limiter = rw (ap (λ d. d.limiter) left)
              (subst (λ o. offers.on_insert old.limiter (length old.pairs) i v s o) g.0 n);
          table = end.1.growth_left.table ∙ is.1.table ∙ l.growth_left.table;
          growth_left = omega (arith, ap growth_left_of states, is.2, end.1.growth_left.keeps);
        }

    pub is_added : AcceptsNew rules offers names i v (contents old) pair → lookup_entry (names i) old.pairs ≡ None
        → 0 < growth_left old → Insert rules offers names hash_of i v old result new
        → IsAdded rules offers names i v pair old result new
    is_added w absent some = added_if_fits (λ ready same states outcome landed.
        place_with_room rules pair ready hash_of (omega (arith, ap growth_left_of states, some)) outcome landed) w absent

    pub deleted_adds : AcceptsNew rules offers names i v (contents old) pair → lookup_entry (names i) old.pairs ≡ None
        → HasPairsButNoGrowth old → FirstFreeIs deleted (hash_of old.hasher pair.0) old.table.states
        → Insert rules offers names hash_of i v old result new → IsAdded rules offers names i v pair old result new
    deleted_adds w absent full first = added_if_fits (λ ready same states outcome landed p.
        let no_growth_left : growth_left ready ≡ 0 = ap growth_left_of states ∙ full.1 in
        let is = deleted_serves rules hash_of pair ready (omega (arith, ap length same.0, full.0)) no_growth_left
        (rw (same.1, states) first) outcome landed p in (
          is.0,
          is.1,
          omega (arith, no_growth_left),
        )) w absent

module _ {K V S H I : Type 0} (rules : Rules K V S) (offers : Offers K V S I) (names : I → K → Bool) (i : I) (v : V)
    (pair : K × V) (old : State K V S H) (result : Result Bool AllocError) (new : State K V S H) where
  pub passes_nothing : {hash_of : H → K → ℕ} (passed : List (K × V))
      → AcceptsNew rules offers names i v (contents old) pair
      → lookup_entry (names i) old.pairs ≡ None → 0 < growth_left old
      → InsertPasses rules offers names hash_of i v old result passed new → passed ≡ []
  passes_nothing {hash_of} passed w absent some step =
      (is_added (noting rules) (noting_offers offers) names i v pair (noted [] old) result (noted passed new) hash_of
      (record { finds = w.finds; gives = λ s given n. w.gives s.0 given n.0 }) absent some step).limiter.1
