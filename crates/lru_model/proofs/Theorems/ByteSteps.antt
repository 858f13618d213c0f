use Rattle.std.proofs.Common.{◌≡◌, ℕ, ◌+◌, ◌-◌, ◌≤◌, ◌⊎◌, inl, inr, Bool, true, false, List, length}
use Rattle.std.proofs.Common.{Some, None, Result, if◌then◌else◌, refl, sym, ap, ◌∙◌, subst, arith}
use Rattle.std.proofs.lemmas.Bool.Decides.{nat_tests}
use Rattle.std.proofs.lemmas.Bool.{true≢false}
use Rattle.std.proofs.lemmas.List.{length-replicate}
use Rattle.std.specs.declared.alloc.AllocError.{AllocError}
use Rattle.group_table.specs.Bucket.{BucketState, empty}
use Rattle.group_table.specs.Sizes.{IsBucketCount}
use Rattle.lru_limits.specs.Rules.{Offers}
use Rattle.lru_limits.specs.Stores.{ReturnsPairIf, given-adds}
use Rattle.lru_limits.specs.Bytes.{Bytes, bytes_offers, bytes_terms, bytes-sums}
use Rattle.lru_model.specs.Theorems.{CountsBytes, KeepsBytes, TakesAtMost, UsesAtMost, IsSummed}
use Rattle.lru_model.specs.Calls.{cleared}
use Rattle.lru_model.specs.Drains.{pops_first}
use Rattle.lru_model.specs.Inserts.{Insert, replaced, not_replaced, no_memory_to_admit, not_admitted, admitted, Settles}
use Rattle.lru_model.specs.Lists.{first, last, lookup_entry}
use Rattle.lru_model.specs.Place.{Outcome, placed, refused, no_memory}
use Rattle.lru_model.specs.Reservations.{Reserve, unchanged, rehashed, reserved, asked_only}
use Rattle.lru_model.specs.Runs.{Step, inserts, updates, gets, demotes, removes, pops_oldest}
use Rattle.lru_model.specs.Runs.{pops_newest, drains, clears, reserves, shrinks, trims, retains}
use Rattle.lru_model.specs.Runs.{StepOrKeptWrite, Run, ends, goes_on}
use Rattle.lru_model.specs.Sizes.{usage}
use Rattle.lru_model.specs.State.{State, Contents, contents, buckets, IsSized, IsWithin, Leaves, Trims, trim, empty_map}
use Rattle.lru_model.specs.Shrinks.{Shrink}
use Rattle.lru_model.specs.TryInserts.{TryInsert, there, cannot_store, unready, inserted as tried, IsReady, IsUnready}
use Rattle.lru_model.specs.TryInserts.{has_growth, reserved as got_growth, not_reserved, cannot_store_then}
use Rattle.lru_model.specs.Updates.{Update, updated, rejected, not_there}
use Rattle.lru_model.specs.declared.results.ReserveError.{ReserveError}
use Rattle.lru_model.specs.declared.results.Updated.{Updated}
use Rattle.lru_model.proofs.TableSizes.Growth.{target_usage}
use Rattle.lru_model.proofs.Theorems.ByteLimits.{Frees, frees_self, frees_trans, grows, rules, owned_by, Counts, Calm}
use Rattle.lru_model.proofs.Theorems.ByteLimits.{Within, Lands, notified_frees, pops_free, trim_frees}
use Rattle.lru_model.proofs.Theorems.ByteLimits.{make_room_frees, pops_first_free, retained_frees, counts_from}
use Rattle.lru_model.proofs.Theorems.ByteLimits.{calm_counts, calm_within, calm_trans, leaves_calm, set_calm, self_calm}
use Rattle.lru_model.proofs.Theorems.ByteLimits.{same_counts, asked_counts, asked_within, granted_counts, place_lands}
use Rattle.lru_model.proofs.Theorems.InsertAnswers.{trim_ends}
use Rattle.lru_model.proofs.Theorems.Moves.{left_are}
use Rattle.lru_model.proofs.Theorems.Runs.{step_summed, kept_summed}
use Rattle.lru_model.proofs.Theorems.Shrinks.{shrunk_list, shrink_uses}
use Rattle.lru_model.proofs.Theorems.Sums.{total, total-is}

either_stays : (accepts : Bool) (b : Bytes) (n : ℕ) → (let c : Bytes = if accepts then record b { owned = n } else b in
    (c.limit ≡ b.limit) × (c.table ≡ b.table))
either_stays true b n = (refl, refl)
either_stays false b n = (refl, refl)

rejected_frees : (accepts : Bool) (b c : Bytes) → accepts ≡ false → Frees b (if accepts then c else b)
rejected_frees true b c e = absurd (true≢false e)
rejected_frees false b c e = frees_self b

not_given_frees : {K V : Type 0} (accepts : Bool) (b c : Bytes) (k : K) (v : V) (t : Bytes)
    → ReturnsPairIf accepts (if accepts then c else b) k v t None → Frees b t
not_given_frees true b c k v t h = let e = h.pair in absurd cc
not_given_frees false b c k v t h = subst (Frees b) (sym h.limiter) (frees_self b)

module _ {K V : Type 0} (bytes_of : K → V → ℕ) where
  abbrev offers : Offers K V Bytes K
  offers = bytes_offers bytes_of

  abbrev owned_of : K × V → ℕ
  owned_of pair = bytes_of pair.0 pair.1

module _ {K V H : Type 0} (bytes_of : K → V → ℕ) (most : ℕ) where
  abbrev Ends : State K V Bytes H → Type 0
  Ends new = Counts bytes_of most new × (Within bytes_of most 0 new ⊎ IsWithin (rules bytes_of) (contents new))

  calm_ends : (old new : State K V Bytes H) → Calm bytes_of most old new → Counts bytes_of most old
      → Within bytes_of most 0 old → Ends new
  calm_ends old new c k w = (calm_counts bytes_of most old new c k, inl (calm_within bytes_of most 0 old new c w))

  trimmed_ends : (old : State K V Bytes H) (left : Contents K V Bytes) (new : State K V Bytes H)
      → Leaves old (trim (rules bytes_of) left) new → (left.limiter.limit ≡ old.limiter.limit)
      × (left.limiter.table ≡ old.limiter.table) → Counts bytes_of most old → Ends new
  trimmed_ends old left new l same k =
      let f = trim_frees bytes_of left in
      let is = ap (λ st. st.limiter) l.is in (
        counts_from bytes_of most old new (ap (λ st. st.entry_bytes) l.is) l.growth_left.table
            (ap (λ b. b.limit) is ∙ f.limit ∙ same.0) (ap (λ b. b.table) is ∙ f.table ∙ same.1) k,
        inr (subst (IsWithin (rules bytes_of)) (sym (left_are old _ new l)) (trim_ends (rules bytes_of) left)),
      )

  module _ (old new : State K V Bytes H)
      (b : IsBucketCount (buckets old)) (k : Counts bytes_of most old) (w : Within bytes_of most 0 old) where
    quiet : Calm bytes_of most old new → Ends new
    quiet c = calm_ends old new c k w

    removed_calm : (pair : K × V) (value : V) (left : Contents K V Bytes)
        → left.limiter ≡ (let r = (offers bytes_of).on_replace old.limiter (length old.pairs) pair.0 pair.0 pair.1 value in
        ((rules bytes_of).on_removed r.limiter r.key r.old_value).limiter)
        → (bytes_terms bytes_of).accepts_in_place old.limiter (length old.pairs) pair.0 pair.1 value ≡ false
        → Leaves old left new → Ends new
    removed_calm pair value left is refuses l =
        let r = (offers bytes_of).on_replace old.limiter (length old.pairs) pair.0 pair.0 pair.1 value in
        quiet (leaves_calm bytes_of most old left new l (subst (Frees old.limiter) (sym is)
        (frees_trans old.limiter r.limiter _
        (rejected_frees
        ((bytes_terms bytes_of).accepts_in_place old.limiter (length old.pairs) pair.0 pair.1 value)
        old.limiter _ refuses)
        (notified_frees bytes_of (Some (r.key, r.old_value)) r.limiter))))

    settled : (pair : K × V) (outcome : Outcome) (landed : State K V Bytes H) (result : Result Bool AllocError)
        → Lands bytes_of most outcome landed → Settles (rules bytes_of) outcome landed result new → Ends new
    settled pair placed landed result (counts, either) h =
        trimmed_ends landed (contents landed) new h.1 (refl, refl) counts
    settled pair refused landed result (counts, either) h = rw h.1 (counts, inl (within either))
      where
        within : (refused ≡ placed) ⊎ Within bytes_of most 0 landed → Within bytes_of most 0 landed
        within (inl e) = absurd cc
        within (inr f) = f
    settled pair no_memory landed result (counts, either) h = rw h.1 (counts, inl (within either))
      where
        within : (no_memory ≡ placed) ⊎ Within bytes_of most 0 landed → Within bytes_of most 0 landed
        within (inl e) = absurd cc
        within (inr f) = f

    insert_ends : {names : K → K → Bool} {hash_of : H → K → ℕ} (i : K) (v : V) (result : Result Bool AllocError)
        → Insert (rules bytes_of) (offers bytes_of) names hash_of i v old result new → Ends new
    insert_ends i v result (replaced pair found y r l) = trimmed_ends old _ new l
        (either_stays ((bytes_terms bytes_of).accepts_in_place old.limiter (length old.pairs) pair.0 pair.1 v)
        old.limiter _) k
    insert_ends i v result (not_replaced pair found y r l) = removed_calm pair v _ refl y l
    insert_ends i v result (no_memory_to_admit a out r e) = absurd out
    insert_ends i v result (not_admitted a s n r e) = rw e (calm_ends old _ (set_calm bytes_of most old s
        (not_given_frees ((bytes_terms bytes_of).accepts old.limiter (length old.pairs) i v) old.limiter _ i v s n)) k w)
    insert_ends {names} {hash_of} i v result (admitted a s pair n (ready, l, (outcome, landed, p, t))) =
        settled pair outcome landed result (place_lands bytes_of most pair hash_of outcome ready landed
        (rw way.table b) (calm_counts bytes_of most mid ready way counted)
        (calm_within bytes_of most (owned_by bytes_of pair) mid ready way more) p) t
      where
        accepts : Bool
        accepts = (bytes_terms bytes_of).accepts old.limiter (length old.pairs) i v

        mid : State K V Bytes H
        mid = record old { limiter = s }

        stays : (s.limit ≡ old.limiter.limit) × (s.table ≡ old.limiter.table)
        stays = subst (λ c. (c.limit ≡ old.limiter.limit) × (c.table ≡ old.limiter.table)) (sym n.limiter)
            (either_stays accepts old.limiter _)

        counted : Counts bytes_of most mid
        counted = counts_from bytes_of most old mid refl refl stays.0 stays.1 k

        more : Within bytes_of most (owned_by bytes_of pair) mid
        more = omega (
          arith,
          w,
          stays.1,
          given-adds bytes_of (λ c. c.owned) accepts old.limiter
              (record old.limiter { owned = old.limiter.owned + bytes_of i v }) i v s pair.0 pair.1 refl n,
        )

        way : Calm bytes_of most mid ready
        way = leaves_calm bytes_of most mid _ ready l (make_room_frees bytes_of (contents mid))

    update_ends : {names : K → K → Bool} (i : K) (v : V) (result : Updated V) → Update (rules bytes_of) (offers bytes_of) names i v old result new → Ends new
    update_ends i v result (updated pair found y r l) = trimmed_ends old _ new l
        (either_stays ((bytes_terms bytes_of).accepts_in_place old.limiter (length old.pairs) pair.0 pair.1 v)
        old.limiter _) k
    update_ends i v result (rejected pair found y r l) = removed_calm pair v _ refl y l
    update_ends i v result (not_there a r e) = rw e (calm_ends old _ (self_calm bytes_of most old) k w)

    reserve_ends : (n : ℕ) (result : Result (Unit {0}) ReserveError) → Reserve (rules bytes_of) n old result new → Ends new
    reserve_ends n result (unchanged why e) = rw e (calm_ends old _ (self_calm bytes_of most old) k w)
    reserve_ends n result (rehashed l t r m) = (
      same_counts bytes_of most old new (ap (λ st. st.entry_bytes) m.state) m.table (ap (λ st. st.limiter) m.state) k,
      inl (omega (arith, w, ap (λ st. st.limiter.owned) m.state, ap (λ st. st.limiter.table) m.state)),
    )
    reserve_ends n result (reserved l count bytes t g r m) =
        let is = target_usage old.max old.entry_bytes (buckets old) (length old.pairs + n) count bytes t in
        let less = asked_within bytes_of most old count bytes is k 0 w in (
          granted_counts bytes_of most old count bytes is k g new (ap (λ st. st.entry_bytes) m.state) m.table
              (ap (λ st. st.limiter) m.state),
          inl (omega (arith, less, ap (λ st. st.limiter.owned) m.state, ap (λ st. st.limiter.table) m.state)),
        )
    reserve_ends n result (asked_only l count bytes t f e) =
        let is = target_usage old.max old.entry_bytes (buckets old) (length old.pairs + n) count bytes t in
        rw e (
          asked_counts bytes_of most old count bytes is k
              (grows (buckets old) old.max old.entry_bytes (length old.pairs + n) count bytes b t),
          inl (asked_within bytes_of most old count bytes is k 0 w),
        )

    shrink_ends : (result : Result Bool AllocError) → Shrink old result new → Ends new
    shrink_ends result h = let same : new.limiter ≡ old.limiter = (shrunk_list old result new h).1 in (
      record {
        limit = ap (λ c. c.limit) same ∙ k.limit;
        table = shrink_uses old result new _ h (subst (λ n. UsesAtMost n old) (ap (λ c. c.table) (sym same)) k.table);
        fits = omega (arith, ap (λ c. c.table) same, k.fits);
      },
      inl (omega (arith, w, ap (λ c. c.owned) same, ap (λ c. c.table) same)),
    )

    cleared_calm : (mid : State K V Bytes H) → Calm bytes_of most mid (cleared (rules bytes_of) mid)
    cleared_calm mid = record {
      entry_bytes = refl;
      table = length-replicate {A = BucketState} (buckets mid) empty;
      limiter = record { limit = refl; table = refl; owned = omega arith };
    }

    order_calm : (pairs : List (K × V)) (places : List ℕ)
        → Calm bytes_of most old (record old { pairs = pairs; table = record old.table { places = places } })
    order_calm pairs places = record { entry_bytes = refl; table = refl; limiter = frees_self old.limiter }

    left_ends : (left : Contents K V Bytes) → Leaves old left new → Frees old.limiter left.limiter → Ends new
    left_ends left l f = quiet (leaves_calm bytes_of most old left new l f)

    step_ends : {names : K → K → Bool} {hash_of : H → K → ℕ} → Step (rules bytes_of) (offers bytes_of) names hash_of old new → Ends new
    step_ends (inserts i v result h) = insert_ends i v result h
    step_ends (updates i v result h) = update_ends i v result h
    step_ends (gets test e) = quiet (rw e (order_calm _ _))
    step_ends (demotes test e) = quiet (rw e (order_calm _ _))
    step_ends (removes test result h) =
        left_ends _ h.state (notified_frees bytes_of (lookup_entry test old.pairs) old.limiter)
    step_ends (pops_oldest result h) = left_ends _ h.state (notified_frees bytes_of (last old.pairs) old.limiter)
    step_ends (pops_newest result h) = left_ends _ h.state (notified_frees bytes_of (first old.pairs) old.limiter)
    step_ends (drains newest oldest result h) =
        let (mid, l, e) = h.state in
        let popped = pops_first (rules bytes_of) newest (contents old) in
        quiet (rw e (calm_trans bytes_of most old mid _
        (leaves_calm bytes_of most old _ mid l
        (frees_trans old.limiter popped.limiter _ (pops_first_free bytes_of newest (contents old))
        (pops_free bytes_of oldest popped)))
        (cleared_calm mid)))
    step_ends (clears e) = quiet (rw e (cleared_calm old))
    step_ends (reserves n result h) = reserve_ends n result h
    step_ends (shrinks result h) = shrink_ends result h
    step_ends (trims h) = left_ends _ h (trim_frees bytes_of (contents old))
    step_ends (retains answers each h) = left_ends _ h (retained_frees bytes_of answers old.limiter)

module _ {K V H : Type 0} (bytes_of : K → V → ℕ) where
  kept_at_end : (most : ℕ) (new : State K V Bytes H) → Ends bytes_of most new → IsSummed bytes_of (λ b. b.owned) new
      → KeepsBytes bytes_of new
  kept_at_end most new (k, end) is = record { counts = record { table = k.table; owned = is }; within = go end }
    where
      go : Within bytes_of most 0 new ⊎ IsWithin (rules bytes_of) (contents new)
          → new.limiter.owned + new.limiter.table ≤ new.limiter.limit
      go (inl w) = omega (arith, w, k.limit)
      go (inr (inl none)) =
          omega (arith, k.limit, k.fits, is, ap (total (owned_of bytes_of)) none, total-is (owned_of bytes_of) new.pairs)
      go (inr (inr e)) =
          let few : new.limiter.owned ≤ new.limiter.limit - new.limiter.table = grind (arith, nat_tests) in
          omega (arith, few, k.limit, k.fits)

  counted : (st : State K V Bytes H) → CountsBytes bytes_of st → st.limiter.table ≤ st.limiter.limit
      → Counts bytes_of st.limiter.limit st
  counted st k fits = record { limit = refl; table = k.table; fits = fits }

  module _ (names : K → K → Bool) (hash_of : H → K → ℕ) where
    pub step_keeps_bytes : (old new : State K V Bytes H) → IsSized old
        → Step (rules bytes_of) (bytes_offers bytes_of) names hash_of old new → KeepsBytes bytes_of old
        → (new.limiter.limit ≡ old.limiter.limit) × KeepsBytes bytes_of new
    step_keeps_bytes old new sized s k =
        let most = old.limiter.limit in
        let end = step_ends bytes_of most old new sized.table.count (counted old k.counts (omega (arith, k.within)))
        (omega (arith, k.within)) s in
        (end.0.limit, kept_at_end most new end (step_summed (bytes-sums bytes_of) old new s k.counts.owned))

    pub kept_keeps_bytes : (old new : State K V Bytes H) → IsSized old
        → StepOrKeptWrite (rules bytes_of) (bytes_offers bytes_of) names hash_of bytes_of old new
        → KeepsBytes bytes_of old → (new.limiter.limit ≡ old.limiter.limit) × KeepsBytes bytes_of new
    kept_keeps_bytes old new sized (inl s) k = step_keeps_bytes old new sized s k
    kept_keeps_bytes old new sized (inr (test, value, same, e)) k =
        let limiter : new.limiter ≡ old.limiter = ap (λ st. st.limiter) e in (
          ap (λ b. b.limit) limiter,
          record {
            counts = record {
              table = subst (λ st. UsesAtMost st.limiter.table st) (sym e) k.counts.table;
              owned = kept_summed {names = names} {hash_of = hash_of} (bytes-sums bytes_of) old new
                  (inr (test, value, same, e)) k.counts.owned;
            };
            within = rw limiter k.within;
          },
        )

    pub run_keeps_bytes : (new old : State K V Bytes H) → IsSized old
        → Run (StepOrKeptWrite (rules bytes_of) (bytes_offers bytes_of) names hash_of bytes_of) new old
        → KeepsBytes bytes_of old → (new.limiter.limit ≡ old.limiter.limit) × KeepsBytes bytes_of new
    run_keeps_bytes new old sized ends k = (refl, k)
    run_keeps_bytes new old sized (goes_on mid s next r) k =
        let step = kept_keeps_bytes old mid sized s k in
        let rest = run_keeps_bytes new mid next r step.1 in (rest.0 ∙ step.0, rest.1)

    pub try_keeps_bytes : (key : K) (value : V) (old : State K V Bytes H) (result : Result (Unit {0}) (K × V))
        (new : State K V Bytes H) → IsSized old → TryInsert (bytes_terms bytes_of) (rules bytes_of) key value old
        names hash_of result new → KeepsBytes bytes_of old → KeepsBytes bytes_of new
    try_keeps_bytes key value old result new sized (there pair found r e) k = rw e k
    try_keeps_bytes key value old result new sized (cannot_store absent full r e) k = rw e k
    try_keeps_bytes key value old result new sized (unready absent may u r) k = go u
      where
        go : IsUnready (bytes_terms bytes_of) (rules bytes_of) key value old new → KeepsBytes bytes_of new
        go (not_reserved none error h) = (step_keeps_bytes old new sized (reserves 1 _ h) k).1
        go (cannot_store_then none h full) = (step_keeps_bytes old new sized (reserves 1 _ h) k).1
    try_keeps_bytes key value old result new sized (tried absent may ready is may_still r h) k = go is
      where
        stored : IsSized ready → KeepsBytes bytes_of ready → KeepsBytes bytes_of new
        stored ok kept = (step_keeps_bytes ready new ok (inserts key value _ h) kept).1

        go : IsReady (rules bytes_of) old ready → KeepsBytes bytes_of new
        go (has_growth some e) = stored (subst IsSized (sym e) sized) (subst (KeepsBytes bytes_of) (sym e) k)
        go (got_growth none h ok) = stored ok (step_keeps_bytes old ready sized (reserves 1 _ h) k).1

  pub grown_fits : (st : State K V Bytes H) (bytes : ℕ) → ((rules bytes_of).on_grow st.limiter bytes).allowed ≡ true
      → st.limiter.owned + bytes ≤ st.limiter.limit
  grown_fits st bytes e = grind (arith, nat_tests)

  pub trim_keeps_bytes : (old new : State K V Bytes H) → CountsBytes bytes_of old
      → old.limiter.table ≤ old.limiter.limit → Trims (rules bytes_of) old new → KeepsBytes bytes_of new
  trim_keeps_bytes old new k fits h =
      let end = trimmed_ends bytes_of old.limiter.limit old (contents old) new h (refl, refl) (counted old k fits) in
      kept_at_end old.limiter.limit new end (step_summed {names = λ i key. false} {hash_of = λ hasher key. 0}
      (bytes-sums bytes_of) old new (trims h) k.owned)

  pub kept_takes : (st : State K V Bytes H) → KeepsBytes bytes_of st → TakesAtMost bytes_of st.limiter.limit st
  kept_takes st k = let (bytes, is, few) = k.counts.table in
      (bytes, is, omega (arith, few, k.counts.owned, k.within))

  pub empty_keeps_bytes : (limit : ℕ) (hasher : H) (entry_bytes max : ℕ) → KeepsBytes bytes_of
      (empty_map {K = K} {V = V} (record { limit = limit; owned = 0; table = 0 }) hasher entry_bytes max)
  unfolding usage
  empty_keeps_bytes limit hasher entry_bytes max = record {
    counts = record { table = (0, refl, omega arith); owned = refl };
    within = omega arith;
  }
