-- The limit of `ByBytes`, after evictions and after an insertion into the table.
use Rattle.std.proofs.Common.{◌≡◌, ℕ, zero, suc, ◌+◌, ◌≤◌, ◌⊎◌, inl, inr, Bool, true, false, cond, List, [], ◌∷◌}
use Rattle.std.proofs.Common.{length, Option, Some, None, if◌then◌else◌, refl, sym, ap, ◌∙◌, subst, arith}
use Rattle.std.proofs.lemmas.Bool.Decides.{nat_tests}
use Rattle.std.proofs.lemmas.Bool.{true≢false}
use Rattle.std.specs.Prelude.{nat_le}
use Rattle.group_table.specs.Sizes.{IsBucketCount}
use Rattle.lru_limits.specs.Rules.{Rules}
use Rattle.lru_limits.specs.Bytes.{Bytes, by_bytes}
use Rattle.lru_model.specs.Sizes.{usage, target, new_table}
use Rattle.lru_model.specs.Lists.{first, last}
use Rattle.lru_model.specs.State.{State, Contents, contents, buckets, Leaves, notified_of, pop, pops}
use Rattle.lru_model.specs.State.{trim, trim_from}
use Rattle.lru_model.specs.Place.{Place, in_bucket, rehashed, grown, not_grown, Outcome, placed, refused, no_memory}
use Rattle.lru_model.specs.Place.{nothing_to_evict, finds_bucket, rehashes, Evicts, OldestEvicted}
use Rattle.lru_model.specs.Place.{IsPlacedIfMemory, CannotGrow, no_target, denied, asked, unstored, Grants, Denies}
use Rattle.lru_model.specs.Calls.{pop_first}
use Rattle.lru_model.specs.Drains.{pops_first}
use Rattle.lru_model.specs.Inserts.{make_room}
use Rattle.lru_model.specs.Retains.{retained}
use Rattle.lru_model.specs.Theorems.{UsesAtMost}
use Rattle.lru_model.proofs.TableSizes.Budgets.{usage_fewer}
use Rattle.lru_model.proofs.TableSizes.Growth.{target_doubles, target_usage}

-- c is b, perhaps after removals of pairs
pub record Frees (b c : Bytes) : Type 0 where
  pub limit : c.limit ≡ b.limit
  pub table : c.table ≡ b.table
  pub owned : c.owned ≤ b.owned

pub frees_self : (b : Bytes) → Frees b b
frees_self b = record { limit = refl; table = refl; owned = omega arith }

pub frees_trans : (b c d : Bytes) → Frees b c → Frees c d → Frees b d
frees_trans b c d p q = record {
  limit = q.limit ∙ p.limit;
  table = q.table ∙ p.table;
  owned = omega (arith, p.owned, q.owned);
}

pub grows : (b max e c n bytes : ℕ) → IsBucketCount b → target max e b c ≡ new_table n bytes → b ≤ n
grows b max e c n bytes (inl none) t = omega (arith, none)
grows b max e c n bytes (inr power) t = omega (arith, target_doubles power.0 max e b c n bytes power.1 t)

module _ {K V : Type 0} (bytes_of : K → V → ℕ) where
  abbrev pub rules : Rules K V Bytes
  rules = by_bytes bytes_of

  abbrev pub owned_by : K × V → ℕ
  owned_by pair = bytes_of pair.0 pair.1

  pub notified_frees : (gone : Option (K × V)) (b : Bytes) → Frees b (notified_of rules gone b)
  notified_frees None b = frees_self b
  notified_frees (Some pair) b = record { limit = refl; table = refl; owned = omega arith }

  pub pop_frees : (c : Contents K V Bytes) → Frees c.limiter (pop rules c).limiter
  pop_frees c = notified_frees (last c.pairs) c.limiter

  pub pops_free : (n : ℕ) (c : Contents K V Bytes) → Frees c.limiter (pops rules n c).limiter
  pops_free zero c = frees_self c.limiter
  pops_free (suc n) c = frees_trans c.limiter (pop rules c).limiter _ (pop_frees c) (pops_free n (pop rules c))

  trim_from_frees : (n : ℕ) (c : Contents K V Bytes) → Frees c.limiter (trim_from rules n c).limiter
  trim_from_frees zero c = frees_self c.limiter
  trim_from_frees (suc n) c = go (rules.is_over_the_limit c.limiter (suc n))
      (frees_trans c.limiter (pop rules c).limiter _ (pop_frees c) (trim_from_frees n (pop rules c)))
    where
      go : (b : Bool) → Frees c.limiter (trim_from rules n (pop rules c)).limiter
          → Frees c.limiter (cond b (trim_from rules n (pop rules c)) c).limiter
      go true p = p
      go false p = frees_self c.limiter

  pub trim_frees : (c : Contents K V Bytes) → Frees c.limiter (trim rules c).limiter
  unfolding trim
  trim_frees c = trim_from_frees (length c.pairs) c

  pub make_room_frees : (c : Contents K V Bytes) → Frees c.limiter (make_room rules c).limiter
  make_room_frees c = go (rules.is_over_the_limit c.limiter (length c.pairs + 1))
    where
      go : (b : Bool) → Frees c.limiter (cond b (pop rules c) c).limiter
      go true = pop_frees c
      go false = frees_self c.limiter

  pub pops_first_free : (n : ℕ) (c : Contents K V Bytes) → Frees c.limiter (pops_first rules n c).limiter
  pops_first_free zero c = frees_self c.limiter
  pops_first_free (suc n) c = frees_trans c.limiter (pop_first rules c).limiter _
      (notified_frees (first c.pairs) c.limiter) (pops_first_free n (pop_first rules c))

  pub retained_frees : (answers : List ((K × V) × Bool)) (b : Bytes) → Frees b (retained rules answers b).limiter
  retained_frees [] b = frees_self b
  retained_frees ((pair, true) ∷ older) b = retained_frees older b
  retained_frees ((pair, false) ∷ older) b = frees_trans b (retained rules older b).limiter _ (retained_frees older b)
      (notified_frees (Some pair) (retained rules older b).limiter)

  module _ {H : Type 0} (most : ℕ) where
    -- The limit is `most`. The limiter counts a table that is within the limit, and at least as large as the table of
    -- the map.
    pub record Counts (st : State K V Bytes H) : Type 0 where
      pub limit : st.limiter.limit ≡ most
      pub table : UsesAtMost st.limiter.table st
      pub fits : st.limiter.table ≤ most

    -- pairs may have been removed, and the table has the same size
    pub record Calm (old new : State K V Bytes H) : Type 0 where
      pub entry_bytes : new.entry_bytes ≡ old.entry_bytes
      pub table : buckets new ≡ buckets old
      pub limiter : Frees old.limiter new.limiter

    abbrev pub Within : ℕ → State K V Bytes H → Type 0
    Within more st = st.limiter.owned + st.limiter.table ≤ most + more

    uses : (old new : State K V Bytes H) (n m : ℕ) → new.entry_bytes ≡ old.entry_bytes → buckets new ≡ buckets old
        → m ≡ n → UsesAtMost n old → UsesAtMost m new
    uses old new n m e b same (bytes, is, few) = (bytes, rw (e, b) is, omega (arith, same, few))

    pub counts_from : (old new : State K V Bytes H) → new.entry_bytes ≡ old.entry_bytes → buckets new ≡ buckets old
        → new.limiter.limit ≡ old.limiter.limit → new.limiter.table ≡ old.limiter.table → Counts old → Counts new
    counts_from old new e b limit table k = record {
      limit = limit ∙ k.limit;
      table = uses old new _ _ e b table k.table;
      fits = omega (arith, table, k.fits);
    }

    pub calm_counts : (old new : State K V Bytes H) → Calm old new → Counts old → Counts new
    calm_counts old new c = counts_from old new c.entry_bytes c.table c.limiter.limit c.limiter.table

    pub calm_within : (more : ℕ) (old new : State K V Bytes H) → Calm old new → Within more old → Within more new
    calm_within more old new c w = omega (arith, c.limiter.table, c.limiter.owned, w)

    pub calm_trans : (old mid new : State K V Bytes H) → Calm old mid → Calm mid new → Calm old new
    calm_trans old mid new c d = record {
      entry_bytes = d.entry_bytes ∙ c.entry_bytes;
      table = d.table ∙ c.table;
      limiter = frees_trans _ _ _ c.limiter d.limiter;
    }

    pub leaves_calm : (old : State K V Bytes H) (left : Contents K V Bytes) (new : State K V Bytes H) → Leaves old left new
        → Frees old.limiter left.limiter → Calm old new
    leaves_calm old left new l f = record {
      entry_bytes = ap (λ st. st.entry_bytes) l.is;
      table = l.growth_left.table;
      limiter = subst (Frees old.limiter) (sym (ap (λ st. st.limiter) l.is)) f;
    }

    pub set_calm : (st : State K V Bytes H) (b : Bytes) → Frees st.limiter b → Calm st (record st { limiter = b })
    set_calm st b f = record { entry_bytes = refl; table = refl; limiter = f }

    pub self_calm : (st : State K V Bytes H) → Calm st st
    self_calm st = set_calm st st.limiter (frees_self st.limiter)

    pub same_counts : (old new : State K V Bytes H) → new.entry_bytes ≡ old.entry_bytes → buckets new ≡ buckets old
        → new.limiter ≡ old.limiter → Counts old → Counts new
    same_counts old new e b same = calm_counts old new (record {
      entry_bytes = e;
      table = b;
      limiter = subst (Frees old.limiter) (sym same) (frees_self old.limiter);
    })

    module _ (st : State K V Bytes H) (count bytes : ℕ) (is : usage st.entry_bytes count ≡ Some bytes)
        (k : Counts st) where
      abbrev after : Bool → Bytes
      after fits = if fits then record st.limiter { table = bytes } else st.limiter

      within_limit : nat_le (st.limiter.owned + bytes) st.limiter.limit ≡ true → st.limiter.owned + bytes ≤ most
      within_limit e =
          let all : st.limiter.owned + bytes ≤ st.limiter.limit = grind (arith, nat_tests) in omega (arith, all, k.limit)

      pub asked_counts : buckets st ≤ count → Counts (asked rules bytes st)
      asked_counts larger = go (nat_le (st.limiter.owned + bytes) st.limiter.limit) refl
        where
          go : (fits : Bool) → nat_le (st.limiter.owned + bytes) st.limiter.limit ≡ fits
              → Counts (record st { limiter = after fits })
          go true e = record {
            limit = k.limit;
            table = usage_fewer st.entry_bytes (buckets st) count bytes larger is;
            fits = omega (arith, within_limit e);
          }
          go false e = k

      pub asked_within : (more : ℕ) → Within more st → Within more (asked rules bytes st)
      asked_within more w = go (nat_le (st.limiter.owned + bytes) st.limiter.limit) refl
        where
          go : (fits : Bool) → nat_le (st.limiter.owned + bytes) st.limiter.limit ≡ fits
              → Within more (record st { limiter = after fits })
          go true e = omega (arith, within_limit e)
          go false e = w

      pub granted_counts : Grants rules bytes st → (new : State K V Bytes H) → new.entry_bytes ≡ st.entry_bytes
          → buckets new ≡ count → new.limiter ≡ (asked rules bytes st).limiter → Counts new
      granted_counts g new e b same = record {
        limit = ap (λ l. l.limit) granted ∙ k.limit;
        table = (bytes, rw (e, b) is, omega (arith, ap (λ l. l.table) granted));
        fits = omega (arith, ap (λ l. l.table) granted, within_limit g);
      }
        where
          granted : new.limiter ≡ record st.limiter { table = bytes }
          granted = same ∙ ap after g

    denied_calm : (st : State K V Bytes H) (bytes : ℕ) → Denies rules bytes st → Calm st (asked rules bytes st)
    denied_calm st bytes d = set_calm st _ (go (nat_le (st.limiter.owned + bytes) st.limiter.limit) d)
      where
        go : (fits : Bool) → fits ≡ false
            → Frees st.limiter (if fits then record st.limiter { table = bytes } else st.limiter)
        go true e = absurd (true≢false e)
        go false e = frees_self st.limiter

    cannot_calm : (old mid : State K V Bytes H) → CannotGrow rules old mid → Calm old mid
    cannot_calm old mid (no_target t e) = rw e (self_calm old)
    cannot_calm old mid (denied count bytes t d e) = rw e (denied_calm old bytes d)

    evicted_calm : (hash n : ℕ) (old new : State K V Bytes H) → OldestEvicted rules hash n old new → Calm old new
    evicted_calm hash zero old new e = rw e (self_calm old)
    evicted_calm hash (suc n) old new (before, more, none, l) = calm_trans old before new
        (evicted_calm hash n old before more) (leaves_calm before _ new l (pop_frees (contents before)))

    abbrev pub Lands : Outcome → State K V Bytes H → Type 0
    Lands outcome new = Counts new × ((outcome ≡ placed) ⊎ Within 0 new)

    module _ (pair : K × V) where
      not_stored : (st : State K V Bytes H) → Counts st → Within (owned_by pair) st → (outcome : Outcome)
          → Lands outcome (unstored rules pair st)
      not_stored st k w outcome = (
        calm_counts st _ (set_calm st _ (notified_frees (Some pair) st.limiter)) k,
        inr (omega (arith, k.fits, w)),
      )

      if_memory : (mid : State K V Bytes H) (count spare moves : ℕ) (outcome : Outcome) (new : State K V Bytes H)
          → IsPlacedIfMemory rules pair count spare moves mid outcome new → Counts mid → Within (owned_by pair) mid
          → (new.entry_bytes ≡ mid.entry_bytes → buckets new ≡ count → new.limiter ≡ mid.limiter → Counts new)
          → Lands outcome new
      if_memory mid count spare moves placed new p k w moved =
          (moved (ap (λ st. st.entry_bytes) p.0.state) p.0.table (ap (λ st. st.limiter) p.0.state), inl refl)
      if_memory mid count spare moves no_memory new h k w moved = rw h (not_stored mid k w no_memory)
      if_memory mid count spare moves refused new h k w moved = absurd h

      pub place_lands : (hash_of : H → K → ℕ) (outcome : Outcome) (old new : State K V Bytes H) → IsBucketCount (buckets old)
          → Counts old → Within (owned_by pair) old → Place rules hash_of pair old outcome new → Lands outcome new
      place_lands hash_of outcome old new b k w (in_bucket l f s o p) = (
        same_counts old new (ap (λ st. st.entry_bytes) p.state) p.table (ap (λ st. st.limiter) p.state) k,
        inl o,
      )
      place_lands hash_of outcome old new b k w (rehashed n l some m) =
          if_memory old _ _ _ outcome new m k w (λ e t s. same_counts old new e t s k)
      place_lands hash_of outcome old new b k w (grown n count bytes t g m) =
          let is = target_usage old.max old.entry_bytes (buckets old) (length old.pairs + 1) count bytes t in
          let larger = grows (buckets old) old.max old.entry_bytes (length old.pairs + 1) count bytes b t in
          if_memory (asked rules bytes old) _ _ _ outcome new m (asked_counts old count bytes is k larger)
          (asked_within old count bytes is k (owned_by pair) w) (granted_counts old count bytes is k g new)
      place_lands hash_of outcome old new b k w (not_grown n mid c e) = go e
        where
          start : Calm old mid
          start = cannot_calm old mid c

          go : Evicts rules (hash_of old.hasher pair.0) pair old mid outcome new → Lands outcome new
          go (nothing_to_evict none o e) = rw e
              (not_stored mid (calm_counts old mid start k) (calm_within (owned_by pair) old mid start w) outcome)
          go (finds_bucket m some one half left evicted f o p) =
              let way = calm_trans old mid left start (evicted_calm _ m mid left evicted) in (
                same_counts left new (ap (λ st. st.entry_bytes) p.state) (p.table ∙ sym way.table)
                    (ap (λ st. st.limiter) p.state) (calm_counts old left way k),
                inl o,
              )
          go (rehashes some m more one half left evicted p) =
              let way = calm_trans old mid left start (evicted_calm _ m mid left evicted) in
              let kept = calm_counts old left way k in
              if_memory left _ _ _ outcome new p kept (calm_within (owned_by pair) old left way w)
              (λ e t s. same_counts left new e (t ∙ sym way.table) s kept)
