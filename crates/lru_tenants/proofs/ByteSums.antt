use Rattle.std.proofs.Common.{◌≡◌, ◌+◌, ◌-◌, ◌^◌, ◌≤◌, ◌<◌, ◌⊎◌, inl, ℕ, Bool, List, [], ◌∷◌, Option, Some, None, length, refl, sym}
use Rattle.std.proofs.Common.{ap, ◌∙◌, arith, sum_by, subst}
use Rattle.std.specs.List.{All}
use Rattle.std.specs.Map.{lookup, remove_entry, values_of}
use Rattle.std.specs.Option.{option_map, unwrap_or}
use Rattle.std.specs.Prelude.{IfSome}
use Rattle.std.proofs.lemmas.List.Elements.{All-head, All-tail}
use Rattle.std.proofs.lemmas.List.Sums.{sum_by-cons}
use Rattle.std.proofs.lemmas.Map.Views.{All-map-remove_entry, All-values-set_value}
use Rattle.group_table.specs.Bucket.{BucketState, entry_count}
use Rattle.lru_limits.specs.Bytes.{Bytes, both_own, in_word}
use Rattle.lru_model.specs.Theorems.{KeepsBytes}
use Rattle.lru_model.specs.Calls.{promoted, written}
use Rattle.lru_model.specs.Lists.{lookup_entry}
use Rattle.lru_model.specs.Runs.{Run, ends, goes_on}
use Rattle.lru_model.specs.Sizes.{usage}
use Rattle.lru_model.specs.State.{State, IsSized, buckets}
use Rattle.lru_model.proofs.CallerLemmas.{lookup-entry, promoted-summed, usage_bytes}
use Rattle.lru_model.proofs.Theorems.Sums.{sum-set}
use Rattle.lru_tenants.specs.Bytes.{limit_of, table_bytes, taken}
use Rattle.lru_tenants.specs.Inside.{HoldsBytes}

pub no_table : (entry_bytes : ℕ) → unwrap_or (usage entry_bytes 0) 0 ≡ 0
unfolding usage
no_table entry_bytes = refl

table-within : {K V H : Type 0} {bytes_of : K → V → ℕ} (st : State K V Bytes H) → KeepsBytes bytes_of st
    → table_bytes st ≤ st.limiter.table
table-within st k = omega (arith, ap (λ o. unwrap_or o 0) k.counts.table.1, k.counts.table.2)

has_table : {K V L H : Type 0} (st : State K V L H) (n : ℕ) → IsSized st → n < length st.pairs → 0 < table_bytes st
has_table st n sized more = omega (
  arith,
  ap (λ o. unwrap_or o 0) sized.usable.1,
  (usage_bytes st.entry_bytes (buckets st) sized.usable.0 some sized.usable.1).0,
)
  where
    full : (states : List BucketState) → entry_count states ≡ length st.pairs → 0 < length states
    full [] e = absurd (omega (arith, e, more))
    full (state ∷ states) e = omega arith

    some : 0 < buckets st
    some = full st.table.states sized.taken

pub promoted-keeps : {K V H : Type 0} {bytes_of : K → V → ℕ} (names : K → Bool) (st : State K V Bytes H)
    → KeepsBytes bytes_of st → KeepsBytes bytes_of (promoted names st)
promoted-keeps {bytes_of = bytes_of} names st k = record {
  counts = record {
    table = k.counts.table;
    owned = promoted-summed names st bytes_of (λ b. b.owned) k.counts.owned;
  };
  within = k.within;
}

-- steps that write no value
pub run-kept : {K V L H : Type 0} {IsStep IsWrite : State K V L H → State K V L H → Type 0} (new old : State K V L H)
    → Run IsStep new old → Run (λ a b. IsStep a b ⊎ IsWrite a b) new old
run-kept new old ends = ends
run-kept new old (goes_on mid step sized more) = goes_on mid (inl step) sized (run-kept new mid more)

module _ {N K V S : Type 0} (of_name : N → ℕ) (of_pair : K → V → ℕ) where
  abbrev counted : N × State K V Bytes S → ℕ
  counted t = both_own of_name limit_of t.0 t.1

  taken-counted : (ts : List (N × State K V Bytes S)) → All (KeepsBytes of_pair) (values_of ts)
      → sum_by counted ts < 2 ^ 64 - 1 → sum_by (taken of_name of_pair) ts ≤ sum_by counted ts
  taken-counted [] all small = omega arith
  taken-counted (t ∷ ts) all small =
      let k = All-head (KeepsBytes of_pair) t.1 (values_of ts) all in
      omega (
        arith,
        small,
        sum_by-cons counted t ts,
        sum_by-cons (taken of_name of_pair) t ts,
        k.within,
        k.counts.owned,
        table-within t.1 k,
        taken-counted ts (All-tail (KeepsBytes of_pair) t.1 (values_of ts) all)
            (omega (arith, small, sum_by-cons counted t ts)),
      )

  module _ (tenants : State N (State K V Bytes S) Bytes S) (holds : HoldsBytes of_name of_pair tenants) where
    pub is_within : IsSized tenants
        → table_bytes tenants + sum_by (taken of_name of_pair) tenants.pairs ≤ limit_of tenants
    is_within sized = go tenants.pairs refl
      where
        go : (ts : List (N × State K V Bytes S)) → tenants.pairs ≡ ts
            → table_bytes tenants + sum_by (taken of_name of_pair) ts ≤ limit_of tenants
        go [] e = omega (arith, table-within tenants holds.all, holds.all.within)
        go (t ∷ ts) e = omega (
          arith,
          table-within tenants holds.all,
          holds.all.within,
          holds.all.counts.owned,
          ap (sum_by counted) e,
          taken-counted (t ∷ ts) (subst (λ l. All (KeepsBytes of_pair) (values_of l)) e holds.each) (omega (
            arith,
            holds.small,
            holds.all.within,
            holds.all.counts.owned,
            ap (sum_by counted) e,
            table-within tenants holds.all,
            has_table tenants 0 sized (omega (arith, ap length e)),
          )),
        )

    pub holds-at : (pairs : List (N × State K V Bytes S)) (new : State N (State K V Bytes S) Bytes S)
        → new.pairs ≡ pairs → All (KeepsBytes of_pair) (values_of pairs) → limit_of new ≡ limit_of tenants
        → KeepsBytes (both_own of_name limit_of) new → HoldsBytes of_name of_pair new
    holds-at pairs new is each same keeps = record {
      each = subst (λ l. All (KeepsBytes of_pair) (values_of l)) (sym is) each;
      all = keeps;
      small = omega (arith, same, holds.small);
    }

    pub holds-removed : (names : N → Bool) (new : State N (State K V Bytes S) Bytes S)
        → new.pairs ≡ remove_entry names tenants.pairs → limit_of new ≡ limit_of tenants
        → KeepsBytes (both_own of_name limit_of) new → HoldsBytes of_name of_pair new
    holds-removed names new is = holds-at (remove_entry names tenants.pairs) new is
        (All-map-remove_entry names (λ e. e.1) (KeepsBytes of_pair) tenants.pairs holds.each)

    module _ (names : N → Bool) (was left : State K V Bytes S) (there : lookup names tenants.pairs ≡ Some was)
        (same : limit_of left ≡ limit_of was) where
      pub holds-written : KeepsBytes of_pair left → HoldsBytes of_name of_pair (written names left tenants)
      holds-written is = record {
        each = All-values-set_value names (KeepsBytes of_pair) tenants.pairs left holds.each is;
        all = record {
          counts = record {
            table = holds.all.counts.table;
            owned = holds.all.counts.owned
                ∙ sym (sum-set counted names left tenants.pairs (keeps (lookup_entry names tenants.pairs)
                (sym (lookup-entry names tenants.pairs) ∙ there)));
          };
          within = holds.all.within;
        };
        small = holds.small;
      }
        where
          keeps : (found : Option (N × State K V Bytes S)) → option_map (λ p. p.1) found ≡ Some was
              → IfSome found (λ p. counted (p.0, left) ≡ counted p)
          keeps None e = tt
          keeps (Some p) e = ap (λ n. in_word (of_name p.0 + n))
              (same ∙ sym (ap (λ o. limit_of (unwrap_or o was)) e))
