use Rattle.std.proofs.Common.{◌≡◌, ℕ, ◌+◌, ◌-◌, ◌*◌, ◌^◌, ◌<◌, ◌≤◌, ◌⊎◌, Bool, List, ◌++◌, length, Some, refl, sym, ap}
use Rattle.std.proofs.Common.{subst, arith, cond, count_by}
use Rattle.std.proofs.Math.ListN.{replicate}
use Rattle.std.proofs.lemmas.List.{length-append, length-replicate}
use Rattle.std.proofs.lemmas.List.Folds.{sum_by-replicate}
use Rattle.std.proofs.lemmas.List.Sums.{sum_by-append}
use Rattle.group_table.specs.Sizes.{full_capacity, IsBucketCount}
use Rattle.group_table.specs.Bucket.{BucketState, empty, deleted, full, is_full, is_used, is_deleted, growth_left as growth_left_of}
use Rattle.group_table.specs.Table.{IsTable}
use Rattle.group_table.proofs.BucketLemmas.{room_is}
use Rattle.lru_model.specs.Sizes.{usage}
use Rattle.lru_model.specs.State.{State, Counts, buckets, IsSound, IsSized}
use Rattle.lru_model.proofs.TableSizes.Growth.{full_capacity-at_most}

abbrev pub row : ℕ → ℕ → ℕ → List BucketState
row fulls deletions empties = replicate fulls (full tt) ++ (replicate deletions deleted ++ replicate empties empty)

length-row : (f d e : ℕ) → length (row f d e) ≡ f + (d + e)
length-row f d e =
    let fulls : List BucketState = replicate f (full tt) in
    let deletions : List BucketState = replicate d deleted in
    let empties : List BucketState = replicate e empty in
    omega (
      arith,
      length-append fulls (deletions ++ empties),
      length-append deletions empties,
      length-replicate {A = BucketState} f (full tt),
      length-replicate {A = BucketState} d deleted,
      length-replicate {A = BucketState} e empty,
    )

count-row : (p : BucketState → Bool) (f d e : ℕ) → count_by p (row f d e) ≡ f * cond (p (full tt)) 1 0
    + (d * cond (p deleted) 1 0 + e * cond (p empty) 1 0)
count-row p f d e =
    let one : BucketState → ℕ = λ x. cond (p x) 1 0 in
    let fulls : List BucketState = replicate f (full tt) in
    let deletions : List BucketState = replicate d deleted in
    let empties : List BucketState = replicate e empty in
    rw (
      sum_by-append one fulls (deletions ++ empties),
      sum_by-append one deletions empties,
      sum_by-replicate one f
          (full tt),
      sum_by-replicate one d deleted,
      sum_by-replicate one e empty,
    ) refl

module _ {K V S H : Type 0} (old : State K V S H) (ok : IsSized old) (pairs : List (K × V)) (d : ℕ)
    (within : length pairs + d ≤ full_capacity (buckets old)) where
  abbrev pub some_states : List BucketState
  some_states = row (length pairs) d (buckets old - length pairs - d)

  pub length-some_states : length some_states ≡ buckets old
  length-some_states = omega (
    arith,
    length-row (length pairs) d (buckets old - length pairs - d),
    within,
    full_capacity-at_most (buckets old),
  )

  used-some_states : count_by is_used some_states ≡ length pairs + d
  used-some_states = omega (arith, count-row is_used (length pairs) d (buckets old - length pairs - d))

  pub growth_left-some_states : growth_left_of some_states ≡ full_capacity (buckets old) - (length pairs + d)
  growth_left-some_states = omega (arith, room_is some_states, used-some_states, ap full_capacity length-some_states)

  module _ (none_deleted : buckets old ≤ 16 → d ≡ 0) where
    table-some_states : IsTable some_states
    table-some_states = record {
      count = subst IsBucketCount (sym length-some_states) ok.table.count;
      addressable = omega (arith, length-some_states, ok.table.addressable);
      used_within = omega (arith, used-some_states, within, ap full_capacity length-some_states);
      none_deleted = λ small. omega (
        arith,
        count-row is_deleted (length pairs) d (buckets old - length pairs - d),
        none_deleted (omega (arith, small, length-some_states)),
      );
    }

    pub sized-some_states : (counts : Counts) → counts.moved < 2 ^ 64 → counts.placed < 2 ^ 64
        → counts.shrunk ≡ old.counts.shrunk → IsSound (length pairs) old.entry_bytes old.max some_states counts
    sized-some_states counts m p s = record {
      table = table-some_states;
      taken = omega (arith, count-row is_full (length pairs) d (buckets old - length pairs - d));
      reachable = subst (λ n. (n ≡ 0) ⊎ (n < old.max)) (sym length-some_states) ok.reachable;
      usable = subst (λ n. (bytes : ℕ) × (usage old.entry_bytes n ≡ Some bytes)) (sym length-some_states) ok.usable;
      moved = m;
      placed = p;
      shrunk = rw s ok.shrunk;
    }
