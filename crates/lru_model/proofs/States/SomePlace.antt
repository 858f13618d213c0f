use Rattle.std.proofs.Common.{◌≡◌, ℕ, ◌+◌, ◌-◌, ◌/◌, ◌^◌, ◌<◌, ◌≤◌, inl, inr, Bool, true, false, ◌∷◌, length}
use Rattle.std.proofs.Common.{◌⊎◌, if◌then◌else◌, cond, List, Some, slice_set, length-set, refl, sym, ap, ◌∙◌, subst}
use Rattle.std.proofs.Common.{arith, count_by}
use Rattle.std.proofs.lemmas.Bool.{false≢true}
use Rattle.std.proofs.lemmas.List.{nil_from_length}
use native.Mathlib.Decide.{dec_lt}
use Rattle.group_table.specs.Sizes.{full_capacity, IsBucketCount, IsPowerFromFour}
use Rattle.group_table.specs.Bucket.{BucketState, empty, deleted, full, bucket_at, is_full, is_used, is_deleted, growth_left_at}
use Rattle.group_table.specs.Bucket.{growth_left as growth_left_of}
use Rattle.group_table.specs.Probe.{IsFirstFree}
use Rattle.group_table.specs.Change.{MayFill, count_up}
use Rattle.group_table.proofs.BucketLemmas.{room_is, used_count-split, count_by-set}
use Rattle.group_table.proofs.CountedStates.{facts}
use Rattle.lru_limits.specs.Rules.{Rules}
use Rattle.lru_model.specs.Sizes.{Target, no_table, same_table, new_table, usage}
use Rattle.lru_model.specs.State.{State, Contents, buckets, growth_left, contents, IsSound, IsSized, Leaves, FirstFreeIs}
use Rattle.lru_model.specs.State.{pops, count_insert}
use Rattle.lru_model.specs.Place.{Place, in_bucket, rehashed, grown, not_grown, nothing_to_evict, finds_bucket}
use Rattle.lru_model.specs.Place.{rehashes}
use Rattle.lru_model.specs.Place.{Outcome, placed, refused, no_memory, IsPlaced, HasNoBucket, IsOutgrown, FillsBucket}
use Rattle.lru_model.specs.Place.{CannotGrow, no_target, denied, table_for, asked, unstored, OldestEvicted}
use Rattle.lru_model.proofs.TableSizes.Growth.{full_capacity-at_most, full_capacity-some, target-same}
use Rattle.lru_model.proofs.States.LeavingPairs.{length-pops}
use Rattle.lru_model.proofs.States.Outcomes.{placed-not_no_memory}
use Rattle.lru_model.proofs.TableSizes.FilledBuckets.{deleted_large, fills_free}
use Rattle.lru_model.proofs.TableSizes.SomeStates.{some_states, length-some_states, growth_left-some_states, sized-some_states}

counted : (n more : ℕ) → count_up n more < 2 ^ 64
counted n more = omega arith

module _ {K V S H : Type 0} where
  pub some_leave : (old : State K V S H) (c : Contents K V S) → IsSized old → length c.pairs ≤ length old.pairs
      → (new : State K V S H) × Leaves old c new × IsSized new
      × (length c.pairs + growth_left new ≡ length old.pairs + growth_left old)
  some_leave old c ok fewer = elim (dec_lt (length c.pairs) (length old.pairs)) [
    | no q ↦ let same : length c.pairs ≡ length old.pairs = omega (arith, fewer, q) in (
      record old { pairs = c.pairs; limiter = c.limiter },
      record {
        is = refl;
        growth_left = record {
          table = refl;
          keeps = omega arith;
          at_most = omega (arith, same);
          exact = λ _. omega (arith, same);
          untouched = λ _. refl;
        };
      },
      subst (λ n. IsSound n old.entry_bytes old.max old.table.states old.counts) (sym same) ok,
      omega (arith, same),
    )
    | yes q ↦
        let deletions = count_by is_deleted old.table.states in
        let split = used_count-split old.table.states in
        let within : length c.pairs + deletions ≤ full_capacity (buckets old) = omega
        (arith, split, ok.taken, ok.table.used_within, q) in
        let new : State K V S H =
        record old {
          pairs = c.pairs;
          limiter = c.limiter;
          table = record old.table { states = some_states old ok c.pairs deletions within };
        } in
        let left = growth_left-some_states old ok c.pairs deletions within in
        let freed : length c.pairs + growth_left new ≡ length old.pairs
        + growth_left old = omega (arith, left, room_is old.table.states, split, ok.taken, ok.table.used_within, q) in (
          new,
          record {
            is = refl;
            growth_left = record {
              table = length-some_states old ok c.pairs deletions within;
              keeps = omega (arith, freed, q);
              at_most = omega (arith, freed);
              exact = λ _. freed;
              untouched = λ same. absurd (omega (arith, same, q));
            };
          },
          sized-some_states old ok c.pairs deletions within ok.table.none_deleted old.counts ok.moved ok.placed refl,
          freed,
        )
  ]

  module _ (pair : K × V) (old : State K V S H) (ok : IsSized old) where
    some_bucket : (deletions : ℕ) → length old.pairs + 1 + deletions ≤ full_capacity (buckets old)
        → (buckets old ≤ 16 → deletions ≡ 0)
        → (new : State K V S H)
        × IsPlaced pair (buckets old) 0 old new × IsSized new
        × (growth_left new ≡ full_capacity (buckets old) - (length old.pairs + 1 + deletions))
    some_bucket deletions within none_deleted =
        let pairs = pair ∷ old.pairs in
        let fit : length pairs + deletions ≤ full_capacity (buckets old) = omega (arith, within) in
        let new : State K V S H = record old {
          pairs = pairs;
          table = record old.table { states = some_states old ok pairs deletions fit };
          counts = count_insert 0 old.counts;
        } in (
          new,
          record {
            table = length-some_states old ok pairs deletions fit;
            state = refl;
          },
          sized-some_states old ok pairs deletions fit none_deleted new.counts (counted old.counts.moved 0)
              (counted old.counts.placed 1) refl,
          omega (arith, growth_left-some_states old ok pairs deletions fit),
        )

    fill_first : (hash b : ℕ) → b < buckets old → IsFirstFree old.table.states hash b → MayFill old.table.states b
        → (new : State K V S H) × IsPlaced pair (buckets old) 0 old new
        × FillsBucket hash old.table new.table × IsSized new
    fill_first hash b within first may =
        (new, placed, fills_free old.table new.table ok hash b within first spends refl refl, sized)
      where
        states : List BucketState
        states = slice_set old.table.states b (full tt)

        new : State K V S H
        new = record old {
          pairs = pair ∷ old.pairs;
          table = record { states = states; places = b ∷ old.table.places };
          counts = count_insert 0 old.counts;
        }

        counts : (p : BucketState → Bool) → count_by p states + cond (p (bucket_at old.table.states b)) 1 0
            ≡ count_by p old.table.states + cond (p (full tt)) 1 0
        counts p = count_by-set p old.table.states b (full tt) within

        same : length states ≡ buckets old
        same = length-set old.table.states b (full tt)

        one : (m : BucketState) → ◌≡◌ {A = ℕ} (cond (is_used m) 1 0 + (if is_used m then 0 else 1)) 1
        one empty = refl
        one deleted = refl
        one (full held) = refl

        used : count_by is_used states ≤ full_capacity (buckets old)
        used = elim may [
          | inl some ↦ omega (arith, counts is_used, room_is old.table.states, some)
          | inr there ↦ omega
              (arith, counts is_used, ap (λ m. cond {A = ℕ} (is_used m) 1 0) there, ok.table.used_within)
        ]

        spends : growth_left_of states + growth_left_at old.table.states b ≡ growth_left_of old.table.states
        spends = omega (
          arith,
          room_is states,
          room_is old.table.states,
          ap full_capacity same,
          counts is_used,
          one (bucket_at old.table.states b),
          used,
        )

        placed : IsPlaced pair (buckets old) 0 old new
        placed = record { table = same; state = refl }

        sized : IsSized new
        sized = record {
          table = record {
            count = subst IsBucketCount (sym same) ok.table.count;
            addressable = omega (arith, same, ok.table.addressable);
            used_within = omega (arith, used, ap full_capacity same);
            none_deleted = λ small. omega (
              arith,
              counts is_deleted,
              ok.table.none_deleted (omega (arith, small, same)),
            );
          };
          taken = omega (arith, counts is_full, ap (λ t. cond {A = ℕ} t 1 0) first.free_there, ok.taken);
          reachable = subst (λ n. (n ≡ 0) ⊎ (n < old.max)) (sym same) ok.reachable;
          usable = subst (λ n. (bytes : ℕ) × (usage old.entry_bytes n ≡ Some bytes)) (sym same) ok.usable;
          moved = counted old.counts.moved 0;
          placed = counted old.counts.placed 1;
          shrunk = ok.shrunk;
        }

    some_filled : (hash : ℕ) → 0 < growth_left old
        → (new : State K V S H) × IsPlaced pair (buckets old) 0 old new
        × FillsBucket hash old.table new.table × IsSized new
    some_filled hash r =
        let (b, within, first) =
        (facts ok.table).some_free (omega (arith, room_is old.table.states, r, full_capacity-at_most (buckets old))) hash in
        fill_first hash b within first (inl r)

module _ {K V S H : Type 0} (rules : Rules K V S) (hash_of : H → K → ℕ) (pair : K × V) (old : State K V S H)
    (ok : IsSized old) where
  abbrev pub Ends : Type 0
  Ends = (outcome : Outcome) × (new : State K V S H) × Place rules hash_of pair old outcome new × IsSized new

  abbrev pub half : ℕ
  half = full_capacity (buckets old) / 2

  abbrev pub deletions : ℕ
  deletions = count_by is_deleted old.table.states

  abbrev hash : ℕ
  hash = hash_of old.hasher pair.0

  spent : growth_left old ≡ full_capacity (buckets old) - (length old.pairs + deletions)
  spent = omega (arith, room_is old.table.states, used_count-split old.table.states, ok.taken)

  spent_within : length old.pairs + deletions ≤ full_capacity (buckets old)
  spent_within = omega (arith, used_count-split old.table.states, ok.taken, ok.table.used_within)

  roomy_ends : 0 < growth_left old → Ends
  roomy_ends r =
      let (new, is, fills, sized) = some_filled pair old ok hash r in
      (placed, new, in_bucket (omega (arith, r, spent)) (inl r) fills refl is, sized)

  deleted_ends : 0 < length old.pairs → growth_left old ≡ 0 → (free : FirstFreeIs deleted hash old.table.states)
      → free.0 < buckets old → Ends
  deleted_ends l none free below =
      let (large, spare) = deleted_large ok free.0 below free.2 in
      let (new, is, fills, sized) = fill_first pair old ok hash free.0 below free.1 (inr free.2) in
      (placed, new, in_bucket (omega (arith, spare)) (inr l) fills refl is, sized)

  evicted_ends : IsOutgrown hash old → (s : S) → CannotGrow rules old (record old { limiter = s }) → Ends
  evicted_ends outgrown s cannot = elim (dec_lt 0 (length old.pairs)) [
    | yes some ↦ with_pairs some
    | no none ↦ (
      refused,
      unstored rules pair mid,
      not_grown outgrown mid cannot
          (nothing_to_evict (nil_from_length old.pairs (omega (arith, none))) refl refl),
      ok,
    )
  ]
    where
      mid : State K V S H
      mid = record old { limiter = s }

      with_pairs : 0 < length old.pairs → Ends
      with_pairs some =
          let left = pops rules 1 (contents mid) in
          let fewer = length-pops rules 1 (contents mid) in
          let (end, leaves, sized, freed) = some_leave mid left ok (omega (arith, fewer)) in
          let gone : OldestEvicted rules hash 1 mid end = (mid, refl, outgrown.no_bucket, leaves) in
          elim (dec_lt half (length old.pairs)) [
            | yes l ↦
                let (new, is, fills, after) = some_filled pair end sized hash (omega (arith, freed, fewer, some)) in (
                  placed,
                  new,
                  not_grown outgrown mid cannot
                      (finds_bucket 1 (omega arith) (λ _. refl) (omega (arith, l)) end gone fills refl
                      (subst (λ n. IsPlaced pair n 0 end new) leaves.growth_left.table is)),
                  after,
                )
            | no l ↦ (
              no_memory,
              unstored rules pair end,
              not_grown outgrown mid cannot
                  (rehashes some 1 (omega arith) (λ _. refl) (omega (arith, l, outgrown.above_half)) end gone refl),
              sized,
            )
          ]

  growing_ends : IsOutgrown hash old → Ends
  growing_ends outgrown = go (table_for 1 old) refl
    where
      asks : (count bytes : ℕ) → table_for 1 old ≡ new_table count bytes → (allowed : Bool)
          → (rules.on_grow old.limiter bytes).allowed ≡ allowed → Ends
      asks count bytes t true g = (
        no_memory,
        unstored rules pair (asked rules bytes old),
        grown outgrown count bytes t g refl,
        ok,
      )
      asks count bytes t false g = evicted_ends outgrown (rules.on_grow old.limiter bytes).limiter
          (denied count bytes t g refl)

      go : (t : Target) → table_for 1 old ≡ t → Ends
      go no_table t = evicted_ends outgrown old.limiter (no_target t refl)
      go same_table t = absurd
          (omega (
            arith,
            outgrown.above_half,
            target-same old.max old.entry_bytes (buckets old) (length old.pairs + 1) t,
          ))
      go (new_table count bytes) t = asks count bytes t (rules.on_grow old.limiter bytes).allowed refl

  emptied_ends : length old.pairs ≡ 0 → HasNoBucket hash old → IsPowerFromFour (buckets old) → Ends
  emptied_ends no_pairs none power =
      let (new, is, sized, left) = some_bucket pair old ok 0 (omega (arith, no_pairs, full_capacity-some (buckets old) power))
      (λ _. refl) in (
        placed,
        new,
        rehashed none (omega (arith, no_pairs, full_capacity-some (buckets old) power)) (λ q. placed-not_no_memory q)
            (subst (λ n. IsPlaced pair (buckets old) n old new) (sym no_pairs) is, omega (arith, left)),
        sized,
      )

  pairs_end : 0 < length old.pairs → HasNoBucket hash old → Ends
  pairs_end some none = elim (dec_lt half (length old.pairs + 1)) [
    | yes more ↦ growing_ends (record { no_bucket = none; above_half = more; begun = inr some })
    | no few ↦ (
      no_memory,
      unstored rules pair old,
      rehashed none (omega (arith, few)) (λ _. some) refl,
      ok,
    )
  ]

  full_ends : 0 < length old.pairs → growth_left old ≡ 0 → Ends
  full_ends some none = go (bucket_at old.table.states free.0) refl
    where
      free : (b : ℕ) × (b < buckets old) × IsFirstFree old.table.states hash b
      free = (facts ok.table).some_free (omega (arith, none, spent, spent_within, some, full_capacity-at_most (buckets old)))
          hash

      go : (m : BucketState) → bucket_at old.table.states free.0 ≡ m → Ends
      go empty e = pairs_end some (record { no_growth_left = none; first_empty = λ _. (free.0, free.2, e) })
      go deleted e = deleted_ends some none (free.0, free.2, e) free.1
      go (full held) e = absurd (false≢true (sym free.2.free_there ∙ ap is_full e))

  pub some_place : Ends
  some_place = elim (dec_lt 0 (growth_left old)) [
    | yes r ↦ roomy_ends r
    | no r ↦ elim (dec_lt 0 (length old.pairs)) [
      | yes some ↦ full_ends some (omega (arith, r))
      | no none ↦ without_pairs (omega (arith, none)) ok.table.count
          (record { no_growth_left = omega (arith, r); first_empty = λ some. absurd (none some) })
    ]
  ]
    where
      without_pairs : length old.pairs ≡ 0 → IsBucketCount (buckets old) → HasNoBucket hash old → Ends
      without_pairs no_pairs (inl b) none = growing_ends (record {
        no_bucket = none;
        above_half = omega (arith, no_pairs, b, full_capacity-at_most (buckets old));
        begun = inl b;
      })
      without_pairs no_pairs (inr power) none = emptied_ends no_pairs none power
