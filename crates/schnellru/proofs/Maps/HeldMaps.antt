-- What holds for every map follows from what holds for its linked table.
use Rattle.std.proofs.Common.{◌≡◌, ℕ, suc, ◌+◌, ◌-◌, ◌*◌, ◌^◌, ◌<◌, ◌≤◌, ◌⊎◌, Bool, true, false, cond, List, length}
use Rattle.std.proofs.Common.{Some, sym, ap, ◌∙◌, subst, arith}
use Rattle.group_table.specs.Sizes.{full_capacity}
use Rattle.group_table.specs.Bucket.{BucketState, bucket_states, growth_left, growth_left_at, is_used, bucket_at}
use Rattle.group_table.proofs.BucketLemmas.{length-bucket_states, entry_count-bucket_states}
use Rattle.group_table.proofs.CountedStates.{facts}
use Rattle.lru_model.specs.Sizes.{usage}
use Rattle.lru_model.specs.State.{Contents, IsSized, GivesBack, Leaves}
use Rattle.ordered_table.specs.OrderedTable.{OrderedTable, IsLinked, KeysFit, pairs_of}
use Rattle.schnellru.specs.Inside.Fields.{Fields}
use Rattle.schnellru.specs.Inside.Holds.{state_of, Holds}
use Rattle.lru_model.proofs.PairLists.DistinctKeys.{AreDistinct}
use Rattle.lru_model.proofs.Theorems.PaidMoves.{leaves_paid}
use Rattle.ordered_table.proofs.Tables.BucketPairs.{pairs-length}

module _ {K V S H : Type 0} (fields : Fields S H) where
  pub sized_by : (t : OrderedTable K V) → IsLinked t → (length t.slots ≡ 0) ⊎ (length t.slots < fields.max)
      → ((bytes : ℕ) × (usage fields.entry_bytes (length t.slots) ≡ Some bytes)) → fields.moved < 2 ^ 64
      → t.insertions.placed < 2 ^ 64 → fields.shrunk < 2 ^ 64 → IsSized (state_of t fields)
  sized_by t linked reached usable m p s = record {
    table = linked.table;
    taken = entry_count-bucket_states t.slots ∙ linked.count ∙ sym (pairs-length t linked);
    reachable = subst (λ n. (n ≡ 0) ⊎ (n < fields.max)) (sym (length-bucket_states t.slots)) reached;
    usable = subst (λ n. (bytes : ℕ) × (usage fields.entry_bytes n ≡ Some bytes))
        (sym (length-bucket_states t.slots)) usable;
    moved = m;
    placed = p;
    shrunk = s;
  }

pub growth_left_at-most : (states : List BucketState) (b : ℕ) → growth_left_at states b ≤ 1
growth_left_at-most states b = go (is_used (bucket_at states b))
  where
    go : (y : Bool) → cond y 0 1 ≤ 1
    go true = omega arith
    go false = omega arith

module _ {K V : Type 0} (old new : OrderedTable K V) (b : ℕ) (first : IsLinked old) (last : IsLinked new)
    (table : length new.slots ≡ length old.slots) (one : suc (length new.order) ≡ length old.order)
    (freed : growth_left (bucket_states new.slots) ≡ growth_left (bucket_states old.slots) + growth_left_at (bucket_states new.slots) b) where
  pub frees_room : GivesBack (length (pairs_of old)) (length (pairs_of new)) (bucket_states old.slots) (bucket_states new.slots)
  frees_room = record {
    table = same;
    keeps = omega (arith, freed);
    at_most = omega (arith, freed, news, olds, one, growth_left_at-most (bucket_states new.slots) b);
    exact = λ small. omega (
      arith,
      news,
      olds,
      one,
      (facts first.table).exact small,
      (facts last.table).exact (omega (arith, same, small)),
      entry_count-bucket_states old.slots,
      entry_count-bucket_states new.slots,
      ap full_capacity same,
      first.count,
      last.count,
    );
    untouched = λ e. absurd (omega (arith, e, news, olds, one));
  }
    where
      same : length (bucket_states new.slots) ≡ length (bucket_states old.slots)
      same = length-bucket_states new.slots ∙ table ∙ sym (length-bucket_states old.slots)

      news : length (pairs_of new) ≡ length new.order
      news = pairs-length new last

      olds : length (pairs_of old) ≡ length old.order
      olds = pairs-length old first

module _ {K V S H : Type 0} (fields : Fields S H) where
  pub sized_same : (t u : OrderedTable K V) (l : S) → IsSized (state_of t fields) → IsLinked u → length u.slots
      ≡ length t.slots
      → u.insertions.placed < 2 ^ 64 → IsSized (state_of u (record fields { limiter = l }))
  sized_same t u l sized linked same placed =
      let e : length (bucket_states t.slots) ≡ length u.slots = length-bucket_states t.slots ∙ sym same in
      sized_by (record fields { limiter = l }) u linked (subst (λ n. (n ≡ 0) ⊎ (n < fields.max)) e sized.reachable)
      (subst (λ n. (bytes : ℕ) × (usage fields.entry_bytes n ≡ Some bytes)) e sized.usable) sized.moved placed
      sized.shrunk

  pub leaves_holds : (eq : K → K → Bool) (hash_of : H → K → ℕ) (t u : OrderedTable K V) (left : Contents K V S) (l : S)
      → Holds eq hash_of t fields → IsLinked u → KeysFit (hash_of fields.hasher) u.slots → length u.slots
      ≡ length t.slots
      → Leaves (state_of t fields) left (state_of u (record fields { limiter = l })) → AreDistinct eq (pairs_of u)
      → Holds eq hash_of u (record fields { limiter = l })
  leaves_holds eq hash_of t u left l holds linked fits same leaves distinct = record {
    linked = linked;
    fits = fits;
    map = record {
      distinct = distinct;
      sized = sized_same t u l holds.map.sized linked same
          (omega (arith, ap (λ st. st.counts.placed) leaves.is, holds.map.sized.placed));
      paid = leaves_paid (state_of t fields) left (state_of u (record fields { limiter = l })) leaves holds.map.paid;
    };
  }

module _ {K V S H : Type 0} (eq : K → K → Bool) (hash_of : H → K → ℕ) (fields : Fields S H) (t u : OrderedTable K V)
    (counted : u.insertions ≡ t.insertions) where
  pub copied_holds : (limiter : S) (hasher : H) → Holds eq hash_of t fields → IsLinked u
      → KeysFit (hash_of hasher) u.slots
      → bucket_states u.slots ≡ bucket_states t.slots → AreDistinct eq (pairs_of u)
      → Holds eq hash_of u (record fields { limiter = limiter; hasher = hasher })
  copied_holds limiter hasher holds linked fits states distinct =
      let same : length (bucket_states t.slots) ≡ length u.slots = sym (ap length states) ∙ length-bucket_states u.slots in
      let sized = holds.map.sized in
      let placed = ap (λ c. c.placed) counted in
      record {
        linked = linked;
        fits = fits;
        map = record {
          distinct = distinct;
          sized = sized_by (record fields { limiter = limiter; hasher = hasher }) u linked
              (subst (λ n. (n ≡ 0) ⊎ (n < fields.max)) same sized.reachable)
              (subst (λ n. (bytes : ℕ) × (usage fields.entry_bytes n ≡ Some bytes)) same sized.usable) sized.moved
              (omega (arith, placed, sized.placed)) sized.shrunk;
          paid = record {
            moved = omega (arith, placed, holds.map.paid.moved);
            ahead = λ below. omega (
              arith,
              placed,
              holds.map.paid.ahead below,
              ap (λ m. full_capacity (length m) - 2 * growth_left m) states,
            );
          };
        };
      }

pub alike_holds : {K V S H : Type 0} (fields : Fields S H) (eq : K → K → Bool) (hash_of : H → K → ℕ)
    (t u : OrderedTable K V) → u.insertions ≡ t.insertions
    → Holds eq hash_of t fields → IsLinked u → KeysFit (hash_of fields.hasher) u.slots
    → bucket_states u.slots ≡ bucket_states t.slots → AreDistinct eq (pairs_of u) → Holds eq hash_of u fields
alike_holds fields eq hash_of t u counted =
    copied_holds eq hash_of fields t u counted fields.limiter fields.hasher
