use Rattle.std.proofs.Common.{ℕ, ◌+◌, ◌-◌, ◌*◌, ◌^◌, ◌<◌, ◌≤◌, Bool, inl, inr, ap, arith}
use native.Mathlib.Decide.{dec_lt}
use Rattle.group_table.specs.Sizes.{full_capacity}
use Rattle.lru_limits.specs.Rules.{Rules}
use Rattle.lru_model.specs.State.{State, Counts, buckets, potential, Contents, IsSized, IsAhead, IsPaid, IsMap, Leaves}
use Rattle.lru_model.proofs.TableSizes.Growth.{full_capacity-at_most, usage_addressable}
use Rattle.lru_model.proofs.Theorems.Potential.{Pays, bounded_of}
use Rattle.lru_model.proofs.Theorems.TableGrowth.{Tables, IsNextCount, Changes}
use Rattle.lru_model.proofs.PairLists.DistinctKeys.{AreDistinct}

pub paid_ahead : {n : ℕ} {counts : Counts} → counts.moved < 2 ^ 64 → IsAhead n counts → IsPaid n counts
paid_ahead {n} {counts} moved ahead = record { moved = go (dec_lt counts.shrunk (2 ^ 64 - 1)); ahead = ahead }
  where
    go : Dec (counts.shrunk < 2 ^ 64 - 1) → counts.moved ≤ 2 * counts.placed + counts.shrunk
    go (yes lt) = omega (arith, ahead lt)
    go (no ge) = omega (arith, moved, ge)

module _ {K V S H : Type 0} where
  pub paid_after : {anew : ℕ} (old new : State K V S H) → Pays anew old new → new.counts.moved < 2 ^ 64
      → buckets new < 2 ^ 63 → IsPaid (potential old) old.counts → IsPaid (potential new) new.counts
  paid_after {anew} old new p moved addressable paid = paid_ahead moved
      (λ below. go below (dec_lt new.counts.placed (2 ^ 64 - 1)))
    where
      go : new.counts.shrunk < 2 ^ 64 - 1 → Dec (new.counts.placed < 2 ^ 64 - 1)
          → new.counts.moved + potential new ≤ 2 * new.counts.placed + new.counts.shrunk
      go below (yes lt) = omega (arith, p.moved lt, p.shrunk, below, paid.ahead (omega (arith, p.shrunk, below)))
      go below (no ge) = omega (arith, moved, addressable, full_capacity-at_most (buckets new))

  pub leaves_paid : (old : State K V S H) (left : Contents K V S) (new : State K V S H) → Leaves old left new
      → IsPaid (potential old) old.counts → IsPaid (potential new) new.counts
  leaves_paid old left new l paid =
      let moved = ap (λ st. st.counts.moved) l.is in let placed = ap (λ st. st.counts.placed) l.is in
      let shrunk = ap (λ st. st.counts.shrunk) l.is in
      record {
        moved = omega (arith, paid.moved, moved, placed, shrunk);
        ahead = λ below. omega (
          arith,
          paid.ahead (omega (arith, below, shrunk)),
          l.growth_left.keeps,
          ap full_capacity l.growth_left.table,
          moved,
          placed,
          shrunk,
        );
      }

  module _ (rules : Rules K V S) (P : S → Type 0) (more anew : ℕ) (old new : State K V S H)
      (t : Tables rules P more anew old new) where
    pub stays_paid : IsSized old → IsPaid (potential old) old.counts → IsPaid (potential new) new.counts
    stays_paid ok paid = paid_after old new (t.pays (bounded_of old ok)) (t.moved ok.moved) (addressable t.count) paid
      where
        addressable : IsNextCount rules P old (buckets new) → buckets new < 2 ^ 63
        addressable (inl few) = omega (arith, few, ok.table.addressable)
        addressable (inr p) = omega (arith, usage_addressable old.entry_bytes (buckets new) p.bytes p.usable)

pub stays_map : {K V S H : Type 0} {eq : K → K → Bool} (rules : Rules K V S) (more anew : ℕ) (old new : State K V S H)
    → Changes rules (λ c d. AreDistinct eq c.pairs → AreDistinct eq d.pairs) more anew old new → IsMap eq old
    → IsSized new
    → IsMap eq new
stays_map rules more anew old new c ok sized = record {
  distinct = c.moves ok.distinct;
  sized = sized;
  paid = stays_paid rules _ more anew old new c.tables ok.sized ok.paid;
}
