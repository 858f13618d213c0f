-- Inserts pay for the entries that they move.
use Rattle.std.proofs.Common.{◌≡◌, ℕ, ◌+◌, ◌*◌, ◌-◌, ◌^◌, ◌<◌, ◌≤◌, length, ap, arith}
use Rattle.group_table.specs.Change.{count_up}
use Rattle.group_table.specs.Sizes.{full_capacity, IsBucketCount}
use Rattle.lru_model.specs.State.{State, Counts, buckets, growth_left, potential, IsSized, count_insert}
use Rattle.lru_model.specs.Theorems.{PaysByStoring, PaysFor, PaysForMoves}
use Rattle.lru_model.proofs.TableSizes.SizedStates.{fits}
use Rattle.lru_model.proofs.TableSizes.Growth.{full_capacity-at_most}

module _ {K V S H : Type 0} where
  -- `moved` plus the potential rises by at most 2 for each stored entry, plus `anew`, the number of entries that
  -- shrinks rehashed. This holds until the count `placed` stops at its maximum.
  pub record Pays (anew : ℕ) (old new : State K V S H) : Type 0 where
    pub placed : old.counts.placed ≤ new.counts.placed
    pub shrunk : new.counts.shrunk ≡ count_up old.counts.shrunk anew
    pub moved : new.counts.placed < 2 ^ 64 - 1 →
        new.counts.moved + potential new + 2 * old.counts.placed
        ≤ old.counts.moved + potential old + 2 * new.counts.placed + anew

  pub pays_for_moves : {anew : ℕ} {old new : State K V S H} → old.counts.shrunk < 2 ^ 64 → Pays anew old new
      → PaysForMoves old new
  pays_for_moves bound p = record {
    placed = p.placed;
    shrunk = omega (arith, bound, p.shrunk);
    rise = λ h below. omega (arith, p.moved h, p.shrunk, below);
  }

  pub pays_by_storing : {old new : State K V S H} → old.counts.shrunk < 2 ^ 64 → Pays 0 old new
      → PaysByStoring old new
  pays_by_storing bound p = record {
    placed = p.placed;
    shrunk = omega (arith, bound, p.shrunk);
    moved = λ h. omega (arith, p.moved h);
  }

  module _ {count : Counts → ℕ} {m n : ℕ} where
    pub paid_self : (st : State K V S H) → PaysFor count m n st st
    paid_self st = record { placed = omega arith; shrunk = omega arith; rise = λ h below. omega arith }

    pub paid_trans : {old mid new : State K V S H} → PaysFor count m n old mid → PaysFor count m n mid new
        → PaysFor count m n old new
    paid_trans p q = record {
      placed = omega (arith, p.placed, q.placed);
      shrunk = omega (arith, p.shrunk, q.shrunk);
      rise = λ h below. omega (
        arith,
        p.rise (omega (arith, q.placed, h)) (omega (arith, q.shrunk, below)),
        q.rise h below,
      );
    }

  pub pays_trans : {m n : ℕ} {old mid new : State K V S H} → Pays m old mid → Pays n mid new → Pays (m + n) old new
  pays_trans {m} {n} p q = record {
    placed = omega (arith, p.placed, q.placed);
    shrunk = omega (arith, p.shrunk, q.shrunk);
    moved = λ h. omega (arith, p.placed, q.placed, p.moved (omega (arith, q.placed)), q.moved h);
  }

  pub pays_calm : (old new : State K V S H) → old.counts.shrunk < 2 ^ 64
      → record new.counts { insertions = old.counts.insertions } ≡ old.counts
      → potential new ≤ potential old → Pays 0 old new
  pays_calm old new bound e f =
      let p = ap (λ c. c.placed) e in let m = ap (λ c. c.moved) e in let s = ap (λ c. c.shrunk) e in record {
        placed = omega arith;
        shrunk = omega (arith, bound, s);
        moved = λ _. omega arith;
      }

  pub pays_insertion : (old new : State K V S H) (moves : ℕ) → old.counts.placed < 2 ^ 64 → old.counts.shrunk < 2 ^ 64
      → new.counts ≡ count_insert moves old.counts → moves + potential new ≤ potential old + 2 → Pays 0 old new
  pays_insertion old new moves bound few e f =
      let m = ap (λ c. c.moved) e in let p = ap (λ c. c.placed) e in let s = ap (λ c. c.shrunk) e in record {
        placed = omega arith;
        shrunk = omega (arith, few, s);
        moved = λ h. omega arith;
      }

module _ {K V S H : Type 0} where
  pub record IsBounded (st : State K V S H) : Type 0 where
    pub count : IsBucketCount (buckets st)
    pub addressable : buckets st < 2 ^ 63
    pub fits : length st.pairs + growth_left st ≤ full_capacity (buckets st)
    pub moved : st.counts.moved < 2 ^ 64
    pub placed : st.counts.placed < 2 ^ 64
    pub shrunk : st.counts.shrunk < 2 ^ 64

  pub bounded_of : (st : State K V S H) → IsSized st → IsBounded st
  bounded_of st ok = record {
    count = ok.table.count;
    addressable = omega (arith, ok.table.addressable);
    fits = fits ok;
    moved = ok.moved;
    placed = ok.placed;
    shrunk = ok.shrunk;
  }

  pub no_buckets : (st : State K V S H) → IsBounded st → 0 < length st.pairs → buckets st ≡ 0 → ⊥
  no_buckets st ok some none = omega (arith, some, ok.fits, none, full_capacity-at_most (buckets st))
