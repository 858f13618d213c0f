use Rattle.std.proofs.Common.{◌≡◌, ◌+◌, ◌⊎◌, ℕ, refl, inl, inr, sym, arith}
use Rattle.group_table.specs.Sizes.{IsBucketCount, IsPowerFromFour}
use Rattle.group_table.proofs.TableLemmas.{IsTable-by}
use Rattle.group_table.proofs.FreshLemmas.{IsValid-fresh, entry_count-fresh, slots_of-fresh, Fits-fresh}
use Rattle.group_table.proofs.table.Table.with_buckets.Goals as goal

counts : (n : ℕ) → IsBucketCount n → (n ≡ 0 → ⊥) → ((n ≡ 0) × (n + 16 ≡ 0)) ⊎ (IsPowerFromFour n × (n + 16 ≡ n + 16))
counts n (inl e) some = absurd (some e)
counts n (inr power) some = inr (power, refl)

pub invariant_of-result : goal.invariant_of-result
invariant_of-result g c =
    let n = c.args.buckets in
    rw (c.in-Ok.ensures, c.in_ok-entries.ensures, c.full_capacity.ensures) (
      IsValid-fresh g.row.T.Denot n (n + 16) (counts n c.requires.count c.if-buckets-eq0.false) c.requires.addressable,
      sym (entry_count-fresh g.row.T.Denot n (n + 16) (omega arith)),
    )

pub returns-clause-slots : goal.returns-clause-slots
returns-clause-slots g c =
    rw (c.in-Ok.ensures, c.in_ok-entries.ensures)
    (slots_of-fresh g.row.T.Denot c.args.buckets (c.args.buckets + 16) (omega arith))

pub returns-clause-table : goal.returns-clause-table
returns-clause-table g c =
    let n = c.args.buckets in
    rw (c.in-Ok.ensures, c.in_ok-entries.ensures)
    (IsTable-by _ _ _
    (IsValid-fresh g.row.T.Denot n (n + 16) (counts n c.requires.count c.if-buckets-eq0.false)
    c.requires.addressable))

pub returns-clause-fits : goal.returns-clause-fits
returns-clause-fits g c hash_of = rw (returns-clause-slots g c) (Fits-fresh g.row.T.Denot c.args.buckets hash_of)
