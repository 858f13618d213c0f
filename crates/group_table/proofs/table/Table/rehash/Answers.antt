use Rattle.std.proofs.Common.{◌≡◌, ◌+◌, ◌-◌, ◌≤◌, length, replicate, count_by, is_some, inr, ap, sym, ◌∙◌, subst, arith}
use Rattle.std.proofs.lemmas.List.{length-replicate}
use Rattle.group_table.specs.Sizes.{full_capacity}
use Rattle.group_table.specs.Bytes.{empty_byte}
use Rattle.group_table.specs.Bucket.{entry_count}
use Rattle.group_table.specs.Layout.{slots_of, IsValid}
use Rattle.group_table.specs.Relocation.{KeepsHashes, GivesHashes}
use Rattle.group_table.proofs.BucketLemmas.{used_count-split}
use Rattle.group_table.proofs.LayoutLemmas.{length-laid_out}
use Rattle.group_table.proofs.FreshLemmas.{growth_left-fresh}
use Rattle.group_table.proofs.TableLemmas.{IsTable-by}
use Rattle.group_table.proofs.RelocationLemmas.{growth_left-none_deleted, entry_count-laid_out, entries_are}
use Rattle.group_table.proofs.table.Table.rehash.Goals as goal

pub returns-then-self-eq0-clause-growth_left : goal.returns-then-self-eq0-clause-growth_left
returns-then-self-eq0-clause-growth_left g c =
    let none : entry_count c.args.self.now.slots ≡ 0 = rw (← c.self.view_is) (omega (arith, c.self.invariant.1)) in
    let growth_left = growth_left-fresh g.row.T.Denot (length c.args.self.now.slots) in
    rw c.empty_buckets.ensures.slots (omega (arith, growth_left, none))

pub returns-in_err-links-clause-table : goal.returns-in_err-links-clause-table
returns-in_err-links-clause-table g c = rw (← c.self.view_is) (IsTable-by _ _ _ c.self.invariant.0)

pub returns-in_err-fresh-clause-table : goal.returns-in_err-fresh-clause-table
returns-in_err-fresh-clause-table g c = rw (← c.self.view_is) (IsTable-by _ _ _ c.self.invariant.0)

pub place_again-requires-clause-within : goal.place_again-requires-clause-within
place_again-requires-clause-within g c =
    let valid = c.self.invariant.0 in
    omega (
      arith,
      entry_count-laid_out _ _ valid.laid_out,
      valid.room_left,
      used_count-split
          (slots_of c.self.inside.control c.self.inside.entries),
    )

pub place_again-requires-clause-below : goal.place_again-requires-clause-below
place_again-requires-clause-below g c =
    let same : length c.self.inside.entries ≡ length c.args.self.now.slots =
    rw (← c.self.view_is) (sym (length-laid_out _ _ c.self.invariant.0.laid_out)) in
    omega (arith, same, c.requires.below)

pub place_again-requires-clause-cleared : goal.place_again-requires-clause-cleared
place_again-requires-clause-cleared g c =
    let same : length c.args.self.now.slots ≡ length c.self.inside.entries =
    rw (← c.self.view_is) (length-laid_out _ _ c.self.invariant.0.laid_out) in
    let n : c.buckets-buckets.result ≡ length c.self.inside.entries = c.buckets-buckets.ensures.value ∙ same in
    c.replace-before.ensures.after ∙ c.in_ok-fresh.ensures ∙ ap (λ k. replicate (k + 16) empty_byte) n

pub place_again-requires-clause-one_each : goal.place_again-requires-clause-one_each
place_again-requires-clause-one_each g c =
    let same : length c.args.self.now.slots ≡ length c.self.inside.entries =
    rw (← c.self.view_is) (length-laid_out _ _ c.self.invariant.0.laid_out) in
    let n : c.buckets-buckets.result ≡ length c.self.inside.entries = c.buckets-buckets.ensures.value ∙ same in
    ap length c.in_ok-links.ensures ∙ length-replicate _ _ ∙ n

pub overflow_sub-self : goal.overflow_sub-self
overflow_sub-self g c =
    let valid = c.self.invariant.0 in
    let same : length c.args.self.now.slots ≡ length c.self.inside.entries =
    rw (← c.self.view_is) (length-laid_out _ _ c.self.invariant.0.laid_out) in
    let n : c.buckets-buckets.result ≡ length c.self.inside.entries = c.buckets-buckets.ensures.value ∙ same in
    let capacity : c.full_capacity.result ≡ full_capacity (length c.self.inside.entries) =
    c.full_capacity.ensures ∙ ap full_capacity n in
    omega (
      arith,
      capacity,
      c.self.invariant.1,
      valid.room_left,
      used_count-split
          (slots_of c.self.inside.control c.self.inside.entries),
    )

pub returns-clause-entries : goal.returns-clause-entries
returns-clause-entries g c =
    let again = c.place_again.ensures in
    rw (← c.self.view_is)
    (entry_count-laid_out _ _ again.valid.laid_out ∙ again.entries
    ∙ sym (entry_count-laid_out _ _ c.self.invariant.0.laid_out))

pub returns-clause-buckets : goal.returns-clause-buckets
returns-clause-buckets g c =
    let again = c.place_again.ensures in
    rw (← c.self.view_is)
    (length-laid_out _ _ again.valid.laid_out ∙ again.buckets
    ∙ sym (length-laid_out _ _ c.self.invariant.0.laid_out))

pub invariant_of-self : goal.invariant_of-self
invariant_of-self g c =
    let again = c.place_again.ensures in
    let counted = entry_count-laid_out _ _ c.self.invariant.0.laid_out in
    let same : length c.args.self.now.slots ≡ length c.self.inside.entries =
    rw (← c.self.view_is) (length-laid_out _ _ c.self.invariant.0.laid_out) in
    let n : c.buckets-buckets.result ≡ length c.self.inside.entries = c.buckets-buckets.ensures.value ∙ same in
    let capacity : c.full_capacity.result ≡ full_capacity (length c.self.inside.entries) =
    c.full_capacity.ensures ∙ ap full_capacity n in
    let left : full_capacity (length c.self.inside.entries) - count_by is_some c.self.inside.entries
    ≡ c.full_capacity.result - c.self.inside.len =
    omega (arith, capacity, counted, c.self.invariant.1) in (
      subst (IsValid c.place_again.new.control c.place_again.new.entries) left again.valid,
      c.self.invariant.1 ∙ counted ∙ sym again.entries ∙ sym (entry_count-laid_out _ _ again.valid.laid_out),
    )

pub returns-clause-renumbered : goal.returns-clause-renumbered
returns-clause-renumbered g c =
    let again = c.place_again.ensures in
    let laid_out = c.self.invariant.0.laid_out in
    rw (← c.self.view_is)
    (inr (record {
      one_each = again.one_each ∙ sym (length-laid_out _ _ laid_out);
      moves = rw (entries_are _ _ laid_out) again.moves;
    }))

pub returns-clause-growth_left : goal.returns-clause-growth_left
returns-clause-growth_left g c =
    let again = c.place_again.ensures in
    let moved = returns-clause-entries g c in
    let slots = slots_of c.place_again.new.control c.place_again.new.entries in
    let same = length-laid_out _ _ again.valid.laid_out in
    let capacity : full_capacity (length slots) ≡ full_capacity (length c.place_again.new.entries) =
    ap full_capacity same in
    let within : entry_count slots ≤ full_capacity (length slots) =
    omega (arith, capacity, again.valid.room_left, used_count-split slots) in
    rw (← moved) (growth_left-none_deleted slots again.none_deleted within)

pub returns-clause-hashes : goal.returns-clause-hashes
returns-clause-hashes g c hash_at =
    let again = c.place_again.new in
    rw (← c.self.view_is) (subst (λ old. GivesHashes g.H.Fn c.args.hash_of old hash_at
    → KeepsHashes g.N.LinkType.number g.N.LinkType.MAX old (slots_of again.control again.entries) again.links.items
    hash_at) (sym (entries_are _ _ c.self.invariant.0.laid_out)) (c.place_again.ensures.hashes hash_at))

pub returns-clause-table : goal.returns-clause-table
returns-clause-table g c = IsTable-by _ _ _ c.place_again.ensures.valid
