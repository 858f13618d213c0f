use Rattle.std.proofs.Common.{◌≡◌, length, replicate, inr, ap, sym, ◌∙◌, subst, arith}
use Rattle.std.proofs.lemmas.List.{length-replicate}
use Rattle.group_table.specs.Bucket.{empty, entry_count}
use Rattle.group_table.specs.Sizes.{full_capacity}
use Rattle.group_table.specs.Relocation.{KeepsHashes, GivesHashes}
use Rattle.group_table.proofs.LayoutLemmas.{length-laid_out}
use Rattle.group_table.proofs.SizeLemmas.{full_capacity-small}
use Rattle.group_table.proofs.TableLemmas.{IsTable-by}
use Rattle.group_table.proofs.FreshLemmas.{Fits-fresh, growth_left-fresh}
use Rattle.group_table.proofs.RelocationLemmas.{growth_left-none_deleted, entry_count-laid_out, entries_are}
use Rattle.group_table.proofs.table.Table.relocate.Goals as goal

pub returns-in_err-fresh-clause-table : goal.returns-in_err-fresh-clause-table
returns-in_err-fresh-clause-table g c = rw (← c.self.view_is) (IsTable-by _ _ _ c.self.invariant.0)

pub returns-then-self-eq0-clause-growth_left : goal.returns-then-self-eq0-clause-growth_left
returns-then-self-eq0-clause-growth_left g c =
    let is : c.replace.new.dest.slots ≡ replicate c.args.buckets empty =
    ap (λ t. t.slots) c.replace.ensures.after ∙ ap (λ v. v.slots) c.fresh.view_is ∙ c.in_ok-fresh.ensures.slots in
    let none : entry_count c.args.self.now.slots ≡ 0 = rw (← c.self.view_is) (omega (arith, c.self.invariant.1)) in
    let growth_left = growth_left-fresh g.row.T.Denot c.args.buckets in
    rw is (omega (arith, growth_left, none))

pub returns-then-self-eq0-clause-hashes : goal.returns-then-self-eq0-clause-hashes
returns-then-self-eq0-clause-hashes g c hash_at gives moved_hash_of moved =
    let is : c.replace.new.dest.slots ≡ replicate c.args.buckets empty =
    ap (λ t. t.slots) c.replace.ensures.after ∙ ap (λ v. v.slots) c.fresh.view_is ∙ c.in_ok-fresh.ensures.slots in
    rw is (Fits-fresh g.row.T.Denot c.args.buckets moved_hash_of)

pub returns-in-Err-clause-table : goal.returns-in-Err-clause-table
returns-in-Err-clause-table g c = rw (← c.self.view_is) (IsTable-by _ _ _ c.self.invariant.0)

pub returns-in-Err-clause-succeeds : goal.returns-in-Err-clause-succeeds
returns-in-Err-clause-succeeds g c = λ none.
    let some = c.self.invariant.1 in
    let within = rw (← c.self.view_is) at c.requires.within in
    absurd (omega (
      arith,
      c.if-self-eq0.false,
      some,
      within,
      ap full_capacity none,
      full_capacity-small 0 (omega arith),
    ))

pub move_entries-requires-clause-within : goal.move_entries-requires-clause-within
move_entries-requires-clause-within g c =
    let parts = c.into_parts-control.ensures in
    let was = parts.slots ∙ ap (λ t. t.slots) c.replace-2.ensures.value in
    let counted = sym (entry_count-laid_out _ _ parts.laid_out) ∙ ap entry_count was in
    let long : length c.replace-2.new.dest.slots ≡ c.args.buckets =
    ap (λ t. length t.slots) c.replace-2.ensures.after ∙ ap length c.in_ok-fresh.ensures.slots ∙ length-replicate _ _ in
    rw (counted, long) c.requires.within

pub move_entries-requires-clause-one_each : goal.move_entries-requires-clause-one_each
move_entries-requires-clause-one_each g c =
    let parts = c.into_parts-control.ensures in
    let was = parts.slots ∙ ap (λ t. t.slots) c.replace-2.ensures.value in
    let links : length c.in-Ok.links.items ≡ c.buckets.result =
    ap length c.in-Ok.ensures ∙ length-replicate _ _ in
    links ∙ c.buckets.ensures.value ∙ sym (ap length was) ∙ length-laid_out _ _ parts.laid_out

pub returns-clause-renumbered : goal.returns-clause-renumbered
returns-clause-renumbered g c =
    let parts = c.into_parts-control.ensures in
    let was = parts.slots ∙ ap (λ t. t.slots) c.replace-2.ensures.value in
    let is = ap (λ t. t.slots) c.self-2.view_is in
    rw (← was, is)
    (inr (record {
      one_each = c.move_entries.ensures.one_each ∙ sym (length-laid_out _ _ parts.laid_out);
      moves = rw (entries_are _ _ parts.laid_out) c.move_entries.ensures.moves;
    }))

pub returns-clause-entries : goal.returns-clause-entries
returns-clause-entries g c =
    let parts = c.into_parts-control.ensures in
    let was = parts.slots ∙ ap (λ t. t.slots) c.replace-2.ensures.value in
    let is = ap (λ t. t.slots) c.self-2.view_is in
    ap entry_count is ∙ c.move_entries.ensures.entries ∙ sym (entry_count-laid_out _ _ parts.laid_out)
    ∙ ap entry_count was

pub returns-clause-growth_left : goal.returns-clause-growth_left
returns-clause-growth_left g c =
    let is = ap (λ t. t.slots) c.self-2.view_is in
    let moved : entry_count c.move_entries.new.fresh.slots ≡ entry_count c.args.self.now.slots =
    sym (ap entry_count is) ∙ returns-clause-entries g c in
    let long : length c.move_entries.new.fresh.slots ≡ c.args.buckets =
    c.move_entries.ensures.buckets ∙ ap (λ t. length t.slots) c.replace-2.ensures.after
    ∙ ap length c.in_ok-fresh.ensures.slots ∙ length-replicate _ _ in
    rw (is, ← moved)
    (growth_left-none_deleted c.move_entries.new.fresh.slots c.move_entries.ensures.none_deleted
    (rw (moved, long) c.requires.within))

pub returns-clause-hashes : goal.returns-clause-hashes
returns-clause-hashes g c hash_at =
    let parts = c.into_parts-control.ensures in
    let was = parts.slots ∙ ap (λ t. t.slots) c.replace-2.ensures.value in
    let is = ap (λ t. t.slots) c.self-2.view_is in
    let moved = c.move_entries.new in
    rw (← was, is) (subst (λ old. GivesHashes g.H.Fn c.args.hash_of old hash_at
    → KeepsHashes g.N.LinkType.number g.N.LinkType.MAX old moved.fresh.slots moved.links.items hash_at)
    (sym (entries_are _ _ parts.laid_out)) (c.move_entries.ensures.hashes hash_at))

pub returns-clause-table : goal.returns-clause-table
returns-clause-table g c = IsTable-by _ _ _ c.self-2.invariant.0
