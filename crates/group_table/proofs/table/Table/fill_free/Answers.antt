use Rattle.std.proofs.Common.{◌+◌, arith, ap, Some}
use Rattle.std.proofs.lemmas.List.Sums.{count_by-le-length}
use Rattle.group_table.specs.Bucket.{is_full}
use Rattle.group_table.specs.Probe.{hash_tag}
use Rattle.group_table.specs.Layout.{slots_of}
use Rattle.group_table.proofs.LayoutLemmas.{length-laid_out, entries_within}
use Rattle.group_table.proofs.TableLemmas.{IsTable-by, room_by}
use Rattle.group_table.proofs.WriteLemmas.{slots_of-written}
use Rattle.group_table.proofs.FitsLemmas.{Fits-placed}
use Rattle.group_table.proofs.PlaceLemmas.{free_within, free_none, free_spends, IsValid-placed, entry_count-placed}
use Rattle.group_table.proofs.PlaceLemmas.{growth_left-placed}
use Rattle.group_table.proofs.table.Table.fill_free.Goals as goal

pub overflow_add-self : goal.overflow_add-self
overflow_add-self g c =
    let valid = c.self.invariant.0 in
    omega (
      arith,
      count_by-le-length is_full (slots_of c.self.inside.control c.self.inside.entries),
      c.self.invariant.1,
      length-laid_out _ _ valid.laid_out,
      entries_within _ _ valid.laid_out,
      valid.laid_out.fits,
    )

pub fill_bucket-requires-clause-bucket : goal.fill_bucket-requires-clause-bucket
fill_bucket-requires-clause-bucket g c =
    let bucket = rw (← c.self.view_is) at c.requires.bucket in let first = rw (← c.self.view_is) at c.requires.first in
    free_within c.self.invariant.0 _ bucket first.free_there

pub fill_bucket-requires-clause-free_there : goal.fill_bucket-requires-clause-free_there
fill_bucket-requires-clause-free_there g c =
    let bucket = rw (← c.self.view_is) at c.requires.bucket in let first = rw (← c.self.view_is) at c.requires.first in
    free_none c.self.invariant.0 _ bucket first.free_there

pub overflow_sub-self : goal.overflow_sub-self
overflow_sub-self g c = omega (
  arith,
  rw (← c.self.view_is) at c.requires.within,
  room_by c.self.inside.control c.self.inside.entries c.self.inside.growth_left c.self.invariant.0,
)

pub invariant_of-self : goal.invariant_of-self
invariant_of-self g c =
    let bucket = rw (← c.self.view_is) at c.requires.bucket in let first = rw (← c.self.view_is) at c.requires.first in
    let valid = c.self.invariant.0 in
    let within = free_within valid _ bucket first.free_there in
    let spends = free_spends valid _ bucket first.free_there _ (rw (← c.self.view_is) at c.requires.spent)
    (rw (← c.self.view_is) at c.requires.within) in
    let counted = entry_count-placed valid c.args.b spends c.tag_of.result c.args.entry within c.tag_of.ensures.tag in
    rw (c.fill_bucket.ensures.control, c.fill_bucket.ensures.entries) (
      IsValid-placed valid c.args.b spends c.tag_of.result c.args.entry within c.tag_of.ensures.tag,
      rw counted (ap (λ n. n + 1) c.self.invariant.1),
    )

pub returns-clause-placed : goal.returns-clause-placed
returns-clause-placed g c =
    rw (← c.self.view_is) record {
      first = rw (← c.self.view_is) at c.requires.first;
      slots = rw (c.fill_bucket.ensures.control, c.fill_bucket.ensures.entries, c.tag_of.ensures.value)
          (slots_of-written _ _ c.args.b _ _);
      insertions = ap (λ n. record { placed = n; moved = c.self.inside.moved }) c.saturating_add-self-inside.ensures;
    }

pub returns-clause-growth_left : goal.returns-clause-growth_left
returns-clause-growth_left g c =
    let bucket = rw (← c.self.view_is) at c.requires.bucket in let first = rw (← c.self.view_is) at c.requires.first in
    let valid = c.self.invariant.0 in
    let within = free_within valid _ bucket first.free_there in
    let spends = free_spends valid _ bucket first.free_there _ (rw (← c.self.view_is) at c.requires.spent)
    (rw (← c.self.view_is) at c.requires.within) in
    rw (← c.self.view_is, c.fill_bucket.ensures.control, c.fill_bucket.ensures.entries)
    (growth_left-placed valid c.args.b spends c.tag_of.result c.args.entry within c.tag_of.ensures.tag)

pub returns-clause-fits : goal.returns-clause-fits
returns-clause-fits g c hash_of fits =
    rw (
      c.fill_bucket.ensures.control,
      c.fill_bucket.ensures.entries,
      c.tag_of.ensures.value,
      slots_of-written c.self.inside.control c.self.inside.entries c.args.b (hash_tag c.args.hash)
          (Some c.args.entry),
    )
    (Fits-placed _ hash_of c.args.hash c.args.b c.args.entry (rw (← c.self.view_is) at c.requires.bucket)
    (rw (← c.self.view_is) at c.requires.first) (rw (← c.self.view_is) at fits))

pub returns-clause-table : goal.returns-clause-table
returns-clause-table g c = IsTable-by _ _ _ (invariant_of-self g c).0
