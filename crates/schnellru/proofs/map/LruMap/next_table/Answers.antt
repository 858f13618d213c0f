use Rattle.std.proofs.Common.{◌≡◌, ◌<◌, ◌+◌, length, ap, ◌∙◌, sym, subst, arith}
use Rattle.lru_model.specs.Sizes.{target, larger}
use Rattle.lru_model.specs.Place.{table_for}
use Rattle.lru_model.proofs.TableSizes.NextTable.{if_larger, larger_count, larger_reached, larger_usable, larger_half}
use Rattle.schnellru.proofs.map.LruMap.next_table.Goals as goal

pub larger_table-requires-clause-count : goal.larger_table-requires-clause-count
larger_table-requires-clause-count g c = rw c.bucket_count.ensures.count c.bucket_count.ensures.map.sized.table.count

pub returns : goal.returns
returns g c =
    let st = c.args.self.now in let more = c.args.more in let result = c.larger_table.result in
    let table = c.bucket_count.ensures in let ok = table.map.sized in let len = c.len.ensures.len in
    let some : 0 < length st.pairs + more = omega (arith, c.requires.half) in
    let max = c.into_usize-max.ensures ∙ ap g.L.LinkType.LinkType.number c.MAX.ensures ∙ sym table.max in
    let bytes = ap (λ st. st.entry_bytes) c.self.view_is in
    let next : larger result ≡ table_for more st = c.larger_table.ensures
    ∙ (λ i. target (max i) (bytes i) (table.count i) (len i + more)) in record {
      next = next;
      count = if_larger more st ok some _ (larger_count more st ok some) result next;
      reached = if_larger more st ok some _ (λ count bytes is. subst (λ most. count < most) table.max
          (larger_reached more st ok some count bytes is)) result next;
      usable = if_larger more st ok some _ (larger_usable more st ok some) result next;
      half = if_larger more st ok some _ (larger_half more st ok some) result next;
    }
