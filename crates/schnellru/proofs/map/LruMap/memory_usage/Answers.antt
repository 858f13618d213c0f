use Rattle.std.proofs.Common.{Some, sym, ap, ◌∙◌, arith}
use Rattle.lru_model.specs.Sizes.{usage, bytes_of}
use Rattle.lru_model.proofs.TableSizes.Growth.{usage_bytes}
use Rattle.schnellru.proofs.map.LruMap.memory_usage.Goals as goal

pub returns-then-buckets-eq0 : goal.returns-then-buckets-eq0
unfolding usage
returns-then-buckets-eq0 g c = ap (usage c.args.self.now.entry_bytes)
    (sym c.bucket_count-buckets.ensures.count ∙ c.if-buckets-eq0.true)

pub bytes_of-requires : goal.bytes_of-requires
bytes_of-requires g c =
    let st = c.args.self.now in let table = c.bucket_count-buckets.ensures in let usable = table.map.sized.usable in
    let bytes = ap (λ st. st.entry_bytes) c.self.view_is in
    rw (bytes, table.count)
    (usage_bytes st.entry_bytes _ usable.0 (omega (arith, table.count, c.if-buckets-eq0.false)) usable.1).1

pub returns : goal.returns
returns g c =
    let st = c.args.self.now in let table = c.bucket_count-buckets.ensures in let usable = table.map.sized.usable in
    let bytes = ap (λ st. st.entry_bytes) c.self.view_is in
    usable.1
    ∙ ap Some (sym (usage_bytes st.entry_bytes _ usable.0 (omega (arith, table.count, c.if-buckets-eq0.false))
    usable.1).0
    ∙ sym (c.bytes_of.ensures ∙ (λ i. bytes_of (bytes i) (table.count i))))
