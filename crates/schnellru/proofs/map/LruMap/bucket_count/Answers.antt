use Rattle.std.proofs.Common.{ap, sym, ◌∙◌}
use Rattle.group_table.proofs.BucketLemmas.{length-bucket_states}
use Rattle.schnellru.proofs.map.LruMap.bucket_count.Goals as goal

pub returns-clause-count : goal.returns-clause-count
returns-clause-count g c = rw (← c.self.view_is)
    (c.buckets.ensures.buckets ∙ sym (length-bucket_states c.self.inside.entries.slots))

pub returns-clause-max : goal.returns-clause-max
returns-clause-max g c = ap (λ st. st.max) (sym c.self.view_is)
