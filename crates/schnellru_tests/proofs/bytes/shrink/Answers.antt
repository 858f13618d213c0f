use Rattle.std.proofs.Common.{sym, ◌∙◌, arith}
use Rattle.std.proofs.lemmas.Option.{same_Some}
use Rattle.lru_model.specs.Runs.Step.{shrinks}
use Rattle.schnellru_tests.proofs.bytes.shrink.Goals as goal

pub returns : goal.returns
returns c =
    let law = c.calls_keep_the_bytes.ensures in let mid = c.shrink_to_fit.new.self in
    let kept = law.kept c.args.map.now mid c.len-len.ensures.map.sized
    (shrinks c.shrink_to_fit.result c.shrink_to_fit.ensures.step) c.requires in
    let (bytes, is, most) = kept.counts.table in
    let same = same_Some bytes c.memory_usage.result (sym is ∙ c.memory_usage.ensures) in
    let counted = record mid { limiter = record mid.limiter { table = c.memory_usage.result } } in
    law.trimmed counted c.set_limiter.new.self
    (record { table = (c.memory_usage.result, c.memory_usage.ensures, omega arith); owned = kept.counts.owned })
    (omega (arith, same, most, kept.within))
    (rw (c.with_table-limiter.ensures, c.limiter.ensures) at c.set_limiter.ensures.step)
