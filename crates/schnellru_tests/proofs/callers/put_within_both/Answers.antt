use Rattle.std.proofs.Common.{◌≤◌, length, sym, subst}
use Rattle.lru_limits.specs.Limits.{length-limits, memory-limits, both-first_memory, both-second_length}
use Rattle.lru_limits.specs.Limiters.{length_rules, length_terms, memory_rules, all_terms}
use Rattle.lru_model.specs.Runs.Step.{inserts}
use Rattle.lru_model.specs.Theorems.{UsesAtMost}
use Rattle.schnellru_tests.proofs.callers.put_within_both.Goals as goal

pub returns : goal.returns
returns c =
    let old = c.args.map.now in let new = c.insert.new.self in
    let step = inserts c.args.key c.args.value c.insert.result c.insert.ensures.step in
    let short = both-second_length memory_rules length_rules all_terms length_terms length-limits in
    let small = both-first_memory memory_rules length_rules all_terms length_terms memory-limits in
    let length_law = c.calls_keep_the_length.ensures in
    let usage_law = c.calls_keep_the_memory_usage.ensures in
    record {
      length = subst (λ most. length new.pairs ≤ most) (sym (length_law.limit _ short old new step))
          (length_law.length _ short old new step c.requires.length);
      usage = subst (λ most. UsesAtMost most new) (sym (usage_law.limit _ small old new step))
          (usage_law.usage _ small old new step c.requires.usage);
    }
