use Rattle.std.proofs.Common.{inl, subst, string_capacity}
use Rattle.lru_limits.specs.Bytes.{both_own, block_bytes}
use Rattle.lru_limits.specs.Texts.{names_text}
use Rattle.lru_model.specs.Theorems.{TakesAtMost}
use Rattle.lru_model.specs.Runs.{ends, goes_on}
use Rattle.lru_model.specs.Runs.Step.{inserts, updates, removes, shrinks}
use Rattle.schnellru_tests.proofs.bytes.change.Goals as goal

pub returns : goal.returns
returns c =
    let law = c.runs_keep_the_bytes.ensures in let old = c.args.map.now in let new = c.shrink_to_fit.new.self in
    let insert = c.insert-kept.ensures in let update = c.update.ensures in let remove = c.remove.ensures in
    let shrink = c.shrink_to_fit.ensures in
    let run = goes_on c.insert-kept.new.self (inl (inserts c.args.key c.args.text c.insert-kept.result insert.step))
    insert.map.sized
    (goes_on c.update.new.self (inl (updates c.args.other c.args.new c.update.result update.step)) update.map.sized
    (goes_on c.remove.new.self (inl (removes (names_text c.args.old.now) c.remove.result remove.step)) remove.map.sized
    (goes_on new (inl (shrinks c.shrink_to_fit.result shrink.step)) shrink.map.sized ends))) in
    let keeps = law.kept old new c.len-len.ensures.map.sized run c.requires in record {
      keeps = keeps;
      memory = subst (λ n. TakesAtMost (both_own (λ k. block_bytes (string_capacity k))
          (λ v. block_bytes (string_capacity v))) n new) (law.limit old new c.len-len.ensures.map.sized run c.requires)
          (c.calls_keep_the_bytes.ensures.memory new keeps);
    }
