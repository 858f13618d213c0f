use Rattle.std.proofs.Common.{sym, subst, string_capacity}
use Rattle.lru_limits.specs.Bytes.{both_own, block_bytes}
use Rattle.lru_model.specs.Theorems.{KeepsBytes}
use Rattle.lru_model.specs.State.{empty_map}
use Rattle.schnellru_tests.proofs.bytes.cache_of_texts.Goals as goal

pub returns-clause-keeps : goal.returns-clause-keeps
returns-clause-keeps c =
    let (hasher, default, is) = c.with_limiter.ensures in
    subst (KeepsBytes (both_own (λ k. block_bytes (string_capacity k)) (λ v. block_bytes (string_capacity v)))) (sym is)
    (subst (λ b. KeepsBytes (both_own (λ k. block_bytes (string_capacity k)) (λ v. block_bytes (string_capacity v)))
    (empty_map b hasher _ _)) (sym c.new.ensures) (c.calls_keep_the_bytes.ensures.begins _ _ hasher))
