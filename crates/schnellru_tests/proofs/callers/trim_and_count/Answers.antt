use Rattle.std.proofs.Common.{◌≡◌, refl, arith}
use Rattle.lru_limits.specs.Limiters.{length_rules}
use Rattle.lru_model.proofs.CallbackLemmas.{each_by}
use Rattle.schnellru_tests.proofs.callers.trim_and_count.Goals as goal

pub trim_with-requires : goal.trim_with-requires
trim_with-requires c = let len = c.len-len.ensures.len in let small = c.len-len.type_inv in record {
  callable = each_by length_rules _ c.args.map.now.pairs (λ m f. f.0.now ≡ m)
      (λ m f pair few is left. omega (arith, is, few, len, small))
      (λ m f g pair few is left called. omega (arith, is, called.met)) _ refl;
}
