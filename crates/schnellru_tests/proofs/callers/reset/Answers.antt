use Rattle.std.proofs.Common.{◌∙◌, ap, arith, rules}
use Rattle.lru_model.specs.Lists.{set_value_at}
use Rattle.schnellru.specs.Walks.{walk_start}
use Rattle.schnellru_tests.proofs.ResetPairs.{reset_next, reset_all}
use Rattle.schnellru_tests.proofs.callers.reset.Goals as goal

pub pairs-preserved : goal.pairs-preserved
pairs-preserved c = let i = c.pairs.invariant in let old = c.args.map.now in let n = walk_start c.pairs.walk in record {
  map = (λ k. record (i.map k) { pairs = set_value_at (i.map k).pairs n 0 })
      ∙ ap (λ ps. record old { pairs = ps }) (reset_next n old.pairs);
  same_reference = i.same_reference;
  end = i.end;
}

pub returns : goal.returns
returns c = let i = c.pairs.invariant in let old = c.args.map.now in
    let all = i.map ∙ ap (λ ps. record old { pairs = ps })
    (reset_all (walk_start c.pairs.walk) old.pairs (omega (arith, i.end, c.len.ensures, c.pairs-test.false))) in
    search rules
