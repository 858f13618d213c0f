use Rattle.std.proofs.Common.{[], map, sym, ◌∙◌}
use Rattle.std.specs.Str.{bytes_eq}
use Rattle.std.specs.String.{string_bytes}
use Rattle.lru_replay_tests.proofs.MappedKeys.{mapped_misses}
use Rattle.lru_replay_tests.proofs.curves.predict.Goals as goal

pub returns-clause-curve : goal.returns-clause-curve
returns-clause-curve c = let texts = c.args.texts.now in
    c.misses.ensures.all [] (map string_bytes texts) c.in_ok-curve.ensures
    ∙ sym (mapped_misses string_bytes bytes_eq c.args.length [] texts)
