use Rattle.std.proofs.Common.{[], ◌∷◌, nat_eq, ap, ◌∙◌}
use Rattle.lru_model.specs.Lists.{keys_of}
use Rattle.lru_replay.proofs.ReferenceLoops.{keys_referred}
use Rattle.lru_theory.specs.Traces.{refer}
use Rattle.lru_replay_tests.proofs.caches.read.Goals as goal

pub returns : goal.returns
returns g c =
    let most = c.args.cache.now.capacity in
    let plain = c.without_pins_the_newest_stay.ensures c.requires.plain c.requires.unpinned c.args.n _ in
    let refers = ap keys_of (c.in_ok-block.ensures.pages ∙ plain)
    ∙ keys_referred nat_eq c.args.n most _ c.args.cache.now.pages in record {
      refers = refers;
      newest = λ past is. refers ∙ ap (refer nat_eq most c.args.n) is
          ∙ c.a_cache_is_the_newest.ensures.keys most past (c.args.n ∷ []);
    }
