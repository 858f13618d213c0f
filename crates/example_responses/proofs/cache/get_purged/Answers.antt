use Rattle.lru_limits.specs.Texts.{names_text}
use Rattle.example_responses.proofs.Purges.{purged-missing}
use Rattle.example_responses.proofs.cache.get_purged.Goals as goal

pub returns : goal.returns
returns c = purged-missing (names_text c.args.host.now) c.args.prefix.now c.args.path.now c.args.now c.requires.below
    _ _ _ _ _ c.in_ok-purge_below.ensures c.get.ensures.gets
