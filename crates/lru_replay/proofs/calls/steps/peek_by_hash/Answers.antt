use Rattle.std.proofs.Common.{rules, refl}
use Rattle.lru_model.proofs.CallerLemmas.{given-found, given-tag, none-found}
use Rattle.lru_replay.specs.Steps.{found, not_found}
use Rattle.lru_replay.proofs.calls.steps.peek_by_hash.Goals as goal

pub returns-in-Some : goal.returns-in-Some
returns-in-Some g c =
    let (key, given) = c.in-Some.ensures.found in
    found _ (given-found g.met.K.Eq.laws c.args.key.now (λ k v r h called. search rules)
    c.len-len.ensures.map.distinct _ given) (given-tag _ given) refl

pub returns-in-None : goal.returns-in-None
returns-in-None g c =
    not_found (none-found g.met.K.Eq.laws c.args.key.now (λ k v r h called. search rules) c.in-None.ensures.none) refl
