use Rattle.std.proofs.Common.{◌+◌, ◌-◌, ◌*◌, ◌≤◌, length, sym, subst}
use Rattle.lru_model.specs.Lists.{keys_of}
use Rattle.lru_replay.proofs.references.maps_are_competitive.Goals as goal

pub returns : goal.returns
returns g c =
    let law = c.lru_is_competitive.ensures in
    let count = c.references_keep_the_newest.ensures.misses in
    record {
      loads = λ trace missed old new h paid first left distinct within run few served.
          subst (λ n. (old.limiter + 1 - h) * n ≤ old.limiter * paid + (old.limiter + 1 - h) * length first)
          (sym (count trace missed old new distinct within run))
          (law.loads old.limiter h (keys_of old.pairs) trace first left paid few served);
      demands = λ trace missed old new h paid first left distinct within run few fits served.
          subst (λ n. (old.limiter + 1 - h) * n ≤ old.limiter * paid + (old.limiter + 1 - h) * length first)
          (sym (count trace missed old new distinct within run))
          (law.demands old.limiter h (keys_of old.pairs) trace first left paid few fits served);
      bypasses = λ trace missed old new h paid first left distinct within run few served.
          subst (λ n. (old.limiter - h) * n ≤ old.limiter * paid + (old.limiter - h) * length first)
          (sym (count trace missed old new distinct within run))
          (law.bypasses old.limiter h (keys_of old.pairs) trace first left paid few served);
    }
