use Rattle.std.proofs.Common.{sym, ◌∙◌, subst}
use Rattle.lru_model.specs.State.{contents, Leaves}
use Rattle.lru_model.specs.Callbacks.{noting, noted}
use Rattle.lru_model.proofs.States.LeavingPairs.{leaves_self, trim-within}
use Rattle.schnellru.proofs.map.LruMap.evict_over_limit.Goals as goal

pub returns-else-is_over_the_limit-clause-passed : goal.returns-else-is_over_the_limit-clause-passed
returns-else-is_over_the_limit-clause-passed g c =
    let rules = g.L.Limiter.rules in let st = c.args.self.now in
    let within = sym c.is_over_the_limit.ensures ∙ c.if-is_over_the_limit.false in
    λ first before taken. (
      before,
      taken,
      subst (λ left. Leaves (noted before st) left (noted before st))
          (sym (trim-within (noting rules) (contents (noted before st)) within)) (leaves_self (noted before st)),
    )
