use Rattle.std.proofs.Common.{rules}
use Rattle.lru_c.proofs.HandleMaps.{on_map}
use Rattle.lru_c.proofs.exports.lru_shrink.Goals as goal

pub returns-in-Some : goal.returns-in-Some
returns-in-Some c =
    on_map _ _ c.args.lru.now.map c.put.new.self.map c.deref_mut.result.now c.shrink_to_fit.new.self
    (search rules) (search rules) (c.shrink_to_fit.result, search rules, c.shrink_to_fit.ensures.step)
