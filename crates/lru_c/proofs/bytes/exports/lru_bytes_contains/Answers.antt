use Rattle.std.proofs.Common.{rules, refl}
use Rattle.lru_c.proofs.HandleMaps.{on_map}
use Rattle.lru_c.proofs.bytes.exports.lru_bytes_contains.Goals as goal

pub returns-in-Some : goal.returns-in-Some
returns-in-Some c =
    on_map _ _ c.args.lru.now.map c.put.new.self.map c.deref.result.now c.deref.result.now
    (search rules) (search rules) (c.contains-answer.ensures, refl)
