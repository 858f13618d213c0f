use Rattle.std.proofs.Common.{sym, subst}
use Rattle.lru_limits.specs.Bytes.{both_own}
use Rattle.lru_model.specs.Theorems.{KeepsBytes}
use Rattle.lru_model.specs.Runs.Step.{inserts}
use Rattle.lru_tenants.proofs.bytes.tenant.ByteTenant.insert.Goals as goal

pub returns : goal.returns
returns g c =
    let law = c.calls_keep_the_bytes.ensures in let old = c.self.inside.map in let new = c.insert.new.self in
    let sized = c.len-len.ensures.map.sized in
    let step = inserts c.args.key c.args.value c.insert.result c.insert.ensures.step in
    let keeps = subst (KeepsBytes (both_own g.K.OwnedBytes.owned g.V.OwnedBytes.owned)) (sym c.self.view_is)
    c.requires in
    rw (← c.self.view_is) (record {
      inserts = c.insert.ensures.step;
      limit = law.limit old new sized step keeps;
      keeps = law.kept old new sized step keeps;
    })
