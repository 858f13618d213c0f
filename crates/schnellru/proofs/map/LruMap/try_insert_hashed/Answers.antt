use Rattle.lru_model.proofs.Theorems.AdmittedPairs.{try_ends}
use Rattle.schnellru.proofs.map.LruMap.try_insert_hashed.Goals as goal

pub returns-clause-ends : goal.returns-clause-ends
returns-clause-ends g c = try_ends g.L.Admission.terms g.L.Limiter.rules g.K.PartialEq.eq g.S.KeyHasher.hash_of
    c.args.key c.args.value c.args.self.now c.show_map.ensures.sized _ _ c.show_map-2.ensures.sized
    c.try_insert_if_absent-inserted.ensures
