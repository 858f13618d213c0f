use Rattle.std.proofs.Common.{[], refl, subst}
use Rattle.lru_limits.specs.Admissions.{offers_of}
use Rattle.lru_model.specs.Inserts.{Insert}
use Rattle.lru_model.proofs.Theorems.AdmittedPairs.{adds}
use Rattle.lru_model.proofs.Theorems.PlainInserts.{plain_insert}
use Rattle.schnellru.proofs.map.LruMap.add.Goals as goal

pub returns : goal.returns
returns g c =
    let step = plain_insert (c.insert_new.ensures.passed _ [] refl).2 in
    let added = adds g.L.Admission.terms g.L.Limiter.rules g.K.PartialEq.eq
    c.args.key c.args.value c.args.self.now _ c.insert_new.new.self c.requires.storable c.requires.absent
    c.requires.growth_left
    step in
    subst (λ r. Insert g.L.Limiter.rules (offers_of g.L.Admission.terms) g.K.PartialEq.eq g.S.KeyHasher.hash_of c.args.key
    c.args.value
    c.args.self.now r c.insert_new.new.self) added.answer step
