use Rattle.lru_model.specs.Extends.{InsertsAll}
use Rattle.schnellru.proofs.map.LruMap.try_extend.Given as goal

abbrev pub invariant-loop-key : goal.invariant-loop-key
invariant-loop-key g l = InsertsAll g.L.Limiter.rules g.L.Insertion.offers g.K.PartialEq.eq g.S.KeyHasher.hash_of
    l.fn.self l.yielded l.self
