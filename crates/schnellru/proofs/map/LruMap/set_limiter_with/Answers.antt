use Rattle.std.proofs.Common.{sym, subst}
use Rattle.lru_model.specs.MayTake.{MayTakeEach}
use Rattle.schnellru.proofs.map.LruMap.set_limiter_with.Goals as goal

pub trim_with-requires : goal.trim_with-requires
trim_with-requires g c = record {
  callable = subst (λ st. MayTakeEach g.L.Limiter.rules g.F.FnMut st.pairs c.args.sink.now) (sym c.self.view_is)
      c.requires.callable;
}
