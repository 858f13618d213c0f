use Rattle.std.proofs.Common.{[], ◌∷◌, ◌++◌, refl}
use Rattle.schnellru.specs.Inside.Holds.{state_of}
use Rattle.lru_model.proofs.States.CallablePairs.{here, one_callable}
use Rattle.schnellru.specs.Inside.Fields.{fields_of}
use Rattle.schnellru.proofs.Maps.NotedStates.{takes_more, noted_unstored}
use Rattle.schnellru.proofs.map.LruMap.pass_unstored.Goals as goal

pub sink-requires : goal.sink-requires
sink-requires g c = let left = c.notify-key.result in let (others, callable) = c.requires.callable in
    one_callable g.L.Limiter.rules g.F.FnMut (c.args.pair ∷ others) c.self.inside.limiter c.args.pair left
    (here c.args.pair others) c.notify-key.ensures.pair c.args.sink.now callable

pub returns : goal.returns
returns g c =
    let m = c.self.inside in
    let rest = fields_of m (g.L.LinkType.LinkType.number g.L.LinkType.LinkType.MAX) in
    let left = c.notify-key.result in
    record {
      passed = λ first before taken. (
        before ++ left ∷ [],
        takes_more g.F.FnMut first before c.args.sink.now left c.sink.new.self taken c.sink.ensures,
        rw (← c.self.view_is) (noted_unstored g.L.Limiter.rules before (state_of m.entries rest) _ c.args.pair left
            c.notify-key.new.limiter refl c.notify-key.ensures.limiter c.notify-key.ensures.pair),
      );
    }
