use Rattle.std.proofs.Common.{sym}
use Rattle.std.specs.Map.Iter.{deref_pair}
use Rattle.lru_model.proofs.PairLists.NamedPlaces.{named_value, no_named_value}
use Rattle.schnellru.proofs.map.LruMap.peek.Goals as goal

pub returns-in_err-b : goal.returns-in_err-b
returns-in_err-b g c = rw c.from_residual.ensures
    (sym (no_named_value (g.Q.LookupKey.names c.args.key.now) c.args.self.now.pairs c.in_err-b.ensures.none))

pub returns : goal.returns
returns g c = let names = g.Q.LookupKey.names c.args.key.now in
    sym (named_value names c.args.self.now.pairs (deref_pair c.pair_in.result)
    (c.pair_in.ensures names (g.met.Q.LookupKey.laws.one c.args.key.now) c.in_ok-b.ensures.found))
