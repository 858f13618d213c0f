use Rattle.std.proofs.Common.{refl, sym}
use Rattle.lru_model.proofs.PairLists.NamedPlaces.{named_value, no_named_value}
use Rattle.lru_model.proofs.States.Promotions.{written_is_map}
use Rattle.schnellru.proofs.Maps.Writes.{same_follow}
use Rattle.schnellru.proofs.map.LruMap.peek_mut.Goals as goal

pub returns-in_err-b : goal.returns-in_err-b
returns-in_err-b g c = let names = g.Q.LookupKey.names c.args.key.now in
    rw c.from_residual.ensures (
      refl,
      record {
        writes_back = tt;
        value = sym (no_named_value names c.args.self.now.pairs c.in_err-b.ensures.none);
        map = λ last. written_is_map _ names last c.find.ensures.map;
      },
    )

pub returns : goal.returns
returns g c =
    let names = g.Q.LookupKey.names c.args.key.now in let one = g.met.Q.LookupKey.laws.one c.args.key.now in
    let at = c.in_ok-b.ensures.found in let (key, found) = c.value_in_mut.ensures.pair names one at in (
      same_follow _ _ _ (λ w. c.value_in_mut.ensures.written names w at),
      record {
        writes_back = tt;
        value = sym (named_value names c.args.self.now.pairs (key, c.value_in_mut.result.now) found);
        map = λ last. written_is_map _ names last c.find.ensures.map;
      },
    )
