use Rattle.std.proofs.Common.{sym}
use Rattle.schnellru.proofs.map.LruMap.peek_key_value.Goals as goal

pub returns : goal.returns
returns g c = sym (c.pair_in.ensures (g.Q.LookupKey.names c.args.key.now)
    (g.met.Q.LookupKey.laws.one c.args.key.now) c.in_ok-b.ensures.found)
