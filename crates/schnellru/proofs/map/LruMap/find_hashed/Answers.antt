use Rattle.ordered_table.proofs.Tables.Searches.{found_place, not_found}
use Rattle.ordered_table.proofs.Tables.KeyHashes.{if_none}
use Rattle.schnellru.proofs.map.LruMap.find_hashed.Goals as goal

pub returns-clause-found : goal.returns-clause-found
returns-clause-found g c =
    let m = c.self.inside in let holds = c.self.invariant in
    rw (← c.self.view_is) (found_place m.entries holds.linked (g.Q.LookupKey.names c.args.key.now) g.met.K.Eq.laws
    (g.met.Q.LookupKey.laws.one c.args.key.now) holds.map.distinct c.find.result c.find.ensures.found)

pub returns-clause-none : goal.returns-clause-none
returns-clause-none g c =
    let m = c.self.inside in let holds = c.self.invariant in let hash_of = g.S.KeyHasher.hash_of m.hasher in
    rw (← c.self.view_is) (if_none c.find.result
    (λ none. not_found m.entries holds.linked (g.Q.LookupKey.names c.args.key.now) hash_of c.args.hash
    (rw (← c.self.view_is) at c.requires.hash) (none hash_of holds.fits)) c.find.ensures.none)
