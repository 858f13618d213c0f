use Rattle.std.proofs.Common.{◌≡◌, true}
use Rattle.std.proofs.lemmas.Option.{IfSome_then}
use Rattle.ordered_table.proofs.Tables.ByHash.{gives_by_hash, gives_none_by_hash}
use Rattle.ordered_table.proofs.Tables.BucketPairs.{pair_found, place_found}
use Rattle.ordered_table.proofs.Tables.KeyHashes.{if_none}
use Rattle.schnellru.proofs.map.LruMap.find_by.Goals as goal

pub returns-clause-found : goal.returns-clause-found
returns-clause-found g c =
    let m = c.self.inside in let t = m.entries in let holds = c.self.invariant in
    let laws = g.met.K.Eq.laws in let hash_of = g.S.KeyHasher.hash_of m.hasher in
    rw (← c.self.view_is) (IfSome_then c.find_by.result c.find_by.ensures.found (λ b found.
    let p = found.accepted.pair in let names = g.K.PartialEq.eq p.0 in
    let one : (x y : _) → names x ≡ true → names y ≡ g.K.PartialEq.eq x y = λ x y h. laws.congr p.0 x y h in (
      p,
      gives_by_hash t holds.linked laws holds.map.distinct hash_of holds.fits c.args.hash g.F.FnMut c.args.is_eq b found,
      pair_found t holds.linked b p found.accepted.there names laws one holds.map.distinct (laws.refl p.0),
      place_found t holds.linked b p found.accepted.there names laws one holds.map.distinct (laws.refl p.0),
    )))

pub returns-clause-none : goal.returns-clause-none
returns-clause-none g c =
    let m = c.self.inside in let holds = c.self.invariant in let hash_of = g.S.KeyHasher.hash_of m.hasher in
    rw (← c.self.view_is) (if_none c.find_by.result
    (gives_none_by_hash m.entries holds.linked g.met.K.Eq.laws holds.map.distinct hash_of holds.fits c.args.hash
    g.F.FnMut c.args.is_eq) c.find_by.ensures.none)

pub returns-clause-there : goal.returns-clause-there
returns-clause-there g c =
    rw (← c.self.view_is) (IfSome_then c.find_by.result c.find_by.ensures.full c.self.invariant.linked.all)
