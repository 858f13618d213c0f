use Rattle.std.proofs.Common.{sym, ◌∙◌}
use Rattle.lru_model.specs.Clones.{IsPairClone}
use Rattle.schnellru.specs.Inside.Holds.{counts_of, state_of}
use Rattle.ordered_table.specs.OrderedTable.{pairs_of}
use Rattle.schnellru.specs.Inside.Fields.{fields_of}
use Rattle.schnellru.proofs.Maps.HeldMaps.{copied_holds}
use Rattle.lru_model.proofs.PairLists.DistinctKeys.{distinct_same}
use Rattle.schnellru.proofs.map.LruMap.clone.Goals as goal

pub invariant_of-result : goal.invariant_of-result
invariant_of-result g c =
    let m = c.self.inside in let holds = c.self.invariant in let done = c.in_ok-entries.ensures in
    let hash_of = g.S.KeyHasher.hash_of in
    copied_holds g.K.PartialEq.eq hash_of _ m.entries c.in_ok-entries.entries done.insertions c.in_ok-limiter.limiter
    c.in_ok-hasher.hasher holds done.linked
    (done.fits (hash_of m.hasher) (hash_of c.in_ok-hasher.hasher)
    (λ key copy same. c.requires.hashers m.hasher c.in_ok-hasher.hasher c.in_ok-hasher.ensures.cases copy
    ∙ sym (g.met.S.KeyHasher.respects_eq m.hasher key copy
    (c.requires.keys key copy same))) holds.fits)
    done.states
    (distinct_same g.met.K.Eq.laws (IsPairClone g.K.Clone.is_clone g.V.Clone.is_clone)
    (λ p q r. c.requires.keys p.0 q.0 r.key)
    (pairs_of m.entries) (pairs_of c.in_ok-entries.entries) done.pairs holds.map.distinct)

pub returns-clause-clone : goal.returns-clause-clone
returns-clause-clone g c =
    let m = c.self.inside in let done = c.in_ok-entries.ensures in
    let rest = record (fields_of m (g.L.LinkType.LinkType.number g.L.LinkType.LinkType.MAX)) {
      limiter = c.in_ok-limiter.limiter;
      hasher = c.in_ok-hasher.hasher;
    } in
    rw (← c.self.view_is) (record {
      pairs = done.pairs;
      limiter = c.in_ok-limiter.ensures.cases;
      hasher = c.in_ok-hasher.ensures.cases;
      rest = λ i. record (state_of c.in_ok-entries.entries rest) {
        table = record { states = done.states i; places = done.order i };
        counts = counts_of (done.insertions i) rest;
      };
    })

pub returns-in_err-limiter-clause-succeeds : goal.returns-in_err-limiter-clause-succeeds
returns-in_err-limiter-clause-succeeds g c none limiter hasher =
    absurd (c.in_err-limiter.ensures.cases (rw (← c.self.view_is) at limiter))
