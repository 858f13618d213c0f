use Rattle.std.proofs.Common.{[], refl, ◌∙◌}
use Rattle.lru_model.specs.Inserts.{not_replaced}
use Rattle.schnellru.proofs.Maps.Offers.{replaced_some, replaced_callable, replaced_inserts}
use Rattle.schnellru.proofs.map.LruMap.insert_or_drop.Goals as goal

pub returns-then-not-accepted : goal.returns-then-not-accepted
returns-then-not-accepted g c = record {
  passed =
      λ first before taken. let (after, more, offer) = c.offer_at-accepted.ensures.passed first before taken in (
        after,
        more,
        not_replaced offer.pair offer.there (offer.taken ∙ c.if-not-accepted.true) refl
            (offer.rejected c.if-not-accepted.true),
      );
}

pub returns-else-not-accepted : goal.returns-else-not-accepted
returns-else-not-accepted g c = record {
  passed =
      λ first before taken.
      let (between, more, offer) = c.offer_at-accepted.ensures.passed first before taken in
      let (after, had, trimmed) = c.evict_over_limit.ensures.passed first between more in (
        after,
        had,
        replaced_inserts g.L.Limiter.rules g.L.Insertion.offers g.met.I.LookupKey.laws g.met.L.Insertion.laws
            offer c.if-not-accepted.false c.in-Some.ensures.found
            (c.promote_at.ensures.promoted (g.I.LookupKey.names c.args.key) (g.met.I.LookupKey.laws.one c.args.key))
            g.S.KeyHasher.hash_of c.evict_over_limit.ensures.left trimmed,
      );
}

pub offer_at-accepted-requires-clause-callable : goal.offer_at-accepted-requires-clause-callable
offer_at-accepted-requires-clause-callable g c = c.requires.callable.replaced.rejected

pub evict_over_limit-requires-clause-some : goal.evict_over_limit-requires-clause-some
evict_over_limit-requires-clause-some g c =
    replaced_some g.L.Limiter.rules g.L.Insertion.offers g.met.I.LookupKey.laws g.met.L.Insertion.laws
    (c.offer_at-accepted.ensures.passed c.args.sink.now [] refl).2 c.if-not-accepted.false c.in-Some.ensures.found
    (c.promote_at.ensures.promoted (g.I.LookupKey.names c.args.key) (g.met.I.LookupKey.laws.one c.args.key))

pub evict_over_limit-requires-clause-callable : goal.evict_over_limit-requires-clause-callable
evict_over_limit-requires-clause-callable g c =
    replaced_callable g.L.Limiter.rules g.L.Insertion.offers g.met.I.LookupKey.laws g.met.L.Insertion.laws
    (c.offer_at-accepted.ensures.passed c.args.sink.now [] refl).2 c.if-not-accepted.false c.in-Some.ensures.found
    (c.promote_at.ensures.promoted (g.I.LookupKey.names c.args.key) (g.met.I.LookupKey.laws.one c.args.key))
    g.F.FnMut c.args.sink.now c.offer_at-accepted.new.sink
    (c.offer_at-accepted.ensures.kept c.if-not-accepted.false) c.requires.callable.replaced
