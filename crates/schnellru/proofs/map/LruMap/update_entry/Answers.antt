use Rattle.std.proofs.Common.{[], ap, refl, ◌∙◌, ◌∷◌, arith}
use Rattle.lru_model.specs.Callbacks.{noting, noted}
use Rattle.lru_model.specs.Updates.{updated, rejected}
use Rattle.lru_model.specs.declared.results.Updated.TheVariants.{Replaced, Rejected}
use Rattle.lru_model.proofs.States.LeavingPairs.{leaves_trimmed}
use Rattle.schnellru.proofs.Maps.Offers.{offered_old, offered_new, offered_any}
use Rattle.lru_model.specs.Inserts.{with_new_value}
use Rattle.lru_model.specs.Lists.{set_entry, without}
use Rattle.lru_model.specs.State.{contents}
use Rattle.lru_model.proofs.States.CallablePairs.{covers_set, fewer_callable}
use Rattle.lru_model.proofs.PairLists.SetEntries.{length-set_entry}
use Rattle.lru_model.proofs.Theorems.Limits.{length-without_found}
use Rattle.schnellru.proofs.map.LruMap.update_entry.Goals as goal

pub returns-then-not-accepted : goal.returns-then-not-accepted
returns-then-not-accepted g c = record {
  passed =
      λ first before taken. let e = c.if-not-accepted.true in
      let (after, more, offer) = c.offer_at-accepted.ensures.passed first before taken in (
        after,
        more,
        rejected offer.pair offer.there (offer.taken ∙ e) (ap Rejected (offered_new offer e)) (offer.rejected e),
      );
}

pub evict_over_limit-requires-clause-some : goal.evict_over_limit-requires-clause-some
evict_over_limit-requires-clause-some g c =
    offered_any (c.offer_at-accepted.ensures.passed c.args.sink.now [] refl).2 c.if-not-accepted.false

pub returns : goal.returns
returns g c = record {
  passed =
      λ first before taken. let e = c.if-not-accepted.false in
      let (between, more, offer) = c.offer_at-accepted.ensures.passed first before taken in
      let (after, had, trimmed) = c.evict_over_limit.ensures.passed first between more in (
        after,
        had,
        updated offer.pair offer.there (offer.taken ∙ e) (ap Replaced (offered_old offer e))
            (leaves_trimmed (noting g.L.Limiter.rules) (noted before c.args.self.now)
            (noted between c.offer_at-accepted.new.self) (noted after c.evict_over_limit.new.self) _ (offer.accepted e)
            trimmed),
      );
}

pub offer_at-accepted-requires-clause-callable : goal.offer_at-accepted-requires-clause-callable
offer_at-accepted-requires-clause-callable g c = c.requires.callable.rejected

pub evict_over_limit-requires-clause-callable : goal.evict_over_limit-requires-clause-callable
evict_over_limit-requires-clause-callable g c = let yes = c.if-not-accepted.false in
    let old = c.args.self.now in let names = g.I.LookupKey.names c.args.key in
    let offer = (c.offer_at-accepted.ensures.passed c.args.sink.now [] refl).2 in
    let new = with_new_value g.L.Limiter.rules g.L.Insertion.offers g.I.LookupKey.names offer.pair c.args.key
    c.args.value (contents old) in
    let may = c.requires.callable.accepted offer.pair offer.there (offer.taken ∙ yes) in
    let set = fewer_callable g.L.Limiter.rules g.F.FnMut (new ∷ without names old.pairs)
    (set_entry names new old.pairs) (covers_set names new old.pairs)
    (omega (arith, length-set_entry names new old.pairs, length-without_found names old.pairs offer.pair offer.there))
    c.args.sink.now may in
    rw (c.offer_at-accepted.ensures.kept yes, ap (λ st. st.pairs) (offer.accepted yes).is) set
