use Rattle.std.proofs.Common.{Ok, inr, refl, ap, sym, ◌∙◌, subst}
use Rattle.lru_model.specs.State.{buckets}
use Rattle.lru_model.specs.Place.{placed, in_bucket, FillsBucket}
use Rattle.lru_model.specs.Callbacks.{noted}
use Rattle.schnellru.proofs.Maps.NotedStates.{noted_placed}
use Rattle.lru_model.proofs.PairLists.Emptiness.{some-length}
use Rattle.lru_model.specs.MayTake.{MayTakeEach}
use Rattle.schnellru.proofs.map.LruMap.insert_without_growth.Goals as goal

pub insert_without_bucket-requires-in-Err-clause-absent : goal.insert_without_bucket-requires-in-Err-clause-absent
insert_without_bucket-requires-in-Err-clause-absent g c =
    rw (c.in-Err.ensures.returned, c.in-Err.ensures.unchanged) c.requires.absent

pub insert_without_bucket-requires-in-Err-clause-hash : goal.insert_without_bucket-requires-in-Err-clause-hash
insert_without_bucket-requires-in-Err-clause-hash g c =
    rw (c.in-Err.ensures.returned, c.in-Err.ensures.unchanged) c.requires.hash

pub insert_without_bucket-requires-in-Err-clause-no_bucket : goal.insert_without_bucket-requires-in-Err-clause-no_bucket
insert_without_bucket-requires-in-Err-clause-no_bucket g c =
    rw c.in-Err.ensures.unchanged c.in-Err.ensures.no_bucket

pub returns-in-Ok : goal.returns-in-Ok
returns-in-Ok g c = record {
  passed =
      let old = c.args.self.now in let new = c.store_in_bucket.new.self in let stored = c.in-Ok.ensures in
      λ first before taken.
      let (after, in_all, trimmed) = c.evict_over_limit.ensures.passed first before taken in (
        after,
        in_all,
        (
          placed,
          noted before new,
          in_bucket stored.within (inr (some-length old.pairs (sym c.is_empty.ensures ∙ c.if-is_empty.false)))
              (subst (λ h. FillsBucket h old.table new.table) c.requires.hash
              stored.fills) refl
              (noted_placed before (c.args.key, c.args.value) (buckets old) 0 old new stored.placed),
          (ap Ok c.evict_over_limit.ensures.left, trimmed),
        ),
      );
}

pub returns-in-Err : goal.returns-in-Err
returns-in-Err g c = record {
  passed =
      λ first before taken.
      let (after, has, step) = c.insert_without_bucket-in-Err.ensures.passed first before taken in
      (after, has, rw (← c.in-Err.ensures.returned, ← c.in-Err.ensures.unchanged) step);
}

pub insert_without_bucket-requires-in-Err-clause-callable : goal.insert_without_bucket-requires-in-Err-clause-callable
insert_without_bucket-requires-in-Err-clause-callable g c =
    rw (c.in-Err.ensures.returned, c.in-Err.ensures.unchanged) c.requires.callable

pub evict_over_limit-requires-clause-callable : goal.evict_over_limit-requires-clause-callable
evict_over_limit-requires-clause-callable g c =
    subst (λ pairs. MayTakeEach g.L.Limiter.rules g.F.FnMut pairs c.args.sink.now)
    (sym (ap (λ st. st.pairs) c.in-Ok.ensures.placed.state)) c.requires.callable
