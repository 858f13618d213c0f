use Rattle.std.proofs.Common.{[], Ok, refl, ap}
use Rattle.lru_model.specs.Place.{placed, refused, no_memory}
use Rattle.lru_model.specs.Callbacks.{noting, noted}
use Rattle.lru_model.proofs.Theorems.Ways.{placed_some}
use Rattle.schnellru.proofs.map.LruMap.insert_without_bucket.Goals as goal

pub returns-in_err-store_without_bucket : goal.returns-in_err-store_without_bucket
returns-in_err-store_without_bucket g c = record {
  passed =
      λ first before taken.
      let (after, has, step) = c.in_err-store_without_bucket.ensures.passed first before taken in
      (after, has, (no_memory, noted after c.store_without_bucket.new.self, step, (c.from_residual.ensures.0, refl)));
}

pub returns-then-not-branch : goal.returns-then-not-branch
returns-then-not-branch g c = record {
  passed =
      λ first before taken.
      let (after, has, step) = c.in_ok-store_without_bucket.ensures.passed first before taken in (
        after,
        has,
        (
          refused,
          noted after c.store_without_bucket.new.self,
          rw c.if-not-branch.true at step,
          (refl, refl),
        ),
      );
}

pub evict_over_limit-requires-clause-some : goal.evict_over_limit-requires-clause-some
evict_over_limit-requires-clause-some g c =
    let (list, _, step) = c.in_ok-store_without_bucket.ensures.passed c.args.sink.now [] refl in
    placed_some (noting g.L.Limiter.rules) _ c.args.pair (noted [] c.args.self.now)
    (noted list c.store_without_bucket.new.self) (rw c.if-not-branch.false at step)

pub returns : goal.returns
returns g c = record {
  passed =
      λ first before taken.
      let (stored, has, step) = c.in_ok-store_without_bucket.ensures.passed first before taken in
      let (after, in_all, trimmed) = c.evict_over_limit.ensures.passed first stored has in (
        after,
        in_all,
        (
          placed,
          noted stored c.store_without_bucket.new.self,
          rw c.if-not-branch.false at step,
          (ap Ok c.evict_over_limit.ensures.left, trimmed),
        ),
      );
}

pub evict_over_limit-requires-clause-callable : goal.evict_over_limit-requires-clause-callable
evict_over_limit-requires-clause-callable g c =
    c.in_ok-store_without_bucket.ensures.callable (ap Ok c.if-not-branch.false)
