use Rattle.schnellru.proofs.map.remove.take_out_oldest.Goals as goal

pub returns-clause-taken : goal.returns-clause-taken
returns-clause-taken g c = let (b, is, took) = c.take_oldest.ensures.taken in (
  b,
  is,
  record {
    pair = c.take_oldest.result;
    takes = took;
    left = c.notify.ensures.pair;
    notified = c.notify.ensures.limiter;
  },
)
