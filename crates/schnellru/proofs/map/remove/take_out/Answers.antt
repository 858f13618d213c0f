use Rattle.schnellru.proofs.map.remove.take_out.Goals as goal

pub returns-clause-taken : goal.returns-clause-taken
returns-clause-taken g c = record {
  pair = c.take.result;
  takes = c.take.ensures.taken;
  left = c.notify.ensures.pair;
  notified = c.notify.ensures.limiter;
}
