use Rattle.std.proofs.Common.{◌≤◌, refl, sym, subst}
use Rattle.std.proofs.lemmas.List.Elements.{All-get_or}
use Rattle.lru_replay.proofs.ReferenceLoops.{loop_begins, loop_goes_on, loop_ends}
use Rattle.lru_replay_tests.proofs.costs.read_through.Goals as goal

pub loop-text-init : goal.loop-text-init
loop-text-init g c = loop_begins c.requires.keeps

pub load_at_miss-requires : goal.load_at_miss-requires
load_at_miss-requires g c = let loop = c.loop-text.invariant in record {
  keeps = loop.keeps;
  cheap = rw loop.limit (subst (λ text. g.L.Source.size text ≤ c.args.map.now.limiter.limit) (sym c.text-item.is)
      (All-get_or (λ text. g.L.Source.size text ≤ c.args.map.now.limiter.limit) c.args.texts.now c.loop-text.text-index _
      c.loop-text-test.true c.requires.cheap));
}

pub loop-text-preserved : goal.loop-text-preserved
loop-text-preserved g c = let call = c.in_ok-count.ensures in loop_goes_on c.in_ok-count.field-0
    c.loop-text.invariant c.loop-text-test.true c.text-item.is call.reference call.loaded

pub returns : goal.returns
returns g c = let run = loop_ends c.loop-text.invariant c.loop-text-test.false in record {
  run = run;
  count = c.references_keep_the_newest.ensures.misses _ _ c.args.texts.now c.loop-text.count c.args.map.now c.loop-text.map
      (record { keys = g.met.L.Source.alike; pairs = λ key other bytes same. refl }) run;
}
