use Rattle.lru_replay_tests.proofs.caches.load.Goals as goal

pub returns : goal.returns
returns g c = let step = c.in_ok-value.ensures.step in (
  step.0,
  λ ok. c.calls_make_references.ensures.remembers
      c.args.key c.in_ok-value.value step.0 c.args.loader.now.map c.load.new.self.map c.requires.keeps
      c.load.ensures.map.sized ok step.1,
)
