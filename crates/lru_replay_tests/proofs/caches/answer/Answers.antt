use Rattle.lru_replay_tests.proofs.caches.answer.Goals as goal

pub returns : goal.returns
returns g c = let call = c.answer.ensures in (
  call.step.0,
  λ ok. c.calls_make_references.ensures.remembers c.args.key
      c.answer.result call.step.0 c.args.memo.now.map c.answer.new.self.map c.requires.keeps call.map.sized ok call.step.1,
)
