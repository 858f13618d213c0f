use Rattle.lru_replay_tests.proofs.programs.remember.Goals as goal

pub returns : goal.returns
returns g c = c.gets_that_insert_make_references.ensures c.args.make c.args.text c.in_ok-kept.kept c.args.map.now
    c.ensure_newest.new.self c.requires.keeps c.ensure_newest.ensures.map.sized c.in_ok-kept.ensures.step
