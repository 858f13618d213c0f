use Rattle.std.proofs.Common.{[]}
use Rattle.lru_replay.specs.References.{begins}
use Rattle.lru_replay_tests.proofs.programs.insert_new.Goals as goal

pub returns : goal.returns
returns c =
    let old = c.args.map.now in let new = c.insert.new.self in
    c.programs_make_references.ensures.misses [] 0 c.args.text old old new begins c.requires.absent
    (c.calls_make_references.ensures.inserts c.args.text c.args.value c.in_ok-kept.kept old new c.requires.keeps
    c.insert.ensures.map.sized c.in_ok-kept.ensures.step)
