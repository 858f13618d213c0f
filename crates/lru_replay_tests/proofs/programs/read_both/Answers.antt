use Rattle.lru_replay_tests.proofs.programs.read_both.Goals as goal

pub returns : goal.returns
returns g c = c.more_capacity_never_misses_more.ensures.misses c.args.texts.now c.in_ok-read_through.field-0
    c.in_ok-read_through-2.field-0 c.args.small.now c.read_through.new.map c.args.large.now c.read_through-2.new.map
    c.in_ok-read_through.ensures.run c.in_ok-read_through-2.ensures.run c.requires.ordered c.requires.included
