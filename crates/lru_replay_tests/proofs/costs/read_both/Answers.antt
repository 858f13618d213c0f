use Rattle.std.proofs.Common.{ℕ, Vec, vec_len, refl}
use Rattle.std.specs.declared.alloc.Global.{Global}
use Rattle.std.specs.declared.string.String.{String}
use Rattle.lru_replay_tests.proofs.costs.read_both.Goals as goal

pub returns : goal.returns
returns g c = c.more_capacity_never_misses_more.ensures.misses
    (λ (key : String Global) (bytes : Vec ℕ Global). vec_len bytes) g.L.Source.size c.args.texts.now
    c.in_ok-read_through.field-0 c.in_ok-read_through-2.field-0 c.args.small.now c.read_through.new.map
    c.args.large.now c.read_through-2.new.map
    (record { keys = g.met.L.Source.alike; pairs = λ key other bytes same. refl }) c.in_ok-read_through.ensures.run
    c.in_ok-read_through-2.ensures.run c.requires.ordered c.requires.newest
