use Rattle.std.proofs.Common.{ℕ, Vec, vec_len, refl}
use Rattle.std.specs.declared.alloc.Global.{Global}
use Rattle.std.specs.declared.string.String.{String}
use Rattle.lru_replay_tests.proofs.costs.remember.Goals as goal

pub returns : goal.returns
returns g c = λ size alike keeps priced cheap. c.gets_that_insert_make_references.ensures
    (λ (key : String Global) (bytes : Vec ℕ Global). vec_len bytes) size c.args.make c.args.text c.in_ok-kept.kept
    c.args.map.now c.ensure_newest.new.self (record { keys = alike; pairs = λ key other bytes same. refl }) keeps
    c.ensure_newest.ensures.map.sized priced cheap c.in_ok-kept.ensures.step
