use Rattle.std.proofs.Common.{Vec, ℕ, arith}
use Rattle.std.specs.Prelude.{vec_len}
use Rattle.std.specs.declared.alloc.Global.{Global}
use Rattle.std.specs.declared.string.String.{String}
use Rattle.lru_replay_tests.proofs.costs.map_within.Goals as goal

pub returns-clause-keeps : goal.returns-clause-keeps
returns-clause-keeps g c = rw (c.new-2.ensures, c.new.ensures) (c.maps_keep_to_their_cost.ensures
    (λ (key : String Global) (bytes : Vec ℕ Global). vec_len bytes) g.L.Source.size c.args.limit 40 _ _ c.requires.small
    c.requires.dear (omega arith) (omega arith))
