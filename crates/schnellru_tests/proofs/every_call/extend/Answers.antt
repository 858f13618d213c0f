use Rattle.std.proofs.Common.{Bool, ℕ, List, Result, Ok, Err}
use Rattle.std.specs.Prelude.{MatchResult}
use Rattle.std.specs.declared.alloc.AllocError.{AllocError}
use Rattle.lru_limits.specs.Rules.{Rules, Offers}
use Rattle.lru_model.specs.Extends.{InsertsAll, FailsAt}
use Rattle.lru_model.specs.Runs.{Step, Run}
use Rattle.lru_model.specs.State.{State, IsSized}
use Rattle.lru_model.proofs.EveryCall.{inserts_all, fails_at}
use Rattle.schnellru_tests.proofs.every_call.extend.Goals as goal

extends : {K V S H I R T : Type 0} {rules : Rules K V S} {offers : Offers K V S I} {names : I → K → Bool}
    {hash_of : H → K → ℕ} {old new : State K V S H} (drains : List (I × V) → Type 0)
    (yields : List (I × V) → I × V → R → Type 0) (result : Result T AllocError) → IsSized new
    → MatchResult result
    (λ _. (pairs : List (I × V)) × drains pairs × InsertsAll rules offers names hash_of old pairs new)
    (λ _. (pairs : List (I × V)) × (pair : I × V) × (rest : R) × yields pairs pair rest
    × FailsAt rules offers names hash_of old pairs pair new)
    → Run (Step rules offers names hash_of) new old
extends drains yields (Ok done) sized (pairs, drained, all) = inserts_all pairs all
extends drains yields (Err error) sized (pairs, pair, rest, yielded, fails) = fails_at pairs pair fails sized

pub returns : goal.returns
returns g c = extends _ _ c.try_extend.result c.try_extend.ensures.map.sized c.try_extend.ensures.inserts.2
