use Rattle.std.proofs.Common.{rules, refl, sym, subst}
use Rattle.std.specs.Map.Iter.{deref_pair_mut}
use Rattle.lru_model.specs.Lists.{set_value_at}
use Rattle.lru_model.specs.Runs.{RunWithoutInsert}
use Rattle.lru_model.specs.State.{IsMap}
use Rattle.lru_model.proofs.EveryCall.{no_step, writes_at}
use Rattle.schnellru.specs.Walks.{walk_map, walk_start}
use Rattle.schnellru_tests.proofs.every_call.walk.Goals as goal

pub returns-then-len-gt0 : goal.returns-then-len-gt0
returns-then-len-gt0 g c =
    let is = c.iter_mut-walk.ensures.map in
    let old = walk_map c.iter_mut-walk.result in
    let at = walk_start c.iter_mut-walk.result in
    let new = record old { pairs = set_value_at old.pairs at c.args.value } in
    let map = subst (IsMap g.K.PartialEq.eq) (sym is) c.len-len.ensures.map in
    subst (λ st. RunWithoutInsert g.L.Limiter.rules g.S.KeyHasher.hash_of st c.args.map.now) (search rules)
    (subst (λ st. RunWithoutInsert g.L.Limiter.rules g.S.KeyHasher.hash_of new st) is
    (writes_at g.met.K.Eq.laws at (deref_pair_mut c.lend_next-place.result) c.args.value map
    c.lend_next-place.ensures.value refl))

pub returns-else-len-gt0 : goal.returns-else-len-gt0
returns-else-len-gt0 g c =
    subst (λ st. RunWithoutInsert g.L.Limiter.rules g.S.KeyHasher.hash_of st c.args.map.now) (search rules)
    (no_step c.iter_mut-walk.ensures.map)
