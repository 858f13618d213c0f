use Rattle.std.proofs.lemmas.Result.{err_from_is_err_and}
use Rattle.lru_model.specs.Extends.{no_insert, one_insert_more}
use Rattle.schnellru.proofs.map.LruMap.try_extend.Goals as goal

pub loop-key-init : goal.loop-key-init
loop-key-init g c = no_insert

pub loop-key-preserved : goal.loop-key-preserved
loop-key-preserved g c =
    one_insert_more c.loop-key.invariant c.in-Some.key c.in-Some.value c.in_ok-insert.field-0 _
    c.in_ok-insert.ensures.step
    c.in_ok-insert.ensures.map.sized

pub returns-in_err-insert-clause-inserts : goal.returns-in_err-insert-clause-inserts
returns-in_err-insert-clause-inserts g c =
    let exit = err_from_is_err_and c.from_residual.result c.from_residual.ensures.1 in
    rw exit.1 (
      c.into_iter-key-iterator.result,
      c.into_iter-key-iterator.ensures.into_iter_gives,
      (
        c.loop-key.yielded,
        (c.in-Some.key, c.in-Some.value),
        c.next.new.self,
        (c.loop-key.key-iterator, c.loop-key.yielded_by, c.in-Some.ensures.steps),
        record {
          before = c.loop-key.self;
          inserted = c.loop-key.invariant;
          error = c.in_err-insert.field-0.0;
          fails = c.in_err-insert.ensures.step;
        },
      ),
    )
