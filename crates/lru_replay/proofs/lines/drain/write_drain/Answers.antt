use Rattle.std.proofs.Common.{◌<◌, ◌≤◌, [], ◌++◌, length, option_to_list, sym, ap, ◌∙◌, subst, arith}
use Rattle.std.proofs.lemmas.List.{append-nil}
use Rattle.lru_model.specs.State.{contents, Leaves}
use Rattle.lru_model.specs.Drains.{newest_given}
use Rattle.lru_replay.specs.Output.{Writes, taken_text}
use Rattle.lru_replay.proofs.DrainedPairs.{spaced, spaced-more, spaced-end, some-more}
use Rattle.lru_replay.proofs.Pops.{from_newest, one_popped, many_enough, all_enough}
use Rattle.lru_replay.proofs.lines.drain.write_drain.Goals as goal

pub loop-preserved : goal.loop-preserved
loop-preserved g c =
    let (pairs, given, leaves, any, wrote) = c.loop.invariant in
    let taken = c.pop_newest-taken in let popped = taken.ensures.step in
    let next = one_popped (from_newest g.L.Limiter.rules) [] c.args.map.now c.loop.map taken.new.self c.loop.counter pairs
    (option_to_list taken.result) given (ap option_to_list popped.pair) leaves popped.state in (
      pairs ++ option_to_list taken.result,
      next.0,
      next.1,
      some-more c.loop.any c.is_some-any.result pairs taken.result any c.is_some-any.ensures,
      subst (Writes (g.W.Write.contents c.args.writer.now)
          (g.W.Write.contents c.write_taken-written.new.writer) c.write_taken-written.result)
          (ap (λ a. spaced pairs ++ taken_text a taken.result) any ∙ sym (spaced-more pairs taken.result))
          (c.write_taken-written.ensures (g.W.Write.contents c.args.writer.now) (spaced pairs) wrote),
    )

pub returns : goal.returns
returns g c =
    let (pairs, given, leaves, any, wrote) = c.loop.invariant in
    let rules = g.L.Limiter.rules in
    let old = c.args.map.now in
    let k = c.loop.counter in
    let within : k ≤ c.args.most = omega (arith, c.min-count.ensures, c.len.ensures.len, c.loop.auto.counter-end) in
    let enough : k < c.args.most → length old.pairs
    ≤ k = λ less. omega (arith, c.min-count.ensures, c.len.ensures.len, c.loop-test.false) in (
      pairs,
      record {
        pairs = given ∙ all_enough (from_newest rules) c.args.most k (contents old) within enough
            ∙ sym (append-nil (newest_given rules c.args.most (contents old)));
        state = (
          c.loop.map,
          subst (λ d. Leaves old d c.loop.map)
              (many_enough (from_newest rules) c.args.most k (contents old) within enough) leaves,
          c.clear.ensures.step,
        );
      },
      subst (Writes (g.W.Write.contents c.args.writer.now)
          (g.W.Write.contents c.end_of_pairs.new.writer) c.end_of_pairs.result) (spaced-end pairs c.loop.any any)
          (c.end_of_pairs.ensures (g.W.Write.contents c.args.writer.now) (spaced pairs) wrote),
    )
