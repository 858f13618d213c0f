use Rattle.lru_model.specs.Runs.{calls, inserts, updates, pops_newest, ends, goes_on}
use Rattle.schnellru_tests.proofs.callers.put_and_update.Goals as goal

pub returns : goal.returns
returns c =
    let old = c.args.map.now in let new = c.update.new.self in
    let run = goes_on c.insert.new.self
    (calls (inserts c.args.first c.args.value c.insert.result c.insert.ensures.step)) c.insert.ensures.map.sized
    (goes_on c.pop_newest.new.self (calls (pops_newest c.pop_newest.result c.pop_newest.ensures.step))
    c.pop_newest.ensures.map.sized
    (goes_on new (calls (updates c.args.second c.args.value c.update.result c.update.ensures.step))
    c.update.ensures.map.sized ends)) in record {
      oldest = (run, c.runs_evict_the_oldest.ensures.given old new run);
      keys = (c.runs_keep_maps.ensures.map old new run c.len-len.ensures.map).distinct;
      paid = c.runs_pay_for_moves.ensures.rise old new run c.len-len.ensures.map.sized;
    }
