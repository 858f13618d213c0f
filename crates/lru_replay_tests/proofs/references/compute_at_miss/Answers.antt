use Rattle.std.proofs.Common.{refl, sym}
use Rattle.std.specs.String.{string_eq}
use Rattle.lru_replay.proofs.ReferenceLoops.{copy_equal, fault_found, fault_absent}
use Rattle.lru_replay_tests.proofs.references.compute_at_miss.Goals as goal

pub returns-in-Some : goal.returns-in-Some
returns-in-Some g c =
    let text = c.args.text.now in let keeps = c.requires.keeps in let found = sym c.in-Some.ensures.value in
    let law = c.calls_make_references.ensures in record {
      reference = law.gets (string_eq text) text _ _ c.args.map.now refl keeps.within keeps.sized found;
      computed = fault_found string_eq text c.args.map.now.pairs _ found;
    }

pub returns : goal.returns
returns g c =
    let text = c.args.text.now in let copy = c.in_ok-clone.field-0 in let law = c.calls_make_references.ensures in
    let old = c.args.map.now in let new = c.insert.new.self in record {
      reference = law.equal text copy old new (copy_equal copy text c.in_ok-clone.ensures.cases) (law.inserts copy
          c.compute-value.result c.in_ok-insert.field-0 old new c.requires.keeps c.insert.ensures.map.sized
          c.in_ok-insert.ensures.step);
      computed = fault_absent string_eq text old.pairs (sym c.in_default.ensures.value);
    }
