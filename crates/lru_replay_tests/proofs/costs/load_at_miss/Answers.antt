use Rattle.std.proofs.Common.{◌∙◌, ℕ, Vec, refl, sym}
use Rattle.std.specs.Prelude.{vec_len}
use Rattle.std.specs.String.{string_eq}
use Rattle.std.specs.declared.alloc.Global.{Global}
use Rattle.std.specs.declared.string.String.{String}
use Rattle.lru_replay.proofs.ReferenceLoops.{copy_equal, fault_found, fault_absent}
use Rattle.lru_replay.specs.References.{CostsAlike}
use Rattle.lru_replay_tests.proofs.costs.load_at_miss.Goals as goal

pub returns-in-Some : goal.returns-in-Some
returns-in-Some g c =
    let text = c.args.text.now in let found = sym c.in-Some.ensures.value in
    let alike : CostsAlike string_eq (λ key bytes. vec_len bytes) g.L.Source.size =
    record { keys = g.met.L.Source.alike; pairs = λ key other bytes same. refl } in record {
      reference = c.calls_make_references.ensures.gets (λ key bytes. vec_len bytes) g.L.Source.size (string_eq text) text _ _
          c.args.map.now alike c.requires.keeps refl found refl;
      loaded = fault_found string_eq text c.args.map.now.pairs _ found;
    }

pub returns : goal.returns
returns g c =
    let text = c.args.text.now in let copy = c.in_ok-clone.field-0 in let law = c.calls_make_references.ensures in
    let old = c.args.map.now in let new = c.insert.new.self in
    let weight = λ (key : String Global) (bytes : Vec ℕ Global). vec_len bytes in
    let alike : CostsAlike string_eq weight g.L.Source.size =
    record { keys = g.met.L.Source.alike; pairs = λ key other bytes same. refl } in
    let equal = copy_equal copy text c.in_ok-clone.ensures.cases in
    let size = alike.keys copy text equal in record {
      reference = law.equal weight g.L.Source.size text copy old new alike equal
          (law.inserts weight g.L.Source.size copy c.in_ok-bytes.bytes c.in_ok-insert.field-0 old new alike c.requires.keeps
          c.insert.ensures.map.sized (c.in_ok-bytes.ensures ∙ sym size) (rw size c.requires.cheap)
          c.in_ok-insert.ensures.step);
      loaded = fault_absent string_eq text old.pairs (sym c.in_default.ensures.value);
    }
