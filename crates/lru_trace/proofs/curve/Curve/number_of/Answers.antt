use Rattle.std.proofs.Common.{◌-◌, Some, sym, ap, ◌∙◌, arith}
use Rattle.std.specs.Prelude.{nat_eq}
use Rattle.lru_theory.specs.Traces.{is_in}
use Rattle.lru_trace.specs.Names.{number_in}
use Rattle.lru_trace.proofs.Numbered.{found_more}
use Rattle.lru_trace.proofs.SizedKeys.{absent}
use Rattle.lru_trace.proofs.curve.Curve.number_of.Goals as goal

pub remove_key-requires-clause-absent : goal.remove_key-requires-clause-absent
remove_key-requires-clause-absent c = absent (c.add_key.new.self.keys - 1) c.add_key.new.self.recency (λ n e. omega (
  arith,
  c.self.invariant.within n (ap (is_in nat_eq n) (sym c.add_key.ensures.recency) ∙ e),
  c.in_ok-number.ensures.keys,
))

pub returns-in-Ok-clause-number : goal.returns-in-Ok-clause-number
returns-in-Ok-clause-number c =
    let names = c.self.inside.names in
    ap (λ all. number_in all c.args.key.now) c.in-Ok.ensures.ok
    ∙ found_more names c.args.key.now (sym c.find.ensures ∙ c.in_default.is)
    ∙ ap Some (c.self.invariant.numbered ∙ sym c.in_ok-number.ensures.key)
