use Rattle.std.proofs.Common.{◌≡◌, ◌+◌, ◌<◌, set, sum, length, sym, ap, ◌∙◌, subst, arith}
use Rattle.std.proofs.lemmas.List.{get_or_read, length-set}
use Rattle.std.specs.Option.{option_map}
use Rattle.lru_trace.specs.Counted.{IsOf}
use Rattle.lru_trace.specs.Names.{number_in}
use Rattle.lru_trace.proofs.Numbered.{small}
use Rattle.lru_trace.proofs.SizedKeys.{all_added}
use Rattle.lru_trace.proofs.CurveSteps.{place, plain_fits, plain_place, of_found, of_first, found_length}
use Rattle.lru_trace.proofs.CurveSteps.{first_length, entry_few, sum_counted}
use Rattle.lru_trace.proofs.curve.Curve.count.Goals.{After-self, In_ok-distance, in-Some, in-None}
use Rattle.lru_trace.proofs.curve.Curve.count.Goals as goal

spare : (c : After-self) → length c.self.inside.distances.recency < length c.self.inside.counts.items
spare c = omega (
  arith,
  c.requires.spare,
  ap (λ v. length v.recency) c.self.view_is,
  ap (λ v. length v.counts) c.self.view_is,
)

placed : (c : In_ok-distance)
    → place c.args.number c.self.inside.distances.recency ≡ c.in_ok-distance.field-0
placed c = sym (c.in_ok-distance.ensures.distance
    ∙ plain_place c.self.inside.distances.weights c.args.number c.self.inside.distances.recency c.self.invariant.plain)

pub refer-requires-clause-fits : goal.refer-requires-clause-fits
refer-requires-clause-fits c =
    plain_fits c.self.inside.distances.weights c.args.number c.self.inside.distances.recency c.self.invariant.plain
    (omega (
      arith,
      spare (goal.at.refer-requires-clause-fits c).After-self,
      c.self.inside.counts.ok.0,
      c.self.inside.counts.small,
    ))

pub index_mut-requires : goal.index_mut-requires
index_mut-requires c =
    let at = goal.at.index_mut-requires c in
    let within = found_length c.args.number c.in-Some.distance c.self.inside.distances.recency
    (placed at.In_ok-distance ∙ c.in-Some.is) in
    omega (arith, within.1, spare at.After-self, c.self.inside.counts.ok.0)

pub overflow_add-index_mut : goal.overflow_add-index_mut
overflow_add-index_mut c =
    let at = goal.at.overflow_add-index_mut c in
    let within = found_length c.args.number c.in-Some.distance c.self.inside.distances.recency
    (placed at.In_ok-distance ∙ c.in-Some.is) in
    let counts = c.self.inside.counts.items in
    let few = entry_few counts c.in-Some.distance in
    let read = get_or_read counts c.in-Some.distance c.index_mut.result.now
    (omega (arith, within.1, spare at.After-self)) c.index_mut.ensures.value 0 in
    omega (arith, few, read, c.self.invariant.total, c.requires.fits, ap (λ v. v.references) c.self.view_is)

pub invariant_of-self-2 : goal.invariant_of-self-2
invariant_of-self-2 c =
    let at = goal.at.invariant_of-self-2 c in
    let is = c.self.invariant in
    let recency = c.self.inside.distances.recency in
    let counts = c.self.inside.counts.items in
    let room = spare at.After-self in
    let inside = small c.self.inside.names c.args.key.now c.args.number
    (ap (λ v. number_in v.names c.args.key.now) c.self.view_is ∙ c.requires.number) in
    let within = all_added c.args.number c.self.inside.distances c.refer.new.self is.within
    c.in_ok-distance.ensures.recency (omega (arith, inside, is.numbered, c.in_ok-distance.ensures.keys))
    (omega (arith, c.in_ok-distance.ensures.keys)) in
    let numbered = is.numbered ∙ sym c.in_ok-distance.ensures.keys in
    elim c.match-branch-2.branch [
      | in-Some w ↦
          let long = found_length c.args.number w.in-Some.distance recency (placed at.In_ok-distance ∙ w.in-Some.is) in
          let read = get_or_read counts w.in-Some.distance w.index_mut.result.now (omega (arith, long.1, room))
          w.index_mut.ensures.value 0 in
          let more = ap (λ n. sum (set counts w.in-Some.distance (n + 1))) read ∙ sum_counted counts
          w.in-Some.distance (omega (arith, long.1, room)) in
          rw w.self-inside-is (record {
            numbered = numbered;
            within = within;
            firsts = is.firsts ∙ sym long.0 ∙ ap length (sym c.in_ok-distance.ensures.recency);
            few = omega (arith, is.few, length-set counts w.in-Some.distance (w.index_mut.result.now + 1));
            total = omega (arith, more, is.total);
            plain = c.in_ok-distance.ensures.weights ∙ is.plain;
          })
      | in-None w ↦
          let long = first_length c.args.number recency (placed at.In_ok-distance ∙ w.in-None.is) in
          rw w.self-inside-is (record {
            numbered = numbered;
            within = within;
            firsts = omega (arith, is.firsts, long, ap length c.in_ok-distance.ensures.recency);
            few = omega (arith, is.firsts, room);
            total = omega (arith, is.total);
            plain = c.in_ok-distance.ensures.weights ∙ is.plain;
          })
    ]

pub returns-clause-ok : goal.returns-clause-ok
returns-clause-ok c = λ warm past before was of.
    let at = goal.at.returns-clause-ok c in
    let now : IsOf warm past _ = subst (λ v. IsOf warm past (record v { kept = before })) (sym c.self.view_is) of in
    let kept = option_map (λ v. v.items) c.self.inside.kept in
    let is = ap (λ v. v.kept) c.self.view_is ∙ was in
    let counts = c.self.inside.counts.items in
    let named = ap (λ v. number_in v.names c.args.key.now) c.self.view_is ∙ c.requires.number in
    elim c.match-branch-2.branch [
      | in-Some w ↦
          let at_place = placed at.In_ok-distance ∙ w.in-Some.is in
          let long = found_length c.args.number w.in-Some.distance c.self.inside.distances.recency at_place in
          let within : w.in-Some.distance < length counts = omega (arith, long.1, spare at.After-self) in
          let read = get_or_read counts w.in-Some.distance w.index_mut.result.now within w.index_mut.ensures.value 0 in
          let one = of_found now c.args.key.now c.args.number named w.in-Some.distance at_place within kept is in
          rw (w.self-inside-is, c.in_ok-distance.ensures.recency, read) one
      | in-None w ↦
          let one = of_first now c.args.key.now c.args.number named (placed at.In_ok-distance ∙ w.in-None.is) kept is in
          rw (w.self-inside-is, c.in_ok-distance.ensures.recency) one
    ]
