use Rattle.std.proofs.Common.{◌≡◌, ◌-◌, ◌<◌, ◌≤◌, ◌++◌, length, arith, ap, ◌∙◌, subst, inl, refl}
use Rattle.lru_model.specs.Drains.{pops_first, oldest_given}
use Rattle.lru_model.specs.State.{contents, Leaves, pops}
use Rattle.lru_model.proofs.CallerLemmas.{leaves_trans}
use Rattle.lru_replay.proofs.Pops.{from_newest, from_oldest, length-many, many_enough, all_enough}
use Rattle.lru_replay.proofs.calls.pairs.drain_pairs.Goals as goal

pub returns : goal.returns
returns g c =
    let rules = g.L.Limiter.rules in
    let old = c.args.map.now in
    let begun = contents old in
    let n = c.min-newest.result in
    let m = c.min-oldest.result in
    let front = c.args.front in
    let back = c.args.back in
    let mid = contents c.take_newest.new.map in
    let few : n ≤ front = omega (arith, c.min-newest.ensures) in
    let all : n < front → length old.pairs ≤ n = λ less. omega (arith, c.min-newest.ensures, c.len.ensures.len, less) in
    let popped : mid ≡ pops_first rules front begun =
    ap contents c.take_newest.ensures.left.is ∙ many_enough (from_newest rules) front n begun few all in
    let shorter : length mid.pairs ≡ length old.pairs - n =
    ap (λ d. length d.pairs) (ap contents c.take_newest.ensures.left.is) ∙ length-many (from_newest rules) n begun in
    let few_left : m ≤ back = omega (arith, c.min-oldest.ensures) in
    let all_left : m < back → length mid.pairs ≤ m =
    λ less. omega (arith, c.min-oldest.ensures, c.len-2.ensures.len, shorter, less) in
    let given = c.take_newest.ensures.pairs
    ∙ (λ i. c.in-Ok.ensures.items i ++ all_enough (from_newest rules) front n begun few all i) in
    let given_left = all_enough (from_oldest rules) back m mid few_left all_left
    ∙ ap (oldest_given rules back) popped in
    let left = many_enough (from_oldest rules) back m mid few_left all_left ∙ ap (pops rules back) popped in
    inl (
      c.take_oldest.new.pairs.items,
      record {
        pairs = c.take_oldest.ensures.pairs ∙ (λ i. given i ++ given_left i);
        state = (
          c.take_oldest.new.map,
          subst (λ d. Leaves old d c.take_oldest.new.map) left
              (leaves_trans old c.take_newest.new.map c.take_oldest.new.map (pops_first rules n begun)
              (pops rules m mid) c.take_newest.ensures.left c.take_oldest.ensures.left),
          c.clear.ensures.step,
        );
      },
      refl,
    )
