use Rattle.std.proofs.Common.{◌∷◌, nat_eq, ap, ◌∙◌}
use Rattle.std.proofs.lemmas.Bool.{eqb-true}
use Rattle.lru_model.specs.Lists.{without}
use Rattle.lru_model.proofs.CallerLemmas.{plain-changes_none, stored-came}
use Rattle.schnellru_tests.proofs.callers.put_and_show.Goals as goal

pub returns : goal.returns
returns g c = record {
  shown = λ told.
      let old = c.args.map.now in
      let key = c.args.key in
      let (passed, takes, passes) = c.insert_with.ensures.passed in
      let law = c.nothing_is_lost.ensures.stored key c.args.value old passed c.insert_with.new.self in
      let (pair, stored, all) = law (plain-changes_none _ _) (rw told at passes) in
      let is = stored-came _ _ nat_eq key c.args.value old pair (eqb-true key) stored in
      (passed, takes, all ∙ ap (λ p. p ∷ without (nat_eq key) old.pairs) is);
}
