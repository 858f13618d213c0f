use Rattle.std.proofs.Common.{◌≡◌, sym, subst}
use Rattle.lru_model.specs.Calls.{promoted, written}
use Rattle.lru_model.specs.Lists.{lookup}
use Rattle.std.proofs.Common.{Some}
use Rattle.lru_replay.specs.References.{Reference, of_cost}
use Rattle.lru_replay.proofs.CostReferences.{known_costs, got_refers, promoted_refers}
use Rattle.lru_replay.proofs.ReferenceSteps.{tries_refers, remembers_refers, equal_refers}
use Rattle.lru_replay.proofs.costs.calls_make_references.Goals as goal

pub returns : goal.returns
returns g c =
    let laws = g.met.K.Eq.laws in let eq = g.K.PartialEq.eq in
    record {
      inserts = λ weight cost key value kept old new alike keeps sized priced cheap h.
          (known_costs laws weight cost alike).insert key value old kept new keeps (priced, cheap) sized h;
      tries = λ weight cost key value old new alike keeps sized priced cheap h.
          tries_refers (known_costs laws weight cost alike) key value old new keeps sized (priced, cheap) h;
      gets = λ weight cost names key value left old alike keeps same found kept.
          subst (λ test. Reference (of_cost eq weight cost) key old (written test left (promoted test old))) (sym same)
          (got_refers laws weight cost alike key value left old keeps
          (subst (λ test. lookup test old.pairs ≡ Some value) same found) kept);
      promotes = λ weight cost names key value old alike keeps same found.
          subst (λ test. Reference (of_cost eq weight cost) key old (promoted test old)) (sym same)
          (promoted_refers laws weight cost alike key value old keeps
          (subst (λ test. lookup test old.pairs ≡ Some value) same found));
      remembers = λ weight cost key value kept old new alike keeps sized ok priced cheap h.
          remembers_refers (known_costs laws weight cost alike) key value old kept new keeps sized ok (priced, cheap) h;
      equal = λ weight cost key other old new alike same h. equal_refers {hash_of = g.S.KeyHasher.hash_of} (known_costs laws weight cost alike) key other old new same h;
    }
