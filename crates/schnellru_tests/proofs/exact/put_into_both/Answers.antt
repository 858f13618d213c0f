use Rattle.std.proofs.Common.{nat_eq, Ok, refl, sym, subst}
use Rattle.lru_limits.specs.Limiters.{length_rules, length_terms, length_offers}
use Rattle.lru_model.proofs.CallerLemmas.{offers_of-determined}
use Rattle.lru_model.specs.Exact.{at_once, InsertsInList}
use Rattle.lru_model.specs.State.{contents}
use Rattle.schnellru_tests.proofs.exact.put_into_both.Goals as goal

pub returns : goal.returns
returns c =
    let key = c.args.key in let value = c.args.value in let one = c.args.one.now in let other = c.args.other.now in
    let kept = c.in_ok-insert.field-0 in let left = contents c.insert.new.self in
    let kept_too = c.in_ok-insert-2.field-0 in let left_too = contents c.insert-2.new.self in
    let listed = c.granted_inserts_are_exact.ensures key value in
    (c.inserts_are_exact_unless_refused.ensures.alike (λ s pair. at_once) key value (contents one) (Ok kept)
    (Ok kept_too) left left_too (offers_of-determined length_terms) refl refl
    (listed one (Ok kept) c.insert.new.self (λ s bytes. (refl, refl)) c.requires.tables.0 c.in_ok-insert.ensures.step)
    (subst (λ d. InsertsInList length_rules length_offers nat_eq key value d (Ok kept_too) left_too) (sym c.requires.same)
    (listed other (Ok kept_too) c.insert-2.new.self (λ s bytes. (refl, refl)) c.requires.tables.1 c.in_ok-insert-2.ensures.step))).1
