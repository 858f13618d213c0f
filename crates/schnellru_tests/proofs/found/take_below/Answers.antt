use Rattle.std.proofs.Common.{◌≡◌, ◌<◌, Option, Some, None, option_map, refl, sym, ◌∙◌, subst}
use Rattle.std.proofs.lemmas.Option.{same_Some}
use Rattle.lru_limits.specs.Texts.{names_text}
use Rattle.lru_model.specs.Lists.{lookup_entry}
use Rattle.lru_model.proofs.CallerLemmas.{promoted-absent}
use Rattle.lru_model.proofs.PairLists.NamedPlaces.{no_named_value, named_value}
use Rattle.schnellru_tests.proofs.found.take_below.Goals as goal

unchanged : {X : Type 0} (o : Option X) → option_map (λ x. x) o ≡ o
unchanged None = refl
unchanged (Some x) = refl

pub returns-in_err-entry-clause-stays : goal.returns-in_err-entry-clause-stays
returns-in_err-entry-clause-stays c = λ _. let names = names_text c.args.text.now in let old = c.args.map.now in
    (rw c.in_err-entry.was at c.find_entry.follows.holds-at-none)
    ∙ sym (promoted-absent names old (no_named_value names old.pairs c.in_err-entry.ensures.none))

pub returns-then-get-least-clause-below : goal.returns-then-get-least-clause-below
returns-then-get-least-clause-below c =
    let names = names_text c.args.text.now in let map = c.in_ok-entry.entry.map.now in
    let pair = c.remove_entry.result in let on = c.in_ok-entry.ensures.found in
    let there = sym ((c.remove_entry.ensures.step names on).pair ∙ unchanged (lookup_entry names map.pairs)) in
    let value = same_Some pair.1 c.get.result.now (sym (named_value names map.pairs pair there)
    ∙ c.get.ensures names on) in
    subst (λ n. n < c.args.least) (sym value) c.if-get-least.true
