use Rattle.std.proofs.Common.{sym, ap, ◌∙◌, is_some}
use Rattle.lru_limits.specs.Texts.{names_text}
use Rattle.lru_model.specs.Calls.{written}
use Rattle.lru_model.specs.Lists.{lookup}
use Rattle.lru_model.proofs.CallerLemmas.{demoted-absent, written-absent}
use Rattle.lru_model.proofs.PairLists.NamedPlaces.{no_named_value, place_says}
use Rattle.schnellru_tests.proofs.found.put_last.Goals as goal

pub returns-in-Some-clause-there : goal.returns-in-Some-clause-there
returns-in-Some-clause-there c = let names = names_text c.args.text.now in
    let map = c.in-Some.entry.map.now in
    sym (place_says names map.pairs map.table.places c.in-Some.entry.bucket c.in-Some.ensures.found.place)
    ∙ ap (λ st. is_some (lookup names st.pairs)) c.in-Some.ensures.same_map

pub returns-in-None-clause-there : goal.returns-in-None-clause-there
returns-in-None-clause-there c =
    sym (ap is_some (no_named_value (names_text c.args.text.now) c.args.map.now.pairs c.in-None.ensures.none))

pub returns-in-None-clause-map : goal.returns-in-None-clause-map
returns-in-None-clause-map c = let names = names_text c.args.text.now in let old = c.args.map.now in
    let none = no_named_value names old.pairs c.in-None.ensures.none in
    (rw c.in-None.is at c.find_entry.follows.holds-at-none) ∙ sym (written-absent names old c.args.value none)
    ∙ ap (written names c.args.value) (sym (demoted-absent names old none))
