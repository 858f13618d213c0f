use Rattle.std.proofs.Common.{sym, ap, ◌∙◌, is_some}
use Rattle.lru_limits.specs.Texts.{names_text}
use Rattle.lru_model.specs.Calls.{promoted}
use Rattle.lru_model.proofs.CallerLemmas.{promoted-absent, written-absent}
use Rattle.lru_model.proofs.PairLists.NamedPlaces.{no_named_value}
use Rattle.schnellru_tests.proofs.found.refresh.Goals as goal

pub returns-in-None-clause-there : goal.returns-in-None-clause-there
returns-in-None-clause-there c =
    sym (ap is_some (no_named_value (names_text c.args.text.now) c.args.map.now.pairs c.in-None.ensures.none))

pub returns-in-None-clause-map : goal.returns-in-None-clause-map
returns-in-None-clause-map c = let names = names_text c.args.text.now in let old = c.args.map.now in
    let none = no_named_value names old.pairs c.in-None.ensures.none in
    (rw c.in-None.is at c.find_entry.follows.holds-at-none) ∙ sym (promoted-absent names old none)
    ∙ ap (promoted names) (sym (written-absent names old c.args.value none))
