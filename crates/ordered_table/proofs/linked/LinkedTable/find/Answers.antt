use Rattle.std.proofs.Common.{rules, ap, sym, ◌∙◌}
use Rattle.std.specs.Prelude.{option_map}
use Rattle.std.proofs.lemmas.Option.{IfSome_then}
use Rattle.group_table.proofs.CallerLemmas.{Finds-test, FindsNone-test}
use Rattle.ordered_table.proofs.Tables.PairSlots.{pair_of, entry_at-pair_slots, entry_of-pair_at, Fits-entries}
use Rattle.ordered_table.proofs.Tables.KeyHashes.{if_none, hash_in-entry}
use Rattle.ordered_table.proofs.linked.LinkedTable.find.Goals as goal

pub returns-clause-found : goal.returns-clause-found
returns-clause-found g c = rw (← c.self.view_is) (IfSome_then c.find.result c.find.ensures.found (λ b found.
    let w = Finds-test _ c.self.inside.chain.table.slots _ (λ entry. g.Q.LookupKey.names c.args.key.now entry.key)
    (λ x r f k. search rules) c.args.hash b found in
    (pair_of w.0, entry_at-pair_slots c.self.inside.chain.table.slots b ∙ ap (option_map pair_of) w.1, w.2)))

pub returns-clause-none : goal.returns-clause-none
returns-clause-none g c = rw (← c.self.view_is) (if_none c.find.result (λ none hash_of fits b pair there same.
    let w = entry_of-pair_at c.self.inside.chain.table.slots b pair there in
    let hash = hash_in-entry hash_of _ b pair there ∙ same in
    let refused = FindsNone-test _ c.self.inside.chain.table.slots _
    (λ entry. g.Q.LookupKey.names c.args.key.now entry.key) (λ x r f k. search rules) c.args.hash none
    _ (Fits-entries c.self.inside.chain.table.slots _ fits) b w.0 hash w.1 in
    ap (λ p. g.Q.LookupKey.names c.args.key.now p.0) (sym w.2) ∙ refused) c.find.ensures.none)
