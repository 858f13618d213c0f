use Rattle.std.proofs.Common.{◌≡◌, true, false, ap, sym, ◌∙◌, subst, [], ◌∷◌, Some, length}
use Rattle.std.specs.Fn.{Called}
use Rattle.std.proofs.lemmas.Option.{same_Some}
use Rattle.ordered_table.specs.OrderedTable.{with_pair}
use Rattle.schnellru.specs.Inside.Steps.{IsReplaced, IsRemoved}
use Rattle.schnellru.specs.Inside.Passing.{PassesRemoved}
use Rattle.schnellru.proofs.Maps.Replacements.{if_accepted, is_removed, left_as_notified}
use Rattle.lru_model.specs.Inserts.{unkept_of}
use Rattle.lru_model.proofs.States.CallablePairs.{here, one_callable}
use Rattle.schnellru.proofs.map.replace.offer.Goals as goal

pub returns-then-accepted-clause-taken : goal.returns-then-accepted-clause-taken
returns-then-accepted-clause-taken g c = λ pair there.
    let done = c.offer-accepted.ensures.offered in
    subst (λ p. true ≡ (g.L.Insertion.offers.on_replace c.args.limiter.now (length c.args.entries.now.order) p.0
    c.args.key p.1 c.args.value).taken) (same_Some done.pair pair (sym done.there ∙ there))
    (sym c.if-accepted.true ∙ done.offered.taken)

pub returns-then-accepted-clause-unkept : goal.returns-then-accepted-clause-unkept
returns-then-accepted-clause-unkept g c = λ pair there.
    let done = c.offer-accepted.ensures.offered in
    subst (λ p. c.offer-accepted.new.value ≡ unkept_of (g.L.Insertion.offers.on_replace c.args.limiter.now
    (length c.args.entries.now.order) p.0 c.args.key p.1 c.args.value))
    (same_Some done.pair pair (sym done.there ∙ there)) done.offered.unkept

pub returns-then-accepted-clause-replaced : goal.returns-then-accepted-clause-replaced
returns-then-accepted-clause-replaced g c = λ accepted pair there.
    let done = c.offer-accepted.ensures.offered in
    subst (λ p. IsReplaced (g.L.Insertion.offers.on_replace c.args.limiter.now (length c.args.entries.now.order) p.0
    c.args.key p.1 c.args.value) c.args.b c.args.entries.now c.offer-accepted.new.self c.offer-accepted.new.limiter)
    (same_Some done.pair pair (sym done.there ∙ there))
    (record {
      slots = ap (λ t. t.slots) done.table ∙ ap (λ p. (with_pair c.args.entries.now c.args.b p).slots)
          (if_accepted done.offered c.if-accepted.true);
      order = ap (λ t. t.order) done.table;
      insertions = ap (λ t. t.insertions) done.table;
      notified = done.offered.notified;
    })

pub returns-then-accepted-clause-fits : goal.returns-then-accepted-clause-fits
returns-then-accepted-clause-fits g c = λ hash_of alike fit.
    let named = c.requires.there in
    c.offer-accepted.ensures.fits hash_of fit (λ pair there. alike pair.0 _
    (g.met.L.Insertion.laws.keeps_key c.args.limiter.now (length c.args.entries.now.order) pair.0 c.args.key pair.1
    c.args.value (subst (λ p. g.I.LookupKey.names c.args.key p.0 ≡ true)
    (same_Some named.0 pair (sym named.1 ∙ there)) named.2)))

pub returns-else-accepted-clause-taken : goal.returns-else-accepted-clause-taken
returns-else-accepted-clause-taken g c = λ pair there.
    let done = c.offer-accepted.ensures.offered in
    subst (λ p. false ≡ (g.L.Insertion.offers.on_replace c.args.limiter.now (length c.args.entries.now.order) p.0
    c.args.key p.1 c.args.value).taken) (same_Some done.pair pair (sym done.there ∙ there))
    (sym c.if-accepted.false ∙ done.offered.taken)

pub returns-else-accepted-clause-unkept : goal.returns-else-accepted-clause-unkept
returns-else-accepted-clause-unkept g c = λ pair there.
    let done = c.offer-accepted.ensures.offered in
    subst (λ p. c.offer-accepted.new.value ≡ unkept_of (g.L.Insertion.offers.on_replace c.args.limiter.now
    (length c.args.entries.now.order) p.0 c.args.key p.1 c.args.value))
    (same_Some done.pair pair (sym done.there ∙ there)) done.offered.unkept

pub returns-else-accepted-clause-removed : goal.returns-else-accepted-clause-removed
returns-else-accepted-clause-removed g c = λ refusal pair there.
    let done = c.offer-accepted.ensures.offered in
    subst (λ p. IsRemoved g.L.Limiter.rules (g.L.Insertion.offers.on_replace c.args.limiter.now
    (length c.args.entries.now.order) p.0 c.args.key p.1 c.args.value) c.args.b c.args.entries.now
    c.take_out-key.new.entries c.take_out-key.new.limiter)
    (same_Some done.pair pair (sym done.there ∙ there))
    (is_removed done.offered g.L.Limiter.rules c.if-accepted.false c.args.entries.now done.there done.table c.take_out-key.ensures.taken)

pub returns-else-accepted-clause-fits : goal.returns-else-accepted-clause-fits
returns-else-accepted-clause-fits g c = λ hash_of alike fit.
    let named = c.requires.there in
    c.take_out-key.ensures.fits hash_of (c.offer-accepted.ensures.fits hash_of fit (λ pair there. alike pair.0 _
    (g.met.L.Insertion.laws.keeps_key c.args.limiter.now (length c.args.entries.now.order) pair.0 c.args.key pair.1
    c.args.value (subst (λ p. g.I.LookupKey.names c.args.key p.0 ≡ true)
    (same_Some named.0 pair (sym named.1 ∙ there)) named.2))))

pub returns-else-accepted-clause-passed : goal.returns-else-accepted-clause-passed
returns-else-accepted-clause-passed g c = λ refusal pair there.
    let done = c.offer-accepted.ensures.offered in let rules = g.L.Limiter.rules in
    subst (λ p. PassesRemoved g.F.FnMut rules (g.L.Insertion.offers.on_replace c.args.limiter.now
    (length c.args.entries.now.order) p.0 c.args.key p.1 c.args.value) c.args.sink.now c.sink.new.self)
    (same_Some done.pair pair (sym done.there ∙ there))
    (subst (λ p. Called g.F.FnMut c.args.sink.now (p.0, (p.1, tt)) tt c.sink.new.self)
    (left_as_notified done.offered rules c.if-accepted.false c.args.entries.now done.there done.table c.take_out-key.ensures.taken)
    c.sink.ensures)

pub sink-requires : goal.sink-requires
sink-requires g c =
    let done = c.offer-accepted.ensures.offered in let rules = g.L.Limiter.rules in
    let replaced = g.L.Insertion.offers.on_replace c.args.limiter.now (length c.args.entries.now.order) done.pair.0
    c.args.key done.pair.1 c.args.value in
    let left = left_as_notified done.offered rules c.if-accepted.false c.args.entries.now done.there done.table
    c.take_out-key.ensures.taken in
    one_callable rules g.F.FnMut ((replaced.key, replaced.old_value) ∷ []) replaced.limiter
    (replaced.key, replaced.old_value) c.take_out-key.result (here (replaced.key, replaced.old_value) []) (ap Some left)
    c.args.sink.now
    (c.requires.callable done.pair done.there (sym done.offered.taken ∙ c.if-accepted.false))
