use Rattle.std.proofs.Common.{◌≡◌, ℕ, length, sym, ◌∙◌, subst, true}
use Rattle.schnellru.specs.Inside.Passing.{PassesRemoved}
use Rattle.schnellru.specs.Inside.Holds.{state_of}
use Rattle.ordered_table.specs.OrderedTable.{pairs_of}
use Rattle.schnellru.specs.Inside.Steps.{IsReplaced, IsRemoved}
use Rattle.lru_model.specs.Inserts.{unkept_of}
use Rattle.schnellru.specs.Inside.Fields.{fields_of}
use Rattle.schnellru.proofs.Maps.NotedStates.{noted_offer}
use Rattle.ordered_table.proofs.Tables.BucketPairs.{pairs-length, pair_found}
use Rattle.schnellru.proofs.Maps.Replacements.{replaced_leaves, removed_leaves, offered_holds}
use Rattle.ordered_table.proofs.Tables.Searches.{pair_of_place}
use Rattle.std.proofs.lemmas.Option.{same_Some}
use Rattle.lru_model.specs.MayTake.{MayTakeRejected}
use Rattle.std.specs.Prelude.{Contains}
use Rattle.group_table.specs.Bucket.{bucket_at}
use Rattle.group_table.proofs.SearchLemmas.{full_by_entry}
use Rattle.schnellru.proofs.map.LruMap.offer_at.Goals as goal

pub offer-requires-clause-there : goal.offer-requires-clause-there
offer-requires-clause-there g c =
    let t = c.self.inside.entries in let holds = c.self.invariant in
    pair_of_place t holds.linked (g.I.LookupKey.names c.args.key) g.met.K.Eq.laws
    (g.met.I.LookupKey.laws.one c.args.key) holds.map.distinct c.args.b
    (rw (← c.self.view_is) at c.requires.found)

pub invariant_of-self : goal.invariant_of-self
invariant_of-self g c =
    let m = c.self.inside in let t = m.entries in let u = c.offer.new.entries in let l = c.offer.new.limiter in
    let holds = c.self.invariant in let b = c.args.b in let laws = g.met.K.Eq.laws in
    let names = g.I.LookupKey.names c.args.key in let one = g.met.I.LookupKey.laws.one c.args.key in
    let (was, at, named) = pair_of_place t holds.linked names laws one holds.map.distinct b
    (rw (← c.self.view_is) at c.requires.found) in
    let by = g.L.Insertion.offers.on_replace m.limiter (length t.order) was.0 c.args.key was.1 c.args.value in
    offered_holds by t u b l holds.linked c.offer.ensures.linked was at names laws one
    holds.map.distinct named _ g.L.Limiter.rules c.offer.result.0 (λ e. c.offer.ensures.replaced e was at)
    (λ e. c.offer.ensures.removed e was at) g.S.KeyHasher.hash_of
    (one was.0 by.key named ∙ g.met.L.Insertion.laws.keeps_key m.limiter (length t.order) was.0 c.args.key was.1
    c.args.value named)
    holds
    (c.offer.ensures.fits (g.S.KeyHasher.hash_of m.hasher) (g.met.S.KeyHasher.respects_eq m.hasher) holds.fits)

pub returns-clause-passed : goal.returns-clause-passed
returns-clause-passed g c =
    let m = c.self.inside in let t = m.entries in let u = c.offer.new.entries in let l = c.offer.new.limiter in
    let holds = c.self.invariant in let b = c.args.b in let laws = g.met.K.Eq.laws in let e = c.offer.ensures in
    let names = g.I.LookupKey.names c.args.key in let one = g.met.I.LookupKey.laws.one c.args.key in
    let (was, at, named) = pair_of_place t holds.linked names laws one holds.map.distinct b
    (rw (← c.self.view_is) at c.requires.found) in
    let by = λ (n : ℕ). g.L.Insertion.offers.on_replace m.limiter n was.0 c.args.key was.1 c.args.value in
    let replacement = by (length (pairs_of t)) in let same = sym (pairs-length t holds.linked) in
    let rest = fields_of m (g.L.LinkType.LinkType.number g.L.LinkType.LinkType.MAX) in
    rw (← c.self.view_is) (noted_offer g.F.FnMut g.L.Limiter.rules g.L.Insertion.offers g.I.LookupKey.names c.args.key
    c.args.value (state_of t rest) (state_of u (record rest { limiter = l })) c.offer.result c.args.sink.now
    c.offer.new.sink
    (record {
      pair = was;
      there = pair_found t holds.linked b was at names laws one holds.map.distinct named;
      taken = subst (λ n. (by n).taken ≡ c.offer.result.0) same (sym (e.taken was at));
      unkept = subst (λ n. c.offer.result.1 ≡ unkept_of (by n)) same (e.unkept was at);
      accepted = λ yes. replaced_leaves replacement t u b l holds.linked e.linked was at names laws one
          holds.map.distinct
          named rest (subst (λ n. IsReplaced (by n) b t u l) same (e.replaced yes was at));
      place = λ yes. (e.replaced yes was at).order;
      rejected = λ no. removed_leaves replacement t u b l holds.linked e.linked was at names laws one
          holds.map.distinct
          named rest g.L.Limiter.rules (subst (λ n. IsRemoved g.L.Limiter.rules (by n) b t u l) same
          (e.removed no was at));
    })
    e.kept
    (λ no. subst (λ n. PassesRemoved g.F.FnMut g.L.Limiter.rules (by n) c.args.sink.now c.offer.new.sink) same
    (e.passed no was at)))

pub offer-requires-clause-callable : goal.offer-requires-clause-callable
offer-requires-clause-callable g c = λ pair at.
    let m = c.self.inside in let t = m.entries in let holds = c.self.invariant in let b = c.args.b in
    let laws = g.met.K.Eq.laws in let names = g.I.LookupKey.names c.args.key in
    let one = g.met.I.LookupKey.laws.one c.args.key in
    let (was, there, named) = pair_of_place t holds.linked names laws one holds.map.distinct b
    (rw (← c.self.view_is) at c.requires.found) in
    let same = same_Some was pair (sym there ∙ at) in
    let found = pair_found t holds.linked b pair at names laws one holds.map.distinct
    (subst (λ p. names p.0 ≡ true) same named) in
    subst (λ n. MayTakeRejected g.L.Limiter.rules g.F.FnMut
    (g.L.Insertion.offers.on_replace m.limiter n pair.0 c.args.key pair.1 c.args.value) c.args.sink.now)
    (pairs-length t holds.linked) ((rw (← c.self.view_is) at c.requires.callable) pair found)

pub returns-clause-there : goal.returns-clause-there
returns-clause-there g c =
    let t = c.self.inside.entries in let holds = c.self.invariant in let b = c.args.b in
    let (was, at, named) = pair_of_place t holds.linked (g.I.LookupKey.names c.args.key) g.met.K.Eq.laws
    (g.met.I.LookupKey.laws.one c.args.key) holds.map.distinct b (rw (← c.self.view_is) at c.requires.found) in
    λ yes. subst (λ order. Contains order b) (sym (c.offer.ensures.replaced yes was at).order)
    (holds.linked.all b (full_by_entry (bucket_at t.slots b) was at))
