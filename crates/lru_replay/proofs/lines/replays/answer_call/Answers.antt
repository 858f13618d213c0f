use Rattle.std.proofs.Common.{◌≡◌, ℕ, inl, inr, refl, sym, ap, ◌∙◌, subst}
use Rattle.std.specs.Prelude.{nat_eq}
use Rattle.lru_limits.specs.Rules.{Rules, Offers}
use Rattle.lru_model.specs.Drains.{Drained}
use Rattle.lru_replay.specs.declared.calls.Call.{Call}
use Rattle.lru_replay.specs.declared.calls.Call.TheVariants as calls
use Rattle.lru_replay.specs.CallRuns.{CallStep, StoresPairs}
use Rattle.lru_replay.specs.Grammar.{SpellsCall}
use Rattle.lru_replay.specs.LineRuns.{AnswersCall, StoresFirst}
use Rattle.lru_replay.specs.Maps.{Map, hash_of}
use Rattle.lru_replay.specs.Output.{pairs_text, reply_text}
use Rattle.lru_replay.specs.Replies.{Reply, listed, said}
use Rattle.lru_replay.proofs.SpelledWords.{has_line}
use Rattle.lru_replay.proofs.lines.replays.answer_call.Goals as goal

stores_first : {S : Type 0} (call : Call ℕ ℕ S) → (call ≡ calls.List → ⊥)
    → ((front back : ℕ) → call ≡ calls.Drain front back → ⊥) → StoresPairs call → StoresFirst call
stores_first (calls.InsertWith k v) not_list not_drain stores = tt
stores_first calls.List not_list not_drain stores = absurd (not_list refl)
stores_first (calls.Drain front back) not_list not_drain stores = absurd (not_drain front back refl)
stores_first call not_list not_drain stores = absurd stores

answers : {S : Type 0} (rules : Rules ℕ ℕ S) (offers : Offers ℕ ℕ S ℕ) (old new : Map S) (call : Call ℕ ℕ S)
    (reply : Reply ℕ ℕ) → (call ≡ calls.List → ⊥) → ((front back : ℕ) → call ≡ calls.Drain front back → ⊥)
    → CallStep rules offers nat_eq hash_of old call reply new → AnswersCall rules offers old call reply new
answers rules offers old new call reply not_list not_drain (inl step) = inl step
answers rules offers old new call reply not_list not_drain (inr (stores, is, same)) =
    inr (stores_first call not_list not_drain stores, is, same)

pub returns-in-List : goal.returns-in-List
returns-in-List g c =
    let spells = subst (SpellsCall c.args.line.now) c.in-List.is c.in-Some.ensures.some in
    let pairs = c.args.map.now.pairs in (
      pairs_text pairs,
      inl (calls.List, spells, (listed pairs, inl (refl, refl), refl)),
      rw (← c.iter.ensures.rest) c.write_pairs.ensures,
    )

pub returns-in-Drain : goal.returns-in-Drain
returns-in-Drain g c =
    let call = calls.Drain c.in-Drain.front c.in-Drain.back in
    let spells = subst (SpellsCall c.args.line.now) c.in-Drain.is c.in-Some.ensures.some in
    let none : c.in-Drain.back ≡ 0 = has_line c.args.line.now call spells in
    let (pairs, drained, wrote) = c.write_drain.ensures in
    let step = subst (λ back. Drained g.L.Limiter.rules c.in-Drain.front back c.args.map.now pairs
    c.write_drain.new.map) (sym none) drained in
    (pairs_text pairs, inl (call, spells, (listed pairs, inl (pairs, step, refl), refl)), wrote)

pub returns : goal.returns
returns g c =
    let call = c.in-Some.call in
    let reply = said c.make_call-answer.result in
    let cost = g.L.ReportsCost.reported c.args.map.now.limiter in
    let reported = c.reported_cost-cost.ensures ∙ ap g.L.ReportsCost.reported c.limiter.ensures in
    let step = answers g.L.Limiter.rules g.L.Insertion.offers c.args.map.now c.make_call-answer.new.map call reply
    c.in_default-call.not-List c.in_default-call-2.not-Drain c.make_call-answer.ensures.step in (
      reply_text cost reply,
      inl (call, c.in-Some.ensures.some, (reply, step, refl)),
      rw (← reported) c.write_answer.ensures,
    )
