use Rattle.std.proofs.Common.{◌≡◌, ℕ, nat_eq, true, sym, subst}
use Rattle.std.proofs.lemmas.Bool.{eqb-true}
use Rattle.std.proofs.lemmas.List.Elements.{All-contains}
use Rattle.std.proofs.lemmas.Map.Views.{Contains-from_lookup}
use Rattle.std.specs.List.{All}
use Rattle.lru_limits.specs.Limiters.{length_terms}
use Rattle.lru_model.specs.Runs.{calls, inserts}
use Rattle.lru_model.proofs.CallerLemmas.{read-all, inserted-all, inserted-only, offers_of-keeps}
use Rattle.schnellru_tests.proofs.callers.memo.Goals.{After-insert}
use Rattle.schnellru_tests.proofs.callers.memo.Goals as goal

alike : (answers : ℕ → ℕ → Type 0) (key value : ℕ) → answers key value
    → (p : ℕ × ℕ) → nat_eq key p.0 ≡ true → p.1 ≡ value → answers p.0 p.1
alike answers key value h p named same =
    subst (λ k. answers k p.1) (eqb-true key p.0 named) (subst (answers key) (sym same) h)

pub returns-in-Some-clause-value : goal.returns-in-Some-clause-value
returns-in-Some-clause-value g c =
    let value = c.in-Some.value.now in
    let found = sym c.in-Some.ensures.value in
    All-contains (λ p. goal.F-post g c.args.answers p.0 p.1) c.args.map.now.pairs (c.args.key, value) c.requires.known
    (Contains-from_lookup eqb-true c.args.key value c.args.map.now.pairs found)

pub returns-in-Some-clause-knows : goal.returns-in-Some-clause-knows
returns-in-Some-clause-knows g c =
    read-all (nat_eq c.args.key) c.args.map.now (λ p. goal.F-post g c.args.answers p.0 p.1) c.in-Some.value.now
    (sym c.in-Some.ensures.value) c.requires.known

knows : (g : _) (c : After-insert g) → All (λ p. goal.F-post g c.args.answers p.0 p.1) c.insert.new.self.pairs
knows g c =
    let old = c.args.map.now in
    let new = c.insert.new.self in
    let key = c.args.key in
    let value = c.answers-value.result in
    let evicts = c.calls_evict_the_oldest.ensures.given old new
    (calls (inserts key value c.insert.result c.insert.ensures.step)) in
    let insert = c.insert.ensures in
    let only = inserted-only (offers_of-keeps length_terms) _ nat_eq key old new c.insert.result insert.ends.says insert.ends.stores in
    inserted-all (λ p. goal.F-post g c.args.answers p.0 p.1) (nat_eq key) old.pairs new.pairs evicts c.requires.known
    (λ p named found. alike (goal.F-post g c.args.answers) key value c.answers-value.ensures p named (only p.1 found))

pub returns-in_err-insert-clause-knows : goal.returns-in_err-insert-clause-knows
returns-in_err-insert-clause-knows g c = knows g (goal.at.returns-in_err-insert-clause-knows g c).After-insert

pub returns-clause-knows : goal.returns-clause-knows
returns-clause-knows g c = knows g (goal.at.returns-clause-knows g c).After-insert
