use Rattle.std.proofs.Common.{◌≡◌, ℕ, Bool, List, inl, inr, subst, ◌∙◌}
use Rattle.std.specs.Cmp.{IsEquivalence}
use Rattle.std.specs.List.{IsDistinct}
use Rattle.std.specs.Map.{set_value}
use Rattle.std.proofs.lemmas.Map.{keys-set_value}
use Rattle.std.proofs.Common.{sym}
use Rattle.lru_limits.specs.Rules.{Rules, Offers}
use Rattle.lru_limits.specs.Laws.{IsLookup, IsInsertion, IsAccount}
use Rattle.lru_model.specs.Lists.{keys_of}
use Rattle.lru_model.specs.State.{State, Contents, contents, IsSized, IsMap}
use Rattle.lru_model.specs.Runs.{Step, inserts, updates, gets, demotes, removes, pops_oldest}
use Rattle.lru_model.specs.Runs.{pops_newest, drains, clears}
use Rattle.lru_model.specs.Runs.{reserves, shrinks, trims, retains}
use Rattle.lru_model.specs.Runs.{AnyStep, calls, writes, sets_limiter, StepOrKeptWrite, Run, ends, goes_on}
use Rattle.lru_model.specs.Theorems.{PaysForMoves, IsSummed}
use Rattle.lru_model.proofs.PairLists.DistinctKeys.{offers_distinct}
use Rattle.lru_model.proofs.Theorems.Moves.{KeepsOffers, keeps_nothing}
use Rattle.lru_model.proofs.Theorems.TableGrowth.{Changes}
use Rattle.lru_model.proofs.Theorems.Potential.{pays_for_moves}
use Rattle.lru_model.proofs.Theorems.Potential.{paid_self, paid_trans, bounded_of}
use Rattle.lru_model.proofs.Theorems.Ways.{insert_changes, update_changes}
use Rattle.lru_model.proofs.Theorems.PaidMoves.{stays_map}
use Rattle.lru_model.proofs.Theorems.Sums.{keeps_sums, stays_summed, sum-set}
use Rattle.lru_model.proofs.Theorems.CallChanges.{promoted_changes, demoted_changes, remove_changes, pop_oldest_changes}
use Rattle.lru_model.proofs.Theorems.CallChanges.{pop_newest_changes, cleared_changes, drain_changes, trim_changes}
use Rattle.lru_model.proofs.Theorems.CallChanges.{retain_changes}
use Rattle.lru_model.proofs.Theorems.CallChanges.{reserve_changes, written_changes, set_changes}
use Rattle.lru_model.proofs.Theorems.Shrinks.{shrink_changes}

module _ {K V S H I : Type 0} {rules : Rules K V S} {offers : Offers K V S I} {names : I → K → Bool}
    {hash_of : H → K → ℕ} where
  module _ {R : Contents K V S → Contents K V S → Type 0} (k : KeepsOffers rules offers names R) where
    pub step_changes : (old new : State K V S H) → Step rules offers names hash_of old new → (more : ℕ)
        × (anew : ℕ) × Changes rules R more anew old new
    step_changes old new (inserts key value result h) = (_, _, insert_changes k key value old result new h)
    step_changes old new (updates key value result h) = (_, _, update_changes k key value old result new h)
    step_changes old new (gets test e) = rw e (_, _, promoted_changes k.keeps old test)
    step_changes old new (demotes test e) = rw e (_, _, demoted_changes k.keeps old test)
    step_changes old new (removes test result h) = (_, _, remove_changes k.keeps old test result new h)
    step_changes old new (pops_oldest result h) = (_, _, pop_oldest_changes k.keeps old result new h)
    step_changes old new (pops_newest result h) = (_, _, pop_newest_changes k.keeps old result new h)
    step_changes old new (drains newest oldest result h) =
        (_, _, drain_changes k.keeps old newest oldest result new h)
    step_changes old new (clears e) = rw e (_, _, cleared_changes k.keeps old)
    step_changes old new (reserves n result h) = (_, _, reserve_changes k.keeps.way n old result new h)
    step_changes old new (shrinks result h) =
        let c = shrink_changes rules R k.keeps.way old result new h in (0, c.0, c.1)
    step_changes old new (trims h) = (_, _, trim_changes k.keeps old new h)
    step_changes old new (retains asked each h) = (_, _, retain_changes k.keeps old asked new each h)

    pub any_changes : ((c : Contents K V S) (test : K → Bool) (value : V)
        → R c (record { pairs = set_value test c.pairs value; limiter = c.limiter }))
        → ((c : Contents K V S) (s : S) → R c (record { pairs = c.pairs; limiter = s }))
        → (old new : State K V S H) → AnyStep rules offers names hash_of old new → (more : ℕ)
        × (anew : ℕ) × Changes rules R more anew old new
    any_changes write set old new (calls h) = step_changes old new h
    any_changes write set old new (writes test value e) = rw e
        (_, _, written_changes rules R old test value (write (contents old) test value))
    any_changes write set old new (sets_limiter s e) = rw e
        (_, _, set_changes rules R old s (set (contents old) s))

  pub any_step_same : (old new : State K V S H) → AnyStep rules offers names hash_of old new
      → (new.hasher ≡ old.hasher) × (new.max ≡ old.max) × (new.entry_bytes ≡ old.entry_bytes)
  any_step_same old new s =
      let tables = (any_changes keeps_nothing (λ c test value. tt) (λ c s. tt) old new s).2.tables in
      (tables.hasher, tables.max, tables.entry_bytes)

  pub any_pays : (old new : State K V S H) → AnyStep rules offers names hash_of old new → IsSized old
      → PaysForMoves old new
  any_pays old new s ok = pays_for_moves ok.shrunk
      ((any_changes keeps_nothing (λ c test value. tt) (λ c s. tt) old new s).2.tables.pays (bounded_of old ok))

  pub run_pays : (new old : State K V S H) → IsSized old → Run (AnyStep rules offers names hash_of) new old
      → PaysForMoves old new
  run_pays new old ok ends = paid_self new
  run_pays new old ok (goes_on mid s sized r) = paid_trans (any_pays old mid s ok) (run_pays new mid sized r)

  pub step_summed : {cost : K → V → ℕ} {account : S → ℕ} → IsAccount rules offers cost account
      → (old new : State K V S H) → Step rules offers names hash_of old new
      → IsSummed cost account old → IsSummed cost account new
  step_summed laws old new s = stays_summed laws old new (step_changes (keeps_sums laws names) old new s).2.moves

  pub kept_summed : {cost : K → V → ℕ} {account : S → ℕ} → IsAccount rules offers cost account
      → (old new : State K V S H) → StepOrKeptWrite rules offers names hash_of cost old new
      → IsSummed cost account old → IsSummed cost account new
  kept_summed laws old new (inl s) = step_summed laws old new s
  kept_summed {cost} {account} laws old new (inr (test, value, same, e)) = λ summed.
      subst (IsSummed cost account) (sym e) (summed ∙ sym (sum-set (λ p. cost p.0 p.1) test value old.pairs same))

  pub run_summed : {cost : K → V → ℕ} {account : S → ℕ} → IsAccount rules offers cost account
      → (new old : State K V S H)
      → Run (StepOrKeptWrite rules offers names hash_of cost) new old → IsSummed cost account old
      → IsSummed cost account new
  run_summed laws new old ends summed = summed
  run_summed laws new old (goes_on mid s sized r) summed = run_summed laws new mid r (kept_summed laws old mid s summed)

  module _ {eq : K → K → Bool} {query_input : I → List (List ℕ)} {key_input : K → List (List ℕ)}
      (equivalence : IsEquivalence eq) (looks_up : IsLookup names eq query_input key_input)
      (laws : IsInsertion names eq offers) where
    pub any_distinct : (old new : State K V S H) → AnyStep rules offers names hash_of old new
        → IsDistinct eq (keys_of old.pairs) → IsDistinct eq (keys_of new.pairs)
    any_distinct old new s = (any_changes (offers_distinct equivalence looks_up laws)
        (λ c test value d. subst (IsDistinct eq) (sym (keys-set_value test c.pairs value)) d)
        (λ c s d. d) old new s).2.moves

    pub any_is_map : (old new : State K V S H) → AnyStep rules offers names hash_of old new → IsMap eq old → IsSized new
        → IsMap eq new
    any_is_map old new s =
        let changed = any_changes (offers_distinct equivalence looks_up laws)
        (λ c test value d. subst (IsDistinct eq) (sym (keys-set_value test c.pairs value)) d)
        (λ c s d. d) old new s in
        stays_map rules changed.0 changed.1 old new changed.2

    pub run_is_map : (new old : State K V S H) → Run (AnyStep rules offers names hash_of) new old → IsMap eq old
        → IsMap eq new
    run_is_map new old ends ok = ok
    run_is_map new old (goes_on mid s sized r) ok = run_is_map new mid r (any_is_map old mid s ok sized)
