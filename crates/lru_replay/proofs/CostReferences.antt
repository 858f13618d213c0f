use Rattle.std.proofs.Common.{◌≡◌, ℕ, ◌+◌, ◌*◌, ◌≤◌, Bool, true, List, ◌∷◌}
use Rattle.std.proofs.Common.{Some, Ok, sum_by, refl, sym, ap, ◌∙◌, subst, arith}
use Rattle.std.proofs.lemmas.Map.{length-set_value}
use Rattle.std.proofs.lemmas.Map.Entries.{length-keys_of}
use Rattle.std.proofs.lemmas.Option.{same_Some}
use Rattle.std.specs.Cmp.{IsEquivalence}
use Rattle.std.specs.Map.{set_value}
use Rattle.std.specs.Prelude.{option_map}
use Rattle.std.specs.Set.{remove_key}
use Rattle.lru_limits.specs.Budget.{Budget, by_weight, weighs, budget_terms}
use Rattle.lru_model.proofs.CallerLemmas.{any_step_same, found_named, has_tables, lookup-entry, promoted_sized, read_back}
use Rattle.lru_model.proofs.PassingLemmas.{insert_granted}
use Rattle.lru_model.specs.Calls.{promoted, written}
use Rattle.lru_model.specs.Exact.{HasTables, InsertsInList}
use Rattle.lru_model.specs.Inserts.{Insert}
use Rattle.lru_model.specs.Kept.{stored_key}
use Rattle.lru_model.specs.Lists.{keys_of, lookup, lookup_entry, without, after}
use Rattle.lru_model.specs.Runs.{Step, inserts, reserves, calls}
use Rattle.lru_model.specs.State.{State, contents, IsSized, IsSound}
use Rattle.lru_theory.specs.Budgets.{affordable, refer_within}
use Rattle.lru_theory.specs.Traces.{AreEqual}
use Rattle.lru_theory.proofs.Affordable.{spent, affords_all, affords_within, affords_equal}
use Rattle.lru_theory.proofs.EqualKeys.{equal_refl, both_equal}
use Rattle.lru_replay.specs.References.{Reference, LeavesKeys, KeepsToCost, CostsAlike, of_cost}
use Rattle.lru_replay.proofs.CostLists.{worth, holding, spent_is, spent_without, Each, each_found, each_without}
use Rattle.lru_replay.proofs.CostLists.{each_spent, each_afforded}
use Rattle.lru_replay.proofs.CostSteps.{insert_ends}
use Rattle.lru_replay.proofs.ReferenceSteps.{Known, reserve_is, stored_equal}
use Rattle.lru_replay.proofs.StoredCounts.{keys_without, there, value_there, insert_counts, same_count}

module _ {K V H : Type 0} {eq : K → K → Bool} (laws : IsEquivalence eq) (weight : K → V → ℕ) (cost : K → ℕ)
    (alike : CostsAlike eq weight cost) where
  abbrev Keeps : State K V Budget H → Type 0
  Keeps = KeepsToCost weight cost

  held : (st : State K V Budget H) → Keeps st → contents st ≡ holding weight st.limiter.limit st.pairs
  held st keeps = ap (λ sum. record { pairs = st.pairs; limiter = record { limit = st.limiter.limit; cost = sum } })
      (keeps.summed ∙ sym (spent_is (worth weight) st.pairs))

  spent_few : (st : State K V Budget H) → Keeps st → spent (worth weight) st.pairs ≤ st.limiter.limit
  spent_few st keeps = omega (arith, keeps.within, keeps.summed, spent_is (worth weight) st.pairs)

  tables : (st : State K V Budget H) → Keeps st → HasTables st
  tables st keeps =
      let few = keeps.few (keys_of st.pairs) (omega (
        arith,
        spent_few st keeps,
        each_spent weight cost st.pairs keeps.each,
        spent_is cost (keys_of st.pairs),
      )) in
      has_tables (8 * (keeps.most + 1)) st keeps.tables (omega (arith, few, length-keys_of st.pairs)) keeps.sized

  module _ (old new : State K V Budget H) (keeps : Keeps old) (pairs : List (K × V))
      (is : contents new ≡ holding weight old.limiter.limit pairs) (each : Each weight cost pairs)
      (few : spent (worth weight) pairs ≤ old.limiter.limit) (sized : IsSized new) (max : new.max ≡ old.max)
      (bytes : new.entry_bytes ≡ old.entry_bytes) where
    same_limit : new.limiter.limit ≡ old.limiter.limit
    same_limit = ap (λ c. c.limiter.limit) is

    keeps_on : Keeps new
    keeps_on = record {
      each = subst (Each weight cost) (sym (ap (λ c. c.pairs) is)) each;
      summed = ap (λ c. c.limiter.cost) is ∙ spent_is (worth weight) pairs
          ∙ ap (λ c. sum_by (worth weight) c.pairs) (sym is);
      within = omega (arith, ap (λ c. c.limiter.cost) is, same_limit, few);
      fits = omega (arith, same_limit, keeps.fits);
      most = keeps.most;
      few = λ keys h. keeps.few keys (omega (arith, h, same_limit));
      tables = record {
        count = keeps.tables.count;
        bytes = keeps.tables.bytes;
        power = keeps.tables.power;
        reached = rw max keeps.tables.reached;
        usable = rw bytes keeps.tables.usable;
        takes = keeps.tables.takes;
      };
      sized = sized;
    }

  -- `new` has a pair of an equal key in front, and then the other pairs that the limit permits
  module _ (old new : State K V Budget H) (keeps : Keeps old) (key x : K) (v : V) (same : eq x key ≡ true)
      (priced : weight key v ≡ cost key) (is : contents new ≡ holding weight old.limiter.limit
      (affordable (worth weight) old.limiter.limit ((x, v) ∷ without (eq key) old.pairs)))
      (sized : IsSized new) (max : new.max ≡ old.max) (bytes : new.entry_bytes ≡ old.entry_bytes) where
    abbrev n : ℕ
    n = old.limiter.limit

    abbrev rest : List K
    rest = remove_key (eq key) (keys_of old.pairs)

    each : Each weight cost ((x, v) ∷ without (eq key) old.pairs)
    each = (
      alike.pairs x key v same ∙ priced ∙ sym (alike.keys x key same),
      each_without weight cost (eq key) old.pairs keeps.each,
    )

    leaves : LeavesKeys (of_cost eq weight cost) (refer_within eq cost n key (keys_of old.pairs)) old new
    leaves =
        let afforded = each_afforded weight cost n ((x, v) ∷ without (eq key) old.pairs) each in
        record {
          keys = subst (λ ks. AreEqual eq ks (refer_within eq cost n key (keys_of old.pairs)))
              (sym (ap (λ c. keys_of c.pairs) is ∙ afforded.1
              ∙ ap (λ ks. affordable cost n (x ∷ ks)) (keys_without (eq key) old.pairs)))
              (affords_equal laws cost alike.keys n (x ∷ rest) (key ∷ rest)
              (both_equal eq x rest key rest same (equal_refl laws rest)));
          limit = ap (λ c. c.limiter.limit) is;
          keeps = λ _. keeps_on old new keeps
              (affordable (worth weight) n ((x, v) ∷ without (eq key) old.pairs)) is afforded.0
              (affords_within (worth weight) n ((x, v) ∷ without (eq key) old.pairs)) sized max bytes;
        }

  insert_refers : {hash_of : H → K → ℕ} (key : K) (v : V) (old : State K V Budget H) (flag : Bool) (new : State K V Budget H) → Keeps old
      → weight key v ≡ cost key → cost key ≤ old.limiter.limit → IsSized new
      → Insert (by_weight weight) (weighs weight) eq hash_of key v old (Ok flag) new
      → Reference (of_cost eq weight cost) key old new
  insert_refers {hash_of} key v old flag new keeps priced cheap sized h =
      let same = any_step_same old new (calls (inserts key v (Ok flag) h)) in
      let list = subst (λ c. InsertsInList (by_weight weight) (weighs weight) eq key v c (Ok flag) (contents new))
      (held old keeps) (insert_granted (by_weight weight) (weighs weight) eq key v old new (Ok flag)
      (λ s bytes. (refl, refl)) (tables old keeps) h) in
      let ends = insert_ends weight old.limiter.limit keeps.fits eq key v old.pairs (omega (arith, priced, cheap))
      (λ other named. alike.pairs other key v (laws.symm other key ∙ named)) (spent_few old keeps) flag (contents new)
      list in
      record {
        does = leaves old new keeps key (stored_key (eq key) key old.pairs) v (stored_equal laws key old.pairs) priced
            ends.leaves sized same.1 same.2;
        stored = λ _. insert_counts (by_weight weight) hash_of (weighs weight) eq key v old new keeps.sized.placed (Ok flag)
            refl ends.says h;
      }

  stored_cost : (key : K) (w : V) (old : State K V Budget H) → Keeps old → lookup (eq key) old.pairs ≡ Some w
      → weight key w ≡ cost key
  stored_cost key w old keeps found =
      let (p, at) = value_there (eq key) old.pairs w found in
      let named = found_named (eq key) old.pairs p at in
      let value : w ≡ p.1 = same_Some w p.1
      (sym found ∙ lookup-entry (eq key) old.pairs ∙ ap (option_map (λ q. q.1)) at) in
      ap (weight key) value ∙ alike.pairs key p.0 p.1 named
      ∙ each_found weight cost (eq key) old.pairs p at keeps.each ∙ sym (alike.keys key p.0 named)

  pub got_refers : (key : K) (w left : V) (old : State K V Budget H) → Keeps old → lookup (eq key) old.pairs ≡ Some w
      → weight key left ≡ weight key w
      → Reference (of_cost eq weight cost) key old (written (eq key) left (promoted (eq key) old))
  got_refers key w left old keeps found kept = go (value_there (eq key) old.pairs w found)
    where
      go : (p : K × V) × (lookup_entry (eq key) old.pairs ≡ Some p)
          → Reference (of_cost eq weight cost) key old (written (eq key) left (promoted (eq key) old))
      go (p, at) =
          let priced = kept ∙ stored_cost key w old keeps found in
          let named = found_named (eq key) old.pairs p at in
          let first : eq p.0 key ≡ true = laws.symm p.0 key ∙ named in
          let others = without (eq key) old.pairs in
          let pairs : set_value (eq key) (after (lookup_entry (eq key) old.pairs) others) left ≡ (p.0, left) ∷ others =
          ap (λ o. set_value (eq key) (after o others) left) at ∙ rw named refl in
          let same : weight p.0 left ≡ weight p.0 p.1 = alike.pairs p.0 key left first ∙ priced
          ∙ sym (alike.keys p.0 key first) ∙ sym (each_found weight cost (eq key) old.pairs p at keeps.each) in
          let all : spent (worth weight) old.pairs ≡ spent (worth weight) ((p.0, left) ∷ others) =
          spent_without weight (eq key) old.pairs p at ∙ ap (λ c. c + spent (worth weight) others) (sym same) in
          let is : contents (written (eq key) left (promoted (eq key) old))
          ≡ holding weight old.limiter.limit ((p.0, left) ∷ others) =
          (λ i. record {
            pairs = pairs i;
            limiter = record {
              limit = old.limiter.limit;
              cost = (keeps.summed ∙ sym (spent_is (worth weight) old.pairs) ∙ all) i;
            };
          }) in
          record {
            does = leaves old (written (eq key) left (promoted (eq key) old)) keeps key p.0 left first priced
                (is ∙ ap (holding weight old.limiter.limit) (sym (affords_all (worth weight) old.limiter.limit
                ((p.0, left) ∷ others) (omega (arith, all, spent_few old keeps)))))
                (subst (λ m. IsSound m old.entry_bytes old.max old.table.states old.counts)
                (sym (length-set_value (eq key) (after (lookup_entry (eq key) old.pairs) others) left))
                (promoted_sized old (eq key) keeps.sized)) refl refl;
            stored = λ _. rw (there (eq key) old.pairs p at) (same_count old.counts.placed keeps.sized.placed);
          }

  pub promoted_refers : (key : K) (w : V) (old : State K V Budget H) → Keeps old → lookup (eq key) old.pairs ≡ Some w
      → Reference (of_cost eq weight cost) key old (promoted (eq key) old)
  promoted_refers key w old keeps found = subst (Reference (of_cost eq weight cost) key old) (read_back (eq key) old w found)
      (got_refers key w w old keeps found refl)

  pub known_costs : {hash_of : H → K → ℕ} → Known {V = V} (of_cost eq weight cost) (budget_terms weight) (by_weight weight) hash_of
      (λ s key v. (weight key v ≡ cost key) × (cost key ≤ s.limit))
  known_costs {hash_of} = record {
    laws = laws;
    grants = λ s bytes. (refl, refl);
    equal = λ n key other keys same. let named : eq other ≡ eq key = λ i x. laws.congr other key x same i in
        subst (λ test. AreEqual eq (affordable cost n (other ∷ remove_key test keys)) (refer_within eq cost n key keys))
        (sym named) (affords_equal laws cost alike.keys n (other ∷ remove_key (eq key) keys)
        (key ∷ remove_key (eq key) keys) (both_equal eq other (remove_key (eq key) keys) key (remove_key (eq key) keys) same
        (equal_refl laws (remove_key (eq key) keys))));
    insert = λ key v old flag new keeps admits sized h.
        insert_refers key v old flag new keeps admits.0 admits.1 sized h;
    get = λ key w old keeps found. promoted_refers key w old keeps found;
    reserve = λ old ready keeps sized h.
        let step : Step (by_weight weight) (weighs weight) eq hash_of old ready = reserves 1 (Ok tt) h in
        let same = any_step_same old ready (calls step) in
        let is = reserve_is (by_weight weight) (λ s bytes. (refl, refl)) 1 old (Ok tt) ready h in
        keeps_on old ready keeps old.pairs ((λ i. record { pairs = is.0 i; limiter = is.1 i }) ∙ held old keeps) keeps.each
        (spent_few old keeps) sized same.1 same.2;
  }
