-- Each call that changes a map is a step, or steps one after another. The lemmas take what the call's contract ensures.
--
-- Some calls are steps by their contracts alone: `gets` is `promote` and `get_key_value`, `removes` is `remove`,
-- and so on for `demotes`, `pops_oldest`, `pops_newest`, `clears`, `reserves`, `shrinks`, `trims`, `inserts` and
-- `updates`. The lemmas for the other calls:
--     removes_entry            `remove_entry`
--     retains_pairs            `retain`, `retain_with`
--     makes_step               `ensure_newest`
--     one_step, no_step, joined, any_steps      runs of one step, of no step, of two runs, and of `AnyStep`s
--     makes_if_made            `ensure_newest_fallible`, and `get_or_insert_fallible` up to the loan
--     keeps_run                `insert_and_keep`
--     pops_if, tries_pop       `pop_oldest_if`, `try_pop_oldest`
--     sets_and_trims           `set_limiter`, `set_limiter_with`
--     gets_and_writes          `get` and `get_by_hash` if they find a pair
--     writes_value             `peek_mut`, `peek_by_hash_mut`
--     writes_newest            `newest_mut`, and the loan of `get_or_insert`
--     writes_all               `for_each_mut`
--     writes_at                each loan of `iter_mut`
--     inserts_all, fails_at    `try_extend`
-- `without_insert`, `run_without_insert`: a call other than an insert, a get that inserts, or an update is a step with
-- any type of inserted keys.
use Rattle.std.proofs.Common.{◌≡◌, ℕ, zero, suc, Bool, true, false, List, [], ◌∷◌, ◌++◌, refl, sym, ap, ◌∙◌, subst}
use Rattle.std.proofs.Common.{Option, Some, Result, Ok, Err, option_map, unwrap_or, slice_get}
use Rattle.std.proofs.lemmas.List.{append_assoc}
use Rattle.std.proofs.lemmas.Option.{none-some}
use Rattle.std.specs.Borrow.{Bor, MutBor}
use Rattle.std.specs.Cmp.{IsEquivalence}
use Rattle.std.specs.List.{IsDistinct, AllByRecursion}
use Rattle.std.specs.Map.{set_value}
use Rattle.std.specs.Fn.{Mut}
use Rattle.std.specs.Prelude.{IfOk, OnErr}
use Rattle.std.specs.declared.alloc.AllocError.{AllocError}
use Rattle.lru_limits.specs.Rules.{Rules, Offers}
use Rattle.lru_model.specs.Calls.{promoted, written, RemoveEntry}
use Rattle.lru_model.specs.Callbacks.{InsertPasses}
use Rattle.lru_model.specs.Extends.{InsertsAll, no_insert, one_insert_more, FailsAt}
use Rattle.lru_model.specs.GetOrInserts.{MakesNewest, got, inserted, MakesNewestIfMade, failed, as_made}
use Rattle.lru_model.specs.Lists.{set_newest, set_value_at, keys_of}
use Rattle.lru_model.specs.Pops.{PopOldestIf, empty, rejected, accepted, TryPopOldest, no_pair, popped}
use Rattle.lru_model.specs.Pops.{failed as release_failed}
use Rattle.lru_model.specs.Retains.{Retains}
use Rattle.lru_model.specs.Runs.{Step, inserts, updates, gets, demotes, removes, pops_oldest}
use Rattle.lru_model.specs.Runs.{pops_newest, drains, clears, reserves, shrinks, trims, retains, AnyStep, calls, writes}
use Rattle.lru_model.specs.Runs.{sets_limiter, Run, ends, goes_on, no_offers, no_keys, RunWithoutInsert}
use Rattle.lru_model.specs.State.{State, IsSized, IsMap, Trims}
use Rattle.lru_model.specs.Written.{WritesAll, WritesEach}
use Rattle.lru_model.proofs.PassingLemmas.{plain_insert}
use Rattle.lru_model.proofs.States.Promotions.{promoted_sized, written_sized, written_is_map}
use Rattle.lru_model.proofs.States.RemovedPairs.{value_removed}

module _ {K V S H I : Type 0} {rules : Rules K V S} {hash_of : H → K → ℕ} (offers : Offers K V S I)
    (names : I → K → Bool) where
  pub without_insert : (old new : State K V S H) → Step rules no_offers no_keys hash_of old new
      → Step rules offers names hash_of old new
  without_insert old new (inserts key value result h) = absurd key
  without_insert old new (updates key value result h) = absurd key
  without_insert old new (gets test e) = gets test e
  without_insert old new (demotes test e) = demotes test e
  without_insert old new (removes test result h) = removes test result h
  without_insert old new (pops_oldest result h) = pops_oldest result h
  without_insert old new (pops_newest result h) = pops_newest result h
  without_insert old new (drains newest oldest result h) = drains newest oldest result h
  without_insert old new (clears e) = clears e
  without_insert old new (reserves n result h) = reserves n result h
  without_insert old new (shrinks result h) = shrinks result h
  without_insert old new (trims h) = trims h
  without_insert old new (retains asked each h) = retains asked each h

  any_without_insert : (old new : State K V S H) → AnyStep rules no_offers no_keys hash_of old new
      → AnyStep rules offers names hash_of old new
  any_without_insert old new (calls step) = calls (without_insert old new step)
  any_without_insert old new (writes test value e) = writes test value e
  any_without_insert old new (sets_limiter s e) = sets_limiter s e

  pub run_without_insert : (new old : State K V S H) → RunWithoutInsert rules hash_of new old
      → Run (AnyStep rules offers names hash_of) new old
  run_without_insert new old ends = ends
  run_without_insert new old (goes_on mid step sized run) =
      goes_on mid (any_without_insert old mid step) sized (run_without_insert new mid run)

module _ {K V S H : Type 0} {IsStep : State K V S H → State K V S H → Type 0} where
  pub joined : {mid old new : State K V S H} → Run IsStep mid old → Run IsStep new mid → Run IsStep new old
  joined ends run = run
  joined (goes_on mid step sized first) run = goes_on mid step sized (joined first run)

module _ {K V S H : Type 0} {IsStep : State K V S H → State K V S H → Type 0} {new old : State K V S H} where
  pub one_step : IsStep old new → IsSized new → Run IsStep new old
  one_step step sized = goes_on new step sized ends

  pub no_step : new ≡ old → Run IsStep new old
  no_step e = subst (λ st. Run IsStep st old) (sym e) ends

module _ {K V S H I : Type 0} {rules : Rules K V S} {offers : Offers K V S I} {names : I → K → Bool}
    {hash_of : H → K → ℕ} {new old : State K V S H} where
  pub removes_entry : (test : K → Bool) (result : Option (K × V)) → RemoveEntry rules test old result new
      → Step rules offers names hash_of old new
  removes_entry test result h =
      removes test (option_map (λ p. p.1) result) (value_removed rules test old result new h)

  pub retains_pairs : {F : Type 0} {closure : Mut F (Bor K × (Bor V × Unit {0})) Bool} {f : F}
      → Retains closure rules f old new → Step rules offers names hash_of old new
  retains_pairs h = retains h.asked h.each h.state

  pub makes_step : {makes : V → Type 0} {key : I} {result : Result Bool AllocError}
      → MakesNewest rules offers names hash_of makes key old result new → Step rules offers names hash_of old new
  makes_step {key = key} (got w there is e) = gets (names key) e
  makes_step {key = key} {result = result} (inserted none value made h) = inserts key value result h

  pub keeps_run : {W E : Type 0} (key : I) (value : V) (items : W → List (K × V))
      (result : Result (Result Bool AllocError × W) E)
      → IfOk result (λ answer. InsertPasses rules offers names hash_of key value old answer.0 (items answer.1) new)
      → OnErr result (new ≡ old) → IsSized new → Run (Step rules offers names hash_of) new old
  keeps_run key value items (Ok answer) h same sized =
      one_step (inserts key value answer.0 (plain_insert h)) sized
  keeps_run key value items (Err e) h same sized = no_step same

module _ {K V S H I : Type 0} {rules : Rules K V S} {offers : Offers K V S I} {names : I → K → Bool}
    {hash_of : H → K → ℕ} where
  pub any_steps : {new old : State K V S H} → Run (Step rules offers names hash_of) new old
      → Run (AnyStep rules offers names hash_of) new old
  any_steps ends = ends
  any_steps (goes_on mid step sized run) = goes_on mid (calls step) sized (any_steps run)

module _ {K V S H I : Type 0} {rules : Rules K V S} {offers : Offers K V S I} {names : I → K → Bool}
    {hash_of : H → K → ℕ} {new old : State K V S H} (sized : IsSized new) where
  pub makes_if_made : {E : Type 0} {makes : Result V E → Type 0} {key : I} {result : Result Bool _}
      → MakesNewestIfMade {E = E} rules offers names hash_of makes key old result new
      → Run (Step rules offers names hash_of) new old
  makes_if_made (failed none error made is e) = no_step e
  makes_if_made (as_made flag h is) = one_step (makes_step h) sized

  pub pops_if : {says : K × V → Bool → Type 0} {result : Option (K × V)} → PopOldestIf rules says old result new
      → Run (Step rules offers names hash_of) new old
  pops_if (empty none is e) = no_step e
  pops_if (rejected pair last says is e) = no_step e
  pops_if {result = result} (accepted pair last says h) = one_step (pops_oldest result h) sized

  pub tries_pop : {E : Type 0} {says : K × V → Result (Unit {0}) E → Type 0} {result : Result (Option (K × V)) E}
      → TryPopOldest rules says old result new → Run (Step rules offers names hash_of) new old
  tries_pop (no_pair none is e) = no_step e
  tries_pop (release_failed pair last error says is e) = no_step e
  tries_pop (popped pair last says left is h) = one_step (pops_oldest left h) sized

module _ {K V S H I : Type 0} {rules : Rules K V S} {offers : Offers K V S I} {names : I → K → Bool}
    {hash_of : H → K → ℕ} where
  pub sets_and_trims : {new old : State K V S H} (limiter : S) → IsSized old → IsSized new
      → Trims rules (record old { limiter = limiter }) new → Run (AnyStep rules offers names hash_of) new old
  sets_and_trims {old = old} limiter sound sized h =
      goes_on (record old { limiter = limiter }) (sets_limiter limiter refl) sound (one_step (calls (trims h)) sized)

  pub writes_value : {new old : State K V S H} (test : K → Bool) (value : V) → IsSized old
      → new ≡ written test value old → Run (AnyStep rules offers names hash_of) new old
  writes_value {old = old} test value sized e =
      one_step (writes test value e) (subst IsSized (sym e) (written_sized old test value sized))

  pub gets_and_writes : {new old : State K V S H} (test : K → Bool) (value : V) → IsSized old
      → new ≡ written test value (promoted test old) → Run (AnyStep rules offers names hash_of) new old
  gets_and_writes {old = old} test value sized e =
      let kept = promoted_sized old test sized in
      goes_on (promoted test old) (calls (gets test refl)) kept (writes_value test value kept e)

  extends : {old new : State K V S H} {pairs : List (I × V)} → InsertsAll rules offers names hash_of old pairs new
      → (end : State K V S H) → Run (Step rules offers names hash_of) end new
      → Run (Step rules offers names hash_of) end old
  extends no_insert end run = run
  extends (one_insert_more {before = before} more key value kept new h sized) end run =
      extends more end (goes_on new (inserts key value (Ok kept) h) sized run)

  pub inserts_all : {new old : State K V S H} (pairs : List (I × V))
      → InsertsAll rules offers names hash_of old pairs new → Run (Step rules offers names hash_of) new old
  inserts_all {new} pairs h = extends h new ends

  pub fails_at : {new old : State K V S H} (pairs : List (I × V)) (pair : I × V)
      → FailsAt rules offers names hash_of old pairs pair new → IsSized new
      → Run (Step rules offers names hash_of) new old
  fails_at {new} pairs pair h sized =
      extends h.inserted new (one_step (inserts pair.0 pair.1 (Err h.error) h.fails) sized)

module _ {K V : Type 0} {eq : K → K → Bool} (lawful : IsEquivalence eq) where
  differs : (first key : K) (value : V) (front rest : List (K × V))
      → AllByRecursion (λ k. eq first k ≡ false) (keys_of (front ++ (key, value) ∷ rest)) → eq first key ≡ false
  differs first key value [] rest all = all.0
  differs first key value (pair ∷ front) rest all = differs first key value front rest all.1

  set_after : (key : K) (value w : V) (front rest : List (K × V))
      → IsDistinct eq (keys_of (front ++ (key, value) ∷ rest))
      → set_value (eq key) (front ++ (key, value) ∷ rest) w ≡ front ++ (key, w) ∷ rest
  unfolding IsDistinct
  set_after key value w [] rest distinct = rw (lawful.refl key) refl
  set_after key value w (pair ∷ front) rest (others, distinct) =
      let other : eq key pair.0 ≡ false = lawful.symm key pair.0 ∙ differs pair.0 key value front rest others in
      rw other (ap (λ pairs. pair ∷ pairs) (set_after key value w front rest distinct))

  differs_at : (first : K) (rest : List (K × V)) (at : ℕ) (pair : K × V) → slice_get rest at ≡ Some pair
      → AllByRecursion (λ k. eq first k ≡ false) (keys_of rest) → eq first pair.0 ≡ false
  differs_at first [] at pair there all = absurd (none-some pair there)
  differs_at first (one ∷ rest) zero pair there all =
      subst (λ p. eq first p.0 ≡ false) (ap (λ o. unwrap_or o pair) there) all.0
  differs_at first (one ∷ rest) (suc at) pair there all = differs_at first rest at pair there all.1

  set_there : (pairs : List (K × V)) (at : ℕ) (pair : K × V) (w : V) → slice_get pairs at ≡ Some pair
      → IsDistinct eq (keys_of pairs) → set_value (eq pair.0) pairs w ≡ set_value_at pairs at w
  unfolding IsDistinct
  set_there [] at pair w there distinct = absurd (none-some pair there)
  set_there (first ∷ rest) zero pair w there (others, distinct) =
      let equal : eq pair.0 first.0 ≡ true =
      subst (λ p. eq p.0 first.0 ≡ true) (ap (λ o. unwrap_or o pair) there) (lawful.refl first.0) in
      rw equal refl
  set_there (first ∷ rest) (suc at) pair w there (others, distinct) =
      let other : eq pair.0 first.0 ≡ false =
      lawful.symm pair.0 first.0 ∙ differs_at first.0 rest at pair there others in
      rw other (ap (λ pairs. first ∷ pairs) (set_there rest at pair w there distinct))

  module _ {S H I : Type 0} {rules : Rules K V S} {offers : Offers K V S I} {names : I → K → Bool}
      {hash_of : H → K → ℕ} where
    pub writes_at : {new old : State K V S H} (at : ℕ) (pair : K × V) (w : V) → IsMap eq old
        → slice_get old.pairs at ≡ Some pair → new ≡ record old { pairs = set_value_at old.pairs at w }
        → Run (AnyStep rules offers names hash_of) new old
    writes_at {old = old} at pair w map there e = writes_value (eq pair.0) w map.sized
        (e ∙ ap (λ pairs. record old { pairs = pairs }) (sym (set_there old.pairs at pair w there map.distinct)))

    pub writes_newest : {old : State K V S H} (w : V) → IsMap eq old
        → Run (AnyStep rules offers names hash_of) (record old { pairs = set_newest old.pairs w }) old
    writes_newest {old} w map = newest old.pairs refl
      where
        newest : (pairs : List (K × V)) → old.pairs ≡ pairs
            → Run (AnyStep rules offers names hash_of) (record old { pairs = set_newest old.pairs w }) old
        newest [] e = no_step (ap (λ pairs. record old { pairs = pairs }) (ap (λ p. set_newest p w) e ∙ sym e))
        newest (pair ∷ pairs) e = writes_at 0 pair w map (ap (λ p. slice_get p 0) e) refl

    writes_rest : {F : Type 0} (closure : Mut F (Bor K × (MutBor V × Unit {0})) (Unit {0} × (MutBor V × Unit {0})))
        (st : State K V S H) (front rest left : List (K × V)) (f g : F) → WritesEach closure f rest left g
        → IsMap eq (record st { pairs = front ++ rest })
        → Run (AnyStep rules offers names hash_of) (record st { pairs = front ++ left })
        (record st { pairs = front ++ rest })
    writes_rest closure st front [] left f g (none, last) map = no_step (ap (λ l. record st { pairs = front ++ l }) none)
    writes_rest closure st front (pair ∷ rest) left f g (w, between, others, wrote, more, e) map =
        let is = ap (λ pairs. record st { pairs = pairs }) (sym (set_after pair.0 pair.1 w front rest map.distinct)) in
        let made = subst (IsMap eq) (sym is) (written_is_map _ (eq pair.0) w map) in
        let assoc = append_assoc front ((pair.0, w) ∷ []) in
        let run = writes_rest closure st (front ++ (pair.0, w) ∷ []) rest others between g more
        (subst (λ l. IsMap eq (record st { pairs = l })) (sym (assoc rest)) made) in
        goes_on (record st { pairs = front ++ (pair.0, w) ∷ rest }) (writes (eq pair.0) w is) made.sized
        (subst (λ l. Run (AnyStep rules offers names hash_of) (record st { pairs = l })
        (record st { pairs = front ++ (pair.0, w) ∷ rest })) (assoc others ∙ ap (λ l. front ++ l) (sym e))
        (subst (λ l. Run (AnyStep rules offers names hash_of)
        (record st { pairs = (front ++ (pair.0, w) ∷ []) ++ others }) (record st { pairs = l })) (assoc rest) run))

    pub writes_all : {F : Type 0}
        {closure : Mut F (Bor K × (MutBor V × Unit {0})) (Unit {0} × (MutBor V × Unit {0}))} {f : F}
        {new old : State K V S H} → IsMap eq old → WritesAll closure f old new
        → Run (AnyStep rules offers names hash_of) new old
    writes_all {closure = closure} {f} {new} {old} map h = subst (λ st. Run (AnyStep rules offers names hash_of) st old) (sym h.state)
        (writes_rest closure old [] old.pairs new.pairs f h.last h.each map)
