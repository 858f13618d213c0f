use Rattle.std.proofs.Common.{◌≡◌, ℕ, ◌+◌, ◌-◌, ◌^◌, ◌≤◌, ◌<◌, Bool, true, false, cond, List, [], ◌∷◌}
use Rattle.std.proofs.Common.{Option, Some, None, Result, Ok, refl, sym, ap, ◌∙◌, arith, inl, inr}
use Rattle.std.proofs.lemmas.Option.{same_Some}
use Rattle.std.specs.Prelude.{MatchOption, not, option_map, unwrap_or}
use Rattle.std.specs.declared.alloc.AllocError.{AllocError}
use Rattle.std.proofs.lemmas.Bool.{lt-ltb, le-ltb, le-leb, cases_lt}
use Rattle.lru_limits.specs.Budget.{Budget, by_weight, weighs, can_add}
use Rattle.lru_limits.specs.Stores.{ReturnsPairIf}
use Rattle.lru_model.proofs.CallerLemmas.{found_named, without_none}
use Rattle.lru_model.specs.Exact.{at_once, exchanged, stored, InsertsNew, not_offered, not_admitted, admitted}
use Rattle.lru_model.specs.Exact.{not_placed, InsertsInList}
use Rattle.lru_model.specs.Inserts.{make_room, MayGive}
use Rattle.lru_model.specs.Kept.{stored_key}
use Rattle.lru_model.specs.Lists.{is_empty, lookup_entry, without, without_last}
use Rattle.lru_model.specs.State.{Contents, trim}
use Rattle.lru_theory.specs.Budgets.{affordable}
use Rattle.lru_theory.proofs.Affordable.{spent}
use Rattle.lru_replay.proofs.CostLists.{worth, spending, holding, popped, trimmed_is, spent_without, fewer}
use Rattle.lru_replay.proofs.StoredCounts.{clash}

nothing : {A : Type 0} {x : A} → None ≡ Some x → ⊥
nothing e = cc

accepted : {K V S : Type 0} (accepts : Bool) (s more : S) (key : K) (v : V) (t : S) (given : Option (K × V))
    → accepts ≡ true → ReturnsPairIf accepts (cond accepts more s) key v t given → (t ≡ more) × (given ≡ Some (key, v))
accepted true s more key v t given e h = (h.limiter, h.pair)
accepted false s more key v t given e h = absurd cc

module _ {K V : Type 0} (weight : K → V → ℕ) (n : ℕ) (fits : n < 2 ^ 63) (eq : K → K → Bool) (key : K) (v : V)
    (pairs : List (K × V)) (cheap : weight key v ≤ n)
    (alike : (other : K) → eq key other ≡ true → weight other v ≡ weight key v)
    (few : spent (worth weight) pairs ≤ n) where
  abbrev costs : K × V → ℕ
  costs = worth weight

  abbrev Left : Type 0
  Left = Contents K V Budget

  -- the contents after the insert
  abbrev pub left : Left
  left = holding weight n (affordable costs n ((stored_key (eq key) key pairs, v) ∷ without (eq key) pairs))

  can : (sum c : ℕ) → sum ≤ n → c ≤ n → can_add n sum c ≡ true
  can sum c few cheap = rw (le-leb c n cheap, lt-ltb (sum + c) (2 ^ 64) (omega (arith, few, cheap, fits))) refl

  trimmed_to : (x : K × V) (rest : List (K × V)) (sum : ℕ) → sum ≡ costs x + spent costs rest
      → trim (by_weight weight) (record { pairs = x ∷ rest; limiter = spending weight n sum })
      ≡ holding weight n (affordable costs n (x ∷ rest))
  trimmed_to x rest sum is =
      ap (λ s. trim (by_weight weight) (record { pairs = x ∷ rest; limiter = spending weight n s })) is
      ∙ trimmed_is weight n (x ∷ rest)

  there_ends : (p : K × V) → lookup_entry (eq key) pairs ≡ Some p
      → (exchanged (by_weight weight) (weighs weight) eq key v (holding weight n pairs) p).1 ≡ left
  there_ends p found =
      let same : weight p.0 v ≡ weight key v = alike p.0 (found_named (eq key) pairs p found) in
      let all = spent_without weight (eq key) pairs p found in
      rw (can (spent costs pairs - costs p) (weight p.0 v) (omega (arith, few)) (omega (arith, same, cheap)))
      (trimmed_to (p.0, v) (without (eq key) pairs) (spent costs pairs - costs p + weight p.0 v) (omega (arith, all)))
      ∙ ap (λ o. holding weight n (affordable costs n
      ((unwrap_or (option_map (λ q. q.0) o) key, v) ∷ without (eq key) pairs))) (sym found)

  -- the contents after the limiter accepted a new pair, and before `make_room`
  abbrev offering : Left
  offering = record { pairs = pairs; limiter = spending weight n (spent costs pairs + weight key v) }

  abbrev onto : Left → Left
  onto c = record { pairs = (key, v) ∷ c.pairs; limiter = c.limiter }

  room_made : trim (by_weight weight) (onto (make_room (by_weight weight) offering))
      ≡ holding weight n (affordable costs n ((key, v) ∷ pairs))
  room_made = go pairs
    where
      go : (xs : List (K × V)) → trim (by_weight weight) (onto (make_room (by_weight weight)
          (record { pairs = xs; limiter = spending weight n (spent costs xs + weight key v) })))
          ≡ holding weight n (affordable costs n ((key, v) ∷ xs))
      go [] = rw (le-ltb n (0 + weight key v) (omega (arith, cheap))) (trimmed_to (key, v) [] (0 + weight key v) (omega arith))
      go (x ∷ xs) = elim (cases_lt n (spent costs (x ∷ xs) + weight key v)) [
        | inl over ↦ rw (lt-ltb n (spent costs (x ∷ xs) + weight key v) over)
            (ap (λ c. trim (by_weight weight) (onto c))
            (popped weight n (weight key v) (spent costs (x ∷ xs) + weight key v)
            (weight key v + spent costs (without_last (x ∷ xs))) x xs (omega arith) refl)
            ∙ trimmed_is weight n ((key, v) ∷ without_last (x ∷ xs))
            ∙ ap (holding weight n) (fewer costs n ((key, v) ∷ x ∷ xs) (omega (arith, over))))
        | inr within ↦ rw (le-ltb n (spent costs (x ∷ xs) + weight key v) within)
            (trimmed_to (key, v) (x ∷ xs) (spent costs (x ∷ xs) + weight key v) (omega arith))
      ]

  given_is : (s : Budget) (given : Option (K × V))
      → MayGive (by_weight weight) (weighs weight) eq key v (holding weight n pairs) s given
      → (s ≡ spending weight n (spent costs pairs + weight key v)) × (given ≡ Some (key, v))
  given_is s given gives = accepted (can_add n (spent costs pairs) (weight key v)) (spending weight n (spent costs pairs))
      (spending weight n (spent costs pairs + weight key v)) key v s given (can (spent costs pairs) (weight key v) few cheap)
      gives

  pub record Ends (flag : Bool) (new : Left) : Type 0 where
    pub leaves : new ≡ left
    pub says : lookup_entry (eq key) pairs ≡ None → ◌≡◌ {A = Result Bool AllocError} (Ok flag) (Ok true)

  pub insert_ends : (flag : Bool) (new : Left)
      → InsertsInList (by_weight weight) (weighs weight) eq key v (holding weight n pairs) (Ok flag) new → Ends flag new
  insert_ends flag new h = go (lookup_entry (eq key) pairs) refl h
    where
      go : (o : Option (K × V)) → lookup_entry (eq key) pairs ≡ o → MatchOption o
          (InsertsNew (by_weight weight) (weighs weight) eq (λ s p report. report ≡ at_once) key v (holding weight n pairs)
          (Ok flag) new)
          (λ p. exchanged (by_weight weight) (weighs weight) eq key v (holding weight n pairs) p ≡ (Ok flag, new))
          → Ends flag new
      go (Some p) found h = record {
        leaves = sym (ap (λ x. x.1) h) ∙ there_ends p found;
        says = λ none. absurd (nothing (sym none ∙ found));
      }
      go None none (not_offered never err same) = absurd never
      go None none (not_placed s p gives report told err same) = clash err
      go None none (not_admitted s gives r e) = absurd (nothing (given_is s None gives).1)
      go None none (admitted s p gives report told e) =
          let is = given_is s (Some p) gives in
          let all : (Ok flag, new) ≡ stored (by_weight weight) at_once (key, v) (make_room (by_weight weight) offering) =
          sym e ∙ (λ i. stored (by_weight weight) (told i) (same_Some p (key, v) is.1 i)
          (make_room (by_weight weight) (record { pairs = pairs; limiter = is.0 i }))) in
          let first : not (is_empty (holding weight n (affordable costs n ((key, v) ∷ pairs))).pairs) ≡ true =
          rw (le-leb (weight key v) n cheap) refl in
          record {
            leaves = ap (λ x. x.1) all ∙ room_made ∙ (λ i. holding weight n (affordable costs n
                ((unwrap_or (option_map (λ q. q.0) (sym none i)) key, v) ∷ sym (without_none (eq key) pairs none) i)));
            says = λ _. ap (λ x. x.0) all ∙ ap (λ c. Ok (not (is_empty c.pairs))) room_made ∙ ap Ok first;
          }
