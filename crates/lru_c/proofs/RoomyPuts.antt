-- If all entries fit into the budget together, a put of byte strings evicts nothing. Pops make room for a put.
use Rattle.std.proofs.Common.{◌≡◌, ◌≤◌, ◌<◌, ◌+◌, ◌-◌, ◌^◌, ℕ, Bool, true, false, cond, List, [], ◌∷◌, length, Option}
use Rattle.std.proofs.Common.{Some, None, Result, refl, sym, ap, ◌∙◌, subst, arith}
use Rattle.std.proofs.lemmas.Bool.{true≢false}
use Rattle.std.proofs.lemmas.Bool.Decides.{nat_tests}
use Rattle.std.proofs.lemmas.Option.{none-some}
use Rattle.std.specs.Cmp.Lexicographic.{bytes_decides}
use Rattle.std.specs.declared.alloc.AllocError.{AllocError}
use Rattle.std.specs.Prelude.{is_some, nat_lt, option_map, unwrap_or}
use Rattle.lru_limits.specs.Budget.{Budget, can_add}
use Rattle.lru_model.specs.Calls.{Remove, promoted}
use Rattle.lru_model.specs.Inserts.{Insert, replaced, not_replaced, no_memory_to_admit, not_admitted, admitted}
use Rattle.lru_model.specs.Inserts.{with_replaced}
use Rattle.lru_model.specs.Kept.{AcceptsNew, IsAdded}
use Rattle.lru_model.specs.Lists.{after, last, lookup_entry, without}
use Rattle.lru_model.specs.Reservations.Reserve.{unchanged, rehashed, reserved as grown, asked_only}
use Rattle.lru_model.specs.State.{contents, growth_left, IsMap}
use Rattle.lru_model.proofs.CallerLemmas.{found_named, lookup-entry, without_none}
use Rattle.lru_model.proofs.PairLists.DistinctKeys.{absent_without}
use Rattle.lru_model.proofs.States.LeavingPairs.{trim-within}
use Rattle.lru_model.proofs.Theorems.Sums.{total, total-is, split_named, IsSplit}
use Rattle.lru_c.specs.Bytes.{Bytes, BytesMap, IsWithinBudget, IsReady, FindsMemory, bytes_rules, bytes_offers}
use Rattle.lru_c.specs.Bytes.{same_bytes, names_bytes, names_bytes-lawful, hash_of_bytes, weight, texts, must_evict}
use Rattle.lru_c.specs.Bytes.{PopsFor, others_weight}
use Rattle.lru_c.specs.Bytes.IsReady.{enough, reserved}
use Rattle.lru_c.specs.Bytes.Pops.{none, too_long, removed}
use Rattle.lru_c.specs.Bytes.PopsFor.{has_room, pops}
use Rattle.lru_c.specs.declared.bytes.answers.Popped.{Popped}
use Rattle.lru_c.proofs.WithinBudget.{weighs, got_in_budget, pop_in_budget}

abbrev pub cost : Bytes × Bytes → ℕ
cost pair = weighs pair.0 pair.1

not_less : (m n : ℕ) → n ≤ m → nat_lt m n ≡ false
not_less m n few = grind (arith, nat_tests, few)

can : (limit sum c : ℕ) → sum + c ≤ limit → limit < 2 ^ 64 → can_add limit sum c ≡ true
can limit sum c few small = grind (arith, nat_tests, few, small)

ready_same : {key : List ℕ} {old ready : BytesMap} → IsReady key old ready → contents ready ≡ contents old
ready_same (enough finds same) = ap contents same
ready_same (reserved absent (unchanged nothing same)) = ap contents same
ready_same (reserved absent (rehashed needs table ok moves)) = ap contents moves.state
ready_same (reserved absent (grown needs count bytes table grants ok moves)) = ap contents moves.state
ready_same (reserved absent (asked_only needs count bytes table fails same)) = ap contents same

-- what a put of this key and this value leaves, if it has to evict no other entry
pub record LeavesOthers (key value : List ℕ) (old new : BytesMap) : Type 0 where
  pub in_room : texts new.pairs ≡ (key, value) ∷ texts (without (names_bytes key) old.pairs)
  pub others : without (names_bytes key) new.pairs ≡ without (names_bytes key) old.pairs

-- Before an insert of this key and this value, all entries fit into the budget together.
record Fits (k v : Bytes) (map : BytesMap) : Type 0 where
  pub sum : map.limiter.cost ≡ total cost map.pairs
  pub room : total cost (without (same_bytes k) map.pairs) + weighs k v ≤ map.limiter.limit
  pub small : map.limiter.limit < 2 ^ 64

module _ (k v : Bytes) (map new : BytesMap) (result : Result Bool AllocError) (fits : Fits k v map) where
  accepted : lookup_entry (same_bytes k) map.pairs ≡ None
      → AcceptsNew bytes_rules bytes_offers same_bytes k v (contents map) (k, v)
  accepted absent =
      let all : map.limiter.cost + weighs k v ≤ map.limiter.limit =
      omega (arith, fits.room, fits.sum, ap (total cost) (without_none (same_bytes k) map.pairs absent)) in
      let accepts = can map.limiter.limit map.limiter.cost (weighs k v) all fits.small in
      record {
        finds = λ out. out;
        gives = λ s given offer. (
          offer.pair ∙ ap (λ b. cond b (Some (k, v)) None) accepts,
          ap (λ (b : Budget). nat_lt b.limit b.cost) (offer.limiter ∙ ap (λ b. cond b
              (record map.limiter { cost = map.limiter.cost + weighs k v }) map.limiter) accepts)
              ∙ not_less _ _ all,
        );
      }

  in_place : (pair : Bytes × Bytes) → lookup_entry (same_bytes k) map.pairs ≡ Some pair
      → map.limiter.cost - cost pair + weighs pair.0 v ≤ map.limiter.limit
  in_place pair found =
      let same = (bytes_decides k.items pair.0.items).0 (found_named (same_bytes k) map.pairs pair found) in
      let split = subst (λ o. IsSplit cost map.pairs o (without (same_bytes k) map.pairs)) found
      (split_named cost (same_bytes k) map.pairs) in
      omega (arith, split, fits.sum, fits.room, ap length same, pair.0.ok.0, k.ok.0)

  leaves : (pair : Bytes × Bytes) → pair.0.items ≡ k.items → pair.1.items ≡ v.items
      → new.pairs ≡ pair ∷ without (same_bytes k) map.pairs → LeavesOthers k.items v.items map new
  leaves pair key value pairs = record {
    in_room = ap texts pairs ∙ (λ i. (key i, value i) ∷ texts (without (same_bytes k) map.pairs));
    others = ap (without (same_bytes k)) pairs ∙ ap (λ b. cond b (without (same_bytes k) map.pairs)
        (pair ∷ without (same_bytes k) (without (same_bytes k) map.pairs)))
        ((bytes_decides k.items pair.0.items).1 (sym key));
  }

  stored : (lookup_entry (same_bytes k) map.pairs ≡ None
      → IsAdded bytes_rules bytes_offers same_bytes k v (k, v) map result new)
      → Insert bytes_rules bytes_offers same_bytes hash_of_bytes k v map result new
      → LeavesOthers k.items v.items map new
  stored added = go
    where
      of_new : lookup_entry (same_bytes k) map.pairs ≡ None → LeavesOthers k.items v.items map new
      of_new absent = leaves (k, v) refl refl ((added absent).pairs
          ∙ ap (λ pairs. (k, v) ∷ pairs) (sym (without_none (same_bytes k) map.pairs absent)))

      go : Insert bytes_rules bytes_offers same_bytes hash_of_bytes k v map result new
          → LeavesOthers k.items v.items map new
      go (replaced pair found taken says left) =
          let same = sym ((bytes_decides k.items pair.0.items).0 (found_named (same_bytes k) map.pairs pair found)) in
          let c = with_replaced bytes_rules bytes_offers same_bytes pair k v (contents map) in
          let within : nat_lt c.limiter.limit c.limiter.cost ≡ false = ap (λ b. let d : Budget = cond b
          (record map.limiter { cost = map.limiter.cost - cost pair + weighs pair.0 v }) map.limiter in
          nat_lt d.limit d.cost) taken ∙ not_less _ _ (in_place pair found) in
          let is = ap contents left.is ∙ trim-within bytes_rules c within in
          leaves (pair.0, v) same refl (ap (λ d. d.pairs) is)
      go (not_replaced pair found taken says left) = absurd (true≢false (sym (can map.limiter.limit
          (map.limiter.cost - cost pair) (weighs pair.0 v) (in_place pair found) fits.small) ∙ taken))
      go (no_memory_to_admit absent out failed is) = of_new absent
      go (not_admitted absent s given says is) = of_new absent
      go (admitted absent s pair given places) = of_new absent

module _ (k v : Bytes) (old ready new : BytesMap) (result : Result Bool AllocError) (within : IsWithinBudget old)
    (small : old.limiter.limit < 2 ^ 64) where
  abbrev PutsInRoom : List ℕ → List ℕ → Type 0
  PutsInRoom key value = must_evict key (length value) old ≡ false
      → weight (length key) (length value) ≤ old.limiter.limit → IsReady key old ready → FindsMemory key ready
      → LeavesOthers key value old new

  module _ (adds : 0 < growth_left ready → lookup_entry (same_bytes k) ready.pairs ≡ None
      → AcceptsNew bytes_rules bytes_offers same_bytes k v (contents ready) (k, v)
      → IsAdded bytes_rules bytes_offers same_bytes k v (k, v) ready result new)
      (step : Insert bytes_rules bytes_offers same_bytes hash_of_bytes k v ready result new) where
    own_put : PutsInRoom k.items v.items
    own_put roomy light is_ready finds =
        let others = without (same_bytes k) old.pairs in
        let room : total cost others + weighs k v ≤ old.limiter.limit =
        grind (arith, nat_tests, roomy, light, total-is cost others, k.ok.0, v.ok.0) in
        let fits : Fits k v (record ready { pairs = old.pairs; limiter = old.limiter }) =
        record { sum = within.0 ∙ sym (total-is cost old.pairs); room = room; small = small } in
        let fits_ready = subst (λ c. Fits k v (record ready { pairs = c.pairs; limiter = c.limiter }))
        (sym (ready_same is_ready)) fits in
        let is = stored k v ready new result fits_ready (λ absent. adds
        (finds (ap is_some (lookup-entry (same_bytes k) ready.pairs ∙ ap (option_map (λ p. p.1)) absent))) absent
        (accepted k v ready new result fits_ready absent)) step in record {
          in_room = is.in_room
              ∙ ap (λ c. (k.items, v.items) ∷ texts (without (same_bytes k) c.pairs)) (ready_same is_ready);
          others = is.others ∙ ap (λ c. without (same_bytes k) c.pairs) (ready_same is_ready);
        }

    pub put_in_room : (key value : List ℕ) → k.items ≡ key → v.items ≡ value → PutsInRoom key value
    put_in_room key value is_key is_value =
        subst (λ key. PutsInRoom key value) is_key (subst (λ value. PutsInRoom k.items value) is_value own_put)

pub removed_others : (key : List ℕ) (old new : BytesMap) (value : Option Bytes) → IsMap same_bytes old
    → Remove bytes_rules (names_bytes key) old value new
    → without (names_bytes key) new.pairs ≡ without (names_bytes key) old.pairs
removed_others key old new value map step =
    ap (λ st. without (names_bytes key) st.pairs) step.state.is
    ∙ without_none (names_bytes key) (without (names_bytes key) old.pairs)
    (absent_without same_bytes (names_bytes key) ((names_bytes-lawful (λ bytes. bytes)).one key) old.pairs map.distinct)

-- the oldest pair, even if another pair became the newest
abbrev pub HasOldest : Option (Bytes × Bytes) → List (Bytes × Bytes) → Type 0
HasOldest o others = (pair : Bytes × Bytes) × (last others ≡ Some pair) × (last (after o others) ≡ Some pair)

oldest_of : (o : Option (Bytes × Bytes)) (xs : List (Bytes × Bytes)) → 0 < total cost xs → HasOldest o xs
oldest_of o [] some = absurd (omega (arith, some))
oldest_of o (x ∷ xs) some = go o (found x xs)
  where
    found : (x : Bytes × Bytes) (xs : List (Bytes × Bytes)) → (pair : Bytes × Bytes) × (last (x ∷ xs) ≡ Some pair)
    found x [] = (x, refl)
    found x (y ∷ ys) = found y ys

    go : (o : Option (Bytes × Bytes)) → (pair : Bytes × Bytes) × (last (x ∷ xs) ≡ Some pair) → HasOldest o (x ∷ xs)
    go None (pair, is) = (pair, is, is)
    go (Some own) (pair, is) = (pair, is, is)

module _ (key : List ℕ) (map : BytesMap) where
  abbrev own : Option (Bytes × Bytes)
  own = lookup_entry (names_bytes key) map.pairs

  pub oldest_other : (len : ℕ) → must_evict key len map ≡ true → HasOldest own (without (names_bytes key) map.pairs)
  oldest_other len must =
      let some : 0 < others_weight key map = grind (arith, nat_tests, must) in
      oldest_of own _ (omega (arith, some, total-is cost (without (names_bytes key) map.pairs)))

  pub weight_split : IsWithinBudget map → others_weight key map + unwrap_or (option_map cost own) 0 ≡ map.limiter.cost
  weight_split within = omega (
    arith,
    within.0,
    total-is cost map.pairs,
    total-is cost (without (names_bytes key) map.pairs),
    go own (split_named cost (names_bytes key) map.pairs),
  )
    where
      go : (o : Option (Bytes × Bytes)) → IsSplit cost map.pairs o (without (names_bytes key) map.pairs)
          → total cost (without (names_bytes key) map.pairs) + unwrap_or (option_map cost o) 0 ≡ total cost map.pairs
      go None split = omega (arith, ap (total cost) split)
      go (Some pair) split = split

module _ {own : List ℕ} {len : ℕ} {old new : BytesMap} {answer : Popped} {key key_left value value_left : List ℕ} where
  pub pop_for_in_budget : PopsFor own len old answer key key_left value value_left new → IsWithinBudget old
      → IsWithinBudget new
  pop_for_in_budget (has_room roomy is key value same) within = subst IsWithinBudget (sym same) within
  pop_for_in_budget (pops must pair other oldest step) within =
      pop_in_budget step (got_in_budget (names_bytes own) old (promoted (names_bytes own) old) refl within)

  pub found_if_must : PopsFor own len old answer key key_left value value_left new
      → answer.found ≡ must_evict own len old
  found_if_must (has_room roomy is _ _ _) = ap (λ a. a.found) is ∙ sym roomy
  found_if_must (pops must pair other oldest (none no_pair _ _ _ _)) = absurd (none-some pair (sym no_pair ∙ oldest))
  found_if_must (pops must pair other oldest (too_long at is fits told _ _ _)) = ap (λ a. a.found) told ∙ sym must
  found_if_must (pops must pair other oldest (removed at is fits told _ _ _)) = ap (λ a. a.found) told ∙ sym must
