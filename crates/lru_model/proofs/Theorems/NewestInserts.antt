-- For the laws `inserts_leave_the_newest` and `maps_keep_to_their_length`.
use Rattle.std.proofs.Common.{◌≡◌, ◌≢◌, ℕ, zero, suc, ◌+◌, ◌-◌, ◌<◌, ◌≤◌, Bool, List, []}
use Rattle.std.proofs.Common.{◌∷◌, length, take, Option, Some, None, Result, Ok, Err, refl, sym, ap, ◌∙◌, subst, arith}
use Rattle.std.proofs.lemmas.Bool.{lt-ltb, le-ltb}
use Rattle.std.proofs.lemmas.List.{take_all, length-take, nil_from_length}
use Rattle.std.proofs.lemmas.List.Sums.{fold_push}
use Rattle.std.proofs.lemmas.Map.{length-set_value}
use Rattle.std.proofs.lemmas.Option.{none-some, same_Some}
use Rattle.std.specs.Prelude.{not, IsErr, nat_lt, option_map, unwrap_or, MatchOption}
use Rattle.std.specs.declared.alloc.AllocError.{AllocError}
use native.Mathlib.Decide.{dec_lt}
use Rattle.lru_limits.specs.Stores.{ReturnsPairIf}
use Rattle.lru_limits.specs.Limits.{length-limits}
use Rattle.lru_limits.specs.Limiters.{length_rules, length_offers}
use Rattle.lru_model.specs.Sizes.{no_table}
use Rattle.lru_model.specs.Lists.{is_empty, last, lookup_entry, without, without_last}
use Rattle.lru_model.specs.State.{State, Contents, contents, growth_left, Leaves, trim, IsSized}
use Rattle.lru_model.specs.Place.{table_for}
use Rattle.lru_model.specs.Inserts.{Insert, make_room}
use Rattle.lru_model.specs.Exact.{at_once, trimmed, not_stored, stored, exchanged, InsertsNew, not_offered}
use Rattle.lru_model.specs.Exact.{not_admitted, admitted, not_placed, InsertsInList}
use Rattle.group_table.specs.Sizes.{IsBucketCount}
use Rattle.lru_model.specs.Calls.{written}
use Rattle.lru_model.specs.Extends.{InsertsAll, no_insert, one_insert_more}
use Rattle.lru_model.specs.Runs.{Step, calls, inserts}
use Rattle.lru_model.specs.Kept.{stored_key, newest_after, LeavesTheNewest, KeepsToLength}
use Rattle.lru_model.proofs.States.LeavingPairs.{trim-within}
use Rattle.lru_model.proofs.States.Promotions.{written_sized}
use Rattle.lru_model.proofs.PairLists.Emptiness.{is_empty-some}
use Rattle.lru_model.proofs.TableSizes.ReachedTables.{has_table_of_half}
use Rattle.lru_model.proofs.Theorems.Fronts.{without_none}
use Rattle.lru_model.proofs.Theorems.GrantedGrowth.{insert_if_tables, insert_with_room}
use Rattle.lru_model.proofs.Theorems.Limits.{notified_fixed, length-without_found}
use Rattle.lru_model.proofs.Theorems.RunLimits.{step_keeps_number, step_stays_short}
use Rattle.lru_model.proofs.Theorems.Runs.{any_step_same}

module _ {X : Type 0} where
  but_last : (n : ℕ) (xs : List X) → length xs ≡ n + 1 → without_last xs ≡ take n xs
  but_last n [] e = absurd (omega (arith, e))
  but_last zero (x ∷ []) e = refl
  but_last (suc n) (x ∷ []) e = absurd (omega (arith, e))
  but_last zero (x ∷ y ∷ ys) e = absurd (omega (arith, e))
  but_last (suc n) (x ∷ y ∷ ys) e = ap (λ zs. x ∷ zs) (but_last n (y ∷ ys) (omega (arith, e)))

  take_after : (n : ℕ) (x : X) (xs : List X) → 0 < n → take n (x ∷ xs) ≡ x ∷ take (n - 1) xs
  take_after zero x xs some = absurd (omega arith)
  take_after (suc n) x xs some = let e : n ≡ suc n - 1 = omega arith in ap (λ m. x ∷ take m xs) e

  take_few : (n : ℕ) (xs : List X) → length (take n xs) ≤ n
  take_few n xs = omega (arith, length-take n xs)

module _ {K V : Type 0} where
  way_is : (most : ℕ) (pairs : List (K × V)) → 0 < most → length pairs ≤ most
      → make_room length_rules (record { pairs = pairs; limiter = most })
      ≡ record { pairs = take (most - 1) pairs; limiter = most }
  way_is most pairs some few = go (dec_lt most (length pairs + 1))
    where
      c : Contents K V ℕ
      c = record { pairs = pairs; limiter = most }

      go : Dec (most < length pairs + 1)
          → make_room length_rules c ≡ record { pairs = take (most - 1) pairs; limiter = most }
      go (yes full) = rw (lt-ltb most (length pairs + 1) full)
          (λ j. record {
            pairs = but_last (most - 1) pairs (omega (arith, full, few, some)) j;
            limiter = notified_fixed (length-limits {K = K} {V = V}).fixed (last pairs) most j;
          })
      go (no loose) = rw (le-ltb most (length pairs + 1) (omega (arith, loose)))
          (ap (λ xs. record { pairs = xs; limiter = most }) (sym (take_all (most - 1) pairs (omega (arith, loose)))))

more_than_none : {K V : Type 0} (most : ℕ) (key : K) (value : V) (s : ℕ) (pair : K × V)
    → ReturnsPairIf (nat_lt 0 most) most key value s (Some pair) → 0 < most
more_than_none most key value s pair n = elim (dec_lt 0 most) [
  | yes some ↦ some
  | no none ↦ absurd (none-some pair (sym (rw (le-ltb 0 most (omega (arith, none))) at n.pair)))
]

module _ {K V : Type 0} (eq : K → K → Bool) (key : K) (value : V) (old new : Contents K V ℕ)
    (result : Result Bool AllocError) (few : length old.pairs ≤ old.limiter) where
  abbrev EndsSo : Result Bool AllocError → Type 0
  EndsSo result = LeavesTheNewest eq old.limiter key value old.pairs result new.pairs

  abbrev newest : List (K × V)
  newest = (stored_key (eq key) key old.pairs, value) ∷ without (eq key) old.pairs

  answered : new.pairs ≡ take old.limiter newest → EndsSo (Ok (nat_lt 0 old.limiter))
  answered is = record { answer = λ _. refl; newest = is; others = tt }

  ended : (c : Contents K V ℕ) → length c.pairs ≤ c.limiter → 0 < length c.pairs → 0 < old.limiter
      → c.pairs ≡ take old.limiter newest → trimmed length_rules c ≡ (result, new) → EndsSo result
  ended c within some more is h =
      let none : trim length_rules c ≡ c = trim-within length_rules c (le-ltb c.limiter (length c.pairs) within) in
      let flag = ap (λ d. not (is_empty d.pairs)) none ∙ ap not (is_empty-some c.pairs some)
      ∙ sym (lt-ltb 0 old.limiter more) in
      rw (sym (ap (λ x. x.0) h) ∙ ap Ok flag) (answered (ap (λ d. d.pairs) (sym (ap (λ x. x.1) h) ∙ none) ∙ is))

  there : (was : K × V) → lookup_entry (eq key) old.pairs ≡ Some was
      → exchanged length_rules length_offers eq key value old was ≡ (result, new) → EndsSo result
  there was found h =
      let fewer = length-without_found (eq key) old.pairs was found in
      let stored : was.0 ≡ stored_key (eq key) key old.pairs =
      sym (ap (λ o. unwrap_or (option_map (λ p. p.0) o) key) found) in
      ended (record { pairs = (was.0, value) ∷ without (eq key) old.pairs; limiter = old.limiter })
      (omega (arith, fewer, few)) (omega arith) (omega (arith, fewer, few))
      (ap (λ k. (k, value) ∷ without (eq key) old.pairs) stored
      ∙ sym (take_all old.limiter newest (omega (arith, fewer, few)))) h

  short : (result : Result Bool AllocError) → IsErr result → new.pairs ≡ take (old.limiter - 1) old.pairs
      → EndsSo result
  short (Ok b) h is = absurd (grind (arith, h))
  short (Err e) h is = record { answer = λ ok. absurd (grind (arith, ok)); newest = tt; others = is }

  way : (s : ℕ) (pair : K × V) → ReturnsPairIf (nat_lt 0 old.limiter) old.limiter key value s (Some pair)
      → make_room length_rules (record { pairs = old.pairs; limiter = s })
      ≡ record { pairs = take (old.limiter - 1) old.pairs; limiter = old.limiter }
  way s pair n = ap (λ t. make_room length_rules (record { pairs = old.pairs; limiter = t })) n.limiter
      ∙ way_is old.limiter old.pairs (more_than_none old.limiter key value s pair n) few

  absent : lookup_entry (eq key) old.pairs ≡ None
      → InsertsNew length_rules length_offers eq (λ s pair report. report ≡ at_once) key value old result new
      → EndsSo result
  absent none (not_offered k r e) = absurd k
  absent none (not_placed s pair n report told r e) =
      short result r (ap (λ d. d.pairs) (e ∙ (λ j. not_stored length_rules (told j) pair (way s pair n j))))
  absent none (admitted s pair n report told e) =
      let some = more_than_none old.limiter key value s pair n in
      let gives : Some pair ≡ Some (key, value) = rw (lt-ltb 0 old.limiter some) at n.pair in
      let as_new : newest ≡ (key, value) ∷ old.pairs =
      λ j. (unwrap_or (option_map (λ p. p.0) (none j)) key, value) ∷ without_none (eq key) old.pairs none j in
      ended (record { pairs = (key, value) ∷ take (old.limiter - 1) old.pairs; limiter = old.limiter })
      (omega (arith, take_few (old.limiter - 1) old.pairs, some)) (omega arith) some
      (sym (ap (take old.limiter) as_new ∙ take_after old.limiter (key, value) old.pairs some))
      ((λ j. stored length_rules (sym told j) (sym (same_Some pair (key, value) gives) j) (sym (way s pair n) j)) ∙ e)
  absent none (not_admitted s n r e) = elim (dec_lt 0 old.limiter) [
    | yes some ↦ absurd (none-some (key, value) (rw (lt-ltb 0 old.limiter some) at n.pair))
    | no nothing ↦
        let zero_is : old.limiter ≡ 0 = omega (arith, nothing) in
        rw (r ∙ ap Ok (sym (le-ltb 0 old.limiter (omega (arith, nothing)))))
        (answered (ap (λ d. d.pairs) e ∙ nil_from_length old.pairs (omega (arith, few, nothing))
        ∙ ap (λ m. take m newest) (sym zero_is)))
  ]

  pub list_leaves : InsertsInList length_rules length_offers eq key value old result new → EndsSo result
  list_leaves h = go (lookup_entry (eq key) old.pairs) refl h
    where
      go : (o : Option (K × V)) → lookup_entry (eq key) old.pairs ≡ o → MatchOption o
          (InsertsNew length_rules length_offers eq (λ s pair report. report ≡ at_once) key value old result new)
          (λ pair. exchanged length_rules length_offers eq key value old pair ≡ (result, new)) → EndsSo result
      go (Some was) found h = there was found h
      go None none h = absent none h

module _ {K V H : Type 0} (eq : K → K → Bool) (key : K) (value : V) (old : State K V ℕ H)
    (result : Result Bool AllocError) (new : State K V ℕ H) where
  pub leaves_with_room : {hash_of : H → K → ℕ} → length old.pairs ≤ old.limiter → 0 < growth_left old
      → Insert length_rules length_offers eq hash_of key value old result new
      → LeavesTheNewest eq old.limiter key value old.pairs result new.pairs
  leaves_with_room few some step = list_leaves eq key value (contents old) (contents new) result few
      (insert_with_room length_rules length_offers eq key value old new result some step)

  pub leaves_newest : {hash_of : H → K → ℕ} → KeepsToLength old
      → Insert length_rules length_offers eq hash_of key value old result new
      → LeavesTheNewest eq old.limiter key value old.pairs result new.pairs
  leaves_newest {hash_of} keeps step = list_leaves eq key value (contents old) (contents new) result keeps.within
      (insert_if_tables length_rules length_offers eq key value old new result (λ s bytes. (refl, refl)) tables step)
    where
      tables : (s : ℕ) (pair : K × V) → ReturnsPairIf (nat_lt 0 old.limiter) old.limiter key value s (Some pair)
          → (ready : State K V ℕ H)
          → Leaves (record old { limiter = s }) (make_room length_rules (record { pairs = old.pairs; limiter = s }))
          ready
          → table_for 1 ready ≢ no_table
      tables s pair n ready l =
          let some = more_than_none old.limiter key value s pair n in
          let left : ready.pairs ≡ take (old.limiter - 1) old.pairs = ap (λ st. st.pairs) l.is ∙ ap (λ d. d.pairs)
          (way eq key value (contents old) (contents new) result keeps.within s pair n) in
          has_table_of_half ready (ap (λ st. st.max) l.is ∙ keeps.links)
          (rw (ap (λ st. st.entry_bytes) l.is) keeps.entry)
          (subst IsBucketCount (sym l.growth_left.table) keeps.sized.table.count)
          (omega (arith, ap length left, take_few (old.limiter - 1) old.pairs, some, keeps.half))

module _ {K V H : Type 0} (eq : K → K → Bool) (old new : State K V ℕ H) where
  pub keeps_on : {hash_of : H → K → ℕ} → KeepsToLength old → IsSized new
      → Step length_rules length_offers eq hash_of old new → KeepsToLength new
  keeps_on {hash_of} keeps sized step =
      let stays = step_keeps_number eq hash_of length-limits.fixed old new step in
      let same = any_step_same old new (calls step) in
      record {
        within = rw stays (step_stays_short eq hash_of length-limits old new step keeps.within);
        half = rw stays keeps.half;
        links = same.1 ∙ keeps.links;
        entry = rw same.2 keeps.entry;
        sized = sized;
      }

pub keeps_written : {K V H : Type 0} (names : K → Bool) (value : V) (old : State K V ℕ H) → KeepsToLength old
    → KeepsToLength (written names value old)
keeps_written names value old keeps = record {
  within = omega (arith, keeps.within, length-set_value names old.pairs value);
  half = keeps.half;
  links = keeps.links;
  entry = keeps.entry;
  sized = written_sized old names value keeps.sized;
}

module _ {K V H : Type 0} (eq : K → K → Bool) (old : State K V ℕ H) (keeps : KeepsToLength old) where
  pub record LeavesNewestOf (inserted : List (K × V)) (new : State K V ℕ H) : Type 0 where
    pub keeps_on : KeepsToLength new
    pub limiter : new.limiter ≡ old.limiter
    pub pairs : new.pairs ≡ newest_after eq old.limiter inserted old.pairs

  pub leaves_newest_of : {hash_of : H → K → ℕ} (inserted : List (K × V)) (new : State K V ℕ H)
      → InsertsAll length_rules length_offers eq hash_of old inserted new → LeavesNewestOf inserted new
  leaves_newest_of inserted new no_insert = record { keeps_on = keeps; limiter = refl; pairs = refl }
  leaves_newest_of {hash_of} _ _ (one_insert_more {pairs} {before} run key value kept new step sized) =
      let was = leaves_newest_of pairs before run in
      let call = inserts key value (Ok kept) step in
      record {
        keeps_on = keeps_on eq before new was.keeps_on sized call;
        limiter = step_keeps_number eq hash_of length-limits.fixed before new call ∙ was.limiter;
        pairs = (leaves_newest eq key value before (Ok kept) new was.keeps_on step).newest
            ∙ (λ j. take (was.limiter j) ((stored_key (eq key) key (was.pairs j), value) ∷ without (eq key)
            (was.pairs j)))
            ∙ sym (fold_push _ old.pairs pairs (key, value));
      }
