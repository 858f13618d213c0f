use Rattle.std.proofs.Common.{◌≡◌, ℕ, suc, ◌+◌, ◌≤◌, ◌⊎◌, inl, inr, Bool, true, false, cond, List, [], ◌∷◌, length}
use Rattle.std.proofs.Common.{Option, Some, None, Result, refl, sym, ap, ◌∙◌, subst, arith}
use Rattle.std.specs.declared.alloc.AllocError.{AllocError}
use Rattle.lru_limits.specs.Rules.{Rules, Offers}
use Rattle.lru_limits.specs.Limits.{IsFixed}
use Rattle.lru_model.specs.Sizes.{usage}
use Rattle.lru_model.specs.Lists.{last, lookup_entry, without, set_entry}
use Rattle.lru_model.specs.State.{State, buckets, contents, IsWithin, notified_of}
use Rattle.lru_model.specs.Place.{Outcome, placed, refused, no_memory}
use Rattle.lru_model.specs.Inserts.{Insert, replaced, not_replaced, no_memory_to_admit, not_admitted, admitted, Settles}
use Rattle.lru_model.specs.Inserts.{replacement}
use Rattle.lru_model.specs.Theorems.{UsesAtMost}
use Rattle.lru_model.specs.Updates.{Update, updated, rejected, not_there, with_updated}
use Rattle.lru_model.specs.declared.results.Updated.{Updated}
use Rattle.lru_model.specs.declared.results.Updated.TheVariants.{Replaced}
use Rattle.lru_model.proofs.PairLists.SetEntries.{length-set_entry}
use Rattle.lru_model.proofs.TableSizes.Budgets.{usage_fewer}
use Rattle.lru_model.proofs.Theorems.Moves.{KeepsOffers, left_are}
use Rattle.lru_model.proofs.Theorems.TableGrowth.{Tables, IsNextCount}
use Rattle.lru_model.proofs.Theorems.Fronts.{front_make_room, front_trim, length-front}
use Rattle.lru_model.proofs.Theorems.Sums.{total, total-one, total-least, split-least, split_named}
use Rattle.lru_model.proofs.Theorems.InsertAnswers.{trim_ends, Comes, place_comes}

module _ {K V : Type 0} (names : K → Bool) where
  pub length-without : (xs : List (K × V)) → length (without names xs) ≤ length xs
  length-without [] = omega arith
  length-without (x ∷ xs) = go (names x.0) (length-without xs)
    where
      go : (b : Bool) → length (without names xs) ≤ length xs → length (cond b xs (x ∷ without names xs))
          ≤ suc (length xs)
      go true h = omega arith
      go false h = omega (arith, h)

  pub length-without_found : (xs : List (K × V)) (pair : K × V) → lookup_entry names xs ≡ Some pair
      → length (without names xs) + 1 ≡ length xs
  length-without_found [] pair e = absurd (grind arith)
  length-without_found (x ∷ xs) pair e = go (names x.0) (length-without_found xs pair) e
    where
      go : (b : Bool) → (lookup_entry names xs ≡ Some pair → length (without names xs) + 1 ≡ length xs)
          → cond b (Some x) (lookup_entry names xs) ≡ Some pair
          → length (cond b xs (x ∷ without names xs)) + 1 ≡ suc (length xs)
      go true h e = omega arith
      go false h e = omega (arith, h e)

module _ {K V S I : Type 0} {rules : Rules K V S} {offers : Offers K V S I} {number : S → ℕ}
    (fixed : IsFixed rules offers number) where
  pub notified_fixed : (pair : Option (K × V)) (s : S) → number (notified_of rules pair s) ≡ number s
  notified_fixed None s = refl
  notified_fixed (Some pair) s = fixed.removed s pair.0 pair.1

  pub keeps_number : {names : I → K → Bool} → KeepsOffers rules offers names
      (λ c d. number d.limiter ≡ number c.limiter)
  keeps_number = record {
    keeps = record {
      way = record {
        self = λ c. refl;
        trans = λ p q. q ∙ p;
        asked = λ bytes c. fixed.grown c.limiter bytes;
        popped = λ c. notified_fixed (last c.pairs) c.limiter;
      };
      left = λ test c. notified_fixed (lookup_entry test c.pairs) c.limiter;
      dropped = λ newer older pair s. fixed.removed s pair.0 pair.1;
      first = λ test c. refl;
      last = λ test c. refl;
      cleared = λ c. fixed.cleared c.limiter;
    };
    came = λ i v c s pair a offer. fixed.offered c.limiter _ i v s (Some pair) offer;
    turned_down = λ i v c s offer. fixed.offered c.limiter _ i v s None offer;
    exchanged = λ i v c pair found. fixed.replaced c.limiter _ pair.0 i pair.1 v;
    rewritten = λ i v c pair found. fixed.replaced c.limiter _ pair.0 i pair.1 v;
  }

module _ {K V : Type 0} (f : K × V → ℕ) where
  pub total-without : (names : K → Bool) (xs : List (K × V)) → total f (without names xs) ≤ total f xs
  total-without names xs = split-least f xs (lookup_entry names xs) (without names xs) (split_named f names xs)

  module _ {S H I : Type 0} {rules : Rules K V S} {offers : Offers K V S I} {names : I → K → Bool}
      {hash_of : H → K → ℕ} {i : I} {v : V} {old : State K V S H} where
    pub insert_within : {result : Result Bool AllocError} {new : State K V S H}
        → Insert rules offers names hash_of i v old result new → IsWithin rules (contents new)
        ⊎ (total f new.pairs ≤ total f old.pairs)
    insert_within {new = new} (replaced pair found y r l) = inl
        (subst (IsWithin rules) (sym (left_are old _ new l)) (trim_ends rules _))
    insert_within (not_replaced pair found y r l) = inr
        (omega (arith, ap (λ st. total f st.pairs) l.is, total-without (names i) old.pairs))
    insert_within (no_memory_to_admit a k r e) = inr (omega (arith, ap (λ st. total f st.pairs) e))
    insert_within (not_admitted a s n r e) = inr (omega (arith, ap (λ st. total f st.pairs) e))
    insert_within {result} {new} (admitted a s pair n (ready, l, (outcome, landed, p, t))) = settled outcome
        (place_comes rules hash_of pair ready outcome landed p) t
      where
        fewer : total f ready.pairs ≤ total f old.pairs
        fewer = omega (
          arith,
          ap (λ st. total f st.pairs) l.is,
          total-least f _ old.pairs (front_make_room rules (record { pairs = old.pairs; limiter = s })),
        )

        settled : (outcome : Outcome) → Comes rules hash_of pair ready outcome landed
            → Settles rules outcome landed result new → IsWithin rules (contents new)
            ⊎ (total f new.pairs ≤ total f old.pairs)
        settled placed b h = inl (subst (IsWithin rules) (sym (left_are landed _ new h.1)) (trim_ends rules _))
        settled refused b h = inr (omega (arith, ap (λ st. total f st.pairs) h.1, ap (total f) b))
        settled no_memory b h = inr
            (omega (arith, ap (λ st. total f st.pairs) h.1, total-least f _ ready.pairs b, fewer))

pub update_within : {K V S H I : Type 0} (f : K × V → ℕ) {rules : Rules K V S} {offers : Offers K V S I}
    {names : I → K → Bool} {i : I} {v : V} {old new : State K V S H} (result : Updated V)
    → Update rules offers names i v old result new
    → IsWithin rules (contents new) ⊎ (total f new.pairs ≤ total f old.pairs)
update_within f {rules} {new = new} result (updated pair found y r l) = inl
    (subst (IsWithin rules) (sym (left_are _ _ new l)) (trim_ends rules _))
update_within f {names = names} {i} {old = old} result (rejected pair found y r l) = inr
    (omega (arith, ap (λ st. total f st.pairs) l.is, total-without f (names i) old.pairs))
update_within f result (not_there a r e) = inr (omega (arith, ap (λ st. total f st.pairs) e))

pub updated_within : {K V S H I : Type 0} {rules : Rules K V S} {offers : Offers K V S I} {names : I → K → Bool} {i : I}
    {v : V} {old new : State K V S H} {result : Updated V} → Update rules offers names i v old result new → (was : V)
    → result ≡ Replaced was → IsWithin rules (contents new)
updated_within {rules = rules} (updated pair found y r l) was e = subst (IsWithin rules) (sym (left_are _ _ _ l))
    (trim_ends rules _)
updated_within (rejected pair found y r l) was e = absurd (grind (arith, r, e))
updated_within (not_there a r same) was e = absurd (grind (arith, r, e))

pub length-update : {K V S H I : Type 0} {rules : Rules K V S} {offers : Offers K V S I} {names : I → K → Bool} {i : I}
    {v : V} {old new : State K V S H} (result : Updated V) → Update rules offers names i v old result new
    → length new.pairs ≤ length old.pairs
length-update {rules = rules} {offers} {names} {i} {v} {old} result (updated pair found y r l) =
    let by = replacement rules offers names pair i v (contents old) in omega (
      arith,
      ap (λ st. length st.pairs) l.is,
      length-front _ (set_entry (names i) (by.key, by.new_value) old.pairs)
          (front_trim rules (with_updated rules offers names pair i v (contents old))),
      length-set_entry (names i) (by.key, by.new_value) old.pairs,
    )
length-update {names = names} {i} {old = old} result (rejected pair found y r l) =
    omega (arith, ap (λ st. length st.pairs) l.is, length-without (names i) old.pairs)
length-update result (not_there a r e) = omega (arith, ap (λ st. length st.pairs) e)

pub length_at_most : {K V S H : Type 0} (rules : Rules K V S) (most : S → ℕ) (old new : State K V S H)
    → ((s : S) (n : ℕ) → rules.is_over_the_limit s n ≡ false → n ≤ most s) → most new.limiter ≡ most old.limiter
    → IsWithin rules (contents new) ⊎ (total (λ _. 1) new.pairs ≤ total (λ _. 1) old.pairs)
    → length old.pairs ≤ most old.limiter
    → length new.pairs ≤ most old.limiter
length_at_most rules most old new within same (inl (inl e)) few = omega (arith, ap length e)
length_at_most rules most old new within same (inl (inr e)) few =
    omega (arith, same, within new.limiter (length new.pairs) e)
length_at_most rules most old new within same (inr e) few =
    omega (arith, e, few, total-one old.pairs, total-one new.pairs)

pub uses_at_most : {K V S H : Type 0} (rules : Rules K V S) (most : S → ℕ) (P : S → Type 0) (more anew : ℕ)
    (old new : State K V S H)
    → ((s : S) (bytes : ℕ) → (rules.on_grow s bytes).allowed ≡ true → bytes ≤ most s)
    → ((s : S) → P s → most s ≡ most old.limiter) → Tables rules P more anew old new
    → UsesAtMost (most old.limiter) old → UsesAtMost (most old.limiter) new
uses_at_most rules most P more anew old new within same t uses = go t.count
  where
    go : IsNextCount rules P old (buckets new) → UsesAtMost (most old.limiter) new
    go (inl few) = let fewer = usage_fewer old.entry_bytes (buckets new) (buckets old) uses.0 few uses.1 in (
      fewer.0,
      ap (λ bytes. usage bytes (buckets new)) t.entry_bytes
          ∙ fewer.1,
      omega (arith, fewer.2, uses.2),
    )
    go (inr p) = (
      p.bytes,
      ap (λ bytes. usage bytes (buckets new)) t.entry_bytes
          ∙ p.usable,
      omega (arith, within p.limiter p.bytes p.granted, same p.limiter p.holds),
    )
