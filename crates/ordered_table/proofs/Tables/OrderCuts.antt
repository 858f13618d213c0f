use Rattle.std.proofs.Common.{◌≡◌, ℕ, zero, suc, ◌<◌, Bool, true, false, cond, List, [], ◌∷◌, ◌++◌, length, Some, refl}
use Rattle.std.proofs.Common.{sym, ap, ◌∙◌, subst, arith, slice_set, slice_index_or}
use Rattle.std.specs.Prelude.{◌≢◌, nat_eq, not, Contains, AllPairs, option_to_list}
use Rattle.std.proofs.lemmas.Bool.Decides.{nat_tests}
use Rattle.std.proofs.lemmas.List.{append_assoc, get_or-set_other}
use Rattle.std.proofs.lemmas.Option.{same_Some}
use Rattle.group_table.specs.Bucket.{Slot, entry_at, entry_of, empty}
use Rattle.ordered_table.proofs.Chains.Orders.{Lacks, lacks_unless, without-lacking, distinct_head, distinct_tail, last_in}
use Rattle.ordered_table.specs.OrderedTable.{without_bucket, entries_in}
use Rattle.lru_model.specs.Lists.{first as first_bucket, last as last_bucket}

pub record Cut (b : ℕ) (order : List ℕ) : Type 0 where
  pub before : List ℕ
  pub after : List ℕ
  pub whole : order ≡ before ++ b ∷ after
  pub none_before : Lacks b before
  pub none_after : Lacks b after

pub head_lacks : (x : ℕ) (xs : List ℕ) → AllPairs ◌≢◌ (x ∷ xs) → Lacks x xs
head_lacks x xs d = lacks_unless x xs (distinct_head x xs d)

pub cut_at : (b : ℕ) (order : List ℕ) → AllPairs ◌≢◌ order → Contains order b → Cut b order
cut_at b [] d (k, within, is) = absurd (omega (arith, within))
cut_at b (x ∷ xs) d (k, within, is) = go (nat_eq x b) refl k within is (λ h. cut_at b xs (distinct_tail x xs d) h)
  where
    go : (y : Bool) → nat_eq x b ≡ y → (k : ℕ) → k < length (x ∷ xs) → slice_index_or (x ∷ xs) k b ≡ b
        → (Contains xs b → Cut b xs) → Cut b (x ∷ xs)
    go true t k within is on = let same : x ≡ b = grind (arith, nat_tests) in record {
      before = [];
      after = xs;
      whole = ap (λ c. c ∷ xs) same;
      none_before = tt;
      none_after = subst (λ c. Lacks c xs) same (head_lacks x xs d);
    }
    go false t zero within is on = absurd (grind (arith, nat_tests))
    go false t (suc k) within is on = let cut = on (k, omega (arith, within), is) in record {
      before = x ∷ cut.before;
      after = cut.after;
      whole = ap (λ c. x ∷ c) cut.whole;
      none_before = (t, cut.none_before);
      none_after = cut.none_after;
    }

pub cut_first : (b : ℕ) (order : List ℕ) → AllPairs ◌≢◌ order → first_bucket order ≡ Some b → (cut : Cut b order)
    × (cut.before ≡ [])
cut_first b [] d e = absurd cc
cut_first b (x ∷ xs) d e = let same = same_Some x b e in (
  record {
    before = [];
    after = xs;
    whole = ap (λ y. y ∷ xs) same;
    none_before = tt;
    none_after = subst (λ y. Lacks y xs) same (head_lacks x xs d);
  },
  refl,
)

pub cut_last : (b : ℕ) (order : List ℕ) → AllPairs ◌≢◌ order → last_bucket order ≡ Some b → (cut : Cut b order)
    × (cut.after ≡ [])
cut_last b [] d h = absurd cc
cut_last b (x ∷ []) d h = let same : x ≡ b = cc in
    (record { before = []; after = []; whole = ap (λ c. c ∷ []) same; none_before = tt; none_after = tt }, refl)
cut_last b (x ∷ y ∷ ys) d h =
    let on = cut_last b (y ∷ ys) (distinct_tail x (y ∷ ys) d) h in let cut = on.0 in (
      record {
        before = x ∷ cut.before;
        after = cut.after;
        whole = ap (λ c. x ∷ c) cut.whole;
        none_before = (go (nat_eq x b) refl, cut.none_before);
        none_after = cut.none_after;
      },
      on.1,
    )
  where
    go : (t : Bool) → nat_eq x b ≡ t → nat_eq x b ≡ false
    go true t = let same : b ≡ x = grind (arith, nat_tests) in
        absurd (distinct_head x (y ∷ ys) d (subst (Contains (y ∷ ys)) same (last_in (y ∷ ys) b h)))
    go false t = t

module _ {b : ℕ} {order : List ℕ} (cut : Cut b order) where
  kept_through : (xs ys : List ℕ) → Lacks b xs → Lacks b ys → without_bucket b (xs ++ b ∷ ys) ≡ xs ++ ys
  kept_through [] ys h k = let t : nat_eq b b ≡ true = grind (arith, nat_tests) in rw t (without-lacking b ys k)
  kept_through (x ∷ xs) ys h k = rw h.0 (ap (λ l. x ∷ l) (kept_through xs ys h.1 k))

  pub cut_without : without_bucket b order ≡ cut.before ++ cut.after
  cut_without = ap (without_bucket b) cut.whole ∙ kept_through cut.before cut.after cut.none_before cut.none_after

pub without_lacks : (b : ℕ) (xs : List ℕ) → Lacks b (without_bucket b xs)
without_lacks b [] = tt
without_lacks b (x ∷ xs) = go (nat_eq x b) refl (without_lacks b xs)
  where
    go : (y : Bool) → nat_eq x b ≡ y → Lacks b (without_bucket b xs)
        → Lacks b (cond (not y) (x ∷ without_bucket b xs) (without_bucket b xs))
    go true e r = r
    go false e r = (e, r)

module _ {T : Type 0} where
  pub entries-append : (slots : List (Slot T)) (xs ys : List ℕ) → entries_in slots (xs ++ ys) ≡ entries_in slots xs
      ++ entries_in slots ys
  entries-append slots [] ys = refl
  entries-append slots (x ∷ xs) ys = ap (λ l. option_to_list (entry_at slots x) ++ l) (entries-append slots xs ys)
      ∙ sym (append_assoc (option_to_list (entry_at slots x)) _ _)

  pub entries-apart : (slots : List (Slot T)) (b : ℕ) (slot : Slot T) (xs : List ℕ) → Lacks b xs
      → entries_in (slice_set slots b slot) xs ≡ entries_in slots xs
  entries-apart slots b slot [] h = refl
  entries-apart slots b slot (x ∷ xs) h =
      ap (λ o. option_to_list (entry_of o) ++ entries_in (slice_set slots b slot) xs)
      (get_or-set_other slots b x slot empty (λ same. let e : nat_eq x b ≡ false = h.0 in grind (arith, nat_tests)))
      ∙ ap (λ l. option_to_list (entry_at slots x) ++ l) (entries-apart slots b slot xs h.1)

  module _ (slots : List (Slot T)) {b : ℕ} {order : List ℕ} (cut : Cut b order) (entry : T) (there : entry_at slots b
      ≡ Some entry) where
    pub entries-cut : entries_in slots order ≡ entries_in slots cut.before ++ entry ∷ entries_in slots cut.after
    entries-cut = ap (entries_in slots) cut.whole ∙ entries-append slots cut.before (b ∷ cut.after)
        ∙ ap (λ o. entries_in slots cut.before ++ (option_to_list o ++ entries_in slots cut.after)) there

    pub entries-without : entries_in slots (without_bucket b order) ≡ entries_in slots cut.before
        ++ entries_in slots cut.after
    entries-without = ap (entries_in slots) (cut_without cut) ∙ entries-append slots cut.before cut.after
