use Rattle.std.proofs.Common.{◌≡◌, ℕ, ◌-◌, ◌<◌, List, [], ◌∷◌, ◌++◌, length, take, Option, Some, None, refl, sym, ap}
use Rattle.std.proofs.Common.{◌∙◌, subst, arith, eq-eqb, ne_eqb, append-nil}
use Rattle.std.specs.Prelude.{◌≢◌, AllPairs, Contains, option_to_list, unwrap_or}
use Rattle.std.specs.List.{AllByRecursion}
use Rattle.std.proofs.lemmas.List.{append_assoc, take_at, length-append}
use Rattle.std.proofs.lemmas.Option.{none-some, same_Some}
use Rattle.group_table.specs.Bucket.{IsFull, entry_at}
use Rattle.ordered_table.specs.OrderedTable.{OrderedTable, IsLinked, entries_in}
use Rattle.lru_model.specs.Lists.{first as first_bucket, last as last_bucket}
use Rattle.ordered_table.specs.OrderedTable.{bucket_after, bucket_before}
use Rattle.ordered_table.specs.Rest.{from_bucket, rest_of, IsRest}
use Rattle.lru_model.proofs.PairLists.Members.{Contains-here, Contains-later}
use Rattle.ordered_table.proofs.Chains.Orders.{distinct_head, distinct_tail, before_from}
use Rattle.ordered_table.proofs.Chains.Orders.{before_is, last_from, last_is}
use Rattle.ordered_table.proofs.Tables.BucketPairs.{entries-length, all_full, AreFull}
use Rattle.ordered_table.proofs.Tables.OrderCuts.{entries-append}

in_behind : (xs : List ℕ) (b : ℕ) (ys : List ℕ) → Contains (xs ++ b ∷ ys) b
in_behind [] b ys = Contains-here b ys
in_behind (x ∷ xs) b ys = Contains-later x b (xs ++ b ∷ ys) (in_behind xs b ys)

apart_behind : (x : ℕ) (xs : List ℕ) (b : ℕ) (ys : List ℕ) → AllPairs ◌≢◌ (x ∷ xs ++ b ∷ ys) → x ≢ b
apart_behind x xs b ys d e = distinct_head x (xs ++ b ∷ ys) d
    (subst (Contains (xs ++ b ∷ ys)) (sym e) (in_behind xs b ys))

from_cut : (xs : List ℕ) (b : ℕ) (ys : List ℕ) → AllPairs ◌≢◌ (xs ++ b ∷ ys)
    → from_bucket b (xs ++ b ∷ ys) ≡ b ∷ ys
from_cut [] b ys d = rw (eq-eqb b b refl) refl
from_cut (x ∷ xs) b ys d = rw (ne_eqb x b (apart_behind x xs b ys d))
    (from_cut xs b ys (distinct_tail x (xs ++ b ∷ ys) d))

after_cut : (xs : List ℕ) (b : ℕ) (ys : List ℕ) → AllPairs ◌≢◌ (xs ++ b ∷ ys) → bucket_after b (xs ++ b ∷ ys)
    ≡ first_bucket ys
after_cut [] b ys d = rw (eq-eqb b b refl) refl
after_cut (x ∷ xs) b ys d = rw (ne_eqb x b (apart_behind x xs b ys d))
    (after_cut xs b ys (distinct_tail x (xs ++ b ∷ ys) d))

before_cut_from : (prev : Option ℕ) (xs : List ℕ) (b : ℕ) (ys : List ℕ) → AllPairs ◌≢◌ (xs ++ b ∷ ys)
    → before_from prev b (xs ++ b ∷ ys) ≡ last_from prev xs
before_cut_from prev [] b ys d = rw (eq-eqb b b refl) refl
before_cut_from prev (x ∷ xs) b ys d = rw (ne_eqb x b (apart_behind x xs b ys d))
    (before_cut_from (Some x) xs b ys (distinct_tail x (xs ++ b ∷ ys) d))

before_cut : (xs : List ℕ) (b : ℕ) (ys : List ℕ) → AllPairs ◌≢◌ (xs ++ b ∷ ys) → bucket_before b (xs ++ b ∷ ys)
    ≡ last_bucket xs
before_cut xs b ys d = before_is b (xs ++ b ∷ ys) d ∙ before_cut_from None xs b ys d ∙ sym (last_is xs)

last_behind : (xs : List ℕ) (y : ℕ) (ys : List ℕ) → last_bucket (xs ++ y ∷ ys) ≡ last_bucket (y ∷ ys)
last_behind [] y ys = refl
last_behind (x ∷ []) y ys = refl
last_behind (x ∷ z ∷ zs) y ys = last_behind (z ∷ zs) y ys

last_split : (b : ℕ) (xs : List ℕ) → last_bucket xs ≡ Some b → (ys : List ℕ) × (xs ≡ ys ++ b ∷ [])
last_split b [] e = absurd (none-some b e)
last_split b (x ∷ []) e = ([], ap (λ c. c ∷ []) (same_Some x b e))
last_split b (x ∷ y ∷ ys) e = let r = last_split b (y ∷ ys) e in (x ∷ r.0, ap (λ l. x ∷ l) r.1)

last_none : (xs : List ℕ) → last_bucket xs ≡ None → 0 < length xs → ⊥
last_none [] e some = absurd (omega (arith, some))
last_none (x ∷ []) e some = none-some x (sym e)
last_none (x ∷ y ∷ ys) e some = last_none (y ∷ ys) e (omega arith)

module _ (P : ℕ → Type 0) where
  all_behind : (xs ys : List ℕ) → AllByRecursion P (xs ++ ys) → AllByRecursion P ys
  all_behind [] ys h = h
  all_behind (x ∷ xs) ys h = all_behind xs ys h.1

  all_front : (xs ys : List ℕ) → AllByRecursion P (xs ++ ys) → AllByRecursion P xs
  all_front [] ys h = tt
  all_front (x ∷ xs) ys h = (h.0, all_front xs ys h.1)

some_or : (o : Option ℕ) (d : ℕ) → (o ≡ None → ⊥) → o ≡ Some (unwrap_or o d)
some_or None d some = absurd (some refl)
some_or (Some b) d some = refl

module _ {K V : Type 0} (t : OrderedTable K V) where
  pub rest-whole : (front back : ℕ) → IsLinked t
      → (0 < length t.order → (first_bucket t.order ≡ Some front) × (last_bucket t.order ≡ Some back))
      → IsRest t front back (length t.order)
  rest-whole front back linked ends = record {
    linked = linked;
    before = [];
    middle = t.order;
    after = [];
    order = sym (append-nil t.order);
    count = refl;
    first = λ some. (ends some).0;
    last = λ some. (ends some).1;
  }

  module _ (front back left : ℕ) (rest : IsRest t front back left) where
    pub rest-is : rest_of t front left ≡ entries_in t.slots rest.middle
    rest-is = ap (entries_in t.slots) (go rest.middle rest.count rest.order rest.first)
      where
        go : (ms : List ℕ) → length ms ≡ left → t.order ≡ rest.before ++ (ms ++ rest.after)
            → (0 < left → first_bucket ms ≡ Some front) → take left (from_bucket front t.order) ≡ ms
        go [] count is first = ap (λ n. take n (from_bucket front t.order)) (sym count)
        go (m ∷ ms) count is first =
            let same = same_Some m front (first (omega (arith, count))) in
            ap (λ b. take left (from_bucket b t.order)) (sym same)
            ∙ ap (λ l. take left (from_bucket m l)) is
            ∙ ap (take left) (from_cut rest.before m (ms ++ rest.after)
            (subst (AllPairs ◌≢◌) is rest.linked.distinct))
            ∙ take_at (m ∷ ms) rest.after left count

    middle_full : AreFull t.slots rest.middle
    middle_full =
        let full : ℕ → Type 0 = λ b. IsFull t.slots b in
        all_front full rest.middle rest.after
        (all_behind full rest.before (rest.middle ++ rest.after)
        (subst (AreFull t.slots) rest.order (all_full t.slots t.order rest.linked.only)))

    pub rest-length : length (rest_of t front left) ≡ left
    rest-length = ap length rest-is ∙ entries-length t.slots rest.middle middle_full ∙ rest.count

  module _ (front back left : ℕ) (rest : IsRest t front back left) (some : 0 < left) where
    cut_front : (ms : List ℕ) × (rest.middle ≡ front ∷ ms)
    cut_front = go rest.middle rest.count (rest.first some)
      where
        go : (ms : List ℕ) → length ms ≡ left → first_bucket ms ≡ Some front → (ns : List ℕ) × (ms ≡ front ∷ ns)
        go [] c e = absurd (omega (arith, c, some))
        go (m ∷ ms) c e = (ms, ap (λ x. x ∷ ms) (same_Some m front e))

    front_order : t.order ≡ rest.before ++ front ∷ (cut_front.0 ++ rest.after)
    front_order = rest.order ∙ ap (λ l. rest.before ++ (l ++ rest.after)) cut_front.1

    pub front-full : IsFull t.slots front
    front-full = (subst (AreFull t.slots) cut_front.1 (middle_full front back left rest)).0

    module _ (next : ℕ) (is : (c : ℕ) → bucket_after front t.order ≡ Some c → next ≡ c) where
      pub front-next : IsRest t next back (left - 1)
      front-next = record {
        linked = rest.linked;
        before = rest.before ++ front ∷ [];
        middle = cut_front.0;
        after = rest.after;
        order = front_order ∙ sym (append_assoc rest.before (front ∷ []) (cut_front.0 ++ rest.after));
        count = omega (arith, rest.count, ap length cut_front.1);
        first = λ more. first_of cut_front.0
            (omega (arith, rest.count, ap length cut_front.1, more))
            (ap (bucket_after front) front_order ∙ after_cut rest.before front (cut_front.0 ++ rest.after)
            (subst (AllPairs ◌≢◌) front_order rest.linked.distinct));
        last = λ more. last_of_more cut_front.0 (omega (arith, rest.count, ap length cut_front.1, more))
            (ap last_bucket (sym cut_front.1) ∙ rest.last some);
      }
        where
          first_of : (ms : List ℕ) → 0 < length ms → bucket_after front t.order ≡ first_bucket (ms ++ rest.after)
              → first_bucket ms ≡ Some next
          first_of [] some e = absurd (omega (arith, some))
          first_of (m ∷ ms) some e = ap Some (sym (is m e))

          last_of_more : (ms : List ℕ) → 0 < length ms → last_bucket (front ∷ ms) ≡ Some back
              → last_bucket ms ≡ Some back
          last_of_more [] some e = absurd (omega (arith, some))
          last_of_more (m ∷ ms) some e = e

      pub front-cut : (p : K × V) → entry_at t.slots front ≡ Some p
          → rest_of t front left ≡ p ∷ rest_of t next (left - 1)
      unfolding cut_front front-next
      front-cut p there = rest-is front back left rest ∙ ap (entries_in t.slots) cut_front.1
          ∙ ap (λ o. option_to_list o ++ entries_in t.slots cut_front.0) there
          ∙ ap (λ l. p ∷ l) (sym (rest-is next back (left - 1) front-next))

    cut_back : (ms : List ℕ) × (rest.middle ≡ ms ++ back ∷ [])
    cut_back = last_split back rest.middle (rest.last some)

    back_order : t.order ≡ (rest.before ++ cut_back.0) ++ back ∷ rest.after
    back_order = rest.order ∙ ap (λ l. rest.before ++ (l ++ rest.after)) cut_back.1
        ∙ ap (λ l. rest.before ++ l) (append_assoc cut_back.0 (back ∷ []) rest.after)
        ∙ sym (append_assoc rest.before cut_back.0 (back ∷ rest.after))

    pub back-full : IsFull t.slots back
    back-full = (all_behind (λ c. IsFull t.slots c) cut_back.0 (back ∷ [])
        (subst (AreFull t.slots) cut_back.1 (middle_full front back left rest))).0

    module _ (next : ℕ) (is : (c : ℕ) → bucket_before back t.order ≡ Some c → next ≡ c) where
      pub back-next : IsRest t front next (left - 1)
      back-next = record {
        linked = rest.linked;
        before = rest.before;
        middle = cut_back.0;
        after = back ∷ rest.after;
        order = back_order ∙ append_assoc rest.before cut_back.0 (back ∷ rest.after);
        count = omega (arith, rest.count, ap length cut_back.1, length-append cut_back.0 (back ∷ []));
        first = λ more. first_of cut_back.0
            (omega (arith, rest.count, ap length cut_back.1, length-append cut_back.0 (back ∷ []), more))
            (ap first_bucket (sym cut_back.1) ∙ rest.first some);
        last = λ more. last_of cut_back.0
            (omega (arith, rest.count, ap length cut_back.1, length-append cut_back.0 (back ∷ []), more))
            (ap (bucket_before back) back_order ∙ before_cut (rest.before ++ cut_back.0) back rest.after
            (subst (AllPairs ◌≢◌) back_order rest.linked.distinct));
      }
        where
          first_of : (ms : List ℕ) → 0 < length ms → first_bucket (ms ++ back ∷ []) ≡ Some front
              → first_bucket ms ≡ Some front
          first_of [] some e = absurd (omega (arith, some))
          first_of (m ∷ ms) some e = e

          last_of : (ms : List ℕ) → 0 < length ms → bucket_before back t.order ≡ last_bucket (rest.before ++ ms)
              → last_bucket ms ≡ Some next
          last_of [] some e = absurd (omega (arith, some))
          last_of (m ∷ ms) some e =
              let found = some_or (last_bucket (m ∷ ms)) 0 (λ none. last_none (m ∷ ms) none some) in
              found ∙ ap Some (sym (is (unwrap_or (last_bucket (m ∷ ms)) 0)
              (e ∙ last_behind rest.before m ms ∙ found)))

      pub back-cut : (p : K × V) → entry_at t.slots back ≡ Some p
          → rest_of t front left ≡ rest_of t front (left - 1) ++ p ∷ []
      unfolding cut_back back-next
      back-cut p there = rest-is front back left rest ∙ ap (entries_in t.slots) cut_back.1
          ∙ entries-append t.slots cut_back.0 (back ∷ [])
          ∙ ap (λ o. entries_in t.slots cut_back.0 ++ (option_to_list o ++ [])) there
          ∙ ap (λ l. l ++ p ∷ []) (sym (rest-is front next (left - 1) back-next))
