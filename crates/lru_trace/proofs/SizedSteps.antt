use Rattle.std.proofs.Common.{◌≡◌, ℕ, ◌+◌, ◌≤◌, ◌<◌, Bool, true, false, cond, List, [], ◌∷◌, ◌++◌, length}
use Rattle.std.proofs.Common.{take, map, set, sum, get_or, Option, Some, None, refl, sym, ap, ◌∙◌, arith, inl, inr}
use Rattle.std.proofs.Common.{append_assoc}
use Rattle.std.proofs.lemmas.Bool.{lt-ltb, le-ltb, lt-leb, le-leb, cases_lt}
use Rattle.std.proofs.lemmas.Cmp.{nat_eq_equiv}
use Rattle.std.proofs.lemmas.List.{length-append, map-append, append-nil}
use Rattle.std.proofs.lemmas.Option.{none-some, same_Some}
use Rattle.std.proofs.lemmas.Slice.Eq.{bytes_eq-Decides}
use Rattle.std.specs.List.Sorted.{IsNonDecreasing}
use Rattle.std.specs.Map.{lookup, keys_of}
use Rattle.std.specs.Option.{option_map}
use Rattle.std.specs.Prelude.{not, ◌||◌, nat_eq, nat_le, nat_lt, sum_by}
use Rattle.std.specs.Set.{remove_key}
use Rattle.std.specs.Str.{bytes_eq}
use Rattle.lru_theory.specs.Traces.{is_in, since, recency, past_after}
use Rattle.lru_theory.specs.Budgets.{misses_within, is_far_within}
use Rattle.lru_theory.proofs.LongerTraces.{past_more}
use Rattle.lru_theory.proofs.Lists.{is_in_recency, since_recency}
use Rattle.lru_trace.specs.Names.{number_in}
use Rattle.lru_trace.specs.Sized.{Sized, IsSizedOf, Made, first_size, need_of, exceeds}
use Rattle.lru_trace.specs.Slots.{weight_in}
use Rattle.lru_trace.proofs.Numbered.{Named, none_named, named_from, named_on, counted}
use Rattle.lru_trace.proofs.SizedCosts.{reweighed, within_more}

module _ (limits : List ℕ) (need : ℕ) where
  pub below_found : IsNonDecreasing limits → (at : ℕ) → at < length limits
      → ((j : ℕ) → j < at → get_or limits j 0 < need) → need ≤ get_or limits at 0
      → (i : ℕ) → i < length limits → nat_lt i at ≡ exceeds (Some need) (get_or limits i 0)
  below_found rising at within before here i inside = elim (cases_lt i at) [
    | inl h ↦ lt-ltb i at h ∙ sym (lt-ltb (get_or limits i 0) need (before i h))
    | inr h ↦ le-ltb i at h ∙ sym (le-ltb (get_or limits i 0) need (omega (arith, here, rising at i 0 h inside)))
  ]

  pub below_none : (at : ℕ) → length limits ≤ at → ((j : ℕ) → j < at → get_or limits j 0 < need)
      → (i : ℕ) → i < length limits → nat_lt i at ≡ exceeds (Some need) (get_or limits i 0)
  below_none at past before i inside =
      lt-ltb i at (omega (arith, inside, past))
      ∙ sym (lt-ltb (get_or limits i 0) need (before i (omega (arith, inside, past))))

module _ {K X : Type 0} (test : K → Bool) where
  pub found_still : (xs ys : List (K × X)) (v : X) → lookup test xs ≡ Some v → lookup test (xs ++ ys) ≡ Some v
  found_still [] ys v e = absurd cc
  found_still ((k, x) ∷ xs) ys v e = go (test k) e (found_still xs ys v)
    where
      go : (b : Bool) → cond b (Some x) (lookup test xs) ≡ Some v
          → (lookup test xs ≡ Some v → lookup test (xs ++ ys) ≡ Some v)
          → cond b (Some x) (lookup test (xs ++ ys)) ≡ Some v
      go true e ih = e
      go false e ih = ih e

  not_found : (xs ys : List (K × X)) → lookup test xs ≡ None → lookup test (xs ++ ys) ≡ lookup test ys
  not_found [] ys e = refl
  not_found ((k, x) ∷ xs) ys e = go (test k) e (not_found xs ys)
    where
      go : (b : Bool) → cond b (Some x) (lookup test xs) ≡ None
          → (lookup test xs ≡ None → lookup test (xs ++ ys) ≡ lookup test ys)
          → cond b (Some x) (lookup test (xs ++ ys)) ≡ lookup test ys
      go true e ih = absurd cc
      go false e ih = ih e

none_in : (number : List ℕ → Option ℕ) (key : List ℕ) → number key ≡ None → (refs : List (List ℕ × ℕ)) (ns : List ℕ)
    → Named number (keys_of refs) ns → lookup (bytes_eq key) refs ≡ None
none_in number key none [] ns h = refl
none_in number key none ((y, v) ∷ refs) [] h = absurd h
none_in number key none ((y, v) ∷ refs) (n ∷ ns) h = go (bytes_eq key y) refl (none_in number key none refs ns h.1)
  where
    go : (b : Bool) → bytes_eq key y ≡ b → lookup (bytes_eq key) refs ≡ None
        → cond b (Some v) (lookup (bytes_eq key) refs) ≡ None
    go true e ih = absurd (none-some n (sym none ∙ ap number ((bytes_eq-Decides key y).0 e) ∙ h.0))
    go false e ih = ih

far_is : (size : ℕ → ℕ) (number : ℕ) (past : List ℕ) (limit : ℕ)
    → is_far_within nat_eq size limit number past ≡ exceeds (need_of size number (recency nat_eq past)) limit
far_is size number past limit =
    go (is_in nat_eq number past) (sum_by size (recency nat_eq (since nat_eq number past)))
    ∙ ap (λ b. exceeds (option_map (λ behind. size number + behind)
    (cond b (Some (sum_by size (recency nat_eq (since nat_eq number past)))) None)) limit)
    (sym (is_in_recency nat_eq_equiv number past))
    ∙ ap (λ xs. exceeds (option_map (λ behind. size number + behind)
    (cond (is_in nat_eq number (recency nat_eq past)) (Some (sum_by size xs)) None)) limit)
    (sym (since_recency nat_eq_equiv number past))
  where
    go : (b : Bool) (behind : ℕ) → (not b || nat_lt limit (size number + behind))
        ≡ exceeds (option_map (λ behind. size number + behind) (cond b (Some behind) None)) limit
    go true behind = refl
    go false behind = refl

module _ {warm trace : List (List ℕ × ℕ)} {old : Sized} (of : IsSizedOf warm trace old) where
  abbrev number : List ℕ → Option ℕ
  number = number_in old.names

  abbrev warm_past : List ℕ
  warm_past = past_after [] of.before

  abbrev past : List ℕ
  past = past_after warm_past of.numbers

  pub first_is : (key : List ℕ) (bytes : ℕ) → number key ≡ None
      → first_size ((warm ++ trace) ++ (key, bytes) ∷ []) key ≡ Some bytes
  first_is key bytes absent =
      not_found (bytes_eq key) (warm ++ trace) ((key, bytes) ∷ []) (not_found (bytes_eq key) warm trace
      (none_in number key absent warm of.before (named_from number (keys_of warm) of.before of.warmed))
      ∙ none_in number key absent trace of.numbers (named_from number (keys_of trace) of.numbers of.named))
      ∙ ap (λ b. cond b (Some bytes) None) ((bytes_eq-Decides key key).1 refl)

  module _ (key : List ℕ) (bytes : ℕ) (need : Option ℕ) (new : Sized) (made : Made key bytes need old new) where
    abbrev one : List (List ℕ × ℕ)
    one = (key, bytes) ∷ []

    sized_more : (other : List ℕ) (n : ℕ) → number_in new.names other ≡ Some n
        → first_size ((warm ++ trace) ++ one) other ≡ Some (weight_in new.sizes n)
    sized_more other n e = go (number other) refl
      where
        go : (o : Option ℕ) → number other ≡ o → first_size ((warm ++ trace) ++ one) other ≡ Some (weight_in new.sizes n)
        go (Some m) is =
            let same : m ≡ n = same_Some m n (sym (made.others other m is) ∙ e) in
            found_still (bytes_eq other) (warm ++ trace) one (weight_in old.sizes m) (of.sized other m is)
            ∙ ap Some (sym (made.sizes other m is)) ∙ ap (λ k. Some (weight_in new.sizes k)) same
        go None is =
            let is_key : other ≡ key = made.only other n e is in
            let absent : number key ≡ None = ap number (sym is_key) ∙ is in
            let same : made.number ≡ n =
            same_Some made.number n (sym made.named ∙ ap (number_in new.names) (sym is_key) ∙ e) in
            ap (first_size ((warm ++ trace) ++ one)) is_key
            ∙ first_is key bytes absent
            ∙ ap Some (sym (made.first absent)) ∙ ap (λ k. Some (weight_in new.sizes k)) same

    pub of_counted : (at : ℕ) → at < length old.counts
        → ((i : ℕ) → i < length old.limits → nat_lt i at ≡ exceeds need (get_or old.limits i 0))
        → IsSizedOf warm (trace ++ one) (record old {
          names = new.names;
          recency = new.recency;
          sizes = new.sizes;
          counts = set old.counts at (get_or old.counts at 0 + 1);
          references = old.references + 1;
        })
    of_counted at within below = record {
      before = of.before;
      numbers = of.numbers ++ made.number ∷ [];
      warmed = named_on number (number_in new.names) made.others (keys_of warm) of.before of.warmed;
      named = ap (map (number_in new.names)) (map-append (λ e. e.0) trace one)
          ∙ map-append (number_in new.names) (keys_of trace) (key ∷ [])
          ∙ (λ i. named_on number (number_in new.names) made.others (keys_of trace) of.numbers of.named i ++ made.named i ∷ [])
          ∙ sym (map-append Some of.numbers (made.number ∷ []));
      sized = λ other n e. ap (λ refs. first_size refs other) (sym (append_assoc warm trace one)) ∙ sized_more other n e;
      order = made.recency ∙ ap (λ xs. made.number ∷ remove_key (nat_eq made.number) xs) of.order
          ∙ ap (recency nat_eq) (sym (past_more warm_past of.numbers made.number));
      hits = hits;
      all = omega (arith, of.all, length-append trace one);
    }
      where
        as_le : (i : ℕ) → nat_le (i + 1) at ≡ nat_lt i at
        as_le i = elim (cases_lt i at) [
          | inl h ↦ le-leb (i + 1) at (omega (arith, h)) ∙ sym (lt-ltb i at h)
          | inr h ↦ lt-leb (i + 1) at (omega (arith, h)) ∙ sym (le-ltb i at h)
        ]

        hits : (i : ℕ) → i < length old.limits
            → misses_within nat_eq (weight_in new.sizes) (get_or old.limits i 0) warm_past (of.numbers ++ made.number ∷ [])
            + sum (take (i + 1) (set old.counts at (get_or old.counts at 0 + 1))) ≡ old.references + 1
        hits i h =
            let limit = get_or old.limits i 0 in
            let far : is_far_within nat_eq (weight_in new.sizes) limit made.number past ≡ nat_le (i + 1) at =
            far_is (weight_in new.sizes) made.number past limit
            ∙ ap (λ xs. exceeds (need_of (weight_in new.sizes) made.number xs) limit) (sym of.order)
            ∙ ap (λ o. exceeds o limit) (sym made.needs) ∙ sym (below i h) ∙ sym (as_le i) in
            omega (
              arith,
              of.hits i h,
              within_more nat_eq (weight_in new.sizes) limit warm_past of.numbers made.number,
              ap (λ b. cond {A = ℕ} b 1 0) far,
              reweighed old.names (keys_of warm) (keys_of trace) of.before of.numbers of.warmed of.named
                  (weight_in old.sizes) (weight_in new.sizes) made.sizes limit,
              counted at (i + 1) old.counts within,
            )

module _ {warm : List (List ℕ × ℕ)} {old : Sized} (of : IsSizedOf warm [] old) (key : List ℕ) (bytes : ℕ)
    (need : Option ℕ) (new : Sized) (made : Made key bytes need old new) where
  none_counted : of.numbers ≡ []
  none_counted = none_named of.numbers of.named

  pub of_warm : IsSizedOf (warm ++ (key, bytes) ∷ []) []
      (record old { names = new.names; recency = new.recency; sizes = new.sizes })
  of_warm = record {
    before = of.before ++ made.number ∷ [];
    numbers = [];
    warmed = ap (map (number_in new.names)) (map-append (λ e. e.0) warm ((key, bytes) ∷ []))
        ∙ map-append (number_in new.names) (keys_of warm) (key ∷ [])
        ∙ (λ i. named_on (number_in old.names) (number_in new.names) made.others (keys_of warm) of.before of.warmed i
        ++ made.named i ∷ [])
        ∙ sym (map-append Some of.before (made.number ∷ []));
    named = refl;
    sized = λ other n e. ap (λ refs. first_size refs other) (append-nil (warm ++ (key, bytes) ∷ []))
        ∙ ap (λ refs. first_size (refs ++ (key, bytes) ∷ []) other) (sym (append-nil warm))
        ∙ sized_more of key bytes need new made other n e;
    order = made.recency ∙ ap (λ xs. made.number ∷ remove_key (nat_eq made.number) xs)
        (of.order ∙ ap (λ ns. recency nat_eq (past_after (past_after [] of.before) ns)) none_counted)
        ∙ ap (recency nat_eq) (sym (past_more [] of.before made.number));
    hits = λ i h. ap (λ ns. misses_within nat_eq (weight_in old.sizes) (get_or old.limits i 0) (past_after [] of.before) ns
        + sum (take (i + 1) old.counts)) (sym none_counted) ∙ of.hits i h;
    all = of.all;
  }
