use Rattle.std.proofs.Common.{◌≡◌, ℕ, zero, suc, ◌+◌, ◌≤◌, ◌<◌, Bool, true, false, cond, List, [], ◌∷◌, length}
use Rattle.std.proofs.Common.{take, map, ◌++◌}
use Rattle.std.specs.Option.{option_map}
use Rattle.std.specs.Prelude.{Option, IfSome, is_some, Vec}
use Rattle.std.proofs.Common.{set, sum, get_or, Some, None, refl, sym, subst, ap, ◌∙◌, arith}
use Rattle.std.specs.Prelude.{◌^◌, ◌-◌, not, ◌||◌, nat_eq, nat_le, sum_by}
use Rattle.std.specs.Prelude.{Result, Ok, Err, OnErr, IfErr}
use Rattle.std.specs.Result.{IsErr, IsErrAnd}
use Rattle.std.specs.Set.{remove_key}
use Rattle.std.proofs.lemmas.Bool.{lt-leb}
use Rattle.std.proofs.lemmas.Cmp.{nat_eq_equiv}
use Rattle.std.proofs.lemmas.List.{take_all, get_or_past, length-set, length-append, map-append}
use Rattle.std.proofs.lemmas.List.Sums.{sum_by-cons}
use Rattle.std.proofs.lemmas.Map.Made.{length-remove_key}
use Rattle.lru_theory.specs.Traces.{is_in, since, recency, distance, misses, past_after}
use Rattle.lru_theory.proofs.LongerTraces.{past_more, misses_more}
use Rattle.lru_theory.proofs.Lists.{is_in_recency, since_recency}
use Rattle.lru_theory.proofs.Nexts.{without_absent}
use Rattle.lru_trace.specs.Counted.{Counted, IsOf}
use Rattle.lru_trace.specs.Names.{number_in}
use Rattle.lru_trace.specs.Slots.{position, weight_in}
use Rattle.std.proofs.lemmas.Option.{same_Some}
use Rattle.lru_trace.proofs.Numbered.{none_named, named_on, counted, position_within}

abbrev pub place : ℕ → List ℕ → Option ℕ
place key xs = cond (is_in nat_eq key xs) (Some (length (since nat_eq key xs))) None

plain_sum : (xs : List ℕ) → sum_by (weight_in []) xs ≡ length xs
plain_sum [] = refl
plain_sum (x ∷ xs) = omega (arith, plain_sum xs, sum_by-cons (weight_in []) x xs, one x)
  where
    one : (k : ℕ) → weight_in [] k ≡ 1
    one k = get_or_past [] k 1 (omega arith)

pub plain_place : (weights : List ℕ) (key : ℕ) (xs : List ℕ) → weights ≡ []
    → position (weight_in weights) key xs ≡ place key xs
plain_place weights key xs none =
    ap (λ ws. position (weight_in ws) key xs) none
    ∙ ap (λ n. cond (is_in nat_eq key xs) (Some n) None) (plain_sum (since nat_eq key xs))

pub plain_fits : (weights : List ℕ) (key : ℕ) (xs : List ℕ) → weights ≡ [] → length xs < 2 ^ 64 - 1
    → sum_by (weight_in weights) (key ∷ remove_key (nat_eq key) xs) < 2 ^ 64
plain_fits weights key xs none few =
    rw none (go (is_in nat_eq key xs) refl)
  where
    go : (b : Bool) → is_in nat_eq key xs ≡ b → sum_by (weight_in []) (key ∷ remove_key (nat_eq key) xs) < 2 ^ 64
    go true e = omega (arith, plain_sum (key ∷ remove_key (nat_eq key) xs), length-remove_key (nat_eq key) xs e, few)
    go false e =
        let same = ap length (without_absent nat_eq_equiv key xs e) in
        omega (arith, plain_sum (key ∷ remove_key (nat_eq key) xs), same, few)

pub position_some : (key d : ℕ) (xs : List ℕ) → place key xs ≡ Some d
    → (is_in nat_eq key xs ≡ true) × (length (since nat_eq key xs) ≡ d)
position_some key d xs e = go (is_in nat_eq key xs) refl e
  where
    go : (b : Bool) → is_in nat_eq key xs ≡ b → cond b (Some (length (since nat_eq key xs))) None ≡ Some d
        → (is_in nat_eq key xs ≡ true) × (length (since nat_eq key xs) ≡ d)
    go true is e = (is, same_Some (length (since nat_eq key xs)) d e)
    go false is e = absurd cc

pub position_none : (key : ℕ) (xs : List ℕ) → place key xs ≡ None → is_in nat_eq key xs ≡ false
position_none key xs e = go (is_in nat_eq key xs) refl e
  where
    go : (b : Bool) → is_in nat_eq key xs ≡ b → cond b (Some (length (since nat_eq key xs))) None ≡ None
        → is_in nat_eq key xs ≡ false
    go true is e = absurd cc
    go false is e = is

pub found_length : (key d : ℕ) (xs : List ℕ) → place key xs ≡ Some d
    → (length (key ∷ remove_key (nat_eq key) xs) ≡ length xs) × (d < length xs)
found_length key d xs e =
    let is = position_some key d xs e in (
      omega (arith, length-remove_key (nat_eq key) xs is.0),
      omega (arith, is.1, position_within key xs is.0),
    )

pub first_length : (key : ℕ) (xs : List ℕ) → place key xs ≡ None
    → length (key ∷ remove_key (nat_eq key) xs) ≡ length xs + 1
first_length key xs e =
    let same = ap length (without_absent nat_eq_equiv key xs (position_none key xs e)) in
    omega (arith, same)

pub entry_few : (xs : List ℕ) (i : ℕ) → get_or xs i 0 ≤ sum xs
entry_few [] i = omega arith
entry_few (x ∷ xs) zero = let a = sum_by-cons (λ y. y) x xs in omega (arith, a)
entry_few (x ∷ xs) (suc i) = let a = sum_by-cons (λ y. y) x xs in omega (arith, a, entry_few xs i)

pub sum_counted : (xs : List ℕ) (d : ℕ) → d < length xs → sum (set xs d (get_or xs d 0 + 1)) ≡ sum xs + 1
sum_counted xs d h =
    let more = set xs d (get_or xs d 0 + 1) in
    let all = counted d (length xs) xs h in
    let left : take (length xs) more ≡ more = take_all (length xs) more
    (omega (arith, length-set xs d (get_or xs d 0 + 1))) in
    let right : take (length xs) xs ≡ xs = take_all (length xs) xs (omega arith) in
    let small : cond {A = ℕ} (nat_le (length xs) d) 1 0 ≡ 0 = rw (lt-leb (length xs) d h) refl in
    omega (arith, ap sum left, ap sum right, all, small)

pub none_kept : {Z : Type 0} (kept : Option (Vec ℕ Z)) → IfSome kept (λ v. v.items ≡ [])
    → IfSome (option_map (λ v. v.items) kept) (λ ns. ns ≡ [])
none_kept None none = tt
none_kept (Some v) none = none

pub kept_still : (warm past : List (List ℕ)) (old new : Counted) → new ≡ record old { kept = new.kept }
    → IsOf warm past old → IsOf warm past (record new { kept = old.kept })
kept_still warm past old new rest of = subst (λ v. IsOf warm past (record v { kept = old.kept })) (sym rest) of

module _ (before : Option (List ℕ)) (number : ℕ) (kept : Option (List ℕ)) where
  pub kept_some : kept ≡ option_map (λ ns. ns ++ number ∷ []) before → is_some kept ≡ is_some before
  kept_some is = ap is_some is ∙ go before
    where
      go : (o : Option (List ℕ)) → is_some (option_map (λ ns. ns ++ number ∷ []) o) ≡ is_some o
      go None = refl
      go (Some ns) = refl

  pub forgotten : (new : Option (List ℕ)) → kept ≡ option_map (λ ns. ns ++ number ∷ []) before
      → ((ns : List ℕ) (n : ℕ) → kept ≡ Some (ns ++ n ∷ []) → new ≡ Some ns) → (kept ≡ None → new ≡ None)
      → new ≡ before
  forgotten new is some none = go before is
    where
      go : (o : Option (List ℕ)) → kept ≡ option_map (λ ns. ns ++ number ∷ []) o → new ≡ o
      go None e = none e
      go (Some ns) e = some ns number e

module _ {warm trace : List (List ℕ)} {v : Counted} (of : IsOf warm trace v) where
  abbrev warm_past : List ℕ
  warm_past = past_after [] of.before

  -- the key got a number, and then a count was made
  pub of_made : (named new : Counted) → named ≡ record v { names = named.names }
      → ((x : List ℕ) (n : ℕ) → number_in v.names x ≡ Some n → number_in named.names x ≡ Some n)
      → new ≡ record named { counts = new.counts } → ((n : ℕ) → sum (take n new.counts) ≡ sum (take n named.counts))
      → IsOf warm trace new
  of_made named new renamed keeps recounted same =
      let is : new ≡ record v { names = named.names; counts = new.counts } =
      recounted ∙ (λ i. record (renamed i) { counts = new.counts }) in
      subst (IsOf warm trace) (sym is) (record {
        before = of.before;
        numbers = of.numbers;
        warmed = named_on (number_in v.names) (number_in named.names) keeps warm of.before of.warmed;
        named = named_on (number_in v.names) (number_in named.names) keeps trace of.numbers of.named;
        order = of.order;
        hits = λ n. ap (λ m. misses nat_eq n warm_past of.numbers + m)
            (same n ∙ ap (λ w. sum (take n w.counts)) renamed) ∙ of.hits n;
        all = of.all;
        kept = of.kept;
      })

  module _ (key : List ℕ) (number : ℕ) (is : number_in v.names key ≡ Some number) where
    abbrev past : List ℕ
    past = past_after warm_past of.numbers

    is_in_trace : is_in nat_eq number v.recency ≡ is_in nat_eq number past
    is_in_trace = ap (is_in nat_eq number) of.order ∙ is_in_recency nat_eq_equiv number past

    named_more : map (number_in v.names) (trace ++ key ∷ []) ≡ map Some (of.numbers ++ number ∷ [])
    named_more =
        map-append (number_in v.names) trace (key ∷ []) ∙ (λ i. of.named i ++ is i ∷ [])
        ∙ sym (map-append Some of.numbers (number ∷ []))

    order_more : number ∷ remove_key (nat_eq number) v.recency
        ≡ recency nat_eq (past_after warm_past (of.numbers ++ number ∷ []))
    order_more =
        ap (λ xs. number ∷ remove_key (nat_eq number) xs) of.order
        ∙ ap (recency nat_eq) (sym (past_more warm_past of.numbers number))

    longer : length (trace ++ key ∷ []) ≡ length trace + 1
    longer = omega (arith, length-append trace (key ∷ []))

    kept_more : (before kept : Option (List ℕ)) → kept ≡ option_map (λ ns. ns ++ number ∷ []) before
        → IfSome before (λ ns. ns ≡ of.numbers) → IfSome kept (λ ns. ns ≡ of.numbers ++ number ∷ [])
    kept_more None kept is e = rw is tt
    kept_more (Some ns) kept is e = rw is (ap (λ them. them ++ number ∷ []) e)

    pub of_found : (d : ℕ) → place number v.recency ≡ Some d → d < length v.counts
        → (kept : Option (List ℕ)) → kept ≡ option_map (λ ns. ns ++ number ∷ []) v.kept
        → IsOf warm (trace ++ key ∷ []) (record v {
          recency = number ∷ remove_key (nat_eq number) v.recency;
          counts = set v.counts d (get_or v.counts d 0 + 1);
          references = v.references + 1;
          kept = kept;
        })
    of_found d at_place within kept is =
        let there = position_some number d v.recency at_place in
        let inside = sym is_in_trace ∙ there.0 in
        let far : distance nat_eq number past ≡ d =
        ap length (sym (since_recency nat_eq_equiv number past) ∙ sym (ap (since nat_eq number) of.order)) ∙ there.1 in
        record {
          before = of.before;
          numbers = of.numbers ++ number ∷ [];
          warmed = of.warmed;
          named = named_more;
          order = order_more;
          hits = λ n.
              let more : misses nat_eq n warm_past (of.numbers ++ number ∷ [])
              ≡ misses nat_eq n warm_past of.numbers + cond (nat_le n d) 1 0 =
              misses_more nat_eq n warm_past of.numbers number
              ∙ (λ i. misses nat_eq n warm_past of.numbers + cond (not (inside i) || nat_le n (far i)) 1 0) in
              omega (arith, more, of.hits n, counted d n v.counts within);
          all = omega (arith, of.all, longer);
          kept = kept_more v.kept kept is of.kept;
        }

    pub of_first : place number v.recency ≡ None
        → (kept : Option (List ℕ)) → kept ≡ option_map (λ ns. ns ++ number ∷ []) v.kept
        → IsOf warm (trace ++ key ∷ []) (record v {
          recency = number ∷ remove_key (nat_eq number) v.recency;
          references = v.references + 1;
          kept = kept;
        })
    of_first at_place kept is =
        let outside = sym is_in_trace ∙ position_none number v.recency at_place in
        record {
          before = of.before;
          numbers = of.numbers ++ number ∷ [];
          warmed = of.warmed;
          named = named_more;
          order = order_more;
          hits = λ n.
              let more : misses nat_eq n warm_past (of.numbers ++ number ∷ []) ≡ misses nat_eq n warm_past of.numbers + 1 =
              misses_more nat_eq n warm_past of.numbers number
              ∙ (λ i. misses nat_eq n warm_past of.numbers
              + cond (not (outside i) || nat_le n (distance nat_eq number past)) 1 0) in
              omega (arith, more, of.hits n);
          all = omega (arith, of.all, longer);
          kept = kept_more v.kept kept is of.kept;
        }

module _ {warm : List (List ℕ)} {v : Counted} (of : IsOf warm [] v) where
  none_counted : of.numbers ≡ []
  none_counted = none_named of.numbers of.named

  pub of_warm : (key : List ℕ) (number : ℕ) → number_in v.names key ≡ Some number
      → IsOf (warm ++ key ∷ []) [] (record v { recency = number ∷ remove_key (nat_eq number) v.recency })
  of_warm key number is = record {
    before = of.before ++ number ∷ [];
    numbers = [];
    warmed = map-append (number_in v.names) warm (key ∷ []) ∙ (λ i. of.warmed i ++ is i ∷ [])
        ∙ sym (map-append Some of.before (number ∷ []));
    named = refl;
    order = ap (λ xs. number ∷ remove_key (nat_eq number) xs)
        (of.order ∙ ap (λ ns. recency nat_eq (past_after (past_after [] of.before) ns)) none_counted)
        ∙ ap (recency nat_eq) (sym (past_more [] of.before number));
    hits = λ n. sym (ap (λ ns. misses nat_eq n (past_after [] of.before) ns + sum (take n v.counts)) none_counted)
        ∙ of.hits n;
    all = of.all;
    kept = subst (λ ns. IfSome v.kept (λ kept. kept ≡ ns)) none_counted of.kept;
  }

pub always_err : {A E P : Type 0} (r : Result A E) → P → OnErr r P
always_err (Ok x) p = tt
always_err (Err e) p = p

pub if_passed : {A E : Type 0} {B : Type 0} (r : Result A E) (x y : E) → IsErr r × IsErrAnd r (λ e. e ≡ x) → (x ≡ y → B)
    → IfErr r (λ e. e ≡ y → B)
if_passed (Ok a) x y h then = tt
if_passed (Err e) x y h then = λ is. then (sym h.1 ∙ is)
