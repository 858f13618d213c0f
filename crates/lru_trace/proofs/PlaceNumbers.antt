-- Places with keys, and the same places with the numbers of the keys.
use Rattle.std.proofs.Common.{◌≡◌, ℕ, suc, ◌≤◌, ◌<◌, Bool, true, false, cond, List, [], ◌∷◌, length}
use Rattle.std.proofs.Common.{Option, Some, None, refl, sym, ap, ◌∙◌, arith, subst}
use Rattle.std.proofs.lemmas.Bool.{eq-eqb, eqb-true, or_right, both_ways}
use Rattle.std.proofs.Common.{◌⊎◌, inl, inr}
use Rattle.std.proofs.lemmas.Option.{none-some, same_Some}
use Rattle.std.proofs.lemmas.Slice.Eq.{bytes_eq-Decides}
use Rattle.std.specs.Map.{update}
use Rattle.std.specs.HashMap.{HashMap, get}
use Rattle.std.specs.String.{string_bytes, string_eq}
use Rattle.std.proofs.lemmas.Map.Text.{hash_map_text_same}
use Rattle.std.specs.Option.{option_map}
use Rattle.std.specs.Prelude.{String, if◌then◌else◌}
use Rattle.std.specs.Global.{Global}
use Rattle.std.specs.Prelude.{◌||◌, nat_eq, IfSome}
use Rattle.std.specs.Str.{bytes_eq}
use Rattle.lru_theory.specs.Places.{keys_in, contains_it, place_of, freed, vacated}
use Rattle.lru_theory.specs.Traces.{is_in}
use Rattle.lru_trace.specs.Deletes.{AreNumbers, place_number}
use Rattle.lru_trace.specs.Places.{owns, Freed, Referred}
use Rattle.lru_trace.proofs.Marks.{never}
use Rattle.lru_trace.proofs.Numbered.{same_test}

pub freed_long : {K : Type 0} (test : K → Bool) (places : List (Option K)) → length (freed test places) ≡ length places
freed_long test [] = refl
freed_long test (place ∷ places) = go (contains_it test place) (freed_long test places)
  where
    go : (b : Bool) → length (freed test places) ≡ length places
        → length (cond b (None ∷ places) (place ∷ freed test places)) ≡ suc (length places)
    go true ih = refl
    go false ih = ap suc ih

pub fewer_places : {K : Type 0} (test : K → Bool) (places : List (Option K)) → length (vacated test places) ≤ length places
fewer_places test [] = omega arith
fewer_places test (None ∷ places) = omega (arith, freed_long test places)
fewer_places test (Some key ∷ places) = go (test key) (fewer_places test places)
  where
    go : (b : Bool) → length (vacated test places) ≤ length places
        → length (cond b places (Some key ∷ vacated test places)) ≤ suc (length places)
    go true ih = omega arith
    go false ih = omega (arith, ih)

pub place_within : (id : ℕ) (places : List (Option ℕ)) → is_in nat_eq id (keys_in places) ≡ true
    → place_of (nat_eq id) places < length places
place_within id [] e = absurd cc
place_within id (None ∷ places) e = omega (arith, place_within id places e)
place_within id (Some x ∷ places) e = go (nat_eq id x) e (place_within id places)
  where
    go : (b : Bool) → (b || is_in nat_eq id (keys_in places)) ≡ true
        → (is_in nat_eq id (keys_in places) ≡ true → place_of (nat_eq id) places < length places)
        → cond b 0 (suc (place_of (nat_eq id) places)) < suc (length places)
    go true e ih = omega arith
    go false e ih = omega (arith, ih e)

-- a number that does not pass the test stays
module _ (test : ℕ → Bool) (id : ℕ) (other : test id ≡ false) where
  other_than : (x : ℕ) → test x ≡ true → nat_eq id x ≡ false
  other_than x e = never (λ same. both_ways _ other (ap test (eqb-true id x same) ∙ e))

  pub freed_keeps : (places : List (Option ℕ)) → is_in nat_eq id (keys_in places) ≡ true
      → is_in nat_eq id (keys_in (freed test places)) ≡ true
  freed_keeps [] e = absurd cc
  freed_keeps (None ∷ places) e = freed_keeps places e
  freed_keeps (Some x ∷ places) e = go (test x) (nat_eq id x) refl refl e (freed_keeps places)
    where
      go : (b d : Bool) → test x ≡ b → nat_eq id x ≡ d → (d || is_in nat_eq id (keys_in places)) ≡ true
          → (is_in nat_eq id (keys_in places) ≡ true → is_in nat_eq id (keys_in (freed test places)) ≡ true)
          → is_in nat_eq id (keys_in (cond b (None ∷ places) (Some x ∷ freed test places))) ≡ true
      go true true t s e ih = absurd (both_ways _ (other_than x t) s)
      go true false t s e ih = e
      go false true t s e ih = rw s refl
      go false false t s e ih = rw s (ih e)

  pub vacated_keeps : (places : List (Option ℕ)) → is_in nat_eq id (keys_in places) ≡ true
      → is_in nat_eq id (keys_in (vacated test places)) ≡ true
  vacated_keeps [] e = absurd cc
  vacated_keeps (None ∷ places) e = freed_keeps places e
  vacated_keeps (Some x ∷ places) e = go (test x) (nat_eq id x) refl refl e (vacated_keeps places)
    where
      go : (b d : Bool) → test x ≡ b → nat_eq id x ≡ d → (d || is_in nat_eq id (keys_in places)) ≡ true
          → (is_in nat_eq id (keys_in places) ≡ true → is_in nat_eq id (keys_in (vacated test places)) ≡ true)
          → is_in nat_eq id (keys_in (cond b places (Some x ∷ vacated test places))) ≡ true
      go true true t s e ih = absurd (both_ways _ (other_than x t) s)
      go true false t s e ih = e
      go false true t s e ih = rw s refl
      go false false t s e ih = rw s (ih e)

module _ (number : List ℕ → Option ℕ)
    (apart : (a b : List ℕ) (n : ℕ) → number a ≡ Some n → number b ≡ Some n → a ≡ b)
    (key : List ℕ) (own : Option ℕ) (owned : number key ≡ own) where
  same_tests : (place : Option (List ℕ)) (id : Option ℕ) → option_map number place ≡ option_map Some id
      → contains_it (bytes_eq key) place ≡ contains_it (owns own) id
  same_tests None None e = refl
  same_tests None (Some j) e = absurd cc
  same_tests (Some x) None e = absurd cc
  same_tests (Some x) (Some j) e = go own owned
    where
      is : number x ≡ Some j
      is = same_Some (number x) (Some j) e

      go : (o : Option ℕ) → number key ≡ o → bytes_eq key x ≡ owns o j
      go None none = never (λ same. none-some j (sym none ∙ ap number ((bytes_eq-Decides key x).0 same) ∙ is))
      go (Some i) some = same_test number apart key x i j some is

  pub long_numbers : (ps : List (Option (List ℕ))) (qs : List (Option ℕ)) → AreNumbers number ps qs
      → length ps ≡ length qs
  long_numbers [] [] h = refl
  long_numbers [] (q ∷ qs) h = absurd h
  long_numbers (p ∷ ps) [] h = absurd h
  long_numbers (p ∷ ps) (q ∷ qs) h = ap suc (long_numbers ps qs h.1)

  pub freed_numbers : (ps : List (Option (List ℕ))) (qs : List (Option ℕ)) → AreNumbers number ps qs
      → AreNumbers number (freed (bytes_eq key) ps) (freed (owns own) qs)
  freed_numbers [] [] h = tt
  freed_numbers [] (q ∷ qs) h = absurd h
  freed_numbers (p ∷ ps) [] h = absurd h
  freed_numbers (p ∷ ps) (q ∷ qs) h =
      rw (same_tests p q h.0) (go (contains_it (owns own) q) (freed_numbers ps qs h.1))
    where
      go : (b : Bool) → AreNumbers number (freed (bytes_eq key) ps) (freed (owns own) qs)
          → AreNumbers number (cond b (None ∷ ps) (p ∷ freed (bytes_eq key) ps)) (cond b (None ∷ qs) (q ∷ freed (owns own) qs))
      go true ih = (refl, h.1)
      go false ih = (h.0, ih)

  pub vacated_numbers : (ps : List (Option (List ℕ))) (qs : List (Option ℕ)) → AreNumbers number ps qs
      → AreNumbers number (vacated (bytes_eq key) ps) (vacated (owns own) qs)
  vacated_numbers [] [] h = tt
  vacated_numbers [] (q ∷ qs) h = absurd h
  vacated_numbers (p ∷ ps) [] h = absurd h
  vacated_numbers (None ∷ ps) (None ∷ qs) h = freed_numbers ps qs h.1
  vacated_numbers (None ∷ ps) (Some j ∷ qs) h = absurd (none-some (Some j) h.0)
  vacated_numbers (Some x ∷ ps) (None ∷ qs) h = absurd (none-some (number x) (sym h.0))
  vacated_numbers (Some x ∷ ps) (Some j ∷ qs) h =
      rw (same_tests (Some x) (Some j) h.0) (go (owns own j) (vacated_numbers ps qs h.1))
    where
      go : (b : Bool) → AreNumbers number (vacated (bytes_eq key) ps) (vacated (owns own) qs)
          → AreNumbers number (cond b ps (Some x ∷ vacated (bytes_eq key) ps)) (cond b qs (Some j ∷ vacated (owns own) qs))
      go true ih = h.1
      go false ih = (h.0, ih)

  pub place_numbers : (ps : List (Option (List ℕ))) (qs : List (Option ℕ)) → AreNumbers number ps qs
      → place_of (bytes_eq key) ps ≡ place_of (owns own) qs
  place_numbers [] [] h = refl
  place_numbers [] (q ∷ qs) h = absurd h
  place_numbers (p ∷ ps) [] h = absurd h
  place_numbers (p ∷ ps) (q ∷ qs) h = λ i. cond (same_tests p q h.0 i) 0 (suc (place_numbers ps qs h.1 i))

  pub has_number : (i : ℕ) → own ≡ Some i → (ps : List (Option (List ℕ))) (qs : List (Option ℕ)) → AreNumbers number ps qs
      → is_in bytes_eq key (keys_in ps) ≡ is_in nat_eq i (keys_in qs)
  has_number i mine [] [] h = refl
  has_number i mine [] (q ∷ qs) h = absurd h
  has_number i mine (p ∷ ps) [] h = absurd h
  has_number i mine (None ∷ ps) (None ∷ qs) h = has_number i mine ps qs h.1
  has_number i mine (None ∷ ps) (Some j ∷ qs) h = absurd (none-some (Some j) h.0)
  has_number i mine (Some x ∷ ps) (None ∷ qs) h = absurd (none-some (number x) (sym h.0))
  has_number i mine (Some x ∷ ps) (Some j ∷ qs) h =
      λ k. (same_tests (Some x) (Some j) h.0 ∙ ap (λ o. owns o j) mine) k || has_number i mine ps qs h.1 k

  pub has_none : own ≡ None → (ps : List (Option (List ℕ))) (qs : List (Option ℕ)) → AreNumbers number ps qs
      → is_in bytes_eq key (keys_in ps) ≡ false
  has_none mine [] [] h = refl
  has_none mine [] (q ∷ qs) h = absurd h
  has_none mine (p ∷ ps) [] h = absurd h
  has_none mine (None ∷ ps) (None ∷ qs) h = has_none mine ps qs h.1
  has_none mine (None ∷ ps) (Some j ∷ qs) h = absurd (none-some (Some j) h.0)
  has_none mine (Some x ∷ ps) (None ∷ qs) h = absurd (none-some (number x) (sym h.0))
  has_none mine (Some x ∷ ps) (Some j ∷ qs) h =
      λ k. (same_tests (Some x) (Some j) h.0 ∙ ap (λ o. owns o j) mine) k || has_none mine ps qs h.1 k

-- a key without a number is in no place
module _ (number : List ℕ → Option ℕ)
    (apart : (a b : List ℕ) (n : ℕ) → number a ≡ Some n → number b ≡ Some n → a ≡ b)
    (key : List ℕ) (none : number key ≡ None) where
  pub absent_freed : (ps : List (Option (List ℕ))) (qs : List (Option ℕ)) → AreNumbers number ps qs
      → AreNumbers number (freed (bytes_eq key) ps) qs
  absent_freed [] [] h = tt
  absent_freed [] (q ∷ qs) h = absurd h
  absent_freed (p ∷ ps) [] h = absurd h
  absent_freed (p ∷ ps) (q ∷ qs) h =
      rw (same_tests number apart key None none p q h.0 ∙ not_owned q) (h.0, absent_freed ps qs h.1)
    where
      not_owned : (q : Option ℕ) → contains_it (owns None) q ≡ false
      not_owned None = refl
      not_owned (Some j) = refl

-- what a reference finds
module _ (number : List ℕ → Option ℕ)
    (apart : (a b : List ℕ) (n : ℕ) → number a ≡ Some n → number b ≡ Some n → a ≡ b) (key : List ℕ)
    (ps : List (Option (List ℕ))) (qs : List (Option ℕ)) (same : AreNumbers number ps qs)
    (within : (x : List ℕ) (n : ℕ) → number x ≡ Some n → is_in nat_eq n (keys_in qs) ≡ true) where
  pub found_at : (own : Option ℕ) → number key ≡ own → option_map (λ id. place_of (nat_eq id) qs) own
      ≡ (if is_in bytes_eq key (keys_in ps) then Some (place_of (bytes_eq key) ps) else None)
  found_at None none = rw (has_none number apart key None none refl ps qs same) refl
  found_at (Some i) some = rw (
    has_number number apart key (Some i) some i refl ps qs same,
    within key i some,
    place_numbers number apart key (Some i) some ps qs same,
  ) refl

pub stored_there : (number : List ℕ → Option ℕ) (key : List ℕ) (qs : List (Option ℕ))
    → ((n : ℕ) → number key ≡ Some n → is_in nat_eq n (keys_in qs) ≡ true) → (own : Option ℕ) → number key ≡ own
    → IfSome own (λ n. is_in nat_eq n (keys_in qs) ≡ true)
stored_there number key qs within None e = tt
stored_there number key qs within (Some n) e = within n e

pub if_fewer : (o : Option ℕ) (a b : ℕ) → IfSome o (λ n. n < a) → a ≤ b → IfSome o (λ n. n < b)
if_fewer None a b h few = tt
if_fewer (Some n) a b h few = omega (arith, h, few)

pub within_at : (own : Option ℕ) (qs : List (Option ℕ)) → IfSome own (λ i. is_in nat_eq i (keys_in qs) ≡ true)
    → IfSome (option_map (λ id. place_of (nat_eq id) qs) own) (λ n. n < length qs)
within_at None qs h = tt
within_at (Some i) qs h = place_within i qs h

pub renumbered : (number new : List ℕ → Option ℕ) (ps : List (Option (List ℕ))) (qs : List (Option ℕ))
    → ((x : List ℕ) (j : ℕ) → is_in nat_eq j (keys_in qs) ≡ true → number x ≡ Some j → new x ≡ Some j)
    → AreNumbers number ps qs → AreNumbers new ps qs
renumbered number new [] [] keeps h = tt
renumbered number new [] (q ∷ qs) keeps h = absurd h
renumbered number new (p ∷ ps) [] keeps h = absurd h
renumbered number new (None ∷ ps) (None ∷ qs) keeps h = (refl, renumbered number new ps qs keeps h.1)
renumbered number new (None ∷ ps) (Some j ∷ qs) keeps h = absurd (none-some (Some j) h.0)
renumbered number new (Some x ∷ ps) (None ∷ qs) keeps h = absurd (none-some (number x) (sym h.0))
renumbered number new (Some x ∷ ps) (Some j ∷ qs) keeps h = (
  ap Some (keeps x j (ap (λ b. b || is_in nat_eq j (keys_in qs)) (eq-eqb j j refl)) (same_Some (number x) (Some j) h.0)),
  renumbered number new ps qs (λ y k e is. keeps y k (or_right (nat_eq k j) (is_in nat_eq k (keys_in qs)) e) is) h.1,
)

named_by : (cs : List ℕ) (es : List (String Global × ℕ))
    → (place_number es cs ≡ None) ⊎ ((k : String Global) × (cs ≡ string_bytes k))
named_by cs [] = inl refl
named_by cs (e ∷ es) = go (bytes_eq cs (string_bytes e.0)) refl (named_by cs es)
  where
    go : (b : Bool) → bytes_eq cs (string_bytes e.0) ≡ b → (place_number es cs ≡ None) ⊎ ((k : String Global) × (cs ≡ string_bytes k))
        → (cond b (Some e.1) (place_number es cs) ≡ None) ⊎ ((k : String Global) × (cs ≡ string_bytes k))
    go true is rest = inr (e.0, (bytes_eq-Decides cs (string_bytes e.0)).0 is)
    go false is rest = rest

pub reordered : {S : Type 0} (m n : HashMap (String Global) ℕ S) → ((q : String Global) → get string_eq n q ≡ get string_eq m q)
    → (cs : List ℕ) → place_number n.entries cs ≡ place_number m.entries cs
reordered m n same cs = elim (named_by cs n.entries) [
  | inr (k, is) ↦ by k is
  | inl none ↦ elim (named_by cs m.entries) [
    | inr (k, is) ↦ by k is
    | inl too ↦ none ∙ sym too
  ]
]
  where
    by : (k : String Global) → cs ≡ string_bytes k → place_number n.entries cs ≡ place_number m.entries cs
    by k is = sym (hash_map_text_same k cs n.entries is).0 ∙ same k ∙ (hash_map_text_same k cs m.entries is).0

same_key : (key : List ℕ) → bytes_eq key key ≡ true
same_key key = (bytes_eq-Decides key key).1 refl

other_key : (key x : List ℕ) → (key ≡ x → ⊥) → bytes_eq key x ≡ false
other_key key x h = never (λ e. h ((bytes_eq-Decides key x).0 e))

-- the numbers after a reference
module _ (number new : List ℕ → Option ℕ)
    (apart : (a b : List ℕ) (n : ℕ) → number a ≡ Some n → number b ≡ Some n → a ≡ b)
    (key : List ℕ) (own : Option ℕ) (owned : number key ≡ own) (id : ℕ) (old after : List (Option ℕ))
    (moved : Referred own id old after) (names : (x : List ℕ) → new x ≡ update bytes_eq number key (Some id) x)
    (within : (x : List ℕ) (n : ℕ) → number x ≡ Some n → is_in nat_eq n (keys_in old) ≡ true) where
  new_here : new key ≡ Some id
  new_here = names key ∙ ap (λ b. cond b (Some id) (number key)) (same_key key)

  new_there : (x : List ℕ) → (key ≡ x → ⊥) → new x ≡ number x
  new_there x other = names x ∙ ap (λ b. cond b (Some id) (number x)) (other_key key x other)

  not_mine : (j : ℕ) → is_in nat_eq j (keys_in (vacated (owns own) old)) ≡ true → number key ≡ Some j → ⊥
  not_mine j e is = both_ways _
      (subst (λ o. IfSome o (λ i. is_in nat_eq i (keys_in (vacated (owns own) old)) ≡ false)) (sym owned ∙ is) moved.gone) e

  pub referred_numbers : (ps : List (Option (List ℕ))) → AreNumbers number ps old
      → AreNumbers new (Some key ∷ vacated (bytes_eq key) ps) after
  referred_numbers ps h = subst (AreNumbers new (Some key ∷ vacated (bytes_eq key) ps)) (sym moved.places) (
    ap Some new_here,
    renumbered number new (vacated (bytes_eq key) ps) (vacated (owns own) old)
        (λ x j e is. new_there x (λ same. not_mine j e (ap number same ∙ is)) ∙ is)
        (vacated_numbers number apart key own owned ps old h),
  )

  still_in : (x : List ℕ) (n : ℕ) → (key ≡ x → ⊥) → number x ≡ Some n
      → is_in nat_eq n (keys_in (vacated (owns own) old)) ≡ true
  still_in x n other is = vacated_keeps (owns own) n (go own owned) old (within x n is)
    where
      go : (o : Option ℕ) → number key ≡ o → owns o n ≡ false
      go None e = refl
      go (Some i) e = never (λ same. other (apart key x n (e ∙ ap Some (eqb-true i n same)) is))

  pub referred_within : (x : List ℕ) (n : ℕ) → new x ≡ Some n → is_in nat_eq n (keys_in after) ≡ true
  referred_within x n e = ap (λ ps. is_in nat_eq n (keys_in ps)) moved.places ∙ go (bytes_eq key x) refl
    where
      go : (b : Bool) → bytes_eq key x ≡ b → is_in nat_eq n (id ∷ keys_in (vacated (owns own) old)) ≡ true
      go true same =
          let is : id ≡ n = same_Some id n (sym new_here ∙ ap new ((bytes_eq-Decides key x).0 same) ∙ e) in
          rw (eq-eqb n id (sym is)) refl
      go false other =
          let apart_key : key ≡ x → ⊥ = λ same. both_ways _ other (ap (bytes_eq key) (sym same) ∙ same_key key) in
          or_right (nat_eq n id) _ (still_in x n apart_key (sym (new_there x apart_key) ∙ e))

  not_new : (x : List ℕ) → (key ≡ x → ⊥) → new x ≡ Some id → ⊥
  not_new x other e = both_ways _ moved.fresh (still_in x id other (sym (new_there x other) ∙ e))

  pub referred_apart : (a b : List ℕ) (n : ℕ) → new a ≡ Some n → new b ≡ Some n → a ≡ b
  referred_apart a b n d e = go (bytes_eq key a) (bytes_eq key b) refl refl
    where
      differs : (x : List ℕ) → bytes_eq key x ≡ false → key ≡ x → ⊥
      differs x other same = both_ways _ other (ap (bytes_eq key) (sym same) ∙ same_key key)

      here : (x : List ℕ) → bytes_eq key x ≡ true → new x ≡ Some id
      here x same = ap new (sym ((bytes_eq-Decides key x).0 same)) ∙ new_here

      go : (s t : Bool) → bytes_eq key a ≡ s → bytes_eq key b ≡ t → a ≡ b
      go true true p q = sym ((bytes_eq-Decides key a).0 p) ∙ (bytes_eq-Decides key b).0 q
      go true false p q = absurd (not_new b (differs b q) (e ∙ sym d ∙ here a p))
      go false true p q = absurd (not_new a (differs a p) (d ∙ sym e ∙ here b q))
      go false false p q = apart a b n (sym (new_there a (differs a p)) ∙ d) (sym (new_there b (differs b q)) ∙ e)

  pub referred_long : length after ≤ suc (length old)
  referred_long = omega (arith, ap length moved.places, fewer_places (owns own) old)

-- the numbers after a delete
module _ (number new : List ℕ → Option ℕ)
    (apart : (a b : List ℕ) (n : ℕ) → number a ≡ Some n → number b ≡ Some n → a ≡ b)
    (key : List ℕ) (id : ℕ) (owned : number key ≡ Some id) (old after : List (Option ℕ))
    (moved : Freed id old after) (names : (x : List ℕ) → new x ≡ update bytes_eq number key None x)
    (within : (x : List ℕ) (n : ℕ) → number x ≡ Some n → is_in nat_eq n (keys_in old) ≡ true) where
  kept_name : (x : List ℕ) → (key ≡ x → ⊥) → new x ≡ number x
  kept_name x other = names x ∙ ap (λ b. cond b None (number x)) (other_key key x other)

  named_other : (x : List ℕ) (n : ℕ) → new x ≡ Some n → key ≡ x → ⊥
  named_other x n e same =
      none-some n (sym (names x ∙ ap (λ b. cond b None (number x)) (ap (bytes_eq key) (sym same) ∙ same_key key)) ∙ e)

  pub removed_numbers : (ps : List (Option (List ℕ))) → AreNumbers number ps old
      → AreNumbers new (freed (bytes_eq key) ps) after
  removed_numbers ps h = renumbered number new (freed (bytes_eq key) ps) after
      (λ x j e is. kept_name x (λ same. both_ways _ moved.gone (ap (λ i. is_in nat_eq i (keys_in after))
      (same_Some id j (sym owned ∙ ap number same ∙ is)) ∙ e)) ∙ is)
      (subst (AreNumbers number (freed (bytes_eq key) ps)) (sym moved.places)
      (freed_numbers number apart key (Some id) owned ps old h))

  pub removed_within : (x : List ℕ) (n : ℕ) → new x ≡ Some n → is_in nat_eq n (keys_in after) ≡ true
  removed_within x n e =
      let other = named_other x n e in
      let is = sym (kept_name x other) ∙ e in
      ap (λ ps. is_in nat_eq n (keys_in ps)) moved.places ∙ freed_keeps (nat_eq id) n
      (never (λ same. other (apart key x n (owned ∙ ap Some (eqb-true id n same)) is))) old (within x n is)

  pub removed_apart : (a b : List ℕ) (n : ℕ) → new a ≡ Some n → new b ≡ Some n → a ≡ b
  removed_apart a b n d e = apart a b n (sym (kept_name a (named_other a n d)) ∙ d) (sym (kept_name b (named_other b n e)) ∙ e)
