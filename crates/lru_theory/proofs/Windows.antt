-- While LRU misses at most k times, its misses are references to different keys. A policy has only the keys that it
-- began with, and the keys that it paid for.
use Rattle.std.proofs.Common.{◌≡◌, ℕ, zero, suc, ◌+◌, ◌≤◌, ◌<◌, Bool, true, false, cond, List, [], ◌∷◌, ◌++◌}
use Rattle.std.proofs.Common.{length, take, refl, sym, ap, ◌∙◌, arith, ◌⊎◌, inl, inr}
use Rattle.std.proofs.lemmas.Bool.{cases_lt, or_parts, or_right}
use Rattle.std.proofs.lemmas.List.{length-append}
use Rattle.std.proofs.lemmas.Map.Made.{length-remove_key}
use Rattle.std.specs.Cmp.{IsEquivalence}
use Rattle.std.specs.Prelude.{◌||◌}
use Rattle.std.specs.Set.{remove_key}
use Rattle.lru_theory.specs.Traces.{is_in, refer, faults, fault}
use Rattle.lru_theory.specs.Policies.{Served, ends, serves}
use Rattle.lru_theory.proofs.Affordable.{Front, none, both, front_without, front_in}
use Rattle.lru_theory.proofs.Inclusions.{clash}
use Rattle.lru_theory.proofs.Lists.{is_in_without}
use Rattle.lru_theory.proofs.Nexts.{without_absent}

module _ {K : Type 0} (eq : K → K → Bool) where
  abbrev pub Apart : List K → Type 0
  Apart [] = Unit {0}
  Apart (x ∷ xs) = (is_in eq x xs ≡ false) × Apart xs

  abbrev pub Within : List K → List K → Type 0
  Within xs ys = (key : K) → is_in eq key xs ≡ true → is_in eq key ys ≡ true

  missing_without : (x : K) (test : K → Bool) (xs : List K) → is_in eq x xs ≡ false
      → is_in eq x (remove_key test xs) ≡ false
  missing_without x test [] e = refl
  missing_without x test (y ∷ ys) e =
      let parts = or_parts (eq x y) (is_in eq x ys) e in
      go (test y) parts.0 parts.1 (missing_without x test ys parts.1)
    where
      go : (b : Bool) → eq x y ≡ false → is_in eq x ys ≡ false → is_in eq x (remove_key test ys) ≡ false
          → is_in eq x (cond b ys (y ∷ remove_key test ys)) ≡ false
      go true d e ih = e
      go false d e ih = rw (d, ih) refl

  apart_without : (test : K → Bool) (xs : List K) → Apart xs → Apart (remove_key test xs)
  apart_without test [] h = tt
  apart_without test (x ∷ xs) h = go (test x) (apart_without test xs h.1)
    where
      go : (b : Bool) → Apart (remove_key test xs) → Apart (cond b xs (x ∷ remove_key test xs))
      go true ih = h.1
      go false ih = (missing_without x test xs h.0, ih)

  pub in_less : (test : K → Bool) (key : K) (xs : List K) → is_in eq key (remove_key test xs) ≡ true
      → is_in eq key xs ≡ true
  in_less test key xs e = go (is_in eq key xs) refl
    where
      go : (b : Bool) → is_in eq key xs ≡ b → b ≡ true
      go true h = refl
      go false h = clash (missing_without key test xs h) e

  pub in_either : (key : K) (xs ys : List K) → is_in eq key (xs ++ ys) ≡ (is_in eq key xs || is_in eq key ys)
  in_either key [] ys = refl
  in_either key (x ∷ xs) ys = go (eq key x) (in_either key xs ys)
    where
      go : (b : Bool) → is_in eq key (xs ++ ys) ≡ (is_in eq key xs || is_in eq key ys)
          → (b || is_in eq key (xs ++ ys)) ≡ ((b || is_in eq key xs) || is_in eq key ys)
      go true ih = refl
      go false ih = ih

  in_second : (key : K) (xs ys : List K) → is_in eq key ys ≡ true → is_in eq key (xs ++ ys) ≡ true
  in_second key xs ys e = in_either key xs ys ∙ or_right (is_in eq key xs) (is_in eq key ys) e

  within_more : (xs ys zs : List K) → Within ys zs → Within (xs ++ ys) (xs ++ zs)
  within_more xs ys zs h key e =
      in_either key xs zs ∙ go (is_in eq key xs) (is_in eq key ys) (h key) (sym (in_either key xs ys) ∙ e)
    where
      go : (b d : Bool) → (d ≡ true → is_in eq key zs ≡ true) → (b || d) ≡ true → (b || is_in eq key zs) ≡ true
      go true d h e = refl
      go false d h e = h e

  front_taken_more : (n : ℕ) (xs ys : List K) → Front xs ys → length xs ≤ n → Front xs (take n ys)
  front_taken_more n _ _ (none ys) few = none (take n ys)
  front_taken_more zero _ _ (both x xs ys h) few = absurd (omega (arith, few))
  front_taken_more (suc n) _ _ (both x xs ys h) few =
      both x xs (take n ys) (front_taken_more n xs ys h (omega (arith, few)))

module _ {K : Type 0} {eq : K → K → Bool} (laws : IsEquivalence eq) where
  pub in_named : (key x : K) (xs : List K) → eq key x ≡ true → is_in eq key xs ≡ is_in eq x xs
  in_named key x [] e = refl
  in_named key x (y ∷ ys) e = λ i. laws.congr key x y e i || in_named key x ys e i

  missing_after : (key : K) (xs : List K) → Apart eq xs → is_in eq key (remove_key (eq key) xs) ≡ false
  missing_after key [] h = refl
  missing_after key (x ∷ xs) h = go (eq key x) refl (missing_after key xs h.1)
    where
      go : (b : Bool) → eq key x ≡ b → is_in eq key (remove_key (eq key) xs) ≡ false
          → is_in eq key (cond b xs (x ∷ remove_key (eq key) xs)) ≡ false
      go true e ih = in_named key x xs e ∙ h.0
      go false e ih = rw (e, ih) refl

  pub pigeons : (xs ys : List K) → Apart eq xs → Within eq xs ys → length xs ≤ length ys
  pigeons [] ys h within = omega arith
  pigeons (x ∷ xs) ys h within =
      let here = within x (ap (λ b. b || is_in eq x xs) (laws.refl x)) in
      let rest = pigeons xs (remove_key (eq x) ys) h.1
      (λ key e. is_in_without laws key x ys (other key e) ∙ within key (or_right (eq key x) (is_in eq key xs) e)) in
      omega (arith, rest, length-remove_key (eq x) ys here)
    where
      other : (key : K) → is_in eq key xs ≡ true → eq key x ≡ false
      other key e = go (eq key x) refl
        where
          go : (b : Bool) → eq key x ≡ b → b ≡ false
          go false same = refl
          go true same = clash h.0 (sym (in_named key x xs same) ∙ e)

module _ {K : Type 0} {eq : K → K → Bool} (laws : IsEquivalence eq) (k h b : ℕ)
    (IsStep : K → List K → ℕ → List K → Type 0) where
  -- What a policy may do at a reference, from the keys `old`: it pays for the keys `extra`. After the reference a
  -- window may begin that counts the keys `start` as referenced.
  pub record Gains (key : K) (old : List K) (one : ℕ) (new : List K) : Type 0 where
    pub fits : length new ≤ h
    pub room : b ≤ h
    pub extra : List K
    pub few : length extra ≤ one
    pub held : Within eq new (extra ++ old)
    pub named : is_in eq key (extra ++ old) ≡ true
    pub start : List K
    pub long : length start ≡ b
    pub apart : Apart eq start
    pub within : Within eq start new
    pub front : 0 < k → (xs : List K) → Front start (refer eq k key xs)

  module _ (gains : (key : K) (old : List K) (one : ℕ) (new : List K) → IsStep key old one new
      → Gains key old one new) where
    -- `count` different keys were referenced up to the end of a window
    pub record Ends (seen : ℕ) (missed paid : ℕ) (known : List K) : Type 0 where
      pub count : ℕ
      pub grows : seen ≤ count
      pub many : (seen + missed ≤ count) ⊎ (k + 1 ≤ count)
      pub few : count ≤ length known + paid

    pub window : (new trace recent xs old known : List K) (paid : ℕ) → Apart eq recent
        → (length recent ≤ k → Front recent xs) → Within eq recent known → Within eq old known
        → Served IsStep new old trace paid → Ends (length recent) (faults eq k xs trace) paid known
    window new _ recent xs _ known _ apart front named held ends = record {
      count = length recent;
      grows = omega arith;
      many = inl (omega arith);
      few = omega (arith, pigeons laws recent known apart named);
    }
    window new _ recent xs _ known _ apart front named held (serves key trace old mid one paid is run) =
        let g = gains key old one mid is in
        let next = key ∷ remove_key (eq key) recent in
        let all = g.extra ++ known in
        let later = window new trace next (refer eq k key xs) mid all paid
        (missing_after laws key recent apart, apart_without eq (eq key) recent apart)
        (λ short. front_taken_more eq k next (key ∷ remove_key (eq key) xs)
        (both key (remove_key (eq key) recent) (remove_key (eq key) xs)
        (front_without (eq key) recent xs (front (omega (arith, short, longer key recent))))) short)
        (λ other e. seen key other recent all (known_key g.extra old known key held g.named)
        (λ at. in_second eq other g.extra known (named other at)) e)
        (λ other e. within_more eq g.extra old known held other (g.held other e)) run in
        let more : length recent ≤ length next = longer key recent in
        record {
          count = later.count;
          grows = omega (arith, later.grows, more);
          many = counted key recent xs later.count (faults eq k (refer eq k key xs) trace) front later.grows later.many;
          few = omega (arith, later.few, g.few, length-append g.extra known);
        }
      where
        longer : (key : K) (recent : List K) → length recent ≤ suc (length (remove_key (eq key) recent))
        longer key recent = go (is_in eq key recent) refl
          where
            go : (d : Bool) → is_in eq key recent ≡ d → length recent ≤ suc (length (remove_key (eq key) recent))
            go true e = omega (arith, length-remove_key (eq key) recent e)
            go false e = omega (arith, ap length (without_absent laws key recent e))

        known_key : (extra old known : List K) (key : K) → Within eq old known → is_in eq key (extra ++ old) ≡ true
            → is_in eq key (extra ++ known) ≡ true
        known_key extra old known key held e = within_more eq extra old known held key e

        seen : (key other : K) (recent known : List K) → is_in eq key known ≡ true
            → (is_in eq other recent ≡ true → is_in eq other known ≡ true)
            → (eq other key || is_in eq other (remove_key (eq key) recent)) ≡ true → is_in eq other known ≡ true
        seen key other recent known here before e = go (eq other key) refl e
          where
            go : (d : Bool) → eq other key ≡ d → (d || is_in eq other (remove_key (eq key) recent)) ≡ true
                → is_in eq other known ≡ true
            go true same e = in_named laws other key known same ∙ here
            go false same e = before (in_less eq (eq key) other recent e)

        counted : (key : K) (recent xs : List K) (count rest : ℕ) → (length recent ≤ k → Front recent xs)
            → suc (length (remove_key (eq key) recent)) ≤ count
            → (suc (length (remove_key (eq key) recent)) + rest ≤ count) ⊎ (k + 1 ≤ count)
            → (length recent + (fault eq key xs + rest) ≤ count) ⊎ (k + 1 ≤ count)
        counted key recent xs count rest front grows (inr many) = inr many
        counted key recent xs count rest front grows (inl many) = elim (cases_lt k (length recent)) [
          | inl over ↦ inr (omega (arith, over, grows, longer key recent))
          | inr under ↦ inl (go (is_in eq key xs) (is_in eq key recent) refl
              (front_in eq key recent xs (front under)))
        ]
          where
            go : (d r : Bool) → is_in eq key recent ≡ r → (r ≡ true → d ≡ true)
                → length recent + (cond d 0 1 + rest) ≤ count
            go true r e h = omega (arith, many, longer key recent)
            go false true e h = clash refl (h refl)
            go false false e h = omega (arith, many, ap length (without_absent laws key recent e))
