use Rattle.std.proofs.Common.{◌≡◌, ℕ, zero, suc, ◌+◌, ◌≤◌, ◌<◌, Bool, true, false, cond, List, [], ◌∷◌, ◌++◌, length, take}
use Rattle.std.proofs.Common.{refl, ap, ◌∙◌, arith}
use Rattle.std.proofs.lemmas.Bool.{or_right}
use Rattle.std.specs.Cmp.{IsEquivalence}
use Rattle.std.specs.Prelude.{◌||◌}
use Rattle.std.specs.Set.{remove_key}
use Rattle.lru_theory.specs.Traces.{is_in, refer}
use Rattle.lru_theory.specs.Policies.{Loads, Bypasses, Demands, finds, stores, replaces, outside}
use Rattle.lru_theory.specs.Policies.{Served, ends, serves}
use Rattle.lru_theory.proofs.Affordable.{Front, none, both}
use Rattle.lru_theory.proofs.Windows.{Within, Gains, in_either, in_named, in_less}

module _ {K : Type 0} {eq : K → K → Bool} (laws : IsEquivalence eq) where
  -- the keys of the new cache that were not in the old one
  abbrev pub gained : List K → List K → List K
  gained old [] = []
  gained old (x ∷ xs) = cond (is_in eq x old) (gained old xs) (x ∷ gained old xs)

  pub gained_length : (old xs : List K) → length (gained old xs) ≡ outside eq old xs
  gained_length old [] = refl
  gained_length old (x ∷ xs) = go (is_in eq x old) (gained_length old xs)
    where
      go : (b : Bool) → length (gained old xs) ≡ outside eq old xs
          → length (cond b (gained old xs) (x ∷ gained old xs)) ≡ cond b 0 1 + outside eq old xs
      go true ih = omega (arith, ih)
      go false ih = omega (arith, ih)

  pub held_gained : (old xs : List K) → Within eq xs (gained old xs ++ old)
  held_gained old [] key e = absurd cc
  held_gained old (x ∷ xs) key e = go (held_gained old xs key) (is_in eq x old) refl (eq key x) refl e
    where
      go : (is_in eq key xs ≡ true → is_in eq key (gained old xs ++ old) ≡ true) → (b : Bool) → is_in eq x old ≡ b
          → (d : Bool) → eq key x ≡ d → (d || is_in eq key xs) ≡ true
          → is_in eq key (cond b (gained old xs) (x ∷ gained old xs) ++ old) ≡ true
      go rest true at true same e =
          in_either eq key (gained old xs) old
          ∙ or_right (is_in eq key (gained old xs)) (is_in eq key old) (in_named laws key x old same ∙ at)
      go rest true at false same e = rest e
      go rest false at true same e = rw same refl
      go rest false at false same e = rw same (rest e)

  in_some : (key : K) (xs : List K) → is_in eq key xs ≡ true → 1 ≤ length xs
  in_some key [] e = absurd cc
  in_some key (x ∷ xs) e = omega arith

  front_key : (k : ℕ) (key : K) → 0 < k → (xs : List K) → Front (key ∷ []) (refer eq k key xs)
  front_key zero key some xs = absurd (omega (arith, some))
  front_key (suc k) key some xs = both key [] (take k (remove_key (eq key) xs)) (none (take k (remove_key (eq key) xs)))

  one_within : (key : K) (xs : List K) → is_in eq key xs ≡ true → Within eq (key ∷ []) xs
  one_within key xs at other e = go (eq other key) refl e
    where
      go : (b : Bool) → eq other key ≡ b → (b || false) ≡ true → is_in eq other xs ≡ true
      go true same e = in_named laws other key xs same ∙ at
      go false same e = absurd cc

  pub loads_gains : (k h : ℕ) (key : K) (old : List K) (one : ℕ) (new : List K) → Loads eq h key old one new
      → Gains laws k h 1 (Loads eq h) key old one new
  loads_gains k h key old one new is = record {
    fits = is.fits;
    room = omega (arith, is.fits, in_some key new is.stores);
    extra = gained old new;
    few = omega (arith, gained_length old new, is.pays);
    held = held_gained old new;
    named = held_gained old new key is.stores;
    start = key ∷ [];
    long = refl;
    apart = (refl, tt);
    within = one_within key new is.stores;
    front = front_key k key;
  }

  pub bypasses_gains : (k h : ℕ) (key : K) (old : List K) (one : ℕ) (new : List K) → Bypasses eq h key old one new
      → Gains laws k h 0 (Bypasses eq h) key old one new
  bypasses_gains k h key old one new is = go (is_in eq key new) refl (is_in eq key old) refl
    where
      keys : List K
      keys = gained old new

      gains : (extra : List K) → length extra ≤ one → Within eq new (extra ++ old) → is_in eq key (extra ++ old) ≡ true
          → Gains laws k h 0 (Bypasses eq h) key old one new
      gains extra few held named = record {
        fits = is.fits;
        room = omega arith;
        extra = extra;
        few = few;
        held = held;
        named = named;
        start = [];
        long = refl;
        apart = tt;
        within = λ other e. absurd cc;
        front = λ some xs. none (refer eq k key xs);
      }

      go : (b : Bool) → is_in eq key new ≡ b → (d : Bool) → is_in eq key old ≡ d
          → Gains laws k h 0 (Bypasses eq h) key old one new
      go true at d was = gains keys (omega (arith, gained_length old new, is.stored at)) (held_gained old new)
          (held_gained old new key at)
      go false at true was = gains keys (omega (arith, gained_length old new, is.bypassed at)) (held_gained old new)
          (in_either eq key keys old ∙ or_right (is_in eq key keys) (is_in eq key old) was)
      go false at false was = gains (key ∷ keys) (omega (arith, gained_length old new, is.bypassed at, is_one was))
          (λ other e. or_right (eq other key) (is_in eq other (keys ++ old)) (held_gained old new other e))
          (ap (λ b. b || is_in eq key (keys ++ old)) (laws.refl key))
        where
          is_one : {b : Bool} → b ≡ false → cond {A = ℕ} b 0 1 ≡ 1
          is_one e = rw e refl

  nothing_outside : (old xs : List K) → Within eq xs old → outside eq old xs ≡ 0
  nothing_outside old [] within = refl
  nothing_outside old (x ∷ xs) within =
      let here = within x (ap (λ b. b || is_in eq x xs) (laws.refl x)) in
      rw here (omega (arith, nothing_outside old xs (λ key e. within key (or_right (eq key x) (is_in eq key xs) e))))

  one_outside : (key : K) (old xs : List K) → Within eq xs old → outside eq old (key ∷ xs) ≤ 1
  one_outside key old xs within = go (is_in eq key old) (nothing_outside old xs within)
    where
      go : (b : Bool) → outside eq old xs ≡ 0 → cond b 0 1 + outside eq old xs ≤ 1
      go true e = omega (arith, e)
      go false e = omega (arith, e)

  pub demands_loads : (h : ℕ) (key : K) (old : List K) (one : ℕ) (new : List K) → length old ≤ h
      → Demands eq h key old one new → Loads eq h key old one new
  demands_loads h key old _ _ fits (finds at) = record {
    fits = fits;
    stores = at;
    pays = omega (arith, nothing_outside old old (λ other e. e));
  }
  demands_loads h key old _ _ fits (stores absent room) = record {
    fits = omega (arith, room);
    stores = ap (λ b. b || is_in eq key old) (laws.refl key);
    pays = one_outside key old old (λ other e. e);
  }
  demands_loads h key old _ _ fits (replaces absent evicted room) = record {
    fits = omega (arith, room);
    stores = ap (λ b. b || is_in eq key (remove_key (eq evicted) old)) (laws.refl key);
    pays = one_outside key old (remove_key (eq evicted) old) (λ other e. in_less eq (eq evicted) other old e);
  }

  pub served_loads : (h : ℕ) (new trace old : List K) (paid : ℕ) → length old ≤ h
      → Served (Demands eq h) new old trace paid → Served (Loads eq h) new old trace paid
  served_loads h new _ _ _ fits ends = ends
  served_loads h new _ _ _ fits (serves key trace old mid one paid is run) =
      let step = demands_loads h key old one mid fits is in
      serves key trace old mid one paid step (served_loads h new trace mid paid step.fits run)
