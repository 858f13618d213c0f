-- A demand policy can follow a policy that loads keys ahead. The demand policy loads each key when the key is
-- referenced, and evicts a key that the other policy does not contain.
use Rattle.std.proofs.Common.{◌≡◌, ℕ, suc, ◌+◌, ◌≤◌, ◌<◌, Bool, true, false, cond, List, [], ◌∷◌, ◌++◌, length}
use Rattle.std.proofs.Common.{refl, sym, ap, ◌∙◌, arith, ◌⊎◌, inl, inr, length-append}
use Rattle.std.proofs.lemmas.Bool.{cases_lt, or_right}
use Rattle.std.proofs.lemmas.Map.Made.{length-remove_key}
use Rattle.std.specs.Cmp.{IsEquivalence}
use Rattle.std.specs.Prelude.{◌||◌}
use Rattle.std.specs.Set.{remove_key}
use Rattle.lru_theory.specs.Traces.{is_in}
use Rattle.lru_theory.specs.Policies.{Loads, Demands, finds, stores, replaces, Served, ends, serves}
use Rattle.lru_theory.proofs.Lists.{is_in_without}
use Rattle.lru_theory.proofs.OtherPolicies.{gained, gained_length, held_gained}
use Rattle.lru_theory.proofs.Windows.{Within, in_either, in_named}

one_is : (a b : Bool) → (a || b) ≡ true → (a ≡ true) ⊎ (b ≡ true)
one_is true b e = inl refl
one_is false b e = inr e

clash : {A : Type 0} {b : Bool} → b ≡ true → b ≡ false → A
clash e h = absurd cc

module _ {K : Type 0} {eq : K → K → Bool} (laws : IsEquivalence eq) where
  removed_there : (key : K) (xs : List K) → length (remove_key (eq key) xs) + 1 ≡ length xs → is_in eq key xs ≡ true
  removed_there key [] e = absurd (omega (arith, e))
  removed_there key (x ∷ xs) e = go (eq key x) (removed_there key xs) e
    where
      go : (b : Bool) → (length (remove_key (eq key) xs) + 1 ≡ length xs → is_in eq key xs ≡ true)
          → length (cond b xs (x ∷ remove_key (eq key) xs)) + 1 ≡ suc (length xs) → (b || is_in eq key xs) ≡ true
      go true ih e = refl
      go false ih e = ih (omega (arith, e))

  -- a key that is not among `others` can be evicted, because `others` has fewer keys
  record Spare (others keys : List K) : Type 0 where
    evicted : K
    fewer : length (remove_key (eq evicted) keys) + 1 ≡ length keys
    kept : (x : K) → is_in eq x others ≡ true → is_in eq x keys ≡ true → is_in eq x (remove_key (eq evicted) keys) ≡ true

  spare : (keys others : List K) → length others < length keys → Spare others keys
  spare [] others less = absurd (omega (arith, less))
  spare (key ∷ keys) others less = go (is_in eq key others) refl (spare keys)
    where
      go : (b : Bool) → is_in eq key others ≡ b → ((some : List K) → length some < length keys → Spare some keys)
          → Spare others (key ∷ keys)
      go false apart ih = record {
        evicted = key;
        fewer = rw (laws.refl key) (omega arith);
        kept = λ x in_others here. rw (laws.refl key) (elim (one_is (eq x key) (is_in eq x keys) here) [
          | inl same ↦ clash (sym (in_named laws x key others same) ∙ in_others) apart
          | inr later ↦ later
        ]);
      }
      go true at ih = last (eq rest.evicted key) refl
        where
          fewer : length (remove_key (eq key) others) + 1 ≡ length others
          fewer = omega (arith, length-remove_key (eq key) others at)

          rest : Spare (remove_key (eq key) others) keys
          rest = ih (remove_key (eq key) others) (omega (arith, fewer, less))

          last : (b : Bool) → eq rest.evicted key ≡ b → Spare others (key ∷ keys)
          last true same = record {
            evicted = rest.evicted;
            fewer = rw same (omega arith);
            kept = λ x in_others here. rw same (elim (one_is (eq x key) (is_in eq x keys) here) [
              | inl first ↦ in_named laws x key keys first ∙ sym (in_named laws rest.evicted key keys same)
                  ∙ removed_there rest.evicted keys rest.fewer
              | inr later ↦ later
            ]);
          }
          last false apart = record {
            evicted = rest.evicted;
            fewer = rw apart (omega (arith, rest.fewer));
            kept = λ x in_others here. rw apart (stays x in_others here (eq x key) refl);
          }
            where
              stays : (x : K) → is_in eq x others ≡ true → (eq x key || is_in eq x keys) ≡ true → (b : Bool)
                  → eq x key ≡ b → (eq x key || is_in eq x (remove_key (eq rest.evicted) keys)) ≡ true
              stays x in_others here true same = rw same refl
              stays x in_others here false other = rw other
                  (rest.kept x (is_in_without laws x key others other ∙ in_others) (rw other at here))

  module _ (h : ℕ) (left : List K) where
    -- a demand policy served the trace with at most `most` misses
    abbrev Demanded : List K → List K → ℕ → Type 0
    Demanded keys trace most = (demanded : ℕ) × (other : List K) × Served (Demands eq h) other keys trace demanded
        × (demanded ≤ most)

    -- the demand policy contains the keys of the other policy, except for the keys `owed`
    abbrev Follows : List K → List K → ℕ → Type 0
    Follows ahead trace paid = (keys owed : List K) → length keys ≤ h → Within eq ahead (owed ++ keys)
        → Demanded keys trace (length owed + paid)

    step : (key : K) (trace ahead mid : List K) (one paid : ℕ) → Loads eq h key ahead one mid → Follows mid trace paid
        → Follows ahead (key ∷ trace) (one + paid)
    step key trace ahead mid one paid is ih keys owed fits held = go (is_in eq key keys) refl
      where
        owes : List K
        owes = gained laws ahead mid ++ owed

        few : length owes ≤ length owed + one
        few = omega (arith, length-append (gained laws ahead mid) owed, gained_length laws ahead mid, is.pays)

        holds : (x : K) → is_in eq x mid ≡ true → (is_in eq x owes ≡ true) ⊎ (is_in eq x keys ≡ true)
        holds x inside = elim (one_is _ _ (sym (in_either eq x (gained laws ahead mid) ahead)
            ∙ held_gained laws ahead mid x inside)) [
              | inl new ↦ inl (in_either eq x (gained laws ahead mid) owed ∙ ap (λ b. b || is_in eq x owed) new)
              | inr old ↦ elim (one_is _ _ (sym (in_either eq x owed keys) ∙ held x old)) [
                | inl was ↦ inl (in_either eq x (gained laws ahead mid) owed
                    ∙ or_right (is_in eq x (gained laws ahead mid)) (is_in eq x owed) was)
                | inr there ↦ inr there
              ]
            ]

        loaded : (rest : List K) → is_in eq key keys ≡ false → length rest + 1 ≤ h
            → ((x : K) → is_in eq x (remove_key (eq key) mid) ≡ true → is_in eq x keys ≡ true → is_in eq x rest ≡ true)
            → Demands eq h key keys 1 (key ∷ rest)
            → Demanded keys (key ∷ trace) (length owed + (one + paid))
        loaded rest absent room kept loads =
            let owing = remove_key (eq key) owes in
            let fewer : length owing + 1 ≤ length owes = elim (holds key is.stores) [
              | inl at ↦ omega (arith, length-remove_key (eq key) owes at)
              | inr at ↦ clash at absent
            ] in
            let next = ih (key ∷ rest) owing (omega (arith, room)) (λ x inside. go x inside (eq x key) refl) in (
              1 + next.0,
              next.1,
              serves key trace keys (key ∷ rest) 1 next.0 loads next.2,
              omega (arith, next.3, fewer, few),
            )
          where
            go : (x : K) → is_in eq x mid ≡ true → (b : Bool) → eq x key ≡ b
                → is_in eq x (remove_key (eq key) owes ++ key ∷ rest) ≡ true
            go x inside true same = in_either eq x (remove_key (eq key) owes) (key ∷ rest)
                ∙ or_right (is_in eq x (remove_key (eq key) owes)) (eq x key || is_in eq x rest)
                (ap (λ b. b || is_in eq x rest) same)
            go x inside false other = in_either eq x (remove_key (eq key) owes) (key ∷ rest) ∙ elim (holds x inside) [
              | inl at ↦ ap (λ b. b || (eq x key || is_in eq x rest)) (is_in_without laws x key owes other ∙ at)
              | inr at ↦ or_right (is_in eq x (remove_key (eq key) owes)) (eq x key || is_in eq x rest)
                  (or_right (eq x key) (is_in eq x rest) (kept x (is_in_without laws x key mid other ∙ inside) at))
            ]

        go : (b : Bool) → is_in eq key keys ≡ b → Demanded keys (key ∷ trace) (length owed + (one + paid))
        go true at =
            let within : Within eq mid (owes ++ keys) = λ x inside. in_either eq x owes keys ∙ elim (holds x inside) [
              | inl a ↦ ap (λ b. b || is_in eq x keys) a
              | inr b ↦ or_right (is_in eq x owes) (is_in eq x keys) b
            ] in
            let next = ih keys owes fits within in
            (0 + next.0, next.1, serves key trace keys keys 0 next.0 (finds at) next.2, omega (arith, next.3, few))
        go false absent = elim (cases_lt (length keys) h) [
          | inl room ↦ loaded keys absent (omega (arith, room)) (λ x inside there. there)
              (stores absent (omega (arith, room)))
          | inr full ↦
              let less : length (remove_key (eq key) mid) < length keys =
              omega (arith, length-remove_key (eq key) mid is.stores, is.fits, full) in
              let e = spare keys (remove_key (eq key) mid) less in
              let room : length (remove_key (eq e.evicted) keys) + 1 ≤ h = omega (arith, e.fewer, fits) in
              loaded (remove_key (eq e.evicted) keys) absent room e.kept (replaces absent e.evicted room)
        ]

    pub late : (trace ahead : List K) (paid : ℕ) → Served (Loads eq h) left ahead trace paid → Follows ahead trace paid
    late _ ahead _ ends = λ keys owed fits held. (0, keys, ends, omega arith)
    late _ _ _ (serves key trace ahead mid one paid is run) = step key trace ahead mid one paid is (late trace mid paid run)
