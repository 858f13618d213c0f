-- Look-up keys that are numbers, fields or pairs.
--     `number-lawful`: the laws, if look-up keys and keys are numbers.
--     `field-lawful of_q of_k`: a look-up key q names a key k if the field `of_q q` names the field `of_k k`.
--     `both-lawful`: a look-up key of two parts names a key if both parts name the key.
use Rattle.std.specs.Prelude.{◌≡◌, ◌&&◌, ◌++◌, ℕ, Bool, true, false, List, IsTrue, nat_eq}
use Rattle.std.proofs.Common.{refl, ap, arith}
use Rattle.std.proofs.lemmas.Bool.Decides.{nat_tests}
use Rattle.lru_limits.specs.Laws.{IsLookup}

same_number : (n m : ℕ) → IsTrue (nat_eq n m) → n ≡ m
same_number n m h = grind (arith, nat_tests)

pub number-lawful : (input : ℕ → List (List ℕ)) → IsLookup nat_eq nat_eq input input
number-lawful input = record {
  writes = λ n m named. ap input (same_number n m named);
  one = λ n x y named. ap (λ k. nat_eq k y) (same_number n x named);
}

pub field-lawful : {Q K A B : Type 0} {names : A → B → Bool} {eq : B → B → Bool} {query_input : A
    → List (List ℕ)} {key_input : B → List (List ℕ)} (of_q : Q → A) (of_k : K → B)
    → IsLookup names eq query_input key_input → IsLookup (λ q k. names (of_q q) (of_k k)) (λ x y. eq (of_k x) (of_k y))
    (λ q. query_input (of_q q)) (λ k. key_input (of_k k))
field-lawful of_q of_k laws = record {
  writes = λ q k. laws.writes (of_q q) (of_k k);
  one = λ q x y. laws.one (of_q q) (of_k x) (of_k y);
}

pub both_true : (a b : Bool) → IsTrue (a && b) → IsTrue a × IsTrue b
both_true true b h = (refl, h)
both_true false b h = absurd cc

pub both-lawful : {Q K : Type 0} {names also : Q → K → Bool} {eq also_eq : K → K → Bool} {query_input then_query : Q
    → List (List ℕ)} {key_input then_key : K → List (List ℕ)}
    → IsLookup names eq query_input key_input → IsLookup also also_eq then_query then_key
    → IsLookup (λ q k. names q k && also q k) (λ x y. eq x y && also_eq x y) (λ q. query_input q ++ then_query q)
    (λ k. key_input k ++ then_key k)
both-lawful {names} {also} first second = record {
  writes = λ q k named.
      let both = both_true (names q k) (also q k) named in
      let front = first.writes q k both.0 in
      let back = second.writes q k both.1 in
      cc;
  one = λ q x y named.
      let both = both_true (names q x) (also q x) named in
      let front = first.one q x y both.0 in
      let back = second.one q x y both.1 in
      cc;
}
