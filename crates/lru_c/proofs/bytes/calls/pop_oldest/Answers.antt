use Rattle.std.proofs.Common.{◌≡◌, ℕ, Bool, true, length, refl, sym, ap, ◌∙◌, rules, Option, None, Some}
use Rattle.std.specs.Prelude.{◌&&◌, option_map, unwrap_or, nat_le}
use Rattle.lru_limits.specs.Budget.{Budget}
use Rattle.lru_model.specs.Calls.{left_of}
use Rattle.lru_model.specs.Lists.{last}
use Rattle.lru_c.specs.Bytes.{Bytes, bytes_rules, lengths_of}
use Rattle.lru_c.specs.Bytes.Pops.{too_long, removed}
use Rattle.lru_c.specs.declared.bytes.answers.Popped.{Popped}
use Rattle.lru_c.proofs.bytes.calls.pop_oldest.Goals as goal

abbrev lengths : Bytes × Bytes → ℕ × ℕ
lengths pair = (length pair.0.items, length pair.1.items)

record HasLengths (pair : Bytes × Bytes) (k v : ℕ) : Type 0 where
  pub key : k ≡ length pair.0.items
  pub value : v ≡ length pair.1.items

its_lengths : (pair : Bytes × Bytes) (k v : ℕ) → Some (k, v) ≡ Some (lengths pair) → HasLengths pair k v
its_lengths pair k v told = record {
  key = ap (λ (l : Option (ℕ × ℕ)). (unwrap_or l (k, v)).0) told;
  value = ap (λ (l : Option (ℕ × ℕ)). (unwrap_or l (k, v)).1) told;
}

have_lengths : (o : Option (Bytes × Bytes)) (k v : ℕ) → Some (k, v) ≡ option_map lengths o
    → (pair : Bytes × Bytes) × (o ≡ Some pair) × HasLengths pair k v
have_lengths None k v told = cc
have_lengths (Some pair) k v told = (pair, refl, its_lengths pair k v told)

left_as_is : (limiter : Budget) (o : Option (Bytes × Bytes)) → left_of bytes_rules limiter o ≡ o
left_as_is limiter None = refl
left_as_is limiter (Some pair) = refl

abbrev popped : ℕ → ℕ → Bool → Popped
popped k v was = record { key_len = k; value_len = v; found = true; removed = was }

answered : (pair : Bytes × Bytes) (k v : ℕ) (was is : Bool) → HasLengths pair k v → was ≡ is
    → popped k v was ≡ lengths_of pair is
answered pair k v was is has same =
    λ i. popped (has.key i) (has.value i) (same i)

fit : (pair : Bytes × Bytes) (k v key value : ℕ) (is : Bool) → HasLengths pair k v
    → is ≡ (nat_le k key && nat_le v value)
    → (nat_le (length pair.0.items) key && nat_le (length pair.1.items) value) ≡ is
fit pair k v key value is has told = (λ i. nat_le (sym has.key i) key && nat_le (sym has.value i) value) ∙ sym told

pub returns-in-Some-pop_oldest : goal.returns-in-Some-pop_oldest
returns-in-Some-pop_oldest c =
    let own : Bytes × Bytes = (c.in-Some-pop_oldest.own_key, c.in-Some-pop_oldest.own_value) in
    let step = c.pop_oldest.ensures.step in
    let popped_is = sym c.in-Some-pop_oldest.is ∙ step.pair
    ∙ left_as_is c.args.map.now.limiter (last c.args.map.now.pairs) in
    let has = its_lengths own c.in-Some.key_len c.in-Some.value_len
    (sym c.in-Some.is ∙ c.oldest_lengths.ensures ∙ ap (option_map lengths) (sym popped_is)) in
    removed own (sym popped_is) (fit own _ _ _ _ _ has c.both_fit-removed.ensures ∙ c.if-removed.true)
    (answered own _ _ _ _ has c.if-removed.true) (search rules) (search rules)
    (rw c.in-Some-pop_oldest.is at step)

pub returns-else-removed : goal.returns-else-removed
returns-else-removed c =
    let (pair, oldest, has) = have_lengths _ c.in-Some.key_len c.in-Some.value_len
    (sym c.in-Some.is ∙ c.oldest_lengths.ensures) in
    too_long pair oldest (fit pair _ _ _ _ _ has c.both_fit-removed.ensures ∙ c.if-removed.false)
    (answered pair _ _ _ _ has c.if-removed.false) refl refl refl
