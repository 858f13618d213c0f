use Rattle.std.proofs.Common.{◌≡◌, ◌≢◌, ℕ, suc, ◌+◌, ◌≤◌, ◌<◌, Bool, true, false, cond, List, ◌∷◌, length, take}
use Rattle.std.proofs.Common.{drop, get_or, set, refl, sym, ap, ◌∙◌, arith, inl, inr, ◌⊎◌}
use Rattle.std.proofs.Math.Seq.{drop-cons}
use Rattle.std.proofs.lemmas.List.{drop-set, length-set}
use Rattle.std.proofs.lemmas.List.{get_or-set_other}
use Rattle.std.proofs.lemmas.List.Elements.{All-get_or, All-more}
use Rattle.std.proofs.lemmas.Bool.{le-ltb, cases_lt}
use Rattle.std.proofs.lemmas.Bool.Decides.{eqb_tells}
use Rattle.std.proofs.lemmas.Grind.{get_or-set_at}
use Rattle.std.specs.Cmp.{nat_cmp_is}
use Rattle.std.specs.List.{All}
use Rattle.std.specs.Ordering.{nat_cmp, is_lt, ord_max}
use Rattle.std.specs.declared.cmp.Ordering.TheVariants.{Less, Equal, Greater}
use Rattle.std.specs.Prelude.{◌==◌, nat_eq}
use Rattle.lru_theory.specs.Best.{until}
use Rattle.lru_trace.specs.Times.{next_times}

-- What is known about the references from time `now` on. `nexts` has, for each reference, the time of the next
-- reference to its key. `seen` has, for each key, the time of its first reference. If there is none, both have the time
-- at which the trace ends.
pub record Seen (numbers nexts seen : List ℕ) (bound now : ℕ) : Type 0 where
  pub size : length nexts ≡ length numbers
  pub keys : length seen ≡ bound
  pub known : drop now nexts ≡ next_times nat_eq now (drop now numbers)
  pub first : (key : ℕ) → key < bound → get_or seen key 0 ≡ now + until nat_eq key (drop now numbers)

module _ (numbers : List ℕ) (bound : ℕ) where
  pub sees : (nexts seen : List ℕ) (now : ℕ) → now < length numbers → All (λ n. n < bound) numbers
      → Seen numbers nexts seen bound (suc now)
      → let key = get_or numbers now 0 in
      Seen numbers (set nexts now (get_or seen key 0)) (set seen key now) bound now
  sees nexts seen now h small so_far =
      let key = get_or numbers now 0 in
      let rest = drop (suc now) numbers in
      let is : drop now numbers ≡ key ∷ rest = drop-cons numbers now 0 h in
      let within = All-get_or (λ n. n < bound) numbers now 0 h small in
      let next = so_far.first key within in
      record {
        size = length-set nexts now (get_or seen key 0) ∙ so_far.size;
        keys = length-set seen key now ∙ so_far.keys;
        known = drop-set nexts now (get_or seen key 0) (omega (arith, h, so_far.size))
            ∙ ap (λ i. get_or seen key 0 ∷ drop i nexts) one_more ∙ (λ j. next j ∷ so_far.known j) ∙ sym (ap (next_times nat_eq now) is);
        first = λ other small. go key is within other small (eqb_tells other key);
      }
    where
      one_more : now + 1 ≡ suc now
      one_more = omega arith

      go : (key : ℕ) → drop now numbers ≡ key ∷ drop (suc now) numbers → key < bound → (other : ℕ) → other < bound
          → ((nat_eq other key ≡ true) × (other ≡ key)) ⊎ ((nat_eq other key ≡ false) × (other ≢ key))
          → get_or (set seen key now) other 0 ≡ now + until nat_eq other (drop now numbers)
      go key is within other small (inl (e, same)) =
          let wait = ap (until nat_eq other) is ∙ ap (λ b. cond {A = ℕ} b 0 (suc (until nat_eq other (drop (suc now) numbers)))) e in
          omega (arith, wait, get_or-set_at seen key other now 0 same (omega (arith, within, so_far.keys)))
      go key is within other small (inr (e, apart)) =
          let wait = ap (until nat_eq other) is ∙ ap (λ b. cond {A = ℕ} b 0 (suc (until nat_eq other (drop (suc now) numbers)))) e in
          omega (arith, wait, get_or-set_other seen key other now 0 apart, so_far.first other small)

pub at_least : (a b : ℕ) → (a ≤ ord_max nat_cmp a b) × (b ≤ ord_max nat_cmp a b)
at_least a b = go (cases_lt b a)
  where
    not_less : (t : Bool) → cond (is_lt (cond t Equal Greater)) a b ≡ b
    not_less true = refl
    not_less false = refl

    go : (b < a) ⊎ (a ≤ b) → (a ≤ ord_max nat_cmp a b) × (b ≤ ord_max nat_cmp a b)
    go (inl h) =
        let is : ord_max nat_cmp a b ≡ a = ap (λ o. cond (is_lt o) a b) (sym (nat_cmp_is b a Less h)) in
        (omega (arith, is), omega (arith, is, h))
    go (inr h) =
        let is : ord_max nat_cmp a b ≡ b =
        ap (λ t. cond (is_lt (cond t Less (cond (b == a) Equal Greater))) a b) (le-ltb b a h) ∙ not_less (b == a) in
        (omega (arith, is, h), omega (arith, is))

pub bounded_more : (numbers : List ℕ) (i was bound : ℕ) → i < length numbers → All (λ n. n < was) (take i numbers)
    → was ≤ bound → get_or numbers i 0 < bound → All (λ n. n < bound) (take (i + 1) numbers)
bounded_more numbers i was bound h all more small = All-more (λ n. n < bound) numbers i 0 h
    (λ k d within. omega (arith, all k d within, more)) small
