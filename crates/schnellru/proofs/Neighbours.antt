use Rattle.std.proofs.Common.{◌≡◌, ◌≢◌, ◌+◌, ℕ, zero, suc, Bool, Option, length, Some, None, refl, sym, ap, ◌∙◌, arith}
use Rattle.std.specs.Prelude.{slice_get, position}
use Rattle.std.specs.Option.{option_and_then}
use Rattle.std.proofs.lemmas.Option.{none-some, same_Some, slice_get_past, slice_get_within}
use Rattle.group_table.specs.Bucket.{IsFull, entry_at}
use Rattle.lru_model.specs.Lists.{place_of, last_of, next_older, next_newer}
use Rattle.lru_model.specs.Lists.{first as first_bucket, last as last_bucket}
use Rattle.lru_model.proofs.PairLists.Positions.{placed}
use Rattle.ordered_table.specs.OrderedTable.{OrderedTable, IsLinked, pairs_of, bucket_after, bucket_before}
use Rattle.ordered_table.proofs.Tables.BucketPairs.{all_full, pairs-length}
use Rattle.ordered_table.proofs.Tables.Places.{after_at, before_at, first_at, last_at, got_in, get_none, pair_at, same_position}

module _ {K V : Type 0} (names : K → Bool) (t : OrderedTable K V) (linked : IsLinked t) (b : ℕ)
    (found : place_of names (pairs_of t) t.order ≡ Some b) where
  abbrev i : ℕ
  i = (placed names b (pairs_of t) t.order found).0

  there : slice_get t.order i ≡ Some b
  there = (placed names b (pairs_of t) t.order found).2

  at_next : {X : Type 0} (f : ℕ → Option X) → option_and_then f (position (λ pair. names pair.0) (pairs_of t)) ≡ f i
  at_next f = ap (option_and_then f) (placed names b (pairs_of t) t.order found).1

  at_end : (n : ℕ) → last_of n t.order ≡ Some b → n ≡ i + 1
  at_end zero e = absurd (none-some b e)
  at_end (suc n) e = omega (arith, same_position t.order n i b linked.distinct e there)

  pub oldest_has_none : last_bucket t.order ≡ Some b → next_older names (pairs_of t) ≡ None
  oldest_has_none last =
      let end = at_end (length t.order) (sym (last_at t.order) ∙ last) in
      at_next (λ n. slice_get (pairs_of t) (n + 1))
      ∙ slice_get_past (pairs_of t) (i + 1) (omega (arith, end, pairs-length t linked))

  pub older_there : (o : ℕ) → last_bucket t.order ≡ Some o → b ≢ o
      → (c : ℕ) × (bucket_after b t.order ≡ Some c) × IsFull t.slots c
  older_there o last other = go (slice_get t.order (suc i)) refl
    where
      go : (c : Option ℕ) → slice_get t.order (suc i) ≡ c
          → (c : ℕ) × (bucket_after b t.order ≡ Some c) × IsFull t.slots c
      go (Some c) e = (c, after_at t.order i b linked.distinct there ∙ e, linked.only c (got_in t.order (suc i) c e))
      go None e =
          let end : length t.order ≡ suc i =
          omega (arith, get_none t.order (suc i) e, slice_get_within t.order i b there) in
          absurd (other (same_Some b o (sym there ∙ ap (λ n. last_of n t.order) (sym end) ∙ sym (last_at t.order) ∙ last)))

  pub older_is : (c : ℕ) (pair : K × V) → bucket_after b t.order ≡ Some c → entry_at t.slots c ≡ Some pair
      → next_older names (pairs_of t) ≡ Some pair
  older_is c pair next is =
      at_next (λ n. slice_get (pairs_of t) (n + 1))
      ∙ ap (slice_get (pairs_of t)) (omega arith)
      ∙ pair_at t.slots t.order (suc i) c pair (all_full t.slots t.order linked.only)
      (sym (after_at t.order i b linked.distinct there) ∙ next) is

  pub newest_has_none : first_bucket t.order ≡ Some b → next_newer names (pairs_of t) ≡ None
  newest_has_none first =
      let zeroth = same_position t.order i 0 b linked.distinct there (sym (first_at t.order) ∙ first) in
      at_next (λ n. last_of n (pairs_of t)) ∙ ap (λ n. last_of n (pairs_of t)) zeroth

  pub newer_there : (o : ℕ) → first_bucket t.order ≡ Some o → b ≢ o
      → (c : ℕ) × (bucket_before b t.order ≡ Some c) × IsFull t.slots c
  newer_there o first other = go i there (before_at t.order i b linked.distinct there)
    where
      go : (n : ℕ) → slice_get t.order n ≡ Some b → bucket_before b t.order ≡ last_of n t.order
          → (c : ℕ) × (bucket_before b t.order ≡ Some c) × IsFull t.slots c
      go zero at before = absurd (other (same_Some b o (sym at ∙ sym (first_at t.order) ∙ first)))
      go (suc n) at before = some (slice_get t.order n) refl
        where
          some : (c : Option ℕ) → slice_get t.order n ≡ c
              → (c : ℕ) × (bucket_before b t.order ≡ Some c) × IsFull t.slots c
          some (Some c) e = (c, before ∙ e, linked.only c (got_in t.order n c e))
          some None e = absurd (omega (arith, get_none t.order n e, slice_get_within t.order (suc n) b at))

  pub newer_is : (c : ℕ) (pair : K × V) → bucket_before b t.order ≡ Some c → entry_at t.slots c ≡ Some pair
      → next_newer names (pairs_of t) ≡ Some pair
  newer_is c pair next is = at_next (λ n. last_of n (pairs_of t)) ∙ go i (sym (before_at t.order i b linked.distinct there) ∙ next)
    where
      go : (n : ℕ) → last_of n t.order ≡ Some c → last_of n (pairs_of t) ≡ Some pair
      go zero e = absurd (none-some c e)
      go (suc n) e = pair_at t.slots t.order n c pair (all_full t.slots t.order linked.only) e is
