use Rattle.std.proofs.Common.{◌≡◌, ◌≢◌, ◌⊎◌, ℕ, zero, suc, List, [], ◌∷◌, slice_get, Option, Some, None}
use Rattle.std.proofs.Common.{inl, inr, refl, sym, ap, ◌∙◌, subst, arith}
use Rattle.std.specs.Prelude.{Contains, AllPairs, IfSome}
use Rattle.std.proofs.lemmas.Option.{none-some, same_Some, slice_get-get_or}
use Rattle.std.proofs.lemmas.Bool.{cases_eq}
use Rattle.group_table.specs.Bucket.{IsFull}
use Rattle.lru_model.specs.Lists.{first as first_bucket, last as last_bucket, last_of}
use Rattle.lru_model.proofs.PairLists.Members.{Contains-cases, Contains-here, Contains-later}
use Rattle.ordered_table.specs.OrderedTable.{OrderedTable, IsLinked, in_front, without_bucket, bucket_after, bucket_before}
use Rattle.ordered_table.proofs.Chains.Orders.{distinct_cons, distinct_without, in_without, without_in, length-without}
use Rattle.ordered_table.proofs.Chains.Orders.{after-last}
use Rattle.ordered_table.proofs.Chains.Neighbours.{before-next, before-stays, after-previous, after-stays}
use Rattle.ordered_table.proofs.Chains.Neighbours.{first-left, first-left_stays, last-left, last-left_stays}
use Rattle.ordered_table.proofs.Chains.Neighbours.{before-itself, after-itself, before-first, before-later, after-later}
use Rattle.ordered_table.proofs.Chains.Neighbours.{newest_again}
use Rattle.ordered_table.proofs.Chains.LastBuckets.{oldest_again, last-comes}
use Rattle.ordered_table.proofs.Tables.Places.{first_at, after_at, before_at}

pub linked_promoted : {K V : Type 0} (t : OrderedTable K V) (front : Option ℕ) → IsLinked t
    → IfSome front (IsFull t.slots) → IsLinked (record t { order = in_front front t.order })
linked_promoted t None linked full = linked
linked_promoted t (Some f) linked full = let there = linked.all f full in
    let absent : Contains (without_bucket f t.order) f → ⊥ = λ w. (without_in f f t.order w).1 refl in
    record {
      table = linked.table;
      distinct = distinct_cons f (without_bucket f t.order) absent (distinct_without f t.order linked.distinct);
      all = λ b w. elim (cases_eq f b) [
        | inl h ↦ subst (Contains (f ∷ without_bucket f t.order)) h (Contains-here f (without_bucket f t.order))
        | inr h ↦ Contains-later f b (without_bucket f t.order)
            (in_without f b t.order (linked.all b w) (λ e. h (sym e)))
      ];
      only = λ b w. elim (Contains-cases f b (without_bucket f t.order) w) [
        | inl h ↦ subst (IsFull t.slots) h full
        | inr h ↦ linked.only b (without_in f b t.order h).0
      ];
      count = linked.count ∙ omega (arith, length-without f t.order linked.distinct there);
    }

index_of : (order : List ℕ) (b : ℕ) → Contains order b → (i : ℕ) × (slice_get order i ≡ Some b)
index_of order b (i, within, is) = (i, slice_get-get_or order i b within ∙ ap Some is)

module _ (order : List ℕ) (d : AllPairs ◌≢◌ order) where
  before_of : (b c : ℕ) → Contains order b → bucket_after b order ≡ Some c → bucket_before c order ≡ Some b
  before_of b c there e = let (i, at) = index_of order b there in
      before_at order (suc i) c d (sym (after_at order i b d at) ∙ e) ∙ at

  after_of : (b c : ℕ) → Contains order c → bucket_before c order ≡ Some b → bucket_after b order ≡ Some c
  after_of b c there e = let (i, at) = index_of order c there in go i at (sym (before_at order i c d at) ∙ e)
    where
      go : (i : ℕ) → slice_get order i ≡ Some c → last_of i order ≡ Some b → bucket_after b order ≡ Some c
      go zero at none = absurd (none-some b none)
      go (suc i) at before = after_at order i b d before ∙ at

  before_first : (b : ℕ) → first_bucket order ≡ Some b → bucket_before b order ≡ None
  before_first b e = before_at order 0 b d (sym (first_at order) ∙ e)

is_first : (order : List ℕ) (b : ℕ) → AllPairs ◌≢◌ order → Contains order b → bucket_before b order ≡ None
    → first_bucket order ≡ Some b
is_first order b d there e = ap first_bucket (newest_again b order d there e)

is_last : (order : List ℕ) (b : ℕ) → AllPairs ◌≢◌ order → Contains order b → bucket_after b order ≡ None
    → last_bucket order ≡ Some b
is_last order b d there e = ap last_bucket (oldest_again b order d there e) ∙ last-comes b (without_bucket b order)

last_later : (f y : ℕ) (xs : List ℕ) → last_bucket xs ≡ Some y → last_bucket (f ∷ xs) ≡ Some y
last_later f y [] e = absurd (none-some y e)
last_later f y (x ∷ xs) e = e

none_or : (o : Option ℕ) → (o ≡ None) ⊎ ((y : ℕ) × (o ≡ Some y))
none_or None = inl refl
none_or (Some y) = inr (y, refl)

pub promoted_kept : {K V : Type 0} (t u : OrderedTable K V) (front : Option ℕ) → IsLinked t → IsLinked u
    → u.order ≡ t.order → IfSome front (IsFull t.slots) → IfSome front (IsFull u.slots)
promoted_kept t u None linked other same full = tt
promoted_kept t u (Some f) linked other same full =
    other.only f (subst (λ o. Contains o f) (sym same) (linked.all f full))

-- in the order with f in front, `next` is the bucket after b, if there is one
abbrev pub LeadsTo : List ℕ → ℕ → ℕ → ℕ → Type 0
LeadsTo order f b next = (b ≡ f → first_bucket order ≡ Some next)
    × (b ≢ f → (c : ℕ) → bucket_after b order ≡ Some c → next ≡ c)

module _ (order : List ℕ) (d : AllPairs ◌≢◌ order) (f : ℕ) (there : Contains order f) where
  abbrev rest : List ℕ
  rest = without_bucket f order

  absent : Contains rest f → ⊥
  absent w = (without_in f f order w).1 refl

  distinct : AllPairs ◌≢◌ rest
  distinct = distinct_without f order d

  first_rest : first_bucket order ≡ Some f → first_bucket rest ≡ bucket_after f order
  first_rest e = first-left f order d there (before_first order d f e)

  first_stays : (first_bucket order ≡ Some f → ⊥) → first_bucket rest ≡ first_bucket order
  first_stays other = elim (none_or (bucket_before f order)) [
    | inl none ↦ absurd (other (is_first order f d there none))
    | inr (y, e) ↦ first-left_stays f order d there y e
  ]

  pub oldest_kept : (b : ℕ) → last_bucket order ≡ Some b → f ≢ b → last_bucket (f ∷ rest) ≡ Some b
  oldest_kept b is apart = elim (none_or (bucket_after f order)) [
    | inl none ↦ absurd (apart (same_Some f b (sym (is_last order f d there none) ∙ is)))
    | inr (y, e) ↦ last_later f b rest (last-left_stays f order d there y e ∙ is)
  ]

  pub oldest_alone : last_bucket order ≡ Some f → first_bucket order ≡ Some f → last_bucket (f ∷ rest) ≡ Some f
  oldest_alone is e = ap last_bucket (sym (newest_again f order d there (before_first order d f e))) ∙ is

  pub oldest_past : last_bucket order ≡ Some f → (first_bucket order ≡ Some f → ⊥) → (past : ℕ)
      → ((c : ℕ) → bucket_before f order ≡ Some c → past ≡ c) → last_bucket (f ∷ rest) ≡ Some past
  oldest_past is other past leads = elim (none_or (bucket_before f order)) [
    | inl none ↦ absurd (other (is_first order f d there none))
    | inr (y, e) ↦ last_later f past rest
        (last-left f order d there (after-last f order d is) ∙ e ∙ ap Some (sym (leads y e)))
  ]

  module _ (b : ℕ) (in_order : Contains order b) where
    in_rest : b ≢ f → Contains rest b
    in_rest other = in_without f b order in_order other

    after_next : b ≢ f → bucket_after b order ≡ Some f → bucket_after f order ≡ bucket_after b (f ∷ rest)
    after_next other e = sym (after-later f rest absent distinct b (in_rest other)
        ∙ after-previous f b other order d (before_of order d b f in_order e))

    after_other : b ≢ f → (bucket_after b order ≡ Some f → ⊥) → bucket_after b order ≡ bucket_after b (f ∷ rest)
    after_other other p = sym (after-later f rest absent distinct b (in_rest other)
        ∙ after-stays f b other order d (λ e. p (after_of order d b f there e)))

    after_front : b ≡ f → (c : ℕ) → bucket_after b (f ∷ rest) ≡ Some c → first_bucket rest ≡ Some c
    after_front h c e = sym (after-itself f rest absent distinct)
        ∙ subst (λ x. bucket_after x (f ∷ rest) ≡ Some c) h e

    module _ (next : ℕ) (leads : LeadsTo order f b next) where
      pub front_skipped : next ≡ f → (past : ℕ) → ((c : ℕ) → bucket_after f order ≡ Some c → past ≡ c)
          → (c : ℕ) → bucket_after b (f ∷ rest) ≡ Some c → past ≡ c
      front_skipped same past is c e = elim (cases_eq b f) [
        | inl h ↦ is c (sym (first_rest (leads.0 h ∙ ap Some same)) ∙ after_front h c e)
        | inr h ↦ elim (none_or (bucket_after b order)) [
          | inl none ↦ absurd
              (none-some c (sym none ∙ after_other h (λ k. none-some f (sym none ∙ k)) ∙ e))
          | inr (n, some) ↦ is c (after_next h (some ∙ ap Some (sym (leads.1 h n some) ∙ same)) ∙ e)
        ]
      ]

      pub front_kept : next ≢ f → (c : ℕ) → bucket_after b (f ∷ rest) ≡ Some c → next ≡ c
      front_kept other c e = elim (cases_eq b f) [
        | inl h ↦
            let first = leads.0 h in
            let stays = first_stays (λ k. other (same_Some next f (sym first ∙ k))) in
            same_Some next c (sym (stays ∙ first) ∙ after_front h c e)
        | inr h ↦ leads.1 h c (after_other h (λ k. other (leads.1 h f k)) ∙ e)
      ]

    before_front : b ≡ f → (c : ℕ) → bucket_before b (f ∷ rest) ≡ Some c → ⊥
    before_front h c e = none-some c
        (sym (before-itself f rest absent distinct) ∙ subst (λ x. bucket_before x (f ∷ rest) ≡ Some c) h e)

    pub before_newest : first_bucket order ≡ Some b → (c : ℕ) → bucket_before b (f ∷ rest) ≡ Some c → f ≡ c
    before_newest first c e = elim (cases_eq b f) [
      | inl h ↦ absurd (before_front h c e)
      | inr h ↦
          let not_first : first_bucket order ≡ Some f → ⊥ = λ k. h (same_Some b f (sym first ∙ k)) in
          same_Some f c (sym (before-first f rest absent distinct b (in_rest h) (first_stays not_first ∙ first)) ∙ e)
    ]

    module _ (later : first_bucket order ≡ Some b → ⊥) (next : ℕ)
        (is : (c : ℕ) → bucket_before b order ≡ Some c → next ≡ c) where
      precedes : bucket_before b order ≡ Some next
      precedes = elim (none_or (bucket_before b order)) [
        | inl none ↦ absurd (later (is_first order b d in_order none))
        | inr (n, some) ↦ some ∙ ap Some (sym (is n some))
      ]

      pub before_past : next ≡ f → (first_bucket order ≡ Some f → ⊥) → (past : ℕ)
          → ((c : ℕ) → bucket_before f order ≡ Some c → past ≡ c)
          → (c : ℕ) → bucket_before b (f ∷ rest) ≡ Some c → past ≡ c
      before_past same other past leads c e = elim (cases_eq b f) [
        | inl h ↦ absurd (before_front h c e)
        | inr h ↦
            let follows = after_of order d f b in_order (precedes ∙ ap Some same) in
            let still_later : first_bucket rest ≡ Some b → ⊥ = λ k. later (sym (first_stays other) ∙ k) in
            leads c (sym (before-later f rest absent distinct b (in_rest h) still_later
            ∙ before-next f b h order d follows) ∙ e)
      ]

      pub before_kept : (next ≡ f → first_bucket order ≡ Some f) → (c : ℕ) → bucket_before b (f ∷ rest) ≡ Some c
          → next ≡ c
      before_kept front c e = elim (cases_eq b f) [
        | inl h ↦ absurd (before_front h c e)
        | inr h ↦ elim (cases_eq next f) [
          | inl same ↦
              let follows = after_of order d f b in_order (precedes ∙ ap Some same) in
              same ∙ same_Some f c
              (sym (before-first f rest absent distinct b (in_rest h) (first_rest (front same) ∙ follows)) ∙ e)
          | inr apart ↦
              let p : bucket_after f order ≡ Some b → ⊥ = λ k. apart
              (same_Some next f (sym precedes ∙ before_of order d f b there k)) in
              let still_later : first_bucket rest ≡ Some b → ⊥ = λ k. elim (none_or (bucket_before f order)) [
                | inl none ↦ p (sym (first-left f order d there none) ∙ k)
                | inr (y, some) ↦ later (sym (first-left_stays f order d there y some) ∙ k)
              ] in
              same_Some next c (sym (before-later f rest absent distinct b (in_rest h) still_later
              ∙ before-stays f b h order d p ∙ precedes) ∙ e)
        ]
      ]
