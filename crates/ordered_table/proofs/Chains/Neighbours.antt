use Rattle.std.proofs.Common.{◌≡◌, ◌≢◌, ℕ, cond, List, [], ◌∷◌, map, Option, Some, None, inl, inr, refl, ap, sym, ◌∙◌}
use Rattle.std.proofs.Common.{subst, eq-eqb, ne_eqb}
use Rattle.std.specs.Prelude.{Contains, AllPairs, nat_eq, option_map}
use Rattle.std.proofs.lemmas.Bool.{cases_eq}
use Rattle.std.proofs.lemmas.Option.{none-some, same_Some}
use Rattle.lru_model.specs.Lists.{first as first_bucket, last as last_bucket}
use Rattle.ordered_table.specs.OrderedTable.{bucket_after, bucket_before}
use Rattle.ordered_table.specs.OrderedTable.{without_bucket}
use Rattle.lru_model.proofs.PairLists.Members.{Contains-cases, Contains-here, Contains-later, Contains-nil}
use Rattle.ordered_table.proofs.Chains.Orders.{other_than}
use Rattle.ordered_table.proofs.Chains.Orders.{distinct_head, distinct_tail, distinct_cons, before_from, last_from}
use Rattle.ordered_table.proofs.Chains.Orders.{before_from-in, before_from-some, before_is, last_is, before_first}
use Rattle.ordered_table.proofs.Chains.Orders.{before_not_first, after_in, without-absent, distinct_without}

absent_after : (b c : ℕ) (cs : List ℕ) → AllPairs ◌≢◌ (c ∷ cs) → c ≡ b → Contains cs b → ⊥
absent_after b c cs d h w = distinct_head c cs d (subst (Contains cs) (sym h) w)

module _ (b x : ℕ) (other : x ≢ b) where
  before_from-next : (prev : Option ℕ) (order : List ℕ) → AllPairs ◌≢◌ order → bucket_after b order ≡ Some x
      → before_from prev x (without_bucket b order) ≡ before_from prev b order
  before_from-next prev [] d e = absurd (none-some x e)
  before_from-next prev (c ∷ cs) d e = elim (cases_eq c b) [
    | inl h ↦
        let e' : first_bucket cs ≡ Some x = rw (eq-eqb c b h) at e in
        rw (eq-eqb c b h) (rw (without-absent b cs (absent_after b c cs d h)) (before_first prev x cs e'))
    | inr h ↦
        let e' : bucket_after b cs ≡ Some x = rw (ne_eqb c b h) at e in
        let apart : c ≢ x = λ k. distinct_head c cs d (subst (Contains cs) (sym k) (after_in b x cs e')) in
        rw (ne_eqb c b h) (rw (ne_eqb c x apart) (before_from-next (Some c) cs (distinct_tail c cs d) e'))
  ]

  before_from-stays : (prev : Option ℕ) (order : List ℕ) → AllPairs ◌≢◌ order → (bucket_after b order ≡ Some x → ⊥)
      → before_from prev x (without_bucket b order) ≡ before_from prev x order
  before_from-stays prev [] d p = refl
  before_from-stays prev (c ∷ cs) d p = elim (cases_eq c b) [
    | inl h ↦
        let p' : first_bucket cs ≡ Some x → ⊥ = rw (eq-eqb c b h) at p in
        rw (eq-eqb c b h) (rw (without-absent b cs (absent_after b c cs d h), ne_eqb c x (λ k. other (sym k ∙ h)))
        (before_not_first prev (Some c) x cs p'))
    | inr h ↦
        let p' : bucket_after b cs ≡ Some x → ⊥ = rw (ne_eqb c b h) at p in
        rw (ne_eqb c b h) (ap (λ t. cond (nat_eq c x) prev t) (before_from-stays (Some c) cs (distinct_tail c cs d) p'))
  ]

  first_after : (cs : List ℕ) → AllPairs ◌≢◌ cs → (Contains cs x → ⊥) → before_from (Some x) b cs ≡ Some x
      → first_bucket (without_bucket b cs) ≡ bucket_after b cs
  first_after [] d absent e = absurd (none-some x e)
  first_after (c ∷ cs) d absent e = elim (cases_eq c b) [
    | inl h ↦ rw (eq-eqb c b h) (ap first_bucket (without-absent b cs (absent_after b c cs d h)))
    | inr h ↦
        let e' : before_from (Some c) b cs ≡ Some x = rw (ne_eqb c b h) at e in
        absurd (elim (before_from-in (Some c) b x cs e') [
          | inl k ↦ absent (subst (Contains (c ∷ cs)) (same_Some c x k) (Contains-here c cs))
          | inr k ↦ absent (Contains-later c x cs k)
        ])
  ]

  first_stays : (c : ℕ) (cs : List ℕ) → (before_from (Some x) b cs ≡ Some x → ⊥) → first_bucket (without_bucket b cs)
      ≡ first_bucket cs
  first_stays c [] p = refl
  first_stays c (d ∷ ds) p = elim (cases_eq d b) [
    | inl h ↦ absurd (p (rw (eq-eqb d b h) refl))
    | inr h ↦ rw (ne_eqb d b h) refl
  ]

  after-previous_from : (prev : Option ℕ) (order : List ℕ) → AllPairs ◌≢◌ order → (prev ≡ Some x → ⊥)
      → before_from prev b order ≡ Some x
      → bucket_after x (without_bucket b order) ≡ bucket_after b order
  after-previous_from prev [] d p e = absurd (none-some x e)
  after-previous_from prev (c ∷ cs) d p e = elim (cases_eq c b) [
    | inl h ↦ absurd (p (rw (eq-eqb c b h) at e))
    | inr h ↦
        let e' : before_from (Some c) b cs ≡ Some x = rw (ne_eqb c b h) at e in
        elim (cases_eq c x) [
          | inl k ↦
              let absent : Contains cs x → ⊥ = λ w. distinct_head c cs d (subst (Contains cs) (sym k) w) in
              rw (ne_eqb c b h) (rw (eq-eqb c x k)
              (first_after cs (distinct_tail c cs d) absent (subst (λ y. before_from (Some y) b cs ≡ Some x) k e')))
          | inr k ↦ rw (ne_eqb c b h)
              (rw (ne_eqb c x k) (after-previous_from (Some c) cs (distinct_tail c cs d) (λ q. k (same_Some c x q)) e'))
        ]
  ]

  after-stays_from : (prev : Option ℕ) (order : List ℕ) → AllPairs ◌≢◌ order → (before_from prev b order ≡ Some x → ⊥)
      → bucket_after x (without_bucket b order) ≡ bucket_after x order
  after-stays_from prev [] d p = refl
  after-stays_from prev (c ∷ cs) d p = elim (cases_eq c b) [
    | inl h ↦ rw (eq-eqb c b h)
        (rw (ne_eqb c x (λ k. other (sym k ∙ h)), without-absent b cs (absent_after b c cs d h)) refl)
    | inr h ↦
        let p' : before_from (Some c) b cs ≡ Some x → ⊥ = rw (ne_eqb c b h) at p in
        elim (cases_eq c x) [
          | inl k ↦ rw (ne_eqb c b h)
              (rw (eq-eqb c x k) (first_stays c cs
              (λ q. p' (subst (λ y. before_from (Some y) b cs ≡ Some x) (sym k) q))))
          | inr k ↦ rw (ne_eqb c b h) (rw (ne_eqb c x k) (after-stays_from (Some c) cs (distinct_tail c cs d) p'))
        ]
  ]

  module _ (order : List ℕ) (d : AllPairs ◌≢◌ order) where
    pub before-next : bucket_after b order ≡ Some x → bucket_before x (without_bucket b order) ≡ bucket_before b order
    before-next e = before_is x (without_bucket b order) (distinct_without b order d) ∙ before_from-next None order d e
        ∙ sym (before_is b order d)

    pub before-stays : (bucket_after b order ≡ Some x → ⊥) → bucket_before x (without_bucket b order)
        ≡ bucket_before x order
    before-stays p = before_is x (without_bucket b order) (distinct_without b order d)
        ∙ before_from-stays None order d p ∙ sym (before_is x order d)

    pub after-previous : bucket_before b order ≡ Some x → bucket_after x (without_bucket b order) ≡ bucket_after b order
    after-previous e = after-previous_from None order d (none-some x) (sym (before_is b order d) ∙ e)

    pub after-stays : (bucket_before b order ≡ Some x → ⊥) → bucket_after x (without_bucket b order)
        ≡ bucket_after x order
    after-stays p = after-stays_from None order d (λ e. p (before_is b order d ∙ e))

last_from-left : (prev : Option ℕ) (b : ℕ) (order : List ℕ) → AllPairs ◌≢◌ order → Contains order b
    → bucket_after b order ≡ None → last_from prev (without_bucket b order) ≡ before_from prev b order
last_from-left prev b [] d there e = absurd (Contains-nil b there)
last_from-left prev b (c ∷ []) d there e = elim (cases_eq c b) [
  | inl h ↦ rw (eq-eqb c b h) refl
  | inr h ↦ elim (Contains-cases c b [] there) [ inl k ↦ absurd (h k) | inr k ↦ absurd (Contains-nil b k) ]
]
last_from-left prev b (c ∷ n ∷ ns) d there e = elim (cases_eq c b) [
  | inl h ↦ absurd (none-some n (sym (rw (eq-eqb c b h) at e)))
  | inr h ↦
      let e' : bucket_after b (n ∷ ns) ≡ None = rw (ne_eqb c b h) at e in
      elim (Contains-cases c b (n ∷ ns) there) [
        | inl k ↦ absurd (h k)
        | inr k ↦ rw (ne_eqb c b h) (last_from-left (Some c) b (n ∷ ns) (distinct_tail c (n ∷ ns) d) k e')
      ]
]

last_from-stays : (prev : Option ℕ) (b y : ℕ) (order : List ℕ) → AllPairs ◌≢◌ order → bucket_after b order ≡ Some y
    → last_from prev (without_bucket b order) ≡ last_from prev order
last_from-stays prev b y [] d e = absurd (none-some y e)
last_from-stays prev b y (c ∷ []) d e = elim (cases_eq c b) [
  | inl h ↦ absurd (none-some y (rw (eq-eqb c b h) at e))
  | inr h ↦ absurd (none-some y (rw (ne_eqb c b h) at e))
]
last_from-stays prev b y (c ∷ n ∷ ns) d e = elim (cases_eq c b) [
  | inl h ↦ rw (eq-eqb c b h) (ap (last_from prev) (without-absent b (n ∷ ns) (absent_after b c (n ∷ ns) d h)))
  | inr h ↦
      let e' : bucket_after b (n ∷ ns) ≡ Some y = rw (ne_eqb c b h) at e in
      rw (ne_eqb c b h) (last_from-stays (Some c) b y (n ∷ ns) (distinct_tail c (n ∷ ns) d) e')
]

module _ (b : ℕ) where
  first_from-left : (order : List ℕ) → AllPairs ◌≢◌ order → Contains order b → before_from None b order ≡ None
      → first_bucket (without_bucket b order) ≡ bucket_after b order
  first_from-left [] d there e = absurd (Contains-nil b there)
  first_from-left (c ∷ cs) d there e = elim (cases_eq c b) [
    | inl h ↦ rw (eq-eqb c b h) (ap first_bucket (without-absent b cs (absent_after b c cs d h)))
    | inr h ↦
        let e' : before_from (Some c) b cs ≡ None = rw (ne_eqb c b h) at e in
        elim (Contains-cases c b cs there) [ inl k ↦ absurd (h k) | inr k ↦ absurd (before_from-some c b cs k e') ]
  ]

  first_from-stays : (y : ℕ) (order : List ℕ) → before_from None b order ≡ Some y
      → first_bucket (without_bucket b order) ≡ first_bucket order
  first_from-stays y [] e = absurd (none-some y e)
  first_from-stays y (c ∷ cs) e = elim (cases_eq c b) [
    | inl h ↦ absurd (none-some y (rw (eq-eqb c b h) at e))
    | inr h ↦ rw (ne_eqb c b h) refl
  ]

  module _ (order : List ℕ) (d : AllPairs ◌≢◌ order) (there : Contains order b) where
    pub first-left : bucket_before b order ≡ None → first_bucket (without_bucket b order) ≡ bucket_after b order
    first-left e = first_from-left order d there (sym (before_is b order d) ∙ e)

    pub first-left_stays : (y : ℕ) → bucket_before b order ≡ Some y → first_bucket (without_bucket b order)
        ≡ first_bucket order
    first-left_stays y e = first_from-stays y order (sym (before_is b order d) ∙ e)

    pub last-left : bucket_after b order ≡ None → last_bucket (without_bucket b order) ≡ bucket_before b order
    last-left e = last_is (without_bucket b order) ∙ last_from-left None b order d there e ∙ sym (before_is b order d)

    pub last-left_stays : (y : ℕ) → bucket_after b order ≡ Some y → last_bucket (without_bucket b order)
        ≡ last_bucket order
    last-left_stays y e = last_is (without_bucket b order) ∙ last_from-stays None b y order d e ∙ sym (last_is order)

module _ (b : ℕ) (order : List ℕ) (absent : Contains order b → ⊥) (d : AllPairs ◌≢◌ order) where
  pub before-itself : bucket_before b (b ∷ order) ≡ None
  before-itself = before_is b (b ∷ order) (distinct_cons b order absent d) ∙ rw (eq-eqb b b refl) refl

  pub after-itself : bucket_after b (b ∷ order) ≡ first_bucket order
  after-itself = rw (eq-eqb b b refl) refl

  module _ (x : ℕ) (there : Contains order x) where
    apart : b ≢ x
    apart e = other_than b order absent x there (sym e)

    pub before-first : first_bucket order ≡ Some x → bucket_before x (b ∷ order) ≡ Some b
    before-first e = before_is x (b ∷ order) (distinct_cons b order absent d)
        ∙ rw (ne_eqb b x apart) (before_first (Some b) x order e)

    pub before-later : (first_bucket order ≡ Some x → ⊥) → bucket_before x (b ∷ order) ≡ bucket_before x order
    before-later p = before_is x (b ∷ order) (distinct_cons b order absent d)
        ∙ rw (ne_eqb b x apart) (before_not_first (Some b) None x order p) ∙ sym (before_is x order d)

    pub after-later : bucket_after x (b ∷ order) ≡ bucket_after x order
    after-later = rw (ne_eqb b x apart) refl

module _ (m : ℕ → ℕ) where
  pub first-moved : (order : List ℕ) → first_bucket (map m order) ≡ option_map m (first_bucket order)
  first-moved [] = refl
  first-moved (c ∷ cs) = refl

  pub last-moved : (order : List ℕ) → last_bucket (map m order) ≡ option_map m (last_bucket order)
  last-moved [] = refl
  last-moved (c ∷ []) = refl
  last-moved (c ∷ d ∷ ds) = last-moved (d ∷ ds)

  pub Contains-moved : (x : ℕ) (order : List ℕ) → Contains (map m order) x → (b : ℕ) × Contains order b × (m b ≡ x)
  Contains-moved x [] w = absurd (Contains-nil x w)
  Contains-moved x (c ∷ cs) w = elim (Contains-cases (m c) x (map m cs) w) [
    | inl k ↦ (c, Contains-here c cs, k)
    | inr k ↦ let r = Contains-moved x cs k in (r.0, Contains-later c r.0 cs r.1, r.2)
  ]

  pub moved_in : (b : ℕ) (order : List ℕ) → Contains order b → Contains (map m order) (m b)
  moved_in b [] w = absurd (Contains-nil b w)
  moved_in b (c ∷ cs) w = elim (Contains-cases c b cs w) [
    | inl k ↦ subst (λ y. Contains (m c ∷ map m cs) (m y)) k (Contains-here (m c) (map m cs))
    | inr k ↦ Contains-later (m c) (m b) (map m cs) (moved_in b cs k)
  ]

  abbrev pub MovesApart : List ℕ → Type 0
  MovesApart order = (b c : ℕ) → Contains order b → Contains order c → m b ≡ m c → b ≡ c

  apart_tail : (c : ℕ) (cs : List ℕ) → MovesApart (c ∷ cs) → MovesApart cs
  apart_tail c cs apart x y v w e = apart x y (Contains-later c x cs v) (Contains-later c y cs w) e

  pub distinct-moved : (order : List ℕ) → MovesApart order → AllPairs ◌≢◌ order → AllPairs ◌≢◌ (map m order)
  distinct-moved [] moves d = d
  distinct-moved (c ∷ cs) moves d = distinct_cons (m c) (map m cs)
      (λ w.
      let r = Contains-moved (m c) cs w in
      distinct_head c cs d
      (subst (Contains cs) (moves r.0 c (Contains-later c r.0 cs r.1) (Contains-here c cs) r.2) r.1))
      (distinct-moved cs (apart_tail c cs moves) (distinct_tail c cs d))

  after-moved_apart : (b : ℕ) (order : List ℕ) → ((c : ℕ) → Contains order c → m c ≡ m b → c ≡ b)
      → bucket_after (m b) (map m order) ≡ option_map m (bucket_after b order)
  after-moved_apart b [] apart = refl
  after-moved_apart b (c ∷ cs) apart = elim (cases_eq c b) [
    | inl h ↦ rw (eq-eqb c b h, eq-eqb (m c) (m b) (ap m h)) (first-moved cs)
    | inr h ↦ rw (ne_eqb c b h, ne_eqb (m c) (m b) (λ e. h (apart c (Contains-here c cs) e)))
        (after-moved_apart b cs (λ x w e. apart x (Contains-later c x cs w) e))
  ]

  before_from-moved : (prev : Option ℕ) (b : ℕ) (order : List ℕ) → ((c : ℕ) → Contains order c → m c ≡ m b → c ≡ b)
      → before_from (option_map m prev) (m b) (map m order) ≡ option_map m (before_from prev b order)
  before_from-moved prev b [] apart = refl
  before_from-moved prev b (c ∷ cs) apart = elim (cases_eq c b) [
    | inl h ↦ rw (eq-eqb c b h, eq-eqb (m c) (m b) (ap m h)) refl
    | inr h ↦ rw (ne_eqb c b h, ne_eqb (m c) (m b) (λ e. h (apart c (Contains-here c cs) e)))
        (before_from-moved (Some c) b cs (λ x w e. apart x (Contains-later c x cs w) e))
  ]

  module _ (order : List ℕ) (apart : MovesApart order) (d : AllPairs ◌≢◌ order) (b : ℕ) (there : Contains order b) where
    pub after-moved : bucket_after (m b) (map m order) ≡ option_map m (bucket_after b order)
    after-moved = after-moved_apart b order (λ c w e. apart c b w there e)

    pub before-moved : bucket_before (m b) (map m order) ≡ option_map m (bucket_before b order)
    before-moved = before_is (m b) (map m order) (distinct-moved order apart d)
        ∙ before_from-moved None b order (λ c w e. apart c b w there e) ∙ ap (option_map m) (sym (before_is b order d))

pub newest_again : (b : ℕ) (order : List ℕ) → AllPairs ◌≢◌ order → Contains order b → bucket_before b order ≡ None
    → order ≡ b ∷ without_bucket b order
newest_again b [] d there e = absurd (Contains-nil b there)
newest_again b (c ∷ cs) d there e = elim (cases_eq c b) [
  | inl h ↦ rw (eq-eqb c b h) (rw (without-absent b cs (absent_after b c cs d h), h) refl)
  | inr h ↦
      let e' : before_from (Some c) b cs ≡ None = rw (ne_eqb c b h) at (sym (before_is b (c ∷ cs) d) ∙ e) in
      elim (Contains-cases c b cs there) [ inl k ↦ absurd (h k) | inr k ↦ absurd (before_from-some c b cs k e') ]
]
