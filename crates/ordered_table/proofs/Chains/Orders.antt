use Rattle.std.proofs.Common.{◌≡◌, ◌≢◌, ℕ, zero, suc, ◌+◌, cond, List, [], ◌∷◌, length, Option, Some, None}
use Rattle.std.proofs.Common.{◌⊎◌, inl, inr, refl, ap, sym, ◌∙◌, subst, arith, eq-eqb, ne_eqb, false}
use Rattle.std.proofs.lemmas.Bool.{cases_eq}
use Rattle.std.proofs.lemmas.Option.{none-some, same_Some}
use Rattle.std.specs.Prelude.{Contains, AllPairs, nat_eq, not}
use Rattle.std.proofs.lemmas.List.Elements.{Contains-get_or}
use Rattle.std.proofs.lemmas.List.Kept.{AllPairs-cons, AllPairs-filter}
use Rattle.std.specs.List.{AllByRecursion}
use Rattle.lru_model.specs.Lists.{first as first_bucket, last as last_bucket}
use Rattle.lru_model.proofs.PairLists.Members.{Contains-here, Contains-later, Contains-cases, Contains-nil}
use Rattle.ordered_table.specs.OrderedTable.{bucket_after, bucket_before}
use Rattle.ordered_table.specs.OrderedTable.{without_bucket}

pub other_than : (b : ℕ) (order : List ℕ) → (Contains order b → ⊥) → (x : ℕ) → Contains order x → x ≢ b
other_than b order absent x there e = absent (subst (Contains order) e there)

pub distinct_head : (c : ℕ) (cs : List ℕ) → AllPairs ◌≢◌ (c ∷ cs) → Contains cs c → ⊥
distinct_head c cs d w = d zero (suc w.0) c (omega arith) (omega (arith, w.1)) (sym w.2)

pub distinct_tail : (c : ℕ) (cs : List ℕ) → AllPairs ◌≢◌ (c ∷ cs) → AllPairs ◌≢◌ cs
distinct_tail c cs d i j e p q = d (suc i) (suc j) e (omega (arith, p)) (omega (arith, q))

pub distinct_cons : (c : ℕ) (cs : List ℕ) → (Contains cs c → ⊥) → AllPairs ◌≢◌ cs → AllPairs ◌≢◌ (c ∷ cs)
distinct_cons c cs absent d = AllPairs-cons ◌≢◌ c cs
    (λ k e p same. absent (subst (Contains cs) (sym same) (Contains-get_or cs k e p))) d

-- if `prev` comes before the first bucket: the bucket before b, and the last bucket
abbrev pub before_from : Option ℕ → ℕ → List ℕ → Option ℕ
before_from prev b [] = None
before_from prev b (c ∷ cs) = cond (nat_eq c b) prev (before_from (Some c) b cs)

abbrev pub last_from : Option ℕ → List ℕ → Option ℕ
last_from prev [] = prev
last_from prev (c ∷ cs) = last_from (Some c) cs

pub before_from-absent : (prev : Option ℕ) (b : ℕ) (cs : List ℕ) → (Contains cs b → ⊥) → before_from prev b cs ≡ None
before_from-absent prev b [] absent = refl
before_from-absent prev b (c ∷ cs) absent =
    rw (ne_eqb c b (λ e. absent (subst (Contains (c ∷ cs)) e (Contains-here c cs))))
    (before_from-absent (Some c) b cs (λ w. absent (Contains-later c b cs w)))

before_by_tail : (b c : ℕ) (cs : List ℕ) → bucket_before b (c ∷ cs) ≡ before_from (Some c) b cs
before_by_tail b c [] = refl
before_by_tail b c (d ∷ ds) = ap (λ t. cond (nat_eq d b) (Some c) t) (before_by_tail b d ds)

pub before_is : (b : ℕ) (order : List ℕ) → AllPairs ◌≢◌ order → bucket_before b order ≡ before_from None b order
before_is b [] d = refl
before_is b (c ∷ cs) d = elim (cases_eq c b) [
  | inl h ↦ rw (eq-eqb c b h)
      (before_by_tail b c cs
      ∙ before_from-absent (Some c) b cs (λ w. distinct_head c cs d (subst (Contains cs) (sym h) w)))
  | inr h ↦ rw (ne_eqb c b h) (before_by_tail b c cs)
]

last_is_tail : (c : ℕ) (cs : List ℕ) → last_bucket (c ∷ cs) ≡ last_from (Some c) cs
last_is_tail c [] = refl
last_is_tail c (d ∷ ds) = last_is_tail d ds

pub last_is : (order : List ℕ) → last_bucket order ≡ last_from None order
last_is [] = refl
last_is (c ∷ cs) = last_is_tail c cs

pub before_first : (prev : Option ℕ) (x : ℕ) (cs : List ℕ) → first_bucket cs ≡ Some x → before_from prev x cs ≡ prev
before_first prev x [] e = absurd (none-some x e)
before_first prev x (d ∷ ds) e = rw (eq-eqb d x (same_Some d x e)) refl

pub before_not_first : (prev other : Option ℕ) (x : ℕ) (cs : List ℕ) → (first_bucket cs ≡ Some x → ⊥)
    → before_from prev x cs ≡ before_from other x cs
before_not_first prev other x [] p = refl
before_not_first prev other x (d ∷ ds) p = rw (ne_eqb d x (λ e. p (ap Some e))) refl

pub first_in : (cs : List ℕ) (x : ℕ) → first_bucket cs ≡ Some x → Contains cs x
first_in [] x e = absurd (none-some x e)
first_in (c ∷ cs) x e = subst (Contains (c ∷ cs)) (same_Some c x e) (Contains-here c cs)

pub no_first : (order : List ℕ) → first_bucket order ≡ None → order ≡ []
no_first [] e = refl
no_first (c ∷ cs) e = absurd (none-some c (sym e))

pub last_in : (order : List ℕ) (x : ℕ) → last_bucket order ≡ Some x → Contains order x
last_in [] x e = absurd (none-some x e)
last_in (c ∷ []) x e = subst (Contains (c ∷ [])) (same_Some c x e) (Contains-here c [])
last_in (c ∷ d ∷ ds) x e = Contains-later c x (d ∷ ds) (last_in (d ∷ ds) x e)

pub after_in : (b x : ℕ) (order : List ℕ) → bucket_after b order ≡ Some x → Contains order x
after_in b x [] e = absurd (none-some x e)
after_in b x (c ∷ cs) e = elim (cases_eq c b) [
  | inl h ↦ let e' : first_bucket cs ≡ Some x = rw (eq-eqb c b h) at e in Contains-later c x cs (first_in cs x e')
  | inr h ↦ let e' : bucket_after b cs ≡ Some x = rw (ne_eqb c b h) at e in Contains-later c x cs (after_in b x cs e')
]

pub before_from-in : (prev : Option ℕ) (b x : ℕ) (cs : List ℕ) → before_from prev b cs ≡ Some x → (prev ≡ Some x)
    ⊎ Contains cs x
before_from-in prev b x [] e = absurd (none-some x e)
before_from-in prev b x (c ∷ cs) e = elim (cases_eq c b) [
  | inl h ↦ let e' : prev ≡ Some x = rw (eq-eqb c b h) at e in inl e'
  | inr h ↦
      let e' : before_from (Some c) b cs ≡ Some x = rw (ne_eqb c b h) at e in
      elim (before_from-in (Some c) b x cs e') [
        | inl k ↦ inr (subst (Contains (c ∷ cs)) (same_Some c x k) (Contains-here c cs))
        | inr k ↦ inr (Contains-later c x cs k)
      ]
]

pub before_in : (b x : ℕ) (order : List ℕ) → AllPairs ◌≢◌ order → bucket_before b order ≡ Some x → Contains order x
before_in b x order d e = elim (before_from-in None b x order (sym (before_is b order d) ∙ e)) [
  | inl h ↦ absurd (none-some x h)
  | inr h ↦ h
]

pub after_other : (b x : ℕ) (order : List ℕ) → AllPairs ◌≢◌ order → bucket_after b order ≡ Some x → x ≢ b
after_other b x [] d e = absurd (none-some x e)
after_other b x (c ∷ cs) d e = elim (cases_eq c b) [
  | inl h ↦
      let e' : first_bucket cs ≡ Some x = rw (eq-eqb c b h) at e in
      λ same. distinct_head c cs d (subst (Contains cs) (same ∙ sym h) (first_in cs x e'))
  | inr h ↦
      let e' : bucket_after b cs ≡ Some x = rw (ne_eqb c b h) at e in
      after_other b x cs (distinct_tail c cs d) e'
]

before_from-other : (prev : Option ℕ) (b x : ℕ) (cs : List ℕ) → (prev ≡ Some b → ⊥) → before_from prev b cs ≡ Some x
    → x ≢ b
before_from-other prev b x [] p e = absurd (none-some x e)
before_from-other prev b x (c ∷ cs) p e = elim (cases_eq c b) [
  | inl h ↦ let e' : prev ≡ Some x = rw (eq-eqb c b h) at e in λ same. p (e' ∙ ap Some same)
  | inr h ↦
      let e' : before_from (Some c) b cs ≡ Some x = rw (ne_eqb c b h) at e in
      before_from-other (Some c) b x cs (λ k. h (same_Some c b k)) e'
]

pub before_other : (b x : ℕ) (order : List ℕ) → AllPairs ◌≢◌ order → bucket_before b order ≡ Some x → x ≢ b
before_other b x order d e = before_from-other None b x order (none-some b) (sym (before_is b order d) ∙ e)

pub before_from-some : (c b : ℕ) (cs : List ℕ) → Contains cs b → before_from (Some c) b cs ≡ None → ⊥
before_from-some c b [] there e = Contains-nil b there
before_from-some c b (d ∷ ds) there e = elim (cases_eq d b) [
  | inl h ↦ none-some c (sym (rw (eq-eqb d b h) at e))
  | inr h ↦
      let e' : before_from (Some d) b ds ≡ None = rw (ne_eqb d b h) at e in
      elim (Contains-cases d b ds there) [
        | inl k ↦ h k
        | inr k ↦ before_from-some d b ds k e'
      ]
]

abbrev pub Lacks : ℕ → List ℕ → Type 0
Lacks b = AllByRecursion (λ c. nat_eq c b ≡ false)

pub lacks_unless : (b : ℕ) (order : List ℕ) → (Contains order b → ⊥) → Lacks b order
lacks_unless b [] absent = tt
lacks_unless b (c ∷ cs) absent = (
  ne_eqb c b (λ e. absent (subst (Contains (c ∷ cs)) e (Contains-here c cs))),
  lacks_unless b cs (λ w. absent (Contains-later c b cs w)),
)

pub without-lacking : (b : ℕ) (order : List ℕ) → Lacks b order → without_bucket b order ≡ order
without-lacking b [] lacks = refl
without-lacking b (c ∷ cs) lacks = rw lacks.0 (ap (λ xs. c ∷ xs) (without-lacking b cs lacks.1))

pub without-absent : (b : ℕ) (order : List ℕ) → (Contains order b → ⊥) → without_bucket b order ≡ order
without-absent b order absent = without-lacking b order (lacks_unless b order absent)

pub without_in : (b x : ℕ) (order : List ℕ) → Contains (without_bucket b order) x → Contains order x × (x ≢ b)
without_in b x [] there = absurd (Contains-nil x there)
without_in b x (c ∷ cs) there = elim (cases_eq c b) [
  | inl h ↦
      let t : Contains (without_bucket b cs) x = rw (eq-eqb c b h) at there in
      let w = without_in b x cs t in
      (Contains-later c x cs w.0, w.1)
  | inr h ↦
      let t : Contains (c ∷ without_bucket b cs) x = rw (ne_eqb c b h) at there in
      elim (Contains-cases c x (without_bucket b cs) t) [
        | inl k ↦ (subst (Contains (c ∷ cs)) k (Contains-here c cs), λ e. h (k ∙ e))
        | inr k ↦ let w = without_in b x cs k in (Contains-later c x cs w.0, w.1)
      ]
]

pub in_without : (b x : ℕ) (order : List ℕ) → Contains order x → x ≢ b → Contains (without_bucket b order) x
in_without b x [] there other = absurd (Contains-nil x there)
in_without b x (c ∷ cs) there other = elim (Contains-cases c x cs there) [
  | inl k ↦ rw (ne_eqb c b (λ e. other (sym k ∙ e)))
      (subst (Contains (c ∷ without_bucket b cs)) k (Contains-here c (without_bucket b cs)))
  | inr k ↦ elim (cases_eq c b) [
    | inl h ↦ rw (eq-eqb c b h) (in_without b x cs k other)
    | inr h ↦ rw (ne_eqb c b h) (Contains-later c x (without_bucket b cs) (in_without b x cs k other))
  ]
]

pub distinct_without : (b : ℕ) (order : List ℕ) → AllPairs ◌≢◌ order → AllPairs ◌≢◌ (without_bucket b order)
distinct_without b order d = AllPairs-filter ◌≢◌ (λ c. not (nat_eq c b)) order d

pub length-without : (b : ℕ) (order : List ℕ) → AllPairs ◌≢◌ order → Contains order b → length (without_bucket b order)
    + 1 ≡ length order
length-without b [] d there = absurd (Contains-nil b there)
length-without b (c ∷ cs) d there = elim (cases_eq c b) [
  | inl h ↦
      let absent : Contains cs b → ⊥ = λ w. distinct_head c cs d (subst (Contains cs) (sym h) w) in
      rw (eq-eqb c b h) (rw (without-absent b cs absent) (omega arith))
  | inr h ↦ elim (Contains-cases c b cs there) [
    | inl k ↦ absurd (h k)
    | inr k ↦ let ih = length-without b cs (distinct_tail c cs d) k in rw (ne_eqb c b h) (omega (arith, ih))
  ]
]

pub after-last : (b : ℕ) (order : List ℕ) → AllPairs ◌≢◌ order → last_bucket order ≡ Some b
    → bucket_after b order ≡ None
after-last b [] d e = refl
after-last b (c ∷ []) d e = rw (eq-eqb c b (same_Some c b e)) refl
after-last b (c ∷ x ∷ xs) d e =
    let other : c ≢ b = λ same. distinct_head c (x ∷ xs) d
    (subst (Contains (x ∷ xs)) (sym same) (last_in (x ∷ xs) b e)) in
    rw (ne_eqb c b other) (after-last b (x ∷ xs) (distinct_tail c (x ∷ xs) d) e)

pub before-alone : (b : ℕ) (order : List ℕ) → AllPairs ◌≢◌ order → Contains order b
    → first_bucket (without_bucket b order) ≡ None → bucket_before b order ≡ None
before-alone b [] d there e = refl
before-alone b (c ∷ []) d there e = refl
before-alone b (c ∷ x ∷ xs) d there e = absurd
    (omega (arith, length-without b (c ∷ x ∷ xs) d there, ap length (no_first (without_bucket b (c ∷ x ∷ xs)) e)))
