use Rattle.std.proofs.Common.{◌≡◌, ℕ, zero, suc, ◌+◌, ◌-◌, ◌<◌, ◌≤◌, List, [], ◌∷◌, ◌++◌, length, option_to_list}
use Rattle.std.proofs.Common.{refl, sym, ap, ◌∙◌, subst, arith, add-one, append_assoc}
use Rattle.std.proofs.lemmas.List.{append-nil, nil_from_length}
use Rattle.lru_limits.specs.Rules.{Rules}
use Rattle.lru_model.specs.Lists.{first, last}
use Rattle.lru_model.specs.State.{State, Contents, contents, Leaves, pop, pops}
use Rattle.lru_model.specs.Calls.{left_of, pop_first}
use Rattle.lru_model.specs.Drains.{pops_first, newest_given, oldest_given}
use Rattle.lru_model.proofs.CallerLemmas.{leaves_trans, length-without_last}

module _ {K V S : Type 0} where
  -- `one` takes out the pair that `gives` returns; `many` does this n times, and `all` returns these pairs
  pub record ArePops (one : Contents K V S → Contents K V S) (gives : Contents K V S → List (K × V))
      (many : ℕ → Contents K V S → Contents K V S) (all : ℕ → Contents K V S → List (K × V)) : Type 0 where
    pub none : (c : Contents K V S) → many 0 c ≡ c
    pub more : (n : ℕ) (c : Contents K V S) → many (suc n) c ≡ many n (one c)
    pub nothing : (c : Contents K V S) → all 0 c ≡ []
    pub given : (n : ℕ) (c : Contents K V S) → all (suc n) c ≡ gives c ++ all n (one c)
    pub shorter : (c : Contents K V S) → length (one c).pairs ≡ length c.pairs - 1
    pub still : (s : S) → one (record { pairs = []; limiter = s }) ≡ record { pairs = []; limiter = s }
    pub without : (s : S) → gives (record { pairs = []; limiter = s }) ≡ []

module _ {K V S : Type 0} {one : Contents K V S → Contents K V S} {gives : Contents K V S → List (K × V)}
    {many : ℕ → Contents K V S → Contents K V S} {all : ℕ → Contents K V S → List (K × V)}
    (p : ArePops one gives many all) where
  pub many-more : (n : ℕ) (c : Contents K V S) → many (suc n) c ≡ one (many n c)
  many-more zero c = p.more 0 c ∙ p.none (one c) ∙ sym (ap one (p.none c))
  many-more (suc n) c = p.more (suc n) c ∙ many-more n (one c) ∙ sym (ap one (p.more n c))

  pub all-more : (n : ℕ) (c : Contents K V S) → all (suc n) c ≡ all n c ++ gives (many n c)
  all-more zero c =
      p.given 0 c ∙ ap (λ l. gives c ++ l) (p.nothing (one c)) ∙ append-nil (gives c)
      ∙ sym (ap (λ l. l ++ gives (many 0 c)) (p.nothing c) ∙ ap gives (p.none c))
  all-more (suc n) c =
      p.given (suc n) c ∙ ap (λ l. gives c ++ l) (all-more n (one c))
      ∙ sym (append_assoc (gives c) (all n (one c)) (gives (many n (one c))))
      ∙ sym ((λ i. p.given n c i ++ gives (p.more n c i)))

  pub length-many : (n : ℕ) (c : Contents K V S) → length (many n c).pairs ≡ length c.pairs - n
  length-many zero c = omega (arith, ap (λ d. length d.pairs) (p.none c))
  length-many (suc n) c = omega
      (arith, ap (λ d. length d.pairs) (p.more n c), length-many n (one c), p.shorter c)

  none_left : (n : ℕ) (c : Contents K V S) → c.pairs ≡ [] → many n c ≡ c
  none_left zero c empty = p.none c
  none_left (suc n) c empty = p.more n c
      ∙ ap (many n) (subst (λ l. one (record c { pairs = l }) ≡ record c { pairs = l }) (sym empty) (p.still c.limiter))
      ∙ none_left n c empty

  nothing_given : (n : ℕ) (c : Contents K V S) → c.pairs ≡ [] → all n c ≡ []
  nothing_given zero c empty = p.nothing c
  nothing_given (suc n) c empty = p.given n c
      ∙ ap (λ l. l ++ all n (one c)) (subst (λ l. gives (record c { pairs = l }) ≡ []) (sym empty)
      (p.without c.limiter))
      ∙ ap (all n) (subst (λ l. one (record c { pairs = l }) ≡ record c { pairs = l }) (sym empty) (p.still c.limiter))
      ∙ nothing_given n c empty

  pub many_enough : (n k : ℕ) (c : Contents K V S) → k ≤ n → (k < n → length c.pairs ≤ k) → many k c ≡ many n c
  many_enough zero zero c most enough = refl
  many_enough zero (suc k) c most enough = absurd (omega arith)
  many_enough (suc n) zero c most enough = p.none c ∙ sym (none_left (suc n) c
      (nil_from_length c.pairs (omega (arith, enough (omega arith)))))
  many_enough (suc n) (suc k) c most enough =
      p.more k c ∙ many_enough n k (one c) (omega arith)
      (λ less. let few = enough (omega arith) in omega (arith, p.shorter c, few)) ∙ sym (p.more n c)

  pub all_enough : (n k : ℕ) (c : Contents K V S) → k ≤ n → (k < n → length c.pairs ≤ k) → all k c ≡ all n c
  all_enough zero zero c most enough = refl
  all_enough zero (suc k) c most enough = absurd (omega arith)
  all_enough (suc n) zero c most enough = p.nothing c ∙ sym (nothing_given (suc n) c
      (nil_from_length c.pairs (omega (arith, enough (omega arith)))))
  all_enough (suc n) (suc k) c most enough =
      p.given k c ∙ ap (λ l. gives c ++ l) (all_enough n k (one c) (omega arith)
      (λ less. let few = enough (omega arith) in omega (arith, p.shorter c, few))) ∙ sym (p.given n c)

module _ {K V S H : Type 0} {one : Contents K V S → Contents K V S} {gives : Contents K V S → List (K × V)}
    {many : ℕ → Contents K V S → Contents K V S} {all : ℕ → Contents K V S → List (K × V)}
    (p : ArePops one gives many all) (start : List (K × V)) (old mid new : State K V S H) (k : ℕ) where
  pub one_popped : (done taken : List (K × V)) → done ≡ start ++ all k (contents old) → taken ≡ gives (contents mid)
      → Leaves old (many k (contents old)) mid → Leaves mid (one (contents mid)) new
      → (done ++ taken ≡ start ++ all (k + 1) (contents old)) × Leaves old (many (k + 1) (contents old)) new
  one_popped done taken given gave left more =
      let begun = contents old in let same : contents mid ≡ many k begun = ap contents left.is in (
        (λ i. given i ++ (gave ∙ ap gives same) i) ∙ append_assoc start (all k begun) (gives (many k begun))
            ∙ ap (λ l. start ++ l) (sym (all-more p k begun)) ∙ ap (λ n. start ++ all n begun) (sym (add-one k)),
        subst (λ c. Leaves old c new)
            (ap one same ∙ sym (many-more p k begun) ∙ ap (λ n. many n begun) (sym (add-one k)))
            (leaves_trans old mid new (many k begun) (one (contents mid)) left more),
      )

module _ {K V S : Type 0} (rules : Rules K V S) where
  abbrev pub newest_pair : Contents K V S → List (K × V)
  newest_pair c = option_to_list (left_of rules c.limiter (first c.pairs))

  abbrev pub oldest_pair : Contents K V S → List (K × V)
  oldest_pair c = option_to_list (left_of rules c.limiter (last c.pairs))

  first_shorter : (pairs : List (K × V)) (s : S)
      → length (pop_first rules (record { pairs = pairs; limiter = s })).pairs ≡ length pairs - 1
  first_shorter [] s = omega arith
  first_shorter (x ∷ xs) s = omega arith

  pub from_newest : ArePops (pop_first rules) newest_pair (pops_first rules) (newest_given rules)
  from_newest = record {
    none = λ c. refl;
    more = λ n c. refl;
    nothing = λ c. refl;
    given = λ n c. refl;
    shorter = λ c. first_shorter c.pairs c.limiter;
    still = λ s. refl;
    without = λ s. refl;
  }

  pub from_oldest : ArePops (pop rules) oldest_pair (pops rules) (oldest_given rules)
  from_oldest = record {
    none = λ c. refl;
    more = λ n c. refl;
    nothing = λ c. refl;
    given = λ n c. refl;
    shorter = λ c. length-without_last c.pairs;
    still = λ s. refl;
    without = λ s. refl;
  }
