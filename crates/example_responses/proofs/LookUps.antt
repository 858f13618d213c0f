use Rattle.std.proofs.Common.{◌≡◌, ◌<◌, ℕ, arith, Result, Ok, Err, is_ok, Bool, true, false, is_some, List, []}
use Rattle.std.proofs.Common.{◌∷◌, Option, Some, None, cond, refl, sym, ap, ◌∙◌, subst, inl, inr, nat_lt}
use Rattle.std.specs.Cmp.{IsEquivalence}
use Rattle.std.specs.List.{All, IsDistinct}
use Rattle.std.specs.Map.{keys_of, values_of, remove_entry}
use Rattle.std.proofs.lemmas.List.Elements.{All-weaker}
use Rattle.std.proofs.lemmas.Map.Views.{IfSome-lookup_from_All}
use Rattle.std.proofs.lemmas.Bool.{true≢false}
use Rattle.std.proofs.lemmas.Map.{lookup-remove_entry}
use Rattle.lru_caches.specs.Counted.{looked_up as count_look_up}
use Rattle.lru_limits.specs.Budget.{Budget}
use Rattle.lru_limits.specs.Rules.{Rules}
use Rattle.lru_model.specs.Calls.{promoted, Remove}
use Rattle.lru_model.specs.Lists.{lookup, lookup_entry, after, front, without}
use Rattle.lru_model.specs.State.{notified_of}
use Rattle.lru_tenants.specs.Cache.{Cache, IsTenant, On}
use Rattle.lru_tenants.specs.Counting.{CountsGet, counted}
use Rattle.lru_tenants.specs.TenantRuns.{OfOpen, IfOpen, read_of}
use Rattle.lru_tenants.specs.Tenants.{ChangesOnly}
use Rattle.lru_tenants.specs.declared.counting.Counting.{Counting}
use Rattle.lru_tenants.specs.declared.error.TenantError.{TenantError}
use Rattle.example_responses.specs.LookUps.{Host, fresh_at, without_stale, looked_up, DropsStale, GetsCopy}
use Rattle.example_responses.specs.LookUps.{Copies}
use Rattle.example_responses.specs.declared.cache.Response.{Response}
use Rattle.std.specs.Prelude.{IfSome, IfOk}
use Rattle.lru_model.proofs.CallerLemmas.{without_none}
use Rattle.lru_model.proofs.PairLists.NamedPairs.{no_pair}

pub ok≢err : {T E : Type 0} {x : T} {e : E} → Ok x ≡ Err e → ⊥
ok≢err p = true≢false (ap is_ok p)

abbrev or-else : {T E : Type 0} → T → Result T E → T
or-else x (Ok y) = y
or-else x (Err e) = x

pub ok-same : {T E : Type 0} {x y : T} → ◌≡◌ {A = Result T E} (Ok x) (Ok y) → x ≡ y
ok-same {T} {E} {x} {y} p = ap (or-else x) p

module _ {K V : Type 0} (names : K → Bool) where
  found-pair : (xs : List (K × V)) (v : V) → lookup names xs ≡ Some v
      → (p : K × V) × (lookup_entry names xs ≡ Some p) × (names p.0 ≡ true)
  found-pair [] v e = absurd (true≢false (sym (ap is_some e)))
  found-pair (x ∷ xs) v e = go (found-pair xs v) (names x.0) refl e
    where
      go : (lookup names xs ≡ Some v → (p : K × V) × (lookup_entry names xs ≡ Some p) × (names p.0 ≡ true))
          → (is : Bool) → names x.0 ≡ is → cond is (Some x.1) (lookup names xs) ≡ Some v
          → (p : K × V) × (cond is (Some x) (lookup_entry names xs) ≡ Some p) × (names p.0 ≡ true)
      go later true is e = (x, refl, is)
      go later false is e = later e

module _ {K V : Type 0} {eq : K → K → Bool} (laws : IsEquivalence eq) (names : K → Bool)
    (one : (x y : K) → names x ≡ true → names y ≡ eq x y) where
  not-there : (xs : List (K × V)) → IsDistinct eq (keys_of xs) → lookup names (remove_entry names xs) ≡ None
  not-there xs distinct = go (lookup names xs) refl
    where
      go : (o : Option V) → lookup names xs ≡ o → lookup names (remove_entry names xs) ≡ None
      go None none = ap (lookup names) (without_none names xs (no_pair names xs none)) ∙ none
      go (Some v) found =
          let (p, there, is) = found-pair names xs v found in let k = p.0 in
          ap (λ test. lookup test (remove_entry names xs)) (λ i y. one k y is i)
          ∙ lookup-remove_entry laws names one k xs distinct ∙ ap (λ b. cond b None (lookup (eq k) xs)) is

pub distinct-keys : {N K V L S : Type 0} {keys : K → K → Bool} {cost : K → V → ℕ} {account budget : L → ℕ}
    (cache : Cache N K V L S) (test : N → Bool) → All (IsTenant keys cost account budget) (values_of cache.tenants)
    → IfSome (lookup test cache.tenants) (λ map. IsDistinct keys (keys_of map.pairs))
distinct-keys {keys = keys} {cost = cost} {account = account} {budget = budget} cache test all =
    IfSome-lookup_from_All (λ map. IsDistinct keys (keys_of map.pairs)) test cache.tenants
    (All-weaker (IsTenant keys cost account budget) (λ map. IsDistinct keys (keys_of map.pairs))
    (λ map is. is.map.distinct)
    (values_of cache.tenants) all)

fresh-same : (now : ℕ) (o : Option Response) → is_some (fresh_at now o) ≡ true → fresh_at now o ≡ o
fresh-same now None e = refl
fresh-same now (Some response) e = go (nat_lt now response.expires) e
  where
    go : (b : Bool) → is_some (cond b (Some response) None) ≡ true → cond b (Some response) None ≡ Some response
    go true e = refl
    go false e = absurd (true≢false (sym e))

not-fresh : (o : Option Response) → is_some o ≡ false → o ≡ None
not-fresh None e = refl
not-fresh (Some response) e = absurd (true≢false e)

pub fresh-before : (now : ℕ) (o : Option Response) → IfSome (fresh_at now o) (λ response. now < response.expires)
fresh-before now None = tt
fresh-before now (Some response) = go (nat_lt now response.expires) refl
  where
    go : (b : Bool) → nat_lt now response.expires ≡ b
        → IfSome (cond b (Some response) None) (λ response. now < response.expires)
    go true e = grind (arith, e)
    go false e = tt

only-both : {N X : Type 0} {eq : N → N → Bool} {host : N → Bool} {old mid new : List (N × X)}
    → ChangesOnly eq host old mid → ChangesOnly eq host mid new → ChangesOnly eq host old new
only-both first second = record {
  one = first.one;
  others = λ other apart. second.others other apart ∙ first.others other apart;
}

module _ {K S : Type 0} (names : K → Bool) (now : ℕ) where
  pub fresh-said : (was : Option (Host K S)) (found : Option Response)
      → Ok found ≡ read_of (λ map. lookup names map.pairs) was
      → Ok (is_some (fresh_at now found)) ≡ read_of (λ map. is_some (fresh_at now (lookup names map.pairs))) was
  fresh-said None found e = absurd (ok≢err e)
  fresh-said (Some map) found e = ap (λ o. Ok (is_some (fresh_at now o))) (ok-same e)

pub fresh-flag : (now : ℕ) (response : Response)
    → nat_lt now response.expires ≡ is_some (fresh_at now (Some response))
fresh-flag now response = go (nat_lt now response.expires)
  where
    go : (b : Bool) → b ≡ is_some (cond b (Some response) None)
    go true = refl
    go false = refl

module _ {K : Type 0} (rules : Rules K Response (Counting Budget)) where
  abbrev pub KeepsLimit : Type 0
  KeepsLimit = (limiter : Counting Budget) (k : K) (v : Response) → (rules.on_removed limiter k v).limiter
      ≡ record limiter {
        limiter =
            record limiter.limiter { cost = (rules.on_removed limiter k v).limiter.limiter.cost };
      }

  limit-stays : KeepsLimit → (limiter : Counting Budget) (gone : Option (K × Response))
      → notified_of rules gone limiter ≡ record limiter {
        limiter =
            record limiter.limiter { cost = (notified_of rules gone limiter).limiter.cost };
      }
  limit-stays keeps limiter None = refl
  limit-stays keeps limiter (Some pair) = keeps limiter pair.0 pair.1

module _ {N K S : Type 0} {eq : N → N → Bool} {keys : K → K → Bool} (laws : IsEquivalence keys) (names : K → Bool)
    (one : (x y : K) → names x ≡ true → names y ≡ keys x y) (now : ℕ) (rules : Rules K Response (Counting Budget))
    (host : N → Bool) (old new : Cache N K Response (Counting Budget) S) where
  pub stale-dropped : KeepsLimit rules → (removed : Option Response)
      → Ok false ≡ read_of (λ map. is_some (fresh_at now (lookup names map.pairs))) (lookup host old.tenants)
      → IfSome (lookup host old.tenants) (λ map. IsDistinct keys (keys_of map.pairs))
      → On eq host (IfOpen (Remove rules names)) old (Ok removed) new
      → On eq host (OfOpen (DropsStale names now)) old (Ok tt) new
  stale-dropped keeps removed said distinct (rest, (removes, only)) =
      (rest, (go (lookup host old.tenants) said distinct removes, only))
    where
      go : (was : Option (Host K S)) → Ok false ≡ read_of (λ map. is_some (fresh_at now (lookup names map.pairs))) was
          → IfSome was (λ map. IsDistinct keys (keys_of map.pairs)) → IfOpen (Remove rules names) was (Ok removed) (lookup host new.tenants)
          → OfOpen (DropsStale names now) was (Ok tt) (lookup host new.tenants)
      go None said distinct does = absurd (ok≢err said)
      go (Some map) said distinct (result, own, remove, says, is) =
          let no = sym (ok-same said) in
          let list : without names map.pairs ≡ without_stale names now map.pairs =
          ap (λ b. cond b map.pairs (without names map.pairs)) (sym no) in
          let limiter : notified_of rules (lookup_entry names map.pairs) map.limiter
          ≡ record map.limiter { limiter = record map.limiter.limiter { cost = own.limiter.limiter.cost } } =
          limit-stays rules keeps map.limiter (lookup_entry names map.pairs)
          ∙ ap (λ notified. record map.limiter { limiter = record map.limiter.limiter { cost = notified.limiter.cost } })
          (sym (ap (λ st. st.limiter) remove.state.is)) in (
            own,
            refl,
            is,
            remove.state.is ∙ (λ i. record map { pairs = list i; limiter = limiter i; table = own.table }),
            ap (λ st. lookup names st.pairs) remove.state.is ∙ not-there laws names one map.pairs distinct
                ∙ sym (not-fresh (fresh_at now (lookup names map.pairs)) no),
          )

front-kept : {K : Type 0} (names : K → Bool) (now : ℕ) (xs : List (K × Response))
    → lookup names (without_stale names now xs) ≡ fresh_at now (lookup names xs)
    → front names (without_stale names now xs) ≡ looked_up names now xs
front-kept {K} names now xs finds = go (fresh_at now (lookup names xs)) finds
  where
    go : (o : Option Response) → lookup names (cond (is_some o) xs (without names xs)) ≡ o
        → front names (cond (is_some o) xs (without names xs)) ≡ cond (is_some o) (front names xs) (without names xs)
    go None none = ap (λ o. after o (without names (without names xs))) (no_pair names (without names xs) none)
        ∙ without_none names (without names xs) (no_pair names (without names xs) none)
    go (Some response) is = refl

module _ {N K S : Type 0} {eq : N → N → Bool} (names : K → Bool) (now : ℕ) (host : N → Bool)
    (old : Cache N K Response (Counting Budget) S) where
  pub fresh-stays : Ok true ≡ read_of (λ map. is_some (fresh_at now (lookup names map.pairs))) (lookup host old.tenants)
      → ChangesOnly eq host old.tenants old.tenants → On eq host (OfOpen (DropsStale names now)) old (Ok tt) old
  fresh-stays said only = (refl, (go (lookup host old.tenants) said, only))
    where
      go : (was : Option (Host K S)) → Ok true ≡ read_of (λ map. is_some (fresh_at now (lookup names map.pairs))) was
          → OfOpen (DropsStale names now) was (Ok tt) was
      go None said = absurd (ok≢err said)
      go (Some map) said = let fresh = sym (ok-same said) in (
        map,
        refl,
        refl,
        ap (λ b. record map { pairs = cond b map.pairs (without names map.pairs) }) (sym fresh),
        sym (fresh-same now (lookup names map.pairs) fresh),
      )

  pub gets-copy : (mid new : Cache N K Response (Counting Budget) S) (found : Option Response)
      (said answer : Result (Option Response) TenantError)
      → On eq host (OfOpen (DropsStale names now)) old (Ok tt) mid
      → On eq host (IfOpen (CountsGet names)) mid said new → said ≡ Ok found → Copies found answer
      → On eq host (OfOpen (GetsCopy names now)) old answer new
  gets-copy mid new found said answer (rest, (drops, first)) (more, (gets, second)) told copied = (
    more ∙ ap {A = Cache N K Response (Counting Budget) S} (λ cache. record cache { tenants = new.tenants }) rest,
    (go (lookup host old.tenants) drops, only-both first second),
  )
    where
      left : Option (Host K S)
      left = lookup host new.tenants

      go : (was : Option (Host K S)) → OfOpen (DropsStale names now) was (Ok tt) (lookup host mid.tenants)
          → OfOpen (GetsCopy names now) was answer left
      go None (says, is) = absurd (ok≢err says)
      go (Some map) (own, says, is, state, finds) =
          let (result, after, (value, counts), tells, now-is) =
          subst (λ t. IfOpen (CountsGet names) t (Ok found) left) is
          (subst (λ a. IfOpen (CountsGet names) (lookup host mid.tenants) a left) told gets) in
          let fresh : found ≡ fresh_at now (lookup names map.pairs) = ok-same tells ∙ value ∙ finds in
          let flag : is_some result ≡ is_some (fresh_at now (lookup names map.pairs)) =
          ap is_some (value ∙ finds) in
          let list = front-kept names now map.pairs
          (ap (λ st. lookup names st.pairs) (sym state) ∙ finds) in
          let turned = counts
          ∙ ap (λ st. counted (count_look_up (is_some result)) (promoted names st)) state in (
            after,
            subst (λ o. Copies o answer) fresh copied,
            now-is,
            turned ∙ (λ i. record map {
              pairs = list i;
              limiter = record {
                limiter = record map.limiter.limiter { cost = (sym turned i).limiter.limiter.cost };
                counts = count_look_up (flag i) map.limiter.counts;
              };
              table = (sym turned i).table;
            }),
          )

pub copy-fresh : {N K S : Type 0} {eq : N → N → Bool} (names : K → Bool) (now : ℕ) (host : N → Bool)
    (old new : Cache N K Response (Counting Budget) S) (answer : Result (Option Response) TenantError)
    → On eq host (OfOpen (GetsCopy names now)) old answer new
    → IfOk answer (λ found. IfSome found (λ response. now < response.expires))
copy-fresh {K = K} {S = S} names now host old new answer (rest, (gets, only)) = go (lookup host old.tenants) gets
  where
    Fresh : Result (Option Response) TenantError → Type 0
    Fresh a = IfOk a (λ found. IfSome found (λ response. now < response.expires))

    copies : (o : Option Response) → IfSome o (λ response. now < response.expires) → Copies o answer → Fresh answer
    copies None before is = subst Fresh (sym is) tt
    copies (Some stored) before is = elim is [
      | inl (copy, (body, expires), e) ↦ subst Fresh (sym e) (subst (λ n. now < n) (sym expires) before)
      | inr e ↦ subst Fresh (sym e) tt
    ]

    go : (was : Option (Host K S)) → OfOpen (GetsCopy names now) was answer (lookup host new.tenants) → Fresh answer
    go None (says, is) = subst Fresh (sym says) tt
    go (Some map) (own, copied, is, state) =
        copies (fresh_at now (lookup names map.pairs)) (fresh-before now (lookup names map.pairs)) copied
