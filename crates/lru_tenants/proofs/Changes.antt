-- What a call does to the tenant that it names determines what it does to the list of tenants.
use Rattle.std.proofs.Common.{◌≡◌, Bool, true, false, cond, List, [], ◌∷◌, Option, Some, None, is_some, Ok, Err, sym, ap}
use Rattle.std.proofs.Common.{refl, subst, ◌∙◌, inl, inr}
use Rattle.std.proofs.lemmas.Bool.{true≢false}
use Rattle.std.proofs.lemmas.Map.{lookup-set_value, lookup-remove_entry}
use Rattle.std.proofs.lemmas.Map.Views.{IfSome-lookup_from_All}
use Rattle.std.specs.Cmp.{IsEquivalence}
use Rattle.std.specs.List.{All, IsDistinct}
use Rattle.std.proofs.lemmas.Iterator.Adapters.{option_map_id}
use Rattle.std.specs.Map.{keys_of, lookup, lookup_entry, remove_entry, set_value, values_of}
use Rattle.std.specs.Prelude.{IfSome, option_map}
use Rattle.lru_model.proofs.CallerLemmas.{lookup-entry, no_pair, without_none}
use Rattle.lru_tenants.specs.Tenants.{Changes, ChangesOnly}
use Rattle.lru_tenants.specs.TenantRuns.{Opens, Takes}
use Rattle.lru_tenants.specs.declared.error.TenantError.TheVariants.{AlreadyOpen, Memory, OverTotal}

pub found-all : {K X : Type 0} (P : X → Type 0) (test : K → Bool) (entries : List (K × X)) (x : X)
    → lookup test entries ≡ Some x → All P (values_of entries) → P x
found-all P test entries x found all = subst (λ o. IfSome o P) found (IfSome-lookup_from_All P test entries all)

pub found-name : {K X : Type 0} (test : K → Bool) (entries : List (K × X)) (x : X) → lookup test entries ≡ Some x
    → (k : K) × (test k ≡ true)
found-name test [] x e = absurd (true≢false (sym (ap is_some e)))
found-name {K} test (entry ∷ entries) x e = go (found-name test entries x) (test entry.0) refl e
  where
    go : (lookup test entries ≡ Some x → (k : K) × (test k ≡ true)) → (is : Bool) → test entry.0 ≡ is
        → cond is (Some entry.1) (lookup test entries) ≡ Some x → (k : K) × (test k ≡ true)
    go later true is e = (entry.0, is)
    go later false is e = later e

-- what `LruMap::remove` returns if the limiter changes no removed entry
pub found-removed : {K X : Type 0} (test : K → Bool) (entries : List (K × X)) {value : Option X}
    → value ≡ option_map (λ p. p.1) (option_map (λ p. p) (lookup_entry test entries)) → value ≡ lookup test entries
found-removed test entries is =
    is ∙ ap (option_map (λ p. p.1)) (option_map_id (lookup_entry test entries)) ∙ sym (lookup-entry test entries)

module _ {N X : Type 0} {eq : N → N → Bool} {names : N → Bool}
    (one : (x y : N) → names x ≡ true → names y ≡ eq x y) where
  pub same-tenant : (x : N) → names x ≡ true → (tenants : List (N × X)) → lookup names tenants ≡ lookup (eq x) tenants
  same-tenant x is tenants = ap (λ named. lookup named tenants) (λ i y. one x y is i)

  pub only-same : (tenants : List (N × X)) → ChangesOnly eq names tenants tenants
  only-same tenants = record { one = one; others = λ other apart. refl }

  module _ (old new : List (N × X)) (left : Option X)
      (each : (other : N) → lookup (eq other) new ≡ cond (names other) left (lookup (eq other) old)) where
    named-left : (was : X) → lookup names old ≡ Some was → lookup names new ≡ left
    named-left was there = let (name, is) = found-name names old was there in
        same-tenant name is new ∙ each name ∙ ap (λ b. cond b left (lookup (eq name) old)) is

    only-left : ChangesOnly eq names old new
    only-left = record {
      one = one;
      others = λ other apart. each other ∙ ap (λ b. cond b left (lookup (eq other) old)) apart;
    }

  module _ (laws : IsEquivalence eq) (old : List (N × X)) where
    module _ (was left : X) (there : lookup names old ≡ Some was) where
      each-written : (other : N)
          → lookup (eq other) (set_value names old left) ≡ cond (names other) (Some left) (lookup (eq other) old)
      each-written other = lookup-set_value laws names one other left old (ap is_some there)

      pub written : lookup names (set_value names old left) ≡ Some left
      written = named-left old (set_value names old left) (Some left) each-written was there

      pub only-written : ChangesOnly eq names old (set_value names old left)
      only-written = only-left old (set_value names old left) (Some left) each-written

    module _ (distinct : IsDistinct eq (keys_of old)) where
      each-removed : (other : N)
          → lookup (eq other) (remove_entry names old) ≡ cond (names other) None (lookup (eq other) old)
      each-removed other = lookup-remove_entry laws names one other old distinct

      removed : (found : Option X) → lookup names old ≡ found → lookup names (remove_entry names old) ≡ None
      removed None e = ap (lookup names) (without_none names old (no_pair names old e)) ∙ e
      removed (Some was) e = named-left old (remove_entry names old) None each-removed was e

      only-removed : ChangesOnly eq names old (remove_entry names old)
      only-removed = only-left old (remove_entry names old) None each-removed

changes : {N X R : Type 0} {eq : N → N → Bool} {names : N → Bool} (Does : Option X → R → Option X → Type 0)
    (answer : R) (old new : List (N × X)) (was left : Option X) → lookup names old ≡ was → lookup names new ≡ left
    → Does was answer left → ChangesOnly eq names old new → Changes eq names Does old answer new
changes {names = names} Does answer old new was left is now does only =
    (subst (λ t. Does t answer (lookup names new)) (sym is) (subst (Does was answer) (sym now) does), only)

pub on-taken : {N X R : Type 0} {eq : N → N → Bool} {names : N → Bool} (Does : Option X → R → Option X → Type 0)
    (answer : R) {old new : List (N × X)} {taken was : Option X} → taken ≡ was → Does was answer None
    → Changes eq names Takes old taken new → Changes eq names Does old answer new
on-taken Does answer {old} {new} {taken} {was} same does ((is, none), only) =
    changes Does answer old new was None (sym is ∙ same) none does only

module _ {N X R : Type 0} {eq : N → N → Bool} {names : N → Bool}
    (one : (x y : N) → names x ≡ true → names y ≡ eq x y) (Does : Option X → R → Option X → Type 0) (answer : R) where
  pub on-same : (old : List (N × X)) (was : Option X) → lookup names old ≡ was → Does was answer was
      → Changes eq names Does old answer old
  on-same old was is does = changes Does answer old old was was is is does (only-same one old)

  module _ (laws : IsEquivalence eq) (old : List (N × X)) where
    pub on-written : (was left : X) → lookup names old ≡ Some was → Does (Some was) answer (Some left)
        → Changes eq names Does old answer (set_value names old left)
    on-written was left there does = changes Does answer old (set_value names old left) (Some was) (Some left) there
        (written one laws old was left there) does (only-written one laws old was left there)

    pub on-removed : IsDistinct eq (keys_of old) → (was : Option X) → lookup names old ≡ was → Does was answer None
        → Changes eq names Does old answer (remove_entry names old)
    on-removed distinct was is does = changes Does answer old (remove_entry names old) was None is
        (removed one laws old distinct was is) does (only-removed one laws old distinct)

-- what `open` does to a tenant that is not open
module _ {N X : Type 0} {eq : N → N → Bool} (laws : IsEquivalence eq) (name : N) (fresh : X) (old : List (N × X)) where
  pub open-again : (over : Bool) → is_some (lookup (eq name) old) ≡ true
      → Changes eq (eq name) (Opens over fresh) old (Err AlreadyOpen) old
  open-again over there = go (lookup (eq name) old) refl there
    where
      go : (was : Option X) → lookup (eq name) old ≡ was → is_some was ≡ true
          → Changes eq (eq name) (Opens over fresh) old (Err AlreadyOpen) old
      go (Some own) is found =
          on-same (laws.congr name) (Opens over fresh) (Err AlreadyOpen) old (Some own) is (refl, refl)
      go None is found = absurd (true≢false (sym found))

  module _ (none : lookup (eq name) old ≡ None) {over : Bool} where
    pub opens-over : over ≡ true → Changes eq (eq name) (Opens over fresh) old (Err OverTotal) old
    opens-over is = on-same (laws.congr name) (Opens over fresh) (Err OverTotal) old None none
        (subst (λ b. Opens b fresh None (Err OverTotal) None) (sym is) (refl, refl))

    pub opens-unmade : over ≡ false → Changes eq (eq name) (Opens over fresh) old (Err Memory) old
    opens-unmade is = on-same (laws.congr name) (Opens over fresh) (Err Memory) old None none
        (subst (λ b. Opens b fresh None (Err Memory) None) (sym is) (inr (refl, refl)))

    pub opens-made : over ≡ false → (own : X) → own ≡ fresh
        → Changes eq (eq name) (Opens over fresh) old (Ok tt) ((name, own) ∷ old)
    opens-made is own made = changes (Opens over fresh) (Ok tt) old ((name, own) ∷ old) None (Some own) none
        (ap (λ b. cond b (Some own) (lookup (eq name) old)) (laws.refl name))
        (subst (λ b. Opens b fresh None (Ok tt) (Some own)) (sym is) (inl (refl, ap Some made)))
        (record {
          one = laws.congr name;
          others = λ other apart.
              ap (λ b. cond b (Some own) (lookup (eq other) old)) (laws.symm other name ∙ apart);
        })
