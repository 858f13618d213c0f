use Rattle.std.proofs.Common.{◌≡◌, Bool, true, false, not, List, [], ◌∷◌, filter, map, refl, sym, ap, ◌∙◌, subst, cond}
use Rattle.std.proofs.Common.{ℕ, nat_eq, Option, Some, None, Result, Ok, is_ok}
use Rattle.std.proofs.lemmas.Bool.{true≢false}
use Rattle.std.proofs.lemmas.Map.Entries.{lookup-filter-keys}
use Rattle.std.specs.Borrow.{Bor}
use Rattle.std.specs.Cmp.Lexicographic.{bytes_decides}
use Rattle.std.specs.Fn.{Called, Mut}
use Rattle.std.specs.List.{starts_with}
use Rattle.std.specs.Prelude.{IfOk, string_bytes}
use Rattle.std.specs.declared.alloc.Global.{Global}
use Rattle.std.specs.declared.string.String.{String}
use Rattle.lru_limits.specs.Budget.{Budget}
use Rattle.lru_limits.specs.Rules.{Rules}
use Rattle.lru_limits.specs.Texts.{names_text}
use Rattle.lru_model.specs.Retains.{Answers, Retains, retained}
use Rattle.lru_model.specs.Lists.{lookup}
use Rattle.lru_model.specs.State.{State}
use Rattle.lru_tenants.specs.Cache.{Cache, On}
use Rattle.lru_tenants.specs.TenantRuns.{IfOpen, OfOpen}
use Rattle.lru_tenants.specs.declared.counting.Counting.{Counting}
use Rattle.lru_tenants.specs.declared.error.TenantError.{TenantError}
use Rattle.example_responses.specs.LookUps.{Host, GetsCopy, Copies, fresh_at}
use Rattle.example_responses.specs.Purges.{is_below, PurgesBelow}
use Rattle.example_responses.specs.declared.cache.Response.{Response}

module _ {K V L F : Type 0} (rules : Rules K V L) (closure : Mut F (Bor K × (Bor V × Unit {0})) Bool)
    (test : K → Bool) (f : F)
    (same : (key : Bor K) (value : Bor V) (answer : Bool) (g : F) → Called closure f (key, (value, tt)) answer g
    → (answer ≡ test key.now) × (g ≡ f)) where
  kept : (asked : List ((K × V) × Bool)) (g : F) (s : L) → Answers closure f asked g
      → (g ≡ f) × ((retained rules asked s).pairs ≡ filter (λ pair. test pair.0) (map (λ one. one.0) asked))
  kept [] g s is = (is, refl)
  kept ((pair, answer) ∷ older) g s (between, before, asks) =
      let (unchanged, list) = kept older between s before in
      let told = same asks.key asks.value answer g
      (subst (λ h. Called closure h (asks.key, (asks.value, tt)) answer g) unchanged asks.called) in
      (told.1, go answer (test pair.0) (told.0 ∙ ap test asks.shows.0) list)
    where
      go : (answer passes : Bool) → answer ≡ passes
          → (retained rules older s).pairs ≡ filter (λ pair. test pair.0) (map (λ one. one.0) older)
          → (retained rules ((pair, answer) ∷ older) s).pairs
          ≡ cond passes (pair ∷ filter (λ pair. test pair.0) (map (λ one. one.0) older))
          (filter (λ pair. test pair.0) (map (λ one. one.0) older))
      go true true is list = ap (λ l. pair ∷ l) list
      go false false is list = list
      go true false is list = absurd cc
      go false true is list = absurd cc

  module _ {N S : Type 0} {eq : N → N → Bool} (host : N → Bool) (old new : Cache N K V L S)
      (answer : Result (Unit {0}) TenantError) where
    pub retains-filter : On eq host (IfOpen (λ old done new. Retains closure rules f old new)) old answer new
        → On eq host (IfOpen (λ old done new. new.pairs ≡ filter (λ pair. test pair.0) old.pairs)) old answer new
    retains-filter (rest, (does, only)) = (rest, (go (lookup host old.tenants) does, only))
      where
        go : (was : Option (State K V L S))
            → IfOpen (λ old done new. Retains closure rules f old new) was answer (lookup host new.tenants)
            → IfOpen (λ old done new. new.pairs ≡ filter (λ pair. test pair.0) old.pairs) was answer
            (lookup host new.tenants)
        go None does = does
        go (Some own) (result, after, done, says, is) = (
          result,
          after,
          ap (λ st. st.pairs) done.state.is ∙ (kept done.asked done.last own.limiter done.answers).1
              ∙ ap (filter (λ pair. test pair.0)) done.each,
          says,
          is,
        )

module _ {S : Type 0} (prefix path : List ℕ) (below : starts_with nat_eq path prefix ≡ true) where
  none-below : (old new : Host (String Global) S) → PurgesBelow prefix old tt new
      → lookup (names_text path) new.pairs ≡ None
  none-below old new purges = ap (lookup (names_text path)) purges
      ∙ lookup-filter-keys (names_text path) (λ k. not (is_below prefix k)) false
      (λ k named. ap not (ap (λ bytes. starts_with nat_eq bytes prefix)
      (sym ((bytes_decides path (string_bytes k)).0 named)) ∙ below)) old.pairs

pub purged-missing : {N S : Type 0} {eq : N → N → Bool} (host : N → Bool) (prefix path : List ℕ) (now : ℕ)
    → starts_with nat_eq path prefix ≡ true → (old mid new : Cache N (String Global) Response (Counting Budget) S)
    (done : Unit {0}) (answer : Result (Option Response) TenantError)
    → On eq host (IfOpen (PurgesBelow prefix)) old (Ok done) mid
    → On eq host (OfOpen (GetsCopy (names_text path) now)) mid answer new → IfOk answer (λ found. found ≡ None)
purged-missing {N} {S} {eq} host prefix path now below old mid new done answer (rest, (purges, only))
    (more, (looks, others)) = go (lookup host old.tenants) purges
  where
    go : (was : Option (Host (String Global) S)) → IfOpen (PurgesBelow prefix) was (Ok done) (lookup host mid.tenants)
        → IfOk answer (λ found. found ≡ None)
    go None (says, is) = absurd (true≢false (ap is_ok says))
    go (Some was) (result, own, does, says, is) =
        let looked = subst (λ t. OfOpen (GetsCopy (names_text path) now) t answer (lookup host new.tenants)) is looks in
        subst (λ a. IfOk a (λ found. found ≡ None)) (sym (subst (λ o. Copies (fresh_at now o) answer)
        (none-below prefix path below was own does) looked.1)) refl
