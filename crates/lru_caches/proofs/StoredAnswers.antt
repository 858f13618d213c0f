use Rattle.std.proofs.Common.{◌≡◌, Bool, true, false, cond, List, [], ◌∷◌, Option, Some, None, refl, sym, ap, ◌∙◌}
use Rattle.std.proofs.Common.{subst, unwrap_or, option_map, is_some, arith}
use Rattle.std.specs.Cmp.{IsEquivalence}
use Rattle.std.specs.Map.{lookup}
use Rattle.std.proofs.lemmas.List.{get_or_append_left, length-append}
use Rattle.std.proofs.lemmas.List.Elements.{All-head, All-tail}
use Rattle.std.specs.List.{All}
use Rattle.std.proofs.lemmas.Option.{none-some}
use Rattle.std.specs.declared.alloc.AllocError.{AllocError}
use Rattle.lru_limits.specs.Rules.{Rules, Offers}
use Rattle.lru_model.proofs.CallerLemmas.{lookup-entry, read-all, read_back, inserted-all, inserted-only, all-without}
use Rattle.lru_model.specs.Calls.{Remove, left_of, promoted, written}
use Rattle.lru_model.specs.GetOrInserts.{got, inserted}
use Rattle.lru_model.specs.Inserts.{Insert}
use Rattle.lru_model.specs.Lists.{IsFront, lookup_entry, without}
use Rattle.lru_model.specs.State.{State}
use Rattle.lru_model.specs.Theorems.{EvictsOldest, InsertEnds, KeepsValues}
use Rattle.std.specs.Prelude.{ℕ, Result, Ok}
use Rattle.lru_caches.specs.Answers.{IsAnswer, AreAnswers, Remembers, ReadsLoaded, loaded, failed}

module _ {K V : Type 0} (eq : K → K → Bool) (laws : IsEquivalence eq) (post : K → V → Type 0) where
  pub found_answer : (key : K) (known : List (K × V)) (v : V) → AreAnswers eq post known
      → lookup (eq key) known ≡ Some v → IsAnswer eq post key v
  found_answer key [] v all found = absurd (none-some v found)
  found_answer key (x ∷ xs) v all found =
      go (eq key x.0) refl found (found_answer key xs v (All-tail (λ p. IsAnswer eq post p.0 p.1) x xs all))
    where
      go : (b : Bool) → eq key x.0 ≡ b → cond b (Some x.1) (lookup (eq key) xs) ≡ Some v
          → (lookup (eq key) xs ≡ Some v → IsAnswer eq post key v) → IsAnswer eq post key v
      go true named e later =
          let (k, same, returns) = All-head (λ p. IsAnswer eq post p.0 p.1) x xs all in
          (k, laws.congr key x.0 k named ∙ same, subst (post k) (ap (λ o. unwrap_or o v) e) returns)
      go false named e later = later e

-- what holds after a call that returned the value
pub record Remembered {K V S H : Type 0} (rules : Rules K V S) (offers : Offers K V S K) (eq : K → K → Bool)
    (hash_of : H → K → ℕ) (post : K → V → Type 0) (key : K) (value : V) (old new : State K V S H) : Type 0 where
  pub answer : IsAnswer eq post key value
  pub step : Remembers rules offers eq hash_of key value old new
  pub known : AreAnswers eq post new.pairs

module _ {K V S H : Type 0} (rules : Rules K V S) (offers : Offers K V S K) {eq : K → K → Bool}
    (laws : IsEquivalence eq) (hash_of : H → K → ℕ) (post : K → V → Type 0) (key : K) (value : V)
    (old : State K V S H) (known : AreAnswers eq post old.pairs) where
  pub got_answer : lookup (eq key) old.pairs ≡ Some value
      → Remembered rules offers eq hash_of post key value old (written (eq key) value (promoted (eq key) old))
  got_answer there = record {
    answer = found_answer eq laws post key old.pairs value known there;
    step = (Ok true, got value there refl (read_back (eq key) old value there));
    known = read-all (eq key) old (λ p. IsAnswer eq post p.0 p.1) value there known;
  }

  module _ (keeps : KeepsValues offers) (answers : post key value) {refuses : K × V → Type 0}
      (result : Result Bool AllocError) (new : State K V S H)
      (evicts : EvictsOldest (eq key) refuses (λ pair. pair ∷ without (eq key) old.pairs) old.pairs new.pairs)
      (ends : InsertEnds rules offers eq hash_of key value old result new) where
    pub inserted_known : AreAnswers eq post new.pairs
    inserted_known =
        let only = inserted-only keeps rules eq key old new result ends.says ends.stores in
        inserted-all (λ p. IsAnswer eq post p.0 p.1) (eq key) old.pairs new.pairs evicts known
        (λ p named there. (key, laws.symm p.0 key ∙ named, subst (post key) (sym (only p.1 there)) answers))

    pub inserted_answer : lookup (eq key) old.pairs ≡ None → Insert rules offers eq hash_of key value old result new
        → Remembered rules offers eq hash_of post key value old new
    inserted_answer none insert = record {
      answer = (key, laws.refl key, answers);
      step = (result, inserted none value refl insert);
      known = inserted_known;
    }

pub removed_there : {K V S H : Type 0} (rules : Rules K V S) (names : K → Bool) (old : State K V S H) (value : Option V)
    (new : State K V S H) → Remove rules names old value new → is_some value ≡ is_some (lookup names old.pairs)
removed_there {K} {V} rules names old value new removes =
    ap is_some removes.value ∙ left (lookup_entry names old.pairs) ∙ sym (ap is_some (lookup-entry names old.pairs))
  where
    left : (o : Option (K × V)) → is_some (option_map (λ p. p.1) (left_of rules old.limiter o))
        ≡ is_some (option_map (λ p. p.1) o)
    left None = refl
    left (Some p) = refl

pub removed_known : {K V S H : Type 0} (rules : Rules K V S) (eq : K → K → Bool) (post : K → V → Type 0)
    (names : K → Bool) (old : State K V S H) (value : Option V) (new : State K V S H) → AreAnswers eq post old.pairs
    → Remove rules names old value new → AreAnswers eq post new.pairs
removed_known rules eq post names old value new known removes =
    subst (All (λ p. IsAnswer eq post p.0 p.1)) (sym (ap (λ st. st.pairs) removes.state.is))
    (all-without (λ p. IsAnswer eq post p.0 p.1) names old.pairs known)

pub loaded_as_read : {V E : Type 0} {gives : Result V E → Type 0} {reads : V → V → Type 0} {result : Result V E}
    → ReadsLoaded gives reads result → ((value given : V) → reads value given → given ≡ value) → gives result
loaded_as_read {gives = gives} (loaded value given gave read is) same =
    subst gives (sym is) (subst (λ v. gives (Ok v)) (sym (same value given read)) gave)
loaded_as_read {gives = gives} (failed error gave is) same = subst gives (sym is) gave

pub all_front : {X : Type 0} (P : X → Type 0) (xs ys : List X) → IsFront xs ys → All P ys → All P xs
all_front P xs ys (rest, is) all k d few = subst P (get_or_append_left xs rest d k few)
    (subst (All P) is all k d (omega (arith, few, length-append xs rest)))
