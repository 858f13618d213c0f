use Rattle.std.proofs.Common.{◌≡◌, ℕ, ◌<◌, ◌⊎◌, inl, inr, Bool, List, length, Result, Ok, Err, refl, sym, ap, ◌∙◌}
use Rattle.std.proofs.Common.{subst, arith}
use Rattle.std.specs.Prelude.{IsErr, OnErr}
use Rattle.std.specs.declared.alloc.AllocError.{AllocError}
use Rattle.group_table.specs.Bucket.{BucketState, growth_left as growth_left_of}
use Rattle.lru_limits.specs.Rules.{Rules, Offers}
use Rattle.lru_model.specs.State.{State, IsMap, buckets, growth_left}
use Rattle.lru_model.specs.Place.{Place, in_bucket, rehashed, grown, not_grown}
use Rattle.lru_model.specs.Place.{nothing_to_evict, finds_bucket, rehashes, Outcome, placed, refused, no_memory}
use Rattle.lru_model.specs.Inserts.{Insert, replaced, not_replaced, no_memory_to_admit, not_admitted, admitted}
use Rattle.lru_model.specs.Inserts.{make_room}
use Rattle.lru_model.specs.Inserts.{Settles, NeedsMemory, IsOutOfMemory}
use Rattle.lru_model.specs.Lists.{IsFront}
use Rattle.lru_model.proofs.Theorems.Fronts.{front_same, front_trans, front_make_room}
use Rattle.lru_model.proofs.Theorems.InsertAnswers.{place_comes, insert_says, insert_stores}
use Rattle.lru_model.proofs.Theorems.Runs.{any_step_same}
use Rattle.lru_model.specs.Runs.{calls, inserts}
use Rattle.lru_model.specs.Theorems.{InsertEnds}
use Rattle.lru_limits.specs.Laws.{IsLookup, IsInsertion}
use Rattle.lru_limits.specs.Rules.{Rules, Offers}
use Rattle.lru_model.proofs.States.Outcomes.{placed-not_no_memory, refused-not_no_memory, ok-not_err}
use Rattle.lru_model.proofs.TableSizes.Growth.{full_capacity-at_most}

pub no_growth_left : (states : List BucketState) → length states ≡ 0 → growth_left_of states ≡ 0
unfolding growth_left_of
no_growth_left states e = omega (arith, full_capacity-at_most (length states))

module _ {K V S H : Type 0} (rules : Rules K V S) (hash_of : H → K → ℕ) (pair : K × V) (old : State K V S H) where
  abbrev pub LacksTable : Type 0
  LacksTable = (growth_left old ≡ 0) × ((buckets old ≡ 0) ⊎ (0 < length old.pairs))

  pub place_runs_out : (new : State K V S H) (outcome : Outcome) → outcome ≡ no_memory
      → Place rules hash_of pair old outcome new → LacksTable
  place_runs_out new outcome q (in_bucket l f s o n) = placed-not_no_memory (sym o ∙ q)
  place_runs_out new outcome q (rehashed b l some m) = (b.no_growth_left, inr (some q))
  place_runs_out new outcome q (grown b count bytes t g m) = (b.no_bucket.no_growth_left, b.begun)
  place_runs_out new outcome q (not_grown b mid c (nothing_to_evict e o n)) = refused-not_no_memory (sym o ∙ q)
  place_runs_out new outcome q (not_grown b mid c (finds_bucket n pos one half left gone fills o p)) =
      placed-not_no_memory (sym o ∙ q)
  place_runs_out new outcome q (not_grown b mid c (rehashes some n pos one half left gone m)) =
      (b.no_bucket.no_growth_left, inr some)

module _ {K V S H I : Type 0} {rules : Rules K V S} {offers : Offers K V S I} {names : I → K → Bool}
    {hash_of : H → K → ℕ} {i : I} {v : V} {old : State K V S H} {result : Result Bool AllocError}
    {new : State K V S H} where
  pub err_is : IsErr result → Insert rules offers names hash_of i v old result new
      → IsOutOfMemory rules offers names hash_of i v old new
  err_is h (replaced pair found y r l) = ok-not_err result (rw r refl) h
  err_is h (not_replaced pair found y r l) = ok-not_err result (rw r refl) h
  err_is h (no_memory_to_admit a k r e) = (a, inl (k, e))
  err_is h (not_admitted a s n r e) = ok-not_err result (rw r refl) h
  err_is h (admitted a s pair n (ready, l, (outcome, landed, p, t))) = (a, inr (go outcome p t))
    where
      short : LacksTable rules hash_of pair ready → NeedsMemory rules offers names hash_of i v old
      short k = record {
        no_growth_left = omega (arith, l.growth_left.keeps, k.0);
        s = s;
        pair = pair;
        given = n;
        needed = side k.1;
      }
        where
          side : (buckets ready ≡ 0) ⊎ (0 < length ready.pairs) → (buckets old ≡ 0)
              ⊎ (0 < length (make_room rules (record { pairs = old.pairs; limiter = s })).pairs)
          side (inl b) = inl (sym l.growth_left.table ∙ b)
          side (inr f) = inr (subst (λ ps. 0 < length ps) (ap (λ st. st.pairs) l.is) f)

      go : (outcome : Outcome) → Place rules hash_of pair ready outcome landed
          → Settles rules outcome landed result new → NeedsMemory rules offers names hash_of i v old
      go placed p t = ok-not_err result (rw t.0 refl) h
      go refused p t = ok-not_err result (rw t.0 refl) h
      go no_memory p t = short (place_runs_out rules hash_of pair ready landed no_memory refl p)

  pub err_keeps : IsErr result → Insert rules offers names hash_of i v old result new → IsFront new.pairs old.pairs
  err_keeps h (replaced pair found y r l) = ok-not_err result (rw r refl) h
  err_keeps h (not_replaced pair found y r l) = ok-not_err result (rw r refl) h
  err_keeps h (no_memory_to_admit a k r e) = front_same (ap (λ st. st.pairs) e)
  err_keeps h (not_admitted a s n r e) = ok-not_err result (rw r refl) h
  err_keeps h (admitted a s pair n (ready, l, (outcome, landed, p, t))) = go outcome p t
    where
      go : (outcome : Outcome) → Place rules hash_of pair ready outcome landed
          → Settles rules outcome landed result new → IsFront new.pairs old.pairs
      go placed p t = ok-not_err result (rw t.0 refl) h
      go refused p t = ok-not_err result (rw t.0 refl) h
      go no_memory p t = front_trans _ (front_same (ap (λ st. st.pairs) t.1))
          (front_trans _ (place_comes rules hash_of pair ready no_memory landed p)
          (front_trans _ (front_same (ap (λ st. st.pairs) l.is))
          (front_make_room rules (record { pairs = old.pairs; limiter = s }))))

pub on_err : {A : Type 0} (result : Result Bool AllocError) → (IsErr result → A) → OnErr result A
on_err (Ok b) h = tt
on_err (Err e) h = h refl

module _ {K V S H I : Type 0} {rules : Rules K V S} {offers : Offers K V S I} {names : I → K → Bool}
    {hash_of : H → K → ℕ} {eq : K → K → Bool} {query_input : I → List (List ℕ)} {key_input : K → List (List ℕ)}
    (looks_up : IsLookup names eq query_input key_input) (laws : IsInsertion names eq offers) {i : I} {v : V}
    {old : State K V S H} (map : IsMap eq old) {result : Result Bool AllocError} {new : State K V S H} where
  pub insert_ends : Insert rules offers names hash_of i v old result new
      → InsertEnds rules offers names hash_of i v old result new
  insert_ends step = record {
    says = insert_says looks_up laws map.distinct step;
    stores = λ yes. insert_stores yes step;
    out_of_memory = on_err result (λ failed. err_is failed step);
    keeps = on_err result (λ failed. err_keeps failed step);
    hasher = (any_step_same old new (calls (inserts i v result step))).0;
  }
