use Rattle.std.proofs.Common.{◌≡◌, ℕ, zero, suc, ◌+◌, Bool, true, false, List, [], ◌∷◌, length, Option, Some, None}
use Rattle.std.proofs.Common.{Result, refl}
use Rattle.std.proofs.Common.{ap, ◌∙◌, subst}
use Rattle.std.specs.Prelude.{if◌then◌else◌}
use Rattle.std.specs.declared.alloc.AllocError.{AllocError}
use Rattle.lru_limits.specs.Rules.{Rules, Offers}
use Rattle.lru_model.specs.Lists.{last}
use Rattle.lru_model.specs.State.{State, Contents, contents, Leaves, Trims, notified_of, pop, trim}
use Rattle.lru_model.specs.State.{trim_from}
use Rattle.lru_model.specs.Place.{Place, in_bucket, rehashed, grown, not_grown}
use Rattle.lru_model.specs.Place.{Evicts, nothing_to_evict, finds_bucket, rehashes, CannotGrow, no_target, denied}
use Rattle.lru_model.specs.Place.{OldestEvicted}
use Rattle.lru_model.specs.Place.{Outcome, placed, refused, no_memory, IsPlaced, IsPlacedIfMemory}
use Rattle.lru_model.specs.Inserts.{Insert, replaced, not_replaced, no_memory_to_admit, not_admitted, admitted}
use Rattle.lru_model.specs.Inserts.{make_room}
use Rattle.lru_model.specs.Inserts.{Settles, PlacesNew}
use Rattle.lru_model.specs.Callbacks.{noting, noting_offers, noted}
use Rattle.lru_model.specs.Retains.{retained, Retains, RetainPasses}
use Rattle.lru_model.specs.Updates.{Update, updated, rejected, not_there}
use Rattle.lru_model.specs.declared.results.Updated.{Updated}
use Rattle.std.specs.Borrow.{Bor}
use Rattle.std.specs.Fn.{Mut}

module _ {K V S : Type 0} where
  abbrev pub plain : {H : Type 0} → State K V (S × List (K × V)) H → State K V S H
  plain st = record {
    pairs = st.pairs;
    limiter = st.limiter.0;
    hasher = st.hasher;
    table = st.table;
    counts = st.counts;
    entry_bytes = st.entry_bytes;
    max = st.max;
  }

  abbrev plain_contents : Contents K V (S × List (K × V)) → Contents K V S
  plain_contents c = record { pairs = c.pairs; limiter = c.limiter.0 }

module _ {K V S : Type 0} (rules : Rules K V S) where
  plain_notified : (was : Option (K × V)) (s : S × List (K × V)) → (notified_of (noting rules) was s).0 ≡ notified_of
      rules was s.0
  plain_notified None s = refl
  plain_notified (Some pair) s = refl

  plain_pop : (c : Contents K V (S × List (K × V)))
      → plain_contents (pop (noting rules) c) ≡ pop rules (plain_contents c)
  plain_pop c = ap {A = S} {B = Contents K V S} (λ s. record { pairs = (pop (noting rules) c).pairs; limiter = s })
      (plain_notified (last c.pairs) c.limiter)

  plain_if : (b : Bool) (c d : Contents K V (S × List (K × V))) (p q : Contents K V S) → plain_contents c ≡ p
      → plain_contents d ≡ q → plain_contents (if b then c else d) ≡ (if b then p else q)
  plain_if true c d p q e f = e
  plain_if false c d p q e f = f

  plain_make_room : (c : Contents K V (S × List (K × V)))
      → plain_contents (make_room (noting rules) c) ≡ make_room rules (plain_contents c)
  plain_make_room c = plain_if (rules.is_over_the_limit c.limiter.0 (length c.pairs + 1)) (pop (noting rules) c) c
      (pop rules (plain_contents c)) (plain_contents c) (plain_pop c) refl

  plain_trim_from : (n : ℕ) (c : Contents K V (S × List (K × V)))
      → plain_contents (trim_from (noting rules) n c) ≡ trim_from rules n (plain_contents c)
  plain_trim_from zero c = refl
  plain_trim_from (suc n) c = plain_if (rules.is_over_the_limit c.limiter.0 (suc n))
      (trim_from (noting rules) n (pop (noting rules) c)) c
      (trim_from rules n (pop rules (plain_contents c))) (plain_contents c)
      (plain_trim_from n (pop (noting rules) c) ∙ ap (trim_from rules n) (plain_pop c)) refl

  plain_trim : (c : Contents K V (S × List (K × V))) → plain_contents (trim (noting rules) c)
      ≡ trim rules (plain_contents c)
  unfolding trim
  plain_trim c = plain_trim_from (length c.pairs) c

module _ {K V S H : Type 0} where
  plain_leaves : (old new : State K V (S × List (K × V)) H) (left : Contents K V (S × List (K × V)))
      (c : Contents K V S) → plain_contents left ≡ c → Leaves old left new → Leaves (plain old) c (plain new)
  plain_leaves old new left c e leaves = subst (λ c. Leaves (plain old) c (plain new)) e
      (record { is = ap plain leaves.is; growth_left = leaves.growth_left })

  plain_placed : (pair : K × V) (count moves : ℕ) (old new : State K V (S × List (K × V)) H)
      → IsPlaced pair count moves old new → IsPlaced pair count moves (plain old) (plain new)
  plain_placed pair count moves old new is = record { table = is.table; state = ap plain is.state }

module _ {K V S H : Type 0} (rules : Rules K V S) where
  plain_if_memory : (pair : K × V) (count spare moves : ℕ) (old : State K V (S × List (K × V)) H) (outcome : Outcome)
      (new : State K V (S × List (K × V)) H) → IsPlacedIfMemory (noting rules) pair count spare moves old outcome new
      → IsPlacedIfMemory rules pair count spare moves (plain old) outcome (plain new)
  plain_if_memory pair count spare moves old placed new h = (plain_placed pair count moves old new h.0, h.1)
  plain_if_memory pair count spare moves old no_memory new h = ap plain h
  plain_if_memory pair count spare moves old refused new h = h

  plain_gone : (hash n : ℕ) (old new : State K V (S × List (K × V)) H) → OldestEvicted (noting rules) hash n old new
      → OldestEvicted rules hash n (plain old) (plain new)
  plain_gone hash zero old new h = ap plain h
  plain_gone hash (suc n) old new (before, gone, no_bucket, leaves) = (
    plain before,
    plain_gone hash n old before gone,
    no_bucket,
    plain_leaves before new (pop (noting rules) (contents before)) (pop rules (contents (plain before)))
        (plain_pop rules (contents before)) leaves,
  )

  plain_cannot : (old mid : State K V (S × List (K × V)) H) → CannotGrow (noting rules) old mid
      → CannotGrow rules (plain old) (plain mid)
  plain_cannot old mid (no_target t e) = no_target t (ap plain e)
  plain_cannot old mid (denied count bytes t d e) = denied count bytes t d (ap plain e)

  plain_evicts : (hash : ℕ) (pair : K × V) (old mid : State K V (S × List (K × V)) H) (outcome : Outcome)
      (new : State K V (S × List (K × V)) H) → Evicts (noting rules) hash pair old mid outcome new
      → Evicts rules hash pair (plain old) (plain mid) outcome (plain new)
  plain_evicts hash pair old mid outcome new (nothing_to_evict e o n) = nothing_to_evict e o (ap plain n)
  plain_evicts hash pair old mid outcome new (finds_bucket n pos one half left gone fills o p) =
      finds_bucket n pos one half (plain left) (plain_gone hash n mid left gone) fills o
      (plain_placed pair _ _ left new p)
  plain_evicts hash pair old mid outcome new (rehashes some n pos one half left gone m) =
      rehashes some n pos one half (plain left) (plain_gone hash n mid left gone)
      (plain_if_memory pair _ _ _ left outcome new m)

  module _ (hash_of : H → K → ℕ) where
    plain_place : (pair : K × V) (old : State K V (S × List (K × V)) H) (outcome : Outcome)
        (new : State K V (S × List (K × V)) H) → Place (noting rules) hash_of pair old outcome new
        → Place rules hash_of pair (plain old) outcome (plain new)
    plain_place pair old outcome new (in_bucket l f s o p) = in_bucket l f s o
        (plain_placed pair _ _ old new p)
    plain_place pair old outcome new (rehashed b l some m) =
        rehashed b l some (plain_if_memory pair _ _ _ old outcome new m)
    plain_place pair old outcome new (grown g count bytes t y m) =
        grown g count bytes t y (plain_if_memory pair count _ _ _ outcome new m)
    plain_place pair old outcome new (not_grown g mid cannot e) = not_grown g (plain mid)
        (plain_cannot old mid cannot) (plain_evicts _ pair old mid outcome new e)

    plain_settles : (outcome : Outcome) (landed : State K V (S × List (K × V)) H) (result : Result Bool AllocError)
        (new : State K V (S × List (K × V)) H) → Settles (noting rules) outcome landed result new
        → Settles rules outcome (plain landed) result (plain new)
    plain_settles placed landed result new (r, leaves) = (
      r,
      plain_leaves landed new (trim (noting rules) (contents landed)) (trim rules (contents (plain landed)))
          (plain_trim rules (contents landed)) leaves,
    )
    plain_settles refused landed result new (r, e) = (r, ap plain e)
    plain_settles no_memory landed result new (r, e) = (r, ap plain e)

    plain_places : (pair : K × V) (old : State K V (S × List (K × V)) H) (result : Result Bool AllocError)
        (new : State K V (S × List (K × V)) H) → PlacesNew (noting rules) hash_of pair old result new
        → PlacesNew rules hash_of pair (plain old) result (plain new)
    plain_places pair old result new (ready, way, (outcome, landed, place, settles)) = (
      plain ready,
      plain_leaves old ready (make_room (noting rules) (contents old)) (make_room rules (contents (plain old)))
          (plain_make_room rules (contents old)) way,
      (
        outcome,
        plain landed,
        plain_place pair ready outcome landed place,
        plain_settles outcome landed result new settles,
      ),
    )

module _ {K V S H I : Type 0} {rules : Rules K V S} {offers : Offers K V S I} {names : I → K → Bool}
    {hash_of : H → K → ℕ} {i : I} {v : V} {result : Result Bool AllocError} where
  plain_insert_of : (old new : State K V (S × List (K × V)) H)
      → Insert (noting rules) (noting_offers offers) names hash_of i v old result new
      → Insert rules offers names hash_of i v (plain old) result (plain new)
  plain_insert_of old new (replaced pair there taken r leaves) =
      replaced pair there taken r (plain_leaves old new _ _ (plain_trim rules _) leaves)
  plain_insert_of old new (not_replaced pair there untaken r leaves) =
      not_replaced pair there untaken r (plain_leaves old new _ _ refl leaves)
  plain_insert_of old new (no_memory_to_admit absent runs_out r e) = no_memory_to_admit absent runs_out r (ap plain e)
  plain_insert_of old new (not_admitted absent s given r e) = not_admitted absent s.0 given.0 r (ap plain e)
  plain_insert_of old new (admitted absent s pair given places) =
      admitted absent s.0 pair given.0 (plain_places rules hash_of pair _ result new places)

  pub plain_insert : {before after : List (K × V)} {old new : State K V S H}
      → Insert (noting rules) (noting_offers offers) names hash_of i v (noted before old) result (noted after new)
      → Insert rules offers names hash_of i v old result new
  plain_insert {before} {after} {old} {new} step = plain_insert_of (noted before old) (noted after new) step

module _ {K V S H I : Type 0} {rules : Rules K V S} {offers : Offers K V S I} {names : I → K → Bool} {i : I} {v : V}
    {result : Updated V} where
  pub plain_update : {before after : List (K × V)} {old new : State K V S H}
      → Update (noting rules) (noting_offers offers) names i v (noted before old) result (noted after new)
      → Update rules offers names i v old result new
  plain_update {before} {after} {old} {new} (updated pair there taken r leaves) = updated pair there taken r
      (plain_leaves (noted before old) (noted after new) _ _ (plain_trim rules _) leaves)
  plain_update {before} {after} {old} {new} (rejected pair there untaken r leaves) = rejected pair there untaken r
      (plain_leaves (noted before old) (noted after new) _ _ refl leaves)
  plain_update (not_there none r e) = not_there none r (ap plain e)

pub plain_trims : {K V S H : Type 0} (rules : Rules K V S) (before after : List (K × V)) (old new : State K V S H)
    → Trims (noting rules) (noted before old) (noted after new) → Trims rules old new
plain_trims rules before after old new step = plain_leaves (noted before old) (noted after new) _
    (trim rules (contents old)) (plain_trim rules (contents (noted before old))) step

module _ {K V S : Type 0} (rules : Rules K V S) where
  plain_retained : (asked : List ((K × V) × Bool)) (s : S × List (K × V))
      → plain_contents (retained (noting rules) asked s) ≡ retained rules asked s.0
  plain_retained [] s = refl
  plain_retained ((pair, true) ∷ older) s =
      ap {A = Contents K V S} {B = Contents K V S} (λ c. record { pairs = pair ∷ c.pairs; limiter = c.limiter })
      (plain_retained older s)
  plain_retained ((pair, false) ∷ older) s = ap {A = Contents K V S} {B = Contents K V S}
      (λ c. record { pairs = c.pairs; limiter = notified_of rules (Some pair) c.limiter }) (plain_retained older s)

  pub plain_retains : {H F : Type 0} (closure : Mut F (Bor K × (Bor V × Unit {0})) Bool) (f : F) (passed : List (K × V))
      (old new : State K V S H) → RetainPasses rules closure f old passed new → Retains closure rules f old new
  plain_retains closure f passed old new step = record {
    asked = step.asked;
    each = step.each;
    last = step.last;
    answers = step.answers;
    state = plain_leaves (noted [] old) (noted passed new) _ (retained rules step.asked old.limiter)
        (plain_retained step.asked (old.limiter, [])) step.state;
  }
