use Rattle.std.proofs.Common.{◌≡◌, ℕ, zero, suc, ◌+◌, ◌≤◌, Bool, true, false, List, [], ◌∷◌, ◌++◌, length}
use Rattle.std.proofs.Common.{Result, refl, ap, ◌∙◌, arith, length-append}
use Rattle.std.specs.Prelude.{if◌then◌else◌}
use Rattle.std.specs.declared.alloc.AllocError.{AllocError}
use Rattle.lru_limits.specs.Rules.{Rules, Offers}
use Rattle.lru_model.specs.Lists.{last, without_last}
use Rattle.lru_model.specs.State.{State, Contents, contents, Leaves, notified_of, pop, trim, trim_from}
use Rattle.lru_model.specs.Place.{Place, in_bucket, rehashed, grown, not_grown}
use Rattle.lru_model.specs.Place.{Evicts, nothing_to_evict, finds_bucket, rehashes, CannotGrow, no_target, denied}
use Rattle.lru_model.specs.Place.{OldestEvicted}
use Rattle.lru_model.specs.Place.{Outcome, placed, refused, no_memory, IsPlaced, IsPlacedIfMemory, unstored, asked}
use Rattle.lru_model.specs.Inserts.{Insert, replaced, not_replaced, no_memory_to_admit, not_admitted, admitted}
use Rattle.lru_model.specs.Inserts.{make_room}
use Rattle.lru_model.specs.Inserts.{Settles, PlacesNew, with_replaced, with_removed}
use Rattle.lru_model.specs.Callbacks.{noting, noting_offers, noted, InsertPasses}
use Rattle.lru_model.proofs.Theorems.Limits.{length-without}

module _ {K V S : Type 0} where
  abbrev in_all : Contents K V (S × List (K × V)) → ℕ
  in_all c = length c.pairs + length c.limiter.1

  abbrev in_map : {H : Type 0} → State K V (S × List (K × V)) H → ℕ
  in_map st = length st.pairs + length st.limiter.1

module _ {K V S : Type 0} (rules : Rules K V S) where
  one_noted : (list : List (K × V)) (pair : K × V) → length (list ++ pair ∷ []) ≡ length list + 1
  one_noted list pair = length-append list (pair ∷ [])

  pop_of : (pairs : List (K × V)) (s : S × List (K × V)) → length (without_last pairs)
      + length (notified_of (noting rules) (last pairs) s).1 ≡ length pairs + length s.1
  pop_of [] s = refl
  pop_of (x ∷ []) s = let notified = rules.on_removed s.0 x.0 x.1 in omega
      (arith, one_noted s.1 (notified.key, notified.value))
  pop_of (x ∷ y ∷ ys) s = omega (arith, pop_of (y ∷ ys) s)

  pop_keeps : (c : Contents K V (S × List (K × V))) → in_all (pop (noting rules) c) ≡ in_all c
  pop_keeps c = pop_of c.pairs c.limiter

  either_keeps : (b : Bool) (c d : Contents K V (S × List (K × V))) (n : ℕ) → in_all c ≡ n → in_all d ≡ n
      → in_all (if b then c else d) ≡ n
  either_keeps true c d n e f = e
  either_keeps false c d n e f = f

  way_keeps : (c : Contents K V (S × List (K × V))) → in_all (make_room (noting rules) c) ≡ in_all c
  way_keeps c = either_keeps (rules.is_over_the_limit c.limiter.0 (length c.pairs + 1)) (pop (noting rules) c) c
      (in_all c) (pop_keeps c) refl

  trim_from_keeps : (n : ℕ) (c : Contents K V (S × List (K × V))) → in_all (trim_from (noting rules) n c) ≡ in_all c
  trim_from_keeps zero c = refl
  trim_from_keeps (suc n) c = either_keeps (rules.is_over_the_limit c.limiter.0 (suc n))
      (trim_from (noting rules) n (pop (noting rules) c)) c (in_all c)
      (trim_from_keeps n (pop (noting rules) c) ∙ pop_keeps c) refl

  trim_keeps : (c : Contents K V (S × List (K × V))) → in_all (trim (noting rules) c) ≡ in_all c
  unfolding trim
  trim_keeps c = trim_from_keeps (length c.pairs) c

module _ {K V S H : Type 0} (rules : Rules K V S) where
  left_is : (old new : State K V (S × List (K × V)) H) (left : Contents K V (S × List (K × V))) → Leaves old left new
      → in_map new ≡ in_all left
  left_is old new left leaves = ap in_map leaves.is

  placed_adds : (pair : K × V) (count moves : ℕ) (old new : State K V (S × List (K × V)) H)
      → IsPlaced pair count moves old new → in_map new ≡ in_map old + 1
  placed_adds pair count moves old new is = omega (arith, ap in_map is.state)

  away_adds : (pair : K × V) (old : State K V (S × List (K × V)) H)
      → in_map (unstored (noting rules) pair old) ≡ in_map old + 1
  away_adds pair old = let notified = rules.on_removed old.limiter.0 pair.0 pair.1 in
      omega (arith, one_noted rules old.limiter.1 (notified.key, notified.value))

  memory_adds : (pair : K × V) (count spare moves : ℕ) (old : State K V (S × List (K × V)) H) (outcome : Outcome)
      (new : State K V (S × List (K × V)) H) → IsPlacedIfMemory (noting rules) pair count spare moves old outcome new
      → in_map new ≡ in_map old + 1
  memory_adds pair count spare moves old placed new h = placed_adds pair count moves old new h.0
  memory_adds pair count spare moves old no_memory new h = ap in_map h ∙ away_adds pair old
  memory_adds pair count spare moves old refused new h = absurd h

  gone_keeps : (hash n : ℕ) (old new : State K V (S × List (K × V)) H) → OldestEvicted (noting rules) hash n old new
      → in_map new ≡ in_map old
  gone_keeps hash zero old new h = ap in_map h
  gone_keeps hash (suc n) old new (before, gone, no_bucket, leaves) =
      left_is before new (pop (noting rules) (contents before)) leaves ∙ pop_keeps rules (contents before)
      ∙ gone_keeps hash n old before gone

  cannot_keeps : (old mid : State K V (S × List (K × V)) H) → CannotGrow (noting rules) old mid
      → in_map mid ≡ in_map old
  cannot_keeps old mid (no_target t e) = ap in_map e
  cannot_keeps old mid (denied count bytes t d e) = ap in_map e

  evicts_adds : (hash : ℕ) (pair : K × V) (old mid : State K V (S × List (K × V)) H) (outcome : Outcome)
      (new : State K V (S × List (K × V)) H) → Evicts (noting rules) hash pair old mid outcome new
      → in_map new ≡ in_map mid + 1
  evicts_adds hash pair old mid outcome new (nothing_to_evict e o n) = ap in_map n ∙ away_adds pair mid
  evicts_adds hash pair old mid outcome new (finds_bucket n pos one half left gone fills o p) =
      placed_adds pair _ _ left new p ∙ ap (λ n. n + 1) (gone_keeps hash n mid left gone)
  evicts_adds hash pair old mid outcome new (rehashes some n pos one half left gone m) =
      memory_adds pair _ _ _ left outcome new m ∙ ap (λ n. n + 1) (gone_keeps hash n mid left gone)

  module _ (hash_of : H → K → ℕ) where
    place_adds : (pair : K × V) (old : State K V (S × List (K × V)) H) (outcome : Outcome)
        (new : State K V (S × List (K × V)) H) → Place (noting rules) hash_of pair old outcome new
        → in_map new ≡ in_map old + 1
    place_adds pair old outcome new (in_bucket l f s o p) = placed_adds pair _ _ old new p
    place_adds pair old outcome new (rehashed b l some m) = memory_adds pair _ _ _ old outcome new m
    place_adds pair old outcome new (grown g count bytes t y m) =
        memory_adds pair _ _ _ (asked (noting rules) bytes old) outcome new m
    place_adds pair old outcome new (not_grown g mid cannot e) =
        evicts_adds _ pair old mid outcome new e ∙ ap (λ n. n + 1) (cannot_keeps old mid cannot)

    settles_keeps : (outcome : Outcome) (landed : State K V (S × List (K × V)) H) (result : Result Bool AllocError)
        (new : State K V (S × List (K × V)) H) → Settles (noting rules) outcome landed result new
        → in_map new ≡ in_map landed
    settles_keeps placed landed result new (r, leaves) =
        left_is landed new (trim (noting rules) (contents landed)) leaves ∙ trim_keeps rules (contents landed)
    settles_keeps refused landed result new (r, e) = ap in_map e
    settles_keeps no_memory landed result new (r, e) = ap in_map e

    places_adds : (pair : K × V) (old : State K V (S × List (K × V)) H) (result : Result Bool AllocError)
        (new : State K V (S × List (K × V)) H) → PlacesNew (noting rules) hash_of pair old result new
        → in_map new ≡ in_map old + 1
    places_adds pair old result new (ready, way, (outcome, landed, place, settles)) =
        settles_keeps outcome landed result new settles ∙ place_adds pair ready outcome landed place
        ∙ ap (λ n. n + 1) (left_is old ready (make_room (noting rules) (contents old)) way
        ∙ way_keeps rules (contents old))

module _ {K V S H I : Type 0} (rules : Rules K V S) (offers : Offers K V S I) (names : I → K → Bool)
    (hash_of : H → K → ℕ) (i : I) (v : V) (result : Result Bool AllocError) where
  insert_adds : (old new : State K V (S × List (K × V)) H)
      → Insert (noting rules) (noting_offers offers) names hash_of i v old result new
      → in_map new ≤ in_map old + 1
  insert_adds old new (replaced pair there taken r leaves) =
      let c = with_replaced (noting rules) (noting_offers offers) names pair i v (contents old) in omega (
        arith,
        left_is rules old new (trim (noting rules) c) leaves,
        trim_keeps rules c,
        length-without (names i) old.pairs,
      )
  insert_adds old new (not_replaced pair there untaken r leaves) =
      let by = offers.on_replace old.limiter.0 (length old.pairs) pair.0 i pair.1 v in
      let notified = rules.on_removed by.limiter by.key by.old_value in omega (
        arith,
        left_is rules old new (with_removed (noting rules) (noting_offers offers) names pair i v (contents old))
            leaves,
        one_noted rules old.limiter.1 (notified.key, notified.value),
        length-without (names i) old.pairs,
      )
  insert_adds old new (no_memory_to_admit absent out_of_memory r e) = omega (arith, ap in_map e)
  insert_adds old new (not_admitted absent s given r e) = omega (
    arith,
    ap in_map e,
    ap (λ list. length list) given.1,
  )
  insert_adds old new (admitted absent s pair given places) = omega (
    arith,
    places_adds rules hash_of pair (record old { limiter = s }) result new places,
    ap (λ list. length list) given.1,
  )

  pub few_passed : (old : State K V S H) (passed : List (K × V)) (new : State K V S H)
      → InsertPasses rules offers names hash_of i v old result passed new
      → length passed + length new.pairs ≤ length old.pairs + 1
  few_passed old passed new step = omega (arith, insert_adds (noted [] old) (noted passed new) step)
