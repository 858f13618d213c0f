-- What each call except inserts and shrinks changes in a map.
use Rattle.std.proofs.Common.{◌≡◌, ℕ, zero, suc, ◌+◌, ◌≤◌, inl, inr, Bool, true, List, [], ◌∷◌, length, replicate}
use Rattle.std.proofs.Common.{Option, Result, refl, sym, ap, subst, arith}
use Rattle.std.specs.Prelude.{map}
use Rattle.std.specs.List.{count_by}
use Rattle.std.proofs.lemmas.List.{length-replicate}
use Rattle.std.proofs.lemmas.Map.{length-set_value}
use Rattle.group_table.specs.Sizes.{full_capacity, IsBucketCount}
use Rattle.group_table.specs.Bucket.{BucketState, empty, is_used, growth_left as growth_left_of}
use Rattle.lru_limits.specs.Rules.{Rules}
use Rattle.lru_model.specs.State.{State, buckets, Contents, contents, MovesTo, Leaves, Trims}
use Rattle.lru_model.specs.Calls.{promoted, demoted, written, pop_first, Remove, PopOldest, PopNewest, cleared}
use Rattle.lru_model.specs.Place.{asked}
use Rattle.lru_model.specs.declared.results.ReserveError.{ReserveError}
use Rattle.lru_model.specs.Drains.{pops_first, Drained}
use Rattle.lru_model.specs.Retains.{retained}
use Rattle.lru_model.specs.Reservations.{Reserve, unchanged, rehashed, reserved, asked_only}
use Rattle.lru_model.proofs.TableSizes.Growth.{full_capacity-at_most, full_capacity-double, target_doubles}
use Rattle.lru_model.proofs.TableSizes.Growth.{target_usage}
use Rattle.lru_model.proofs.Theorems.Potential.{IsBounded, pays_calm}
use Rattle.lru_model.proofs.Theorems.Moves.{KeepsWay, Keeps, leaves_keep, pops_keep, trim_keeps}
use Rattle.lru_model.proofs.Theorems.TableGrowth.{Calm, IsNextCount, Reaches, Changes, self_calm, limiter_calm}
use Rattle.lru_model.proofs.Theorems.TableGrowth.{leaves_calm, calm_trans, calm_changes, leaves_changes}
use Rattle.lru_model.proofs.States.Promotions.{length-front_pairs, length-back_pairs}
use Rattle.lru_model.proofs.Theorems.RetainedPairs.{retained_keeps}

module _ {K V S : Type 0} {rules : Rules K V S} {R : Contents K V S → Contents K V S → Type 0} (k : Keeps rules R) where
  pop_first_keeps : (c : Contents K V S) → R c (pop_first rules c)
  pop_first_keeps c = go c.pairs c.limiter
    where
      go : (xs : List (K × V)) (s : S) → R (record { pairs = xs; limiter = s })
          (pop_first rules (record { pairs = xs; limiter = s }))
      go [] s = k.way.self _
      go (x ∷ xs) s = k.left (λ _. true) (record { pairs = x ∷ xs; limiter = s })

  pops_first_keep : (n : ℕ) (c : Contents K V S) → R c (pops_first rules n c)
  pops_first_keep zero c = k.way.self c
  pops_first_keep (suc n) c = k.way.trans (pop_first_keeps c) (pops_first_keep n (pop_first rules c))

pub room_cleared : (n : ℕ) → growth_left_of (replicate n empty) ≡ full_capacity n
unfolding growth_left_of
room_cleared n = omega (arith, none_used n, ap full_capacity (length-replicate {A = BucketState} n empty))
  where
    none_used : (n : ℕ) → count_by (is_used {A = Unit {0}}) (replicate n empty) ≡ 0
    none_used zero = refl
    none_used (suc n) = none_used n

room_within : (states : List BucketState) → growth_left_of states ≤ full_capacity (length states)
unfolding growth_left_of
room_within states = omega arith

module _ {K V S H : Type 0} (rules : Rules K V S) (old : State K V S H) where
  pub pairs_calm : (pairs : List (K × V)) (places : List ℕ) → length pairs ≡ length old.pairs
      → Calm old (record old { pairs = pairs; table = record old.table { places = places } })
  pairs_calm pairs places same = record {
    hasher = refl;
    max = refl;
    entry_bytes = refl;
    counts = refl;
    table = refl;
    keeps = omega arith;
    few = omega (arith, same);
    fits = λ f. omega (arith, f, same);
  }

  pub cleared_calm : Calm old (cleared rules old)
  cleared_calm = record {
    hasher = refl;
    max = refl;
    entry_bytes = refl;
    counts = refl;
    table = length-replicate {A = BucketState} (buckets old) empty;
    keeps = omega (arith, room_cleared (buckets old), room_within old.table.states);
    few = omega arith;
    fits = λ f. omega (arith, room_cleared (buckets old));
  }

module _ {K V S H : Type 0} {rules : Rules K V S} {R : Contents K V S → Contents K V S → Type 0} (k : Keeps rules R)
    (old : State K V S H) where
  pub promoted_changes : (test : K → Bool) → Changes rules R 0 0 old (promoted test old)
  promoted_changes test = calm_changes rules R 0 old _ (pairs_calm rules old _ _ (length-front_pairs test old.pairs))
      (k.first test (contents old))

  pub demoted_changes : (test : K → Bool) → Changes rules R 0 0 old (demoted test old)
  demoted_changes test = calm_changes rules R 0 old _ (pairs_calm rules old _ _ (length-back_pairs test old.pairs))
      (k.last test (contents old))

  pub remove_changes : (test : K → Bool) (result : Option V) (new : State K V S H) → Remove rules test old result new
      → Changes rules R 0 0 old new
  remove_changes test result new h = leaves_changes rules R 0 old _ new h.state (k.left test (contents old))

  pub pop_oldest_changes : (result : Option (K × V)) (new : State K V S H) → PopOldest rules old result new
      → Changes rules R 0 0 old new
  pop_oldest_changes result new h = leaves_changes rules R 0 old _ new h.state (k.way.popped (contents old))

  pub trim_changes : (new : State K V S H) → Trims rules old new → Changes rules R 0 0 old new
  trim_changes new h = leaves_changes rules R 0 old _ new h (trim_keeps rules R k.way (contents old))

  pub retain_changes : (asked : List ((K × V) × Bool)) (new : State K V S H) → map (λ one. one.0) asked ≡ old.pairs
      → Leaves old (retained rules asked old.limiter) new → Changes rules R 0 0 old new
  retain_changes asked new each h =
      leaves_changes rules R 0 old _ new h (retained_keeps rules R k asked (contents old) each)

  pub pop_newest_changes : (result : Option (K × V)) (new : State K V S H) → PopNewest rules old result new
      → Changes rules R 0 0 old new
  pop_newest_changes result new h = leaves_changes rules R 0 old _ new h.state (pop_first_keeps k (contents old))

  pub cleared_changes : Changes rules R 0 0 old (cleared rules old)
  cleared_changes = calm_changes rules R 0 old _ (cleared_calm rules old) (k.cleared (contents old))

  pub drain_changes : (newest oldest : ℕ) (result : List (K × V)) (new : State K V S H)
      → Drained rules newest oldest old result new → Changes rules R 0 0 old new
  drain_changes newest oldest result new h = let (mid, l, e) = h.state in
      let r = k.way.trans (pops_first_keep k newest (contents old)) (pops_keep rules R k.way oldest _) in
      rw e (calm_changes rules R 0 old _ (calm_trans old mid _ (leaves_calm old _ mid l) (cleared_calm rules mid))
      (k.way.trans (leaves_keep R old _ mid l r) (k.cleared (contents mid))))

module _ {K V S H : Type 0} (rules : Rules K V S) (R : Contents K V S → Contents K V S → Type 0)
    (old : State K V S H) where
  pub written_changes : (test : K → Bool) (value : V) → R (contents old) (contents (written test value old))
      → Changes rules R 0 0 old (written test value old)
  written_changes test value r = calm_changes rules R 0 old _
      (pairs_calm rules old _ _ (length-set_value test old.pairs value)) r

  pub set_changes : (s : S) → R (contents old) (record { pairs = old.pairs; limiter = s })
      → Changes rules R 0 0 old (record old { limiter = s })
  set_changes s r = calm_changes rules R 0 old _ (limiter_calm old s) r

module _ {K V S H : Type 0} {rules : Rules K V S} {R : Contents K V S → Contents K V S → Type 0} (k : KeepsWay rules R)
    (n : ℕ) (old : State K V S H) where
  abbrev pub Grows : State K V S H → Type 0
  Grows new = Changes rules R (suc (full_capacity (buckets new))) 0 old new

  remains : (new : State K V S H) → new ≡ old → Grows new
  remains new e = rw e (calm_changes rules R _ old old (self_calm old) (k.self (contents old)))

  asks_only : (bytes : ℕ) (new : State K V S H) → new ≡ asked rules bytes old → Grows new
  asks_only bytes new e = rw e (calm_changes rules R _ old _ (limiter_calm old _) (k.asked bytes (contents old)))

  reserves : (s : S) (new : State K V S H) (count : ℕ) → MovesTo count (record old { limiter = s }) new
      → R (contents old) (record { pairs = old.pairs; limiter = s })
      → IsNextCount rules (Reaches rules R old) old count
      → (IsBounded old → full_capacity (buckets old) ≤ full_capacity count) → Grows new
  reserves s new count m r next large = record {
    moves = subst (R (contents old)) (sym (ap contents m.state)) r;
    tables = record {
      hasher = ap (λ x. x.hasher) m.state;
      max = ap (λ x. x.max) m.state;
      entry_bytes = ap (λ x. x.entry_bytes) m.state;
      count = rw m.table next;
      moved = λ bound. omega (arith, ap (λ x. x.counts.moved) m.state, bound);
      pays = λ ok. pays_calm old new ok.shrunk
          (ap (λ x. record x.counts { insertions = old.counts.insertions }) m.state)
          (omega (arith, ap full_capacity m.table, m.exact, large ok, ok.fits));
      little = λ ok h. omega arith;
    };
  }

  pub reserve_changes : (result : Result (Unit {0}) ReserveError) (new : State K V S H)
      → Reserve rules n old result new → Grows new
  reserve_changes result new (unchanged why e) = remains new e
  reserve_changes result new (rehashed l t r m) =
      reserves old.limiter new _ m (k.self (contents old)) (inl (omega arith))
      (λ ok. omega arith)
  reserve_changes result new (reserved l count bytes t g r m) = reserves _ new count m (k.asked bytes (contents old))
      (inr (record {
        bytes = bytes;
        usable = target_usage old.max old.entry_bytes (buckets old) (length old.pairs + n) count bytes t;
        limiter = old.limiter;
        holds = (_, k.self (contents old));
        granted = g;
      }))
      (λ ok. larger ok.count)
    where
      larger : IsBucketCount (buckets old) → full_capacity (buckets old) ≤ full_capacity count
      larger (inl z) = omega (arith, z, full_capacity-at_most (buckets old))
      larger (inr j) = omega (
        arith,
        full_capacity-double j.0 (buckets old) count j.1
            (target_doubles j.0 old.max old.entry_bytes (buckets old) (length old.pairs + n) count bytes j.1 t),
      )
  reserve_changes result new (asked_only l count bytes t f e) = asks_only bytes new e
