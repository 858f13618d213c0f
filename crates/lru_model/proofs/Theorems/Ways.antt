-- How an insertion into the table changes a map, and how an insert does, stated once for all laws.
use Rattle.std.proofs.Common.{◌≡◌, ℕ, ◌+◌, ◌-◌, ◌*◌, ◌<◌, ◌≤◌, inl, inr, Bool, true, [], ◌∷◌, length, Result, refl, sym}
use Rattle.std.proofs.Common.{ap, ◌∙◌, subst, arith}
use Rattle.std.specs.declared.alloc.AllocError.{AllocError}
use Rattle.group_table.specs.Sizes.{full_capacity, IsBucketCount}
use Rattle.lru_limits.specs.Rules.{Rules, Offers}
use Rattle.lru_limits.specs.Laws.{kept_value}
use Rattle.lru_model.specs.Lists.{without, set_entry}
use Rattle.lru_model.specs.State.{State, count_insert, buckets, growth_left, potential, Contents, contents}
use Rattle.lru_model.specs.Sizes.{target, new_table}
use Rattle.lru_model.specs.Place.{Place, in_bucket, rehashed, grown, not_grown, FillsBucket}
use Rattle.lru_model.specs.Place.{nothing_to_evict, finds_bucket, rehashes, Outcome, placed, refused, no_memory}
use Rattle.lru_model.specs.Place.{IsPlaced}
use Rattle.lru_model.specs.Place.{asked, unstored, IsPlacedIfMemory, CannotGrow, no_target, denied}
use Rattle.lru_model.specs.Inserts.{Insert, replaced, not_replaced, no_memory_to_admit, not_admitted, admitted}
use Rattle.lru_model.specs.Inserts.{replacement}
use Rattle.lru_model.specs.Updates.{Update, updated, rejected, not_there}
use Rattle.lru_model.specs.declared.results.Updated.{Updated}
use Rattle.lru_model.proofs.States.LeavingPairs.{length-pops, oldest_leaves, known_is}
use Rattle.lru_model.proofs.TableSizes.Growth.{full_capacity-4, full_capacity-at_most, full_capacity-double}
use Rattle.lru_model.proofs.TableSizes.Growth.{target_doubles}
use Rattle.lru_model.proofs.TableSizes.Growth.{target_usage, first_target-count}
use Rattle.lru_model.proofs.TableSizes.Doubling.{target_small}
use Rattle.lru_model.proofs.Theorems.Potential.{IsBounded, pays_insertion}
use Rattle.lru_model.proofs.Theorems.Moves.{KeepsWay, Keeps, KeepsOffers, behind, exchange, rewrite, leaves_keep}
use Rattle.lru_model.proofs.Theorems.Moves.{pops_keep}
use Rattle.lru_model.proofs.Theorems.Moves.{trim_keeps, make_room_keeps, settles_keep, way_behind}
use Rattle.lru_model.proofs.Theorems.TableGrowth.{settles_calm, Calm, Tables, IsNextCount, Changes, self_calm}
use Rattle.lru_model.proofs.Theorems.TableGrowth.{limiter_calm, leaves_calm, calm_trans, calm_tables, calm_then}
use Rattle.lru_model.proofs.Theorems.TableGrowth.{then_calm, calm_changes, leaves_changes}

module _ {K V S H : Type 0} (rules : Rules K V S) (P : S → Type 0) (pair : K × V) (old : State K V S H) where
  -- the pair is placed in `mid`, in a table that is no larger than the old one or permitted; its moves are paid for
  pub record Fills (mid new : State K V S H) : Type 0 where
    pub count : ℕ
    pub spare : ℕ
    pub moves : ℕ
    pub is : IsPlaced pair count moves mid new
    pub left : growth_left new ≡ spare
    pub next : IsNextCount rules P old count
    pub paid : IsBounded old → moves + (full_capacity count - 2 * spare) ≤ potential old + 2
    pub little : IsBounded old → buckets old < count → full_capacity count < 4 * (length old.pairs + 1)

  -- the pair is stored (`Fills`) or not stored; it is refused only if there are no pairs
  abbrev pub Lands : Outcome → State K V S H → State K V S H → Type 0
  Lands placed mid new = Fills mid new
  Lands refused mid new = (mid.pairs ≡ []) × (new ≡ unstored rules pair mid)
  Lands no_memory mid new = new ≡ unstored rules pair mid

  -- an insertion leads to `mid` by moves that keep R, and ends there as `Lands` says
  pub record MakesWay (R : Contents K V S → Contents K V S → Type 0) (outcome : Outcome)
      (new : State K V S H) : Type 0 where
    pub mid : State K V S H
    pub way : R (contents old) (contents mid)
    pub calm : Calm old mid
    pub lands : Lands outcome mid new

  lands_tables : (outcome : Outcome) (mid new : State K V S H) → Calm old mid → Lands outcome mid new
      → Tables rules P 1 0 old new
  lands_tables placed mid new f l = record {
    hasher = ap (λ x. x.hasher) l.is.state ∙ f.hasher;
    max = ap (λ x. x.max) l.is.state ∙ f.max;
    entry_bytes = ap (λ x. x.entry_bytes) l.is.state ∙ f.entry_bytes;
    count = rw l.is.table l.next;
    moved = λ bound. omega (arith, ap (λ x. x.counts.moved) l.is.state);
    pays = λ ok. pays_insertion old new l.moves ok.placed ok.shrunk
        (ap (λ x. x.counts) l.is.state ∙ ap (count_insert l.moves) f.counts)
        (rw (l.is.table, l.left) (l.paid ok));
    little = λ ok h. rw l.is.table (l.little ok (omega (arith, l.is.table, h)));
  }
  lands_tables refused mid new f l = calm_tables rules P 1 old new
      (rw l.1 (calm_trans old mid (unstored rules pair mid) f (limiter_calm mid _)))
  lands_tables no_memory mid new f l = calm_tables rules P 1 old new
      (rw l (calm_trans old mid (unstored rules pair mid) f (limiter_calm mid _)))

module _ {K V S H : Type 0} (rules : Rules K V S) (R : Contents K V S → Contents K V S → Type 0) (k : KeepsWay rules R)
    (P : S → Type 0) (hash_of : H → K → ℕ) (pair : K × V)
    (old : State K V S H) (holds : P old.limiter) where
  abbrev Ends : Outcome → State K V S H → Type 0
  Ends outcome new = MakesWay rules P pair old R outcome new

  if_memory : (mid : State K V S H) (count spare moves : ℕ) (outcome : Outcome) (new : State K V S H)
      → IsPlacedIfMemory rules pair count spare moves mid outcome new
      → R (contents old) (contents mid) → Calm old mid → IsNextCount rules P old count
      → (IsBounded old → moves + (full_capacity count - 2 * spare) ≤ potential old + 2)
      → (IsBounded old → buckets old < count → full_capacity count < 4 * (length old.pairs + 1)) → Ends outcome new
  if_memory mid count spare moves placed new h r f next paid little =
      record {
        mid = mid;
        way = r;
        calm = f;
        lands = record {
          count = count;
          spare = spare;
          moves = moves;
          is = h.0;
          left = h.1;
          next = next;
          paid = paid;
          little = little;
        };
      }
  if_memory mid count spare moves no_memory new h r f next paid little =
      record { mid = mid; way = r; calm = f; lands = h }
  if_memory mid count spare moves refused new h r f next paid little = absurd h

  self : R (contents old) (contents old)
  self = k.self (contents old)

  same_little : IsBounded old → buckets old < buckets old → full_capacity (buckets old) < 4 * (length old.pairs + 1)
  same_little ok h = absurd (omega (arith, h))

  fills : (outcome : Outcome) (new : State K V S H) → outcome ≡ placed
      → IsPlaced pair (buckets old) 0 old new
      → (IsBounded old → full_capacity (buckets old) - 2 * growth_left new ≤ potential old + 2) → Ends outcome new
  fills outcome new o p paid = rw o (if_memory old _ (growth_left new) 0 placed new (p, refl) self (self_calm old) (inl (omega arith))
      (λ ok. omega (arith, paid ok)) same_little)

  known : (mid : State K V S H) → CannotGrow rules old mid → R (contents old) (contents mid) × Calm old mid
  known mid (no_target t e) = rw e (self, self_calm old)
  known mid (denied count bytes t d e) = rw e (k.asked bytes (contents old), limiter_calm old _)

  pub place_lands : (outcome : Outcome) (new : State K V S H) → Place rules hash_of pair old outcome new
      → Ends outcome new
  place_lands outcome new (in_bucket l f s o n) = fills outcome new o n (λ ok. spends s)
    where
      spends : FillsBucket (hash_of old.hasher pair.0) old.table new.table
          → full_capacity (buckets old) - 2 * growth_left new ≤ potential old + 2
      spends f = elim f.spends [ inl e ↦ omega (arith, e.1) | inr d ↦ omega (arith, d.2) ]
  place_lands outcome new (rehashed b l some m) =
      if_memory old _ _ _ outcome new m self (self_calm old) (inl (omega arith))
      (λ ok. omega (arith, b.no_growth_left, ok.fits)) same_little
  place_lands outcome new (grown b count bytes t g m) = if_memory (asked rules bytes old) count _ _ outcome new m
      (k.asked bytes (contents old)) (limiter_calm old _)
      (inr (record {
        bytes = bytes;
        usable = target_usage old.max old.entry_bytes (buckets old) (length old.pairs + 1) count bytes t;
        limiter = old.limiter;
        holds = holds;
        granted = g;
      }))
      (λ ok. large ok ok.count) (λ ok h. small ok ok.count)
    where
      first : IsBounded old → buckets old ≡ 0 → (count ≡ 4) × (length old.pairs ≡ 0)
      first ok none =
          let no_pairs : length old.pairs ≡ 0 = omega (arith, ok.fits, none, full_capacity-at_most (buckets old)) in (
            first_target-count old.max old.entry_bytes count bytes
                (subst (λ n. target old.max old.entry_bytes 0 (n + 1) ≡ new_table count bytes) no_pairs
                (subst (λ n. target old.max old.entry_bytes n (length old.pairs + 1) ≡ new_table count bytes) none t)),
            no_pairs,
          )

      large : IsBounded old → IsBucketCount (buckets old)
          → length old.pairs + (full_capacity count - 2 * (full_capacity count - length old.pairs - 1))
          ≤ potential old + 2
      large ok (inl none) = let (four, no_pairs) = first ok none in
          omega (arith, ap full_capacity four ∙ full_capacity-4, no_pairs)
      large ok (inr j) = omega (
        arith,
        b.no_bucket.no_growth_left,
        ok.fits,
        full_capacity-double j.0 (buckets old) count j.1
            (target_doubles j.0 old.max old.entry_bytes (buckets old) (length old.pairs + 1) count bytes j.1 t),
      )

      small : IsBounded old → IsBucketCount (buckets old) → full_capacity count < 4 * (length old.pairs + 1)
      small ok (inl none) = omega (arith, ap full_capacity (first ok none).0 ∙ full_capacity-4)
      small ok (inr j) = target_small j.0 old.max old.entry_bytes (buckets old)
          (length old.pairs + 1) count bytes j.1 b.above_half t
  place_lands outcome new (not_grown b mid c (nothing_to_evict e o n)) = let (r, s) = known mid c in
      rw o (record { mid = mid; way = r; calm = s; lands = (none mid c e, n) })
    where
      none : (mid : State K V S H) → CannotGrow rules old mid → old.pairs ≡ [] → mid.pairs ≡ []
      none mid c e = ap (λ st. st.pairs) (known_is rules old mid c) ∙ e
  place_lands outcome new (not_grown b mid c (finds_bucket n pos one half left gone fills o p)) = let (r, s) =
      known mid c in
      let lv = oldest_leaves rules _ n mid left gone in
      rw o (if_memory left _ (growth_left new) 0 placed new (p, refl)
      (k.trans r (leaves_keep R mid _ left lv (pops_keep rules R k n (contents mid))))
      (calm_trans old mid left s (leaves_calm mid _ left lv)) (inl (omega arith))
      (λ ok. omega (arith, b.no_bucket.no_growth_left)) same_little)
  place_lands outcome new (not_grown b mid c (rehashes some n pos one half left gone m)) = let (r, s) = known mid c in
      let lv = oldest_leaves rules _ n mid left gone in
      if_memory left _ _ _ outcome new m
      (k.trans r (leaves_keep R mid _ left lv (pops_keep rules R k n (contents mid))))
      (calm_trans old mid left s (leaves_calm mid _ left lv)) (inl (omega arith))
      (λ ok. omega (
        arith,
        b.no_bucket.no_growth_left,
        half,
        s.few,
        ap (λ st. length st.pairs) lv.is,
        length-pops rules n (contents mid),
      ))
      same_little

  pub place_tables : (outcome : Outcome) (new : State K V S H) → Place rules hash_of pair old outcome new
      → Tables rules P 1 0 old new
  place_tables outcome new p = let m = place_lands outcome new p in
      lands_tables rules P pair old outcome m.mid new m.calm m.lands

pub placed_some : {K V S H : Type 0} (rules : Rules K V S) (hash_of : H → K → ℕ) (pair : K × V)
    (old new : State K V S H) → Place rules hash_of pair old placed new → 0 < length new.pairs
placed_some rules hash_of pair old new p =
    let any : KeepsWay rules (λ _ _. Unit {0}) =
    record { self = λ _. tt; trans = λ _ _. tt; asked = λ _ _. tt; popped = λ _. tt } in
    let lands = place_lands rules _ any (λ _. Unit {0}) hash_of pair old tt placed new p in
    omega (arith, ap (λ st. length st.pairs) lands.lands.is.state)

module _ {K V S : Type 0} (rules : Rules K V S) (R : Contents K V S → Contents K V S → Type 0) (k : Keeps rules R) where
  place_keeps : {H : Type 0} (hash_of : H → K → ℕ) (pair : K × V) (old : State K V S H) (outcome : Outcome)
      (new : State K V S H) → Place rules hash_of pair old outcome new
      → R (behind pair (contents old)) (contents new)
  place_keeps {H} hash_of pair old outcome new p =
      let m = place_lands rules _ (way_behind rules R k pair) (λ _. Unit {0}) hash_of pair old tt outcome new p in
      end outcome m.mid m.way m.lands
    where
      away : (mid : State K V S H) → R (behind pair (contents old)) (behind pair (contents mid)) → new
          ≡ unstored rules pair mid → R (behind pair (contents old)) (contents new)
      away mid r e = subst (R _) (sym (ap contents e)) (k.way.trans r (k.left (λ _. true) (behind pair (contents mid))))

      end : (outcome : Outcome) (mid : State K V S H) → R (behind pair (contents old)) (behind pair (contents mid))
          → Lands rules (λ _. Unit {0}) pair old outcome mid new
          → R (behind pair (contents old)) (contents new)
      end placed mid r l = subst (R _) (sym (ap contents l.is.state)) r
      end refused mid r l = away mid r l.1
      end no_memory mid r l = away mid r l

module _ {K V S H I : Type 0} {rules : Rules K V S} {offers : Offers K V S I} {names : I → K → Bool}
    {R : Contents K V S → Contents K V S → Type 0} (k : KeepsOffers rules offers names R) (i : I) (v : V)
    (old : State K V S H) where
  -- a replacement keeps R; w is the value that stays in the pair
  exchanges : (pair : K × V) (w : V) → kept_value (replacement rules offers names pair i v (contents old)) ≡ w
      → R (contents old) (exchange rules offers names pair i v (contents old))
      → R (contents old) (record {
        pairs = ((replacement rules offers names pair i v (contents old)).key, w) ∷ without (names i) old.pairs;
        limiter = (replacement rules offers names pair i v (contents old)).limiter;
      })
  exchanges pair w e r = subst
      (λ x. R (contents old)
      (record {
        pairs = ((replacement rules offers names pair i v (contents old)).key, x) ∷ without (names i) old.pairs;
        limiter = (replacement rules offers names pair i v (contents old)).limiter;
      })) e r

  rewrites : (pair : K × V) (w : V) → kept_value (replacement rules offers names pair i v (contents old)) ≡ w
      → R (contents old) (rewrite rules offers names pair i v (contents old))
      → R (contents old) (record {
        pairs = set_entry (names i) ((replacement rules offers names pair i v (contents old)).key, w) old.pairs;
        limiter = (replacement rules offers names pair i v (contents old)).limiter;
      })
  rewrites pair w e r = subst
      (λ x. R (contents old)
      (record {
        pairs = set_entry (names i) ((replacement rules offers names pair i v (contents old)).key, x) old.pairs;
        limiter = (replacement rules offers names pair i v (contents old)).limiter;
      })) e r

  pub update_changes : (result : Updated V) (new : State K V S H) → Update rules offers names i v old result new
      → Changes rules R 0 0 old new
  update_changes result new (updated pair found y r l) =
      leaves_changes rules R 0 old _ new l
      (k.keeps.way.trans (rewrites pair _ (rw y refl) (k.rewritten i v (contents old) pair found))
      (trim_keeps rules R k.keeps.way _))
  update_changes result new (rejected pair found y r l) =
      leaves_changes rules R 0 old _ new l
      (k.keeps.way.trans (exchanges pair _ (rw y refl) (k.exchanged i v (contents old) pair found))
      (k.keeps.left (λ _. true) _))
  update_changes result new (not_there a r e) = rw e
      (calm_changes rules R 0 old old (self_calm old) (k.keeps.way.self (contents old)))

  pub insert_changes : {hash_of : H → K → ℕ} (result : Result Bool AllocError) (new : State K V S H)
      → Insert rules offers names hash_of i v old result new → Changes rules R 1 0 old new
  insert_changes result new (replaced pair found y r l) =
      leaves_changes rules R 1 old _ new l
      (k.keeps.way.trans (exchanges pair _ (rw y refl) (k.exchanged i v (contents old) pair found))
      (trim_keeps rules R k.keeps.way _))
  insert_changes result new (not_replaced pair found y r l) =
      leaves_changes rules R 1 old _ new l
      (k.keeps.way.trans (exchanges pair _ (rw y refl) (k.exchanged i v (contents old) pair found))
      (k.keeps.left (λ _. true) _))
  insert_changes result new (no_memory_to_admit a l r e) = rw e
      (calm_changes rules R 1 old old (self_calm old) (k.keeps.way.self (contents old)))
  insert_changes result new (not_admitted a s n r e) = rw e
      (calm_changes rules R 1 old _ (limiter_calm old s) (k.turned_down i v (contents old) s n))
  insert_changes {hash_of} result new (admitted a s pair n (ready, l, (outcome, landed, p, t))) =
      let start : State K V S H = record old { limiter = s } in
      let hand = way_behind rules R k.keeps pair in
      let reached = k.keeps.way.trans (k.came i v (contents old) s pair a n)
      (leaves_keep (λ c d. R (behind pair c) (behind pair d)) start _ ready l
      (make_room_keeps rules _ hand (contents start))) in
      record {
        moves = k.keeps.way.trans reached
            (k.keeps.way.trans (place_keeps rules R k.keeps hash_of pair ready outcome landed p)
            (settles_keep rules R k.keeps.way outcome landed result new t));
        tables = calm_then rules _ 1 old start new (limiter_calm old s)
            (calm_then rules _ 1 start ready new (leaves_calm start _ ready l)
            (then_calm rules _ 1 ready landed new
            (place_tables rules _ hand _ hash_of pair ready (_, reached) outcome landed p)
            (settles_calm rules outcome landed result new t)));
      }
