-- How calls change the table: what this costs, how far the table grows, and who permitted it.
use Rattle.std.specs.declared.alloc.AllocError.{AllocError}
use Rattle.std.proofs.Common.{◌≡◌, Bool, Result, ℕ, ◌+◌, ◌*◌, ◌^◌, ◌<◌, ◌≤◌, ◌⊎◌, inl, inr, true, List, length, Some}
use Rattle.std.proofs.Common.{refl, ap, ◌∙◌, subst, arith}
use Rattle.group_table.specs.Sizes.{full_capacity}
use Rattle.lru_limits.specs.Rules.{Rules}
use Rattle.lru_model.specs.Sizes.{usage}
use Rattle.lru_model.specs.State.{State, Counts, buckets, growth_left, Contents, contents, Leaves}
use Rattle.lru_model.specs.Place.{Outcome, placed, refused, no_memory}
use Rattle.lru_model.specs.Inserts.{Settles}
use Rattle.lru_model.proofs.Theorems.Moves.{leaves_keep}
use Rattle.lru_model.proofs.Theorems.Potential.{Pays, IsBounded, pays_trans, pays_calm}

module _ {K V S H : Type 0} where
  -- nothing is inserted: the number of buckets stays, the growth left does not fall, and no pair is added
  pub record Calm (old new : State K V S H) : Type 0 where
    pub hasher : new.hasher ≡ old.hasher
    pub max : new.max ≡ old.max
    pub entry_bytes : new.entry_bytes ≡ old.entry_bytes
    pub counts : new.counts ≡ old.counts
    pub table : buckets new ≡ buckets old
    pub keeps : growth_left old ≤ growth_left new
    pub few : length new.pairs ≤ length old.pairs
    pub fits : length old.pairs + growth_left old ≤ full_capacity (buckets old) → length new.pairs + growth_left new
        ≤ full_capacity (buckets old)

  pub limiter_calm : (st : State K V S H) (s : S) → Calm st (record st { limiter = s })
  limiter_calm st s = record {
    hasher = refl;
    max = refl;
    entry_bytes = refl;
    counts = refl;
    table = refl;
    keeps = omega arith;
    few = omega arith;
    fits = λ h. h;
  }

  pub self_calm : (st : State K V S H) → Calm st st
  self_calm st = limiter_calm st st.limiter

  pub calm_trans : (old mid new : State K V S H) → Calm old mid → Calm mid new → Calm old new
  calm_trans old mid new f g = record {
    hasher = g.hasher ∙ f.hasher;
    max = g.max ∙ f.max;
    entry_bytes = g.entry_bytes ∙ f.entry_bytes;
    counts = g.counts ∙ f.counts;
    table = g.table ∙ f.table;
    keeps = omega (arith, f.keeps, g.keeps);
    few = omega (arith, f.few, g.few);
    fits = λ h. omega (arith, g.fits (omega (arith, f.fits h, ap full_capacity f.table)), ap full_capacity f.table);
  }

  pub leaves_calm : (old : State K V S H) (left : Contents K V S) (new : State K V S H) → Leaves old left new
      → Calm old new
  leaves_calm old left new l = record {
    hasher = ap (λ st. st.hasher) l.is;
    max = ap (λ st. st.max) l.is;
    entry_bytes = ap (λ st. st.entry_bytes) l.is;
    counts = ap (λ st. st.counts) l.is;
    table = l.growth_left.table;
    keeps = l.growth_left.keeps;
    few = omega (arith, l.growth_left.keeps, l.growth_left.at_most);
    fits = λ h. omega (arith, h, l.growth_left.at_most);
  }

  pub settles_calm : (rules : Rules K V S) (outcome : Outcome) (landed : State K V S H)
      (result : Result Bool AllocError) (new : State K V S H)
      → Settles rules outcome landed result new → Calm landed new
  settles_calm rules placed landed result new h = leaves_calm landed _ new h.1
  settles_calm rules refused landed result new h = rw h.1 (self_calm landed)
  settles_calm rules no_memory landed result new h = rw h.1 (self_calm landed)

  pub calm_pays : (old new : State K V S H) → old.counts.shrunk < 2 ^ 64 → Calm old new → Pays 0 old new
  calm_pays old new bound f = pays_calm old new bound
      (ap {A = Counts} (λ c. record c { insertions = old.counts.insertions }) f.counts)
      (omega (arith, f.keeps, ap full_capacity f.table))

  pub calm_bounded : (old new : State K V S H) → Calm old new → IsBounded old → IsBounded new
  calm_bounded old new f ok = record {
    count = rw f.table ok.count;
    addressable = omega (arith, f.table, ok.addressable);
    fits = omega (arith, f.fits ok.fits, ap full_capacity f.table);
    moved = rw f.counts ok.moved;
    placed = rw f.counts ok.placed;
    shrunk = rw f.counts ok.shrunk;
  }

module _ {K V S : Type 0} (rules : Rules K V S) (P : S → Type 0) where
  pub record IsPermitted (entry_bytes count : ℕ) : Type 0 where
    pub bytes : ℕ
    pub usable : usage entry_bytes count ≡ Some bytes
    pub limiter : S
    pub holds : P limiter
    pub granted : (rules.on_grow limiter bytes).allowed ≡ true

module _ {K V S H : Type 0} (rules : Rules K V S) (P : S → Type 0) where
  abbrev pub IsNextCount : State K V S H → ℕ → Type 0
  IsNextCount old count = (count ≤ buckets old) ⊎ IsPermitted rules P old.entry_bytes count

  -- what a call does to the table if it adds at most `more` pairs and rehashes `anew` entries in shrinks
  pub record Tables (more anew : ℕ) (old new : State K V S H) : Type 0 where
    pub hasher : new.hasher ≡ old.hasher
    pub max : new.max ≡ old.max
    pub entry_bytes : new.entry_bytes ≡ old.entry_bytes
    pub count : IsNextCount old (buckets new)
    pub moved : old.counts.moved < 2 ^ 64 → new.counts.moved < 2 ^ 64
    pub pays : IsBounded old → Pays anew old new
    pub little : IsBounded old → buckets old < buckets new → full_capacity (buckets new) < 4 * (length old.pairs + more)

  pub calm_tables : (more : ℕ) (old new : State K V S H) → Calm old new → Tables more 0 old new
  calm_tables more old new f = record {
    hasher = f.hasher;
    max = f.max;
    entry_bytes = f.entry_bytes;
    count = inl (omega (arith, f.table));
    moved = λ bound. rw f.counts bound;
    pays = λ ok. calm_pays old new ok.shrunk f;
    little = λ ok h. absurd (omega (arith, f.table, h));
  }

  pub calm_then : (more : ℕ) (old mid new : State K V S H) → Calm old mid → Tables more 0 mid new
      → Tables more 0 old new
  calm_then more old mid new f t = record {
    hasher = t.hasher ∙ f.hasher;
    max = t.max ∙ f.max;
    entry_bytes = t.entry_bytes ∙ f.entry_bytes;
    count = elim t.count [
      | inl few ↦ inl (omega (arith, few, f.table))
      | inr p ↦ inr
          (subst (λ bytes. IsPermitted rules P bytes (buckets new)) f.entry_bytes p)
    ];
    moved = λ bound. t.moved (rw f.counts bound);
    pays = λ ok. pays_trans (calm_pays old mid ok.shrunk f) (t.pays (calm_bounded old mid f ok));
    little = λ ok h. omega (arith, f.few, t.little (calm_bounded old mid f ok) (omega (arith, f.table, h)));
  }

  pub then_calm : (more : ℕ) (old mid new : State K V S H) → Tables more 0 old mid → Calm mid new
      → Tables more 0 old new
  then_calm more old mid new t f = record {
    hasher = f.hasher ∙ t.hasher;
    max = f.max ∙ t.max;
    entry_bytes = f.entry_bytes ∙ t.entry_bytes;
    count = rw f.table t.count;
    moved = λ bound. rw f.counts (t.moved bound);
    pays = λ ok. pays_trans (t.pays ok) (calm_pays mid new (omega (arith, (t.pays ok).shrunk)) f);
    little = λ ok h. omega (arith, ap full_capacity f.table, t.little ok (omega (arith, f.table, h)));
  }

module _ {K V S H : Type 0} (rules : Rules K V S) (R : Contents K V S → Contents K V S → Type 0) where
  abbrev pub Reaches : State K V S H → S → Type 0
  Reaches old s = (pairs : List (K × V)) × R (contents old) (record { pairs = pairs; limiter = s })

  pub record Changes (more anew : ℕ) (old new : State K V S H) : Type 0 where
    pub moves : R (contents old) (contents new)
    pub tables : Tables rules (Reaches old) more anew old new

  pub calm_changes : (more : ℕ) (old new : State K V S H) → Calm old new → R (contents old) (contents new)
      → Changes more 0 old new
  calm_changes more old new f r = record { moves = r; tables = calm_tables rules _ more old new f }

  pub leaves_changes : (more : ℕ) (old : State K V S H) (left : Contents K V S) (new : State K V S H)
      → Leaves old left new → R (contents old) left → Changes more 0 old new
  leaves_changes more old left new l r = calm_changes more old new (leaves_calm old left new l)
      (leaves_keep R old left new l r)
