use Rattle.std.proofs.Common.{◌≡◌, ℕ, ◌≤◌, inl, Bool, true, false, length, Result, Ok, refl, sym, ap, ◌∙◌}
use Rattle.std.proofs.Common.{subst, arith}
use Rattle.std.proofs.lemmas.Bool.{false≢true}
use Rattle.std.proofs.lemmas.Option.{same_Some}
use Rattle.std.specs.declared.alloc.AllocError.{AllocError}
use Rattle.group_table.specs.Change.{count_up}
use Rattle.group_table.specs.Sizes.{full_capacity, buckets_for}
use Rattle.lru_limits.specs.Rules.{Rules}
use Rattle.lru_model.specs.Sizes.{usage}
use Rattle.lru_model.specs.State.{State, buckets, potential, Contents, contents, MovesTo}
use Rattle.lru_model.specs.Shrinks.{Shrink, shrink_counted, kept, shrunk, no_memory_to_shrink}
use Rattle.lru_model.specs.Theorems.{UsesAtMost}
use Rattle.lru_model.proofs.TableSizes.Budgets.{usage_fewer}
use Rattle.lru_model.proofs.Theorems.Moves.{KeepsWay}
use Rattle.lru_model.proofs.Theorems.TableGrowth.{Changes, self_calm, calm_changes}
use Rattle.lru_model.proofs.Theorems.Potential.{Pays}

module _ {K V S H : Type 0} (old : State K V S H) where
  pub shrunk_list : (result : Result Bool AllocError) (new : State K V S H) → Shrink old result new
      → (new.pairs ≡ old.pairs) × (new.limiter ≡ old.limiter) × (new.counts.moved ≡ old.counts.moved)
      × (new.counts.placed ≡ old.counts.placed)
  shrunk_list result new (kept t r e) = rw e (refl, refl, refl, refl)
  shrunk_list result new (shrunk count l r m) = (
    ap (λ st. st.pairs) m.state,
    ap (λ st. st.limiter) m.state,
    ap (λ st. st.counts.moved) m.state,
    ap (λ st. st.counts.placed) m.state,
  )
  shrunk_list result new (no_memory_to_shrink count l some r e) = rw e (refl, refl, refl, refl)

  pub shrink_contents : (result : Result Bool AllocError) (new : State K V S H) → Shrink old result new
      → contents new ≡ contents old
  shrink_contents result new (kept t r e) = ap contents e
  shrink_contents result new (shrunk count l r m) = ap contents m.state
  shrink_contents result new (no_memory_to_shrink count l some r e) = ap contents e

  pub moved_pays : (count : ℕ) (new : State K V S H) → MovesTo count (shrink_counted old) new
      → Pays (length old.pairs) old new
  moved_pays count new m = record {
    placed = omega (arith, ap (λ st. st.counts.placed) m.state);
    shrunk = ap (λ st. st.counts.shrunk) m.state;
    moved = λ below. omega (
      arith,
      m.exact,
      ap full_capacity m.table,
      ap (λ st. st.counts.moved) m.state,
      ap (λ st. st.counts.placed) m.state,
    );
  }

  pub shrink_pays : (new : State K V S H) → Shrink old (Ok true) new
      → (new.counts.shrunk ≡ count_up old.counts.shrunk (length old.pairs)) × (potential new ≤ length old.pairs)
  shrink_pays new (kept t r e) = absurd cc
  shrink_pays new (shrunk count l r m) = (
    ap (λ st. st.counts.shrunk) m.state,
    omega (arith, m.exact, ap full_capacity m.table),
  )
  shrink_pays new (no_memory_to_shrink count l some r e) = absurd (false≢true r)

  pub shrink_kept : (result : Result Bool AllocError) (new : State K V S H) → (result ≡ Ok true → ⊥)
      → Shrink old result new → new ≡ old
  shrink_kept result new other (kept t r e) = e
  shrink_kept result new other (shrunk count l r m) = absurd (other r)
  shrink_kept result new other (no_memory_to_shrink count l some r e) = e

  pub shrink_fewer : (result : Result Bool AllocError) (new : State K V S H) → Shrink old result new
      → buckets new ≤ buckets old
  shrink_fewer result new (kept t r e) = omega (arith, ap buckets e)
  shrink_fewer result new (shrunk count l r m) = omega (arith, m.table, l.1)
  shrink_fewer result new (no_memory_to_shrink count l some r e) = omega (arith, ap buckets e)

  shrink_bytes : (result : Result Bool AllocError) (new : State K V S H) → Shrink old result new
      → new.entry_bytes ≡ old.entry_bytes
  shrink_bytes result new (kept t r e) = ap (λ st. st.entry_bytes) e
  shrink_bytes result new (shrunk count l r m) = ap (λ st. st.entry_bytes) m.state
  shrink_bytes result new (no_memory_to_shrink count l some r e) = ap (λ st. st.entry_bytes) e

  pub shrink_uses : (result : Result Bool AllocError) (new : State K V S H) (most : ℕ) → Shrink old result new
      → UsesAtMost most old → UsesAtMost most new
  shrink_uses result new most step uses =
      let fewer = usage_fewer old.entry_bytes (buckets new) (buckets old) uses.0 (shrink_fewer result new step) uses.1
      in (
        fewer.0,
        ap (λ bytes. usage bytes (buckets new)) (shrink_bytes result new step)
            ∙ fewer.1,
        omega (arith, fewer.2, uses.2),
      )

  pub shrink_again : (mid : State K V S H) (result : Result Bool AllocError) (new : State K V S H)
      → Shrink old (Ok true) mid → Shrink mid result new → result ≡ Ok false
  shrink_again mid result new (kept t r e) step = absurd cc
  shrink_again mid result new (no_memory_to_shrink count l some r e) step = absurd (false≢true r)
  shrink_again mid result new (shrunk count l r m) (kept t s e) = s
  shrink_again mid result new (shrunk count l r m) (shrunk other k s e) =
      let same : count ≡ other = same_Some count other (sym l.0 ∙ needs ∙ k.0) in
      absurd (omega (arith, same, k.1, m.table))
    where
      needs : buckets_for old.max (length old.pairs) ≡ buckets_for mid.max (length mid.pairs)
      needs = ap (λ st. buckets_for st.max (length st.pairs)) (sym m.state)
  shrink_again mid result new (shrunk count l r m) (no_memory_to_shrink other k some s e) =
      let same : count ≡ other = same_Some count other (sym l.0 ∙ needs ∙ k.0) in
      absurd (omega (arith, same, k.1, m.table))
    where
      needs : buckets_for old.max (length old.pairs) ≡ buckets_for mid.max (length mid.pairs)
      needs = ap (λ st. buckets_for st.max (length st.pairs)) (sym m.state)

module _ {K V S H : Type 0} (rules : Rules K V S) (R : Contents K V S → Contents K V S → Type 0) (k : KeepsWay rules R)
    (old : State K V S H) where
  remains : (new : State K V S H) → new ≡ old → (anew : ℕ) × Changes rules R 0 anew old new
  remains new e = rw e (0, calm_changes rules R 0 old old (self_calm old) (k.self (contents old)))

  pub shrink_changes : (result : Result Bool AllocError) (new : State K V S H) → Shrink old result new
      → (anew : ℕ) × Changes rules R 0 anew old new
  shrink_changes result new (kept t r e) = remains new e
  shrink_changes result new (shrunk count l r m) = (
    length old.pairs,
    record {
      moves = subst (R (contents old)) (sym (ap contents m.state)) (k.self (contents old));
      tables = record {
        hasher = ap (λ st. st.hasher) m.state;
        max = ap (λ st. st.max) m.state;
        entry_bytes = ap (λ st. st.entry_bytes) m.state;
        count = inl (omega (arith, m.table, l.1));
        moved = λ bound. omega (arith, ap (λ st. st.counts.moved) m.state, bound);
        pays = λ ok. moved_pays old count new m;
        little = λ ok h. absurd (omega (arith, m.table, l.1, h));
      };
    },
  )
  shrink_changes result new (no_memory_to_shrink count l some r e) = remains new e
