use Rattle.std.proofs.Common.{◌≡◌, ℕ, Bool, true, false, Option, Some, None, Result, Ok, Err, List, [], ◌∷◌, length}
use Rattle.std.proofs.Common.{inl, refl, sym, ap, ◌∙◌, arith}
use Rattle.std.proofs.lemmas.Option.{same_Some}
use native.Mathlib.Decide.{dec_lt}
use Rattle.std.specs.declared.alloc.AllocError.{AllocError}
use Rattle.group_table.specs.Bucket.{growth_left as growth_left_of}
use Rattle.group_table.specs.Change.{count_up}
use Rattle.group_table.specs.Sizes.{full_capacity, buckets_for}
use Rattle.lru_model.specs.Shrinks.{Shrink, IsLooseFor, shrink_counted, kept, shrunk, no_memory_to_shrink}
use Rattle.lru_model.specs.State.{State, empty_table, buckets, IsSized}
use Rattle.lru_model.proofs.States.EmptyMaps.{empty_is_sound}

pub none_needed : (max count : ℕ) → buckets_for max 0 ≡ Some count → count ≡ 0
unfolding buckets_for
none_needed max count is = sym (same_Some 0 count is)

no_growth_left : growth_left_of [] ≡ full_capacity 0
unfolding growth_left_of
no_growth_left = omega arith

module _ {K V S H : Type 0} (old : State K V S H) (ok : IsSized old) where
  abbrev pub CanShrink : Type 0
  CanShrink = (result : Result Bool AllocError) × (new : State K V S H) × Shrink old result new × IsSized new

  some_loose : (count : ℕ) → IsLooseFor count old → (pairs : List (K × V)) → old.pairs ≡ pairs → CanShrink
  some_loose count loose [] none =
      let few : length old.pairs ≡ 0 = ap length none in
      let needs : buckets_for old.max 0 ≡ Some count = ap (buckets_for old.max) (sym few) ∙ loose.0 in
      let gone : count ≡ 0 = none_needed old.max count needs in
      let new : State K V S H = record old {
        table = empty_table;
        counts = record (shrink_counted old).counts { insertions = count_up old.counts.insertions (length old.pairs) };
      } in
      let bare = empty_is_sound old.entry_bytes old.max in (
        Ok true,
        new,
        shrunk count loose refl
            (record {
              table = sym gone;
              exact = omega (arith, few, no_growth_left, ap full_capacity gone);
              state = refl;
            }),
        record {
          table = bare.table;
          taken = bare.taken ∙ sym few;
          reachable = inl refl;
          usable = bare.usable;
          moved = ok.moved;
          placed = ok.placed;
          shrunk = omega arith;
        },
      )
  some_loose count loose (x ∷ xs) some =
      (Err (record {}), old, no_memory_to_shrink count loose (omega (arith, ap length some)) refl refl, ok)

  pub some_shrink : CanShrink
  some_shrink = go (buckets_for old.max (length old.pairs)) refl
    where
      go : (need : Option ℕ) → buckets_for old.max (length old.pairs) ≡ need → CanShrink
      go None is = (Ok false, old, kept (rw is tt) refl refl, ok)
      go (Some count) is = elim (dec_lt count (buckets old)) [
        | no many ↦ (Ok false, old, kept (rw is (omega (arith, many))) refl refl, ok)
        | yes fewer ↦ some_loose count (is, fewer) old.pairs refl
      ]
