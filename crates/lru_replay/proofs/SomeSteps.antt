-- If a map has a sound table, and a line spells a call, some reply and some map after the call are permitted.
use Rattle.std.proofs.Common.{◌≡◌, ◌⊎◌, ℕ, zero, suc, ◌+◌, ◌≤◌}
use Rattle.std.proofs.Common.{[], ◌++◌, length, inl, inr, refl, sym, subst, arith}
use Rattle.std.specs.Prelude.{nat_eq}
use Rattle.lru_limits.specs.Admissions.{Terms, offers_of}
use Rattle.lru_limits.specs.Rules.{Rules}
use Rattle.lru_model.specs.Calls.{pop_first, cleared}
use Rattle.lru_model.specs.State.{Contents, growth_left, contents, Leaves, IsSized}
use Rattle.lru_model.specs.Drains.{pops_first, newest_given}
use Rattle.lru_model.proofs.CallerLemmas.{promoted_sized, demoted_sized, cleared_sized, some_insert, some_update}
use Rattle.lru_model.proofs.CallerLemmas.{some_leave, some_reservation, some_shrink, length-without}
use Rattle.lru_model.proofs.CallerLemmas.{length-without_first, length-without_last}
use Rattle.lru_replay.specs.declared.calls.Call.{Call}
use Rattle.lru_replay.specs.declared.calls.Call.TheVariants as calls
use Rattle.lru_replay.specs.declared.lines.figures.Figures.{Figures}
use Rattle.lru_replay.specs.Figures.{IsFigures}
use Rattle.lru_replay.specs.LineRuns.{AnswersCall}
use Rattle.lru_replay.specs.Maps.{Map, hash_of}
use Rattle.lru_replay.specs.Replies.{Reply, updated, listed, reserved, shrunk, stats, no_memory, insert_reply}
use Rattle.lru_replay.proofs.SpelledWords.{HasLine}

module _ {S : Type 0} (rules : Rules ℕ ℕ S) (terms : Terms ℕ ℕ S) (old : Map S) (ok : IsSized old) where
  abbrev pub CanEnd : Call ℕ ℕ S → Type 0
  CanEnd call = (reply : Reply ℕ ℕ) × (new : Map S)
      × AnswersCall rules (offers_of terms) old call reply new × IsSized new

  leaving : {IsOther : Reply ℕ ℕ → Map S → Type 0} (said : Reply ℕ ℕ) (left : Contents ℕ ℕ S)
      → length left.pairs ≤ length old.pairs → (reply : Reply ℕ ℕ) × (new : Map S)
      × (((reply ≡ said) × Leaves old left new) ⊎ IsOther reply new) × IsSized new
  leaving said left fewer =
      let (new, leaves, sized, freed) = some_leave old left ok fewer in (said, new, inl (refl, leaves), sized)

  fewer_left : (n : ℕ) (c : Contents ℕ ℕ S) → length (pops_first rules n c).pairs ≤ length c.pairs
  fewer_left zero c = omega arith
  fewer_left (suc n) c = omega (arith, fewer_left n (pop_first rules c), length-without_first c.pairs)

  some_drain : (n : ℕ) → CanEnd (calls.Drain n 0)
  some_drain n =
      let pairs = newest_given rules n (contents old) ++ [] in
      let (mid, leaves, sized, freed) = some_leave old (pops_first rules n (contents old)) ok
      (fewer_left n (contents old)) in (
        listed pairs,
        cleared rules mid,
        inl (pairs, record { pairs = refl; state = (mid, leaves, refl) }, refl),
        cleared_sized rules mid sized,
      )

  pub some_step : (call : Call ℕ ℕ S) → HasLine call → CanEnd call
  some_step (calls.Insert k v) has =
      let (result, new, is, after) = some_insert rules (offers_of terms) nat_eq hash_of k v old ok
      (λ s count key value. (_, _, record { limiter = refl; pair = refl })) in
      (insert_reply result, new, inl (result, is, refl), after)
  some_step (calls.InsertWith k v) has = (no_memory, old, inr (tt, refl, refl), ok)
  some_step (calls.Update k v) has = let (result, new, is, after) = some_update rules (offers_of terms) nat_eq k v old ok in
      (updated result, new, inl (result, is, refl), after)
  some_step (calls.Get k) has = (_, _, inl (refl, refl), promoted_sized old (nat_eq k) ok)
  some_step (calls.Promote k) has = (_, _, inl (refl, refl), promoted_sized old (nat_eq k) ok)
  some_step (calls.Demote k) has = (_, _, inl (refl, refl), demoted_sized old (nat_eq k) ok)
  some_step (calls.Remove k) has = leaving _ _ (length-without (nat_eq k) old.pairs)
  some_step (calls.RemoveEntry k) has = leaving _ _ (length-without (nat_eq k) old.pairs)
  some_step (calls.Reserve n) has = let (result, new, is, after) = some_reservation rules n old ok in
      (reserved result, new, inl (result, is, refl), after)
  some_step calls.Shrink has = let (result, new, is, after) = some_shrink old ok in
      (shrunk result, new, inl (result, is, refl), after)
  some_step (calls.Drain n back) has = subst (λ b. CanEnd (calls.Drain n b)) (sym has) (some_drain n)
  some_step calls.PopOldest has = leaving _ _ (omega (arith, length-without_last old.pairs))
  some_step calls.PopNewest has = leaving _ _ (length-without_first old.pairs)
  some_step calls.Clear has = (_, _, inl (refl, refl), cleared_sized rules old ok)
  some_step calls.Stats has =
      let figures : Figures = record {
        len = length old.pairs;
        capacity = length old.pairs + growth_left old;
        memory = ok.usable.0;
        moved = old.counts.moved;
        placed = old.counts.placed;
        shrunk = old.counts.shrunk;
      } in
      let are : IsFigures old figures = record {
        len = refl;
        capacity = refl;
        memory = ok.usable.1;
        moved = refl;
        placed = refl;
        shrunk = refl;
      } in
      (stats figures, old, inl (figures, (are, refl), refl), ok)
  some_step (calls.GetOrInsert k v) has = absurd has
  some_step (calls.GetByHash hash k) has = absurd has
  some_step (calls.PeekByHash hash k) has = absurd has
  some_step (calls.Write k v) has = absurd has
  some_step calls.Trim has = absurd has
  some_step (calls.SetLimiter s) has = absurd has
  some_step call has = (_, _, inl (refl, refl), ok)
