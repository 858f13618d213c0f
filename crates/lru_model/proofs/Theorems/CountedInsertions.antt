use Rattle.std.proofs.Common.{◌≡◌, ℕ, Bool, Result, refl, sym, ap, subst, arith}
use Rattle.std.specs.declared.alloc.AllocError.{AllocError}
use Rattle.lru_limits.specs.Rules.{Rules, Offers}
use Rattle.lru_model.specs.State.{State}
use Rattle.lru_model.specs.Place.{Place, Outcome, placed, refused, no_memory, unstored}
use Rattle.lru_model.specs.Inserts.{Insert, replaced, not_replaced, no_memory_to_admit, not_admitted, admitted}
use Rattle.lru_model.specs.Theorems.{CountsInsertions}
use Rattle.lru_model.proofs.Theorems.Moves.{keeps_any}
use Rattle.lru_model.proofs.Theorems.TableGrowth.{Calm, calm_trans, self_calm, limiter_calm, leaves_calm, settles_calm}
use Rattle.lru_model.proofs.Theorems.Ways.{Lands, place_lands}

module _ {K V S H : Type 0} where
  calm_counts : (old new : State K V S H) → Calm old new → CountsInsertions old.counts new.counts
  calm_counts old new c = subst (CountsInsertions old.counts) (sym c.counts) (λ p m n. refl)

  around_counts : (old mid end new : State K V S H) → Calm old mid → Calm end new → CountsInsertions mid.counts end.counts
      → CountsInsertions old.counts new.counts
  around_counts old mid end new first last counts = subst (CountsInsertions old.counts) (sym last.counts)
      (subst (λ c. CountsInsertions c end.counts) first.counts counts)

module _ {K V S H : Type 0} (rules : Rules K V S) (hash_of : H → K → ℕ) (pair : K × V) (old : State K V S H) where
  place_counts : (outcome : Outcome) (new : State K V S H) → Place rules hash_of pair old outcome new
      → CountsInsertions old.counts new.counts
  place_counts outcome new step =
      let way = place_lands rules (λ c d. Unit {0}) keeps_any.way (λ _. Unit {0}) hash_of pair old tt outcome new step
      in
      around_counts old way.mid new new way.calm (self_calm new) (land outcome way.mid way.lands)
    where
      away : (mid : State K V S H) → new ≡ unstored rules pair mid → CountsInsertions mid.counts new.counts
      away mid e = rw e (calm_counts mid (unstored rules pair mid)
          (limiter_calm mid (unstored rules pair mid).limiter))

      land : (outcome : Outcome) (mid : State K V S H) → Lands rules (λ _. Unit {0}) pair old outcome mid new
          → CountsInsertions mid.counts new.counts
      land placed mid l = λ p m n.
          let counts = ap (λ st. st.counts) l.is.state in
          omega (arith, ap (λ c. c.insertions) counts, ap (λ c. c.moved) counts, ap (λ c. c.placed) counts, p, m, n)
      land refused mid l = away mid l.1
      land no_memory mid l = away mid l

module _ {K V S H I : Type 0} {rules : Rules K V S} {offers : Offers K V S I} {names : I → K → Bool}
    {hash_of : H → K → ℕ} {i : I} {v : V} {old : State K V S H} {result : Result Bool AllocError}
    {new : State K V S H} where
  pub insert_counts : Insert rules offers names hash_of i v old result new → CountsInsertions old.counts new.counts
  insert_counts (replaced pair found y r l) = calm_counts old new (leaves_calm old _ new l)
  insert_counts (not_replaced pair found y r l) = calm_counts old new (leaves_calm old _ new l)
  insert_counts (no_memory_to_admit a l r e) = rw e (calm_counts old old (self_calm old))
  insert_counts (not_admitted a s n r e) = rw e (calm_counts old _ (limiter_calm old s))
  insert_counts (admitted a s pair n (ready, l, (outcome, landed, step, rest))) =
      around_counts old ready landed new (calm_trans old (record old { limiter = s }) ready (limiter_calm old s)
      (leaves_calm _ _ ready l))
      (settles_calm rules outcome landed result new rest)
      (place_counts rules hash_of pair ready outcome landed step)
