-- For the laws `granted_inserts_are_exact` and `inserts_with_room_are_exact`.
use Rattle.std.proofs.Common.{◌≡◌, ◌≢◌, ℕ, ◌+◌, ◌⊎◌, inl, inr, Bool, true, false, cond, length, Some, Result}
use Rattle.std.proofs.Common.{refl, sym, ap, ◌∙◌, subst, arith, ◌<◌, ◌≤◌}
use Rattle.std.specs.declared.alloc.AllocError.{AllocError}
use native.Mathlib.Decide.{dec_lt}
use Rattle.lru_limits.specs.Rules.{Rules, Offers}
use Rattle.lru_model.specs.Sizes.{Target, target, no_table, same_table, new_table}
use Rattle.lru_model.specs.State.{State, Contents, contents, buckets, growth_left, Leaves, pop}
use Rattle.lru_model.specs.Place.{Place, in_bucket, rehashed, grown, not_grown}
use Rattle.lru_model.specs.Place.{table_for, Outcome, placed, IsPlaced, IsOutgrown}
use Rattle.lru_model.specs.Inserts.{Insert, make_room, MayGive}
use Rattle.lru_model.specs.Exact.{Report, at_once, report_of, MayReport, fits, too_small, met, AlwaysGrants, HasTables}
use Rattle.lru_model.specs.Exact.{InsertsInList}
use Rattle.lru_model.proofs.States.LeavingPairs.{length-without_last}
use Rattle.lru_model.proofs.Theorems.Exactness.{insert_reports}

pub place_with_room : {K V S H : Type 0} (rules : Rules K V S) (pair : K × V) (old : State K V S H)
    (hash_of : H → K → ℕ) → 0 < growth_left old → (outcome : Outcome) (new : State K V S H)
    → Place rules hash_of pair old outcome new
    → (outcome ≡ placed) × IsPlaced pair (buckets old) 0 old new × (growth_left old ≤ growth_left new + 1)
place_with_room rules pair old hash_of some outcome new (in_bucket l f s o p) =
    (o, p, elim s.spends [ inl e ↦ omega (arith, e.1) | inr d ↦ omega (arith, d.2) ])
place_with_room rules pair old hash_of some outcome new (rehashed b l p m) = absurd (omega (arith, some, b.no_growth_left))
place_with_room rules pair old hash_of some outcome new (grown g count bytes t y m) =
    absurd (omega (arith, some, g.no_bucket.no_growth_left))
place_with_room rules pair old hash_of some outcome new (not_grown g mid c e) =
    absurd (omega (arith, some, g.no_bucket.no_growth_left))

module _ {K V S H : Type 0} (rules : Rules K V S) (old : State K V S H) where
  way_length : (c : Contents K V S) → (length (make_room rules c).pairs ≡ length c.pairs)
      ⊎ (length (make_room rules c).pairs + 1 ≡ length c.pairs)
  way_length c = go (rules.is_over_the_limit c.limiter (length c.pairs + 1))
    where
      go : (b : Bool) → (length (cond b (pop rules c) c).pairs ≡ length c.pairs)
          ⊎ (length (cond b (pop rules c) c).pairs + 1 ≡ length c.pairs)
      go true = elim (dec_lt 0 (length c.pairs)) [
        | yes some ↦ inr (omega (arith, length-without_last c.pairs, some))
        | no none ↦ inl (omega (arith, length-without_last c.pairs, none))
      ]
      go false = inl refl

  way_tables : HasTables old → (s : S) (ready : State K V S H)
      → Leaves (record old { limiter = s }) (make_room rules (record { pairs = old.pairs; limiter = s })) ready
      → table_for 1 ready ≢ no_table
  way_tables tables s ready l =
      let c = make_room rules (record { pairs = old.pairs; limiter = s }) in
      let left : length ready.pairs ≡ length c.pairs = ap (λ st. length st.pairs) l.is in
      let goes : (n : ℕ) → n ≡ length ready.pairs + 1 → target old.max old.entry_bytes (buckets old) n ≢ no_table
      → table_for 1 ready ≢ no_table =
      (λ n e some h. some ((λ j. target (ap (λ st. st.max) (sym l.is) j) (ap (λ st. st.entry_bytes) (sym l.is) j)
      (sym l.growth_left.table j) (e j)) ∙ h)) in
      elim (way_length (record { pairs = old.pairs; limiter = s })) [
        | inl all ↦ goes (length old.pairs + 1) (omega (arith, left, all)) tables.0
        | inr one ↦ goes (length old.pairs + 0) (omega (arith, left, one)) tables.1
      ]

module _ {K V S H I : Type 0} (rules : Rules K V S) (offers : Offers K V S I) (names : I → K → Bool) (i : I) (v : V)
    (old new : State K V S H) (result : Result Bool AllocError) where
  abbrev EndsSo : Type 0
  EndsSo = InsertsInList rules offers names i v (contents old) result (contents new)

  abbrev Ready : S → State K V S H → Type 0
  Ready s ready = Leaves (record old { limiter = s }) (make_room rules (record { pairs = old.pairs; limiter = s })) ready

  -- with this report an insert changes the contents as it would change a list without a table
  abbrev Comes : S → Report → Type 0
  Comes s report = let c = make_room rules (record { pairs = old.pairs; limiter = s }) in
      (report.has_bucket ≡ true) × (met rules report c ≡ c)

  in_list : {hash_of : H → K → ℕ}
      → ((s : S) (pair : K × V) → MayGive rules offers names i v (contents old) s (Some pair) → (ready : State K V S H)
      → Ready s ready → (hash : ℕ) → IsOutgrown hash ready → (n : ℕ)
      → Comes s (report_of rules (table_for 1 ready) n (contents ready)))
      → Insert rules offers names hash_of i v old result new → EndsSo
  in_list full step = let w = insert_reports rules offers names i v old result new step in
      w.1 _ (λ s pair n ready l may. let is = comes s pair n ready l _ w.0 may in
      record { other = at_once; told = refl; bucket = sym is.0; same = is.1 })
    where
      comes : (s : S) (pair : K × V) → MayGive rules offers names i v (contents old) s (Some pair)
          → (ready : State K V S H) → Ready s ready → (hash : ℕ) (report : Report) → MayReport rules hash ready report
          → Comes s report
      comes s pair n ready l hash report (fits large e) = subst (Comes s) (sym e) (refl, refl)
      comes s pair n ready l hash report (too_small b m pos one bound e) =
          subst (Comes s) (sym e) (full s pair n ready l hash b m)

  pub insert_if_tables : {hash_of : H → K → ℕ} → AlwaysGrants rules
      → ((s : S) (pair : K × V) → MayGive rules offers names i v (contents old) s (Some pair)
      → (ready : State K V S H) → Ready s ready → table_for 1 ready ≢ no_table)
      → Insert rules offers names hash_of i v old result new → EndsSo
  insert_if_tables grants tables = in_list (λ s pair n ready l hash b m.
      go s (table_for 1 ready) (tables s pair n ready l) (contents ready) m)
    where
      go : (s : S) (t : Target) → t ≢ no_table → (c : Contents K V S) (n : ℕ) → Comes s (report_of rules t n c)
      go s no_table some c n = absurd (some refl)
      go s same_table some c n = (refl, refl)
      go s (new_table count bytes) some c n = rw (grants c.limiter bytes).0 (
        refl,
        let d = make_room rules (record { pairs = old.pairs; limiter = s }) in
            ap (λ s. record { pairs = d.pairs; limiter = s }) (grants d.limiter bytes).1,
      )

  pub insert_granted : {hash_of : H → K → ℕ} → AlwaysGrants rules → HasTables old
      → Insert rules offers names hash_of i v old result new → EndsSo
  insert_granted grants tables = insert_if_tables grants (λ s pair n ready l. way_tables rules old tables s ready l)

  pub insert_with_room : {hash_of : H → K → ℕ} → 0 < growth_left old → Insert rules offers names hash_of i v old result new
      → EndsSo
  insert_with_room some =
      in_list (λ s pair n ready l hash b m. absurd (omega (arith, some, l.growth_left.keeps, b.no_bucket.no_growth_left)))
