use Rattle.std.proofs.Common.{◌≡◌, ◌⊎◌, ℕ, ◌≤◌, ◌/◌, Bool, true, ◌∷◌, length, refl, sym, ap, ◌∙◌, subst}
use Rattle.std.proofs.Common.{Some, None, Result, Ok, inl, inr}
use Rattle.std.specs.Prelude.{unwrap_or, IsErr}
use Rattle.std.proofs.lemmas.Option.{none-some}
use Rattle.std.specs.String.{string_eq}
use Rattle.std.specs.declared.alloc.AllocError.{AllocError}
use Rattle.std.specs.declared.alloc.Global.{Global}
use Rattle.std.specs.declared.string.String.{String}
use Rattle.group_table.specs.Sizes.{full_capacity}
use Rattle.lru_limits.specs.Limiters.{memory_rules, all_terms}
use Rattle.lru_limits.specs.Rules.{Offers}
use Rattle.lru_model.specs.State.{State, Leaves, contents, buckets}
use Rattle.lru_model.specs.Lists.{lookup_entry}
use Rattle.lru_model.specs.Place.{Place, Outcome, placed, refused, no_memory}
use Rattle.lru_model.specs.Inserts.{Insert, Settles, replaced, not_replaced, no_memory_to_admit, not_admitted, admitted}
use Rattle.lru_model.specs.Theorems.{IsRefusedGrowth}
use Rattle.lru_model.specs.Kept.{AcceptsNew}
use Rattle.lru_model.proofs.States.LeavingPairs.{trim-within}
use Rattle.lru_model.proofs.CallerLemmas.{offers_of-accepts}
use Rattle.schnellru_tests.proofs.callers.put_and_keep_half.Goals as goal

module _ {K V H : Type 0} (offers : Offers K V ℕ K) (names : K → K → Bool) (hash_of : H → K → ℕ) (pair : K × V)
    (old new : State K V ℕ H) (result : Result Bool AllocError)
    (adds : (ready landed : State K V ℕ H) → Place memory_rules hash_of pair ready placed landed
    → (landed.pairs ≡ pair ∷ ready.pairs) ⊎ IsRefusedGrowth memory_rules ready)
    (half : (ready landed : State K V ℕ H) → IsRefusedGrowth memory_rules ready
    → Place memory_rules hash_of pair ready placed landed
    → full_capacity (buckets ready) / 2 ≤ length landed.pairs)
    (yes : result ≡ Ok true) where
  abbrev Keeps : Type 0
  Keeps = (new.pairs ≡ pair ∷ old.pairs) ⊎ (full_capacity (buckets old) / 2 ≤ length new.pairs)

  lands : (s : ℕ) (ready landed : State K V ℕ H)
      → Leaves (record old { limiter = s }) (record { pairs = old.pairs; limiter = s }) ready
      → (outcome : Outcome) → Place memory_rules hash_of pair ready outcome landed
      → Settles memory_rules outcome landed result new → Keeps
  lands s ready landed l placed p t =
      let stay : new.pairs ≡ landed.pairs = ap (λ st. st.pairs) t.1.is
      ∙ ap (λ d. d.pairs) (trim-within memory_rules (contents landed) refl) in
      let was : ready.pairs ≡ old.pairs = ap (λ st. st.pairs) l.is in
      elim (adds ready landed p) [
        | inl all ↦ inl (stay ∙ all ∙ ap (λ pairs. pair ∷ pairs) was)
        | inr full ↦ inr (subst (λ n. full_capacity n / 2 ≤ length new.pairs) l.growth_left.table
            (subst (λ pairs. full_capacity (buckets ready) / 2 ≤ length pairs) (sym stay) (half ready landed full p)))
      ]
  lands s ready landed l refused p t = let e = sym yes ∙ t.0 in absurd cc
  lands s ready landed l no_memory p t = let e = subst IsErr yes t.0 in absurd cc

  keeps : AcceptsNew memory_rules offers names pair.0 pair.1 (contents old) pair
      → lookup_entry (names pair.0) old.pairs ≡ None
      → Insert memory_rules offers names hash_of pair.0 pair.1 old result new → Keeps
  keeps w absent (replaced was found y r l) = absurd (none-some was (sym absent ∙ found))
  keeps w absent (not_replaced was found y r l) = absurd (none-some was (sym absent ∙ found))
  keeps w absent (no_memory_to_admit a k r e) = absurd (w.finds k)
  keeps w absent (not_admitted a s n r e) = absurd (none-some pair (w.gives s None n).0)
  keeps w absent (admitted a s given n (ready, l, (outcome, landed, p, t))) =
      let same : given ≡ pair = ap (λ o. unwrap_or o given) (w.gives s (Some given) n).0 in
      lands s ready landed l outcome (subst (λ g. Place memory_rules hash_of g ready outcome landed) same p) t

pub returns : goal.returns
returns c = λ yes.
    let pair : String Global × ℕ = (c.args.key, c.args.value) in
    keeps _ string_eq _ pair c.args.map.now c.insert.new.self c.insert.result
    (c.growth_keeps_the_list.ensures.otherwise pair) (c.refused_growth_keeps_half.ensures.half pair) yes
    (offers_of-accepts all_terms memory_rules string_eq c.args.key c.args.value (contents c.args.map.now) refl refl) c.requires
    c.insert.ensures.step
