use Rattle.std.proofs.Common.{◌≡◌, ◌≤◌, ◌<◌, ◌&&◌, ℕ, zero, suc, Bool, true, false, cond, not, List, [], ◌∷◌}
use Rattle.std.proofs.Common.{Option, Some, None, is_some, Ok, refl, sym, ap, ◌∙◌, subst, arith}
use Rattle.std.specs.Cmp.{IsEquivalence}
use Rattle.std.specs.List.{All}
use Rattle.std.specs.Prelude.{option_map, unwrap_or}
use Rattle.std.proofs.lemmas.List.Elements.{All-weaker}
use Rattle.std.specs.Map.{lookup, values_of}
use Rattle.std.proofs.lemmas.Map.{lookup-set_value}
use Rattle.lru_limits.specs.Rules.{Rules}
use Rattle.lru_model.specs.Lists.{IsFront, first, is_empty}
use Rattle.lru_model.specs.State.{State}
use Rattle.lru_model.specs.Theorems.{SaysWhether}
use Rattle.lru_model.proofs.CallerLemmas.{lookup-entry}
use Rattle.lru_model.proofs.Theorems.Fronts.{front_self, front_same, front_trans, front_without_last, front_first, front_absent}
use Rattle.lru_tenants.proofs.TotalCosts.{at-most}
use Rattle.lru_tenants.specs.Pool.{Part, cost, excess, Spares, Spared, total_cost, total_share, with_map, Evicts, Evictions}
use Rattle.lru_tenants.specs.Pool.{ends, evicts}

module _ {K V L S : Type 0} (account : L → ℕ) where
  pub spared-same : (own : Option (Part K V L S)) → Spared account own own
  spared-same None = refl
  spared-same (Some own) =
      (own, record { share = refl; front = front_self own.1.pairs; within = λ _. refl }, refl)

  pub spared-trans : (a b c : Option (Part K V L S)) → Spared account a b → Spared account b c → Spared account a c
  spared-trans None b c first more = subst (λ o. Spared account o c) first more
  spared-trans (Some own) b c (mid, spares, is) more = go (subst (λ o. Spared account o c) is more)
    where
      go : Spared account (Some mid) c → Spared account (Some own) c
      go (left, then, last) = (
        left,
        record {
          share = then.share ∙ spares.share;
          front = front_trans left.1.pairs then.front spares.front;
          within = λ low.
              let same = spares.within low in
              then.within (subst (λ p. cost account p ≤ p.0) (sym same) low) ∙ same;
        },
        last,
      )

module _ {N K V L S : Type 0} {rules : Rules K V L} {account : L → ℕ} {eq : N → N → Bool} (laws : IsEquivalence eq) where
  evict-spares : (old new : List (N × Part K V L S)) → Evicts rules account eq old new → (name : N)
      → Spared account (lookup (eq name) old) (lookup (eq name) new)
  evict-spares old new step name = subst (Spared account (lookup (eq name) old)) (sym now)
      (go (eq step.name name) refl)
    where
      now : lookup (eq name) new ≡ cond (eq step.name name) (Some (with_map step.left step.own)) (lookup (eq name) old)
      now = ap (lookup (eq name)) step.is
          ∙ lookup-set_value laws (eq step.name) (laws.congr step.name) name (with_map step.left step.own) old
          (ap is_some step.there)

      popped : Spares account step.own (with_map step.left step.own)
      popped = record {
        share = refl;
        front = front_trans step.left.pairs (front_same (ap (λ st. st.pairs) step.pops.state.is))
            (front_without_last step.own.1.pairs);
        within = λ low. absurd (omega (arith, low, step.above));
      }

      go : (is : Bool) → eq step.name name ≡ is → Spared account (lookup (eq name) old)
          (cond is (Some (with_map step.left step.own)) (lookup (eq name) old))
      go false e = spared-same account (lookup (eq name) old)
      go true e = subst (λ o. Spared account o (Some (with_map step.left step.own)))
          (sym step.there ∙ ap (λ named. lookup named old) (λ i y. laws.congr step.name name y e i))
          (with_map step.left step.own, popped, refl)

  pub evictions-spare : (limit : ℕ) (new old : List (N × Part K V L S)) → Evictions rules account eq limit new old
      → (name : N) → Spared account (lookup (eq name) old) (lookup (eq name) new)
  evictions-spare limit new old (ends within) name = spared-same account (lookup (eq name) new)
  evictions-spare limit new old (evicts mid above step more) name =
      spared-trans account (lookup (eq name) old) (lookup (eq name) mid) (lookup (eq name) new)
      (evict-spares old mid step name) (evictions-spare limit new mid more name)

pub some-above : {N K V L S : Type 0} (account : L → ℕ) (tenants : List (N × Part K V L S)) (most : ℕ)
    → All (λ own. excess account own ≤ most) (values_of tenants) → total_share tenants < total_cost account tenants
    → 0 < most
some-above account tenants zero all above = absurd (omega (
  arith,
  above,
  at-most (cost account) (λ own. own.0) (values_of tenants) (All-weaker (λ own. excess account own ≤ 0)
      (λ own. cost account own ≤ own.0) (λ own low. omega (arith, low)) (values_of tenants) all),
))
some-above account tenants (suc most) all above = omega arith

-- after evictions a key is there exactly if it was stored and an entry is left
pub says-there : {K V L S : Type 0} (rules : Rules K V L) (named : K → Bool) (kept : Bool) (map : State K V L S)
    (pairs : List (K × V)) → SaysWhether rules named (Ok kept) map → IsFront pairs map.pairs
    → (kept && not (is_empty pairs)) ≡ is_some (lookup named pairs)
says-there rules named false map pairs says front =
    sym (ap is_some (lookup-entry named pairs ∙ ap (option_map (λ p. p.1)) (front_absent named pairs map.pairs front says)))
says-there rules named true map [] says front = refl
says-there rules named true map (pair ∷ pairs) says front =
    let newest = says.0 in
    let same : Some pair ≡ Some newest.pair = front_first (pair ∷ pairs) map.pairs front refl ∙ ap first newest.first in
    let is : named pair.0 ≡ true = ap (λ o. named (unwrap_or o pair).0) same ∙ newest.named in
    sym (ap (λ b. is_some (cond b (Some pair.1) (lookup named pairs))) is)
