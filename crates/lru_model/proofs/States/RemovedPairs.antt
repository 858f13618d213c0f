use Rattle.std.proofs.Common.{Bool, Option, None, option_map, sym, ap, ◌≡◌, subst}
use Rattle.lru_limits.specs.Rules.{Rules}
use Rattle.lru_model.specs.Lists.{lookup_entry}
use Rattle.lru_model.specs.State.{State, Leaves, notified_of}
use Rattle.lru_model.specs.Calls.{left_of, Remove, RemoveEntry}
use Rattle.lru_model.proofs.States.LeavingPairs.{leaves_self}
use Rattle.lru_model.proofs.Theorems.Fronts.{without_none}

module _ {K V S H : Type 0} (rules : Rules K V S) (names : K → Bool) where
  pub none_removed : (st : State K V S H) → lookup_entry names st.pairs ≡ None → RemoveEntry rules names st None st
  none_removed st none = record {
    pair = ap (left_of rules st.limiter) (sym none);
    state = subst (λ left. Leaves st left st)
        (λ i. record {
          pairs = sym (without_none names st.pairs none) i;
          limiter = notified_of rules (sym none i) st.limiter;
        }) (leaves_self st);
  }

  pub value_removed : (old : State K V S H) (pair : Option (K × V)) (new : State K V S H)
      → RemoveEntry rules names old pair new → Remove rules names old (option_map (λ p. p.1) pair) new
  value_removed old pair new h = record { value = ap (option_map (λ p. p.1)) h.pair; state = h.state }
