use Rattle.std.proofs.Common.{◌≡◌, ℕ, Bool, List, [], None, ap, sym, ◌∙◌, subst}
use Rattle.lru_limits.specs.Rules.{Rules}
use Rattle.lru_model.specs.Lists.{lookup_entry, IsFront}
use Rattle.lru_model.specs.State.{State, contents, Leaves}
use Rattle.lru_model.specs.Inserts.{make_room}
use Rattle.lru_model.specs.Callbacks.{noting, noted}
use Rattle.lru_model.proofs.Theorems.Fronts.{front_make_room, front_absent}

pub record IsNew {K V S H : Type 0} (hash_of : H → K → ℕ) (eq : K → K → Bool) (number : ℕ) (pair : K × V)
    (st : State K V S H) : Type 0 where
  pub hash : number ≡ hash_of st.hasher pair.0
  pub absent : lookup_entry (eq pair.0) st.pairs ≡ None

pub stays_new : {K V S H : Type 0} (rules : Rules K V S) (hash_of : H → K → ℕ) (eq : K → K → Bool) (hash : ℕ)
    (pair : K × V) (old ready : State K V S H) (passed : List (K × V))
    → Leaves (noted [] old) (make_room (noting rules) (contents (noted [] old))) (noted passed ready)
    → hash ≡ hash_of old.hasher pair.0 → lookup_entry (eq pair.0) old.pairs ≡ None
    → IsNew hash_of eq hash pair ready
stays_new rules hash_of eq hash pair old ready passed way is absent = record {
  hash = is ∙ ap (λ hasher. hash_of hasher pair.0) (sym (ap (λ st. st.hasher) way.is));
  absent = front_absent (eq pair.0) ready.pairs old.pairs
      (subst (λ xs. IsFront xs old.pairs) (sym (ap (λ st. st.pairs) way.is))
      (front_make_room (noting rules) (contents (noted [] old)))) absent;
}
