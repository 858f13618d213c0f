use Rattle.std.proofs.Common.{◌≡◌, ℕ, ◌<◌, Bool, true, false, List, [], ◌∷◌, length, Some, refl, option_map, ap, sym}
use Rattle.std.proofs.Common.{◌∙◌, subst, arith, not, Ok}
use Rattle.std.specs.Fn.{Mut}
use Rattle.lru_limits.specs.Laws.{IsLookup, IsInsertion}
use Rattle.lru_limits.specs.Rules.{Rules, Offers}
use Rattle.std.proofs.lemmas.Option.{none-some}
use Rattle.lru_model.specs.Callbacks.{noting, noting_offers, noted}
use Rattle.lru_model.specs.Calls.{promoted}
use Rattle.lru_model.specs.Inserts.{Insert, replaced, replacement, with_replaced, unkept_of, unkept_value}
use Rattle.lru_model.specs.MayTake.{MayTakeEach, MayTakeReplaced}
use Rattle.schnellru.specs.Inside.Steps.{IsOffered}
use Rattle.lru_model.specs.Lists.{is_empty, lookup_entry, front, place_of}
use Rattle.lru_model.specs.State.{State, Contents, Leaves, contents, place_in, trim}
use Rattle.lru_model.proofs.States.LeavingPairs.{leaves_trimmed}
use Rattle.lru_model.proofs.States.Promotions.{length-front_pairs}
use Rattle.lru_model.proofs.Theorems.Fronts.{replaced_named}
use Rattle.lru_model.proofs.PairLists.SetEntries.{length-set_entry, place-set_entry, front-set_entry}

promoted_leaves : {K V S H : Type 0} (names : K → Bool) (old mid : State K V S H) (left : Contents K V S)
    → Leaves old left mid
    → Leaves old (record { pairs = front names left.pairs; limiter = left.limiter }) (promoted names mid)
promoted_leaves names old mid left leaves =
    let as_many = length-front_pairs names mid.pairs in let growth_left = leaves.growth_left in record {
      is = λ i. record (leaves.is i) {
        pairs = front names (leaves.is i).pairs;
        table = (promoted names mid).table;
      };
      growth_left = record {
        table = growth_left.table;
        keeps = growth_left.keeps;
        at_most = omega (arith, growth_left.at_most, as_many);
        exact = λ small. omega (arith, growth_left.exact small, as_many);
        untouched = λ e. growth_left.untouched (sym as_many ∙ e);
      };
    }

module _ {K V S H I : Type 0} {rules : Rules K V S} {offers : Offers K V S I} {names : I → K → Bool} {i : I} {v : V}
    {old new : State K V S H} {result : Bool × V} (offer : IsOffered rules offers names i v old result new) where
  pub offered_unkept : Some result.1 ≡ unkept_value rules offers names i v (contents old)
  offered_unkept = ap Some offer.unkept
      ∙ ap (option_map (λ pair. unkept_of (replacement rules offers names pair i v (contents old)))) (sym offer.there)

  pub offered_old : result.0 ≡ true → result.1 ≡
      (replacement rules offers names offer.pair i v (contents old)).old_value
  offered_old e = offer.unkept ∙ rw (offer.taken ∙ e) refl

  pub offered_new : result.0 ≡ false → result.1 ≡
      (replacement rules offers names offer.pair i v (contents old)).new_value
  offered_new e = offer.unkept ∙ rw (offer.taken ∙ e) refl

  pub offered_any : result.0 ≡ true → 0 < length new.pairs
  offered_any e = let r = replacement rules offers names offer.pair i v (contents old) in omega (
    arith,
    ap (λ st. length st.pairs) (offer.accepted e).is,
    length-set_entry (names i) (r.key, r.new_value) old.pairs,
    some old.pairs offer.there,
  )
    where
      some : (xs : List (K × V)) → lookup_entry (names i) xs ≡ Some offer.pair → 0 < length xs
      some [] h = absurd (none-some offer.pair h)
      some (x ∷ xs) h = omega arith

  module _ (accepted : result.0 ≡ true)
      (named : names i (replacement rules offers names offer.pair i v (contents old)).key ≡ true) where
    pub offered_place : (b : ℕ) → place_of (names i) old.pairs old.table.places ≡ Some b
        → place_of (names i) new.pairs new.table.places ≡ Some b
    offered_place b at = (λ j. place_of (names i) ((offer.accepted accepted).is j).pairs (offer.place accepted j))
        ∙ place-set_entry (names i) _ named old.pairs old.table.places ∙ at

    module _ (next : State K V S H) (is : next ≡ promoted (names i) new) where
      pub offered_front : Leaves old (with_replaced rules offers names offer.pair i v (contents old)) next
      offered_front = subst (Leaves old _) (sym is)
          (subst (λ pairs. Leaves old (record {
            pairs = pairs;
            limiter = (replacement rules offers names offer.pair i v (contents old)).limiter;
          }) (promoted (names i) new))
          (front-set_entry (names i) _ named old.pairs offer.pair offer.there)
          (promoted_leaves (names i) old new _ (offer.accepted accepted)))

      pub offered_some : 0 < length next.pairs
      offered_some = omega (arith, ap (λ st. length st.pairs) offered_front.is)

module _ {K V S H I : Type 0} (rules : Rules K V S) (offers : Offers K V S I) {names : I → K → Bool}
    {eq : K → K → Bool} {query_input : I → List (List ℕ)} {key_input : K → List (List ℕ)}
    (looks_up : IsLookup names eq query_input key_input) (laws : IsInsertion names eq offers) {i : I} {v : V}
    {old mid next : State K V S H} {before between : List (K × V)} {result : Bool × V}
    (offer : IsOffered (noting rules) (noting_offers offers) names i v (noted before old) result (noted between mid))
    (accepted : result.0 ≡ true) {b : ℕ} (found : place_in (names i) old ≡ Some b)
    (promotes : place_in (names i) mid ≡ Some b → next ≡ promoted (names i) mid) where
  named : names i (replacement rules offers names offer.pair i v (contents old)).key ≡ true
  named = replaced_named rules offers names looks_up laws i v old offer.pair offer.there

  is : noted between next ≡ promoted (names i) (noted between mid)
  is = ap (noted between) (promotes (offered_place offer accepted named b found))

  pub replaced_some : 0 < length next.pairs
  replaced_some = offered_some offer accepted named (noted between next) is

  replaced_front : Leaves (noted before old) (with_replaced (noting rules) (noting_offers offers) names offer.pair i v
      (contents (noted before old))) (noted between next)
  replaced_front = offered_front offer accepted named (noted between next) is

  pub replaced_callable : {F : Type 0} (closure : Mut F (K × (V × Unit {0})) (Unit {0})) (f g : F) → g ≡ f
      → MayTakeReplaced rules closure offers names i v (contents old) f → MayTakeEach rules closure next.pairs g
  replaced_callable closure f g same may = subst (λ pairs. MayTakeEach rules closure pairs g)
      (sym (ap (λ st. st.pairs) replaced_front.is))
      (subst (MayTakeEach rules closure (with_replaced rules offers names offer.pair i v (contents old)).pairs)
      (sym same) (may.accepted offer.pair offer.there (offer.taken ∙ accepted)))

  pub replaced_inserts : (hash_of : H → K → ℕ) {kept : Bool} {new : State K V S H} {after : List (K × V)}
      → kept ≡ not (is_empty new.pairs)
      → Leaves (noted between next) (trim (noting rules) (contents (noted between next))) (noted after new)
      → Insert (noting rules) (noting_offers offers) names hash_of i v (noted before old) (Ok kept) (noted after new)
  replaced_inserts hash_of {kept} {new} {after} left trimmed = replaced offer.pair offer.there (offer.taken ∙ accepted)
      (ap Ok left) (leaves_trimmed (noting rules) (noted before old) (noted between next) (noted after new) _
      replaced_front trimmed)
