-- Facts about a map whose limiter is combined with the list of the pairs passed to the callback.
use Rattle.std.proofs.Common.{◌≡◌, ℕ, ◌+◌, Bool, true, false, List, [], ◌∷◌, ◌++◌, length, Option, Some, None, refl}
use Rattle.std.proofs.Common.{ap, ◌∙◌, cond}
use Rattle.std.proofs.Common.{arith, sym, subst}
use Rattle.std.proofs.lemmas.Bool.{true≢false, false≢true}
use Rattle.std.proofs.lemmas.Option.{same_Some}
use Rattle.std.proofs.lemmas.Fn.{FoldsTo-push}
use Rattle.std.specs.Fn.{Mut, Called}
use Rattle.lru_limits.specs.Rules.{Rules, Offers, Replaced, Notified}
use Rattle.lru_model.specs.Lists.{last, without, without_last, set_entry, is_empty}
use Rattle.lru_model.specs.State.{State, Contents, Leaves, contents, notified_of, after_removal, pop}
use Rattle.lru_model.specs.Calls.{PopOldest, TakesOut, left_of}
use Rattle.lru_model.specs.Place.{IsPlaced, unstored}
use Rattle.lru_model.specs.Inserts.{make_room, replacement}
use Rattle.lru_model.specs.Callbacks.{noting, noting_offers, noted, CalledWith}
use Rattle.schnellru.specs.Inside.Passing.{Passes, PassesRemoved}
use Rattle.schnellru.specs.Inside.Steps.{IsOffered}

pub takes_more : {K V F : Type 0} (closure : Mut F (K × (V × Unit {0})) (Unit {0})) (first : F) (before : List (K × V))
    (f : F) (pair : K × V) (g : F) → CalledWith closure first before f → Called closure f (pair.0, (pair.1, tt)) tt g →
    CalledWith closure first (before ++ pair ∷ []) g
takes_more closure first before f pair g taken called =
    FoldsTo-push (λ p x q. Called closure p (x.0, (x.1, tt)) tt q) first before f pair g taken called

module _ {K V S H : Type 0} where
  pub noted_placed : (list : List (K × V)) (pair : K × V) (count moves : ℕ) (old new : State K V S H)
      → IsPlaced pair count moves old new → IsPlaced pair count moves (noted list old) (noted list new)
  noted_placed list pair count moves old new is = record { table = is.table; state = ap (noted list) is.state }

  pub noted_leaves : (before after : List (K × V)) (old new : State K V S H) (left : Contents K V S) → Leaves old left
      new
      → Leaves (noted before old) (record { pairs = left.pairs; limiter = (left.limiter, after) }) (noted after new)
  noted_leaves before after old new left leaves = record {
    is = ap (noted after) leaves.is;
    growth_left = leaves.growth_left;
  }

module _ {K V S : Type 0} (rules : Rules K V S) (before : List (K × V)) (s : S) (pair : K × V) where
  pub noted_notified : (was : Option (K × V)) → Some pair ≡ left_of rules s was
      → ◌≡◌ {A = S × List (K × V)} (notified_of rules was s, before ++ pair ∷ [])
      (notified_of (noting rules) was (s, before))
  noted_notified None e = absurd (grind (arith, e))
  noted_notified (Some was) e =
      let notified = rules.on_removed s was.0 was.1 in
      ap {A = K × V} {B = S × List (K × V)} (λ p. (notified.limiter, before ++ p ∷ []))
      (same_Some pair (notified.key, notified.value) e)

module _ {K V S H : Type 0} (rules : Rules K V S) (before : List (K × V)) (old new : State K V S H) (pair : K × V) where
  pub noted_taken : (gone : Option (K × V)) (left : List (K × V)) → TakesOut rules gone left old (Some pair) new →
      Leaves (noted before old) (after_removal (noting rules) gone left (old.limiter, before))
      (noted (before ++ pair ∷ []) new)
  noted_taken gone left step = record {
    is = ap (noted (before ++ pair ∷ [])) step.state.is
        ∙ ap {A = S × List (K × V)} {B = State K V (S × List (K × V)) H} (λ s. record (noted before old) {
          pairs = left;
          limiter = s;
          table = new.table;
        }) (noted_notified rules before old.limiter pair gone step.pair);
    growth_left = step.state.growth_left;
  }

  pub noted_pop : PopOldest rules old (Some pair) new →
      Leaves (noted before old) (pop (noting rules) (contents (noted before old))) (noted (before ++ pair ∷ []) new)
  noted_pop = noted_taken (last old.pairs) (without_last old.pairs)

pub make_room-over : {K V S : Type 0} (rules : Rules K V S) (c : Contents K V S) →
    rules.is_over_the_limit c.limiter (length c.pairs + 1) ≡ true → make_room rules c ≡ pop rules c
make_room-over rules c over = rw over refl

pub make_room-within : {K V S : Type 0} (rules : Rules K V S) (c : Contents K V S) →
    rules.is_over_the_limit c.limiter (length c.pairs + 1) ≡ false → make_room rules c ≡ c
make_room-within rules c within = rw within refl

pub make_room-empty : {K V S : Type 0} (rules : Rules K V S) (c : Contents K V S) → is_empty c.pairs ≡ true
    → make_room rules c ≡ c
make_room-empty {K} {V} {S} rules c none = go c.pairs none (rules.is_over_the_limit c.limiter (length c.pairs + 1))
  where
    go : (pairs : List (K × V)) → is_empty pairs ≡ true → (over : Bool) →
        cond over (pop rules (record { pairs = pairs; limiter = c.limiter }))
        (record { pairs = pairs; limiter = c.limiter })
        ≡ record { pairs = pairs; limiter = c.limiter }
    go [] e true = refl
    go [] e false = refl
    go (p ∷ ps) e over = absurd (false≢true e)

pub noted_unstored : {K V S H : Type 0} (rules : Rules K V S) (before : List (K × V)) (old new : State K V S H)
    (pair left : K × V) (s : S) → new ≡ record old { limiter = s } → s ≡ notified_of rules (Some pair) old.limiter →
    Some left ≡ left_of rules old.limiter (Some pair) →
    noted (before ++ left ∷ []) new ≡ unstored (noting rules) pair (noted before old)
noted_unstored {K} {V} {S} {H} rules before old new pair left s is notified e =
    ap (noted (before ++ left ∷ [])) is
    ∙ ap {A = S} {B = State K V (S × List (K × V)) H}
    (λ t. noted (before ++ left ∷ []) (record old { limiter = t })) notified
    ∙ ap {A = S × List (K × V)} {B = State K V (S × List (K × V)) H} (λ t. record (noted before old) { limiter = t })
    (noted_notified rules before old.limiter left (Some pair) e)

module _ {K V S H I F : Type 0} (closure : Mut F (K × (V × Unit {0})) (Unit {0})) (rules : Rules K V S)
    (offers : Offers K V S I) (names : I → K → Bool) (i : I) (v : V) (old new : State K V S H) (result : Bool × V)
    (f g : F)
    (offer : IsOffered rules offers names i v old result new) (accepted : result.0 ≡ true → g ≡ f)
    (rejected : result.0 ≡ false
    → PassesRemoved closure rules (replacement rules offers names offer.pair i v (contents old)) f g) where
  pub noted_offer : Passes closure rules f g old new (λ rules old new.
      IsOffered rules (noting_offers offers) names i v old result new)
  noted_offer first before taken = go result.0 refl
    where
      by : Replaced K V S
      by = replacement rules offers names offer.pair i v (contents old)

      notified : Notified K V S
      notified = rules.on_removed by.limiter by.key by.old_value

      with_list : (after : List (K × V)) → (result.0 ≡ true → before ≡ after)
          → (result.0 ≡ false → before ++ (notified.key, notified.value) ∷ [] ≡ after)
          → IsOffered (noting rules) (noting_offers offers) names i v (noted before old) result (noted after new)
      with_list after same more = record {
        pair = offer.pair;
        there = offer.there;
        taken = offer.taken;
        unkept = offer.unkept;
        accepted = λ e. subst (λ l. Leaves (noted before old) (record {
          pairs = set_entry (names i) (by.key, by.new_value) old.pairs;
          limiter = (by.limiter, l);
        }) (noted after new)) (sym (same e)) (noted_leaves before after old new _ (offer.accepted e));
        place = offer.place;
        rejected = λ e. subst (λ l. Leaves (noted before old) (record {
          pairs = without (names i) old.pairs;
          limiter = (notified.limiter, l);
        }) (noted after new)) (sym (more e)) (noted_leaves before after old new _ (offer.rejected e));
      }

      go : (y : Bool) → result.0 ≡ y → (after : List (K × V)) × CalledWith closure first after g
          × IsOffered (noting rules) (noting_offers offers) names i v (noted before old) result (noted after new)
      go true e = (
        before,
        subst (CalledWith closure first before) (sym (accepted e)) taken,
        with_list before (λ _. refl) (λ no. absurd (true≢false (sym e ∙ no))),
      )
      go false e = (
        before ++ (notified.key, notified.value) ∷ [],
        takes_more closure first before f (notified.key, notified.value) g taken (rejected e),
        with_list _ (λ yes. absurd (false≢true (sym e ∙ yes))) (λ _. refl),
      )
