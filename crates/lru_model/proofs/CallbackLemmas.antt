-- For callers that pass a callback: it may be called with each evicted, removed or rejected pair,
--     always_each, always_replaced, always_inserted      if it may always be called
--     may_take_always      the same, for `search`: name it on the function, in `#[tactic(auto, using(..))]`
--     takes_always         after such calls, it may still always be called
--     each_by              if an invariant of the callback permits each call
use Rattle.std.proofs.Common.{◌≡◌, ℕ, suc, ◌+◌, ◌<◌, ◌≤◌, List, [], ◌∷◌, length, Bool, refl, subst, arith}
use Rattle.std.proofs.lemmas.List.Elements.{All-head, All-tail}
use Rattle.std.specs.Prelude.{All}
use Rattle.std.specs.Fn.{Mut, Called, Takes as MayBeCalled}
use denote.Param.Always.{always_mut, mut_next}
use Rattle.lru_limits.specs.Rules.{Rules, Offers}
use Rattle.lru_model.specs.Callbacks.{CalledWith}
use Rattle.lru_model.specs.MayTake.{MayTake, MayTakeEach, MayTakeReplaced, MayTakeInserted, IsLeftOf}
use Rattle.lru_model.specs.State.{Contents}

module _ {K V F : Type 0} (closure : Mut F (K × (V × Unit {0})) (Unit {0})) where
  pub takes_always : (pairs : List (K × V)) (f g : F) → CalledWith closure f pairs g → always_mut closure f
      → always_mut closure g
  takes_always [] f g e h = subst (always_mut closure) e h
  takes_always (p ∷ ps) f g (between, called, rest) h = takes_always ps between g rest
      (mut_next closure f (p.0, (p.1, tt)) tt between between called refl h)

  pub may_take_always : (f : F) (before : List (K × V)) (g : F) (pair : K × V) → always_mut closure f
      → CalledWith closure f before g → MayBeCalled closure g (pair.0, (pair.1, tt))
  may_take_always f before g pair h taken = ((takes_always before f g taken h).at ((pair.0, (pair.1, tt)) ∷ [])).0

  -- `Inv m` holds of the callback after m calls; the callback is called at most n times
  module _ (passes : K × V → Type 0) (n : ℕ) (Inv : ℕ → F → Type 0)
      (asks : (m : ℕ) (g : F) (pair : K × V) → m < n → Inv m g → passes pair
      → MayBeCalled closure g (pair.0, (pair.1, tt)))
      (keeps : (m : ℕ) (g h : F) (pair : K × V) → m < n → Inv m g → passes pair
      → Called closure g (pair.0, (pair.1, tt)) tt h → Inv (suc m) h) where
    reached : (pairs : List (K × V)) (m k : ℕ) (f g : F) → k ≡ m + length pairs → k ≤ n → All passes pairs → Inv m f
        → CalledWith closure f pairs g → Inv k g
    reached [] m k f g is few all inv e =
        let same : m ≡ k = omega (arith, is) in subst (λ i. Inv i g) same (subst (Inv m) e inv)
    reached (p ∷ ps) m k f g is few all inv (between, called, rest) =
        let below : m < n = omega (arith, is, few) in
        reached ps (suc m) k between g (omega (arith, is)) few (All-tail passes p ps all)
        (keeps m f between p below inv (All-head passes p ps all) called) rest

    pub may_take_by : (f : F) → Inv 0 f → MayTake closure passes n f
    may_take_by f inv before g pair fewer all taken passed = asks (length before) g pair fewer
        (reached before 0 (length before) f g (omega arith) (omega (arith, fewer)) all inv taken) passed

module _ {K V S F : Type 0} (rules : Rules K V S) (closure : Mut F (K × (V × Unit {0})) (Unit {0})) where
  pub always_each : (pairs : List (K × V)) (f : F) → always_mut closure f → MayTakeEach rules closure pairs f
  always_each pairs f h = λ before g pair fewer all taken passed. may_take_always closure f before g pair h taken

  pub each_by : (pairs : List (K × V)) (Inv : ℕ → F → Type 0)
      → ((m : ℕ) (g : F) (pair : K × V) → m < length pairs → Inv m g → IsLeftOf rules pairs pair
      → MayBeCalled closure g (pair.0, (pair.1, tt)))
      → ((m : ℕ) (g h : F) (pair : K × V) → m < length pairs → Inv m g → IsLeftOf rules pairs pair
      → Called closure g (pair.0, (pair.1, tt)) tt h → Inv (suc m) h)
      → (f : F) → Inv 0 f → MayTakeEach rules closure pairs f
  each_by pairs Inv asks keeps = may_take_by closure (IsLeftOf rules pairs) (length pairs) Inv asks keeps

  module _ {I : Type 0} (offers : Offers K V S I) (names : I → K → Bool) (i : I) (v : V) (c : Contents K V S) (f : F)
      (h : always_mut closure f) where
    pub always_replaced : MayTakeReplaced rules closure offers names i v c f
    always_replaced = record {
      accepted = λ p found taken before g pair fewer all had passed. may_take_always closure f before g pair h had;
      rejected = λ p found refused before g pair fewer all had passed. may_take_always closure f before g pair h had;
    }

    pub always_inserted : MayTakeInserted rules closure offers names i v c f
    always_inserted = record {
      replaced = always_replaced;
      new = λ absent s p given before g pair fewer all had passed. may_take_always closure f before g pair h had;
    }
