-- Each call is made of moves of the pairs and the limiter. If each move keeps a relation R, every call keeps R.
--     KeepsWay rules R                      the moves before a pair is stored keep R
--     Keeps rules R                         all moves that need no offers keep R
--     KeepsOffers rules offers names R      the moves of an insert keep R, too
use Rattle.std.proofs.Common.{◌≡◌, ℕ, zero, suc, ◌+◌, Bool, true, false, cond, List, [], ◌∷◌, ◌++◌, length, Some, None}
use Rattle.std.proofs.Common.{Result, sym, ap, subst}
use Rattle.std.specs.declared.alloc.AllocError.{AllocError}
use Rattle.lru_limits.specs.Rules.{Rules, Offers}
use Rattle.lru_limits.specs.Laws.{kept_value}
use Rattle.lru_model.specs.Lists.{front, back, lookup_entry, set_entry, without}
use Rattle.lru_model.specs.State.{State, Contents, contents, Leaves, notified_of, pop, pops, trim, trim_from}
use Rattle.lru_model.specs.Place.{Outcome, placed, refused, no_memory}
use Rattle.lru_model.specs.Calls.{removal}
use Rattle.lru_model.specs.Inserts.{make_room, Settles}

module _ {K V S : Type 0} where
  abbrev pub behind : K × V → Contents K V S → Contents K V S
  behind pair c = record { pairs = pair ∷ c.pairs; limiter = c.limiter }

module _ {K V S : Type 0} (rules : Rules K V S) where
  abbrev pub asks : ℕ → Contents K V S → Contents K V S
  asks bytes c = record { pairs = c.pairs; limiter = (rules.on_grow c.limiter bytes).limiter }

  pub record KeepsWay (R : Contents K V S → Contents K V S → Type 0) : Type 0 where
    pub self : (c : Contents K V S) → R c c
    pub trans : {a b c : Contents K V S} → R a b → R b c → R a c
    pub asked : (bytes : ℕ) (c : Contents K V S) → R c (asks bytes c)
    pub popped : (c : Contents K V S) → R c (pop rules c)

  pub record Keeps (R : Contents K V S → Contents K V S → Type 0) : Type 0 where
    pub way : KeepsWay R
    pub left : (test : K → Bool) (c : Contents K V S) → R c (removal rules test c)
    pub dropped : (newer older : List (K × V)) (pair : K × V) (s : S)
        → R (record { pairs = newer ++ pair ∷ older; limiter = s })
        (record { pairs = newer ++ older; limiter = notified_of rules (Some pair) s })
    pub first : (test : K → Bool) (c : Contents K V S)
        → R c (record { pairs = front test c.pairs; limiter = c.limiter })
    pub last : (test : K → Bool) (c : Contents K V S)
        → R c (record { pairs = back test c.pairs; limiter = c.limiter })
    pub cleared : (c : Contents K V S) → R c (record { pairs = []; limiter = rules.on_cleared c.limiter })

module _ {K V S I : Type 0} (rules : Rules K V S) (offers : Offers K V S I) (names : I → K → Bool) where
  -- the pair gets its value after a replacement, and becomes the newest
  abbrev pub exchange : K × V → I → V → Contents K V S → Contents K V S
  exchange pair i v c = let r = offers.on_replace c.limiter (length c.pairs) pair.0 i pair.1 v in
      record { pairs = (r.key, kept_value r) ∷ without (names i) c.pairs; limiter = r.limiter }

  abbrev pub rewrite : K × V → I → V → Contents K V S → Contents K V S
  rewrite pair i v c = let r = offers.on_replace c.limiter (length c.pairs) pair.0 i pair.1 v in
      record { pairs = set_entry (names i) (r.key, kept_value r) c.pairs; limiter = r.limiter }

  pub record KeepsOffers (R : Contents K V S → Contents K V S → Type 0) : Type 0 where
    pub keeps : Keeps rules R
    pub came : (i : I) (v : V) (c : Contents K V S) (s : S) (pair : K × V) → lookup_entry (names i) c.pairs ≡ None
        → offers.on_insert c.limiter (length c.pairs) i v s (Some pair)
        → R c (record { pairs = pair ∷ c.pairs; limiter = s })
    pub turned_down : (i : I) (v : V) (c : Contents K V S) (s : S)
        → offers.on_insert c.limiter (length c.pairs) i v s None → R c (record { pairs = c.pairs; limiter = s })
    pub exchanged : (i : I) (v : V) (c : Contents K V S) (pair : K × V) → lookup_entry (names i) c.pairs ≡ Some pair
        → R c (exchange pair i v c)
    pub rewritten : (i : I) (v : V) (c : Contents K V S) (pair : K × V) → lookup_entry (names i) c.pairs ≡ Some pair
        → R c (rewrite pair i v c)

pub keeps_any : {K V S : Type 0} {rules : Rules K V S} → Keeps rules (λ c d. Unit {0})
keeps_any = record {
  way = record { self = λ c. tt; trans = λ p q. tt; asked = λ bytes c. tt; popped = λ c. tt };
  left = λ test c. tt;
  dropped = λ newer older pair s. tt;
  first = λ test c. tt;
  last = λ test c. tt;
  cleared = λ c. tt;
}

pub keeps_nothing : {K V S I : Type 0} {rules : Rules K V S} {offers : Offers K V S I} {names : I → K → Bool}
    → KeepsOffers rules offers names (λ c d. Unit {0})
keeps_nothing = record {
  keeps = keeps_any;
  came = λ i v c s pair a n. tt;
  turned_down = λ i v c s n. tt;
  exchanged = λ i v c pair found. tt;
  rewritten = λ i v c pair found. tt;
}

pub left_are : {K V S H : Type 0} (old : State K V S H) (left : Contents K V S) (new : State K V S H)
    → Leaves old left new → contents new ≡ left
left_are old left new l = ap contents l.is

pub leaves_keep : {K V S H : Type 0} (R : Contents K V S → Contents K V S → Type 0) (old : State K V S H)
    (left : Contents K V S) (new : State K V S H) → Leaves old left new
    → R (contents old) left → R (contents old) (contents new)
leaves_keep R old left new l h = subst (R (contents old)) (sym (left_are old left new l)) h

module _ {K V S : Type 0} (rules : Rules K V S) (R : Contents K V S → Contents K V S → Type 0)
    (k : KeepsWay rules R) where
  pub pops_keep : (n : ℕ) (c : Contents K V S) → R c (pops rules n c)
  pops_keep zero c = k.self c
  pops_keep (suc n) c = k.trans (k.popped c) (pops_keep n (pop rules c))

  trim_from_keeps : (n : ℕ) (c : Contents K V S) → R c (trim_from rules n c)
  trim_from_keeps zero c = k.self c
  trim_from_keeps (suc n) c = go (rules.is_over_the_limit c.limiter (suc n))
      (k.trans (k.popped c) (trim_from_keeps n (pop rules c)))
    where
      go : (b : Bool) → R c (trim_from rules n (pop rules c)) → R c (cond b (trim_from rules n (pop rules c)) c)
      go true p = p
      go false p = k.self c

  pub trim_keeps : (c : Contents K V S) → R c (trim rules c)
  unfolding trim
  trim_keeps c = trim_from_keeps (length c.pairs) c

  pub make_room_keeps : (c : Contents K V S) → R c (make_room rules c)
  make_room_keeps c = go (rules.is_over_the_limit c.limiter (length c.pairs + 1))
    where
      go : (b : Bool) → R c (cond b (pop rules c) c)
      go true = k.popped c
      go false = k.self c

  module _ {H : Type 0} where
    pub settles_keep : (outcome : Outcome) (landed : State K V S H) (result : Result Bool AllocError)
        (new : State K V S H) → Settles rules outcome landed result new → R (contents landed) (contents new)
    settles_keep placed landed result new h = leaves_keep R landed _ new h.1 (trim_keeps (contents landed))
    settles_keep refused landed result new h = rw h.1 (k.self (contents landed))
    settles_keep no_memory landed result new h = rw h.1 (k.self (contents landed))

module _ {K V S : Type 0} (rules : Rules K V S) (R : Contents K V S → Contents K V S → Type 0) (k : Keeps rules R) where
  pub way_behind : (pair : K × V) → KeepsWay rules (λ c d. R (behind pair c) (behind pair d))
  way_behind pair = record {
    self = λ c. k.way.self (behind pair c);
    trans = λ p q. k.way.trans p q;
    asked = λ bytes c. k.way.asked bytes (behind pair c);
    popped = λ c. go c.pairs c.limiter;
  }
    where
      go : (xs : List (K × V)) (s : S) → R (behind pair (record { pairs = xs; limiter = s }))
          (behind pair (pop rules (record { pairs = xs; limiter = s })))
      go [] s = k.way.self _
      go (x ∷ xs) s = k.way.popped (record { pairs = pair ∷ x ∷ xs; limiter = s })
