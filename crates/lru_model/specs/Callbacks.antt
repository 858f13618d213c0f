-- The pairs that a call passes to its callback: each evicted or removed pair, and each pair that the limiter returned
-- but the map could not store. The callback gets each pair as `on_removed` leaves it, in the order of the calls of
-- `on_removed`.
use Rattle.std.specs.Prelude.{◌≡◌, ℕ, Bool, List, [], ◌∷◌, ◌++◌, Result}
use Rattle.std.specs.List.{FoldsTo}
use Rattle.std.specs.Fn.{Mut, Called}
use Rattle.std.specs.declared.alloc.AllocError.{AllocError}
use Rattle.lru_limits.specs.Rules.{Rules, Offers}
use Rattle.lru_model.specs.State.{State, Trims}
use Rattle.lru_model.specs.Inserts.{Insert}

module _ {K V S : Type 0} where
  -- The given rules, with a list added to the state of the limiter. `on_removed` appends each removed pair to the list.
  -- The list affects nothing else.
  abbrev pub noting : Rules K V S → Rules K V (S × List (K × V))
  noting rules = record {
    is_over_the_limit = λ s n. rules.is_over_the_limit s.0 n;
    on_removed = λ s k v. let notified = rules.on_removed s.0 k v in record {
      limiter = (notified.limiter, s.1 ++ (notified.key, notified.value) ∷ []);
      key = notified.key;
      value = notified.value;
    };
    on_cleared = λ s. (rules.on_cleared s.0, s.1);
    on_grow = λ s bytes. let answer = rules.on_grow s.0 bytes in record {
      limiter = (answer.limiter, s.1);
      allowed = answer.allowed;
    };
  }

  -- the given offers, with a list added to the state of the limiter; an offer does not change the list
  abbrev pub noting_offers : {I : Type 0} → Offers K V S I → Offers K V (S × List (K × V)) I
  noting_offers offers = record {
    on_insert = λ s n i v t given. offers.on_insert s.0 n i v t.0 given × (t.1 ≡ s.1);
    may_run_out = λ s n i v. offers.may_run_out s.0 n i v;
    on_replace = λ s n k i v w. let left = offers.on_replace s.0 n k i v w in record {
      limiter = (left.limiter, s.1);
      taken = left.taken;
      key = left.key;
      old_value = left.old_value;
      new_value = left.new_value;
    };
  }

  -- the map with this list as part of the limiter's state
  abbrev pub noted : {H : Type 0} → List (K × V) → State K V S H → State K V (S × List (K × V)) H
  noted list st = record {
    pairs = st.pairs;
    limiter = (st.limiter, list);
    hasher = st.hasher;
    table = st.table;
    counts = st.counts;
    entry_bytes = st.entry_bytes;
    max = st.max;
  }

-- f was called with these pairs, one after another; these calls change f into g
abbrev pub CalledWith : {K V F : Type 0} → Mut F (K × (V × Unit {0})) (Unit {0}) → F → List (K × V) → F → Type 0
CalledWith closure f pairs g = FoldsTo (λ p pair q. Called closure p (pair.0, (pair.1, tt)) tt q) f pairs g

module _ {K V S H I : Type 0} (rules : Rules K V S) (offers : Offers K V S I) (names : I → K → Bool)
    (hash_of : H → K → ℕ) where
  -- An insert that passes the pairs `passed` to its callback. In this definition, the limiter has a list (`noting`).
  -- The list is empty before the insert, and equals `passed` after the insert.
  abbrev pub InsertPasses : I → V → State K V S H → Result Bool AllocError → List (K × V) → State K V S H → Type 0
  InsertPasses i v old result passed new = Insert (noting rules) (noting_offers offers) names hash_of i v (noted [] old)
      result (noted passed new)

-- a trim that passes the pairs `passed` to its callback
abbrev pub TrimPasses : {K V S H : Type 0} → Rules K V S → State K V S H → List (K × V) → State K V S H → Type 0
TrimPasses rules old passed new = Trims (noting rules) (noted [] old) (noted passed new)
