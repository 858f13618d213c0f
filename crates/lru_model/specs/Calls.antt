-- How a map changes at a get, a write, a removal, a pop or a clear. Every other kind of call has its own file.
--     `names`: whether a key is the looked-up key.
use Rattle.std.specs.Prelude.{◌≡◌, Bool, List, [], Option, option_map, replicate}
use Rattle.std.specs.Map.{set_value}
use Rattle.group_table.specs.Bucket.{empty}
use Rattle.lru_limits.specs.Rules.{Rules}
use Rattle.lru_model.specs.Lists.{first, last, without_first, without_last, lookup_entry, without, front}
use Rattle.lru_model.specs.Lists.{front_places, back, back_places}
use Rattle.lru_model.specs.State.{State, buckets, Contents, contents, Leaves, after_removal}

module _ {K V S H : Type 0} where
  -- the map after the pair of the named key, if any, became the newest
  abbrev pub promoted : (K → Bool) → State K V S H → State K V S H
  promoted names st = record st {
    pairs = front names st.pairs;
    table = record st.table { places = front_places names st.pairs st.table.places };
  }

  -- the map after the pair of the named key, if any, became the oldest
  abbrev pub demoted : (K → Bool) → State K V S H → State K V S H
  demoted names st = record st {
    pairs = back names st.pairs;
    table = record st.table { places = back_places names st.pairs st.table.places };
  }

  -- the map after the pair of the named key, if any, got this value
  abbrev pub written : (K → Bool) → V → State K V S H → State K V S H
  written names value st = record st { pairs = set_value names st.pairs value }

module _ {K V S : Type 0} (rules : Rules K V S) where
  -- the removed pair as `on_removed` leaves it, or `None` if no pair is removed
  abbrev pub left_of : S → Option (K × V) → Option (K × V)
  left_of s pair = option_map (λ p. ((rules.on_removed s p.0 p.1).key, (rules.on_removed s p.0 p.1).value)) pair

  -- the contents without the pair of the named key, after the limiter was notified of the removal
  abbrev pub removal : (K → Bool) → Contents K V S → Contents K V S
  removal names c = after_removal rules (lookup_entry names c.pairs) (without names c.pairs) c.limiter

  -- the contents without the newest pair, after the limiter was notified of the removal
  abbrev pub pop_first : Contents K V S → Contents K V S
  pop_first c = after_removal rules (first c.pairs) (without_first c.pairs) c.limiter

module _ {K V S H : Type 0} (rules : Rules K V S) where
  -- The pair `gone`, if any, is removed and returned as `on_removed` leaves it. The pairs `left` stay.
  pub record TakesOut (gone : Option (K × V)) (left : List (K × V)) (old : State K V S H) (result : Option (K × V))
      (new : State K V S H) : Type 0 where
    pub pair : result ≡ left_of rules old.limiter gone
    pub state : Leaves old (after_removal rules gone left old.limiter) new

  -- the pair of the named key is removed and returned
  abbrev pub RemoveEntry : (K → Bool) → State K V S H → Option (K × V) → State K V S H → Type 0
  RemoveEntry names old = TakesOut (lookup_entry names old.pairs) (without names old.pairs) old

  abbrev pub PopOldest : State K V S H → Option (K × V) → State K V S H → Type 0
  PopOldest old = TakesOut (last old.pairs) (without_last old.pairs) old

  abbrev pub PopNewest : State K V S H → Option (K × V) → State K V S H → Type 0
  PopNewest old = TakesOut (first old.pairs) (without_first old.pairs) old

  -- the pair of the named key is removed, and its value is returned as `on_removed` leaves it
  pub record Remove (names : K → Bool) (old : State K V S H) (result : Option V) (new : State K V S H) : Type 0 where
    pub value : result ≡ option_map (λ p. p.1) (left_of rules old.limiter (lookup_entry names old.pairs))
    pub state : Leaves old (removal rules names (contents old)) new

  -- The map after a clear: all buckets are empty, and their number stays. The limiter is notified once of the clear,
  -- and not of each pair.
  abbrev pub cleared : State K V S H → State K V S H
  cleared st = record st {
    pairs = [];
    limiter = rules.on_cleared st.limiter;
    table = record { states = replicate (buckets st) empty; places = [] };
  }
