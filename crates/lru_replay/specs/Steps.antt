-- What each call does to a map. A list of pairs, newest first, has a limiter but no table. A call on such a list does
-- what it would do on a map that always has a free bucket.
--     `rules`, `offers`: the limiter's `Rules` and `Offers` (`lru_limits`).
--     `eq`: when two keys are equal.
--     `hash_of h k`: the hash of k by the hasher h.
use Rattle.std.specs.Prelude.{◌≡◌, ℕ, ◌++◌, Bool, List, [], Option, Some, None, Result, MatchOption, is_some, length}
use Rattle.std.specs.Prelude.{option_map, unwrap_or, if◌then◌else◌}
use Rattle.std.specs.declared.alloc.AllocError.{AllocError}
use Rattle.group_table.specs.Probe.{hash_tag}
use Rattle.lru_limits.specs.Rules.{Rules, Offers}
use Rattle.lru_model.specs.Calls.{promoted, demoted, written, left_of, removal, pop_first, cleared}
use Rattle.lru_model.specs.Drains.{Drained, pops_first, newest_given, oldest_given}
use Rattle.lru_model.specs.Exact.{InsertsInList}
use Rattle.lru_model.specs.GetOrInserts.{MakesNewest}
use Rattle.lru_model.specs.Callbacks.{InsertPasses, noting, noting_offers}
use Rattle.lru_model.specs.Inserts.{Insert, replacement, with_removed}
use Rattle.lru_model.specs.Lists.{first, last, lookup, lookup_entry}
use Rattle.lru_model.specs.Reservations.{Reserve}
use Rattle.lru_model.specs.Shrinks.{Shrink}
use Rattle.lru_model.specs.State.{State, Contents, contents, Leaves, empty_map, pop, pops, trim}
use Rattle.lru_model.specs.Updates.{Update, with_updated}
use Rattle.lru_model.specs.declared.results.Updated.{Updated}
use Rattle.lru_model.specs.declared.results.Updated.TheVariants.{Replaced, Rejected, Absent}
use Rattle.lru_replay.specs.declared.calls.Call.{Call}
use Rattle.lru_replay.specs.declared.calls.Call.TheVariants as calls
use Rattle.lru_replay.specs.Figures.{IsFigures}
use Rattle.lru_replay.specs.Replies.{Reply, flag, given, updated, value, pair, listed, reserved, shrunk, stats, done}
use Rattle.lru_replay.specs.Replies.{insert_reply, made_reply}

module _ {K V : Type 0} (eq : K → K → Bool) (hash_of : K → ℕ) where
  -- What a search by a hash finds for a key. It may find the pair of an equal stored key if the hash of the stored key
  -- has the tag of the searched hash. It may find nothing if no equal key is stored, or if the hash of the stored key
  -- differs from the searched hash.
  pub data FindsByHash (hash : ℕ) (key : K) (pairs : List (K × V)) (result : Option V) : Type 0 where
    found : (there : K × V) → lookup_entry (eq key) pairs ≡ Some there → hash_tag (hash_of there.0) ≡ hash_tag hash
        → result ≡ Some there.1 → FindsByHash hash key pairs result
    not_found : ((there : K × V) → lookup_entry (eq key) pairs ≡ Some there → hash_of there.0 ≡ hash → ⊥)
        → result ≡ None → FindsByHash hash key pairs result

-- What a call names: nothing, a key (whose pair the call may move, write or remove), or the newest pair (which the call
-- pops).
pub data Named (K : Type 0) : Type 0 where
  nothing : Named K
  a_key : K → Named K
  the_newest : Named K

pub record Does (K V S H : Type 0) : Type 1 where
  pub names : Named K
  pub on_map : (old : State K V S H) (reply : Reply K V) (new : State K V S H) → Type 0
  pub on_list : (h : H) (c : Contents K V S) (reply : Reply K V) (d : Contents K V S) → Type 0

module _ {K V S H : Type 0} where
  -- a map with these contents and no table
  abbrev pub bare : H → Contents K V S → State K V S H
  bare h c = record (empty_map c.limiter h 0 0) { pairs = c.pairs }

  -- The call's reply depends only on the contents of the map, and `after` gives the map after the call.
  abbrev pub turns : Named K → (Contents K V S → Reply K V) → (State K V S H → State K V S H) → Does K V S H
  turns names says after = record {
    names = names;
    on_map = λ old reply new. (reply ≡ says (contents old)) × (new ≡ after old);
    on_list = λ h c reply d. (reply ≡ says c) × (d ≡ contents (after (bare h c)));
  }

  abbrev pub reads : (Contents K V S → Reply K V) → Does K V S H
  reads says = turns nothing says (λ old. old)

  -- The call's reply depends only on the contents of the map, and `after` gives the contents after the call. Pairs may
  -- be evicted or removed.
  abbrev pub takes : Named K → (Contents K V S → Reply K V) → (Contents K V S → Contents K V S) → Does K V S H
  takes names says after = record {
    names = names;
    on_map = λ old reply new. (reply ≡ says (contents old)) × Leaves old (after (contents old)) new;
    on_list = λ h c reply d. (reply ≡ says c) × (d ≡ after c);
  }

  abbrev pub gives : {R : Type 0} → Named K → (R → Reply K V) → (State K V S H → R → State K V S H → Type 0)
      → (H → Contents K V S → R → Contents K V S → Type 0) → Does K V S H
  gives {R} names says IsStep IsListStep = record {
    names = names;
    on_map = λ old reply new. (result : R) × IsStep old result new × (reply ≡ says result);
    on_list = λ h c reply d. (result : R) × IsListStep h c result d × (reply ≡ says result);
  }

module _ {K V S : Type 0} (rules : Rules K V S) (offers : Offers K V S K) (eq : K → K → Bool) (key : K) (v : V)
    (c : Contents K V S) where
  abbrev pub updates_pair : K × V → Updated V × Contents K V S
  updates_pair there = let r = replacement rules offers eq there key v c in
      if r.taken then (Replaced r.old_value, trim rules (with_updated rules offers eq there key v c))
      else (Rejected r.new_value, with_removed rules offers eq there key v c)

  abbrev pub updated_in_list : Updated V × Contents K V S
  updated_in_list = unwrap_or (option_map updates_pair (lookup_entry (eq key) c.pairs)) (Absent v, c)

abbrev pub beside : {K V S : Type 0} → List (K × V) → Contents K V S → Contents K V (S × List (K × V))
beside list c = record { pairs = c.pairs; limiter = (c.limiter, list) }

module _ {K V S H : Type 0} (rules : Rules K V S) (offers : Offers K V S K) (eq : K → K → Bool)
    (hash_of : H → K → ℕ) where
  -- The call searches by a hash. For each result of the search, `after` gives the map after the call.
  abbrev pub finds : Named K → ℕ → K → (Option V → State K V S H → State K V S H) → Does K V S H
  finds names hash key after = gives names value
      (λ old result new. FindsByHash eq (hash_of old.hasher) hash key old.pairs result × (new ≡ after result old))
      (λ h c result d. FindsByHash eq (hash_of h) hash key c.pairs result × (d ≡ contents (after result (bare h c))))

  -- A list of pairs has no table. So the step on a list permits any result of a reservation or a shrink, and any
  -- figures with the right number of pairs.
  abbrev pub does : Call K V S → Does K V S H
  does (calls.Insert key v) = gives (a_key key) insert_reply (Insert rules offers eq hash_of key v)
      (λ h. InsertsInList rules offers eq key v)
  does (calls.InsertWith key v) = gives (a_key key) (λ (r : Result Bool AllocError × List (K × V)). given r.0 r.1)
      (λ old r new. InsertPasses rules offers eq hash_of key v old r.0 r.1 new)
      (λ h c r d. InsertsInList (noting rules) (noting_offers offers) eq key v (beside [] c) r.0 (beside r.1 d))
  does (calls.GetOrInsert key v) = record {
    names = a_key key;
    on_map = λ old reply new. (result : Result Bool AllocError)
        × MakesNewest rules offers eq hash_of (λ made. made ≡ v) key old result new
        × (reply ≡ made_reply result new.pairs);
    on_list = λ h c reply d. MatchOption (lookup (eq key) c.pairs)
        ((result : Result Bool AllocError) × InsertsInList rules offers eq key v c result d
        × (reply ≡ made_reply result d.pairs))
        (λ there. (reply ≡ value (Some there)) × (d ≡ contents (promoted (eq key) (bare h c))));
  }
  does (calls.Update key v) = gives (a_key key) updated (Update rules offers eq key v)
      (λ h c result d. updated_in_list rules offers eq key v c ≡ (result, d))
  does (calls.Get key) = turns (a_key key) (λ c. value (lookup (eq key) c.pairs)) (promoted (eq key))
  does (calls.Peek key) = reads (λ c. value (lookup (eq key) c.pairs))
  does (calls.Contains key) = reads (λ c. flag (is_some (lookup (eq key) c.pairs)))
  does (calls.Promote key) = turns (a_key key) (λ c. flag (is_some (lookup (eq key) c.pairs))) (promoted (eq key))
  does (calls.Demote key) = turns (a_key key) (λ c. flag (is_some (lookup (eq key) c.pairs))) (demoted (eq key))
  does (calls.GetByHash hash key) =
      finds (a_key key) hash key (λ result old. if is_some result then promoted (eq key) old else old)
  does (calls.PeekByHash hash key) = finds nothing hash key (λ result old. old)
  does (calls.Write key v) = turns (a_key key) (λ c. flag (is_some (lookup (eq key) c.pairs))) (written (eq key) v)
  does (calls.Remove key) = takes (a_key key)
      (λ c. value (option_map (λ p. p.1) (left_of rules c.limiter (lookup_entry (eq key) c.pairs))))
      (removal rules (eq key))
  does (calls.RemoveEntry key) = takes (a_key key)
      (λ c. pair (left_of rules c.limiter (lookup_entry (eq key) c.pairs))) (removal rules (eq key))
  does calls.PopOldest = takes nothing (λ c. pair (left_of rules c.limiter (last c.pairs))) (pop rules)
  does calls.PopNewest = takes the_newest (λ c. pair (left_of rules c.limiter (first c.pairs))) (pop_first rules)
  does calls.PeekOldest = reads (λ c. pair (last c.pairs))
  does calls.PeekNewest = reads (λ c. pair (first c.pairs))
  does (calls.Reserve n) = gives nothing reserved (Reserve rules n) (λ h c result d. d ≡ c)
  does calls.Shrink = gives nothing shrunk Shrink (λ h c result d. d ≡ c)
  does calls.Trim = takes nothing (λ c. done) (trim rules)
  does calls.Clear = turns nothing (λ c. done) (cleared rules)
  does (calls.Drain front back) = gives nothing listed (Drained rules front back)
      (λ h c out d. let mid = pops_first rules front c in
      (out ≡ newest_given rules front c ++ oldest_given rules back mid)
      × (d ≡ contents (cleared rules (bare h (pops rules back mid)))))
  does calls.List = reads (λ c. listed c.pairs)
  does calls.Stats = gives nothing stats (λ old figures new. IsFigures old figures × (new ≡ old))
      (λ h c figures d. (figures.len ≡ length c.pairs) × (d ≡ c))
  does (calls.SetLimiter s) = turns nothing (λ c. done) (λ old. record old { limiter = s })

  abbrev pub ReplyStep : State K V S H → Call K V S → Reply K V → State K V S H → Type 0
  ReplyStep old call reply new = (does call).on_map old reply new

abbrev pub ListStep : {K V S : Type 0} → Rules K V S → Offers K V S K → (K → K → Bool) → (K → ℕ) → Contents K V S
    → Call K V S → Reply K V → Contents K V S → Type 0
ListStep rules offers eq hash_of c call reply d =
    (does {H = Unit {0}} rules offers eq (λ h. hash_of) call).on_list tt c reply d
