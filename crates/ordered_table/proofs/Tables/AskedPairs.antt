use Rattle.std.proofs.Common.{◌≡◌, ℕ, Bool, true, false, List, [], ◌∷◌, refl, arith, ap, sym, ◌∙◌}
use Rattle.std.specs.Prelude.{option_map, filter, map, cond}
use Rattle.std.specs.List.{FoldsTo, range_with_len}
use Rattle.std.specs.Borrow.{Bor}
use Rattle.std.specs.Fn.{Mut, CalledAt}
use Rattle.group_table.specs.Bucket.{Slot, empty, deleted, full, bucket_at, has_tag}
use Rattle.group_table.specs.Probe.{hash_tag, probed}
use Rattle.group_table.specs.Search.{IsSearch, Answers, Finds, FindsNone}
use Rattle.ordered_table.specs.declared.linked.Entry.{Entry}
use Rattle.ordered_table.specs.Chain.{pair_slot, pair_slots}
use Rattle.lru_model.specs.ByHash.{Asks}
use Rattle.ordered_table.specs.Searches.{AnswersPair, FindsPair, FindsNoPair}
use Rattle.ordered_table.proofs.Tables.PairSlots.{pair_of, length-pair_slots, bucket_at-pair_slots}
use Rattle.ordered_table.proofs.Tables.PairSlots.{bucket_states-pair_slots, entry_at-pair_slots, is_full-pair_slots}
use Rattle.ordered_table.proofs.Tables.PairSlots.{Fits-entries}

module _ {K V N : Type 0} (slots : List (Slot (Entry K V N))) (hash : ℕ) where
  tag_of_pair : (tag : ℕ) (s : Slot (Entry K V N)) → has_tag tag (pair_slot s) ≡ has_tag tag s
  tag_of_pair tag empty = refl
  tag_of_pair tag deleted = refl
  tag_of_pair tag (full held) = refl

  same_candidates : (bs : List ℕ) → filter (λ b. has_tag (hash_tag hash) (bucket_at slots b)) bs
      ≡ filter (λ b. has_tag (hash_tag hash) (bucket_at (pair_slots slots) b)) bs
  same_candidates [] = refl
  same_candidates (b ∷ bs) = λ i. cond
      (sym (ap (has_tag (hash_tag hash)) (bucket_at-pair_slots slots b)
      ∙ tag_of_pair (hash_tag hash) (bucket_at slots b)) i) (b ∷ same_candidates bs i) (same_candidates bs i)

  pub search_pairs : (asked : List ℕ) → IsSearch slots hash asked → IsSearch (pair_slots slots) hash asked
  search_pairs asked s = record {
    steps = s.steps;
    within = omega (arith, s.within, length-pair_slots slots);
    reached = rw (bucket_states-pair_slots slots) s.reached;
    in_order = s.in_order ∙ same_candidates _
        ∙ ap (λ n. filter (λ b. has_tag (hash_tag hash) (bucket_at (pair_slots slots) b))
        (map (probed n hash) (range_with_len 0 s.steps))) (sym (length-pair_slots slots));
    distinct = s.distinct;
  }

module _ {K V N W F : Type 0} (closure : Mut F (Bor K × (Bor V × Unit {0})) Bool)
    (asker : Mut W (Bor (Entry K V N) × Unit {0}) Bool) (state : W → F)
    (asks : (w : W) (x : Entry K V N) (r : Bool) (u : W) → CalledAt asker w x r u
    → Asks closure (state w) (pair_of x) r (state u)) (slots : List (Slot (Entry K V N))) where
  pub answers_pair : (w : W) (b : ℕ) (r : Bool) (u : W) → Answers asker slots w b r u
      → AnswersPair closure (pair_slots slots) (state w) b r (state u)
  answers_pair w b r u a = record {
    pair = pair_of a.entry;
    there = entry_at-pair_slots slots b ∙ ap (option_map pair_of) a.there;
    asked = asks w a.entry r u a.called;
  }

  pub refuses_pairs : (asked : List ℕ) (w u : W) → FoldsTo (λ p b q. Answers asker slots p b false q) w asked u
      → FoldsTo (λ p b q. AnswersPair closure (pair_slots slots) p b false q) (state w) asked (state u)
  refuses_pairs [] w u h = ap state h
  refuses_pairs (b ∷ asked) w u h = (state h.0, answers_pair w b false h.0 h.1, refuses_pairs asked h.0 u h.2)

  pub finds_pair : (hash : ℕ) (w : W) (b : ℕ) → Finds asker slots hash w b → FindsPair closure (pair_slots slots) hash
      (state w) b
  finds_pair hash w b found = record {
    before = found.asked;
    search = search_pairs slots hash _ found.search;
    between = state found.between;
    refused = refuses_pairs found.asked w found.between found.refused;
    last = state found.last;
    accepted = answers_pair found.between b true found.last found.accepted;
  }

  pub finds_no_pair : (hash : ℕ) (w : W) → FindsNone asker slots hash w → FindsNoPair closure (pair_slots slots) hash
      (state w)
  finds_no_pair hash w none = record {
    asked = none.asked;
    search = search_pairs slots hash _ none.search;
    last = state none.last;
    refused = refuses_pairs none.asked w none.last none.refused;
    complete = λ hash_of fits b full same. none.complete hash_of (Fits-entries slots hash_of fits) b
        (sym (is_full-pair_slots slots b) ∙ full) same;
  }
