use Rattle.std.proofs.Common.{◌≡◌, ℕ, List, [], ◌∷◌, ◌++◌, map, Some, inl, inr, refl, ap, sym, ◌∙◌, subst, arith}
use Rattle.std.specs.Prelude.{option_map, option_to_list, unwrap_or, Contains}
use Rattle.std.proofs.lemmas.List.{length-map}
use Rattle.group_table.specs.Bucket.{Slot, bucket_at, is_full, IsFull, entry_at, entry_count}
use Rattle.group_table.specs.Relocation.{Renumbers, KeepsHashes, moved_to}
use Rattle.group_table.proofs.BucketLemmas.{full_lt, count_by-pos}
use Rattle.group_table.proofs.SearchLemmas.{full_by_entry}
use Rattle.ordered_table.specs.declared.linked.Entry.{Entry}
use Rattle.ordered_table.specs.OrderedTable.{entries_in, hash_in, KeysFit}
use Rattle.ordered_table.specs.Chain.{pair_slots, IsChain, IsWhole}
use Rattle.lru_model.proofs.PairLists.Members.{Contains-here, Contains-later}
use Rattle.ordered_table.proofs.Chains.Neighbours.{moved_in}
use Rattle.ordered_table.proofs.Tables.PairSlots.{pair_of, same_count, same_full, entry_at-pair_slots}
use Rattle.ordered_table.proofs.Tables.PairSlots.{Fits-pair_slots}
use Rattle.ordered_table.proofs.Tables.KeyHashes.{hash_in-entry}
use Rattle.ordered_table.proofs.Chains.MovedChain.{moved_entry}

entries_in-moved : {T : Type 0} (old new : List (Slot T)) (m : ℕ → ℕ) (order : List ℕ)
    → ((b : ℕ) → Contains order b → entry_at new (m b) ≡ entry_at old b)
    → entries_in new (map m order) ≡ entries_in old order
entries_in-moved old new m [] same = refl
entries_in-moved old new m (b ∷ bs) same =
    ap (λ o. option_to_list o ++ entries_in new (map m bs)) (same b (Contains-here b bs))
    ∙ ap (λ es. option_to_list (entry_at old b) ++ es)
    (entries_in-moved old new m bs (λ c w. same c (Contains-later b c bs w)))

module _ {N : Type 0} {number : N → ℕ} {none : N} {K V : Type 0} {before start : List (Slot (Entry K V N))}
    {links : List N} (renumbers : Renumbers number none before start links) (now : List (Slot (Entry K V N)))
    (same : pair_slots now ≡ pair_slots start) where
  came_from : Renumbers number none before start links → entry_count start ≡ entry_count before → (x : ℕ)
      → IsFull start x → (b : ℕ) × IsFull before b × (moved_to number none links b ≡ x)
  came_from (inl w) counts x there = absurd
      (omega (arith, counts, w.0, count_by-pos is_full start x (full_lt start x there) there))
  came_from (inr r) counts x there =
      let w = r.moves.onto x there in
      (w.0, full_by_entry (bucket_at before w.0) w.1 w.2, w.3)

  pub IsWhole-moved : {link : ℕ → N} {newest oldest newest' oldest' : N} {order : List ℕ}
      → IsWhole number link none before newest oldest order → entry_count start ≡ entry_count before
      → IsChain number link none now newest' oldest' (map (moved_to number none links) order)
      → IsWhole number link none now newest' oldest' (map (moved_to number none links) order)
  IsWhole-moved {order = order} whole counts chain = record {
    chain = chain;
    all = λ x full.
        let r = came_from renumbers counts x (sym (same_full start now same x) ∙ full) in
        subst (Contains (map (moved_to number none links) order)) r.2
        (moved_in (moved_to number none links) r.0 order (whole.all r.0 r.1));
    count = omega (
      arith,
      same_count start now same,
      counts,
      whole.count,
      length-map order
          (moved_to number none links),
    );
  }

  pair_moved : (b : ℕ) → IsFull before b → entry_at (pair_slots start) (moved_to number none links b)
      ≡ entry_at (pair_slots before) b
  pair_moved b there =
      entry_at-pair_slots start (moved_to number none links b) ∙ ap (option_map pair_of) (moved_entry renumbers b there)
      ∙ sym (entry_at-pair_slots before b)

  pub pairs-moved : {link : ℕ → N} {newest oldest : N} {order : List ℕ}
      → IsWhole number link none before newest oldest order
      → entries_in (pair_slots now) (map (moved_to number none links) order) ≡ entries_in (pair_slots before) order
  pairs-moved {order = order} whole =
      entries_in-moved (pair_slots before) (pair_slots now) (moved_to number none links) order
      (λ b inside. ap (λ slots. entry_at slots (moved_to number none links b)) same
      ∙ pair_moved b (whole.chain.only b inside))

  pub KeysFit-moved : (hash_of : K → ℕ) → KeepsHashes number none (entry_at before) start links
      (hash_in hash_of (pair_slots before)) → KeysFit hash_of (pair_slots now)
  KeysFit-moved hash_of keeps =
      rw same (Fits-pair_slots start (hash_in hash_of (pair_slots start)) (keeps (hash_in hash_of (pair_slots start))
      (λ b entry is. ap (λ o. unwrap_or (option_map (λ p. hash_of p.0) o) 0)
      (pair_moved b (full_by_entry (bucket_at before b) entry is)))))

pub hash_in-pair_slots : {K V N : Type 0} (hash_of : K → ℕ) (slots : List (Slot (Entry K V N))) (b : ℕ)
    (entry : Entry K V N) → entry_at slots b ≡ Some entry
    → hash_in hash_of (pair_slots slots) b ≡ hash_of entry.key
hash_in-pair_slots hash_of slots b entry is = hash_in-entry hash_of (pair_slots slots) b (pair_of entry)
    (entry_at-pair_slots slots b ∙ ap (option_map pair_of) is)
