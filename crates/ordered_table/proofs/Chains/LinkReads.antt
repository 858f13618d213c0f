use Rattle.std.proofs.Common.{◌≡◌, ◌≢◌, ℕ, ◌<◌, List, [], ◌∷◌, length, Option, Some, None, refl, ap}
use Rattle.std.proofs.Common.{sym, ◌∙◌, arith}
use Rattle.std.specs.Prelude.{Contains}
use Rattle.std.proofs.lemmas.Option.{none-some}
use Rattle.group_table.specs.Link.{IsLinkType}
use Rattle.group_table.specs.Bucket.{Slot, IsFull, entry_at}
use Rattle.ordered_table.specs.declared.linked.Entry.{Entry}
use Rattle.ordered_table.specs.OrderedTable.{without_bucket}
use Rattle.lru_model.specs.Lists.{first as first_bucket, last as last_bucket}
use Rattle.ordered_table.specs.Chain.{link_to, pair_slots}
use Rattle.ordered_table.specs.OrderedTable.{bucket_after, bucket_before}
use Rattle.ordered_table.specs.Chain.{IsChain, IsWhole}
use Rattle.ordered_table.proofs.Chains.Orders.{after_in, before_in, first_in, last_in, before-alone, after-last}
use Rattle.ordered_table.proofs.Chains.Neighbours.{newest_again}
use Rattle.ordered_table.proofs.Tables.PairSlots.{is_full-pair_slots}
use Rattle.ordered_table.proofs.Chains.LinkWrites.{end_by_link, chained_below, newer_link, older_link}

first_some : (order : List ℕ) → 0 < length order → first_bucket order ≡ None → ⊥
first_some [] p e = absurd (omega arith)
first_some (c ∷ cs) p e = none-some c (sym e)

last_some : (order : List ℕ) → 0 < length order → last_bucket order ≡ None → ⊥
last_some [] p e = absurd (omega arith)
last_some (c ∷ []) p e = none-some c (sym e)
last_some (c ∷ d ∷ ds) p e = last_some (d ∷ ds) (omega arith) e

module _ {N : Type 0} {number : N → ℕ} {link : ℕ → N} {none : N}
    (laws : IsLinkType number link none) where
  leads_to : (o : Option ℕ) (l : N) → l ≡ link_to link none o → ((y : ℕ) → o ≡ Some y → y < number none)
      → (o ≡ None → ⊥) → o ≡ Some (number l)
  leads_to None l e bounds some = absurd (some refl)
  leads_to (Some y) l e bounds some = ap Some (sym (ap number e ∙ laws.number_of_link y (bounds y refl)))

  number_at : (o : Option ℕ) (l : N) → l ≡ link_to link none o → (c : ℕ) → o ≡ Some c → c < number none → number l ≡ c
  number_at o l is c e bound = ap number (is ∙ ap (link_to link none) e) ∙ laws.number_of_link c bound

  module _ {K V : Type 0} {slots : List (Slot (Entry K V N))} {newest oldest : N} {order : List ℕ}
      (whole : IsWhole number link none slots newest oldest order) where
    pub first_shown : 0 < length order → first_bucket order ≡ Some (number newest)
    first_shown p = leads_to (first_bucket order) newest whole.chain.newest_first
        (λ y e. chained_below whole.chain y (first_in order y e)) (first_some order p)

    pub oldest_shown : 0 < length order → last_bucket order ≡ Some (number oldest)
    oldest_shown p = leads_to (last_bucket order) oldest whole.chain.oldest_last
        (λ y e. chained_below whole.chain y (last_in order y e)) (last_some order p)

    pub none_older : (b : ℕ) → last_bucket order ≡ Some b → (entry : Entry K V N) → entry_at slots b ≡ Some entry
        → entry.older ≡ none
    none_older b last entry is = older_link laws whole.chain b (last_in order b last) entry is
        ∙ ap (link_to link none) (after-last b order whole.chain.distinct last)

    module _ (b : ℕ) (full : IsFull (pair_slots slots) b) where
      pub full_entry : IsFull slots b
      full_entry = sym (is_full-pair_slots slots b) ∙ full

      pub inside : Contains order b
      inside = whole.all b full_entry

      module _ (entry : Entry K V N) (is : entry_at slots b ≡ Some entry) where
        pub older_number : (c : ℕ) → bucket_after b order ≡ Some c → number entry.older ≡ c
        older_number c e = number_at (bucket_after b order) entry.older (older_link laws whole.chain b inside entry is) c e
            (chained_below whole.chain c (after_in b c order e))

        pub newer_number : (c : ℕ) → bucket_before b order ≡ Some c → number entry.newer ≡ c
        newer_number c e = number_at (bucket_before b order) entry.newer (newer_link laws whole.chain b inside entry is)
            c e (chained_below whole.chain c (before_in b c order whole.chain.distinct e))

        pub newest_already : entry.newer ≡ none → order ≡ b ∷ without_bucket b order
        newest_already e = newest_again b order whole.chain.distinct inside (end_by_link laws (bucket_before b order)
            (λ y k. chained_below whole.chain y (before_in b y order whole.chain.distinct k))
            (sym (newer_link laws whole.chain b inside entry is) ∙ e))

        pub newest_left : {slots' : List (Slot (Entry K V N))} {newest' oldest' : N} → entry.newer ≢ none
            → IsChain number link none slots' newest' oldest' (without_bucket b order) → newest' ≢ none
        newest_left newer left e =
            let alone = end_by_link laws (first_bucket (without_bucket b order))
            (λ y k. chained_below left y (first_in (without_bucket b order) y k)) (sym left.newest_first ∙ e) in
            newer (newer_link laws whole.chain b inside entry is
            ∙ ap (link_to link none) (before-alone b order whole.chain.distinct inside alone))
