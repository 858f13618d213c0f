use Rattle.std.proofs.Common.{◌≡◌, ℕ, zero, suc, ◌<◌, List, [], ◌∷◌, replicate, refl, sym, ap, ◌∙◌, arith}
use Rattle.std.proofs.lemmas.List.{length-replicate}
use Rattle.std.proofs.lemmas.Bool.{false≢true}
use Rattle.group_table.specs.Bucket.{Slot, empty, is_full, IsFull, bucket_states}
use Rattle.group_table.proofs.CopyLemmas.{copy_at}
use Rattle.group_table.proofs.FreshLemmas.{entry_count-none}
use Rattle.lru_model.proofs.PairLists.Members.{Contains-nil}
use Rattle.ordered_table.specs.declared.linked.Entry.{Entry}
use Rattle.ordered_table.specs.Chain.{pair_slots, IsWhole}

none_full : (T : Type 0) (n b : ℕ) → IsFull {A = T} (replicate n empty) b → ⊥
none_full T n b h = false≢true (sym (ap is_full (copy_at n b empty)) ∙ h)

pair_slots-empty : (K V N : Type 0) (n : ℕ) → pair_slots {K = K} {V = V} {N = N} (replicate n empty) ≡ replicate n empty
pair_slots-empty K V N zero = refl
pair_slots-empty K V N (suc n) = ap (λ slots. empty ∷ slots) (pair_slots-empty K V N n)

pub pair_slots-cleared : {K V N : Type 0} (slots : List (Slot (Entry K V N))) (n : ℕ) → slots ≡ replicate n empty
    → pair_slots slots ≡ replicate n empty
pair_slots-cleared {K} {V} {N} slots n is = ap pair_slots is ∙ pair_slots-empty K V N n

pub bucket_states-cleared : (T : Type 0) (n : ℕ) → bucket_states {A = T} (replicate n empty) ≡ replicate n empty
bucket_states-cleared T zero = refl
bucket_states-cleared T (suc n) = ap (λ states. empty ∷ states) (bucket_states-cleared T n)

pub IsWhole-cleared : {K V N : Type 0} {number : N → ℕ} {link : ℕ → N} {none : N} (slots : List (Slot (Entry K V N)))
    (n : ℕ) → slots ≡ replicate n empty → n < number none
    → IsWhole number link none slots none none []
IsWhole-cleared {K} {V} {N} slots n is below = rw is (record {
  chain = record {
    reached = rw (length-replicate {A = Slot (Entry K V N)} n empty) below;
    distinct = λ i j d p q. absurd (omega (arith, p, q));
    only = λ b h. absurd (Contains-nil b h);
    newest_first = refl;
    oldest_last = refl;
    newer = λ b h. absurd (Contains-nil b h);
    older = λ b h. absurd (Contains-nil b h);
  };
  all = λ b h. absurd (none_full _ n b h);
  count = entry_count-none (replicate n empty) (λ b. copy_at n b empty);
})
