use Rattle.std.proofs.Common.{◌≡◌, ◌≢◌, ℕ, ◌+◌, ◌-◌, ◌*◌, ◌^◌, ◌≤◌, ◌<◌, true, false, List, [], ◌∷◌, ◌++◌, length, get_or, set}
use Rattle.std.proofs.Common.{replicate, Option, Some, None, refl, sym, ap, subst, arith}
use Rattle.std.proofs.Math.Seq.{get_or-append_seam}
use Rattle.std.proofs.lemmas.Bool.Decides.{nat_tests}
use Rattle.std.proofs.lemmas.Grind.{get_or-set_at, get_or_default_zero, common_steps}
use Rattle.std.proofs.lemmas.List.{length-set, length-append, get_or-set_other, get_or_append_left}
use Rattle.std.proofs.lemmas.List.Quantifiers.{position-Some}
use Rattle.std.proofs.lemmas.List.Sums.{fails_before_first}
use Rattle.std.proofs.lemmas.Slice.Eq.{bytes_eq-Decides}
use Rattle.std.specs.Str.{bytes_eq}
use Rattle.lru_trace.specs.Names.{number_in, chain_of, chain_at, AreDistinct, AreLinked, AreNames}

pub linked_more : (texts : List (List ℕ)) (n chain : ℕ) (newest older : List ℕ)
    → AreLinked texts n newest older → n < length texts → chain < length newest
    → chain ≡ chain_at texts (length newest) n
    → AreLinked texts (n + 1) (set newest chain (n + 1)) (set older n (get_or newest chain 0))
linked_more texts n chain newest older are within small is = grind (arith, length-set, get_or-set_at, get_or-set_other)

-- A walk down the chain of a text has come to this link, and all texts that it leaves out are other texts.
pub record IsWalk (texts : List (List ℕ)) (text : List ℕ) (chains link : ℕ) : Type 0 where
  pub within : link ≤ length texts
  pub there : (number : ℕ) → link ≡ number + 1 → chain_at texts chains number ≡ chain_of chains text
  pub others : (number : ℕ) → link ≤ number → number < length texts → get_or texts number [] ≢ text

module _ {texts : List (List ℕ)} {newest older : List ℕ} (are : AreNames texts newest older) where
  -- with new chains that contain no texts
  pub none_linked : {chains : ℕ} {fresh : List ℕ} → chains ≡ length newest → fresh ≡ replicate (2 * chains) 0
      → AreLinked texts 0 fresh older
  none_linked size none = let linked = are.linked in grind (arith, common_steps)

  -- with new chains that contain all texts
  pub all_linked : {now : List (List ℕ)} {n : ℕ} {newest_now older_now : List ℕ} → now ≡ texts → n ≡ length texts
      → AreLinked now n newest_now older_now → AreNames now newest_now older_now
  all_linked is all linked = grind arith

module _ {texts : List (List ℕ)} {newest older : List ℕ} (are : AreNames texts newest older) (text : List ℕ) where
  pub walk_begins : {chains chain link : ℕ} → chains ≡ length newest → chain ≡ chain_of chains text → chain < chains
      → link ≡ get_or newest chain link → IsWalk texts text (length newest) link
  walk_begins size is small read = grind (arith, get_or_default_zero)

  pub walk_goes_on : {link next : ℕ} {got : List ℕ} → IsWalk texts text (length newest) link → 0 < link
      → got ≡ get_or texts (link - 1) [] → false ≡ bytes_eq got text → next ≡ get_or older (link - 1) next
      → IsWalk texts text (length newest) next × (next < link)
  walk_goes_on walk some is test read = grind (arith, get_or_default_zero, bytes_eq-Decides)

  named : (number : ℕ) → number_in texts text ≡ Some number → (number < length texts) × (get_or texts number [] ≡ text)
  named number is = let at = position-Some (bytes_eq text) texts number [] is in grind (arith, bytes_eq-Decides)

  unnamed : number_in texts text ≡ None → (k : ℕ) → k < length texts → get_or texts k [] ≢ text
  unnamed none k h same = grind (arith, nat_tests, fails_before_first, bytes_eq-Decides)

  pub found : {link : ℕ} {got : List ℕ} (number : Option ℕ) → IsWalk texts text (length newest) link → 0 < link
      → got ≡ get_or texts (link - 1) [] → true ≡ bytes_eq got text → number_in texts text ≡ number
      → Some (link - 1) ≡ number
  found {link} None walk some got test is = let other = unnamed is (link - 1) in grind (arith, bytes_eq-Decides)
  found {link} (Some k) walk some got test is =
      let at = named k is in
      let below = are.distinct k (link - 1) in
      let above = are.distinct (link - 1) k in
      ap Some (grind (arith, bytes_eq-Decides))

  pub not_found : {link : ℕ} (number : Option ℕ) → IsWalk texts text (length newest) link → link ≤ 0
      → number_in texts text ≡ number → None ≡ number
  not_found None walk ended is = refl
  not_found (Some k) walk ended is = let at = named k is in absurd (walk.others k (omega arith) at.0 at.1)

  distinct_more : number_in texts text ≡ None → AreDistinct (texts ++ text ∷ [])
  distinct_more none k later less h same =
      let other = unnamed none in
      let distinct = are.distinct in
      let end = get_or-append_seam texts text [] [] in
      let left = λ (i : ℕ). get_or_append_left texts (text ∷ []) [] i in
      grind (arith, length-append)

  pub linked_later : {now : List (List ℕ)} {n : ℕ} {newest_now older_now : List ℕ} → now ≡ texts ++ text ∷ []
      → n ≡ length texts → newest_now ≡ newest → older_now ≡ older ++ 0 ∷ []
      → AreLinked now n newest_now older_now
  linked_later is all same more = let linked = are.linked in grind (arith, length-append, get_or_append_left)

  pub named_more : {now : List (List ℕ)} {n : ℕ} {newest_now older_now : List ℕ} → now ≡ texts ++ text ∷ []
      → number_in texts text ≡ None → n ≡ length texts → n < 2 ^ 32 - 1
      → AreLinked now (n + 1) newest_now older_now → AreNames now newest_now older_now
  named_more is none all few linked = record {
    few = grind (arith, length-append);
    linked = grind (arith, length-append);
    distinct = subst AreDistinct (sym is) (distinct_more none);
  }
