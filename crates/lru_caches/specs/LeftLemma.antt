-- If a record of calls on a file determines the bytes that a crash leaves in a block, these bytes are the block's known
-- bytes.
use Rattle.std.specs.Prelude.{◌≡◌, ℕ, nat_eq, Bool, true, false, if◌then◌else◌, List, [], ◌∷◌, Option, Some, None, refl}
use Rattle.std.proofs.Common.{sym, ◌∙◌, ap, subst, unwrap_or, option_map}
use Rattle.std.proofs.lemmas.Option.{none-some}
use Rattle.lru_caches.specs.Files.{Event, unread, was_read, unwritten, written, unsynced, synced}
use Rattle.lru_caches.specs.Files.{known, left, or_else, IsLeft}

abbrev pub Fits : Option (List ℕ) → Option (List ℕ) → Type 0
Fits kept block = (x : List ℕ) → kept ≡ Some x → block ≡ Some x

fits_same : (same : Bool) {kept block : Option (List ℕ)} (then-kept then-block : Option (List ℕ))
    → Fits then-kept then-block → Fits kept block
    → Fits (if same then then-kept else kept) (if same then then-block else block)
fits_same true then-kept then-block now was = now
fits_same false then-kept then-block now was = was

read_fits : (same : Bool) (bytes : List ℕ) {kept block : Option (List ℕ)} → Fits kept block
    → Fits kept (if same then or_else block bytes else block)
read_fits true bytes was = λ x is. ap (λ o. or_else o bytes) (was x is)
read_fits false bytes was = was

none_fits : (block : Option (List ℕ)) → Fits None block
none_fits block x is = absurd (none-some x is)

pub left_fits : (events : List Event) (n : ℕ) → Fits (left events n) (known events n)
left_fits [] n = λ x is. is
left_fits (unread m ∷ earlier) n = left_fits earlier n
left_fits (was_read m bytes ∷ earlier) n = read_fits (nat_eq n m) bytes (left_fits earlier n)
left_fits (unwritten m bytes ∷ earlier) n = fits_same (nat_eq n m) None None (none_fits None) (left_fits earlier n)
left_fits (written m bytes ∷ earlier) n =
    fits_same (nat_eq n m) None (Some bytes) (none_fits (Some bytes)) (left_fits earlier n)
left_fits (unsynced ∷ earlier) n = left_fits earlier n
left_fits (synced ∷ earlier) n = λ x is. is

module _ (seen : List ℕ → List ℕ) (events : List Event) (n : ℕ) where
  pub left_is_known : (bytes : List ℕ) → known events n ≡ Some bytes → IsLeft seen (left events n) (seen bytes)
  left_is_known bytes is = go (left events n) refl
    where
      go : (kept : Option (List ℕ)) → left events n ≡ kept → IsLeft seen kept (seen bytes)
      go None e = tt
      go (Some x) e = ap (λ o. seen (unwrap_or o x)) (sym is ∙ left_fits events n x e)

  pub synced_leaves : (ok : Bool) (block : List ℕ)
      → IsLeft seen (left ((if ok then synced else unsynced) ∷ events) n) block → IsLeft seen (left events n) block
  synced_leaves false block is = is
  synced_leaves true block is = go (left events n) refl
    where
      go : (kept : Option (List ℕ)) → left events n ≡ kept → IsLeft seen kept block
      go None e = tt
      go (Some x) e = subst (λ o. IsLeft seen o block) (left_fits events n x e) is

  pub left_is_seen : (block : List ℕ) → option_map seen (known events n) ≡ Some block
      → IsLeft seen (left events n) block
  left_is_seen block is = go (known events n) refl is
    where
      go : (o : Option (List ℕ)) → known events n ≡ o → option_map seen o ≡ Some block
          → IsLeft seen (left events n) block
      go None e e' = absurd (none-some block e')
      go (Some bytes) e e' =
          subst (IsLeft seen (left events n)) (ap (λ o. unwrap_or o block) e') (left_is_known bytes e)
