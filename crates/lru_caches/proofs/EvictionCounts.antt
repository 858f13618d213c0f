-- `mid` and `between` are the pages and the counts before the call looks for room, and `room` is left of the pages.
use Rattle.std.proofs.Common.{◌≡◌, ◌⊎◌, ◌-◌, List, length, Option, None, is_some, Result, IfErr, OnOk, cond, sym}
use Rattle.std.proofs.Common.{ap, ◌∙◌, subst}
use Rattle.lru_caches.specs.Pages.{evicts, hit, missed}
use Rattle.lru_caches.specs.declared.page_cache.pages.Counts.{Counts}
use Rattle.std.proofs.lemmas.Result.{on_ok_weaker}

module _ {X T E : Type 0} (memory : E) (result : Result T E) (old mid left room new : List X)
    (counts between now : Counts) (stays : mid ≡ old) (same : between ≡ counts) (is : left ≡ room) where
  pub failed-counts : IfErr result (λ e. ((new ≡ mid) × (now ≡ between))
      ⊎ ((e ≡ memory) × (new ≡ left) × (now ≡ evicts (length mid - length left) between)))
      → IfErr result (λ e. ((new ≡ old) × (now ≡ counts))
      ⊎ ((e ≡ memory) × (new ≡ room) × (now ≡ evicts (length old - length room) counts)))
  failed-counts h =
      subst (λ l. IfErr result (λ e. ((new ≡ old) × (now ≡ counts))
      ⊎ ((e ≡ memory) × (new ≡ l) × (now ≡ evicts (length old - length l) counts)))) is
      (subst (λ c. IfErr result (λ e. ((new ≡ old) × (now ≡ c))
      ⊎ ((e ≡ memory) × (new ≡ left) × (now ≡ evicts (length old - length left) c)))) same
      (subst (λ l. IfErr result (λ e. ((new ≡ l) × (now ≡ between))
      ⊎ ((e ≡ memory) × (new ≡ left) × (now ≡ evicts (length l - length left) between)))) stays h))

  pub missed-counts : {Y : Type 0} (found : Option Y) → found ≡ None
      → OnOk result (now ≡ missed (length mid - length left) between)
      → OnOk result (now ≡ cond (is_some found) (hit counts) (missed (length old - length room) counts))
  missed-counts found none = on_ok_weaker result (λ h. h
      ∙ ap (missed (length mid - length left)) same
      ∙ ap (λ l. missed (length l - length left) counts) stays
      ∙ ap (λ l. missed (length old - length l) counts) is
      ∙ ap (λ o. cond (is_some o) (hit counts) (missed (length old - length room) counts)) (sym none))
