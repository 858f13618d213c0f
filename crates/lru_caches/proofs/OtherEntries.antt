use Rattle.std.proofs.Common.{◌≡◌, ◌+◌, Bool, List, length, Option, Some, None, refl, ap, arith, is_some}
use Rattle.lru_model.proofs.CallerLemmas.{without_none}
use Rattle.lru_model.proofs.Theorems.Limits.{length-without_found}
use mir.Val.{bool_byte}
use Rattle.lru_model.specs.Lists.{lookup_entry, without}

module _ {K V : Type 0} (names : K → Bool) (pairs : List (K × V)) where
  pub other-count : (there : Bool) → there ≡ is_some (lookup_entry names pairs)
      → length (without names pairs) + bool_byte there ≡ length pairs
  other-count there is = go (lookup_entry names pairs) refl is
    where
      go : (found : Option (K × V)) → lookup_entry names pairs ≡ found → there ≡ is_some found
          → length (without names pairs) + bool_byte there ≡ length pairs
      go (Some pair) e is = rw is (length-without_found names pairs pair e)
      go None e is = rw is (omega (arith, ap length (without_none names pairs e)))
