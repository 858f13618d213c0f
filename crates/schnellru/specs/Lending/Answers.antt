-- The result of a get that inserts a missing key: the value that the get lends, or the reason why it lends no value.
use Rattle.std.specs.Prelude.{◌≡◌, Bool, true, Option, Some, None, Result, Ok, Err, is_some}
use Rattle.std.specs.Borrow.{GName, MutBor}
use Rattle.schnellru.specs.declared.map.get_or_insert.NotLent.{NotLent}
use Rattle.schnellru.specs.declared.map.get_or_insert.NotLent.TheVariants.{NotKept, Failed}
use mathlib.Core.Option as maybe

module _ {V E : Type 0} where
  -- the result of a get that inserts, with `Ok None` instead of the error `NotKept`
  abbrev pub lent_or_none : Result (MutBor V) (NotLent E) → Result (Option (MutBor V)) E
  lent_or_none (Ok x) = Ok (Some x)
  lent_or_none (Err NotKept) = Ok None
  lent_or_none (Err (Failed e)) = Err e

  -- the result with a flag instead of the lent value; the flag is true if a value is lent
  abbrev pub is_kept : Result (Option (MutBor V)) E → Result Bool E
  is_kept (Ok o) = Ok (is_some o)
  is_kept (Err e) = Err e

  abbrev pub IsLent : Result (Option (MutBor V)) E → Type 0
  IsLent r = is_kept r ≡ Ok true

  abbrev pub NoneLent : Result (Option (MutBor V)) E → Type 0
  NoneLent r = is_kept r ≡ Ok true → ⊥

  abbrev pub value_lent : Result (Option (MutBor V)) E → Option V
  value_lent (Ok (Some x)) = Some x.now
  value_lent (Ok None) = None
  value_lent (Err e) = None

  -- the ghost name that identifies the lent reference
  abbrev pub name_lent : Result (Option (MutBor V)) E → maybe.Option GName
  name_lent (Ok (Some x)) = maybe.some x.ghost_name
  name_lent (Ok None) = maybe.none
  name_lent (Err e) = maybe.none
