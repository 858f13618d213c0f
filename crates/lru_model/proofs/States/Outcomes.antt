use Rattle.std.proofs.Common.{◌≡◌, Bool, Result, Ok, Err, arith}
use Rattle.std.specs.Prelude.{IsOk, IsErr, OnErr}
use Rattle.std.specs.declared.alloc.AllocError.{AllocError}
use Rattle.lru_model.specs.Place.{placed, refused, no_memory}

pub placed-not_no_memory : {A : Type 0} → placed ≡ no_memory → A
placed-not_no_memory e = absurd (grind arith)

pub refused-not_no_memory : {A : Type 0} → refused ≡ no_memory → A
refused-not_no_memory e = absurd (grind arith)

pub refused-not_placed : {A : Type 0} → refused ≡ placed → A
refused-not_placed e = absurd (grind arith)

pub ok-not_err : {A : Type 0} (result : Result Bool AllocError) → IsOk result → IsErr result → A
ok-not_err (Ok b) h k = absurd (grind (arith, k))
ok-not_err (Err e) h k = absurd (grind (arith, h))

pub on_err : {T E P : Type 0} (result : Result T E) → P → OnErr result P
on_err (Ok v) h = tt
on_err (Err e) h = h

pub same_kept : {E : Type 0} (x y : Bool) → ◌≡◌ {A = Result Bool E} (Ok x) (Ok y) → x ≡ y
same_kept x y e = cc
