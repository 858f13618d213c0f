use Rattle.std.proofs.Common.{Result, Ok, Err, IfOk, OnOk}

pub follows : {T E : Type 0} {P : T → Type 0} {Q : Type 0} (result : Result T E) → ((value : T) → P value → Q)
    → IfOk result P → OnOk result Q
follows (Ok value) f holds = f value holds
follows (Err error) f holds = tt
