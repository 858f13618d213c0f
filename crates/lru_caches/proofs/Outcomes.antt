use Rattle.std.proofs.Common.{◌≡◌, true, false, Option, Some, None, is_some, OnSome, refl}
use Rattle.std.proofs.lemmas.Bool.{true≢false, false≢true}

module _ {X : Type 0} where
  pub none_there : (o : Option X) → is_some o ≡ false → o ≡ None
  none_there None e = refl
  none_there (Some x) e = absurd (true≢false e)

  pub some_there : (o : Option X) → is_some o ≡ true → (x : X) × (o ≡ Some x)
  some_there None e = absurd (false≢true e)
  some_there (Some x) e = (x, refl)

pub on_some : {X P : Type 0} (o : Option X) (x : X) → o ≡ Some x → OnSome o P → P
on_some None x is h = absurd (cc)
on_some (Some y) x is h = h
