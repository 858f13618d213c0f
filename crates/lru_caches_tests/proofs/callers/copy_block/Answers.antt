use Rattle.std.proofs.Common.{◌≡◌, ◌∙◌, Bool, true, false, IsTrue, Result, Ok, Err, OnErr, OnOk, refl, subst}
use Rattle.lru_caches_tests.proofs.callers.copy_block.Goals as goal

on_err : {T E : Type 0} {P Q : Type 0} (r : Result T E) → (P → Q) → OnErr r P → OnErr r Q
on_err (Ok x) f p = tt
on_err (Err e) f p = f p

pub returns-clause-failed : goal.returns-clause-failed
returns-clause-failed g c = on_err c.write.result (λ later good n block was.
    later good n block (c.read.ensures.keeps
    (subst IsTrue c.write.ensures.uses.serves.usable good.0, c.write.ensures.uses.serves.honest good.1) n block was))
    c.write.ensures.failed

usable_if_ok : {T E : Type 0} {P : Type 0} (r : Result T E) (e : E) (usable : Bool) → (usable ≡ false → r ≡ Err e)
    → (IsTrue usable → P) → OnOk r P
usable_if_ok (Ok x) e true broken f = f refl
usable_if_ok (Ok x) e false broken f = let no = broken refl in absurd cc
usable_if_ok (Err x) e usable broken f = tt

pub returns-clause-others : goal.returns-clause-others
returns-clause-others g c =
    usable_if_ok c.write.result _ (g.D.BlockDevice.is_usable c.read.new.self.device) c.write.ensures.broken
    (λ usable honest m b apart was. c.write.ensures.others honest m apart
    ∙ c.read.ensures.keeps (usable, c.write.ensures.uses.serves.honest honest) m b was)
