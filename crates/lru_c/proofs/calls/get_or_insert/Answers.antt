use Rattle.std.proofs.Common.{◌≡◌, ℕ, nat_eq, false, Option, Some, None, refl, sym, ap, ◌∙◌, subst}
use Rattle.std.proofs.lemmas.Bool.{true≢false}
use Rattle.lru_model.proofs.CallerLemmas.{promoted-absent}
use Rattle.lru_c.specs.Answers.{found_of, Inserts}
use Rattle.lru_c.specs.Handle.{FitsHandle}
use Rattle.lru_c.proofs.calls.get_or_insert.Goals as goal

not_found : (value : Option ℕ) → (found_of value).found ≡ false → value ≡ None
not_found None none = refl
not_found (Some value) none = absurd (true≢false none)

pub insert-requires : goal.insert-requires
insert-requires c =
    let found = c.get-found in
    let none = not_found _ (ap (λ r. r.found) (sym found.ensures.value) ∙ c.if-found.false) in
    record { fits = subst FitsHandle (sym (found.ensures.promoted ∙ promoted-absent (nat_eq c.args.key) c.args.map.now none)) c.requires.fits }

pub returns : goal.returns
returns c =
    let found = c.get-found in
    let none = not_found _ (ap (λ r. r.found) (sym found.ensures.value) ∙ c.if-found.false) in
    let same = found.ensures.promoted ∙ promoted-absent (nat_eq c.args.key) c.args.map.now none in
    rw none (subst (λ m. Inserts c.args.key c.args.value m c.insert.result c.args.place.now c.insert.new.place
    c.insert.new.map) same c.insert.ensures)
