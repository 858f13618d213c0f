use Rattle.std.proofs.Common.{◌≡◌, ℕ, ◌≤◌, ◌<◌, ◌-◌, ◌^◌, ◌++◌, true, List, [], map, get_or, refl, sym, ap, ◌∙◌}
use Rattle.std.proofs.Common.{subst, arith}
use Rattle.std.proofs.lemmas.Bool.{or_right, eq-eqb}
use Rattle.std.proofs.lemmas.List.{get_or-map, length-map}
use Rattle.std.proofs.lemmas.List.Elements.{All-from_get_or, All-weaker}
use Rattle.std.proofs.lemmas.List.Folds.{list_any_at, list_any-append}
use Rattle.std.proofs.lemmas.List.Sorted.{list_any-IsPermutation}
use Rattle.std.specs.List.{All}
use Rattle.std.specs.Prelude.{◌/◌, ◌||◌, IfSome, nat_eq, IsPermutation}
use Rattle.lru_theory.specs.Traces.{is_in}
use Rattle.lru_trace.specs.References.{bits_of}
use Rattle.lru_trace.specs.Rows.{powers}
use Rattle.lru_trace.specs.Sized.{Sized}
use Rattle.lru_trace.specs.declared.options.Options.{Options}
use Rattle.lru_trace.proofs.Powers.{fewer_powers}
use Rattle.lru_trace.specs.Curves.{IsCurveOf, AreAlike, Fits, Has, HasAll, references_of}
use Rattle.lru_trace.specs.Outcome.{error_of}
use Rattle.lru_trace.specs.declared.byte_curve.SizeError.{SizeError}
use Rattle.lru_trace.specs.declared.byte_curve.SizeError.TheVariants as sizes
use Rattle.lru_trace.specs.declared.outcome.TraceError.TheVariants as errors
use Rattle.lru_trace.specs.declared.curves.AnyCurve.{AnyCurve}
use Rattle.lru_trace.specs.declared.curves.AnyCurve.TheVariants as curves

pub no_references : (curve : AnyCurve) → IsCurveOf [] [] curve → references_of curve ≤ 0
no_references (curves.Places curve) of = omega (arith, of.all)
no_references (curves.Deletes curve) of = omega (arith, of.all)
no_references (curves.Bytes curve) of = omega (arith, of.all)

pub alike : {curve : AnyCurve} → AreAlike curve curve
alike = record { measure = refl; keeps = refl; limits = refl }

pub alike_still : {old mid new : AnyCurve} → AreAlike old mid → AreAlike mid new → AreAlike old new
alike_still a b = record {
  measure = b.measure ∙ a.measure;
  keeps = b.keeps ∙ a.keeps;
  limits = b.limits ∙ a.limits;
}

pub too_large_from : (e : SizeError) → error_of e ≡ errors.TooLarge → e ≡ sizes.TooLarge
too_large_from sizes.Memory is = absurd cc
too_large_from sizes.TooLarge is = refl

pub fits_still : {options : Options} {sizes : List ℕ} {old new : AnyCurve} → AreAlike old new → Fits options sizes old
    → Fits options sizes new
fits_still {options} {sizes} {old} {new} alike fits = record {
  measure = alike.measure ∙ fits.measure;
  keeps = alike.keeps ∙ fits.keeps;
  named = still sizes fits.named;
  powers = λ most less. still (powers most 64 0) (fits.powers most less);
}
  where
    still : (them : List ℕ) → HasAll old (bits_of options) them → HasAll new (bits_of options) them
    still them = subst (λ limits. All (λ size. IfSome limits
        (λ ls. is_in nat_eq (size / 2 ^ bits_of options) ls ≡ true)) them) (sym alike.limits)

module _ (bits : ℕ) (sizes limits : List ℕ) (curve : Sized) (same : IsPermutation limits curve.limits)
    (is : limits ≡ map (λ size. size / 2 ^ bits) sizes
    ++ map (λ size. size / 2 ^ bits) (powers (2 ^ 128 - 1) 64 0)) where
  abbrev scaled : List ℕ → List ℕ
  scaled them = map (λ size. size / 2 ^ bits) them

  abbrev all : List ℕ
  all = powers (2 ^ 128 - 1) 64 0

  abbrev IsScaled : List ℕ → ℕ → Type 0
  IsScaled them size = is_in nat_eq (size / 2 ^ bits) (scaled them) ≡ true

  in_scaled : (them : List ℕ) → All (IsScaled them) them
  in_scaled them = All-from_get_or (IsScaled them) them 0 (λ i h. list_any_at (nat_eq (get_or them i 0 / 2 ^ bits)) (scaled them) i 0
      (omega (arith, h, length-map them (λ size. size / 2 ^ bits)))
      (eq-eqb (get_or them i 0 / 2 ^ bits) _ (sym (get_or-map (λ size. size / 2 ^ bits) them i 0 0 h))))

  abbrev HasIt : ℕ → Type 0
  HasIt size = Has (curves.Bytes curve) (size / 2 ^ bits)

  there : (them : List ℕ) → ((n : ℕ) → is_in nat_eq n (scaled them) ≡ true → is_in nat_eq n (scaled sizes ++ scaled all) ≡ true)
      → HasAll (curves.Bytes curve) bits them
  there them within = All-weaker (IsScaled them) HasIt (λ size h. sym (list_any-IsPermutation (nat_eq (size / 2 ^ bits)) limits curve.limits same)
      ∙ ap (is_in nat_eq (size / 2 ^ bits)) is ∙ within (size / 2 ^ bits) h) them (in_scaled them)

  pub has_named : HasAll (curves.Bytes curve) bits sizes
  has_named = there sizes (λ n h. list_any-append (nat_eq n) (scaled sizes) (scaled all)
      ∙ ap (λ b. b || is_in nat_eq n (scaled all)) h)

  pub has_powers : (most : ℕ) → most < 2 ^ 128 → HasAll (curves.Bytes curve) bits (powers most 64 0)
  has_powers most less = fewer_powers HasIt most (2 ^ 128 - 1) (omega (arith, less)) 64 0
      (there all (λ n h. list_any-append (nat_eq n) (scaled sizes) (scaled all)
      ∙ or_right (is_in nat_eq n (scaled sizes)) _ h))
