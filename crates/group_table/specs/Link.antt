-- The laws of a link type.
--     `IsLinkType number link most`: the laws of `LinkType`; `most` stands for `MAX`.
--     `link_below laws n below`: if n is below the number of `MAX`, `link n` is not `MAX`.
--     `narrowest_most`: the least number that `MAX` may have.
--     `numbers_are_links`: the laws hold if links are numbers.
use Rattle.std.specs.Prelude.{◌≡◌, ◌≢◌, ◌≤◌, ◌<◌, ℕ, refl}
use Rattle.std.proofs.Common.{ap, arith}

abbrev pub narrowest_most : ℕ
narrowest_most = 255

pub record IsLinkType {N : Type 0} (number : N → ℕ) (link : ℕ → N) (most : N) : Type 0 where
  pub number_of_link : (n : ℕ) → n < number most → number (link n) ≡ n
  pub equal_by_number : (a b : N) → number a ≡ number b → a ≡ b
  -- a link has at least eight bits
  pub wide_enough : narrowest_most ≤ number most

pub link_below : {N : Type 0} {number : N → ℕ} {link : ℕ → N} {most : N} → IsLinkType number link most
    → (n : ℕ) → n < number most → link n ≢ most
link_below {N} {number} {link} {most} laws n below same =
    absurd (omega (arith, laws.number_of_link n below, ap number same, below))

pub numbers_are_links : (most : ℕ) → narrowest_most ≤ most → IsLinkType (λ n. n) (λ n. n) most
numbers_are_links most wide = record {
  number_of_link = λ n below. refl;
  equal_by_number = λ a b same. same;
  wide_enough = wide;
}
