-- The texts of keys, and their numbers.
use Rattle.std.specs.Prelude.{◌≡◌, ◌≢◌, ℕ, ◌+◌, ◌-◌, ◌/◌, ◌%◌, ◌^◌, ◌≤◌, ◌<◌, List, [], ◌∷◌, take, drop, length, get_or, Option, bit_xor}
use Rattle.std.specs.List.{position}
use Rattle.std.specs.Str.{bytes_eq}
use Rattle.lru_trace.specs.Samples.{hash}

-- the number of a text: its index in the list
abbrev pub number_in : List (List ℕ) → List ℕ → Option ℕ
number_in names text = position (bytes_eq text) names

-- The texts in `bytes`. The first text begins at `start`. Each text ends at one of the `ends`, and there the next text
-- begins.
abbrev pub texts : ℕ → List ℕ → List ℕ → List (List ℕ)
texts start [] bytes = []
texts start (end ∷ ends) bytes = take (end - start) (drop start bytes) ∷ texts end ends bytes

-- If there are no ends, `start` is `last`. Otherwise the ends do not decrease from `start` on, and the last end is `last`.
abbrev pub AreEnds : ℕ → List ℕ → ℕ → Type 0
AreEnds start [] last = start ≡ last
AreEnds start (end ∷ ends) last = (start ≤ end) × AreEnds end ends last

-- the chain of a text, if there are this many chains
unfoldable pub chain_of : ℕ → List ℕ → ℕ
chain_of chains text = bit_xor (hash text) (hash text / 2 ^ 32) % chains

-- A link leads to the last text in a chain, among the first `n` texts. It is one more than the number of this text, or 0
-- if the chain contains none of these texts.
pub record IsLink (chain_at : ℕ → ℕ) (chain n link : ℕ) : Type 0 where
  pub within : link ≤ n
  pub there : (number : ℕ) → link ≡ number + 1 → chain_at number ≡ chain
  pub others : (number : ℕ) → link ≤ number → number < n → chain_at number ≢ chain

module _ (texts : List (List ℕ)) where
  -- no text equals a later text
  abbrev pub AreDistinct : Type 0
  AreDistinct = (number later : ℕ) → number < later → later < length texts
      → get_or texts number [] ≢ get_or texts later []

  abbrev pub chain_at : ℕ → ℕ → ℕ
  chain_at chains number = chain_of chains (get_or texts number [])

  -- The first `n` texts stand in chains. `newest` has a link for each chain, and `older` has, for each text, a link to the
  -- text before it in its chain.
  pub record AreLinked (n : ℕ) (newest older : List ℕ) : Type 0 where
    pub size : length older ≡ length texts
    pub some_chains : 0 < length newest
    pub newest_is : (chain : ℕ) → chain < length newest
        → IsLink (chain_at (length newest)) chain n (get_or newest chain 0)
    pub older_is : (number : ℕ) → number < n
        → IsLink (chain_at (length newest)) (chain_at (length newest) number) number (get_or older number 0)

  -- what is known of `Names` (src/names.rt)
  pub record AreNames (newest older : List ℕ) : Type 0 where
    pub few : length texts < 2 ^ 32
    pub linked : AreLinked (length texts) newest older
    pub distinct : AreDistinct
