use Rattle.std.proofs.Common.{◌≡◌, ℕ, zero, suc, ◌-◌, ◌≤◌, ◌<◌, List, [], ◌∷◌, ◌++◌, length, take, drop}
use Rattle.std.proofs.Common.{get_or, refl, sym, ap, ◌∙◌, arith}
use Rattle.std.proofs.Math.Seq.{drop-append_seam, take-length}
use Rattle.std.proofs.lemmas.List.{take-append-le, drop-append-le, length-append, length-drop}
use Rattle.lru_trace.specs.Names.{texts, AreEnds}

pub texts-length : (start : ℕ) (ends bytes : List ℕ) → length (texts start ends bytes) ≡ length ends
texts-length start [] bytes = refl
texts-length start (end ∷ ends) bytes = ap suc (texts-length end ends bytes)

starts_within : (start : ℕ) (ends : List ℕ) (last : ℕ) → AreEnds start ends last → start ≤ last
starts_within start [] last are = omega arith
starts_within start (end ∷ ends) last are = omega (arith, are.0, starts_within end ends last are.1)

-- each text stands between the end before it and its own
pub text_at : (start : ℕ) (ends bytes : List ℕ) (i : ℕ) → AreEnds start ends (length bytes) → i < length ends
    → let from = get_or (start ∷ ends) i 0 in let end = get_or ends i 0 in
    (get_or (texts start ends bytes) i [] ≡ take (end - from) (drop from bytes)) × (from ≤ end) × (end ≤ length bytes)
text_at start [] bytes i are h = absurd (omega arith)
text_at start (end ∷ ends) bytes zero are h = (refl, are.0, starts_within end ends (length bytes) are.1)
text_at start (end ∷ ends) bytes (suc i) are h = text_at end ends bytes i are.1 (omega arith)

-- the texts after one more is added
pub text_more : (start : ℕ) (ends bytes text : List ℕ) → AreEnds start ends (length bytes)
    → let now = bytes ++ text in
    AreEnds start (ends ++ length now ∷ []) (length now)
    × (texts start (ends ++ length now ∷ []) now ≡ texts start ends bytes ++ text ∷ [])
text_more start [] bytes text are = (
  (omega (arith, are, length-append bytes text), refl),
  ap (λ rest. take (length (bytes ++ text) - start) rest ∷ []) behind
      ∙ ap (λ n. take n text ∷ []) (sym (length-drop start (bytes ++ text)) ∙ ap length behind)
      ∙ ap (λ t. t ∷ []) (take-length text),
)
  where
    behind : drop start (bytes ++ text) ≡ text
    behind = ap (λ n. drop n (bytes ++ text)) are ∙ drop-append_seam bytes text
text_more start (end ∷ ends) bytes text are =
    let within = starts_within end ends (length bytes) are.1 in
    let first : take (end - start) (drop start (bytes ++ text)) ≡ take (end - start) (drop start bytes) =
    ap (take (end - start)) (drop-append-le start bytes text (omega (arith, within, are.0)))
    ∙ take-append-le (end - start) (drop start bytes) text (omega (arith, within, are.0, length-drop start bytes)) in
    let more = text_more end ends bytes text are.1 in
    ((are.0, more.0), (λ i. first i ∷ more.1 i))

pub pushed : (ends bytes text : List ℕ) {reserved ends_now bytes_now : List ℕ} {end : ℕ} → AreEnds 0 ends (length bytes)
    → reserved ≡ ends → bytes_now ≡ bytes ++ text → end ≡ length bytes_now → ends_now ≡ reserved ++ end ∷ []
    → AreEnds 0 ends_now (length bytes_now) × (texts 0 ends_now bytes_now ≡ texts 0 ends bytes ++ text ∷ [])
pushed ends bytes text are kept put at is = rw (is, kept, at, put) (text_more 0 ends bytes text are)

pub bounds : (ends bytes : List ℕ) {number start : ℕ} → AreEnds 0 ends (length bytes) → number < length ends
    → start ≡ get_or (0 ∷ ends) number 0 → let end = get_or ends number 0 in (start ≤ end) × (end ≤ length bytes)
bounds ends bytes {number} are h is = let at = text_at 0 ends bytes number are h in (omega (arith, is, at.1), at.2)
