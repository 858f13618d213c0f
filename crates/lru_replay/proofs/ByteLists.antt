use Rattle.std.proofs.Common.{◌≡◌, ℕ, zero, suc, ◌<◌, ◌≤◌, List, [], ◌∷◌, ◌++◌, length, take, refl, sym, ap, ◌∙◌, arith}
use Rattle.std.proofs.Common.{Option, Some, None, OnSome}
use Rattle.std.proofs.lemmas.List.{length-take, take_all, take-append-le, length-append}
use Rattle.std.specs.Io.KnownBytes.{Consumes, IsAtEnd}
use Rattle.lru_replay.specs.Lines.{Lacks}

pub short_front : (n : ℕ) (all s : List ℕ) → s ≡ take n all → length s < n → s ≡ all
short_front n all s e h = let k : length s ≡ length (take n all) = ap length e in e
    ∙ take_all n all (omega (arith, k, length-take n all))

pub kept_more : (n : ℕ) (all s : List ℕ) (b : ℕ) → s ≡ take n all → length s < n → s ++ b ∷ [] ≡ take n (all ++ b ∷ [])
kept_more n all s b e h =
    let same = short_front n all s e h in
    let fits : length (all ++ b ∷ []) ≤ n = simp length-append (omega (arith, ap length same)) in
    ap (λ l. l ++ b ∷ []) same ∙ sym (take_all n (all ++ b ∷ []) fits)

pub kept_full : (n : ℕ) (all s more : List ℕ) → s ≡ take n all → length s ≡ n → s ≡ take n (all ++ more)
kept_full n all s more e h =
    let k : length s ≡ length (take n all) = ap length e in
    e ∙ sym (take-append-le n all more (omega (arith, k, length-take n all)))

pub kept_again : (n : ℕ) (all more : List ℕ) → take n (take n all ++ more) ≡ take n (all ++ more)
kept_again zero all more = refl
kept_again (suc n) [] more = refl
kept_again (suc n) (b ∷ all) more = ap (λ l. b ∷ l) (kept_again n all more)

pub nothing_held : (n : ℕ) (all : List ℕ) → take (suc n) all ≡ (let none : List ℕ = [] in none) → all
    ≡ (let none : List ℕ = [] in none)
nothing_held n [] e = refl
nothing_held n (b ∷ all) e = absurd (cc)

pub some_held : (n : ℕ) (all : List ℕ) → 0 < length (take n all) → 0 < length all
some_held zero all h = absurd (omega arith)
some_held (suc n) [] h = absurd (omega arith)
some_held (suc n) (b ∷ all) h = omega arith

pub Lacks-append : (byte : ℕ) (xs ys : List ℕ) → Lacks byte xs → Lacks byte ys → Lacks byte (xs ++ ys)
Lacks-append byte [] ys p q = q
Lacks-append byte (x ∷ xs) ys p q = (p.0, Lacks-append byte xs ys p.1 q)

pub one_split : (byte : ℕ) (a b c d : List ℕ) → Lacks byte a → Lacks byte c → a ++ byte ∷ b ≡ c ++ byte ∷ d → (a ≡ c)
    × (b ≡ d)
one_split byte [] b [] d p q e = (refl, cc)
one_split byte [] b (y ∷ c) d p q e = let h : y ≡ byte = cc in absurd (q.0 h)
one_split byte (x ∷ a) b [] d p q e = let h : x ≡ byte = cc in absurd (p.0 h)
one_split byte (x ∷ a) b (y ∷ c) d p q e =
    let tail : a ++ byte ∷ b ≡ c ++ byte ∷ d = cc in
    let r = one_split byte a b c d p.1 q.1 tail in
    let head : x ≡ y = cc in
    let rest : a ≡ c = r.0 in
    ((cc), r.1)

pub Lacks-none : (byte : ℕ) (a b : List ℕ) → Lacks byte (a ++ byte ∷ b) → ⊥
Lacks-none byte [] b p = p.0 refl
Lacks-none byte (x ∷ a) b p = Lacks-none byte a b p.1

pub Consumes_end : (a b c : Option (List ℕ)) (bytes : List ℕ) → Consumes a b bytes → OnSome b (IsAtEnd c)
    → OnSome a (IsAtEnd c)
Consumes_end None b c bytes p q = tt
Consumes_end (Some x) None c bytes p q = absurd p
Consumes_end (Some x) (Some y) c bytes p q = q
