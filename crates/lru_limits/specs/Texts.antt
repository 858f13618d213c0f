-- Texts that name keys of the type `String`.
--     `names_text bytes k`: whether the key k has these bytes.
--     `names_text-lawful text`: the laws of a look-up key q that names the `String` with the bytes `text q`.
--     `GivesText bytes v given`: `given` is an entry to store, with the value v and a key with these bytes.
--     `given-names_text`: the bytes of `GivesText` name the key of the entry to store.
--     `same_text k`: the bytes of the key k name the key k.
use Rattle.std.specs.Prelude.{◌≡◌, ℕ, Bool, List, Option, Some, IsTrue, IsSomeAnd, string_bytes}
use Rattle.std.specs.declared.string.String.{String}
use Rattle.std.specs.declared.alloc.Global.{Global}
use Rattle.std.specs.Hash as fed
use Rattle.std.specs.Cmp.Lexicographic.{bytes_decides, nat_list_eq_equiv}
use Rattle.std.specs.Str.{bytes_eq}
use Rattle.std.proofs.Common.{ap, sym}
use Rattle.lru_limits.specs.Laws.{IsLookup}

abbrev pub names_text : List ℕ → String Global → Bool
names_text bytes k = bytes_eq bytes (string_bytes k)

pub names_text-lawful : {Q : Type 0} (text : Q → List ℕ) → IsLookup (λ q k. names_text (text q) k)
    (λ x y. bytes_eq (string_bytes x) (string_bytes y)) (λ q. fed.str (text q)) (λ k. fed.str (string_bytes k))
names_text-lawful text = record {
  writes = λ q k named. ap fed.str ((bytes_decides (text q) (string_bytes k)).0 named);
  one = λ q x y. nat_list_eq_equiv.congr (text q) (string_bytes x) (string_bytes y);
}

abbrev pub GivesText : {V : Type 0} → List ℕ → V → Option (String Global × V) → Type 0
GivesText bytes v given = IsSomeAnd given (λ p. (string_bytes p.0 ≡ bytes) × (p.1 ≡ v))

pub given-names_text : {V : Type 0} (bytes : List ℕ) (v : V) (k : String Global) (w : V)
    → GivesText bytes v (Some (k, w)) → IsTrue (names_text bytes k)
given-names_text bytes v k w given = (bytes_decides bytes (string_bytes k)).1 (sym given.0)

pub same_text : (k : String Global) → IsTrue (names_text (string_bytes k) k)
same_text k = nat_list_eq_equiv.refl (string_bytes k)
