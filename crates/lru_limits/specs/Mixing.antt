-- What the hasher computes, as functions.
--     `Mixer`: the state of the hasher, a key for words of eight bytes, and a key for a rest of fewer bytes.
--     `folded a b`: the xor of the two 64-bit halves of a * b.
--     `joined key state word`: the state of the hasher after the hasher got this word.
--     `rest_word bytes`: fewer than eight bytes as one word; its top byte is the number of these bytes.
--     `written h bytes`: the hasher h after the bytes were written. The hasher gets a word for each eight bytes, and a
--         word for the rest.
--     `closed h`: the hash that the hasher h returns.
--     `seeded words`: the hasher with these four seeds, before the first write.
use Rattle.std.specs.Prelude.{ℕ, ◌+◌, ◌*◌, ◌/◌, ◌%◌, ◌^◌, ◌==◌, List, length, drop, fold, bit_xor, slice_index}
use Rattle.std.specs.Prelude.{if◌then◌else◌}
use Rattle.std.specs.Int.{w64, from_le_bytes}
use Rattle.std.specs.Simd.{first_chunks}

pub record Mixer : Type 0 where
  pub state : ℕ
  pub word_key : ℕ
  pub rest_key : ℕ

abbrev pub folded : ℕ → ℕ → ℕ
folded a b = bit_xor (a * b % 2 ^ 64) (a * b / 2 ^ 64)

abbrev pub joined : ℕ → ℕ → ℕ → ℕ
joined key state word = folded (bit_xor state word) key

-- the bytes after the end of the rest are 0
abbrev pub rest_word : List ℕ → ℕ
rest_word bytes = from_le_bytes w64 bytes + length bytes * 2 ^ 56

abbrev pub written : Mixer → List ℕ → Mixer
written h bytes =
    let words = first_chunks 8 (length bytes / 8) bytes in
    let rest = drop (length bytes / 8 * 8) bytes in
    let state = fold (λ s word. joined h.word_key s (from_le_bytes w64 word)) h.state words in
    record h { state = if length rest == 0 then state else joined h.rest_key state (rest_word rest) }

abbrev pub closed : Mixer → ℕ
closed h = h.state

-- each seed is xored with its own constant, and the last two seeds make one key
abbrev pub seeded : List ℕ → Mixer
seeded words = record {
  state = bit_xor (slice_index words 0) 0x6a09_e667_f3bc_c908;
  word_key = bit_xor (slice_index words 1) 0xbb67_ae85_84ca_a73b;
  rest_key = folded
      (bit_xor (slice_index words 2) 0x3c6e_f372_fe94_f82b) (bit_xor (slice_index words 3) 0xa54f_f53a_5f1d_36f1);
}
