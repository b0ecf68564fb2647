-- Blocks as two words, and back; the round keys by place.
use Rattle.std.specs.Prelude.{◌≡◌, ℕ, ◌+◌, ◌-◌, ◌*◌, ◌/◌, ◌%◌, ◌^◌, ◌<◌, ◌≤◌, List, [], ◌∷◌, ◌++◌, reverse, length, slice_index, slice_index_or, refl}
use Rattle.std.proofs.Common.{sym, ap, ap₂, ◌∙◌, ⊎_elim, arith}
use Rattle.std.proofs.Math.Nat.{div-div-eq-div-mul}
use Rattle.block.specs.Blocks.{Block}
use Rattle.std.proofs.lemmas.List.{length-reverse, length-append, get_or_append_left, get_or-append_right, get_or-reverse}
use Rattle.std.proofs.lemmas.Bool.{cases_lt}
use Rattle.magma.specs.Magma.{word_bytes, halves, joined_halves, round_keys}
use Rattle.magma.specs.Rounds.{Words}

word-bytes : (a b c d : ℕ) → a < 256 → b < 256 → c < 256 → d < 256
    → word_bytes (a * 16777216 + b * 65536 + c * 256 + d) ≡ a ∷ b ∷ c ∷ d ∷ []
word-bytes a b c d p q r s =
    let x : ℕ = a * 16777216 + b * 65536 + c * 256 + d in
    let e0 : x / 16777216 % 256 ≡ a = omega arith in
    let e1 : x / 65536 % 256 ≡ b = omega arith in
    let e2 : x / 256 % 256 ≡ c = omega arith in
    let e3 : x % 256 ≡ d = omega arith in
    cc

-- a word from the quotients by 256 in turn
assembled : (x a b c : ℕ) → x / 256 ≡ a → a / 256 ≡ b → b / 256 ≡ c → x < 2 ^ 32
    → c % 256 * 16777216 + b % 256 * 65536 + a % 256 * 256 + x % 256 ≡ x
assembled x a b c p q r h =
    let e0 : a * 256 + x % 256 ≡ x = omega arith in
    let e1 : b * 256 + a % 256 ≡ a = omega arith in
    let e2 : c * 256 + b % 256 ≡ b = omega arith in
    let l : c < 256 = omega arith in
    let e3 : c % 256 ≡ c = omega arith in
    omega (arith, e0, e1, e2, e3)

bytes_word : (x : ℕ) → x < 2 ^ 32
    → x / 16777216 % 256 * 16777216 + x / 65536 % 256 * 65536 + x / 256 % 256 * 256 + x % 256 ≡ x
bytes_word x h =
    assembled x (x / 256) (x / 65536) (x / 16777216) refl (div-div-eq-div-mul x 256 256) (div-div-eq-div-mul x 65536 256) h

pub halves-joined : (s : ℕ × ℕ) → Words s → halves (joined_halves s) ≡ s
unfolding halves joined_halves
halves-joined s h = ap₂ (λ (x y : ℕ). (x, y)) (bytes_word s.0 h.0) (bytes_word s.1 h.1)

pub joined-halves : (b : List ℕ) → Block 8 b → joined_halves (halves b) ≡ b
unfolding halves joined_halves
joined-halves [] h = absurd (omega (arith, h.long))
joined-halves (a ∷ []) h = absurd (omega (arith, h.long))
joined-halves (a ∷ (b ∷ [])) h = absurd (omega (arith, h.long))
joined-halves (a ∷ (b ∷ (c ∷ []))) h = absurd (omega (arith, h.long))
joined-halves (a ∷ (b ∷ (c ∷ (d ∷ [])))) h = absurd (omega (arith, h.long))
joined-halves (a ∷ (b ∷ (c ∷ (d ∷ (e ∷ []))))) h = absurd (omega (arith, h.long))
joined-halves (a ∷ (b ∷ (c ∷ (d ∷ (e ∷ (f ∷ [])))))) h = absurd (omega (arith, h.long))
joined-halves (a ∷ (b ∷ (c ∷ (d ∷ (e ∷ (f ∷ (i ∷ []))))))) h = absurd (omega (arith, h.long))
joined-halves (a ∷ (b ∷ (c ∷ (d ∷ (e ∷ (f ∷ (i ∷ (j ∷ [])))))))) h =
    ap₂ (λ (l m : List ℕ). l ++ m)
    (word-bytes a b c d h.bytes.0 h.bytes.1.0 h.bytes.1.1.0 h.bytes.1.1.1.0)
    (word-bytes e f i j h.bytes.1.1.1.1.0 h.bytes.1.1.1.1.1.0 h.bytes.1.1.1.1.1.1.0 h.bytes.1.1.1.1.1.1.1.0)
joined-halves (a ∷ (b ∷ (c ∷ (d ∷ (e ∷ (f ∷ (i ∷ (j ∷ (k ∷ rest))))))))) h = absurd (omega (arith, h.long))

byte : (x : ℕ) → x % 256 < 256
byte x = omega arith

pub joined-block : (s : ℕ × ℕ) → Block 8 (joined_halves s)
unfolding joined_halves
joined-block s =
    record {
      long = refl;
      bytes = (
        byte (s.0 / 16777216),
        (
          byte (s.0 / 65536),
          (
            byte (s.0 / 256),
            (
              byte s.0,
              (byte (s.1 / 16777216), (byte (s.1 / 65536), (byte (s.1 / 256), (byte s.1, tt)))),
            ),
          ),
        ),
      );
    }

-- ---- the round keys

pub keys_length : (ws : List ℕ) → length ws ≡ 8 → length (round_keys ws) ≡ 32
unfolding round_keys
keys_length ws h = simp (length-append, length-reverse) (omega arith)

pub in_order : (ws : List ℕ) (i : ℕ) → length ws ≡ 8 → i < 24 → slice_index ws (i % 8) ≡ slice_index (round_keys ws) i
unfolding round_keys
in_order ws i h k =
    let one : i < 8 → slice_index ws (i % 8) ≡ slice_index_or (round_keys ws) i 0 =
    λ l.
    let e : i % 8 ≡ i = omega arith in
    ap (λ (j : ℕ). slice_index ws j) e ∙ sym (get_or_append_left ws (ws ++ (ws ++ reverse ws)) 0 i (omega arith)) in
    let two : 8 ≤ i → i < 16 → slice_index ws (i % 8) ≡ slice_index_or (round_keys ws) i 0 =
    λ l m.
    let e : i % 8 ≡ i - 8 = omega arith in
    ap (λ (j : ℕ). slice_index ws j) e
    ∙ sym
    (get_or-append_right ws (ws ++ (ws ++ reverse ws)) 8 i 0 h l ∙ get_or_append_left ws (ws ++ reverse ws) 0 (i - 8) (omega arith)) in
    let three : 16 ≤ i → slice_index ws (i % 8) ≡ slice_index_or (round_keys ws) i 0 =
    λ l.
    let e : i % 8 ≡ i - 8 - 8 = omega arith in
    ap (λ (j : ℕ). slice_index ws j) e
    ∙ sym
    (get_or-append_right ws (ws ++ (ws ++ reverse ws)) 8 i 0 h (omega arith)
    ∙ get_or-append_right ws (ws ++ reverse ws) 8 (i - 8) 0 h (omega arith)
    ∙ get_or_append_left ws (reverse ws) 0 (i - 8 - 8) (omega arith)) in
    ⊎_elim one (λ l. ⊎_elim (two l) three (cases_lt i 16)) (cases_lt i 8)

pub in-reverse : (ws : List ℕ) (i : ℕ) → length ws ≡ 8 → 24 ≤ i → i < 32 → slice_index ws (31 - i) ≡ slice_index (round_keys ws) i
unfolding round_keys
in-reverse ws i h k m =
    let e : 31 - i ≡ length ws - 1 - (i - 8 - 8 - 8) = omega arith in
    ap (λ (j : ℕ). slice_index ws j) e
    ∙ sym
    (get_or-append_right ws (ws ++ (ws ++ reverse ws)) 8 i 0 h (omega arith)
    ∙ get_or-append_right ws (ws ++ reverse ws) 8 (i - 8) 0 h (omega arith)
    ∙ get_or-append_right ws (reverse ws) 8 (i - 8 - 8) 0 h (omega arith)
    ∙ get_or-reverse ws (i - 8 - 8 - 8) 0 (omega arith))

pub reversed-length : (ws : List ℕ) → length ws ≡ 8 → length (reverse (round_keys ws)) ≡ 32
reversed-length ws h = length-reverse (round_keys ws) ∙ keys_length ws h

pub reversed-key : (ws : List ℕ) (i : ℕ) → length ws ≡ 8 → i < 32 → slice_index (round_keys ws) (31 - i) ≡ slice_index (reverse (round_keys ws)) i
reversed-key ws i h k =
    let n : length (round_keys ws) ≡ 32 = keys_length ws h in
    let e : 31 - i ≡ length (round_keys ws) - 1 - i = omega arith in
    ap (λ (j : ℕ). slice_index (round_keys ws) j) e ∙ sym (get_or-reverse (round_keys ws) i 0 (omega arith))
