-- Magma is a lawful block cipher, whatever its words are.
use Rattle.std.specs.Prelude.{◌≡◌, ℕ, ◌+◌, ◌^◌, ◌<◌, List, reverse, slice_index, refl}
use Rattle.std.proofs.Common.{sym, ap, ◌∙◌, subst, inl, arith}
use Rattle.std.proofs.ByRecursion.{All-get_or}
use Rattle.block.specs.Blocks.{Block, Lawful, Same}
use Rattle.magma.specs.Magma.{word_at, halves, joined_halves, composed, round_keys, enciphered, deciphered, cipher_of}
use Rattle.magma.specs.Rounds.{Words, undone, redone, composed-words}
use Rattle.magma.specs.Bytes.{halves-joined, joined-halves, joined-block}

word_below : (b : List ℕ) (i : ℕ) → Block 8 b → i + 3 < 8 → word_at b i < 2 ^ 32
word_below b i h k =
    let at : (j : ℕ) → j < 8 → slice_index b j < 256 =
    λ j l. All-get_or (λ (x : ℕ). x < 256) b j 0 (subst (λ n. j < n) (sym h.long) l) h.bytes in
    omega (arith, at i (omega arith), at (i + 1) (omega arith), at (i + 2) (omega arith), at (i + 3) k)

halves-words : (b : List ℕ) → Block 8 b → Words (halves b)
unfolding halves
halves-words b h = (word_below b 0 h (omega arith), word_below b 4 h (omega arith))

-- the way there and back through the words
through : (ks ls : List ℕ) (b : List ℕ) → Block 8 b → ((s : ℕ × ℕ) → composed ls (composed ks s) ≡ s)
    → joined_halves (composed ls (halves (joined_halves (composed ks (halves b))))) ≡ b
through ks ls b h back =
    ap (λ s. joined_halves (composed ls s)) (halves-joined (composed ks (halves b)) (composed-words ks (halves b) (halves-words b h)))
    ∙ ap joined_halves (back (halves b)) ∙ joined-halves b h

pub lawful : (ws : List ℕ) → Lawful (cipher_of ws)
unfolding enciphered deciphered
lawful ws =
    record {
      sized = inl refl;
      forward-block = λ b h. joined-block (composed (round_keys ws) (halves b));
      inverse-block = λ b h. joined-block (composed (reverse (round_keys ws)) (halves b));
      undone = λ b h. through (round_keys ws) (reverse (round_keys ws)) b h (undone (round_keys ws));
      redone = λ b h. through (reverse (round_keys ws)) (round_keys ws) b h (redone (round_keys ws));
    }

-- equal words, the same cipher
pub same : (ws vs : List ℕ) → ws ≡ vs → Same (cipher_of ws) (cipher_of vs)
same ws vs e =
    record {
      sizes = refl;
      forwards = λ b h. ap (λ (l : List ℕ). enciphered l b) e;
      inverses = λ b h. ap (λ (l : List ℕ). deciphered l b) e;
    }
