-- The rounds: one more and the last, and the same rounds with the keys reversed undo them.
use Rattle.std.specs.Prelude.{◌≡◌, ℕ, zero, suc, ◌+◌, ◌^◌, ◌<◌, List, [], ◌∷◌, ◌++◌, reverse, length, drop, bit_xor, slice_index, refl}
use Rattle.std.proofs.Common.{sym, ap, ◌∙◌, add-one, arith}
use mathlib.Core.List.{reverse-cons}
use Rattle.std.proofs.lemmas.Nat.{xor_lt}
use Rattle.std.proofs.lemmas.List.{length-reverse, reverse-reverse}
use Rattle.block.proofs.Bytes.{xor-twice}
use Rattle.magma.specs.Magma.{g, round_g, last_g, composed}
use Rattle.magma.specs.Rows.{g-below}

more' : (i : ℕ) (ks : List ℕ) (s : ℕ × ℕ) → suc i < length ks → composed (drop i ks) s ≡ composed (drop (suc i) ks) (round_g (slice_index ks i) s)
unfolding composed
more' zero [] s h = absurd (omega arith)
more' zero (k ∷ []) s h = absurd (omega arith)
more' zero (k ∷ (m ∷ ks)) s h = refl
more' (suc i) [] s h = absurd (omega arith)
more' (suc i) (k ∷ ks) s h = more' i ks s (omega arith)

-- a round that is not the last
pub more : (i : ℕ) (ks : List ℕ) (s : ℕ × ℕ) → i + 1 < length ks → composed (drop i ks) s ≡ composed (drop (i + 1) ks) (round_g (slice_index ks i) s)
more i ks s h = rw add-one (more' i ks s (omega arith))

-- the last round
pub last : (i : ℕ) (ks : List ℕ) (s : ℕ × ℕ) → suc i ≡ length ks → composed (drop i ks) s ≡ last_g (slice_index ks i) s
unfolding composed
last zero [] s h = absurd (omega arith)
last zero (k ∷ []) s h = refl
last zero (k ∷ (m ∷ ks)) s h = absurd (omega arith)
last (suc i) [] s h = absurd (omega arith)
last (suc i) (k ∷ ks) s h = last i ks s (omega arith)

exchange : ℕ × ℕ → ℕ × ℕ
exchange s = (s.1, s.0)

-- G with each key, the last too
abbrev rounds : List ℕ → ℕ × ℕ → ℕ × ℕ
rounds [] s = s
rounds (k ∷ ks) s = rounds ks (round_g k s)

exchanged : (ks : List ℕ) (s : ℕ × ℕ) → 0 < length ks → composed ks s ≡ exchange (rounds ks s)
unfolding composed exchange
exchanged [] s h = absurd (omega arith)
exchanged (k ∷ []) s h = refl
exchanged (k ∷ (m ∷ ks)) s h = exchanged (m ∷ ks) (round_g k s) (omega arith)

rounds-append : (xs ys : List ℕ) (s : ℕ × ℕ) → rounds (xs ++ ys) s ≡ rounds ys (rounds xs s)
rounds-append [] ys s = refl
rounds-append (x ∷ xs) ys s = rounds-append xs ys (round_g x s)

undo-one : (k : ℕ) (s : ℕ × ℕ) → round_g k (exchange (round_g k s)) ≡ exchange s
unfolding exchange
undo-one k s = ap (λ (y : ℕ). (s.1, y)) (xor-twice (g k s.1) s.0)

undo : (ks : List ℕ) (s : ℕ × ℕ) → rounds (reverse ks) (exchange (rounds ks s)) ≡ exchange s
undo [] s = refl
undo (k ∷ ks) s =
    ap (λ l. rounds l (exchange (rounds ks (round_g k s)))) (reverse-cons k ks)
    ∙ rounds-append (reverse ks) (k ∷ []) (exchange (rounds ks (round_g k s)))
    ∙ ap (round_g k) (undo ks (round_g k s))
    ∙ undo-one k s

exchange-twice : (s : ℕ × ℕ) → exchange (exchange s) ≡ s
unfolding exchange
exchange-twice s = refl

pub undone : (ks : List ℕ) (s : ℕ × ℕ) → composed (reverse ks) (composed ks s) ≡ s
unfolding composed
undone [] s = refl
undone (k ∷ ks) s =
    let h : 0 < length (reverse (k ∷ ks)) = omega (arith, length-reverse (k ∷ ks)) in
    exchanged (reverse (k ∷ ks)) (composed (k ∷ ks) s) h
    ∙ ap (λ u. exchange (rounds (reverse (k ∷ ks)) u)) (exchanged (k ∷ ks) s (omega arith))
    ∙ ap exchange (undo (k ∷ ks) s) ∙ exchange-twice s

pub redone : (ks : List ℕ) (s : ℕ × ℕ) → composed ks (composed (reverse ks) s) ≡ s
redone ks s = ap (λ l. composed l (composed (reverse ks) s)) (sym (reverse-reverse ks)) ∙ undone (reverse ks) s

-- two words
abbrev pub Words : ℕ × ℕ → Type 0
Words s = (s.0 < 2 ^ 32) × (s.1 < 2 ^ 32)

mixed : (k : ℕ) (s : ℕ × ℕ) → Words s → bit_xor (g k s.1) s.0 < 2 ^ 32
mixed k s h = xor_lt 32 (g k s.1) s.0 (g-below k s.1) h.0

pub composed-words : (ks : List ℕ) (s : ℕ × ℕ) → Words s → Words (composed ks s)
unfolding composed
composed-words [] s h = h
composed-words (k ∷ []) s h = (mixed k s h, h.1)
composed-words (k ∷ (m ∷ ks)) s h = composed-words (m ∷ ks) (round_g k s) (h.1, mixed k s h)
