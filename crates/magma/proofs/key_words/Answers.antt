-- The eight words are the key's.
use Rattle.std.proofs.Common.{◌≡◌, ℕ, zero, suc, ◌*◌, ◌<◌, List, get_or, refl, ap, ◌∙◌, arith, rules}
use Rattle.block.proofs.Arrays.{filled}
use Rattle.magma.specs.Magma.{key_words, word_at}
use Rattle.magma.proofs.key_words.Goals as goal

key_word : (key : List ℕ) (i : ℕ) → i < 8 → word_at key (4 * i) ≡ get_or (key_words key) i 0
unfolding key_words
key_word key zero h = refl
key_word key (suc zero) h = refl
key_word key (suc (suc zero)) h = refl
key_word key (suc (suc (suc zero))) h = refl
key_word key (suc (suc (suc (suc zero)))) h = refl
key_word key (suc (suc (suc (suc (suc zero))))) h = refl
key_word key (suc (suc (suc (suc (suc (suc zero)))))) h = refl
key_word key (suc (suc (suc (suc (suc (suc (suc zero))))))) h = refl
key_word key (suc (suc (suc (suc (suc (suc (suc (suc i)))))))) h = absurd (omega arith)

pub returns : goal.returns
unfolding key_words
returns c =
    let key = c.args.key.now in
    filled (key_words key) refl
    (λ p q i y e below k.
    let read : (q ≡ p) × (y ≡ word_at p.0.now (4 * i)) = search rules in
    (read.0 ∙ e, read.1 ∙ ap (λ r. word_at r.0.now (4 * i)) e ∙ key_word key i below))
    c.from_fn.ensures.items
