use Rattle.std.proofs.Common.{◌≡◌, ◌∙◌, ℕ, List, reverse, get_or, take, sym, ap, arith, rules}
use lib.Bits.{bit_xor}
use Rattle.std.specs.List.{fold}
use Rattle.std.proofs.lemmas.Iterator.Adapters.{YieldsList-from_rev_slice}
use Rattle.block.proofs.Bytes.{block-from}
use Rattle.kuznyechik_spec.specs.Kuznyechik.{add_key, block_of, inverse_l, inverse_s}
use Rattle.kuznyechik_spec.proofs.Chains.{fold-seen}
use Rattle.kuznyechik_spec.proofs.Rounds.{others_reversed}
use Rattle.kuznyechik_spec.proofs.Words.{block_of-number, block_of-xor, decipher-numbers}
use Rattle.kuznyechik_tables.proofs.decipher_block.Goals as goal

pub returns : goal.returns
returns c =
    let ks = c.args.keys.now in
    let a = c.args.a in
    let first = bit_xor c.to_number.result (get_or ks 9 0) in
    let start : block_of first ≡ add_key (block_of (get_or ks 9 0)) a =
    block_of-xor c.to_number.result (get_or ks 9 0)
    ∙ ap (add_key (block_of (get_or ks 9 0))) (ap block_of c.to_number.ensures ∙ block_of-number a (block-from 16 a (omega arith) (search rules))) in
    let round : List ℕ → ℕ → List ℕ = λ b k. add_key (block_of k) (inverse_s (inverse_l b)) in
    let rounds : block_of c.fold.result ≡ fold round (block_of first) (reverse (take 9 ks)) =
    fold-seen _ block_of round first c.fold.result c.fold.ensures.ran (YieldsList-from_rev_slice (take 9 ks) cc) (λ b k r q e. search rules) in
    c.to_block.ensures
    ∙ decipher-numbers 9 ks a (block_of c.fold.result) (omega arith)
    (rounds ∙ ap (λ b. fold round b (reverse (take 9 ks))) start ∙ ap (fold round (add_key (block_of (get_or ks 9 0)) a)) (sym (others_reversed 0 9 ks (omega arith))))
