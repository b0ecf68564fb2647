use Rattle.std.proofs.Common.{◌≡◌, get_or, take, ap, ◌∙◌, arith, rules}
use Rattle.std.specs.List.{fold}
use Rattle.std.proofs.lemmas.Iterator.{YieldsList-from_slice, YieldsList-from_take}
use Rattle.std.proofs.lemmas.Iterator.Consumers.{YieldsList-at}
use Rattle.block.proofs.Bytes.{block-from}
use Rattle.kuznyechik_spec.specs.Kuznyechik.{block_of, lsx}
use Rattle.kuznyechik_spec.proofs.Chains.{fold-seen}
use Rattle.kuznyechik_spec.proofs.Words.{block_of-number, block_of-xor, encipher-numbers}
use Rattle.kuznyechik_tables.proofs.encipher_block.Goals as goal

pub returns : goal.returns
returns c =
    let ks = c.args.keys.now in
    let a = c.args.a in
    let start : block_of c.to_number.result ≡ a = ap block_of c.to_number.ensures ∙ block_of-number a (block-from 16 a (omega arith) (search rules)) in
    let rounds : block_of c.fold-b.result ≡ fold (λ b k. lsx (block_of k) b) (block_of c.to_number.result) (take 9 ks) =
    fold-seen _ block_of (λ b k. lsx (block_of k) b) c.to_number.result c.fold-b.result c.fold-b.ensures.ran
    (YieldsList-from_take 9 (YieldsList-at c.take.ensures.source (YieldsList-from_slice ks cc)) c.take.ensures.count) (λ b k r q e. search rules) in
    c.to_block.ensures ∙ block_of-xor c.fold-b.result (get_or ks 9 0)
    ∙ encipher-numbers 9 ks a (block_of c.fold-b.result) (omega arith) (rounds ∙ ap (λ b. fold (λ b k. lsx (block_of k) b) b (take 9 ks)) start)
