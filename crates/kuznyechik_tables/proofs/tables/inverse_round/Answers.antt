use mathlib.Core.Path.{◌≡◌, ap, ◌∙◌}
use Rattle.block.specs.Blocks.{Block}
use Rattle.kuznyechik_spec.specs.Kuznyechik.{add_key, block_of, inverse_l, inverse_s}
use Rattle.kuznyechik_spec.specs.Tables.{lookup_sum, number}
use Rattle.kuznyechik_spec.proofs.Cipher.{inverse_s-block}
use Rattle.kuznyechik_spec.proofs.KeyBlocks.{block_of-block}
use Rattle.kuznyechik_spec.proofs.Linear.{inverse_l-block}
use Rattle.kuznyechik_spec.proofs.Words.{block_of-number, block_of-xor, inverse-word}
use Rattle.kuznyechik_tables.proofs.tables.inverse_round.Goals as goal

pub returns : goal.returns
returns c =
    let a = block_of c.args.state in
    let t = c.inverse_table.result.now in
    let mixed : block_of c.lookup-mixed.result ≡ inverse_l a =
    inverse-word t c.inverse_table.ensures a (block_of-block c.args.state) c.lookup-mixed.result (c.lookup-mixed.ensures ∙ ap (lookup_sum t) c.to_block.ensures) in
    let whole : Block 16 (inverse_s (inverse_l a)) = inverse_s-block (inverse_l a) (inverse_l-block a (block_of-block c.args.state)) in
    block_of-xor c.to_number.result c.args.key
    ∙ ap (add_key (block_of c.args.key))
    (ap block_of (c.to_number.ensures ∙ ap (number 0) (c.inverse_s.ensures ∙ ap inverse_s (c.to_block-2.ensures ∙ mixed)))
    ∙ block_of-number (inverse_s (inverse_l a)) whole)
