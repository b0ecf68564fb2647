use Rattle.std.proofs.Common.{◌≡◌, ap, ◌∙◌, [], map, arith, rules}
use Rattle.kuznyechik_spec.specs.Kuznyechik.{block_of, round_keys}
use Rattle.kuznyechik_spec.specs.Tables.{number}
use Rattle.block.proofs.Bytes.{block-from}
use Rattle.block.proofs.Arrays.{mapped}
use Rattle.kuznyechik_spec.proofs.KeyBlocks.{round_keys-blocks}
use Rattle.kuznyechik_spec.proofs.Lawful.{same_keys}
use Rattle.kuznyechik_spec.proofs.Words.{blocks-numbers}
use Rattle.kuznyechik_tables.proofs.KuznyechikTables.prepare.Goals as goal

pub returns : goal.returns
returns c =
    let key = c.args.key.now in
    let rows = c.key_schedule-rows.result in
    let numbers : c.map-keys.result ≡ map (number 0) rows = mapped (number 0) [] (omega arith) c.map-keys.ensures.items (λ p q x y k. search rules) in
    same_keys (map block_of c.map-keys.result) (round_keys key)
    (ap (map block_of) (numbers ∙ ap (map (number 0)) c.key_schedule-rows.ensures)
    ∙ blocks-numbers (round_keys key) (round_keys-blocks key (block-from 32 key c.told-key c.fits-key)))
