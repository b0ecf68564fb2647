use mathlib.Core.Path.{ap, ◌∙◌}
use Rattle.kuznyechik_spec.specs.Kuznyechik.{are_blocks, round_keys}
use Rattle.block.proofs.Bytes.{block-from}
use Rattle.kuznyechik_spec.proofs.KeyBlocks.{round_keys-blocks, blocks_to}
use Rattle.kuznyechik.proofs.keys.round_keys.Goals as goal

pub invariant_of-result : goal.invariant_of-result
invariant_of-result c =
    let key = c.args.key.now in
    record { ok = ap are_blocks c.key_schedule-keys.ensures ∙ blocks_to (round_keys key) (round_keys-blocks key (block-from 32 key c.told-key c.fits-key)) }
