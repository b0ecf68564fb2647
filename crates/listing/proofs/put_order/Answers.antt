use Rattle.std.proofs.Common.{◌≡◌, vec_items, rules}
use Rattle.sheet_format.specs.Sizes.{block_length}
use Rattle.sheet_format.specs.declared.CipherKind.{CipherKind}
use Rattle.sheet_format.proofs.Ciphers.{kind-known}
use Rattle.listing.proofs.Bodies.{parts-listing}
use Rattle.listing.proofs.put_order.Goals as goal

pub returns : goal.returns
returns c =
    let cipher = c.unwrap-cipher.result in
    let known : (k : CipherKind) → c.args.checked.block_length ≡ block_length k → cipher ≡ k =
    λ k h. kind-known c.args.checked.block_length cipher k c.try_from.result c.try_from.ensures c.unwrap-cipher.ensures h in
    let e = parts-listing c.args.sheet.now c.args.checked cipher (vec_items c.args.out.now) c.requires known in
    search (rules, e)
