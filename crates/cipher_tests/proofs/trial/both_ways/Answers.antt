use Rattle.std.proofs.Common.{◌≡◌, true, rules}
use Rattle.block.specs.Blocks.{Same}
use Rattle.cipher_tests.specs.Agreement.{Deciphers, Enciphers}
use Rattle.cipher_tests.proofs.Trials.{deciphers-before}
use Rattle.cipher_tests.proofs.trial.both_ways.Goals as goal

pub returns : goal.returns
returns g c =
    let v = c.args.vector in
    let m = g.C.BlockCipher.meaning c.args.cipher.now in
    let o = g.C.BlockCipher.meaning c.encipher-answer.new.self in
    let s : Same m o = search rules in
    let x : (c.is_made-enciphers.result ≡ true → Enciphers m v) = search rules in
    let y : (c.is_made-deciphers.result ≡ true → Deciphers o v) = search rules in
    (x, λ t. deciphers-before m o v s (y t))
