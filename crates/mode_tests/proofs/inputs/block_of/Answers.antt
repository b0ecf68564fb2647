use Rattle.std.proofs.Common.{◌≡◌, ℕ, ◌-◌, List, ◌++◌, length, drop, replicate, ap, ◌∙◌, ap₂, arith, rules}
use Rattle.hex_digits.specs.Hex.{hex_bytes}
use Rattle.std.proofs.lemmas.List.{drop-replicate}
use Rattle.mode_tests.proofs.inputs.block_of.Goals as goal

pub returns : goal.returns
returns c =
    let xs = hex_bytes c.args.word.now in
    let front : c.copy_from_slice.new.self ≡ xs = search rules in
    let count : c.len-count.result ≡ length xs = search rules in
    let k : c.len-count.result - 0 ≡ length xs = omega (arith, count) in
    ap₂ (λ (a b : List ℕ). a ++ b) front (ap (λ (n : ℕ). drop n (replicate 16 0)) k ∙ drop-replicate (length xs) 16 0)
