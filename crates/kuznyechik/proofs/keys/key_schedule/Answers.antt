use Rattle.std.proofs.Common.{◌≡◌, ◌+◌, get_or, take, drop, length-take, length-drop, sym, ap, ◌∙◌, arith, rules}
use Rattle.std.proofs.lemmas.List.{get_or-drop, get_or-take}
use Rattle.block.proofs.Arrays.{filled}
use Rattle.kuznyechik_spec.proofs.Schedule.{rows_from}
use Rattle.kuznyechik.specs.Pairs.{halves_of}
use Rattle.kuznyechik.proofs.keys.key_schedule.Goals as goal

pub returns : goal.returns
returns c =
    let key = c.args.key.now in
    let x : c.from_fn-k1.result ≡ take 16 key =
    filled (take 16 key) (length-take 16 key ∙ omega arith)
    (λ p q i y e below k.
    let read : (q ≡ p) × (y ≡ get_or p.0.now i 0) = search rules in
    (read.0 ∙ e, read.1 ∙ ap (λ r. get_or r.0.now i 0) e ∙ sym (get_or-take 16 key i 0 below))) c.from_fn-k1.ensures.items in
    let y : c.from_fn-k2.result ≡ drop 16 key =
    filled (drop 16 key) (length-drop 16 key ∙ omega arith)
    (λ p q i y e below k.
    let read : (q ≡ p) × (y ≡ get_or p.0.now (16 + i) 0) = search rules in
    (read.0 ∙ e, read.1 ∙ ap (λ r. get_or r.0.now (16 + i) 0) e ∙ sym (get_or-drop 16 key i 0))) c.from_fn-k2.ensures.items in
    rows_from key c.from_fn-k1.result c.from_fn-k2.result (halves_of c.feistel_rounds-second.result) (halves_of c.feistel_rounds-third.result)
    (halves_of c.feistel_rounds-fourth.result) (halves_of c.feistel_rounds.result) x y
    c.feistel_rounds-second.ensures c.feistel_rounds-third.ensures c.feistel_rounds-fourth.ensures c.feistel_rounds.ensures
