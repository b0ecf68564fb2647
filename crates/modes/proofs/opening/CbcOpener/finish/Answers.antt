use Rattle.std.proofs.Common.{◌≡◌, ℕ, ◌-◌, ◌≤◌, Bool, true, false, cond, List, ◌++◌, length, take, Ok, Err, Result, sym, ap, ◌∙◌, arith, length-take}
use Rattle.modes_spec.specs.Cbc.{opened_block}
use Rattle.modes_spec.specs.Texts.{zeros}
use Rattle.modes.specs.OpenState.{last_answer, fills}
use Rattle.modes.proofs.Opened.{last-whole, fills-within}
use Rattle.modes.specs.declared.cbc.CbcFault.{CbcFault}
use Rattle.modes.specs.declared.cbc.CbcFault.TheVariants.{Incomplete, Filling}
use Rattle.modes.proofs.opening.CbcOpener.finish.Goals as goal

-- the answer where the last block is whole
answered : (whole : Bool) (n rest : ℕ) (block : List ℕ) (w : Bool) → whole ≡ true → w ≡ fills n rest block
    → last_answer whole n rest block ≡ cond {A = Result (List ℕ) CbcFault} w (Ok (block ++ zeros (16 - n))) (Err Filling)
answered whole n rest block w e f =
    ap (λ (b : Bool). cond {A = Result (List ℕ) CbcFault} b (cond (fills n rest block) (Ok (block ++ zeros (16 - n))) (Err Filling)) (Err Incomplete)) e
    ∙ ap (λ (b : Bool). cond {A = Result (List ℕ) CbcFault} b (Ok (block ++ zeros (16 - n))) (Err Filling)) (sym f)

pub returns-then-not-is_filled : goal.returns-then-not-is_filled
returns-then-not-is_filled g c =
    let o = g.C.BlockCipher.meaning c.args.cipher.now in
    let n = c.block_length-n.result in
    let s = c.args.self in
    record {
      last = λ m iv text before sm hold.
          let w =
          last-whole m o n iv text before c.args.rest s c.last_block-last.result sm hold c.block_length-n.ensures.value (omega (arith, c.if-self-gt0.false)) c.if-self-n.false c.last_block-last.ensures.opened in
          sym (answered _ m.size c.args.rest (opened_block m iv text before) false w.0 (c.if-not-is_filled.ensures ∙ w.2));
      within = tt;
      same = c.last_block-last.ensures.same;
    }

pub returns : goal.returns
returns g c =
    let o = g.C.BlockCipher.meaning c.args.cipher.now in
    let n = c.block_length-n.result in
    let s = c.args.self in
    let f : List ℕ → Result (List ℕ) CbcFault = λ x. Ok x in
    record {
      last = λ m iv text before sm hold.
          let w =
          last-whole m o n iv text before c.args.rest s c.last_block-last.result sm hold c.block_length-n.ensures.value (omega (arith, c.if-self-gt0.false)) c.if-self-n.false c.last_block-last.ensures.opened in
          ap f w.1 ∙ sym (answered _ m.size c.args.rest (opened_block m iv text before) true w.0 (c.if-not-is_filled.ensures ∙ w.2));
      within =
          let lt = fills-within _ c.args.rest (take (n - 0) c.last_block-last.result) c.if-not-is_filled.ensures in
          let l : length (take (n - 0) c.last_block-last.result) ≤ n - 0 = simp length-take (omega arith) in
          omega (arith, lt, l, c.block_length-n.ensures.high);
      same = c.last_block-last.ensures.same;
    }
