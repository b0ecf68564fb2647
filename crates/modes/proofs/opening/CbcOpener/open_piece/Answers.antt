use Rattle.std.proofs.Common.{◌≡◌, ℕ, suc, ◌+◌, ◌-◌, ◌*◌, ◌/◌, ◌<◌, ◌≤◌, min, ◌⊎◌, length, take, drop, sym, refl, ap, ◌∙◌, subst, inl, inr, ⊎_elim, mul-zero, mul-suc, arith, length-drop, length-take}
use Rattle.std.proofs.lemmas.List.{take_all}
use Rattle.std.proofs.lemmas.Bool.{cases_lt}
use Rattle.std.proofs.lemmas.Bool.Decides.{nat_tests}
use Rattle.modes.specs.OpenState.{OpenedCbc}
use Rattle.modes.proofs.Opened.{CollectedCbc, collected-none, collected-turn, opened-turn, opened-all, room-for-opened, last_fits, all-opened}
use Rattle.modes.proofs.Sealing.{block-put}
use Rattle.modes.proofs.Streams.{rest-behind, same_then, run-within, same_self}
use Rattle.modes.proofs.opening.CbcOpener.open_piece.Goals as goal
use Rattle.modes.proofs.opening.CbcOpener.open_piece.Goals.{then-loop-self-test+else-self-gt0, else-loop-self-test}

pub loop-self-init : goal.loop-self-init
loop-self-init g c =
    let m = g.C.BlockCipher.meaning c.args.cipher.now in (
      same_self m,
      c.requires.within,
      c.requires.current,
      (0, (sym (mul-zero m.size), omega arith)),
      refl,
      (0, omega arith, refl, omega arith, collected-none m c.args.self.now c.args.piece.now),
    )

pub loop-self-preserved : goal.loop-self-preserved
loop-self-preserved g c =
    let m = g.C.BlockCipher.meaning c.args.cipher.now in
    let inv = c.loop-self.invariant in
    let at = inv.5.0 in
    let n = c.block_length-n.result in
    let size : n ≡ m.size = c.block_length-n.ensures.value in
    let k = c.collect-run in
    let f : k.new.self.filled ≡ c.loop-self.self.filled + k.result = k.ensures.filled in
    let l : k.new.self.left ≡ c.loop-self.self.left = k.ensures.kept.1 in
    let go = run-within n c.loop-self.self.filled at k.result c.args.piece.now c.loop-self.rest.now inv.5.2 k.ensures.count inv.5.1 in
    let under : k.new.self.filled < m.size = omega (arith, c.if-self-n.false) in
    let le : c.loop-self.self.filled ≤ n = omega (arith, inv.1) in (
      inv.0,
      omega arith,
      (λ h. under),
      (inv.3.0, (inv.3.1.0, ap (λ (x : ℕ). inv.3.0 + x) l ∙ inv.3.1.1)),
      inv.4,
      (
        at + k.result,
        go.0,
        rest-behind at k.result c.args.piece.now c.loop-self.rest.now inv.5.2,
        omega (arith, inv.5.3),
        collected-turn m n c.args.self.now c.loop-self.self k.new.self c.args.piece.now c.loop-self.rest.now (take c.loop-self.written c.loop-self.out) at k.result
            size c.are_bytes.ensures inv.5.2 k.ensures.count le f k.ensures.copied k.ensures.kept inv.5.4,
      ),
    )

pub loop-self-preserved-then-self-n : goal.loop-self-preserved-then-self-n
loop-self-preserved-then-self-n g c =
    let m = g.C.BlockCipher.meaning c.args.cipher.now in
    let o = g.C.BlockCipher.meaning c.loop-self.cipher in
    let inv = c.loop-self.invariant in
    let at = inv.5.0 in
    let n = c.block_length-n.result in
    let size : n ≡ m.size = c.block_length-n.ensures.value in
    let k = c.collect-run in
    let s₀ = c.args.self.now in
    let X = c.args.piece.now in
    let w = c.loop-self.written in
    let j : ℕ = inv.3.0 in
    let f : k.new.self.filled ≡ c.loop-self.self.filled + k.result = k.ensures.filled in
    let l : k.new.self.left ≡ c.loop-self.self.left = k.ensures.kept.1 in
    let le : c.loop-self.self.filled ≤ n = omega (arith, inv.1) in
    let go = run-within n c.loop-self.self.filled at k.result X c.loop-self.rest.now inv.5.2 k.ensures.count inv.5.1 in
    let step = c.next_block.ensures in
    let full : m.size ≤ k.new.self.filled = omega (arith, c.if-self-n.true) in
    let exact : k.new.self.filled ≡ n = omega (arith, c.if-self-n.true, go.1) in
    let pos : 0 < n = omega (arith, c.block_length-n.ensures.low) in
    let jl : inv.3.0 + c.loop-self.self.left ≡ s₀.left = inv.3.1.1 in
    let some : 0 < c.loop-self.self.left = omega (arith, c.if-self-gt0.true) in
    let all : m.size * min ((s₀.filled + length X) / m.size) s₀.left ≤ length c.loop-self.out = omega (arith, c.requires.room, c.loop-self.auto.out) in
    let fits : n * min ((s₀.filled + length X) / n) s₀.left ≤ length c.loop-self.out =
    subst (λ (x : ℕ). x * min ((s₀.filled + length X) / x) s₀.left ≤ length c.loop-self.out) (sym size) all in
    let room : w + n ≤ length c.loop-self.out =
    room-for-opened n inv.3.0 s₀.filled (at + k.result) (length X) s₀.left (length c.loop-self.out) w pos
    (inv.3.1.0 ∙ ap (λ (x : ℕ). x * inv.3.0) (sym size)) (omega (arith, inv.5.3)) go.0 (omega arith) fits in
    let J = c.open_block.new.out in
    let lp : length (take (w + n - w) (drop w c.loop-self.out)) ≡ n = simp (length-take, length-drop) (omega arith) in
    let lj : length J ≡ n = c.open_block.auto.out ∙ lp in
    let out = block-put n w c.loop-self.out c.args.out.now J lj room inv.4 in
    let z : c.next_block.new.self.filled ≡ 0 = step.2 in
    let left : c.next_block.new.self.left + 1 ≡ k.new.self.left = step.3 in
    let joined =
    collected-turn m n s₀ c.loop-self.self k.new.self X c.loop-self.rest.now (take w c.loop-self.out) at k.result
    size c.are_bytes.ensures inv.5.2 k.ensures.count le f k.ensures.copied k.ensures.kept inv.5.4 in (
      same_then m o _ inv.0 c.open_block.ensures.same,
      omega arith,
      (λ h. omega arith),
      (suc inv.3.0, (omega (arith, inv.3.1.0, size, mul-suc m.size inv.3.0), omega arith)),
      out.1,
      (
        at + k.result,
        go.0,
        rest-behind at k.result X c.loop-self.rest.now inv.5.2,
        omega (arith, inv.5.3),
        subst (λ x. CollectedCbc m s₀ (take (at + k.result) X) c.next_block.new.self x) (sym out.0)
            (opened-turn m o s₀ k.new.self c.next_block.new.self (take (at + k.result) X) (take w c.loop-self.out) J inv.0 full c.open_block.ensures.opened step joined),
      ),
    )

pub returns : goal.returns
returns g c =
    let m = g.C.BlockCipher.meaning c.args.cipher.now in
    let inv = c.loop-self.invariant in
    let at = inv.5.0 in
    let n = c.block_length-n.result in
    let size : n ≡ m.size = c.block_length-n.ensures.value in
    let k = c.collect in
    let s₀ = c.args.self.now in
    let X = c.args.piece.now in
    let w = c.loop-self.written in
    let f : k.new.self.filled ≡ c.loop-self.self.filled + k.result = k.ensures.filled in
    let l : k.new.self.left ≡ c.loop-self.self.left = k.ensures.kept.1 in
    let le : c.loop-self.self.filled ≤ n = omega (arith, inv.1) in
    let pos : 0 < m.size = omega (arith, c.block_length-n.ensures.low) in
    let jl : inv.3.0 + c.loop-self.self.left ≡ s₀.left = inv.3.1.1 in
    let lrest : length c.loop-self.rest.now ≡ length X - at = ap length inv.5.2 ∙ length-drop at X in
    let how : (c.loop-self.self.left ≡ 0) ⊎ ((at ≡ length X) × (c.loop-self.self.filled < m.size)) =
    elim c.loop-self-test.branch [
      | then-loop-self-test+else-self-gt0 w ↦ inl (omega (arith, w.if-self-gt0.false))
      | else-loop-self-test w ↦
          ⊎_elim (λ (some : 0 < c.loop-self.self.left). (let none : length c.loop-self.rest.now ≡ 0 = grind (arith, nat_tests, w.loop-self-test.false) in inr (omega (arith, inv.5.1), inv.2 some))) (λ (none : c.loop-self.self.left ≤ 0). inl (omega arith))
          (cases_lt 0 c.loop-self.self.left)
    ] in
    let taken : at + k.result ≡ length X =
    ⊎_elim
    (λ (none : c.loop-self.self.left ≡ 0).
    let b : length X - at ≤ m.size - c.loop-self.self.filled =
    last_fits m.size s₀.filled c.loop-self.self.filled at (length X) s₀.left inv.3.0 w inv.3.1.0 inv.5.3 (omega arith) c.requires.fits inv.5.1 in
    omega (arith, inv.5.1))
    (λ (p : (at ≡ length X) × (c.loop-self.self.filled < m.size)). omega (arith, p.0)) how in
    let whole = take_all (at + k.result) X (omega arith) in
    let joined =
    collected-turn m n s₀ c.loop-self.self k.new.self X c.loop-self.rest.now (take w c.loop-self.out) at k.result
    size c.are_bytes.ensures inv.5.2 k.ensures.count le f k.ensures.copied k.ensures.kept inv.5.4 in
    let end : (k.new.self.left ≡ 0) ⊎ (k.new.self.filled < m.size) =
    ⊎_elim (λ (none : c.loop-self.self.left ≡ 0). inl (l ∙ none)) (λ (p : (at ≡ length X) × (c.loop-self.self.filled < m.size)). inr (omega (arith, p.0, p.1))) how in
    record {
      count = all-opened m.size s₀.filled c.loop-self.self.filled at (length X) s₀.left c.loop-self.self.left inv.3.0 w pos inv.3.1.0 inv.5.3 jl inv.5.1 how;
      opened = subst (λ x. OpenedCbc m s₀ x k.new.self (take w c.loop-self.out)) whole (opened-all m s₀ k.new.self (take (at + k.result) X) (take w c.loop-self.out) end joined);
      rest = inv.4;
      same = inv.0;
    }
