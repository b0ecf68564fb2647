use Rattle.std.proofs.Common.{◌≡◌, ℕ, ◌+◌, ◌-◌, ◌≤◌, ◌++◌, length, take, drop, sym, ap, ◌∙◌, subst, arith, length-drop, length-take}
use Rattle.modes.specs.MacState.{AbsorbedMac}
use Rattle.modes.proofs.Sealing.{block-put}
use Rattle.set_format.specs.Sets.{sealed_front}
use Rattle.bodies.specs.SealingState.{last_length}
use Rattle.bodies.proofs.Bodies.{body_closed}
use Rattle.bodies.proofs.sealing.Body+SealingMode.close.Goals as goal

pub returns-clause-after : goal.returns-clause-after
returns-clause-after g c =
    let cipher = g.C.BlockCipher.meaning c.args.cipher.now in
    let tag = g.T.BlockCipher.meaning c.args.tag.now in
    let tag₁ = g.T.BlockCipher.meaning c.absorb.new.cipher in
    let s = c.args.self in
    let m = c.block_length-tag_length.result in
    let size : m ≡ tag.size = c.block_length-tag_length.ensures.value in
    let w = c.finish-written.result in
    let out₁ = c.finish-written.new.out in
    let V = c.copy_from_slice.new.self in
    let count : w ≡ last_length cipher.size s.mode = c.finish-written.ensures.count in
    let tested : last_length cipher.size s.mode + m ≤ length c.args.out.now = omega (arith, c.last_length.ensures.value) in
    let room : w + m ≤ length out₁ = omega (arith, c.finish-written.auto.out) in
    let lp : length (take (w + m - w) (drop w out₁)) ≡ m = simp (length-take, length-drop) (omega arith) in
    let lv : length V ≡ m = c.copy_from_slice.auto.self ∙ lp in
    let put = block-put m w out₁ c.args.out.now V lv room c.finish-written.ensures.rest in
    let z : w - 0 ≡ w = omega arith in
    let took : AbsorbedMac tag s.mac (take w out₁) c.absorb.new.self = subst (λ (k : ℕ). AbsorbedMac tag s.mac (take k out₁) c.absorb.new.self) z c.absorb.ensures.absorbed in (
      λ k t mode start front text sk st hold.
          body_closed k t cipher tag tag₁ mode start front text (take w out₁) V c.finish-value.result m s c.absorb.new.self sk st c.absorb.ensures.same hold
          c.finish-written.ensures.sealed took c.finish-value.ensures.mac size c.copy_from_slice.ensures.after
          ∙ ap (λ x. sealed_front mode k start text ++ x) (sym put.0),
      put.1,
    )
