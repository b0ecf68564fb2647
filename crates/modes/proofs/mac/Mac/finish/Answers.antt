use Rattle.std.proofs.Common.{◌≡◌, ℕ, Bool, cond, leb, List, get_or, set, sym, ap, ◌∙◌}
use lib.Bits.{bit_xor}
use Rattle.std.proofs.lemmas.Bool.{le-leb, lt-leb}
use Rattle.modes_spec.specs.Texts.{joined_front}
use Rattle.modes.specs.declared.chain.Chain.{Chain}
use Rattle.modes.proofs.Macs.{mac-made, tag-made}
use Rattle.modes.proofs.Streams.{same_then}
use Rattle.modes.proofs.mac.Mac.finish.Goals as goal
use Rattle.modes.proofs.mac.Mac.finish.Goals.{then-not-whole, else-not-whole}

-- the register of a text that ends on a whole block, and of any other
abbrev chosen : Chain → Bool → List ℕ
chosen s whole = cond whole s.register (set s.register s.filled (bit_xor (get_or s.register s.filled 0) 128))

pub returns : goal.returns
returns g c =
    let o = g.C.BlockCipher.meaning c.args.cipher.now in
    let p = g.C.BlockCipher.meaning c.subkey-key.new.cipher in
    let s = c.args.self in
    let n = c.block_length-n.result in
    let size : n ≡ o.size = c.block_length-n.ensures.value in
    let whole : Bool = leb n s.chain.filled in
    let reg : c.if-not-whole.chain.register ≡ chosen s.chain whole =
    elim c.if-not-whole.branch [
      | then-not-whole w ↦ ap (λ (x : Chain). x.register) w.chain-is ∙ sym (ap (chosen s.chain) (lt-leb n s.chain.filled w.if-not-whole.true))
      | else-not-whole w ↦ ap (λ (x : Chain). x.register) w.chain-is ∙ sym (ap (chosen s.chain) (le-leb n s.chain.filled w.if-not-whole.false))
    ] in
    record {
      mac = λ m text sm hold.
          let e : n ≡ m.size = size ∙ sym sm.sizes in
          tag-made m n text c.advance.new.self.register c.copy_from_slice.new.self e c.block_length-n.ensures.high c.copy_from_slice.ensures.after
          (mac-made m text s hold o p c.if-not-whole.chain.register c.join_front.new.bytes c.advance.new.self.register whole sm c.subkey-key.ensures.same
          (ap (λ (k : ℕ). leb k s.chain.filled) e) reg (c.join_front.ensures ∙ ap (joined_front c.if-not-whole.chain.register) c.subkey-key.ensures.made) c.advance.ensures.made);
      same = same_then o p _ c.subkey-key.ensures.same c.advance.ensures.same;
    }
