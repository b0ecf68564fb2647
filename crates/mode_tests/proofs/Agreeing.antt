-- A trial that shows no difference.
use Rattle.std.proofs.Common.{ℕ, List, sym, ap, ◌∙◌, subst, ap₂}
use Rattle.block.specs.Blocks.{Block, Meaning, Same}
use Rattle.sheet_format.specs.declared.Mode.{Mode}
use Rattle.mode_tests.specs.Agreement.{AgreesMac, AgreesSealed, AllMac, AllSealed, ConfirmsMac, ConfirmsSealed, MacInputOf, SealedInputOf, sealed_by, whole_mac}
use Rattle.mode_tests.specs.declared.inputs.MacInput.{MacInput}
use Rattle.mode_tests.specs.declared.inputs.SealedInput.{SealedInput}
use Rattle.mode_tests.specs.declared.table.MacVector.{MacVector}
use Rattle.mode_tests.specs.declared.table.SealedVector.{SealedVector}
use Rattle.mode_tests.specs.declared.trial.MacTrial.{MacTrial}
use Rattle.mode_tests.specs.declared.trial.SealedTrial.{SealedTrial}

pub same_back : (m o : Meaning) → Same m o → Same o m
same_back m o s = record {
  sizes = sym s.sizes;
  forwards = λ b h. sym (s.forwards b (subst (λ (k : ℕ). Block k b) (sym s.sizes) h));
  inverses = λ b h. sym (s.inverses b (subst (λ (k : ℕ). Block k b) (sym s.sizes) h));
}

pub agrees_sealed : (mode : Mode) (m o cipher tag_cipher : Meaning) (v : SealedVector) (i : SealedInput) (t : SealedTrial)
    → SealedInputOf v i → ConfirmsSealed mode cipher tag_cipher i t → Same cipher m → Same tag_cipher o → AllSealed t → AgreesSealed mode m o v
agrees_sealed mode m o cipher tag_cipher v i t r h e f d =
    let k = h m o (same_back cipher m e) (same_back tag_cipher o f) in
    let s = k.0 d.0 in (
      ap₂ (λ (a b : List ℕ). sealed_by mode m a b) (sym r.start) (sym r.text) ∙ s ∙ r.sealed,
      ap (whole_mac o) (sym r.sealed ∙ sym s) ∙ k.1 d.1 ∙ r.tag,
    )

pub agrees_mac : (m cipher : Meaning) (v : MacVector) (i : MacInput) (t : MacTrial)
    → MacInputOf v i → ConfirmsMac cipher i t → Same cipher m → AllMac t → AgreesMac m v
agrees_mac m cipher v i t r h e d = ap (whole_mac m) (sym r.text) ∙ (h m (same_back cipher m e)).0 d.0 ∙ r.mac
