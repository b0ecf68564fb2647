-- How a body is opened piece by piece.
use Rattle.std.proofs.Common.{ℕ, List, ◌++◌, subst}
use Rattle.std.proofs.lemmas.List.{append_assoc}
use Rattle.block.specs.Blocks.{Meaning, Same}
use Rattle.modes.specs.MacState.{MacAt, AbsorbedMac}
use Rattle.modes.specs.declared.mac.Mac.{Mac}
use Rattle.sheet_format.specs.declared.Mode.{Mode}
use Rattle.bodies.specs.OpeningState.{ModeOpenAt, OpeningAt}
use Rattle.bodies.specs.declared.body.Body.{Body}
use Rattle.bodies.specs.declared.opening.OpeningMode.{OpeningMode}

-- what was sealed is taken into the tag's text
pub opening-taken : (c t tag : Meaning) (mode : Mode) (start : List ℕ) (before : ℕ) (front sealed piece : List ℕ) (s : Body OpeningMode) (m₁ : OpeningMode) (mac₁ : Mac) → Same t tag
    → OpeningAt c t mode start before front sealed s → ModeOpenAt mode c start before (sealed ++ piece) m₁ → AbsorbedMac tag s.mac piece mac₁
    → OpeningAt c t mode start before front (sealed ++ piece) record { mode = m₁; mac = mac₁ }
opening-taken c t tag mode start before front sealed piece s m₁ mac₁ st h went took = record {
  opening = went;
  tagged = subst (λ (x : List ℕ). MacAt t x mac₁) (append_assoc front sealed piece) (took t (front ++ sealed) st h.tagged);
}
