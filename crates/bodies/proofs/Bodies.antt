-- How a body is sealed piece by piece.
use Rattle.std.proofs.Common.{◌≡◌, ℕ, suc, ◌+◌, ◌-◌, ◌/◌, ◌<◌, List, [], ◌++◌, length, take, sym, ap, ◌∙◌, subst, ap₂, arith}
use native.Mathlib.Nat.{zero-div, div-eq_of_lt}
use Rattle.std.proofs.lemmas.List.{append-nil, append_assoc, take_at}
use Rattle.block.specs.Blocks.{Meaning, Lawful, Same}
use Rattle.modes_spec.specs.Cbc.{chained}
use Rattle.modes_spec.specs.Ctr.{joined_with, counter_stream}
use Rattle.modes_spec.specs.Texts.{◌⊕◌, block_at, joined_to, zeros}
use Rattle.modes_spec.proofs.Cbc.{size-pos}
use Rattle.modes.specs.MacState.{MacAt, AbsorbedMac, FinishedMac}
use Rattle.modes.proofs.Macs.{mac-long}
use Rattle.modes.proofs.Streams.{same_then}
use Rattle.modes_spec.specs.Mac.{mac}
use Rattle.modes.specs.declared.mac.Mac.{Mac}
use Rattle.sheet_format.specs.declared.Mode.{Mode}
use Rattle.sheet_format.specs.declared.Mode.TheVariants.{Ctr, Cbc}
use Rattle.set_format.specs.Sets.{sealed_front, sealed_in}
use Rattle.bodies.specs.SealingState.{SealingAt, ModeAt, FinishedMode}
use Rattle.bodies.specs.declared.body.Body.{Body}
use Rattle.bodies.specs.declared.sealing.SealingMode.{SealingMode}

-- of an empty text nothing is sealed
pub nothing-sealed : (mode : Mode) (c : Meaning) (start : List ℕ) → Lawful c → sealed_front mode c start [] ≡ []
unfolding joined_with joined_to
nothing-sealed Ctr c start l =
    let pos : 0 < c.size = size-pos c l in
    let none : (0 + (c.size - 1)) / c.size ≡ 0 = ap (λ (k : ℕ). k / c.size) (omega arith) ∙ div-eq_of_lt (below c pos) in
    ap (joined_to (λ i. block_at c.size [] i ⊕ counter_stream c start i)) none
  where
    below : (c : Meaning) → 0 < c.size → c.size - 1 < c.size
    below c h = omega arith
nothing-sealed Cbc c start l = ap (joined_to (λ i. chained c start [] (suc i))) (zero-div c.size)

-- the tag's text begins with its front
pub front-tagged : (t : Meaning) (mode : Mode) (c : Meaning) (start front : List ℕ) (s : Mac) → Lawful c → MacAt t front s → MacAt t (front ++ sealed_front mode c start []) s
front-tagged t mode c start front s lc held =
    subst (λ (x : List ℕ). MacAt t x s) (sym (ap (λ (x : List ℕ). front ++ x) (nothing-sealed mode c start lc) ∙ append-nil front)) held

-- what is sealed is taken into the tag's text
pub sealing-fed : (c t cipher tag : Meaning) (mode : Mode) (start front text piece ys : List ℕ) (s : Body SealingMode) (m₁ : SealingMode) (mac₁ : Mac) → Same c cipher → Same t tag
    → SealingAt c t mode start front text s
    → ModeAt mode c start (text ++ piece) m₁ × (sealed_front mode c start (text ++ piece) ≡ sealed_front mode c start text ++ ys)
    → AbsorbedMac tag s.mac ys mac₁ → SealingAt c t mode start front (text ++ piece) record { mode = m₁; mac = mac₁ }
sealing-fed c t cipher tag mode start front text piece ys s m₁ mac₁ sc st h went took = record {
  sealing = went.0;
  tagged =
      subst (λ (x : List ℕ). MacAt t x mac₁)
      (append_assoc front (sealed_front mode c start text) ys ∙ ap (λ (x : List ℕ). front ++ x) (sym went.1))
      (took t (front ++ sealed_front mode c start text) st h.tagged);
}

-- the sealed text and its tag
pub body_closed : (c t cipher tag tag₁ : Meaning) (mode : Mode) (start front text ys V value : List ℕ) (n : ℕ) (s : Body SealingMode) (mac₁ : Mac) → Same c cipher → Same t tag → Same tag tag₁
    → SealingAt c t mode start front text s → FinishedMode cipher s.mode ys → AbsorbedMac tag s.mac ys mac₁ → FinishedMac tag₁ mac₁ value → n ≡ tag.size → V ≡ take (n - 0) value
    → sealed_in mode c start text ++ mac t (front ++ sealed_in mode c start text) ≡ sealed_front mode c start text ++ (ys ++ V)
body_closed c t cipher tag tag₁ mode start front text ys V value n s mac₁ sc st st₁ h ended took made es ev =
    let whole : sealed_in mode c start text ≡ sealed_front mode c start text ++ ys = ended c mode start text sc h.sealing in
    let text₁ : List ℕ = front ++ sealed_in mode c start text in
    let at : MacAt t (front ++ sealed_in mode c start text) mac₁ =
    subst (λ (x : List ℕ). MacAt t x mac₁)
    (append_assoc front (sealed_front mode c start text) ys ∙ ap (λ (x : List ℕ). front ++ x) (sym whole))
    (took t (front ++ sealed_front mode c start text) st h.tagged) in
    let v : value ≡ mac t text₁ ++ zeros (16 - t.size) = made t text₁ (same_then t tag tag₁ st st₁) at in
    let long : length (mac t text₁) ≡ t.size = mac-long t text₁ at in
    let z : n - 0 ≡ t.size = omega (arith, es, st.sizes) in
    let e : V ≡ mac t text₁ = ev ∙ ap₂ (λ (k : ℕ) (x : List ℕ). take k x) z v ∙ take_at (mac t text₁) (zeros (16 - t.size)) t.size long in
    ap (λ (x : List ℕ). x ++ mac t text₁) whole ∙ append_assoc (sealed_front mode c start text) ys (mac t text₁) ∙ ap (λ (x : List ℕ). sealed_front mode c start text ++ (ys ++ x)) (sym e)
