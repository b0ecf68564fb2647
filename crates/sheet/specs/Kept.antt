-- What is kept of the bodies before a line.
use Rattle.std.specs.Prelude.{◌≡◌, ℕ, List, map, length, take}
use Rattle.sheet_format.specs.Lines.{Body}
use Rattle.sheet.specs.Slots.{ctr_start, name_kept, start_kept}
use Rattle.sheet.specs.declared.kept.Kept.{Kept}

abbrev pub slots_in : Kept → List (List ℕ)
slots_in k = take k.count k.slots.now

-- these bodies are kept, slot by slot
pub record Keeps (k : Kept) (bodies : List Body) : Type 0 where
  pub many : k.count ≡ length bodies
  pub names : map name_kept (slots_in k) ≡ map (λ b. b.name) bodies
  pub starts : map start_kept (slots_in k) ≡ map ctr_start bodies
