use Rattle.std.proofs.Common.{◌≡◌, rules, ℕ, ◌+◌, ◌-◌, List, length, set, ◌∙◌, ap₂}
use borrow.Rule.Slice.PartMut.{put_mid}
use Rattle.sheet.specs.Slots.{name_kept, start_kept}
use Rattle.sheet.proofs.Slots.{name-filled, start-filled}
use Rattle.sheet.proofs.kept.fill_slot.Goals as goal

pub returns : goal.returns
returns c =
    let slot = c.args.slot.now in
    let start = c.args.start.now in
    let name = c.args.name.now in
    let put : List ℕ → List ℕ → List ℕ =
    λ s n. put_mid 24 (24 + length name - 24) (put_mid 8 (8 + length start - 8) (set (set slot 0 (length name)) 1 (length start)) s) n in
    let whole : length slot ≡ 56 = search rules in
    record {
      name = ap₂ (λ (s n : List ℕ). name_kept (put s n)) c.copy_from_slice.ensures.after c.copy_from_slice-2.ensures.after
          ∙ name-filled slot start name whole c.requires.start c.requires.name;
      start = ap₂ (λ (s n : List ℕ). start_kept (put s n)) c.copy_from_slice.ensures.after c.copy_from_slice-2.ensures.after
          ∙ start-filled slot start name whole c.requires.start c.requires.name;
    }
