use Rattle.std.proofs.Common.{ℕ, List, ◌++◌, length, drop, replicate, ap, ◌∙◌, refl}
use Rattle.contents.proofs.Filled.{front-filled}
use Rattle.contents.proofs.from_sheet.name_field.Goals as goal

pub returns : goal.returns
returns c =
    ap (λ (xs : List ℕ). xs ++ drop (length c.args.name.now) (replicate 32 0)) c.copy_from_slice.ensures.after
    ∙ front-filled 32 (length c.args.name.now) c.args.name.now refl
