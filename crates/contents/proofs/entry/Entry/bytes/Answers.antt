use Rattle.std.proofs.Common.{ℕ, List, ◌∷◌, ◌++◌, length, ap, ◌∙◌, ap₂, rules}
use Rattle.contents.proofs.Written.{fields-written}
use Rattle.contents.proofs.entry.Entry.bytes.Goals as goal

pub returns : goal.returns
returns c =
    let four = c.copy_from_slice.new.self in
    let start = c.copy_from_slice-2.new.self in
    let name = c.copy_from_slice-3.new.self in
    let k = c.args.self.now.name_length in
    let field = c.copy_from_slice.ensures.after ∙ c.to_be_bytes.ensures in
    fields-written c.mode_number.result k four start name (ap length field) (search rules) (search rules)
    ∙ ap₂ (λ (x : ℕ) (xs : List ℕ). x ∷ k ∷ 0 ∷ 0 ∷ xs) c.mode_number.ensures
    (ap₂ (λ (xs ys : List ℕ). xs ++ ys) field
    (ap₂ (λ (xs ys : List ℕ). xs ++ ys) c.copy_from_slice-2.ensures.after c.copy_from_slice-3.ensures.after))
