use Rattle.std.proofs.Common.{ℕ, List, [], ◌∷◌, ◌++◌, refl, ap, ◌∙◌, append_assoc}
use Rattle.std.proofs.lemmas.Slice.{pushed}
use Rattle.listing.proofs.put_body.Goals as goal

pub returns : goal.returns
returns c =
    let out = c.args.out.now.items in
    let name = c.args.body.name.now in
    let a = pushed c.as_bytes.result.now refl c.in_ok-extend_from_slice.was c.extend_from_slice.ensures.items in
    let b = pushed name a c.in_ok-extend_from_slice-2.was c.extend_from_slice-2.ensures.items in
    let d = pushed (10 ∷ []) b c.in_ok-extend_from_slice-3.was c.extend_from_slice-3.ensures.items in
    d ∙ ap (λ (xs : List ℕ). ((out ++ xs) ++ name) ++ 10 ∷ []) (c.as_bytes.ensures.value ∙ c.in_ok-front.ensures.ok) ∙ simp (append_assoc, c.blocks-blocks.ensures, c.sealed_length-sealed.ensures)
