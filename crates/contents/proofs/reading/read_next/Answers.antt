use Rattle.std.proofs.Common.{ℕ, ◌<◌, ◌≤◌, List, [], ◌∷◌, ◌++◌, ap, ◌∙◌, arith, sym}
use Rattle.std.specs.List.{list_any}
use Rattle.std.specs.Str.{bytes_eq}
use Rattle.sheet_format.specs.Orders.{BodyOrder, total_blocks}
use Rattle.sheet_format.specs.Sizes.{block_length}
use Rattle.contents_laws.proofs.Sound.{blocks-push}
use Rattle.contents.specs.Entries.{body_in, bodies_in, name_of}
use Rattle.contents.specs.declared.entry.Entry.{Entry}
use Rattle.contents.proofs.Next.{next-named, next-many, next-good}
use Rattle.sheet.proofs.Searches.{any-map}
use Rattle.contents.proofs.reading.read_next.Goals as goal

pub returns-then-name_taken-clause-value : goal.returns-then-name_taken-clause-value
returns-then-name_taken-clause-value c =
    let n = block_length c.args.cipher in
    let entry = c.in_ok-entry.entry in
    next-named n (bodies_in n c.args.earlier.now) c.args.bytes.now (body_in n entry) c.in_ok-entry.ensures.value
    (c.if-name_taken.ensures ∙ ap (λ (xs : List ℕ). list_any (λ (e : Entry). bytes_eq (name_of e) xs) c.args.earlier.now) c.name.ensures
    ∙ sym (any-map (λ (b : BodyOrder). bytes_eq b.name (name_of entry)) (body_in n) c.args.earlier.now))

pub returns-then-more-blocks-clause-value : goal.returns-then-more-blocks-clause-value
returns-then-more-blocks-clause-value c =
    let n = block_length c.args.cipher in
    let earlier = bodies_in n c.args.earlier.now in
    let entry = c.in_ok-entry.entry in
    let sum = blocks-push n earlier (body_in n entry) in
    let many : 1000000 < total_blocks n (earlier ++ body_in n entry ∷ []) = omega (arith, c.requires.blocks, c.blocks-more.ensures) in
    next-many n earlier c.args.bytes.now (body_in n entry) c.in_ok-entry.ensures.value many

pub returns-clause-value : goal.returns-clause-value
returns-clause-value c =
    let n = block_length c.args.cipher in
    let earlier = bodies_in n c.args.earlier.now in
    let entry = c.in_ok-entry.entry in
    let sum = blocks-push n earlier (body_in n entry) in
    let few : total_blocks n (earlier ++ body_in n entry ∷ []) ≤ 1000000 = omega (arith, c.requires.blocks, c.blocks-more.ensures) in
    next-good n earlier c.args.bytes.now (body_in n entry) c.in_ok-entry.ensures.value
    (c.if-name_taken.ensures ∙ ap (λ (xs : List ℕ). list_any (λ (e : Entry). bytes_eq (name_of e) xs) c.args.earlier.now) c.name.ensures
    ∙ sym (any-map (λ (b : BodyOrder). bytes_eq b.name (name_of entry)) (body_in n) c.args.earlier.now)) c.if-shares_start.ensures few

pub returns-clause-total : goal.returns-clause-total
returns-clause-total c =
    let n = block_length c.args.cipher in
    let sum = blocks-push n (bodies_in n c.args.earlier.now) (body_in n c.in_ok-entry.entry) in
    omega (arith, c.requires.blocks, c.blocks-more.ensures)
