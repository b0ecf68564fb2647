use Rattle.std.proofs.Common.{ℕ, ◌&&◌, List, sym, ap, ◌∙◌}
use Rattle.std.specs.List.{list_any}
use Rattle.std.specs.Str.{bytes_eq}
use Rattle.sheet_format.specs.Orders.{BodyOrder, is_ctr}
use Rattle.sheet_format.specs.Sizes.{block_length}
use Rattle.sheet_format.specs.declared.Mode.{Mode}
use Rattle.contents_format.specs.Reading.{ctr_start_in}
use Rattle.contents.specs.Entries.{bodies_in, body_in}
use Rattle.contents.specs.declared.entry.Entry.{Entry}
use Rattle.sheet.proofs.Searches.{any-map}
use Rattle.contents.proofs.reading.shares_start.Goals as goal

pub returns-in-Ctr : goal.returns-in-Ctr
returns-in-Ctr c =
    let n = block_length c.args.cipher in
    let earlier = c.args.earlier.now in
    let start = (body_in n c.args.entry.now).start in
    let taken = ctr_start_in start (bodies_in n earlier) in
    c.start_taken.ensures ∙ ap (λ (xs : List ℕ). list_any (λ (e : Entry). is_ctr e.mode && bytes_eq (body_in n e).start xs) earlier) c.start.ensures
    ∙ sym (any-map (λ (b : BodyOrder). is_ctr b.mode && bytes_eq b.start start) (body_in n) earlier) ∙ ap (λ (m : Mode). is_ctr m && taken) (sym c.in-Ctr.is)
