use Rattle.std.proofs.Common.{List, Some, slice_get, sym, ap, ◌∙◌}
use Rattle.std.proofs.lemmas.Option.{slice_get-get_or}
use Rattle.contents.specs.declared.entry.Entry.{Entry}
use Rattle.contents.proofs.OfContents.{bytes-found}
use Rattle.contents.proofs.Contents.entry_bytes.Goals as goal

pub returns : goal.returns
returns c =
    let found = c.in_ok-entry.ensures.lookup in
    let entry = c.in_ok-entry.entry.now in
    bytes-found c.args.self.now c.args.number entry c.bytes.result c.bytes.ensures
    (ap (λ (e : Entry). Some e) found.1 ∙ sym (slice_get-get_or c.as_slice.result.now c.args.number entry found.3.0)
    ∙ ap (λ (es : List Entry). slice_get es c.args.number) c.as_slice.ensures)
