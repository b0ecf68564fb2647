use Rattle.std.proofs.Common.{ℕ, List, ◌<◌, get_or, subst, sym, ap, ◌∙◌, ap₂, arith, rules}
use Rattle.sheet_format.specs.Sizes.{block_length}
use Rattle.contents_format.specs.Reading.{fields_hold}
use Rattle.contents.proofs.EntryFields.{entry-accepted, entry-same}
use Rattle.contents.proofs.Held.{held-if-read}
use Rattle.contents.proofs.fields.read_entry.Goals as goal

pub returns-clause-held : goal.returns-clause-held
returns-clause-held c =
    let xs = c.as_slice.result.now in
    let small = λ (i : ℕ). subst (λ (ys : List ℕ). get_or ys i 0 < 256) (sym c.as_slice.ensures) (omega (arith, c.fits-bytes i)) in
    let front = c.copy_from_slice.ensures.after ∙ c.split_at.ensures.front in
    let back = c.copy_from_slice-2.ensures.after ∙ c.split_at.ensures.back in
    let holds = c.if-not-fields_hold.ensures
    ∙ ap (fields_hold c.split_at.result.0.now c.start_length.result c.split_at.result.1.now) c.from-used.ensures
    ∙ sym (ap₂ (λ (us vs : List ℕ). fields_hold us c.start_length.result vs (get_or xs 1 0))
    c.copy_from_slice.ensures.after c.copy_from_slice-2.ensures.after) in
    let value = entry-accepted (block_length c.args.cipher) xs c.in_ok-mode.mode _ _ c.start_length.result
    c.in_ok-mode.ensures front back c.start_length.ensures.value c.from_be_bytes-length.result
    c.from_be_bytes-length.ensures (omega arith) c.if-y-ne0.false c.if-z-ne0.false (omega arith) holds in
    let bytes = entry-same (block_length c.args.cipher) xs c.in_ok-mode.mode _ _ c.start_length.result
    c.in_ok-mode.ensures front back c.start_length.ensures.value c.from_be_bytes-length.result
    c.from_be_bytes-length.ensures (search rules) small c.if-y-ne0.false c.if-z-ne0.false in
    held-if-read c.args.cipher _ xs bytes value (search rules) small
