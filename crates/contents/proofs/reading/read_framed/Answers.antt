use Rattle.std.proofs.Common.{sym, refl, ◌∙◌, arith}
use Rattle.contents.specs.Entries.{entries_in}
use Rattle.contents.proofs.Whole.{read-is-contents}
use Rattle.contents.proofs.reading.read_framed.Goals as goal

pub invariant_of-result : goal.invariant_of-result
invariant_of-result c = record {
  sound = read-is-contents c.in_ok-cipher.cipher c.args.edition c.from-count.result c.args.entries.now (entries_in c.read_entries.new.entries)
      (sym c.if-not-is_frame.false ∙ c.is_frame.ensures.value c.args.entries.now refl) (λ i. omega (arith, c.type_inv.entries i))
      c.in_ok-read_entries.ensures.value c.in_ok-read_entries.ensures.held;
}
