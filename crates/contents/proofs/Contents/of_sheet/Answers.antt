use Rattle.std.proofs.Common.{length, sym, subst}
use Rattle.sheet_format.proofs.Ciphers.{kind-known}
use Rattle.sheet_format.specs.Lines.{lines_of}
use Rattle.sheet_format.specs.Orders.{bodies_in as bodies_named}
use Rattle.sheet_format.specs.Sizes.{block_length}
use Rattle.sheet_format.specs.declared.CipherKind.{CipherKind}
use Rattle.contents_laws.specs.BodyLines.{FitLines}
use Rattle.contents.specs.Entries.{entries_in}
use Rattle.contents.proofs.Lines.{checked-cipher, checked-passed, said-answer, said-contents, said-passes}
use Rattle.contents.proofs.Contents.of_sheet.Goals as goal

pub put_entries-requires-clause-fit : goal.put_entries-requires-clause-fit
put_entries-requires-clause-fit c =
    let e = c.in_ok-checked.ensures.answer in
    let work = length c.args.work.now in
    let sheet = c.args.sheet.now in
    let checked = c.in_ok-checked.checked in
    let is = kind-known checked.block_length c.unwrap-cipher.result _ c.try_from.result c.try_from.ensures c.unwrap-cipher.ensures (checked-cipher work sheet checked c.args.tag_block e) in
    subst (λ (k : CipherKind). FitLines (block_length k) (bodies_named (lines_of sheet))) (sym is) (checked-passed work sheet checked c.args.tag_block e).fit

pub invariant_of-result : goal.invariant_of-result
invariant_of-result c =
    let e = c.in_ok-checked.ensures.answer in
    let work = length c.args.work.now in
    let sheet = c.args.sheet.now in
    let checked = c.in_ok-checked.checked in
    let m = c.args.tag_block in
    let is = kind-known checked.block_length c.unwrap-cipher.result _ c.try_from.result c.try_from.ensures c.unwrap-cipher.ensures (checked-cipher work sheet checked m e) in
    record {
      sound = said-contents work sheet checked m e c.unwrap-cipher.result (entries_in c.put_entries.new.entries) is c.put_entries.ensures.value c.put_entries.ensures.held;
    }

pub returns : goal.returns
returns c =
    let e = c.in_ok-checked.ensures.answer in
    let work = length c.args.work.now in
    let sheet = c.args.sheet.now in
    let checked = c.in_ok-checked.checked in
    let m = c.args.tag_block in
    let is = kind-known checked.block_length c.unwrap-cipher.result _ c.try_from.result c.try_from.ensures c.unwrap-cipher.ensures (checked-cipher work sheet checked m e) in
    record {
      answer = said-answer work sheet checked m e c.unwrap-cipher.result (entries_in c.put_entries.new.entries) is c.put_entries.ensures.value;
      passes = said-passes work sheet checked m e c.unwrap-cipher.result (entries_in c.put_entries.new.entries) is c.put_entries.ensures.value;
      work = c.check.ensures.work;
    }
