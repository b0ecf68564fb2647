use Rattle.std.proofs.Common.{◌≡◌, true, List, map, length, sym, subst}
use Rattle.sheet_format.specs.Lines.{lines_of}
use Rattle.sheet_format.specs.Orders.{bodies_in as bodies_named, ordered}
use Rattle.sheet_format.specs.Sizes.{block_length}
use Rattle.sheet_lines.specs.Models.{body_model}
use Rattle.contents.specs.Entries.{are_held, entries_in}
use Rattle.contents.specs.declared.entry.Entry.{Entry}
use Rattle.contents.proofs.Held.{held-push}
use Rattle.contents.proofs.Lines.{first-named, line-fits, line-counted, line-more}
use Rattle.contents.proofs.from_sheet.put_entries.Goals as goal

pub loop-item-preserved-in-loop-item : goal.loop-item-preserved-in-loop-item
loop-item-preserved-in-loop-item c =
    let n = block_length c.args.cipher in
    let ls = lines_of c.loop-item.item-iterator.rest.now in
    let es = entries_in c.loop-item.entries in
    let entry = c.entry_of.result in
    let b = body_model c.in-Body.body in
    let all = bodies_named (lines_of c.args.sheet.now) in
    let step = c.in-Some.ensures.steps in
    let later = bodies_named (lines_of c.next.new.self.rest.now) in
    let first = first-named c.loop-item.item-iterator.number ls (lines_of c.next.new.self.rest.now) c.in-Some.item c.in-Ok.line
    step.value c.in-Ok.is step.rest c.in-Body.body c.in-Body.is in
    let inv = c.loop-item.invariant in
    record {
      count = line-counted n es (entries_in c.push.new.self) entry b (bodies_named ls) later first c.push.ensures (length all) inv.count;
      bodies = line-more n es (entries_in c.push.new.self) entry b (bodies_named ls) later first c.push.ensures (map ordered all) c.entry_of.ensures.value inv.bodies;
      held = subst (λ (fs : List Entry). are_held n fs ≡ true) (sym c.push.ensures) (held-push n es entry inv.held c.entry_of.ensures.held);
      fit = (line-fits n es (entries_in c.push.new.self) entry b (bodies_named ls) later first c.push.ensures inv.fit).1;
    }
