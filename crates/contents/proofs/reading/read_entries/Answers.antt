use Rattle.std.proofs.Common.{◌≡◌, true, ℕ, ◌+◌, ◌-◌, ◌*◌, ◌/◌, [], ◌∷◌, ◌++◌, length, get_or, drop, List, sym, ap, ◌∙◌, subst, ap₂, arith}
use lib.ListN.{length-map}
use Rattle.std.proofs.lemmas.List.{length_push, map_push}
use Rattle.sheet_format.specs.Orders.{BodyOrder, total_blocks}
use Rattle.sheet_format.specs.Sizes.{block_length}
use Rattle.contents_format.specs.Reading.{next_body, bodies_from}
use Rattle.contents.specs.Entries.{are_held, bodies_in, body_in, entries_in}
use Rattle.contents.specs.declared.entry.Entry.{Entry}
use Rattle.contents.proofs.Held.{held-push}
use Rattle.contents.proofs.Next.{chunk-at, walk-stops, walk-goes}
use Rattle.contents.proofs.reading.read_entries.Goals as goal

pub returns-in_default-clause-value : goal.returns-in_default-clause-value
returns-in_default-clause-value c =
    let n = block_length c.args.cipher in
    let i = c.loop-i.i in
    let es = entries_in c.loop-i.entries in
    let xs = c.args.bytes.now in
    let many : length c.args.bytes.now / 56 ≡ c.args.count = omega (arith, c.requires.long) in
    let bytes = ap (λ (cs : List (List ℕ)). get_or cs i _) c.as_chunks.ensures.front ∙ chunk-at (length xs / 56) i xs _ (omega arith) in
    walk-stops n (bodies_in n es) c.args.count i xs (omega arith) (bodies_from n [] c.args.count xs) c.loop-i.invariant.whole
    (c.in_default.ensures.value ∙ ap₂ (λ (fs : List Entry) (ys : List ℕ). next_body n (bodies_in n fs) ys) c.as_slice.ensures bytes)
    (length-map es (body_in n) ∙ c.loop-i.invariant.count)

pub loop-i-preserved : goal.loop-i-preserved
loop-i-preserved c =
    let n = block_length c.args.cipher in
    let i = c.loop-i.i in
    let es = entries_in c.loop-i.entries in
    let xs = c.args.bytes.now in
    let entry = c.in-Some.entry in
    let many : length c.args.bytes.now / 56 ≡ c.args.count = omega (arith, c.requires.long) in
    let bytes = ap (λ (cs : List (List ℕ)). get_or cs i _) c.as_chunks.ensures.front ∙ chunk-at (length xs / 56) i xs _ (omega arith) in
    let more : bodies_in n (entries_in c.push.new.self) ≡ bodies_in n es ++ body_in n entry ∷ [] = ap (bodies_in n) c.push.ensures ∙ map_push (body_in n) es entry in
    record {
      count = ap length c.push.ensures ∙ length_push es entry ∙ ap (λ (k : ℕ). k + 1) c.loop-i.invariant.count;
      blocks = c.in-Some.ensures.total ∙ ap (λ (fs : List Entry). total_blocks n (bodies_in n fs ++ body_in n entry ∷ [])) c.as_slice.ensures ∙ ap (total_blocks n) (sym more);
      limit = c.in-Some.ensures.limit;
      held = subst (λ (fs : List Entry). are_held n fs ≡ true) (sym c.push.ensures) (held-push n es entry c.loop-i.invariant.held c.in-Some.ensures.held);
      whole = ap (λ (bs : List BodyOrder). bodies_from n bs (c.args.count - (i + 1)) (drop (56 * (i + 1)) xs)) more
          ∙ walk-goes n (bodies_in n es) c.args.count i xs (omega arith) (bodies_from n [] c.args.count xs) (body_in n entry) c.loop-i.invariant.whole
          (c.in-Some.ensures.value ∙ ap₂ (λ (fs : List Entry) (ys : List ℕ). next_body n (bodies_in n fs) ys) c.as_slice.ensures bytes);
    }
