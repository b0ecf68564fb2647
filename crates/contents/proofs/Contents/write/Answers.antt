use Rattle.std.proofs.Common.{◌≡◌, List, get_or, ap, ◌+◌, ◌-◌, ◌*◌, ◌<◌, ◌≤◌, length, ◌∙◌, arith, rules}
use Rattle.std.proofs.lemmas.Slice.{drop-put_mid}
use Rattle.contents_format.specs.Layout.{header_of}
use Rattle.contents.specs.Entries.{bytes_in, entries_in}
use Rattle.contents.specs.declared.entry.Entry.{Entry}
use Rattle.contents.specs.Models.{said_by}
use Rattle.contents.proofs.OfContents.{good, whole-belongs, whole-read, written-output}
use Rattle.contents.proofs.Written.{front-more, back_more}
use Rattle.contents.proofs.Contents.write.Goals as goal

pub returns-then-out-length-clause-belongs : goal.returns-then-out-length-clause-belongs
returns-then-out-length-clause-belongs c = whole-belongs c.args.self.now

pub returns-then-out-length-clause-read : goal.returns-then-out-length-clause-read
returns-then-out-length-clause-read c = whole-read c.args.self.now

pub loop-i-preserved : goal.loop-i-preserved
loop-i-preserved c =
    let self = c.args.self.now in
    let header = header_of (said_by self).order (said_by self).tag in
    let es = entries_in self.entries in
    let i = c.loop-i.i in
    let put = c.copy_from_slice-in-loop-i in
    let part = put.new.self in
    let size : 4 + 56 * c.loop-i.i + 56 - (4 + 56 * c.loop-i.i) ≡ 56 = omega arith in
    let long : length c.copy_from_slice-in-loop-i.new.self ≡ 56 = search rules in
    let less : c.loop-i.i < length es = search rules in
    let many = (good self).many in
    let room : 4 + 56 * (c.loop-i.i + 1) ≤ length c.loop-i.out = omega (arith, c.length-length.ensures.entries, c.loop-i.auto.out) in (
      front-more header c.loop-i.out part i (4 + 56 * i + 56 - (4 + 56 * i)) es _ size long room less
          (put.ensures.after ∙ c.bytes.ensures ∙ ap (λ (xs : List Entry). bytes_in (get_or xs i _)) c.as_slice-entry-items.ensures) c.loop-i.invariant.0,
      back_more c.loop-i.out _ part i (4 + 56 * i + 56 - (4 + 56 * i)) size long room c.loop-i.invariant.1,
    )

pub returns-clause-output : goal.returns-clause-output
returns-clause-output c =
    let self = c.args.self.now in
    let es = ap length c.as_slice-entry-items.ensures in
    let many = (good self).many in
    written-output self c.args.out.now c.loop-i.out c.loop-i.i (omega (arith, c.length-length.ensures.entries)) (omega arith) c.loop-i.invariant.0
    (c.loop-i.invariant.1 ∙ drop-put_mid 0 4 c.args.out.now c.copy_from_slice.new.self (4 + 56 * c.loop-i.i) (omega arith) (omega arith) (search rules))

pub returns-clause-belongs : goal.returns-clause-belongs
returns-clause-belongs c = whole-belongs c.args.self.now

pub returns-clause-read : goal.returns-clause-read
returns-clause-read c = whole-read c.args.self.now
