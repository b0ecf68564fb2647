use Rattle.std.proofs.Common.{◌≡◌, ◌-◌, ◌<◌, [], ◌∷◌, length, take, drop, Some, None, sym, ap, ◌∙◌, inl, inr, arith, length-drop, length-take, rules}
use Rattle.std.proofs.lemmas.List.{nil_from_length}
use Rattle.sheet_format.specs.Lines.{Line, lines_of}
use Rattle.sheet_laws.proofs.Forms.{form-found}
use Rattle.sheet_lines.specs.Models.{form_model, next_of, step_of, tail_of}
use Rattle.sheet_lines.proofs.Rows.{lines-at-cut, lines-uncut}
use Rattle.sheet_lines.proofs.reader.Lines.next_line.Goals as goal

pub returns-in_default : goal.returns-in_default
returns-in_default c =
    let all = c.args.self.now.rest.now in
    let h : 0 < length all = search rules in
    let p = lines-uncut all h (sym c.in_default.ensures) in
    let q : None ∷ [] ≡ lines_of all = sym p.0 in
    let n = nil_from_length (take (length all - length all) (drop (length all) all)) (simp (length-take, length-drop) (omega arith)) in
    record {
      value = ap (next_of c.args.self.now.number) q;
      parts = (all, p.1, inr (search rules, n));
      rest = ap lines_of n ∙ ap tail_of q;
      number = ap (step_of c.args.self.now.number) q;
    }

pub invariant_of-self-2 : goal.invariant_of-self-2
invariant_of-self-2 c =
    let e = lines-at-cut c.args.self.now.rest.now c.in-Some.text.now c.in-Some.rest.now (sym c.in-Some.ensures) in
    record { countable = omega (arith, e.1) }

pub returns-in-Some-read_line : goal.returns-in-Some-read_line
returns-in-Some-read_line c =
    let e = lines-at-cut c.args.self.now.rest.now c.in-Some.text.now c.in-Some.rest.now (sym c.in-Some.ensures) in
    let q : Some (form_model c.in-Some-read_line.kind) ∷ lines_of c.in-Some.rest.now ≡ lines_of c.args.self.now.rest.now =
    ap (λ (l : Line). l ∷ lines_of c.in-Some.rest.now) c.in-Some-read_line.ensures ∙ sym e.0 in
    record {
      value = ap (next_of c.args.self.now.number) q;
      parts = (
        c.in-Some.text.now,
        e.2,
        form-found c.in-Some.text.now (form_model c.in-Some-read_line.kind) e.3 (sym c.in-Some-read_line.ensures),
      );
      rest = ap tail_of q;
      number = ap (step_of c.args.self.now.number) q;
    }

pub returns-in-None : goal.returns-in-None
returns-in-None c =
    let e = lines-at-cut c.args.self.now.rest.now c.in-Some.text.now c.in-Some.rest.now (sym c.in-Some.ensures) in
    let q : None ∷ lines_of c.in-Some.rest.now ≡ lines_of c.args.self.now.rest.now =
    ap (λ (l : Line). l ∷ lines_of c.in-Some.rest.now) c.in-None.ensures ∙ sym e.0 in
    record {
      value = ap (next_of c.args.self.now.number) q;
      parts = (c.in-Some.text.now, e.3, inl e.2);
      rest = ap tail_of q;
      number = ap (step_of c.args.self.now.number) q;
    }
