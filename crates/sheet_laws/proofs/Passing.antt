-- A sheet orders something exactly where it passes: line by line, before the cipher line and after it.
use Rattle.std.proofs.Common.{◌≡◌, ℕ, ◌+◌, ◌≤◌, Bool, true, false, not, ◌&&◌, List, [], ◌∷◌, ◌++◌, map, length, Some, None, Ok, Option, Result, sym, refl, ap, ◌∙◌, subst, append_assoc, append-nil, arith}
use Rattle.std.specs.List.{flat_map}
use Rattle.std.proofs.Math.Bool.{and-true}
use Rattle.std.proofs.lemmas.List.{flat_map_more}
use Rattle.std.proofs.lemmas.List.Folds.{list_all-append}
use Rattle.std.proofs.lemmas.Bool.{and_left, ltb-false, le-ltb}
use Rattle.sheet_format.specs.Lines.{Body, Form, blank, comment, cipher, body, Line, lines_of}
use Rattle.sheet_format.specs.Orders.{BodyOrder, Order, ordered, cipher_named, body_named, ciphers_in, bodies_in, counts, none_counts, line_fault, unless, order_at_end, order_from, bad_line, byte_fault, length_fault, order_of}
use Rattle.sheet_format.specs.declared.CipherKind.{CipherKind}
use Rattle.sheet_format.specs.declared.SheetFault.{SheetFault}
use Rattle.sheet_laws.specs.Passes.{counting, Passes, OrdersIfPasses}
use Rattle.sheet_laws.proofs.Bytes.{bad-line-tells, bytes-unrefused}
use Rattle.sheet_laws.proofs.Clash.{clash}
use Rattle.sheet_laws.proofs.Fitting.{Sound, Fits, After, sound_none, sound-push, fits_next, untrue-test, fits-if-unrefused, unrefused-if-fits}
use Rattle.sheet_laws.proofs.Rows.{reads-written}

pub none_counts-push : (ls : List Line) (l : Line) → none_counts (ls ++ l ∷ []) ≡ (none_counts ls && not (counts l))
none_counts-push ls l =
    list_all-append (λ x. not (counts x)) ls (l ∷ []) ∙ ap (λ (t : Bool). none_counts ls && t) (and-true (not (counts l)))

pub joined-push : {X A : Type 0} (f : X → List A) (xs : List X) (x : X) → flat_map f (xs ++ x ∷ []) ≡ flat_map f xs ++ f x
joined-push f xs x = sym (flat_map_more f [] xs x)

-- only lines that are passed over stand before
record Before (earlier : List Line) : Type 0 where
  counting : none_counts earlier ≡ true
  ciphers : ciphers_in earlier ≡ []
  bodies : bodies_in earlier ≡ []

before-push : (earlier : List Line) (l : Line) → Before earlier → counts l ≡ false → cipher_named l ≡ [] → body_named l ≡ []
    → Before (earlier ++ l ∷ [])
before-push earlier l h p q r = record {
  counting = rw (none_counts-push earlier l, h.counting, p);
  ciphers = rw (joined-push cipher_named earlier l, h.ciphers, q);
  bodies = rw (joined-push body_named earlier l, h.bodies, r);
}

after-cipher : (earlier : List Line) (c : CipherKind) → Before earlier → After (earlier ++ Some (cipher c) ∷ []) c []
after-cipher earlier c h = record {
  counting = rw (none_counts-push earlier (Some (cipher c)), h.counting);
  ciphers = rw (joined-push cipher_named earlier (Some (cipher c)), h.ciphers);
  bodies = rw (joined-push body_named earlier (Some (cipher c)), h.bodies);
}

after_push : (earlier : List Line) (l : Line) (c : CipherKind) (bs more : List Body) → After earlier c bs
    → cipher_named l ≡ [] → bs ++ body_named l ≡ more → After (earlier ++ l ∷ []) c more
after_push earlier l c bs more h q r = record {
  counting = none_counts-push earlier l ∙ and_left (none_counts earlier) (not (counts l)) h.counting;
  ciphers = rw (joined-push cipher_named earlier l, h.ciphers, q);
  bodies = rw (joined-push body_named earlier l, h.bodies, r);
}

pub unless-ok : {A : Type 0} (f : Option SheetFault) (r : Result A SheetFault) (x : A) → unless f r ≡ Ok x → (f ≡ None) × (r ≡ Ok x)
unless-ok None r x e = (refl, e)
unless-ok (Some f) r x e = clash (cc)

-- where something is ordered, every line has a form
all-forms : (earlier lines : List Line) (o : Order) → order_from earlier lines ≡ Ok o → (forms : List Form) × (lines ≡ map (λ f. Some f) forms)
all-forms earlier [] o e = ([], refl)
all-forms earlier (None ∷ lines) o e = clash (cc)
all-forms earlier (Some f ∷ lines) o e =
    let u = unless-ok (line_fault (length earlier + 1) earlier (Some f)) (order_from (earlier ++ Some f ∷ []) lines) o e in
    let g = all-forms (earlier ++ Some f ∷ []) lines o u.1 in
    (f ∷ g.0, ap (λ (t : List Line). Some f ∷ t) g.1)

abbrev order_on : CipherKind → List Body → Order
order_on c bs = record { cipher = c; bodies = map ordered bs }

at-end : (k : ℕ) (c : CipherKind) (bs : List Body) (o : Order) → order_at_end k (c ∷ []) bs ≡ Ok o → (1 ≤ length bs) × (order_on c bs ≡ o)
at-end k c [] o e = clash (cc)
at-end k c (b ∷ bs) o e = (omega arith, cc)

end-orders : (k : ℕ) (c : CipherKind) (bs : List Body) → 1 ≤ length bs → order_at_end k (c ∷ []) bs ≡ Ok (order_on c bs)
end-orders k c [] h = absurd (let f : ⊥ = omega arith in f)
end-orders k c (b ∷ bs) h = refl

-- after the cipher line and the bodies bs, the lines that count name sound bodies and give the order
record Ends (c : CipherKind) (bs : List Body) (counted : List Form) (o : Order) : Type 0 where
  later : List Body
  are : counted ≡ map body later
  sound : Sound c (bs ++ later)
  some : 1 ≤ length (bs ++ later)
  order : order_on c (bs ++ later) ≡ o

ends-if-ordered : (earlier : List Line) (c : CipherKind) (bs : List Body) (forms : List Form) (o : Order) → After earlier c bs → Sound c bs
    → order_from earlier (map (λ f. Some f) forms) ≡ Ok o → Ends c bs (flat_map counting forms) o
ends-if-ordered earlier c bs [] o a s e =
    let h = at-end (length earlier + 1) c bs o (rw (a.ciphers, a.bodies) at e) in
    record { later = []; are = refl; sound = rw (append-nil bs) s; some = rw (append-nil bs) h.0; order = rw (append-nil bs) h.1 }
ends-if-ordered earlier c bs (blank ∷ forms) o a s e =
    ends-if-ordered (earlier ++ Some blank ∷ []) c bs forms o (after_push earlier (Some blank) c bs bs a refl (append-nil bs)) s e
ends-if-ordered earlier c bs (comment ∷ forms) o a s e =
    ends-if-ordered (earlier ++ Some comment ∷ []) c bs forms o (after_push earlier (Some comment) c bs bs a refl (append-nil bs)) s e
ends-if-ordered earlier c bs (cipher d ∷ forms) o a s e =
    let h = rw a.ciphers at e in
    clash (cc)
ends-if-ordered earlier c bs (body b ∷ forms) o a s e =
    let k = length earlier + 1 in
    let u = unless-ok (line_fault k earlier (Some (body b))) (order_from (earlier ++ Some (body b) ∷ []) (map (λ f. Some f) forms)) o e in
    let r = ends-if-ordered (earlier ++ Some (body b) ∷ []) c (bs ++ b ∷ []) forms o
    (after_push earlier (Some (body b)) c bs (bs ++ b ∷ []) a refl refl)
    (sound-push c bs b s (fits-if-unrefused k earlier c bs b a u.0)) u.1 in
    let p = append_assoc bs (b ∷ []) r.later in
    record {
      later = b ∷ r.later;
      are = ap (λ (t : List Form). body b ∷ t) r.are;
      sound = rw p at r.sound;
      some = rw p at r.some;
      order = rw p at r.order;
    }

ordered-if-ends : (earlier : List Line) (c : CipherKind) (bs : List Body) (forms : List Form) (later : List Body) → After earlier c bs
    → flat_map counting forms ≡ map body later → Sound c (bs ++ later) → 1 ≤ length (bs ++ later)
    → order_from earlier (map (λ f. Some f) forms) ≡ Ok (order_on c (bs ++ later))
ordered-if-ends earlier c bs [] [] a e s n =
    rw (a.ciphers, a.bodies, append-nil bs) (end-orders (length earlier + 1) c bs (rw (append-nil bs) at n))
ordered-if-ends earlier c bs [] (b ∷ later) a e s n = clash (cc)
ordered-if-ends earlier c bs (blank ∷ forms) later a e s n =
    ordered-if-ends (earlier ++ Some blank ∷ []) c bs forms later (after_push earlier (Some blank) c bs bs a refl (append-nil bs)) e s n
ordered-if-ends earlier c bs (comment ∷ forms) later a e s n =
    ordered-if-ends (earlier ++ Some comment ∷ []) c bs forms later (after_push earlier (Some comment) c bs bs a refl (append-nil bs)) e s n
ordered-if-ends earlier c bs (cipher d ∷ forms) [] a e s n = clash (cc)
ordered-if-ends earlier c bs (cipher d ∷ forms) (b ∷ later) a e s n = clash (cc)
ordered-if-ends earlier c bs (body b ∷ forms) [] a e s n = clash (cc)
ordered-if-ends earlier c bs (body b ∷ forms) (d ∷ later) a e s n =
    let same : b ≡ d = cc in
    let rest : flat_map counting forms ≡ map body later = cc in
    let f : Fits c bs b = rw same (fits_next c bs d later s) in
    let p : (bs ++ b ∷ []) ++ later ≡ bs ++ d ∷ later = append_assoc bs (b ∷ []) later ∙ ap (λ (x : Body). bs ++ x ∷ later) same in
    let r = ordered-if-ends (earlier ++ Some (body b) ∷ []) c (bs ++ b ∷ []) forms later
    (after_push earlier (Some (body b)) c bs (bs ++ b ∷ []) a refl refl) rest (rw p s) (rw p n) in
    ap (λ (t : Option SheetFault). unless t (order_from (earlier ++ Some (body b) ∷ []) (map (λ f. Some f) forms)))
    (unrefused-if-fits (length earlier + 1) earlier c bs b a f) ∙ (rw p at r)

-- the lines that count are one cipher line and lines of sound bodies, and give the order
record Counted (counted : List Form) (o : Order) : Type 0 where
  kind : CipherKind
  named : List Body
  are : counted ≡ cipher kind ∷ map body named
  sound : Sound kind named
  some : 1 ≤ length named
  order : order_on kind named ≡ o

counted-if-ordered : (earlier : List Line) (forms : List Form) (o : Order) → Before earlier
    → order_from earlier (map (λ f. Some f) forms) ≡ Ok o → Counted (flat_map counting forms) o
counted-if-ordered earlier [] o h e =
    let g = rw h.ciphers at e in
    clash (cc)
counted-if-ordered earlier (blank ∷ forms) o h e =
    counted-if-ordered (earlier ++ Some blank ∷ []) forms o (before-push earlier (Some blank) h refl refl refl) e
counted-if-ordered earlier (comment ∷ forms) o h e =
    counted-if-ordered (earlier ++ Some comment ∷ []) forms o (before-push earlier (Some comment) h refl refl refl) e
counted-if-ordered earlier (cipher c ∷ forms) o h e =
    let r = ends-if-ordered (earlier ++ Some (cipher c) ∷ []) c [] forms o (after-cipher earlier c h) (sound_none c) (rw h.ciphers at e) in
    record {
      kind = c;
      named = r.later;
      are = ap (λ (t : List Form). cipher c ∷ t) r.are;
      sound = r.sound;
      some = r.some;
      order = r.order;
    }
counted-if-ordered earlier (body b ∷ forms) o h e =
    let g = rw h.counting at e in
    clash (cc)

ordered-if-counted : (earlier : List Line) (forms : List Form) (c : CipherKind) (named : List Body) → Before earlier
    → flat_map counting forms ≡ cipher c ∷ map body named → Sound c named → 1 ≤ length named
    → order_from earlier (map (λ f. Some f) forms) ≡ Ok (order_on c named)
ordered-if-counted earlier [] c named h e s n = clash (cc)
ordered-if-counted earlier (blank ∷ forms) c named h e s n =
    ordered-if-counted (earlier ++ Some blank ∷ []) forms c named (before-push earlier (Some blank) h refl refl refl) e s n
ordered-if-counted earlier (comment ∷ forms) c named h e s n =
    ordered-if-counted (earlier ++ Some comment ∷ []) forms c named (before-push earlier (Some comment) h refl refl refl) e s n
ordered-if-counted earlier (cipher d ∷ forms) c named h e s n =
    let same : c ≡ d = cc in
    let rest : flat_map counting forms ≡ map body named = cc in
    rw (h.ciphers, same)
    (ordered-if-ends (earlier ++ Some (cipher d) ∷ []) d [] forms named (after-cipher earlier d h) rest (rw same at s) n)
ordered-if-counted earlier (body b ∷ forms) c named h e s n = clash (cc)

before-none : Before []
before-none = record { counting = refl; ciphers = refl; bodies = refl }

passes-if-ordered : (sheet : List ℕ) (o : Order) → order_of sheet ≡ Ok o → Passes sheet o
passes-if-ordered sheet o e =
    let u = unless-ok (length_fault sheet) (unless (byte_fault (bad_line 1 sheet)) (order_from [] (lines_of sheet))) o e in
    let v = unless-ok (byte_fault (bad_line 1 sheet)) (order_from [] (lines_of sheet)) o u.1 in
    let g = all-forms [] (lines_of sheet) o v.1 in
    let r = counted-if-ordered [] g.0 o before-none (rw g.1 at v.1) in
    let p : Passes sheet (order_on r.kind r.named) = record {
      short = ltb-false 4096 (length sheet) (untrue-test _ _ _ u.0).0;
      bytes = (bytes-unrefused 1 sheet (bad_line 1 sheet) (bad-line-tells 1 sheet)).0 v.0;
      forms = g.0;
      lines = (reads-written sheet g.0).0 g.1;
      named = r.named;
      counted = r.are;
      bodies = refl;
      some = r.some;
      few = r.sound.few;
      lengths = r.sound.lengths;
      digits = r.sound.digits;
      names = r.sound.names;
      starts = r.sound.starts;
      blocks = r.sound.blocks;
    } in
    subst (λ (q : Order). Passes sheet q) r.order p

ordered-if-passes : (sheet : List ℕ) (o : Order) → Passes sheet o → order_of sheet ≡ Ok o
ordered-if-passes sheet o p =
    let s : Sound o.cipher p.named = record {
      few = p.few;
      lengths = p.lengths;
      digits = p.digits;
      names = p.names;
      starts = p.starts;
      blocks = rw p.bodies at p.blocks;
    } in
    let r = ordered-if-counted [] p.forms o.cipher p.named before-none p.counted s p.some in
    let q : order_on o.cipher p.named ≡ o = ap (λ (bs : List BodyOrder). record { cipher = o.cipher; bodies = bs }) (sym p.bodies) in
    rw (le-ltb 4096 (length sheet) p.short, (bytes-unrefused 1 sheet (bad_line 1 sheet) (bad-line-tells 1 sheet)).1 p.bytes, (reads-written sheet p.forms).1 p.lines) (r ∙ ap Ok q)

pub orders-if-passes : OrdersIfPasses
orders-if-passes sheet o = (passes-if-ordered sheet o, ordered-if-passes sheet o)
