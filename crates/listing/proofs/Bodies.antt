-- What an accepted sheet orders: its cipher and its bodies.
use Rattle.std.proofs.Common.{◌≡◌, ℕ, ◌+◌, List, [], ◌∷◌, ◌++◌, map, length, Ok, Err, Result, sym, refl, ap, ◌∙◌, append_assoc, append-nil}
use Rattle.sheet_format.specs.Lines.{Body, Line, lines_of}
use Rattle.sheet_format.specs.Orders.{BodyOrder, Order, ordered, bodies_in, ciphers_in, line_fault, unless, order_at_end, order_from, bad_line, byte_fault, length_fault, order_of, summary, map_ok}
use Rattle.sheet_format.specs.Sizes.{block_length}
use Rattle.sheet_format.specs.declared.Checked.{Checked}
use Rattle.sheet_format.specs.declared.CipherKind.{CipherKind}
use Rattle.sheet_format.specs.declared.SheetFault.{SheetFault}
use Rattle.sheet_laws.proofs.Clash.{clash}
use Rattle.sheet_laws.proofs.Passing.{unless-ok}
use Rattle.listing.specs.Listing.{bodies_text, cipher_text, total_text, order_text, answer_text, listing_of}

at-end-bodies : (k : ℕ) (cs : List CipherKind) (bs : List Body) (o : Order) → order_at_end k cs bs ≡ Ok o → o.bodies ≡ map ordered bs
at-end-bodies k [] bs o e = clash (cc)
at-end-bodies k (c ∷ cs) [] o e = clash (cc)
at-end-bodies k (c ∷ cs) (b ∷ bs) o e =
    let q : record { cipher = c; bodies = map ordered (b ∷ bs) } ≡ o = cc in sym (ap (λ (x : Order). x.bodies) q)

from-bodies : (earlier rest : List Line) (o : Order) → order_from earlier rest ≡ Ok o → o.bodies ≡ map ordered (bodies_in (earlier ++ rest))
from-bodies earlier [] o e =
    rw (append-nil earlier) (at-end-bodies (length earlier + 1) (ciphers_in earlier) (bodies_in earlier) o e)
from-bodies earlier (l ∷ ls) o e =
    let next = (unless-ok (line_fault (length earlier + 1) earlier l) (order_from (earlier ++ l ∷ []) ls) o e).1 in
    rw append_assoc at (from-bodies (earlier ++ l ∷ []) ls o next)

-- an accepted sheet orders the bodies of its lines
pub order-bodies : (sheet : List ℕ) (o : Order) → order_of sheet ≡ Ok o → o.bodies ≡ map ordered (bodies_in (lines_of sheet))
order-bodies sheet o e =
    let bytes = (unless-ok (length_fault sheet) (unless (byte_fault (bad_line 1 sheet)) (order_from [] (lines_of sheet))) o e).1 in
    from-bodies [] (lines_of sheet) o (unless-ok (byte_fault (bad_line 1 sheet)) (order_from [] (lines_of sheet)) o bytes).1

-- what `check` answers comes from what the sheet orders
pub answer-order : (r : Result Order SheetFault) (checked : Checked) → map_ok summary r ≡ Ok checked → (o : Order) × (r ≡ Ok o) × (summary o ≡ checked)
answer-order (Ok o) checked e = (o, refl, cc)
answer-order (Err f) checked e = clash (cc)

parts-text : (o : Order) (checked : Checked) (kind : CipherKind) (bs : List BodyOrder) (before : List ℕ)
    → summary o ≡ checked → kind ≡ o.cipher → o.bodies ≡ bs
    → before ++ cipher_text kind ++ bodies_text (block_length kind) 1 bs ++ total_text checked.bodies checked.blocks ≡ before ++ order_text o
parts-text o checked kind bs before s k b = rw (← s, k, ← b) (simp append_assoc)

-- the parts that are written of an accepted sheet are its listing
pub parts-listing : (sheet : List ℕ) (checked : Checked) (kind : CipherKind) (before : List ℕ) → map_ok summary (order_of sheet) ≡ Ok checked
    → ((c : CipherKind) → checked.block_length ≡ block_length c → kind ≡ c)
    → before ++ cipher_text kind ++ bodies_text (block_length kind) 1 (map ordered (bodies_in (lines_of sheet))) ++ total_text checked.bodies checked.blocks
    ≡ before ++ listing_of sheet
parts-listing sheet checked kind before e h =
    let p = answer-order (order_of sheet) checked e in
    let k = h p.0.cipher (ap (λ (x : Checked). x.block_length) (sym p.2)) in
    parts-text p.0 checked kind (map ordered (bodies_in (lines_of sheet))) before p.2 k (order-bodies sheet p.0 p.1)
    ∙ ap (λ (r : Result Order SheetFault). before ++ answer_text r) (sym p.1)
