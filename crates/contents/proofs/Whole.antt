-- Whole contents: header, law, and the invariant of what is read.
use Rattle.std.proofs.Common.{◌≡◌, ℕ, ◌-◌, ◌<◌, ◌≤◌, true, List, [], ◌∷◌, length, get_or, take, drop, IfOk, Ok, Err, Result, sym, refl, ap, ◌∙◌, subst, arith}
use lib.ListN.{length-map}
use Rattle.std.proofs.lemmas.List.{take_rest}
use Rattle.sheet_format.specs.Orders.{map_ok}
use Rattle.sheet_format.specs.Sizes.{cipher_with, block_length}
use Rattle.sheet_format.specs.declared.CipherKind.{CipherKind}
use Rattle.contents_format.specs.BlockLengths.{with_bytes}
use Rattle.contents_format.specs.Reading.{SetOrder, bodies_from, is_frame, framed, contents_read}
use Rattle.contents_format.specs.declared.ContentsFault.{ContentsFault}
use Rattle.contents_laws.specs.Belonging.{ReadLaw}
use Rattle.contents_laws.proofs.Bodies.{walked}
use Rattle.contents_laws.proofs.Law.{frame-test, reading-keeps-law}
use Rattle.contents_laws.proofs.Sound.{sound_none}
use Rattle.contents.specs.Entries.{bodies_in, body_in, are_held, is_contents}
use Rattle.contents.specs.Models.{bytes_of, said_by}
use Rattle.contents.specs.declared.Contents.{Contents}
use Rattle.contents.specs.declared.entry.Entry.{Entry}
use Rattle.contents.proofs.Held.{all-bytes, contents-if}

-- entries that are read are contents
pub read-is-contents : (c : CipherKind) (edition count : ℕ) (xs : List ℕ) (es : List Entry) → true ≡ is_frame edition count xs
    → ((i : ℕ) → get_or xs i 0 < 256) → Ok (bodies_in (block_length c) es) ≡ bodies_from (block_length c) [] count xs
    → are_held (block_length c) es ≡ true → is_contents c es ≡ true
read-is-contents c edition count xs es frame small read held =
    let f = frame-test edition count xs (sym frame) in
    let few : count ≤ 32 = f.2 in
    let w = walked c [] count xs (bodies_in (block_length c) es) f.3 (all-bytes xs small) (sound_none (block_length c)) (omega arith) (sym read) in
    let many : length es ≡ count = sym (length-map es (body_in (block_length c))) ∙ ap length w.are ∙ w.many in
    contents-if c es (omega (arith, f.1)) (omega arith) held w.sound

-- contents of four bytes and more are those with that header
pub four-first : (xs : List ℕ) → 4 ≤ length xs
    → framed (get_or xs 0 0) (get_or xs 2 0) (cipher_with (get_or xs 1 0)) (with_bytes (get_or xs 3 0)) (drop 4 xs) ≡ contents_read xs
four-first [] h = absurd (let f : ⊥ = omega arith in f)
four-first (a ∷ []) h = absurd (let f : ⊥ = omega arith in f)
four-first (a ∷ b ∷ []) h = absurd (let f : ⊥ = omega arith in f)
four-first (a ∷ b ∷ c ∷ []) h = absurd (let f : ⊥ = omega arith in f)
four-first (a ∷ b ∷ c ∷ d ∷ xs) h = refl

pub header_read : (xs : List ℕ) (r : Result SetOrder ContentsFault) → 4 ≤ length xs
    → r ≡ framed (get_or xs 0 0) (get_or xs 2 0) (cipher_with (get_or xs 1 0)) (with_bytes (get_or xs 3 0)) (take (length xs - 4) (drop 4 xs)) → r ≡ contents_read xs
header_read xs r h e =
    e ∙ ap (λ (ys : List ℕ). framed (get_or xs 0 0) (get_or xs 2 0) (cipher_with (get_or xs 1 0)) (with_bytes (get_or xs 3 0)) ys) (take_rest xs 4) ∙ four-first xs h

pub read-law : (xs : List ℕ) (r : Result SetOrder ContentsFault) → ((i : ℕ) → get_or xs i 0 < 256) → r ≡ contents_read xs → ReadLaw xs r
read-law xs r small e = subst (ReadLaw xs) (sym e) (reading-keeps-law xs (all-bytes xs small))

-- what was read is written as it was
pub written_back : (xs : List ℕ) (r : Result Contents ContentsFault) → ReadLaw xs (map_ok said_by r) → IfOk r (λ c. bytes_of c ≡ xs)
written_back xs (Ok c) l = sym ((l.accepts (said_by c)).0 refl).are
written_back xs (Err d) l = tt
