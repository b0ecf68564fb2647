-- Each test of a line decides whether its fault meets the line.
use Rattle.std.proofs.Common.{◌≡◌, ℕ, ◌<◌, ◌≤◌, Bool, true, false, not, ◌&&◌, ◌||◌, eqb, ltb, leb, ◌⊎◌, List, [], ◌∷◌, ◌++◌, map, length, Some, None, Decides, refl, subst, inl, inr, ⊎_elim}
use Rattle.std.proofs.ByRecursion.{has_get_or, Decides-by_and}
use Rattle.std.proofs.lemmas.Slice.Eq.{bytes_eq-Decides}
use Rattle.std.proofs.lemmas.Bool.{leb-true, le-leb}
use Rattle.std.proofs.lemmas.Bool.Decides.{not_from_Decides, Decides-like, Decides-not, Decides-and, Decides-or, Decides-eqb, Decides-ltb, Decides-by_or}
use Rattle.std.specs.List.{HoldsAt, ContainsAt as Has, AllByRecursion}
use Rattle.std.specs.Str.{bytes_eq}
use Rattle.sheet_format.specs.Lines.{Body, blank, comment, cipher, body, Line}
use Rattle.sheet_format.specs.Orders.{cipher_named, ciphers_in, bodies_in, counts, none_counts, is_empty, of_body, of_first, no_form, misplaced_cipher, too_many_bodies, bad_length, wrong_start_digits, has_name, name_taken, is_ctr, has_ctr_start, start_taken, too_many_blocks, ordered, total_blocks, is_allowed}
use Rattle.sheet_format.specs.Sizes.{block_length, start_digits}
use Rattle.sheet_format.specs.declared.CipherKind.{CipherKind}
use Rattle.sheet_format.specs.declared.Mode.{Mode}
use Rattle.sheet_format.specs.declared.Mode.TheVariants.{Ctr, Cbc}
use Rattle.sheet_laws.specs.Meets.{Allowed, PassedOver, IsCipher, IsBody, SheetCipher, MisplacedAt, BodyCountAt, BadLengthAt, StartDigitsAt, RepeatedNameAt, RepeatedStartAt, TooManyBlocksAt}
use Rattle.sheet_laws.proofs.Clash.{clash}

-- what holds, and what does not
yes : {P : Type 0} → P → Decides true P
yes p = (λ _. p, λ _. refl)

no : {P : Type 0} → (P → ⊥) → Decides false P
no n = (λ e. clash (cc), λ p. absurd (n p))

decides-leb : (a b : ℕ) → Decides (leb a b) (a ≤ b)
decides-leb a b = (leb-true a b, le-leb a b)

pub allowed-decides : (x : ℕ) → Decides (is_allowed x) (Allowed x)
allowed-decides x =
    Decides-or (eqb x 10) (leb 32 x && leb x 126) (Decides-eqb x 10)
    (Decides-and (leb 32 x) (leb x 126) (decides-leb 32 x) (decides-leb x 126))

pub no-form : (l : Line) → Decides (no_form l) (l ≡ None)
no-form None = yes refl
no-form (Some f) = no (λ e. clash (cc))

-- blank lines and comments do not count
passed_over : (l : Line) → Decides (not (counts l)) (PassedOver l)
passed_over None = no (⊎_elim (λ e. clash (cc)) (λ e. clash (cc)))
passed_over (Some blank) = yes (inl refl)
passed_over (Some comment) = yes (inr refl)
passed_over (Some (cipher c)) = no (⊎_elim (λ e. clash (cc)) (λ e. clash (cc)))
passed_over (Some (body b)) = no (⊎_elim (λ e. clash (cc)) (λ e. clash (cc)))

none-counts : (lines : List Line) → Decides (none_counts lines) (AllByRecursion PassedOver lines)
none-counts = Decides-by_and (λ l. not (counts l)) PassedOver none_counts passed_over refl (λ _ _. refl)

-- a test of the body that a line names
of-body : (l : Line) (test : Body → Bool) (Q : Body → Type 0) → ((b : Body) → Decides (test b) (Q b))
    → Decides (of_body l test) ((b : Body) × IsBody l b × Q b)
of-body None test Q each = no (λ p. clash (cc))
of-body (Some blank) test Q each = no (λ p. clash (cc))
of-body (Some comment) test Q each = no (λ p. clash (cc))
of-body (Some (cipher c)) test Q each = no (λ p. clash (cc))
of-body (Some (body b)) test Q each =
    Decides-like (test b) (λ q. (b, refl, q)) (λ p. let e = p.1 in let s : p.0 ≡ b = cc in subst Q s p.2) (each b)

-- a test of the first cipher of several
of-first : (cs : List CipherKind) (test : CipherKind → Bool) (Q : CipherKind → Type 0) → ((c : CipherKind) → Decides (test c) (Q c))
    → Decides (of_first cs test) ((c : CipherKind) × ((more : List CipherKind) × (cs ≡ c ∷ more)) × Q c)
of-first [] test Q each = no (λ p. clash (cc))
of-first (c ∷ cs) test Q each =
    Decides-like (test c) (λ q. (c, (cs, refl), q)) (λ p. let e = p.1.1 in let s : p.0 ≡ c = cc in subst Q s p.2) (each c)

-- a line like this stands somewhere among the lines
line-among : {A : Type 0} (line : A → Line) (Q : A → Type 0) (lines : List Line) (t : Bool)
    → Decides t ((k : ℕ) × (k < length lines) × HoldsAt (λ l. (a : A) × (l ≡ line a) × Q a) lines k)
    → Decides t ((a : A) × Has lines (line a) × Q a)
line-among line Q lines t d =
    Decides-like t
    (λ p. let q = p.2 None in (q.0, subst (Has lines) q.1 (has_get_or lines p.0 None p.1), q.2))
    (λ p. (p.1.0, p.1.1, λ def. (p.0, p.1.2 def, p.2)))
    d

names-cipher : (l : Line) → Decides (not (is_empty (cipher_named l))) ((d : CipherKind) × IsCipher l d × Unit {0})
names-cipher None = no (λ p. clash (cc))
names-cipher (Some blank) = no (λ p. clash (cc))
names-cipher (Some comment) = no (λ p. clash (cc))
names-cipher (Some (cipher c)) = yes (c, refl, tt)
names-cipher (Some (body b)) = no (λ p. clash (cc))

cipher-more : (l : Line) (ls : List Line) → not (is_empty (ciphers_in (l ∷ ls))) ≡ (not (is_empty (cipher_named l)) || not (is_empty (ciphers_in ls)))
cipher-more None ls = refl
cipher-more (Some blank) ls = refl
cipher-more (Some comment) ls = refl
cipher-more (Some (cipher c)) ls = refl
cipher-more (Some (body b)) ls = refl

cipher-among : (lines : List Line) → Decides (not (is_empty (ciphers_in lines))) ((d : CipherKind) × Has lines (Some (cipher d)) × Unit {0})
cipher-among lines =
    line-among (λ d. Some (cipher d)) (λ _. Unit {0}) lines (not (is_empty (ciphers_in lines)))
    (Decides-by_or (λ l. not (is_empty (cipher_named l))) (λ l. (d : CipherKind) × IsCipher l d × Unit {0})
    (λ ls. not (is_empty (ciphers_in ls))) names-cipher refl cipher-more lines)

-- a body like this stands somewhere among the lines: `some` is a test of several bodies, `test` of one
body_more : (test : Body → Bool) (some : List Body → Bool) → ((b : Body) (bs : List Body) → some (b ∷ bs) ≡ (test b || some bs))
    → (l : Line) (ls : List Line) → some (bodies_in (l ∷ ls)) ≡ (of_body l test || some (bodies_in ls))
body_more test some more None ls = refl
body_more test some more (Some blank) ls = refl
body_more test some more (Some comment) ls = refl
body_more test some more (Some (cipher c)) ls = refl
body_more test some more (Some (body b)) ls = more b (bodies_in ls)

body-among : (test : Body → Bool) (some : List Body → Bool) (Q : Body → Type 0)
    → some [] ≡ false → ((b : Body) (bs : List Body) → some (b ∷ bs) ≡ (test b || some bs)) → ((b : Body) → Decides (test b) (Q b))
    → (lines : List Line) → Decides (some (bodies_in lines)) ((e : Body) × Has lines (Some (body e)) × Q e)
body-among test some Q none more each lines =
    line-among (λ e. Some (body e)) Q lines (some (bodies_in lines))
    (Decides-by_or (λ l. of_body l test) (λ l. (b : Body) × IsBody l b × Q b)
    (λ ls. some (bodies_in ls)) (λ l. of-body l test Q each) none (body_more test some more) lines)

name-among : (name : List ℕ) (lines : List Line)
    → Decides (has_name name (bodies_in lines)) ((e : Body) × Has lines (Some (body e)) × (e.name ≡ name))
name-among name =
    body-among (λ e. bytes_eq e.name name) (has_name name) (λ e. e.name ≡ name) refl (λ _ _. refl) (λ e. bytes_eq-Decides e.name name)

pub is-ctr : (m : Mode) → Decides (is_ctr m) (m ≡ Ctr)
is-ctr Ctr = yes refl
is-ctr Cbc = no (λ e. clash (cc))

pub ctr-start : (start : List ℕ) (e : Body) → Decides (is_ctr e.mode && bytes_eq e.start start) ((e.mode ≡ Ctr) × (e.start ≡ start))
ctr-start start e = Decides-and (is_ctr e.mode) (bytes_eq e.start start) (is-ctr e.mode) (bytes_eq-Decides e.start start)

start-among : (start : List ℕ) (lines : List Line)
    → Decides (has_ctr_start start (bodies_in lines)) ((e : Body) × Has lines (Some (body e)) × ((e.mode ≡ Ctr) × (e.start ≡ start)))
start-among start =
    body-among (λ e. is_ctr e.mode && bytes_eq e.start start) (has_ctr_start start) (λ e. (e.mode ≡ Ctr) × (e.start ≡ start)) refl (λ _ _. refl)
    (ctr-start start)

-- a line that counts and is no cipher line is misplaced where all before it are passed over
misplaced-first : (earlier : List Line) (l : Line) → (PassedOver l → ⊥) → ((c : CipherKind) → IsCipher l c → ⊥)
    → Decides (none_counts earlier) (MisplacedAt earlier l)
misplaced-first earlier l counted other =
    Decides-like (none_counts earlier)
    (λ all. inl (all, counted, other))
    (⊎_elim (λ p. p.0) (λ p. absurd (other p.0 p.2)))
    (none-counts earlier)

pub misplaced : (earlier : List Line) (l : Line) → Decides (misplaced_cipher earlier l) (MisplacedAt earlier l)
misplaced earlier None =
    misplaced-first earlier None (not_from_Decides false (passed_over None) refl) (λ c e. clash (cc))
misplaced earlier (Some blank) = no (⊎_elim (λ p. p.1 (inl refl)) (λ p. clash (cc)))
misplaced earlier (Some comment) = no (⊎_elim (λ p. p.1 (inr refl)) (λ p. clash (cc)))
misplaced earlier (Some (cipher c)) =
    Decides-like (not (is_empty (ciphers_in earlier)))
    (λ p. inr (c, p.0, refl, p.1))
    (⊎_elim (λ p. absurd (p.2 c refl)) (λ p. (p.1, p.3, tt)))
    (cipher-among earlier)
misplaced earlier (Some (body b)) =
    misplaced-first earlier (Some (body b)) (not_from_Decides false (passed_over (Some (body b))) refl) (λ c e. clash (cc))

pub too-many-bodies : (earlier : List Line) (l : Line) → Decides (too_many_bodies earlier l) (BodyCountAt earlier l)
too-many-bodies earlier l =
    of-body l (λ _. leb 32 (length (bodies_in earlier))) (λ _. 32 ≤ length (bodies_in earlier)) (λ _. decides-leb 32 (length (bodies_in earlier)))

is_true : (t : Bool) → Decides t (t ≡ true)
is_true t = (λ e. e, λ e. e)

pub bad-length : (earlier : List Line) (l : Line) → Decides (bad_length l) (BadLengthAt earlier l)
bad-length earlier l =
    of-body l (λ b. ltb 1048576 b.len.value || b.len.padded) (λ b. (1048576 < b.len.value) ⊎ (b.len.padded ≡ true))
    (λ b. Decides-or (ltb 1048576 b.len.value) b.len.padded (Decides-ltb 1048576 b.len.value) (is_true b.len.padded))

-- a test of the body that a line names, under the cipher that the lines before it name
of-body-and-cipher : (earlier : List Line) (l : Line) (test : Body → CipherKind → Bool) (Q : Body → CipherKind → Type 0)
    → ((b : Body) (c : CipherKind) → Decides (test b c) (Q b c))
    → Decides (of_body l (λ b. of_first (ciphers_in earlier) (test b))) ((b : Body) × (c : CipherKind) × IsBody l b × SheetCipher earlier c × Q b c)
of-body-and-cipher earlier l test Q each =
    Decides-like (of_body l (λ b. of_first (ciphers_in earlier) (test b)))
    (λ p. (p.0, p.2.0, p.1, p.2.1, p.2.2))
    (λ p. (p.0, p.2, (p.1, p.3, p.4)))
    (of-body l (λ b. of_first (ciphers_in earlier) (test b)) (λ b. (c : CipherKind) × SheetCipher earlier c × Q b c)
    (λ b. of-first (ciphers_in earlier) (test b) (Q b) (each b)))

pub wrong-start-digits : (earlier : List Line) (l : Line) → Decides (wrong_start_digits earlier l) (StartDigitsAt earlier l)
wrong-start-digits earlier l =
    of-body-and-cipher earlier l
    (λ b c. not (eqb (length b.start) (start_digits b.mode (block_length c))))
    (λ b c. length b.start ≡ start_digits b.mode (block_length c) → ⊥)
    (λ b c. Decides-not (eqb (length b.start) (start_digits b.mode (block_length c)))
    (Decides-eqb (length b.start) (start_digits b.mode (block_length c))))

pub too-many-blocks : (earlier : List Line) (l : Line) → Decides (too_many_blocks earlier l) (TooManyBlocksAt earlier l)
too-many-blocks earlier l =
    of-body-and-cipher earlier l
    (λ b c. ltb 1000000 (total_blocks (block_length c) (map ordered (bodies_in earlier ++ b ∷ []))))
    (λ b c. 1000000 < total_blocks (block_length c) (map ordered (bodies_in earlier ++ b ∷ [])))
    (λ b c. Decides-ltb 1000000 (total_blocks (block_length c) (map ordered (bodies_in earlier ++ b ∷ []))))

pub name-taken : (earlier : List Line) (l : Line) → Decides (name_taken earlier l) (RepeatedNameAt earlier l)
name-taken earlier l =
    Decides-like (name_taken earlier l)
    (λ p. (p.0, p.2.0, p.1, p.2.1, p.2.2))
    (λ p. (p.0, p.2, (p.1, p.3, p.4)))
    (of-body l (λ b. has_name b.name (bodies_in earlier)) (λ b. (e : Body) × Has earlier (Some (body e)) × (e.name ≡ b.name))
    (λ b. name-among b.name earlier))

pub start-taken : (earlier : List Line) (l : Line) → Decides (start_taken earlier l) (RepeatedStartAt earlier l)
start-taken earlier l =
    Decides-like (start_taken earlier l)
    (λ p. (p.0, p.2.1.0, p.1, p.2.1.1, p.2.0, p.2.1.2.0, p.2.1.2.1))
    (λ p. (p.0, p.2, (p.4, (p.1, p.3, (p.5, p.6)))))
    (of-body l (λ b. is_ctr b.mode && has_ctr_start b.start (bodies_in earlier))
    (λ b. (b.mode ≡ Ctr) × ((e : Body) × Has earlier (Some (body e)) × ((e.mode ≡ Ctr) × (e.start ≡ b.start))))
    (λ b. Decides-and (is_ctr b.mode) (has_ctr_start b.start (bodies_in earlier)) (is-ctr b.mode) (start-among b.start earlier)))
