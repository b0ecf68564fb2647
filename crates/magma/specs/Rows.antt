-- t half byte by half byte from the highest down, and the rotation.
use Rattle.std.specs.Prelude.{◌≡◌, ℕ, zero, suc, ◌+◌, ◌-◌, ◌*◌, ◌/◌, ◌%◌, ◌^◌, ◌<◌, ◌≤◌, List, [], ◌∷◌, length, drop, bit_and, bit_or, slice_index, slice_index_or, refl}
use Rattle.std.proofs.Common.{ap, ◌∙◌, add-one, div-one, arith, length-drop, pow_mono, drop-cons, lit<, rules}
use Rattle.std.proofs.Math.Nat.{mul-mod_left}
use Rattle.std.specs.List.{AllByRecursion}
use Rattle.std.proofs.lemmas.Nat.{shr-shr, shr_below, shl-shr, mod-pow-add, pow-add, shl_whole, or_shifted, and_mask}
use Rattle.magma.specs.Magma.{rows, row_at, substituted, t, rotated, g}

-- each number of a row is below sixteen
abbrev pub Small : List ℕ → Type 0
Small r = AllByRecursion (λ x. x < 16) r

pub row_small : (r : List ℕ) (x : ℕ) → Small r → slice_index r x < 16
row_small [] x h = omega arith
row_small (y ∷ r) zero h = h.0
row_small (y ∷ r) (suc x) h = row_small r x h.1

pub of-rows-small : (rs : List (List ℕ)) (i : ℕ) → AllByRecursion Small rs → Small (slice_index_or rs i [])
of-rows-small [] i h = tt
of-rows-small (r ∷ rs) zero h = h.0
of-rows-small (r ∷ rs) (suc i) h = of-rows-small rs i h.1

pub rows-small : AllByRecursion Small rows
unfolding rows
rows-small = search rules

pub row_at-small : (i x : ℕ) → row_at i x < 16
row_at-small i x = row_small (slice_index_or rows i []) x (of-rows-small rows i rows-small)

step : (rs : List (List ℕ)) (a i : ℕ) → i < length rs
    → substituted (drop i rs) (a / 2 ^ (4 * i))
    ≡ 16 * substituted (drop (i + 1) rs) (a / 2 ^ (4 * (i + 1))) + slice_index (slice_index_or rs i []) (a / 2 ^ (4 * i) % 16)
step rs a i h =
    let e : 4 * (i + 1) ≡ 4 * i + 4 = omega arith in
    rw (drop-cons rs i [], e, ← shr-shr a (4 * i) 4, add-one)

smalls-drop : (i : ℕ) (rs : List (List ℕ)) → AllByRecursion Small rs → AllByRecursion Small (drop i rs)
smalls-drop zero rs h = h
smalls-drop (suc i) [] h = tt
smalls-drop (suc i) (r ∷ rs) h = smalls-drop i rs h.1

pub substituted-below : (rs : List (List ℕ)) (a : ℕ) → AllByRecursion Small rs → substituted rs a < 2 ^ (4 * length rs)
substituted-below [] a h = lit< tt
substituted-below (r ∷ rs) a h =
    let e : 4 * suc (length rs) ≡ 4 * length rs + 4 = omega arith in
    let p : 2 ^ (4 * suc (length rs)) ≡ 2 ^ (4 * length rs) * 2 ^ 4 = ap (λ (k : ℕ). 2 ^ k) e ∙ pow-add 2 (4 * length rs) 4 in
    omega (arith, p, substituted-below rs (a / 16) h.1, row_small r (a % 16) h.0)

pub rows-length : length rows ≡ 8
unfolding rows
rows-length = refl

next' : (a j out b : ℕ) → j < 8 → out ≡ substituted (drop (j + 1) rows) (a / 2 ^ (4 * (j + 1)))
    → b ≡ row_at j (bit_and (a / 2 ^ (4 * j)) 15)
    → bit_or ((out * 16) % 2 ^ 32) b ≡ substituted (drop j rows) (a / 2 ^ (4 * j))
next' a j out b h e f =
    let small : j < length rows = rw rows-length h in
    let s = step rows a j small in
    let long : length (drop (j + 1) rows) ≡ 8 - (j + 1) = length-drop (j + 1) rows ∙ ap (λ (n : ℕ). n - (j + 1)) rows-length in
    let few : 4 * length (drop (j + 1) rows) ≤ 28 = omega arith in
    let within : substituted (drop (j + 1) rows) (a / 2 ^ (4 * (j + 1))) < 2 ^ (4 * length (drop (j + 1) rows)) =
    substituted-below (drop (j + 1) rows) (a / 2 ^ (4 * (j + 1))) (smalls-drop (j + 1) rows rows-small) in
    let lim : out < 2 ^ 28 = omega (arith, pow_mono few) in
    let m : b < 16 = rw f (row_at-small j (bit_and (a / 2 ^ (4 * j)) 15)) in
    let q : (out * 2 ^ 4) % 2 ^ 32 ≡ out * 2 ^ 4 = shl_whole out 28 4 32 lim (omega arith) in
    let o : bit_or (out * 2 ^ 4) b ≡ out * 2 ^ 4 + b = or_shifted out 4 b m in
    let w : bit_and (a / 2 ^ (4 * j)) 15 ≡ a / 2 ^ (4 * j) % 16 = and_mask (a / 2 ^ (4 * j)) 4 in
    ap (λ (x : ℕ). bit_or x b) q ∙ o ∙ omega (arith, s, ap (row_at j) w)

pub next : (a i out b : ℕ) → 0 < i → i ≤ 8 → out ≡ substituted (drop i rows) (a / 2 ^ (4 * i))
    → b ≡ row_at (i - 1) (bit_and (a / 2 ^ (4 * (i - 1))) 15)
    → bit_or ((out * 16) % 2 ^ 32) b ≡ substituted (drop (i - 1) rows) (a / 2 ^ (4 * (i - 1)))
next a i out b p h e f =
    let back : i ≡ i - 1 + 1 = omega arith in
    next' a (i - 1) out b (omega arith) (e ∙ ap (λ (k : ℕ). substituted (drop k rows) (a / 2 ^ (4 * k))) back) f

pub done : (a i out : ℕ) → i ≤ 0 → out ≡ substituted (drop i rows) (a / 2 ^ (4 * i)) → out ≡ t a
unfolding t
done a i out h e =
    let z : i ≡ 0 = omega arith in
    e ∙ ap (λ (k : ℕ). substituted (drop k rows) (a / 2 ^ (4 * k))) z ∙ ap (λ (x : ℕ). substituted rows x) (div-one a)

pub t-below : (a : ℕ) → t a < 2 ^ 32
unfolding t rows
t-below a = substituted-below rows a rows-small

rotated-below : (x : ℕ) → x < 2 ^ 32 → rotated x < 2 ^ 32
rotated-below x h =
    let m : (x * 2 ^ 11) % 2 ^ 32 ≡ (x % 2 ^ 21) * 2 ^ 11 =
    omega (arith, mod-pow-add (x * 2 ^ 11) 21 11, ap (λ (y : ℕ). y % 2 ^ 21) (shl-shr x 11), mul-mod_left x (2 ^ 11)) in
    omega (arith, m, shr_below x 11 21 h)

pub g-below : (k a : ℕ) → g k a < 2 ^ 32
unfolding g
g-below k a = rotated-below (t ((a + k) % 2 ^ 32)) (t-below ((a + k) % 2 ^ 32))
