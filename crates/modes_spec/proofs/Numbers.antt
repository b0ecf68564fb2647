-- Numbers in bytes, the highest first.
use Rattle.std.proofs.Common.{◌≡◌, ℕ, zero, suc, ◌+◌, ◌-◌, ◌*◌, ◌/◌, ◌%◌, ◌^◌, ◌<◌, ◌≤◌, List, [], ◌∷◌, ◌++◌, length, drop, set, sym, refl, ap, ◌∙◌, ap₂, pow-suc, arith}
use Rattle.std.proofs.lemmas.Nat.{field_of, mod-pow-add, mod_low}
use Rattle.std.proofs.ByRecursion.{All-append}
use Rattle.std.proofs.lemmas.List.{append-nil, append_assoc, drop_all, drop-set, same_from_push, length_push}
use Rattle.std.specs.Int.{byte_at, bytes_high_first}
use Rattle.std.proofs.Math.Nat.{div-div-eq-div-mul}
use Rattle.block.specs.Blocks.{Bytes}
use Rattle.modes_spec.specs.Texts.{big_endian}

pub length-big_endian : (k i : ℕ) → length (big_endian k i) ≡ k
unfolding big_endian
length-big_endian zero i = refl
length-big_endian (suc k) i = length_push (big_endian k (i / 256)) (i % 256) ∙ omega (arith, length-big_endian k (i / 256))

pub bytes-big_endian : (k i : ℕ) → Bytes (big_endian k i)
unfolding big_endian
bytes-big_endian zero i = tt
bytes-big_endian (suc k) i = All-append (λ x. x < 256) (big_endian k (i / 256)) (i % 256 ∷ []) (bytes-big_endian k (i / 256)) (omega arith, tt)

div-small : (i k : ℕ) → i < 256 ^ suc k → i / 256 < 256 ^ k
div-small i k h = let p : 256 ^ suc k ≡ 256 ^ k * 256 = pow-suc 256 k in let h2 : i < 256 ^ k * 256 = rw p at h in omega arith

-- numbers that fit are told apart by their bytes
pub same-from-big_endian : (k i j : ℕ) → i < 256 ^ k → j < 256 ^ k → big_endian k i ≡ big_endian k j → i ≡ j
unfolding big_endian
same-from-big_endian zero i j hi hj e = omega arith
same-from-big_endian (suc k) i j hi hj e =
    let p = same_from_push (big_endian k (i / 256)) (big_endian k (j / 256)) (i % 256) (j % 256) e in
    let q = same-from-big_endian k (i / 256) (j / 256) (div-small i k hi) (div-small j k hj) p.0 in
    omega (arith, p.1, q)

-- the same bytes as std writes them, from the highest on
byte-up : (k n : ℕ) → byte_at (suc k) n ≡ byte_at k (n / 256)
byte-up zero n = refl
byte-up (suc k) n =
    let p : 256 ^ suc (suc k) ≡ 256 * 256 ^ suc k = omega (arith, pow-suc 256 (suc k)) in
    ap (λ d. n / d % 256) p ∙ ap (λ q. q % 256) (sym (div-div-eq-div-mul n 256 (256 ^ suc k)))

high_first-push : (k n : ℕ) → bytes_high_first (suc k) n ≡ bytes_high_first k (n / 256) ++ (n % 256 ∷ [])
high_first-push zero n = refl
high_first-push (suc k) n = ap₂ (λ b l. b ∷ l) (byte-up k n) (high_first-push k n)

high_first-big_endian : (k n : ℕ) → bytes_high_first k n ≡ big_endian k n
unfolding big_endian
high_first-big_endian zero n = refl
high_first-big_endian (suc k) n = high_first-push k n ∙ ap (λ l. l ++ (n % 256 ∷ [])) (high_first-big_endian k (n / 256))

drop-high_first : (j m n : ℕ) → j ≤ m → drop j (bytes_high_first m n) ≡ bytes_high_first (m - j) n
drop-high_first zero m n h = let e : m ≡ m - 0 = omega arith in ap (λ k. bytes_high_first k n) e
drop-high_first (suc j) zero n h = absurd (omega arith)
drop-high_first (suc j) (suc m) n h =
    let e : m - j ≡ suc m - suc j = omega arith in
    drop-high_first j m n (omega arith) ∙ ap (λ k. bytes_high_first k n) e

-- the last k of the 8 bytes of a number
pub last-bytes : (k n : ℕ) → k ≤ 8 → drop (8 - k) (bytes_high_first 8 n) ≡ big_endian k n
last-bytes k n h =
    let e : 8 - (8 - k) ≡ k = omega arith in
    drop-high_first (8 - k) 8 n (omega arith) ∙ ap (λ x. bytes_high_first x n) e ∙ high_first-big_endian k n

-- k bytes show a number modulo 256^j, for k up to j
pub big_endian-mod : (k j i : ℕ) → k ≤ j → big_endian k (i % 2 ^ (8 * j)) ≡ big_endian k i
unfolding big_endian
big_endian-mod zero j i h = refl
big_endian-mod (suc k) zero i h = absurd (omega arith)
big_endian-mod (suc k) (suc j) i h =
    let e : 8 * suc j ≡ 8 * j + 8 = omega arith in
    let high : i % 2 ^ (8 * suc j) / 256 ≡ i / 256 % 2 ^ (8 * j) = ap (λ (x : ℕ). i % 2 ^ x / 256) e ∙ field_of i (8 * j) 8 in
    let low : i % 2 ^ (8 * suc j) % 256 ≡ i % 256 =
    ap (λ (x : ℕ). i % 2 ^ x % 256) e ∙ ap (λ (x : ℕ). x % 256) (mod-pow-add i (8 * j) 8) ∙ mod_low (i / 2 ^ 8 % 2 ^ (8 * j)) 8 (i % 2 ^ 8) (omega arith) in
    ap₂ (λ (a b : ℕ). big_endian k a ++ (b ∷ [])) high low
    ∙ ap (λ (l : List ℕ). l ++ (i % 256 ∷ [])) (big_endian-mod k j (i / 256) (omega arith))
