-- From the one computed test of the wide table to the rule of each of its entries.
use Rattle.std.proofs.Common.{◌≡◌, ℕ, zero, suc, ◌+◌, ◌<◌, Bool, true, false, T, eqb, List, [], ◌∷◌, length, get_or, sym, ap, ◌∙◌, add-zero, zero-add, arith, eqb→eq}
use Rattle.magma.specs.Tables.{wide_entry, Holds}

abbrev both : Bool → Bool → Bool
both true b = b
both false b = false

both_left : (a b : Bool) → T (both a b) → T a
both_left true b t = tt
both_left false b t = t

both_right : (a b : Bool) → T (both a b) → T b
both_right true b t = t
both_right false b t = absurd t

-- the entries of place p, from value v on
abbrev entries_test : ℕ → ℕ → List ℕ → Bool
entries_test p v [] = true
entries_test p v (x ∷ xs) = both (eqb x (wide_entry p v)) (entries_test p (suc v) xs)

-- 256 entries at each place from p on
abbrev places_test : ℕ → List (List ℕ) → Bool
places_test p [] = true
places_test p (r ∷ rs) = both (eqb (length r) 256) (both (entries_test p 0 r) (places_test (suc p) rs))

abbrev pub wide_test : List (List ℕ) → Bool
wide_test table = both (eqb (length table) 4) (places_test 0 table)

entry_at : (p v : ℕ) (xs : List ℕ) → T (entries_test p v xs) → (k : ℕ) → k < length xs → get_or xs k 0 ≡ wide_entry p (v + k)
entry_at p v [] h k l = absurd (omega arith)
entry_at p v (x ∷ xs) h zero l =
    eqb→eq x (wide_entry p v) (both_left (eqb x (wide_entry p v)) (entries_test p (suc v) xs) h) ∙ ap (wide_entry p) (sym (add-zero v))
entry_at p v (x ∷ xs) h (suc k) l =
    let e : suc v + k ≡ v + suc k = omega arith in
    entry_at p (suc v) xs (both_right (eqb x (wide_entry p v)) (entries_test p (suc v) xs) h) k (omega arith) ∙ ap (wide_entry p) e

place_at : (p : ℕ) (rs : List (List ℕ)) → T (places_test p rs) → (q v : ℕ) → q < length rs → v < 256
    → get_or (get_or rs q []) v 0 ≡ wide_entry (p + q) v
place_at p [] h q v l m = absurd (omega arith)
place_at p (r ∷ rs) h zero v l m =
    let rest = both_right (eqb (length r) 256) (both (entries_test p 0 r) (places_test (suc p) rs)) h in
    let n : length r ≡ 256 = eqb→eq (length r) 256 (both_left (eqb (length r) 256) (both (entries_test p 0 r) (places_test (suc p) rs)) h) in
    let e : p ≡ p + 0 = omega arith in
    entry_at p 0 r (both_left (entries_test p 0 r) (places_test (suc p) rs) rest) v (omega arith)
    ∙ ap (wide_entry p) (zero-add v) ∙ ap (λ (j : ℕ). wide_entry j v) e
place_at p (r ∷ rs) h (suc q) v l m =
    let rest = both_right (eqb (length r) 256) (both (entries_test p 0 r) (places_test (suc p) rs)) h in
    let e : suc p + q ≡ p + suc q = omega arith in
    place_at (suc p) rs (both_right (entries_test p 0 r) (places_test (suc p) rs) rest) q v (omega arith) m ∙ ap (λ (j : ℕ). wide_entry j v) e

-- a table that passes the test holds the rule at every place and value
pub tested : (table : List (List ℕ)) → T (wide_test table) → Holds table
tested table h =
    let n : length table ≡ 4 = eqb→eq (length table) 4 (both_left (eqb (length table) 4) (places_test 0 table) h) in
    record {
      at = λ p v l m.
          place_at 0 table (both_right (eqb (length table) 4) (places_test 0 table) h) p v (omega arith) m
          ∙ ap (λ (j : ℕ). wide_entry j v) (zero-add p);
    }
