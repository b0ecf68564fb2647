-- From the one computed test of a table to the rule of each of its entries.
use Rattle.std.proofs.Common.{◌≡◌, ℕ, ◌<◌, Bool, T, eqb, List, length, get_or, sym, ap, ◌∙◌, subst, zero-add, eqb→eq}
use Rattle.kuznyechik_spec.specs.Kuznyechik.{transform_l, inverse_l, substitutions, substitution}
use Rattle.kuznyechik_spec.specs.Tables.{round_entry, inverse_entry, Holds, number, byte_at}
use Rattle.kuznyechik_spec.proofs.Computed.{both, both_left, both_right, up_to, get_or-up_to}
use Rattle.kuznyechik_spec.proofs.Linear.{transform_l-block, transform_l-xor, inverse_l-block, inverse_l-xor}
use Rattle.kuznyechik_spec.proofs.Cipher.{substitution-lt}
use Rattle.kuznyechik_spec.proofs.Places.{rows_ok, table_at}

abbrev pub round_test : List (List ℕ) → Bool
round_test t = both (eqb (length t) 16) (rows_ok transform_l substitutions 0 t)

abbrev pub inverse_test : List (List ℕ) → Bool
inverse_test t = both (eqb (length t) 16) (rows_ok inverse_l (up_to 256 0) 0 t)

pub round-tested : (t : List (List ℕ)) → T (round_test t) → Holds round_entry t
unfolding round_entry substitution substitutions
round-tested t test =
    let n : length t ≡ 16 = eqb→eq (length t) 16 (both_left (eqb (length t) 16) (rows_ok transform_l substitutions 0 t) test) in
    let rows : T (rows_ok transform_l substitutions 0 t) = both_right (eqb (length t) 16) (rows_ok transform_l substitutions 0 t) test in
    record { at = λ p v h k. table_at transform_l transform_l-block transform_l-xor substitutions t rows p v (subst (λ m. p < m) (sym n) h) k (substitution-lt v k) }

pub inverse-tested : (t : List (List ℕ)) → T (inverse_test t) → Holds inverse_entry t
unfolding inverse_entry
inverse-tested t test =
    let n : length t ≡ 16 = eqb→eq (length t) 16 (both_left (eqb (length t) 16) (rows_ok inverse_l (up_to 256 0) 0 t) test) in
    let rows : T (rows_ok inverse_l (up_to 256 0) 0 t) = both_right (eqb (length t) 16) (rows_ok inverse_l (up_to 256 0) 0 t) test in
    record {
      at = λ p v h k.
          let is : get_or (up_to 256 0) v 0 ≡ v = get_or-up_to 256 0 v k ∙ zero-add v in
          table_at inverse_l inverse_l-block inverse_l-xor (up_to 256 0) t rows p v (subst (λ m. p < m) (sym n) h) k (subst (λ m. m < 256) (sym is) k)
          ∙ ap (λ y. number 0 (inverse_l (byte_at 16 p y))) is;
    }
