-- What is kept of a file.
use Rattle.std.proofs.Common.{◌≡◌, ◌∙◌, ℕ, ◌-◌, List, length, take, None, Result, Ok, Err, IfOk, refl, arith}
use Rattle.std.proofs.lemmas.List.{append-nil, take_all}
use Rattle.spc_form.specs.Accepted.{signature, first_difference, padded_bytes, padded_to, kept_length, spc_file}

-- as many bytes as are wanted stay as they are
padded_to-same : (n : ℕ) (bytes : List ℕ) → length bytes ≡ n → padded_to n bytes ≡ bytes
padded_to-same n bytes sized =
    let none : n - length bytes ≡ 0 = omega arith in
    rw none (append-nil (take n bytes) ∙ take_all n bytes (omega arith))

pub padded_bytes-same : (bytes : List ℕ) → length bytes ≡ kept_length → padded_bytes bytes ≡ bytes
unfolding padded_bytes
padded_bytes-same bytes sized = padded_to-same kept_length bytes sized

-- a file that was written is read again as itself
pub read_again : (file : List ℕ) → length file ≡ kept_length → first_difference signature file ≡ None → spc_file file ≡ Ok file
unfolding spc_file
read_again file sized signed = rw (sized, signed, padded_bytes-same file sized) refl

pub written_is_read_again : {V E : Type 0} (items : V → List ℕ) (result : Result V E) (file : List ℕ) → length file ≡ kept_length → first_difference signature file ≡ None
    → IfOk result (λ written. items written ≡ file) → IfOk result (λ written. spc_file (items written) ≡ Ok file)
written_is_read_again items (Ok written) file sized signed same = rw same (read_again file sized signed)
written_is_read_again items (Err failed) file sized signed same = tt
