-- Bytes that are decoded are not too many.
use Rattle.std.proofs.Common.{◌≡◌, ap, sym, ◌∙◌, ℕ, ◌≤◌, ◌%◌, ℤ, List, length, Ok, Err, Bool, true, false, refl}
use Rattle.std.specs.Prelude.{nat_lt, nat_le, ◌==◌, ◌&&◌, if◌then◌else◌}
use Rattle.std.proofs.lemmas.Bool.{and_parts, leb-true}
use Rattle.brr_decode.specs.Kept.{samples_of}
use Rattle.brr_decode.specs.Stream.{decoded_stream, is_stream_length, longest_stream}
use Rattle.brr_decode.specs.declared.stream.BrrRefusal.TheVariants.{Length}

pub length-decoded_stream : (bytes : List ℕ) (samples : List ℤ) → decoded_stream bytes ≡ Ok samples → length bytes ≤ 65529
unfolding decoded_stream
length-decoded_stream bytes samples is = by_test (is_stream_length (length bytes)) refl
  where
    by_test : (b : Bool) → is_stream_length (length bytes) ≡ b → length bytes ≤ 65529
    by_test true passed =
        let second = (and_parts (nat_lt 0 (length bytes)) (nat_le (length bytes) longest_stream && (length bytes % 9 == 0)) passed).1 in
        leb-true (length bytes) longest_stream (and_parts (nat_le (length bytes) longest_stream) (length bytes % 9 == 0) second).0
    by_test false passed =
        let wrong = sym (ap (λ (b : Bool). if b then Ok (samples_of bytes) else Err (Length (length bytes))) passed) ∙ is in absurd (cc)
