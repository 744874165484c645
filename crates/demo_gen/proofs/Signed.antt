-- The demo file begins with the signature.
use Rattle.std.proofs.Common.{◌≡◌, ◌∙◌, ℕ, ◌-◌, ◌≤◌, List, [], ◌++◌, length, take, None, Ok, arith, lit≤, length-append, refl}
use Rattle.std.specs.Prelude.{replicate, fold}
use Rattle.std.proofs.lemmas.List.{length-take}
use Rattle.std.proofs.Math.ListN.{length-replicate}
use Rattle.spc_form.specs.Accepted.{signature, first_difference, padded_to, kept_length, spc_file}
use Rattle.spc_form.proofs.Signatures.{first_difference-append, first_difference-padded_to}
use Rattle.spc_form.proofs.Padding.{read_again}
use Rattle.demo_gen.specs.Places.{with_part}
use Rattle.demo_gen.specs.Demo.{fields, front, parts, demo_bytes}

-- a list that is long enough for the signature, and has it
record IsSigned (bytes : List ℕ) : Type 0 where
  long : 27 ≤ length bytes
  signed : first_difference signature bytes ≡ None

length-padded_to : (n : ℕ) (bytes : List ℕ) → length (padded_to n bytes) ≡ n
length-padded_to n bytes = length-append (take n bytes) (replicate (n - length bytes) 0) ∙ rw (length-take, length-replicate) (omega arith)

IsSigned-append : (xs ys : List ℕ) → IsSigned xs → IsSigned (xs ++ ys)
IsSigned-append xs ys s = record {
  long = let l = s.long in rw (length-append xs ys) (omega arith);
  signed = first_difference-append signature xs ys s.long ∙ s.signed;
}

IsSigned-padded_to : (n : ℕ) (bytes : List ℕ) → 27 ≤ n → IsSigned bytes → IsSigned (padded_to n bytes)
IsSigned-padded_to n bytes wide s = record {
  long = rw (length-padded_to n bytes) wide;
  signed = first_difference-padded_to n signature bytes wide s.long ∙ s.signed;
}

IsSigned-with_part : (file : List ℕ) (place : ℕ) (part : List ℕ) → 27 ≤ place → IsSigned file → IsSigned (with_part file place part)
unfolding with_part
IsSigned-with_part file place part wide s = IsSigned-append (padded_to place file) part (IsSigned-padded_to place file wide s)

IsSigned-front : IsSigned (with_part [] 0 front)
unfolding with_part
IsSigned-front = record { long = lit≤ tt; signed = first_difference-append signature signature fields (lit≤ tt) ∙ refl }

IsSigned-demo_bytes : (number : ℕ) → IsSigned (demo_bytes number)
unfolding demo_bytes
IsSigned-demo_bytes number =
    IsSigned-padded_to kept_length _ (lit≤ tt)
    (IsSigned-with_part _ _ _ (lit≤ tt) (IsSigned-with_part _ _ _ (lit≤ tt) (IsSigned-with_part _ _ _ (lit≤ tt) (IsSigned-with_part _ _ _ (lit≤ tt)
    (IsSigned-with_part _ _ _ (lit≤ tt) (IsSigned-with_part _ _ _ (lit≤ tt) (IsSigned-with_part _ _ _ (lit≤ tt) (IsSigned-with_part _ _ _ (lit≤ tt) IsSigned-front))))))))

length-demo_bytes : (number : ℕ) → length (demo_bytes number) ≡ kept_length
unfolding demo_bytes
length-demo_bytes number = length-padded_to kept_length (fold (λ file part. with_part file part.0 part.1) [] (parts number))

-- what is read of the demo file's bytes is the demo file
demo_is_read : (number : ℕ) → spc_file (demo_bytes number) ≡ Ok (demo_bytes number)
demo_is_read number = read_again (demo_bytes number) (length-demo_bytes number) (IsSigned-demo_bytes number).signed

pub read_as_demo : (bytes : List ℕ) (number : ℕ) → bytes ≡ demo_bytes number → spc_file bytes ≡ Ok (demo_bytes number)
read_as_demo bytes number is = rw is (demo_is_read number)
