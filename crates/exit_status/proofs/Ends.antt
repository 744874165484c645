-- How a run ends, by its status and by the answer.
use Rattle.std.proofs.Common.{◌≡◌, ◌⊎◌, inl, inr, Option, Some, None, refl, sym, ◌∙◌, ap}
use Rattle.std.specs.Prelude.{unwrap_or}
use Rattle.command_runner.specs.Answer.{Answer, refusal_of}
use Rattle.command_runner.specs.declared.refusals.Refusal.{Refusal}
use Rattle.command_runner.specs.declared.refusals.Refusal.TheVariants.{Usage, ReadFault, WriteFault, OutOfMemory, Input}
use Rattle.exit_status.specs.Statuses.{status_of, answer_status, end_without_numbers}
use Rattle.exit_status.specs.declared.cause.Cause.{Cause}
use Rattle.exit_status.specs.declared.cause.Cause.TheVariants.{SpcLength, SpcSignature, TableLength, BrrLength, WavForm, EncodeSize, InputTooLong, AsmLine, CodeLength, CutList, Script}

-- a status without numbers shows its end
pub plain_is : (r p : Option (Refusal Cause)) → end_without_numbers (status_of r) ≡ Some p → r ≡ p
plain_is None p h = cc
plain_is (Some Usage) p h = cc
plain_is (Some ReadFault) p h = cc
plain_is (Some WriteFault) p h = cc
plain_is (Some OutOfMemory) p h = cc
plain_is (Some (Input (SpcLength n))) p h = absurd (cc)
plain_is (Some (Input (SpcSignature at))) p h = absurd (cc)
plain_is (Some (Input (TableLength n))) p h = absurd (cc)
plain_is (Some (Input (BrrLength n))) p h = absurd (cc)
plain_is (Some (Input WavForm)) p h = cc
plain_is (Some (Input (EncodeSize n))) p h = absurd (cc)
plain_is (Some (Input InputTooLong)) p h = cc
plain_is (Some (Input (AsmLine line fault))) p h = absurd (cc)
plain_is (Some (Input (CodeLength n origin))) p h = absurd (cc)
plain_is (Some (Input (CutList line))) p h = absurd (cc)
plain_is (Some (Input (Script line))) p h = absurd (cc)

-- an end is that of the answer, or one of three others
abbrev pub IsEnd : {C : Type 0} → Option (Refusal C) → Answer C → Type 0
IsEnd r a = (r ≡ refusal_of a) ⊎ ((r ≡ Some ReadFault) ⊎ ((r ≡ Some WriteFault) ⊎ (r ≡ Some OutOfMemory)))

-- the end of a refused input is that of the answer
input_end : (cause : Cause) (a : Answer Cause) → IsEnd (Some (Input cause)) a → refusal_of a ≡ Some (Input cause)
input_end cause a (inl same) = sym same
input_end cause a (inr (inl wrong)) = absurd (cc)
input_end cause a (inr (inr (inl wrong))) = absurd (cc)
input_end cause a (inr (inr (inr wrong))) = absurd (cc)

-- with the numbers of the answer
pub line_end : (r : Option (Refusal Cause)) (a : Answer Cause) → IsEnd r a → unwrap_or (end_without_numbers (status_of r)) (refusal_of a) ≡ r
line_end None a end = refl
line_end (Some Usage) a end = refl
line_end (Some ReadFault) a end = refl
line_end (Some WriteFault) a end = refl
line_end (Some OutOfMemory) a end = refl
line_end (Some (Input (SpcLength n))) a end = input_end (SpcLength n) a end
line_end (Some (Input (SpcSignature at))) a end = input_end (SpcSignature at) a end
line_end (Some (Input (TableLength n))) a end = input_end (TableLength n) a end
line_end (Some (Input (BrrLength n))) a end = input_end (BrrLength n) a end
line_end (Some (Input WavForm)) a end = refl
line_end (Some (Input (EncodeSize n))) a end = input_end (EncodeSize n) a end
line_end (Some (Input InputTooLong)) a end = refl
line_end (Some (Input (AsmLine line fault))) a end = input_end (AsmLine line fault) a end
line_end (Some (Input (CodeLength n origin))) a end = input_end (CodeLength n origin) a end
line_end (Some (Input (CutList line))) a end = input_end (CutList line) a end
line_end (Some (Input (Script line))) a end = input_end (Script line) a end

-- an end that has the status of the answer is the answer's
pub same_end : (r : Option (Refusal Cause)) (a : Answer Cause) → IsEnd r a → status_of r ≡ answer_status a → r ≡ refusal_of a
same_end r a (inl same) equal = same
same_end r a (inr (inl is)) equal = is ∙ sym (plain_is (refusal_of a) (Some ReadFault) (ap end_without_numbers (sym equal ∙ ap status_of is)))
same_end r a (inr (inr (inl is))) equal = is ∙ sym (plain_is (refusal_of a) (Some WriteFault) (ap end_without_numbers (sym equal ∙ ap status_of is)))
same_end r a (inr (inr (inr is))) equal = is ∙ sym (plain_is (refusal_of a) (Some OutOfMemory) (ap end_without_numbers (sym equal ∙ ap status_of is)))
