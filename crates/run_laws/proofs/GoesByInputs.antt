-- What a command answers depends on its inputs alone: each is taken up to its limit, of a longer one one byte more is enough to refuse it, and the answer is
-- that of the first refusal. So it is of one that is read alone, and of one that others are read after.
use Rattle.std.proofs.Common.{◌≡◌, inl, inr, ℕ, ◌+◌, Bool, true, false, List, [], ◌∷◌, Some, None, length, take, refl, sym, ap, ◌∙◌, arith, if◌then◌else◌, length-take}
use Rattle.std.specs.Prelude.{Option, Result, Ok, Err, ℤ, is_ok, nat_lt}
use Rattle.std.proofs.lemmas.Bool.Decides.{nat_tests}
use Rattle.std.proofs.lemmas.List.{take_all}
use Rattle.snd_host.proofs.Taking.{either}
use Rattle.command_runner.specs.Answer.{Answer}
use Rattle.command_runner.specs.NamedInputs.{NamedInput, Held, first, second, later}
use Rattle.command_runner.specs.declared.refusals.Refusal.{Refusal}
use Rattle.command_runner.specs.declared.refusals.Refusal.TheVariants.{ReadFault, Input}
use Rattle.input_files.specs.Reading.{input_limit, wave_limit, bytes_in, value_from, answer_from, input_up_to}
use Rattle.input_files.specs.Inputs.{spc_input, table_input, file_of, file_in, table_of, table_in}
use Rattle.exit_status.specs.declared.cause.Cause.{Cause}
use Rattle.exit_status.specs.declared.cause.Cause.TheVariants.{SpcLength, InputTooLong}
use Rattle.command_line.specs.Command.{Command, usage, help, version, brr, info, encode, render, demo, check, asm, dis, rip, cuts, serve}
use Rattle.command_brr.specs.Brr.{decoding_answer}
use Rattle.command_info.specs.Info.{fields_answer}
use Rattle.command_encode.specs.Encode.{wave_answer}
use Rattle.command_asm.specs.Asm.{source_answer}
use Rattle.command_dis.specs.Dis.{code_answer}
use Rattle.command_rip.specs.Rip.{file_answer as rip_file_answer}
use Rattle.command_render.specs.Render.{rendering_answer, file_answer as render_file_answer}
use Rattle.command_cuts.specs.Cuts.{list_answer, table_answer as cuts_table_answer, file_answer as cuts_file_answer}
use Rattle.command_cuts.specs.Lists.{cuts_of}
use Rattle.command_serve.specs.Serve.{script_answer, table_answer as serve_table_answer, file_answer as serve_file_answer}
use Rattle.command_serve.specs.Scripts.{script_of}
use Rattle.run_laws.specs.Answers.{answer_by, inputs_of}
use Rattle.run_laws.specs.GoesBy.{GoesBy}

-- What an input gives depends on no more of it than its limit and one byte.
abbrev pub IsLimited : {T C : Type 0} → (limit : ℕ) → (given : Option (List ℕ) → Result T (Refusal C)) → Type 0
IsLimited limit given = (bytes : List ℕ) → given (Some bytes) ≡ given (Some (take (limit + 1) bytes))

pub bytes_in-limited : {C : Type 0} (limit : ℕ) (too_long : C) → IsLimited limit (bytes_in limit too_long)
bytes_in-limited {C = C} limit too_long bytes = elim (either (length bytes) limit) [
  | inl short ↦ ap (λ (l : List ℕ). bytes_in limit too_long (Some l)) (sym (take_all (limit + 1) bytes (omega arith)))
  | inr long ↦
      let front : length (take (limit + 1) bytes) ≡ limit + 1 = omega (arith, length-take (limit + 1) bytes) in
      let here : nat_lt limit (length bytes) ≡ true = grind (arith, nat_tests) in
      let there : nat_lt limit (length (take (limit + 1) bytes)) ≡ true = grind (arith, nat_tests) in
      ap (λ (b : Bool). if b then Err (Input too_long) else Ok bytes) here ∙ sym (ap (λ (b : Bool). if b then Err (Input too_long) else Ok (take (limit + 1) bytes)) there)
]

pub value_from-limited : {T U C : Type 0} (limit : ℕ) (given : Option (List ℕ) → Result T (Refusal C)) (value : T → Result U (Refusal C)) → IsLimited limit given → IsLimited limit (λ held. value_from (given held) value)
value_from-limited limit given value limited bytes = ap (λ g. value_from g value) (limited bytes)

-- An input is accepted where it gives something.
abbrev pub AcceptsBy : {T C : Type 0} → NamedInput → (given : Option (List ℕ) → Result T (Refusal C)) → Type 0
AcceptsBy input given = (held : Option (List ℕ)) → input.accepts held ≡ is_ok (given held)

accepted-limited : {T C : Type 0} (input : NamedInput) (given : Option (List ℕ) → Result T (Refusal C)) → AcceptsBy input given → IsLimited input.limit given →
    (bytes : List ℕ) → input.accepts (Some bytes) ≡ input.accepts (Some (take (input.limit + 1) bytes))
accepted-limited input given accepts limited bytes = accepts (Some bytes) ∙ ap (λ g. is_ok g) (limited bytes) ∙ sym (accepts (Some (take (input.limit + 1) bytes)))

-- the answer by an input that no other is read after: it may be accepted by something else
pub last_goes : {T U C D : Type 0} (input : NamedInput) (test : Option (List ℕ) → Result U (Refusal D)) (given : Option (List ℕ) → Result T (Refusal C)) (next : T → Answer C) →
    AcceptsBy input test → IsLimited input.limit test → given None ≡ Err ReadFault → IsLimited input.limit given → GoesBy (input ∷ []) (λ held. answer_from (given (first held)) next)
last_goes input test given next accepts tested absent limited = (
  record {
    absent = λ rest. ap (λ g. answer_from g next) absent;
    limited = λ bytes rest. ap (λ g. answer_from g next) (limited bytes);
    accepted_limited = accepted-limited input test accepts tested;
    refused_alone = λ bytes rest others refused. refl;
  },
  λ bytes is. tt,
)

refused_as : {T C : Type 0} (given : Result T (Refusal C)) (next other : T → Answer C) → is_ok given ≡ false → answer_from given next ≡ answer_from given other
refused_as (Err why) next other failed = refl
refused_as (Ok value) next other failed = absurd (cc)

next_goes : {T C : Type 0} (inputs : List NamedInput) (given : Result T (Refusal C)) (next : Held → T → Answer C) → ((value : T) → GoesBy inputs (λ rest. next rest value)) → is_ok given ≡ true →
    GoesBy inputs (λ rest. answer_from given (next rest))
next_goes inputs (Ok value) next goes gave = goes value
next_goes inputs (Err why) next goes gave = absurd (cc)

-- the answer by an input that others are read after
pub first_goes : {T C : Type 0} (input : NamedInput) (inputs : List NamedInput) (given : Option (List ℕ) → Result T (Refusal C)) (next : Held → T → Answer C) →
    AcceptsBy input given → given None ≡ Err ReadFault → IsLimited input.limit given → ((value : T) → GoesBy inputs (λ rest. next rest value)) →
    GoesBy (input ∷ inputs) (λ held. answer_from (given (first held)) (next (later held)))
first_goes input inputs given next accepts absent limited more = (
  record {
    absent = λ rest. ap (λ g. answer_from g (next rest)) absent;
    limited = λ bytes rest. ap (λ g. answer_from g (next rest)) (limited bytes);
    accepted_limited = accepted-limited input given accepts limited;
    refused_alone = λ bytes rest others failed. refused_as (given (Some bytes)) (next rest) (next others) (sym (accepts (Some bytes)) ∙ failed);
  },
  λ bytes is. next_goes inputs (given (Some bytes)) next more (sym (accepts (Some bytes)) ∙ is),
)

up_to_goes : {C : Type 0} (limit : ℕ) (name : List ℕ) (cause : C) (next : List ℕ → Answer C) → GoesBy (input_up_to limit name ∷ []) (λ held. answer_from (bytes_in limit cause (first held)) next)
up_to_goes {C = C} limit name cause next = last_goes (input_up_to limit name) (bytes_in limit (tt {0})) (bytes_in limit cause) next (λ held. refl) (bytes_in-limited limit tt) refl (bytes_in-limited limit cause)

-- The inputs of the commands.

file_in-limited : IsLimited input_limit file_in
file_in-limited = value_from-limited input_limit (bytes_in input_limit (SpcLength (input_limit + 1))) file_of (bytes_in-limited input_limit (SpcLength (input_limit + 1)))

table_in-limited : IsLimited input_limit table_in
table_in-limited = value_from-limited input_limit (bytes_in input_limit InputTooLong) table_of (bytes_in-limited input_limit InputTooLong)

file_goes : (name : List ℕ) (inputs : List NamedInput) (next : Held → List ℕ → Answer Cause) → ((file : List ℕ) → GoesBy inputs (λ rest. next rest file)) →
    GoesBy (spc_input name ∷ inputs) (λ held. answer_from (file_in (first held)) (next (later held)))
file_goes name inputs next more = first_goes (spc_input name) inputs file_in next (λ held. refl) refl file_in-limited more

table_goes : (name : List ℕ) (inputs : List NamedInput) (next : Held → List ℤ → Answer Cause) → ((table : List ℤ) → GoesBy inputs (λ rest. next rest table)) →
    GoesBy (table_input name ∷ inputs) (λ held. answer_from (table_in (first held)) (next (later held)))
table_goes name inputs next more = first_goes (table_input name) inputs table_in next (λ held. refl) refl table_in-limited more

-- a text that is read last
text_goes : {T : Type 0} (name : List ℕ) (value : List ℕ → Result T (Refusal Cause)) (next : T → Answer Cause) →
    GoesBy (input_up_to input_limit name ∷ []) (λ held. answer_from (value_from (bytes_in input_limit InputTooLong (first held)) value) next)
text_goes {T = T} name value next =
    last_goes (input_up_to input_limit name) (bytes_in input_limit (tt {0})) (λ held. value_from (bytes_in input_limit InputTooLong held) value) next (λ held. refl)
    (bytes_in-limited input_limit tt) refl (value_from-limited input_limit (bytes_in input_limit InputTooLong) value (bytes_in-limited input_limit InputTooLong))

pub goes_by : (command : Command) → GoesBy (inputs_of command) (answer_by command)
goes_by usage = tt
goes_by help = tt
goes_by version = tt
goes_by (brr input output) = up_to_goes input_limit input InputTooLong (decoding_answer output)
goes_by (info input) = last_goes (spc_input input) file_in (bytes_in input_limit (SpcLength (input_limit + 1))) fields_answer (λ held. refl) file_in-limited refl (bytes_in-limited input_limit (SpcLength (input_limit + 1)))
goes_by (encode input output options) = up_to_goes wave_limit input InputTooLong (wave_answer output options)
goes_by (render file table wave options) =
    file_goes file (table_input table ∷ []) (λ held. render_file_answer wave options (first held))
    (λ spc. table_goes table [] (λ held. rendering_answer wave options spc) (λ weights. tt))
goes_by (demo number output) = tt
goes_by (check number) = tt
goes_by (asm input origin output) = up_to_goes input_limit input InputTooLong (source_answer origin output)
goes_by (dis input origin output) = up_to_goes input_limit input InputTooLong (code_answer origin output)
goes_by (rip file prefix range) = file_goes file [] (λ held. rip_file_answer prefix range) (λ spc. tt)
goes_by (cuts file table list wave muted) =
    file_goes file (table_input table ∷ input_up_to input_limit list ∷ []) (λ held. cuts_file_answer wave muted (first held) (second held))
    (λ spc. table_goes table (input_up_to input_limit list ∷ []) (λ held. cuts_table_answer wave muted (first held) spc)
    (λ weights. text_goes list cuts_of (list_answer wave muted spc weights)))
goes_by (serve file table script wave options) =
    file_goes file (table_input table ∷ input_up_to input_limit script ∷ []) (λ held. serve_file_answer wave options (first held) (second held))
    (λ spc. table_goes table (input_up_to input_limit script ∷ []) (λ held. serve_table_answer wave options (first held) spc)
    (λ weights. text_goes script script_of (script_answer wave options spc weights)))
