-- What the reading of an input gives, or why it is refused. `C` is why the bytes of an input are refused.
use Rattle.std.specs.Prelude.{◌≡◌, ◌⊎◌, ℕ, List, length, Option, Some, None, Result, Ok, Err, IfOk, IfErr, is_ok, nat_lt, if◌then◌else◌}
use Rattle.snd_host.specs.Calls.{Call}
use Rattle.snd_host.specs.Follows.{Since}
use Rattle.snd_host.specs.Host.{HostState, max_limit}
use Rattle.snd_host.specs.Takes.{Takes}
use Rattle.spc_form.specs.Accepted.{max_length}
use Rattle.command_runner.specs.NamedInputs.{NamedInput}
use Rattle.command_runner.specs.Answer.{Answer, refused}
use Rattle.command_runner.specs.RunCalls.{EndsRefused}
use Rattle.command_runner.specs.declared.refusals.Refusal.{Refusal}
use Rattle.command_runner.specs.declared.refusals.Refusal.TheVariants.{Usage, ReadFault, WriteFault, OutOfMemory, Input}

-- the greatest length of most inputs, that of an SPC file, and the greatest of a sound file to be encoded
abbrev pub input_limit : ℕ
input_limit = max_length

abbrev pub wave_limit : ℕ
wave_limit = max_limit

-- the bytes that an input holds, of which there may be this many; it may not be there
abbrev pub bytes_in : {C : Type 0} → (limit : ℕ) → (too_long : C) → (held : Option (List ℕ)) → Result (List ℕ) (Refusal C)
bytes_in limit too_long None = Err ReadFault
bytes_in limit too_long (Some bytes) = if nat_lt limit (length bytes) then Err (Input too_long) else Ok bytes

-- an input of this name that may have so many bytes
abbrev pub input_up_to : (limit : ℕ) → (name : List ℕ) → NamedInput
input_up_to limit name = record { name = name; limit = limit; accepts = λ held. is_ok (bytes_in limit (tt {0}) held) }

-- what comes of a value, or the refusal in its place
abbrev pub value_from : {T U C : Type 0} → Result T (Refusal C) → (T → Result U (Refusal C)) → Result U (Refusal C)
value_from (Ok given) value = value given
value_from (Err refusal) value = Err refusal

-- what a reader gives, with the refusal that its error stands for
abbrev pub refused_by : {T E C : Type 0} → (refusal : E → Refusal C) → Result T E → Result T (Refusal C)
refused_by refusal (Ok value) = Ok value
refused_by refusal (Err error) = Err (refusal error)

-- the answer by what an input gives, or its refusal
abbrev pub answer_from : {T C : Type 0} → Result T (Refusal C) → (T → Answer C) → Answer C
answer_from (Ok given) answer = answer given
answer_from (Err refusal) answer = refused refusal

-- Bytes are refused as they are to be, or for want of memory.
pub record Declines {T C : Type 0} (given : Result T (Refusal C)) (refusal : Refusal C) : Type 0 where
  pub known : (given ≡ Err refusal) ⊎ (refusal ≡ OutOfMemory)
  pub no_usage : refusal ≡ Usage → ⊥
  pub no_read : refusal ≡ ReadFault → ⊥
  pub no_write : refusal ≡ WriteFault → ⊥

-- Bytes were read as what they give.
pub record Accepts {T C : Type 0} (given : Result T (Refusal C)) (result : Result T (Refusal C)) : Type 0 where
  pub ok : IfOk result (λ value. given ≡ Ok value)
  pub err : IfErr result (λ refusal. Declines given refusal)

-- How the calls for an input ended that gave these bytes: all were made, and the value is what the bytes give, or there is none.
abbrev pub EndsRead : {T C : Type 0} → (name : List ℕ) → (limit : ℕ) → (given : Option (List ℕ) → Result T (Refusal C)) → Result T (Refusal C)
    → (bytes : List ℕ) → (taken : List Call) → Type 0
EndsRead name limit given (Ok value) bytes taken = Takes name limit bytes taken × (given (Some bytes) ≡ Ok value)
EndsRead name limit given (Err why) bytes taken = EndsRefused (Takes name limit bytes) (given (Some bytes) ≡ Err why) why taken

-- The calls for an input of this name, which may have so many bytes, were made, and no others; the value is what its bytes give.
pub record Reads {T C : Type 0} (name : List ℕ) (limit : ℕ) (given : Option (List ℕ) → Result T (Refusal C)) (old new : HostState)
    (result : Result T (Refusal C)) : Type 0 where
  pub bytes : List ℕ
  pub taken : List Call
  pub since : Since taken old new
  pub ends : EndsRead name limit given result bytes taken
