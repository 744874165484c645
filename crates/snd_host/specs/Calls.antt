-- Calls that were made, each with what came of it.
use Rattle.std.specs.Prelude.{◌≡◌, ℕ, zero, suc, List, [], take, Result, Ok, Err, refl}
use Rattle.std.specs.Coded.{Coded, code_by, coded×, coded_ℕ, coded_list}

-- A file is given by its number: 0 is the report, 1 the complaint. A read shows the room of its buffer and the bytes that it gave; a write, the bytes that
-- it took, and one that failed, those that it was to take.
pub data Call : Type 0 where
  opened : (name : List ℕ) (file : ℕ) → Call
  not_opened : (name : List ℕ) → Call
  read : (file room : ℕ) (bytes : List ℕ) → Call
  not_read : (file room : ℕ) → Call
  created : (name : List ℕ) (file : ℕ) → Call
  not_created : (name : List ℕ) → Call
  wrote : (file : ℕ) (bytes : List ℕ) → Call
  not_written : (file : ℕ) (piece : List ℕ) → Call
  finished : (file : ℕ) → Call
  not_finished : (file : ℕ) → Call

-- Which call it was, by its result. Of a call that makes a file, `number` gives that of the file.

abbrev pub open_call : {T E : Type 0} → (number : T → ℕ) → (name : List ℕ) → Result T E → Call
open_call number name (Ok file) = opened name (number file)
open_call number name (Err e) = not_opened name

-- a read into a buffer with this room, which holds these bytes then
abbrev pub read_call : {E : Type 0} → (file room : ℕ) → (buf : List ℕ) → Result ℕ E → Call
read_call file room buf (Ok count) = read file room (take count buf)
read_call file room buf (Err e) = not_read file room

abbrev pub create_call : {T E : Type 0} → (number : T → ℕ) → (name : List ℕ) → Result T E → Call
create_call number name (Ok file) = created name (number file)
create_call number name (Err e) = not_created name

abbrev pub write_call : {E : Type 0} → (file : ℕ) → (piece : List ℕ) → Result ℕ E → Call
write_call file piece (Ok count) = wrote file (take count piece)
write_call file piece (Err e) = not_written file piece

abbrev pub finish_call : {T E : Type 0} → (file : ℕ) → Result T E → Call
finish_call file (Ok x) = finished file
finish_call file (Err e) = not_finished file

-- How a call is stored: its kind, two numbers and bytes.

abbrev pub spelled : Call → (ℕ × (ℕ × ℕ)) × List ℕ
spelled (opened name file) = ((0, (file, 0)), name)
spelled (not_opened name) = ((1, (0, 0)), name)
spelled (read file room bytes) = ((2, (file, room)), bytes)
spelled (not_read file room) = ((3, (file, room)), [])
spelled (created name file) = ((4, (file, 0)), name)
spelled (not_created name) = ((5, (0, 0)), name)
spelled (wrote file bytes) = ((6, (file, 0)), bytes)
spelled (not_written file piece) = ((7, (file, 0)), piece)
spelled (finished file) = ((8, (file, 0)), [])
spelled (not_finished file) = ((9, (file, 0)), [])

abbrev pub read_back : (kind file room : ℕ) → List ℕ → Call
read_back zero file room bytes = opened bytes file
read_back (suc zero) file room bytes = not_opened bytes
read_back (suc (suc zero)) file room bytes = read file room bytes
read_back (suc (suc (suc zero))) file room bytes = not_read file room
read_back (suc (suc (suc (suc zero)))) file room bytes = created bytes file
read_back (suc (suc (suc (suc (suc zero))))) file room bytes = not_created bytes
read_back (suc (suc (suc (suc (suc (suc zero)))))) file room bytes = wrote file bytes
read_back (suc (suc (suc (suc (suc (suc (suc zero))))))) file room bytes = not_written file bytes
read_back (suc (suc (suc (suc (suc (suc (suc (suc zero)))))))) file room bytes = finished file
read_back kind file room bytes = not_finished file

abbrev pub same_read_back : (c : Call) → read_back (spelled c).0.0 (spelled c).0.1.0 (spelled c).0.1.1 (spelled c).1 ≡ c
same_read_back (opened name file) = refl
same_read_back (not_opened name) = refl
same_read_back (read file room bytes) = refl
same_read_back (not_read file room) = refl
same_read_back (created name file) = refl
same_read_back (not_created name) = refl
same_read_back (wrote file bytes) = refl
same_read_back (not_written file piece) = refl
same_read_back (finished file) = refl
same_read_back (not_finished file) = refl

abbrev pub call_code : Coded Call
call_code = code_by ((ℕ × (ℕ × ℕ)) × List ℕ) (coded× (coded× coded_ℕ (coded× coded_ℕ coded_ℕ)) (coded_list coded_ℕ))
    spelled (λ p. read_back p.0.0 p.0.1.0 p.0.1.1 p.1) same_read_back
