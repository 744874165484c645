-- Words of the contracts of the parts of assembling: the table of names, and what was added.
use Rattle.std.specs.Prelude.{◌≡◌, ℕ, ◌+◌, ◌≤◌, List, [], ◌∷◌, ◌++◌, false, Option, Some, None, Result, Ok, Err, OnOk, unwrap_or, if◌then◌else◌}
use Rattle.std.specs.Str.{bytes_eq}
use Rattle.std.specs.HashMap.{get_by}
use Rattle.spc700_asm.specs.declared.names.Names.{Names}
use Rattle.spc700_asm.specs.declared.refusal.LineFault.{LineFault}
use Rattle.spc700_asm.specs.declared.refusal.LineError.{LineError}
use Rattle.spc700_asm.specs.declared.refusal.LineError.TheVariants as error
use Rattle.spc700_asm.specs.declared.refusal.AsmRefusal.{AsmRefusal}
use Rattle.spc700_asm.specs.declared.refusal.AsmRefusal.TheVariants as refusal
use Rattle.spc700_asm.specs.Instructions.{memory_end}
use Rattle.spc700_asm.specs.Operands.{written_of}
use Rattle.spc700_asm.specs.Statements.{Statement, all_of, items_of, statement_of}
use Rattle.spc700_asm.specs.Labels.{Labels, size_of, size_of_line, label_at, value_of}
use Rattle.spc700_asm.specs.Faults.{LineRefusal, has_great_number, first_fault}
use Rattle.spc700_asm.specs.Assembly.{with_front, number_written, number_bytes, line_bytes, bytes_of_lines, lines_of}

-- the value that a table has for a name
abbrev pub value_in_table : Names → (name : List ℕ) → Option ℕ
value_in_table names name = get_by (λ key. bytes_eq name key.now) names.values

-- a table has a name more than another
abbrev pub HasMore : (old new : Names) → (name : List ℕ) → (value : ℕ) → Type 0
HasMore old new name value = (other : List ℕ) → value_in_table new other ≡ (if bytes_eq name other then Some value else value_in_table old other)

-- a table has the names that lines define
abbrev pub Holds : Names → Labels → Type 0
Holds names labels = (name : List ℕ) → value_in_table names name ≡ value_of labels name

-- something holds of all the names that a table has
abbrev pub OfNames : Names → (Labels → Type 0) → Type 0
OfNames names Holding = (labels : Labels) → Holds names labels → Holding labels

-- a line without a fault has its name among the names, unless there is no memory
abbrev pub Defines : (old new : Names) → (at : ℕ) → Option Statement → Result (Unit {0}) LineError → Type 0
Defines old new at line result =
    OfNames old (λ labels. first_fault labels at line ≡ None → OnOk result (Holds new (labels ++ label_at at line)))

-- the bytes of the words between commas
abbrev pub word_bytes : Labels → (items : List ℕ) → Result (List ℕ) LineFault
word_bytes labels items = number_bytes 2 (all_of (number_written labels) (unwrap_or (all_of written_of (items_of items)) []))

-- the bytes of the lines of a source
abbrev pub bytes_of_source : Labels → (origin : ℕ) → (source : List ℕ) → Result (List ℕ) LineRefusal
bytes_of_source labels origin source = bytes_of_lines labels origin 1 (lines_of source)

-- the bytes of a line at an address were added
abbrev pub AddsLine : Labels → (at : ℕ) → (line old new : List ℕ) → Type 0
AddsLine labels at line old new = with_front old (line_bytes labels at (statement_of line)) ≡ Ok new

-- bytes were added, or a line isn't assembled for its fault, unless there is no memory
abbrev pub Adds : (old new : List ℕ) → (bytes : Result (List ℕ) LineFault) → Result (Unit {0}) LineError → Type 0
Adds old new bytes (Ok done) = with_front old bytes ≡ Ok new
Adds old new bytes (Err error.OutOfMemory) = Unit {0}
Adds old new bytes (Err (error.Fault fault)) = bytes ≡ Err fault

-- a line has no bytes for its fault, unless there is no memory
abbrev pub IsBytesFault : LineError → Result (List ℕ) LineFault → Type 0
IsBytesFault error.OutOfMemory bytes = Unit {0}
IsBytesFault (error.Fault fault) bytes = bytes ≡ Err fault

-- a line has no fault of the first four that its bytes depend on
abbrev pub IsFine : (at : ℕ) → Option Statement → Type 0
IsFine at None = ⊥
IsFine at (Some statement) = (has_great_number statement ≡ false) × (at + size_of statement ≤ memory_end)

-- nor have lines from an address on
abbrev pub AreFine : (at : ℕ) → List (Option Statement) → Type 0
AreFine at [] = Unit {0}
AreFine at (line ∷ lines) = IsFine at line × AreFine (at + size_of_line line) lines

-- a line isn't assembled for its fault, unless there is no memory
abbrev pub IsFault : LineError → Option LineFault → Type 0
IsFault error.OutOfMemory found = Unit {0}
IsFault (error.Fault fault) found = found ≡ Some fault

-- a source is refused for this, unless there is no memory
abbrev pub IsRefusal : AsmRefusal → Option LineRefusal → Type 0
IsRefusal refusal.OutOfMemory found = Unit {0}
IsRefusal (refusal.Line number fault) found = found ≡ Some (record { number = number; fault = fault })
