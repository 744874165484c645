-- The created outputs of a host of real files. Each stands at a place.
use Rattle.std.specs.Prelude.{ℕ, zero, suc, Bool, true, List, Option, Some, None, map, slice_get}
use Rattle.disk_host.specs.declared.host.Created.{Created}

-- how many outputs a host of real files can create
abbrev pub max_created : ℕ
max_created = 256

-- An output was ended; where there is none, none can be written.
abbrev pub is_ended : {F : Type 0} → Option (Created F) → Bool
is_ended None = true
is_ended (Some output) = output.ended

-- for each place, whether its output was ended
abbrev pub flags_of : {F : Type 0} → List (Option (Created F)) → List Bool
flags_of places = map is_ended places

-- what is known of a file: something else where there is none
abbrev pub known_or : {F T : Type 0} → (reports : F → T) → (otherwise : T) → Option F → T
known_or reports otherwise None = otherwise
known_or reports otherwise (Some file) = reports file

-- what is known of the output at a place
abbrev pub known_at : {F T : Type 0} → (reports : F → T) → (otherwise : T) → List (Option (Created F)) → (place : ℕ) → T
known_at reports otherwise places place = known_or (known_or (λ output. reports output.file) otherwise) otherwise (slice_get places place)

-- what is known of the output of a number: 0 is the report, 1 the complaint
abbrev pub known_of : {F T : Type 0} → (reports : F → T) → (otherwise report complaint : T) → List (Option (Created F)) → (output : ℕ) → T
known_of reports otherwise report complaint places zero = report
known_of reports otherwise report complaint places (suc zero) = complaint
known_of reports otherwise report complaint places (suc (suc place)) = known_at reports otherwise places place
