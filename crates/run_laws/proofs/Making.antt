-- What stands of outputs after a front of the calls that make them. Outputs are made at once in three phases (all are created, then written in any
-- order, then ended), and in each phase the outputs so far, their bytes and their flags are read off the calls of the front. In turn, all but the
-- last are whole and ended. So a front leaves a part, and all calls leave all.
use Rattle.std.proofs.Common.{◌≡◌, ◌≢◌, ℕ, zero, suc, ◌+◌, ◌-◌, ◌≤◌, ◌<◌, Bool, true, false, List, [], ◌∷◌, ◌++◌, length, map, if◌then◌else◌, refl, sym, ap, ◌∙◌, arith}
use Rattle.std.specs.Prelude.{◌==◌, slice_set}
use Rattle.std.specs.List.{AllByRecursion}
use Rattle.std.proofs.Math.Seq.{set-append_seam}
use Rattle.std.proofs.lemmas.List.{append_assoc, append-nil, length-append, length-set}
use Rattle.snd_host.specs.Calls.{Call, opened, not_opened, read, not_read, created, not_created, wrote, not_written, finished, not_finished}
use Rattle.snd_host.specs.Host.{Output, outputs_with}
use Rattle.snd_host.specs.Follows.{pushed}
use Rattle.command_runner.specs.OutputCalls.{IsWriteTo, numbered, creations, endings, bytes_to}
use Rattle.command_runner.proofs.Woven.{bytes_more, same_number, other_number}
use Rattle.snd_host.specs.History.{given_of, ended_of}
use Rattle.run_laws.proofs.Counting.{Standing, standing}
use Rattle.command_runner.proofs.EachCall.{from_first}

-- with these bytes of the report, these outputs and their flags more
abbrev pub grown : (report : List ℕ) → (outputs : List Output) → (flags : List Bool) → Standing → Standing
grown report outputs flags s = record { report = s.report ++ report; created = s.created ++ outputs; ended = s.ended ++ flags }

pub grown_none : (s : Standing) → grown [] [] [] s ≡ s
grown_none s =
    ap (λ (l : List ℕ). record { report = l; created = s.created ++ []; ended = s.ended ++ [] }) (append-nil s.report)
    ∙ ap (λ (l : List Output). record { report = s.report; created = l; ended = s.ended ++ [] }) (append-nil s.created)
    ∙ ap (λ (l : List Bool). record { report = s.report; created = s.created; ended = l }) (append-nil s.ended)

pub grown_twice : (p q : List ℕ) (xs ys : List Output) (fs gs : List Bool) (s : Standing) → grown q ys gs (grown p xs fs s) ≡ grown (p ++ q) (xs ++ ys) (fs ++ gs) s
grown_twice p q xs ys fs gs s =
    ap (λ (l : List ℕ). record { report = l; created = (s.created ++ xs) ++ ys; ended = (s.ended ++ fs) ++ gs }) (append_assoc s.report p q)
    ∙ ap (λ (l : List Output). record { report = s.report ++ (p ++ q); created = l; ended = (s.ended ++ fs) ++ gs }) (append_assoc s.created xs ys)
    ∙ ap (λ (l : List Bool). record { report = s.report ++ (p ++ q); created = s.created ++ (xs ++ ys); ended = l }) (append_assoc s.ended fs gs)

-- A created output has a flag.

same_length : (place : ℕ) (outputs : List Output) (bytes : List ℕ) → length (outputs_with outputs place bytes) ≡ length outputs
same_length place [] bytes = refl
same_length zero (o ∷ outputs) bytes = refl
same_length (suc place) (o ∷ outputs) bytes = ap suc (same_length place outputs bytes)

pub flag_each : (calls : List Call) → length (given_of calls).created ≡ length (ended_of calls)
flag_each [] = refl
flag_each (created name n ∷ calls) = length-append (given_of calls).created _ ∙ ap (λ (n : ℕ). n + 1) (flag_each calls) ∙ sym (length-append (ended_of calls) (false ∷ []))
flag_each (wrote zero bytes ∷ calls) = flag_each calls
flag_each (wrote (suc zero) bytes ∷ calls) = flag_each calls
flag_each (wrote (suc (suc place)) bytes ∷ calls) = same_length place (given_of calls).created bytes ∙ flag_each calls
flag_each (finished n ∷ calls) = flag_each calls ∙ sym (length-set (ended_of calls) (n - 2) true)
flag_each (opened name n ∷ calls) = flag_each calls
flag_each (read n room bytes ∷ calls) = flag_each calls
flag_each (not_opened name ∷ calls) = flag_each calls
flag_each (not_read n room ∷ calls) = flag_each calls
flag_each (not_created name ∷ calls) = flag_each calls
flag_each (not_written n piece ∷ calls) = flag_each calls
flag_each (not_finished n ∷ calls) = flag_each calls

-- Creations.

-- the outputs that were created by so many calls
abbrev pub begun_by : List Call → List Output → List Output
begun_by [] outputs = []
begun_by (c ∷ calls) [] = []
begun_by (c ∷ calls) (o ∷ outputs) = record { name = o.name; bytes = [] } ∷ begun_by calls outputs

abbrev pub none_ended : List Output → List Bool
none_ended outputs = map (λ _. false) outputs

pub after_creations : (outputs : List Output) (n : ℕ) (done rest history : List Call) → done ++ rest ≡ creations n outputs →
    standing (pushed done history) ≡ grown [] (begun_by done outputs) (none_ended (begun_by done outputs)) (standing history)
after_creations outputs n [] rest history is = sym (grown_none (standing history))
after_creations [] n (c ∷ done) rest history is = absurd (cc)
after_creations (o ∷ outputs) n (c ∷ done) rest history is =
    let here : c ≡ created o.name n = cc in
    let more : done ++ rest ≡ creations (n + 1) outputs = cc in
    let new : Output = record { name = o.name; bytes = [] } in
    let begun = begun_by done outputs in
    after_creations outputs (n + 1) done rest (c ∷ history) more
    ∙ ap (λ (call : Call). grown [] begun (none_ended begun) (standing (call ∷ history))) here
    ∙ ap (λ (l : List ℕ). grown [] begun (none_ended begun) (record { report = l; created = (given_of history).created ++ new ∷ []; ended = ended_of history ++ false ∷ [] })) (sym (append-nil (given_of history).report))
    ∙ grown_twice [] [] (new ∷ []) begun (false ∷ []) (none_ended begun) (standing history)

-- Writes.

-- outputs of these names, the first of which has the number n, with the bytes that were written to each
abbrev pub written : (n : ℕ) → List Output → List Call → List Output
written n [] calls = []
written n (o ∷ outputs) calls = record { name = o.name; bytes = bytes_to n calls } ∷ written (n + 1) outputs calls

bytes_hit : (n file : ℕ) (xs : List Call) (bytes : List ℕ) → file ≡ n → bytes_to n (xs ++ wrote file bytes ∷ []) ≡ bytes_to n xs ++ bytes
bytes_hit n file xs bytes is =
    bytes_more n xs (wrote file bytes ∷ []) ∙ ap (λ (k : ℕ). bytes_to n xs ++ (if k == n then bytes ++ [] else [])) is
    ∙ ap (λ (b : Bool). bytes_to n xs ++ (if b then bytes ++ [] else [])) (same_number n) ∙ ap (λ (l : List ℕ). bytes_to n xs ++ l) (append-nil bytes)

bytes_missed : (n file : ℕ) (xs : List Call) (bytes : List ℕ) → file ≢ n → bytes_to n (xs ++ wrote file bytes ∷ []) ≡ bytes_to n xs
bytes_missed n file xs bytes other =
    bytes_more n xs (wrote file bytes ∷ []) ∙ ap (λ (b : Bool). bytes_to n xs ++ (if b then bytes ++ [] else [])) (other_number file n other) ∙ append-nil (bytes_to n xs)

all_missed : (n file : ℕ) (outputs : List Output) (xs : List Call) (bytes : List ℕ) → file < n → written n outputs (xs ++ wrote file bytes ∷ []) ≡ written n outputs xs
all_missed n file [] xs bytes low = refl
all_missed n file (o ∷ outputs) xs bytes low =
    ap (λ (l : List ℕ). record { name = o.name; bytes = l } ∷ written (n + 1) outputs (xs ++ wrote file bytes ∷ [])) (bytes_missed n file xs bytes (λ is. absurd (omega arith)))
    ∙ ap (λ (l : List Output). record { name = o.name; bytes = bytes_to n xs } ∷ l) (all_missed (n + 1) file outputs xs bytes (omega arith))

one_hit : (outputs : List Output) (n file place : ℕ) (xs : List Call) (bytes : List ℕ) → file ≡ n + place → outputs_with (written n outputs xs) place bytes ≡ written n outputs (xs ++ wrote file bytes ∷ [])
one_hit [] n file place xs bytes is = refl
one_hit (o ∷ outputs) n file zero xs bytes is =
    ap (λ (l : List ℕ). record { name = o.name; bytes = l } ∷ written (n + 1) outputs xs) (sym (bytes_hit n file xs bytes (omega arith)))
    ∙ ap (λ (l : List Output). record { name = o.name; bytes = bytes_to n (xs ++ wrote file bytes ∷ []) } ∷ l) (sym (all_missed (n + 1) file outputs xs bytes (omega arith)))
one_hit (o ∷ outputs) n file (suc place) xs bytes is =
    ap (λ (l : List Output). record { name = o.name; bytes = bytes_to n xs } ∷ l) (one_hit outputs (n + 1) file place xs bytes (omega arith))
    ∙ ap (λ (l : List ℕ). record { name = o.name; bytes = l } ∷ written (n + 1) outputs (xs ++ wrote file bytes ∷ [])) (sym (bytes_missed n file xs bytes (λ same. absurd (omega arith))))

-- behind outputs that were there before
hit_behind : (before outputs : List Output) (n file place : ℕ) (xs : List Call) (bytes : List ℕ) → file + length before ≡ n + place → length before ≤ place →
    outputs_with (before ++ written n outputs xs) place bytes ≡ before ++ written n outputs (xs ++ wrote file bytes ∷ [])
hit_behind [] outputs n file place xs bytes is behind = one_hit outputs n file place xs bytes (omega arith)
hit_behind (b ∷ before) outputs n file zero xs bytes is behind = absurd (omega arith)
hit_behind (b ∷ before) outputs n file (suc place) xs bytes is behind = ap (λ (l : List Output). b ∷ l) (hit_behind before outputs n file place xs bytes (omega arith) (omega arith))

write_stands : (before outputs : List Output) (xs history : List Call) (n file : ℕ) (bytes : List ℕ) → n ≡ length before + 2 → n ≤ file → (given_of history).created ≡ before ++ written n outputs xs →
    standing (wrote file bytes ∷ history) ≡ record (standing history) { created = before ++ written n outputs (xs ++ wrote file bytes ∷ []) }
write_stands before outputs xs history n file bytes number high was =
    let at : file ≡ suc (suc (file - 2)) = omega arith in
    ap (λ (k : ℕ). standing (wrote k bytes ∷ history)) at
    ∙ ap (λ (l : List Output). record (standing history) { created = outputs_with l (file - 2) bytes }) was
    ∙ ap (λ (l : List Output). record (standing history) { created = l }) (hit_behind before outputs n file (file - 2) xs bytes (omega arith) (omega arith))

module _ (before outputs : List Output) (n : ℕ) (number : n ≡ length before + 2) where
  pub after_writes : (ws xs history : List Call) → AllByRecursion (IsWriteTo (numbered n outputs)) ws → (given_of history).created ≡ before ++ written n outputs xs →
      standing (pushed ws history) ≡ record (standing history) { created = before ++ written n outputs (xs ++ ws) }
  after_writes [] xs history each was = ap (λ (l : List Output). record (standing history) { created = l }) (was ∙ ap (λ (l : List Call). before ++ written n outputs l) (sym (append-nil xs)))
  after_writes (wrote file bytes ∷ ws) xs history each was =
      let one = write_stands before outputs xs history n file bytes number (from_first n file outputs each.0.0) was in
      after_writes ws (xs ++ wrote file bytes ∷ []) (wrote file bytes ∷ history) each.1 (ap (λ (s : Standing). s.created) one)
      ∙ ap (λ (s : Standing). record s { created = before ++ written n outputs ((xs ++ wrote file bytes ∷ []) ++ ws) }) one
      ∙ ap (λ (l : List Call). record (standing history) { created = before ++ written n outputs l }) (append_assoc xs (wrote file bytes ∷ []) ws)
  after_writes (opened name file ∷ ws) xs history each was = absurd each.0
  after_writes (not_opened name ∷ ws) xs history each was = absurd each.0
  after_writes (read file room bytes ∷ ws) xs history each was = absurd each.0
  after_writes (not_read file room ∷ ws) xs history each was = absurd each.0
  after_writes (created name file ∷ ws) xs history each was = absurd each.0
  after_writes (not_created name ∷ ws) xs history each was = absurd each.0
  after_writes (not_written file piece ∷ ws) xs history each was = absurd each.0
  after_writes (finished file ∷ ws) xs history each was = absurd each.0
  after_writes (not_finished file ∷ ws) xs history each was = absurd each.0

-- Endings.

-- of so many outputs, those that were ended by so many calls
abbrev pub ended_by : List Call → List Output → List Bool
ended_by [] outputs = none_ended outputs
ended_by (c ∷ calls) [] = []
ended_by (c ∷ calls) (o ∷ outputs) = true ∷ ended_by calls outputs

pub after_endings : (outputs : List Output) (n : ℕ) (done rest history : List Call) (flags : List Bool) → done ++ rest ≡ endings (numbered n outputs) → n ≡ length flags + 2 → ended_of history ≡ flags ++ none_ended outputs →
    standing (pushed done history) ≡ record (standing history) { ended = flags ++ ended_by done outputs }
after_endings outputs n [] rest history flags is number was = ap (λ (l : List Bool). record (standing history) { ended = l }) was
after_endings [] n (c ∷ done) rest history flags is number was = absurd (cc)
after_endings (o ∷ outputs) n (c ∷ done) rest history flags is number was =
    let here : c ≡ finished n = cc in
    let more : done ++ rest ≡ endings (numbered (n + 1) outputs) = cc in
    let place : n - 2 ≡ length flags = omega arith in
    let set : slice_set (ended_of history) (n - 2) true ≡ (flags ++ true ∷ []) ++ none_ended outputs =
    ap (λ (l : List Bool). slice_set l (n - 2) true) was ∙ ap (λ (k : ℕ). slice_set (flags ++ false ∷ none_ended outputs) k true) place ∙ set-append_seam flags false (none_ended outputs) true
    ∙ sym (append_assoc flags (true ∷ []) (none_ended outputs)) in
    let now : ended_of (c ∷ history) ≡ (flags ++ true ∷ []) ++ none_ended outputs = ap (λ (call : Call). ended_of (call ∷ history)) here ∙ set in
    after_endings outputs (n + 1) done rest (c ∷ history) (flags ++ true ∷ []) more (number_after number) now
    ∙ ap (λ (call : Call). record (standing (call ∷ history)) { ended = (flags ++ true ∷ []) ++ ended_by done outputs }) here
    ∙ ap (λ (l : List Bool). record (standing history) { ended = l }) (append_assoc flags (true ∷ []) (ended_by done outputs))
  where
    number_after : n ≡ length flags + 2 → n + 1 ≡ length (flags ++ true ∷ []) + 2
    number_after is = omega (arith, length-append flags (true ∷ []))
