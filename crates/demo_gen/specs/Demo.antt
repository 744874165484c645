-- The file: its parts at their places, and zeros everywhere else (SPC file format text v0.30; which parts is own).
use Rattle.std.specs.Prelude.{ℕ, List, [], ◌∷◌, ◌++◌, codes, decimal, fold}
use Rattle.spc_form.specs.Accepted.{signature, padded_to, kept_length}
use Rattle.spc_form.specs.Layout.{dsp_place}
use Rattle.demo_gen.specs.Places.{cell, with_part}
use Rattle.demo_gen.specs.Draws.{state_after}
use Rattle.demo_gen.specs.Samples.{directory, sample_bytes}
use Rattle.demo_gen.specs.Writes.{registers, values}
use Rattle.demo_gen.specs.Driver.{driver, dsp_registers}

-- after the signature: version 0.30 with tags, PC 0400h, A, X, Y and PSW 0, and SP EFh
abbrev pub fields : List ℕ
fields = codes " v0.30" ++ 0x1A ∷ 0x1A ∷ 0x1A ∷ 30 ∷ 0x00 ∷ 0x04 ∷ 0 ∷ 0 ∷ 0 ∷ 0 ∷ 0xEF ∷ []

abbrev pub front : List ℕ
front = signature ++ fields

abbrev pub title : (number : ℕ) → List ℕ
title number = codes "demo " ++ decimal number

-- the parts, each with its place: 1,152 draws make the samples, then 512 the writes of registers, and then 256 the bytes
-- that the driver puts into the samples, from the second byte on
abbrev pub parts : (number : ℕ) → List (ℕ × List ℕ)
parts number =
    (0, front)
    ∷ (0x2E, title number)
    ∷ (cell 0x0200, directory)
    ∷ (cell 0x0400, driver)
    ∷ (cell 0x1000, sample_bytes 0 1152 number)
    ∷ (cell 0x2000, registers (state_after 1152 number))
    ∷ (cell 0x2100, values (state_after 1152 number))
    ∷ (cell 0x2200, sample_bytes 1 256 (state_after 512 (state_after 1152 number)))
    ∷ (dsp_place, dsp_registers)
    ∷ []

-- the demo file of a number, 66,048 bytes
unfoldable pub demo_bytes : (number : ℕ) → List ℕ
demo_bytes number = padded_to kept_length (fold (λ file part. with_part file part.0 part.1) [] (parts number))
