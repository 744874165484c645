use Rattle.std.proofs.Common.{rules, ◌≡◌, ◌∙◌, sym, ap, ℤ, pos, List, ◌++◌, length, get_or, take}
use Rattle.std.specs.List.{flat_map}
use Rattle.std.specs.Prelude.{FitsSigned}
use Rattle.std.specs.Int.{w16, cast_unsigned}
use Rattle.std.proofs.lemmas.Int.{to_z-of_z}
use Rattle.std.proofs.lemmas.List.{flat_map_more, take_more}
use Rattle.byteorder.specs.Endian.{little_bytes}
use Rattle.wav_form.specs.Wave.{header_of, sample_bytes}
use Rattle.command_brr.proofs.command.wave.Goals as goal

pub loop-sample-preserved : goal.loop-sample-preserved
loop-sample-preserved c =
    let samples = c.args.samples.now in
    let i = c.loop-sample.sample-index in
    let sample = get_or samples i (pos 0) in
    let fits : FitsSigned w16 sample = search rules in
    let bytes : c.write_i16.new.buf ≡ sample_bytes sample = c.write_i16.ensures ∙ ap (λ (z : ℤ). little_bytes 2 (cast_unsigned w16 z)) (to_z-of_z w16 sample fits) in
    c.in_ok-extend_from_slice-2.ensures.items
    ∙ (λ j. c.loop-sample.invariant j ++ bytes j)
    ∙ flat_map_more sample_bytes (header_of 1 (length samples)) (take i samples) sample
    ∙ ap (λ (l : List ℤ). header_of 1 (length samples) ++ flat_map sample_bytes l) (sym (take_more samples i (pos 0) c.loop-sample-test.true))
