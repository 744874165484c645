use Rattle.std.proofs.Common.{rules, ◌≡◌, ◌+◌, List, ℤ, to_z, of_z, refl, sym, ◌∙◌, ap, drop}
use Rattle.std.specs.Int.{w16}
use Rattle.num_fix.specs.SignedWords.{number_at}
use Rattle.aram_core.specs.Memory.{byte_at}
use Rattle.voice_unit.specs.Voice.{after_decoding}
use Rattle.voice_unit.proofs.Twelve.{ends_with_last_two, drop-more}
use Rattle.voice_unit.proofs.voice.Voice.decode.Goals as goal

pub returns : goal.returns
unfolding after_decoding
returns c =
    let s : List ℤ = c.self.inside.samples in
    let group : List ℤ = c.decode_group-group.result in
    let last : to_z w16 (of_z w16 (number_at s 11)) ≡ number_at s 11 = search rules in
    let before : to_z w16 (of_z w16 (number_at s 10)) ≡ number_at s 10 = search rules in
    let high : c.get-high.result ≡ byte_at c.args.memory.now (c.self.inside.block + c.self.inside.offset) = search rules in
    let low : c.get-low.result ≡ byte_at c.args.memory.now (c.self.inside.block + c.self.inside.offset + 1) = search rules in
    let longer = c.decode_group-group.ensures s (rw (last, before) (ends_with_last_two s c.self.invariant.twelve)) in
    let kept = sym (drop-more s group c.self.invariant.twelve) ∙ sym (ap (drop 4) longer) in
    rw (← c.self.view_is, c.samples_with_group-self-inside.ensures, kept, high, low) refl
