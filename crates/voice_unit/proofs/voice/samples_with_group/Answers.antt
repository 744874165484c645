use Rattle.std.proofs.Common.{rules, ◌≡◌, to_z, of_z, List, ℤ}
use Rattle.std.specs.Int.{w16}
use Rattle.num_fix.specs.SignedWords.{number_at}
use Rattle.voice_unit.proofs.Twelve.{shifted_entries}
use Rattle.voice_unit.proofs.voice.samples_with_group.Goals as goal

-- no entry loses a bit on its way
pub returns : goal.returns
returns c =
    let s : List ℤ = c.args.samples.now in
    let a : to_z w16 (of_z w16 (number_at s 4)) ≡ number_at s 4 = search rules in
    let b : to_z w16 (of_z w16 (number_at s 5)) ≡ number_at s 5 = search rules in
    let third : to_z w16 (of_z w16 (number_at s 6)) ≡ number_at s 6 = search rules in
    let d : to_z w16 (of_z w16 (number_at s 7)) ≡ number_at s 7 = search rules in
    let e : to_z w16 (of_z w16 (number_at s 8)) ≡ number_at s 8 = search rules in
    let f : to_z w16 (of_z w16 (number_at s 9)) ≡ number_at s 9 = search rules in
    let g : to_z w16 (of_z w16 (number_at s 10)) ≡ number_at s 10 = search rules in
    let h : to_z w16 (of_z w16 (number_at s 11)) ≡ number_at s 11 = search rules in
    let w : to_z w16 (of_z w16 (number_at c.args.group 0)) ≡ number_at c.args.group 0 = search rules in
    let x : to_z w16 (of_z w16 (number_at c.args.group 1)) ≡ number_at c.args.group 1 = search rules in
    let y : to_z w16 (of_z w16 (number_at c.args.group 2)) ≡ number_at c.args.group 2 = search rules in
    let z : to_z w16 (of_z w16 (number_at c.args.group 3)) ≡ number_at c.args.group 3 = search rules in
    rw (a, b, third, d, e, f, g, h, w, x, y, z) (shifted_entries s c.args.group c.told-samples (search rules))
