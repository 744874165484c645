use Rattle.std.proofs.Common.{rules, ◌≡◌, List, ℤ, length, ◌∙◌}
use Rattle.std.proofs.lemmas.List.{take_at}
use Rattle.voice_batch.proofs.row.begin_row.Goals as goal

pub returns-clause-row : goal.returns-clause-row
returns-clause-row c =
    let s : List ℤ = c.copy_from_slice.new.self in
    let same : s ≡ c.args.voice.now.samples = search rules in
    let long : length s ≡ 12 = rw same (search rules) in
    take_at s _ 12 long ∙ same
