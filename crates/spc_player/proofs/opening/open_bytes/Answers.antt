use Rattle.std.proofs.Common.{◌≡◌, Ok}
use Rattle.spc_player.specs.Inputs.{Inputs, inputs_from, inputs_of}
use Rattle.spc_player.proofs.opening.open_bytes.Goals as goal

pub returns-clause-opened : goal.returns-clause-opened
returns-clause-opened c =
    let inputs : Inputs = record { file = c.in_ok-file.file; weights = c.in_ok-weights.weights } in
    let same : inputs_of c.args.bytes.now c.args.table.now ≡ Ok inputs = λ i. inputs_from (c.in_ok-file.ensures.file i) (c.in_ok-weights.ensures.table i) in
    (inputs, same, c.in_ok-player.ensures.opening)
