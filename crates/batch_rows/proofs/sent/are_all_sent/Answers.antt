use Rattle.std.proofs.Common.{rules, ◌≡◌, ◌<◌, ◌++◌, ◌∷◌, [], ℕ, true, length, get_or, take, sym, ◌∙◌, arith}
use Rattle.std.proofs.lemmas.List.{map_more, take_all, take_more}
use Rattle.dsp_state.specs.Volumes.{no_volumes}
use Rattle.dsp_state.specs.declared.volumes.Volumes.{Volumes}
use Rattle.batch_rows.specs.Sent.{sent_whole}
use Rattle.batch_rows.proofs.sent.are_all_sent.Goals as goal

pub loop-v-preserved : goal.loop-v-preserved
loop-v-preserved c =
    let v : ℕ = c.loop-v.v in
    let is_so : c.is_sent_whole.result ≡ true = search rules in
    let within : v < length c.args.volumes.now = rw c.told-volumes c.loop-v-test.true in
    let one : Volumes = get_or c.args.volumes.now v no_volumes in
    let whole : sent_whole one ≡ one = c.is_sent_whole.ensures is_so in
    map_more sent_whole c.args.volumes.now v no_volumes within ∙ ((λ i. c.loop-v.invariant i ++ whole i ∷ []) ∙ sym (take_more c.args.volumes.now v no_volumes within))

pub returns : goal.returns
returns c is_so =
    let all : c.loop-v.v ≡ 8 = search rules in
    let whole : take 8 c.args.volumes.now ≡ c.args.volumes.now = take_all 8 c.args.volumes.now (omega (arith, c.told-volumes)) in
    rw whole at (rw all at c.loop-v.invariant)
