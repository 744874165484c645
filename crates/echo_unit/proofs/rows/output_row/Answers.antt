use Rattle.std.proofs.Common.{◌≡◌, true, false, refl, sym, ◌∙◌}
use Rattle.std.proofs.lemmas.List.{get_or-replicate}
use Rattle.echo_unit.specs.Echo.{silent_frame, output_frame}
use Rattle.echo_unit.specs.Flg.{is_muted}
use Rattle.echo_unit.proofs.rows.output_row.Goals as goal

pub returns-then-is_muted : goal.returns-then-is_muted
unfolding output_frame
returns-then-is_muted c j below =
    let muted : is_muted c.args.regs.now.flg ≡ true = sym c.is_muted.ensures ∙ c.if-is_muted.true in
    get_or-replicate 64 j silent_frame silent_frame below ∙ rw muted refl

pub returns : goal.returns
returns c =
    let unmuted : is_muted c.args.regs.now.flg ≡ false = sym c.is_muted.ensures ∙ c.if-is_muted.false in
    c.row_of_frames.ensures unmuted
