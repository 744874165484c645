use Rattle.std.proofs.Common.{rules, refl}
use Rattle.command_runner.specs.Plan.{stream_makes}
use Rattle.command_runner.proofs.Flags.{can_deliver_still}
use Rattle.command_runner.proofs.Attempting.{attempts, attempts_no_usage, carries_same}
use Rattle.command_render.specs.Render.{render_over}
use Rattle.render_files.specs.RenderFiles.{to_come_of, report_of}
use Rattle.dsp_core.specs.DspChip.{dsp_chip}
use Rattle.command_render.specs.Options.{options_of}
use Rattle.command_render.proofs.command.render.Goals as goal

pub carry_stream-requires : goal.carry_stream-requires
carry_stream-requires g c = can_deliver_still (stream_makes (to_come_of dsp_chip) (report_of dsp_chip)) (render_over c.args.wave.now (options_of c.args.options)) _ _ c.prepare-prepared.result c.prepare-prepared.ensures c.requires.outputs

pub returns-clause-attempts : goal.returns-clause-attempts
returns-clause-attempts g c =
    attempts (stream_makes (to_come_of dsp_chip) (report_of dsp_chip)) (render_over c.args.wave.now (options_of c.args.options))
    (g.H.Host.state c.args.host.now) (g.H.Host.state c.prepare-prepared.new.host) (g.H.Host.state c.carry_stream.new.host)
    c.prepare-prepared.result c.carry_stream.result _ c.prepare-prepared.ensures
    (carries_same (stream_makes (to_come_of dsp_chip) (report_of dsp_chip)) c.prepare-prepared.result _ _ _ _ c.carry_stream.ensures (search rules)) (search rules)

pub returns-clause-not_usage : goal.returns-clause-not_usage
returns-clause-not_usage g c = λ usage.
    attempts_no_usage (stream_makes (to_come_of dsp_chip) (report_of dsp_chip)) (render_over c.args.wave.now (options_of c.args.options))
    (g.H.Host.state c.args.host.now) (g.H.Host.state c.prepare-prepared.new.host) (g.H.Host.state c.carry_stream.new.host)
    c.prepare-prepared.result c.carry_stream.result c.carry_stream.result c.prepare-prepared.ensures
    (carries_same (stream_makes (to_come_of dsp_chip) (report_of dsp_chip)) c.prepare-prepared.result _ _ _ _ c.carry_stream.ensures (search rules)) refl (search rules)
