use Rattle.std.proofs.Common.{rules}
use Rattle.command_runner.specs.Plan.{stream_makes}
use Rattle.command_runner.proofs.Flags.{can_deliver_still}
use Rattle.command_runner.proofs.Attempting.{attempts, attempts_no_usage}
use Rattle.dsp_core.specs.DspChip.{dsp_chip, dsp_saving}
use Rattle.session_files.specs.SessionFiles.{to_come_of, report_of}
use Rattle.command_serve.specs.Serve.{serve_over}
use Rattle.command_serve.proofs.command.serve.Goals as goal

pub carry_stream-requires : goal.carry_stream-requires
carry_stream-requires g c = can_deliver_still (stream_makes (to_come_of dsp_chip dsp_saving) (report_of dsp_chip dsp_saving)) (serve_over c.args.wave.now c.args.options) _ _ c.prepare-prepared.result c.prepare-prepared.ensures c.requires.outputs

pub returns-clause-attempts : goal.returns-clause-attempts
returns-clause-attempts g c =
    attempts (stream_makes (to_come_of dsp_chip dsp_saving) (report_of dsp_chip dsp_saving)) (serve_over c.args.wave.now c.args.options)
    (g.H.Host.state c.args.host.now) (g.H.Host.state c.prepare-prepared.new.host) (g.H.Host.state c.carry_stream.new.host)
    c.prepare-prepared.result c.carry_stream.result _ c.prepare-prepared.ensures c.carry_stream.ensures (search rules)

pub returns-clause-not_usage : goal.returns-clause-not_usage
returns-clause-not_usage g c =
    attempts_no_usage (stream_makes (to_come_of dsp_chip dsp_saving) (report_of dsp_chip dsp_saving)) (serve_over c.args.wave.now c.args.options)
    (g.H.Host.state c.args.host.now) (g.H.Host.state c.prepare-prepared.new.host) (g.H.Host.state c.carry_stream.new.host)
    c.prepare-prepared.result c.carry_stream.result _ c.prepare-prepared.ensures c.carry_stream.ensures (search rules)
