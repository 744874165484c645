use Rattle.dsp_core.specs.DspChip.{dsp_chip}
use Rattle.tune_opening.specs.Tune.{opened_tune}
use Rattle.muted_runs.proofs.TracedRuns.{run_frames-mask}
use Rattle.muted_runs.proofs.laws.tracing_is_not_heard.Goals as goal

pub returns : goal.returns
returns c = λ file table muted mask other samples.
    let tune = opened_tune file table muted other in
    run_frames-mask dsp_chip samples tune.0 tune.1 mask
