use Rattle.std.proofs.Common.{◌∙◌, ℕ, List, ◌++◌, ap}
use Rattle.demo_gen.specs.Samples.{directory_entry}
use Rattle.demo_gen.proofs.OneMoreDraw.{joined-none, joined-next}
use Rattle.demo_gen.proofs.samples.put_directory.Goals as goal

pub loop-sample-init : goal.loop-sample-init
loop-sample-init c = joined-none _ _

pub loop-sample-preserved : goal.loop-sample-preserved
loop-sample-preserved c =
    c.in_ok-extend_from_slice.ensures.items ∙ ap (λ (entry : List ℕ). c.loop-sample.file.items ++ entry) c.directory_entry.ensures
    ∙ joined-next _ _ c.loop-sample.sample directory_entry c.loop-sample.invariant
