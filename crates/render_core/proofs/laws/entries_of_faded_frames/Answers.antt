use Rattle.render_core.proofs.FadedFrames.{entry-faded_frames, length-faded_from}
use Rattle.std.proofs.Common.{length}
use Rattle.render_core.proofs.laws.entries_of_faded_frames.Goals as goal

pub returns-clause-entries : goal.returns-clause-entries
returns-clause-entries c = entry-faded_frames

pub returns-clause-count : goal.returns-clause-count
returns-clause-count c = λ frames fade. length-faded_from frames 0 (length frames) fade
