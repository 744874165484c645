use Rattle.voice_batch.proofs.RenderedSpan.{unmodulated_phases}
use Rattle.voice_batch.proofs.RowOfVoice.{plays_row, reads_row}
use Rattle.voice_batch.proofs.laws.kept_rows.Goals as goal

pub returns-clause-plays : goal.returns-clause-plays
returns-clause-plays c = plays_row

pub returns-clause-stands : goal.returns-clause-stands
returns-clause-stands c = reads_row

pub returns-clause-unmodulated : goal.returns-clause-unmodulated
returns-clause-unmodulated c = unmodulated_phases
