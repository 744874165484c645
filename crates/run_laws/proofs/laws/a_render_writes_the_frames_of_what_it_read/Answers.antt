use Rattle.run_laws.proofs.Rendering.{writes_frames}
use Rattle.run_laws.proofs.laws.a_render_writes_the_frames_of_what_it_read.Goals as goal

pub returns : goal.returns
returns c = λ file table wave options old new run. writes_frames file table wave options old new run
