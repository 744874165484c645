use Rattle.std.proofs.Common.{◌+◌, pos, arith}
use Rattle.std.proofs.lemmas.List.{get_or-replicate}
use Rattle.voice_batch.proofs.sounding.put_silence.Goals as goal

pub returns-then-at-eq0-clause-outs : goal.returns-then-at-eq0-clause-outs
returns-then-at-eq0-clause-outs c j below = get_or-replicate 64 (c.args.at + j) (pos 0) (pos 0) (omega (arith, below, c.requires))
