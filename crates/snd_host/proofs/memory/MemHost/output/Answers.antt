use Rattle.std.proofs.Common.{◌≡◌, [], sym, ◌∙◌, arith}
use Rattle.std.proofs.lemmas.Grind.{elements}
use Rattle.snd_host.proofs.MemCalls.{held_in, bytes_given-held}
use Rattle.snd_host.proofs.memory.MemHost.output.Goals as goal

pub returns-in-0 : goal.returns-in-0
returns-in-0 c = let held : c.as_slice.result.now ≡ held_in c.args.self.now c.args.file.0 = grind (arith, elements) in held ∙ sym (bytes_given-held c.args.self.now c.args.file.0)

pub returns-in-1 : goal.returns-in-1
returns-in-1 c = let held : c.as_slice-in-1.result.now ≡ held_in c.args.self.now c.args.file.0 = grind (arith, elements) in held ∙ sym (bytes_given-held c.args.self.now c.args.file.0)

pub returns-in-None : goal.returns-in-None
returns-in-None c = let held : [] ≡ held_in c.args.self.now c.args.file.0 = grind (arith, elements) in held ∙ sym (bytes_given-held c.args.self.now c.args.file.0)

pub returns-in-Some : goal.returns-in-Some
returns-in-Some c = let held : c.as_slice-in-Some.result.now ≡ held_in c.args.self.now c.args.file.0 = grind (arith, elements) in held ∙ sym (bytes_given-held c.args.self.now c.args.file.0)
