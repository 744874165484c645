-- What is answered by what the inputs gave is what is answered by what their names hold: each input gave the front of what its name holds, up to its
-- limit and one byte, and the answer depends on no more of it.
use Rattle.std.proofs.Common.{◌≡◌, ℕ, Bool, true, false, List, [], ◌∷◌, Some, refl, sym, ap, ◌∙◌, subst, if◌then◌else◌}
use Rattle.snd_host.specs.Calls.{Call}
use Rattle.snd_host.specs.Host.{Files}
use Rattle.snd_host.specs.Follows.{pushed}
use Rattle.snd_host.specs.Takes.{GaveFront}
use Rattle.command_runner.specs.Answer.{Answer}
use Rattle.command_runner.specs.NamedInputs.{NamedInput, Held, held_by, held_of, TakesInOrder}
use Rattle.run_laws.specs.GoesBy.{GoesBy, GoesByFirst}
use Rattle.snd_host.specs.History.{AreTrueOf}
use Rattle.snd_host.proofs.Held.{AreTrueOf-append, gave_front}

-- an input that gave its front may stand for what its name holds
pub answer-front : {C : Type 0} (files : Files) (input : NamedInput) (answer : Held → Answer C) (bytes : List ℕ) (rest : Held) → GoesByFirst input answer → GaveFront files input.name input.limit bytes →
    answer (files input.name ∷ rest) ≡ answer (Some bytes ∷ rest)
answer-front files input answer bytes rest goes gave =
    ap (λ held. answer (held ∷ rest)) gave.there ∙ goes.limited gave.content rest ∙ ap (λ (l : List ℕ). answer (Some l ∷ rest)) (sym gave.front)

-- the same of those that are read after it, if any is
rest-given : {C : Type 0} (files : Files) (inputs : List NamedInput) (answer : Held → Answer C) (input : NamedInput) (bytes : List ℕ) (given : List (List ℕ)) (calls history : List Call) →
    GoesByFirst input answer → (input.accepts (Some bytes) ≡ true → TakesInOrder inputs given calls → answer (Some bytes ∷ held_of given) ≡ answer (Some bytes ∷ held_by files inputs)) →
    (b : Bool) → input.accepts (Some bytes) ≡ b → TakesInOrder (if b then inputs else []) given calls → answer (Some bytes ∷ held_of given) ≡ answer (Some bytes ∷ held_by files inputs)
rest-given files inputs answer input bytes given calls history goes more true is takes = more is takes
rest-given files inputs answer input bytes given calls history goes more false is none = goes.refused_alone bytes (held_of given) (held_by files inputs) is

pub answer-given : {C : Type 0} (files : Files) (inputs : List NamedInput) (answer : Held → Answer C) (given : List (List ℕ)) (taken history : List Call) →
    GoesBy inputs answer → TakesInOrder inputs given taken → AreTrueOf files history taken → answer (held_of given) ≡ answer (held_by files inputs)
answer-given files [] answer given taken history goes takes all = ap (λ (l : List (List ℕ)). answer (held_of l)) takes.0
answer-given files (input ∷ inputs) answer [] taken history goes takes all = absurd takes
answer-given {C = C} files (input ∷ inputs) answer (bytes ∷ given) taken history goes takes all =
    let parts = AreTrueOf-append files history takes.front takes.back (subst (AreTrueOf files history) takes.split all) in
    rest-given files inputs answer input bytes given takes.back history goes.0
    (λ is more. answer-given files inputs (λ l. answer (Some bytes ∷ l)) given takes.back (pushed takes.front history) (goes.1 bytes is) more parts.1)
    (input.accepts (Some bytes)) refl takes.does_second
    ∙ sym (answer-front files input answer bytes (held_by files inputs) goes.0 (gave_front files input.name input.limit bytes takes.front history takes.does_first parts.0))
