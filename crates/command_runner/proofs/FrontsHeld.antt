-- What each of several inputs gave is the front of what its name holds.
use Rattle.std.proofs.Common.{◌≡◌, ℕ, zero, suc, Bool, true, false, List, [], ◌∷◌, Some, subst, if◌then◌else◌}
use Rattle.std.specs.Prelude.{slice_get}
use Rattle.snd_host.specs.Calls.{Call}
use Rattle.snd_host.specs.Follows.{pushed}
use Rattle.snd_host.specs.History.{AreTrueOf}
use Rattle.snd_host.specs.Host.{Files}
use Rattle.snd_host.specs.Takes.{GaveFront}
use Rattle.snd_host.proofs.Held.{AreTrueOf-append, gave_front}
use Rattle.command_runner.specs.NamedInputs.{NamedInput, TakesInOrder}

-- those that are read next, if any is
if_read : (b : Bool) (inputs : List NamedInput) (place : ℕ) (input : NamedInput) (given : List (List ℕ)) (bytes : List ℕ) (calls : List Call) → TakesInOrder (if b then inputs else []) given calls → slice_get given place ≡ Some bytes → TakesInOrder inputs given calls
if_read true inputs place input given bytes calls takes is = takes
if_read false inputs place input given bytes calls takes is = let none : slice_get [] place ≡ Some bytes = subst (λ (l : List (List ℕ)). slice_get l place ≡ Some bytes) takes.0 is in absurd (cc)

pub each_gave_front : (files : Files) (inputs : List NamedInput) (given : List (List ℕ)) (taken history : List Call) (place : ℕ) (input : NamedInput) (bytes : List ℕ) → TakesInOrder inputs given taken → AreTrueOf files history taken →
    slice_get inputs place ≡ Some input → slice_get given place ≡ Some bytes → GaveFront files input.name input.limit bytes
each_gave_front files [] given taken history place input bytes takes all here gave = absurd (cc)
each_gave_front files (i ∷ inputs) [] taken history place input bytes takes all here gave = absurd takes
each_gave_front files (i ∷ inputs) (g ∷ given) taken history zero input bytes takes all here gave =
    let parts = AreTrueOf-append files history takes.front takes.back (subst (AreTrueOf files history) takes.split all) in
    let same : i ≡ input = cc in
    let got : g ≡ bytes = cc in
    subst (λ (input : NamedInput). GaveFront files input.name input.limit bytes) same
    (subst (GaveFront files i.name i.limit) got (gave_front files i.name i.limit g takes.front history takes.does_first parts.0))
each_gave_front files (i ∷ inputs) (g ∷ given) taken history (suc place) input bytes takes all here gave =
    let parts = AreTrueOf-append files history takes.front takes.back (subst (AreTrueOf files history) takes.split all) in
    each_gave_front files inputs given takes.back (pushed takes.front history) place input bytes (if_read (i.accepts (Some g)) inputs place input given bytes takes.back takes.does_second gave) parts.1 here gave
