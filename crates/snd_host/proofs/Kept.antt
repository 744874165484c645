-- What calls leave as it was, where each of them does.
use Rattle.std.proofs.Common.{◌≡◌, List, [], ◌∷◌, refl, ap, ◌∙◌}
use Rattle.std.specs.List.{AllByRecursion}
use Rattle.snd_host.specs.Calls.{Call}
use Rattle.snd_host.specs.Follows.{pushed, failure_of, IsCut, IsBegun}
use Rattle.snd_host.proofs.CallsInOrder.{pushed_more}
use Rattle.snd_host.proofs.EachCall.{Each, all_first, one_of}

-- A call leaves this as it was.
abbrev pub Keeps : {A : Type 0} → (List Call → A) → Call → Type 0
Keeps f call = (history : List Call) → f (call ∷ history) ≡ f history

pub kept : {A : Type 0} (f : List Call → A) (calls history : List Call) → AllByRecursion (Keeps f) calls → f (pushed calls history) ≡ f history
kept f [] history each = refl
kept f (call ∷ calls) history each = kept f calls (call ∷ history) each.1 ∙ each.0 history

-- the failed call comes after those before it
pub cut_is : {A : Type 0} (f : List Call → A) (Does : List Call → Type 0) (calls history : List Call) (cut : IsCut Does calls) → f (pushed calls history) ≡ f (failure_of cut.call ∷ pushed cut.done history)
cut_is f Does calls history cut = ap (λ (l : List Call). f (pushed l history)) cut.cut ∙ ap f (pushed_more cut.done (failure_of cut.call ∷ []) history)

module _ {A : Type 0} (f : List Call → A) (Does : List Call → Type 0) (keeps : Each (Keeps f) Does) where
  -- up to a call that failed, which leaves it too
  pub kept_cut : Each (λ call. Keeps f (failure_of call)) Does → (calls history : List Call) → IsCut Does calls → f (pushed calls history) ≡ f history
  kept_cut fails calls history cut =
      cut_is f Does calls history cut
      ∙ one_of (λ call. Keeps f (failure_of call)) cut.done cut.rest cut.call (fails _ cut.whole) (pushed cut.done history)
      ∙ kept f cut.done history (all_first (Keeps f) cut.done (cut.call ∷ cut.rest) (keeps _ cut.whole))

  -- up to some moment
  pub kept_begun : (calls history : List Call) → IsBegun Does calls → f (pushed calls history) ≡ f history
  kept_begun calls history begun = kept f calls history (all_first (Keeps f) calls begun.rest (keeps _ begun.whole))
