-- In which order the calls come that make outputs. Those made at once have three phases, and each call is of the phase that its kind says: so before a
-- write all creations were made, and before an ending all writes. Where one output is made after another, all before it are ended as it is created.
use Rattle.std.proofs.Common.{◌≡◌, inl, inr, ℕ, suc, ◌+◌, ◌-◌, Bool, true, false, List, [], ◌∷◌, ◌++◌, length, refl, sym, ap, ◌∙◌, subst, arith}
use Rattle.std.specs.Prelude.{replicate, slice_set}
use Rattle.std.specs.List.{AllByRecursion}
use Rattle.std.proofs.Math.Seq.{set-append_seam}
use Rattle.std.proofs.lemmas.List.{append_assoc, append-nil, length-append}
use Rattle.snd_host.specs.Calls.{Call, created, wrote, finished, spelled}
use Rattle.snd_host.specs.History.{ended_of}
use Rattle.snd_host.specs.Host.{Output}
use Rattle.snd_host.specs.Follows.{pushed}
use Rattle.snd_host.proofs.CallsInOrder.{pushed_more}
use Rattle.snd_host.proofs.EachCall.{each_as, one_of}
use Rattle.command_runner.specs.OutputCalls.{Target, IsWriteTo, AreWoven, numbered, bytes_to, creations, endings, MakesAtOnce, MakesInTurn}
use Rattle.command_runner.proofs.Flags.{one_flag}
use Rattle.command_runner.proofs.Fronts.{IsInEither, in_either}
use Rattle.command_runner.proofs.Woven.{bytes_more, write_to_is}

pub bytes_to-creations : (file n : ℕ) (outputs : List Output) → bytes_to file (creations n outputs) ≡ []
bytes_to-creations file n [] = refl
bytes_to-creations file n (o ∷ outputs) = bytes_to-creations file (n + 1) outputs

pub bytes_to-endings : (file : ℕ) (targets : List Target) → bytes_to file (endings targets) ≡ []
bytes_to-endings file [] = refl
bytes_to-endings file (t ∷ targets) = bytes_to-endings file targets

-- The kind of a call is the number that it is stored with: 4 of a creation, 6 of a write, 8 of an ending.
abbrev HasKind : ℕ → Call → Type 0
HasKind kind call = (spelled call).0.0 ≡ kind

are_creations : (n : ℕ) (outputs : List Output) → AllByRecursion (HasKind 4) (creations n outputs)
are_creations n [] = tt
are_creations n (o ∷ outputs) = (refl, are_creations (n + 1) outputs)

are_endings : (targets : List Target) → AllByRecursion (HasKind 8) (endings targets)
are_endings [] = tt
are_endings (t ∷ targets) = (refl, are_endings targets)

are_writes : (targets : List Target) (calls : List Call) → AreWoven targets calls → AllByRecursion (HasKind 6) calls
are_writes targets calls woven = each_as (IsWriteTo targets) (HasKind 6) (write_to_is targets (HasKind 6) (λ file bytes among some. refl)) calls woven.each

kind_of : (kind : ℕ) (calls before after : List Call) (call : Call) → AllByRecursion (HasKind kind) calls → calls ≡ before ++ call ∷ after → HasKind kind call
kind_of kind calls before after call each is = one_of (HasKind kind) before after call (subst (AllByRecursion (HasKind kind)) is each)

front_empty : {A : Type 0} (xs ys : List A) → xs ++ ys ≡ [] → xs ≡ []
front_empty [] ys none = refl
front_empty (x ∷ xs) ys none = absurd (cc)

module _ (n : ℕ) (outputs : List Output) (before after : List Call) where
  pub all_created : (file : ℕ) (bytes : List ℕ) → MakesAtOnce n outputs (before ++ wrote file bytes ∷ after) → (rest : List Call) × (before ≡ creations n outputs ++ rest)
  all_created file bytes t = by (in_either before (wrote file bytes) after t.front t.back t.split)
    where
      by : IsInEither before (wrote file bytes) after t.front t.back → (rest : List Call) × (before ≡ creations n outputs ++ rest)
      by (inl place) = let kind = kind_of 4 t.front before place.0 (wrote file bytes) (subst (AllByRecursion (HasKind 4)) (sym t.does_first) (are_creations n outputs)) place.1 in absurd (cc)
      by (inr place) = (place.0, place.1 ∙ ap (λ (l : List Call). l ++ place.0) t.does_first)

  pub all_whole : (file : ℕ) → MakesAtOnce n outputs (before ++ finished file ∷ after) → AllByRecursion (λ target. bytes_to target.0 before ≡ target.1) (numbered n outputs)
  all_whole file t = by (in_either before (finished file) after t.front t.back t.split)
    where
      targets : List Target
      targets = numbered n outputs

      AreWhole : Type 0
      AreWhole = AllByRecursion (λ target. bytes_to target.0 before ≡ target.1) targets

      behind : (more : List Call) → before ≡ t.front ++ more → IsInEither more (finished file) after t.does_second.front t.does_second.back → AreWhole
      behind more is (inl place) = let kind = kind_of 6 t.does_second.front more place.0 (finished file) (are_writes targets t.does_second.front t.does_second.does_first) place.1 in absurd (cc)
      behind more is (inr place) =
          each_as (λ target. bytes_to target.0 t.does_second.front ≡ target.1) (λ target. bytes_to target.0 before ≡ target.1) (λ target whole. all target.0 ∙ whole) targets t.does_second.does_first.joined
        where
          no_more : (number : ℕ) → bytes_to number place.0 ≡ []
          no_more number =
              front_empty (bytes_to number place.0) (bytes_to number (finished file ∷ after))
              (sym (bytes_more number place.0 (finished file ∷ after)) ∙ ap (bytes_to number) (sym place.2 ∙ t.does_second.does_second) ∙ bytes_to-endings number targets)

          all : (number : ℕ) → bytes_to number before ≡ bytes_to number t.does_second.front
          all number =
              ap (bytes_to number) is ∙ bytes_more number t.front more
              ∙ ap (λ (l : List ℕ). l ++ bytes_to number more) (ap (bytes_to number) t.does_first ∙ bytes_to-creations number n outputs)
              ∙ ap (bytes_to number) place.1 ∙ bytes_more number t.does_second.front place.0
              ∙ ap (λ (l : List ℕ). bytes_to number t.does_second.front ++ l) (no_more number) ∙ append-nil (bytes_to number t.does_second.front)

      by : IsInEither before (finished file) after t.front t.back → AreWhole
      by (inl place) = let kind = kind_of 4 t.front before place.0 (finished file) (subst (AllByRecursion (HasKind 4)) (sym t.does_first) (are_creations n outputs)) place.1 in absurd (cc)
      by (inr place) = behind place.0 place.1 (in_either place.0 (finished file) after t.does_second.front t.does_second.back (sym place.2 ∙ t.does_second.split))

-- Of the calls that make one output the creation is the first.
first_call : (n : ℕ) (output : Output) (before after : List Call) (name : List ℕ) (file : ℕ) → MakesAtOnce n (output ∷ []) (before ++ created name file ∷ after) → before ≡ []
first_call n output before after name file t = by (in_either before (created name file) after t.front t.back t.split)
  where
    only : (xs : List Call) (x y : Call) (ys : List Call) → x ∷ [] ≡ xs ++ y ∷ ys → xs ≡ []
    only [] x y ys is = refl
    only (z ∷ []) x y ys is = absurd (cc)
    only (z ∷ w ∷ xs) x y ys is = absurd (cc)

    behind : (more : List Call) → IsInEither more (created name file) after t.does_second.front t.does_second.back → before ≡ []
    behind more (inl place) =
        let kind = kind_of 6 t.does_second.front more place.0 (created name file) (are_writes (numbered n (output ∷ [])) t.does_second.front t.does_second.does_first) place.1 in absurd (cc)
    behind more (inr place) =
        let kind = kind_of 8 t.does_second.back place.0 after (created name file) (subst (AllByRecursion (HasKind 8)) (sym t.does_second.does_second) (are_endings (numbered n (output ∷ [])))) place.2 in absurd (cc)

    by : IsInEither before (created name file) after t.front t.back → before ≡ []
    by (inl place) = only before (created output.name n) (created name file) place.0 (sym t.does_first ∙ place.1)
    by (inr place) = behind place.0 (in_either place.0 (created name file) after t.does_second.front t.does_second.back (sym place.2 ∙ t.does_second.split))

-- One output that was made is ended.
made_ended : (n : ℕ) (output : Output) (calls history : List Call) → n ≡ length (ended_of history) + 2 → MakesAtOnce n (output ∷ []) calls → ended_of (pushed calls history) ≡ ended_of history ++ true ∷ []
made_ended n output calls history number t =
    let place : n - 2 ≡ length (ended_of history) = omega arith in
    one_flag n output calls history t
    ∙ ap (λ (k : ℕ). slice_set (ended_of history ++ false ∷ []) k true) place
    ∙ set-append_seam (ended_of history) false [] true

-- So many outputs more were created and ended.
abbrev AreEnded : (history before : List Call) → Type 0
AreEnded history before = (count : ℕ) × (ended_of (pushed before history) ≡ ended_of history ++ replicate count true)

pub all_ended_before : (n : ℕ) (outputs : List Output) (before after history : List Call) (name : List ℕ) (file : ℕ) → n ≡ length (ended_of history) + 2 → MakesInTurn n outputs (before ++ created name file ∷ after) → AreEnded history before
all_ended_before n [] before after history name file number none = absurd (some before none)
  where
    some : (xs : List Call) → xs ++ created name file ∷ after ≡ [] → ⊥
    some [] none = absurd (cc)
    some (x ∷ xs) none = absurd (cc)
all_ended_before n (o ∷ outputs) before after history name file number t =
    by (λ calls. all_ended_before (n + 1) outputs calls after (pushed t.front history) name file) (in_either before (created name file) after t.front t.back t.split)
  where
    none_yet : AreEnded history []
    none_yet = (0, sym (append-nil (ended_of history)))

    by : ((calls : List Call) → n + 1 ≡ length (ended_of (pushed t.front history)) + 2 → MakesInTurn (n + 1) outputs (calls ++ created name file ∷ after) → AreEnded (pushed t.front history) calls) →
        IsInEither before (created name file) after t.front t.back → AreEnded history before
    by more (inl place) = subst (AreEnded history) (sym (first_call n o before place.0 name file (subst (MakesAtOnce n (o ∷ [])) place.1 t.does_first))) none_yet
    by more (inr place) =
        let ended = made_ended n o t.front history number t.does_first in
        let next : n + 1 ≡ length (ended_of (pushed t.front history)) + 2 = let e = ap (length {A = Bool}) ended in omega (arith, number, e, length-append (ended_of history) (true ∷ [])) in
        let rest = more place.0 next (subst (MakesInTurn (n + 1) outputs) place.2 t.does_second) in (
          suc rest.0,
          ap (λ (l : List Call). ended_of (pushed l history)) place.1 ∙ ap ended_of (pushed_more t.front place.0 history) ∙ rest.1
              ∙ ap (λ (l : List Bool). l ++ replicate rest.0 true) ended ∙ append_assoc (ended_of history) (true ∷ []) (replicate rest.0 true),
        )
