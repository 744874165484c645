-- What an input gave is the front of what its name holds: each read gives the next bytes of what is left, so the reads join to a front of it, and they
-- end where nothing is left or where the limit is passed.
use Rattle.std.proofs.Common.{◌≡◌, ◌⊎◌, inl, inr, ℕ, ◌+◌, ◌≤◌, ◌<◌, List, [], ◌∷◌, ◌++◌, Some, length, take, length-take, drop, rules, refl, sym, ap, ◌∙◌, subst, arith}
use Rattle.std.specs.Prelude.{Option, unwrap_or, IsSome}
use Rattle.std.specs.List.{AllByRecursion}
use Rattle.std.proofs.lemmas.List.{append_assoc, append-nil, take_all, take-append-le}
use Rattle.snd_host.specs.Calls.{Call, opened, not_opened, read, not_read, created, not_created, wrote, not_written, finished, not_finished}
use Rattle.snd_host.specs.Host.{Files, IsPrefix}
use Rattle.snd_host.specs.Follows.{pushed}
use Rattle.snd_host.specs.Takes.{Takes, GivesSome, GaveFront, bytes_read}
use Rattle.snd_host.proofs.Taking.{either}
use Rattle.snd_host.specs.History.{left_of, AreTrueOf}

pub AreTrueOf-append : (files : Files) (history xs ys : List Call) → AreTrueOf files history (xs ++ ys) → AreTrueOf files history xs × AreTrueOf files (pushed xs history) ys
AreTrueOf-append files history [] ys all = (tt, all)
AreTrueOf-append files history (x ∷ xs) ys all = let more = AreTrueOf-append files (x ∷ history) xs ys all.1 in ((all.0, more.0), more.1)

drop-prefix : (part whole : List ℕ) (p : IsPrefix part whole) → drop (length part) whole ≡ p.rest
drop-prefix part whole p = ap (drop (length part)) (sym p.split) ∙ dropped part p.rest
  where
    dropped : (xs ys : List ℕ) → drop (length xs) (xs ++ ys) ≡ ys
    dropped [] ys = refl
    dropped (x ∷ xs) ys = dropped xs ys

-- reads give what is left, in order
left_of-reads : (files : Files) (file : ℕ) (reads history : List Call) → AllByRecursion (GivesSome file) reads → AreTrueOf files history reads →
    left_of files history ≡ bytes_read reads ++ left_of files (pushed reads history)
left_of-reads files file [] history each all = refl
left_of-reads files file (read n room bytes ∷ reads) history each all =
    sym all.0.0.split
    ∙ ap (λ (l : List ℕ). bytes ++ l) (sym (drop-prefix bytes (left_of files history) all.0.0) ∙ left_of-reads files file reads (read n room bytes ∷ history) each.1 all.1)
    ∙ sym (append_assoc bytes (bytes_read reads) _)
left_of-reads files file (opened name n ∷ xs) history each all = absurd each.0
left_of-reads files file (not_opened name ∷ xs) history each all = absurd each.0
left_of-reads files file (not_read n room ∷ xs) history each all = absurd each.0
left_of-reads files file (created name n ∷ xs) history each all = absurd each.0
left_of-reads files file (not_created name ∷ xs) history each all = absurd each.0
left_of-reads files file (wrote n bytes ∷ xs) history each all = absurd each.0
left_of-reads files file (not_written n piece ∷ xs) history each all = absurd each.0
left_of-reads files file (finished n ∷ xs) history each all = absurd each.0
left_of-reads files file (not_finished n ∷ xs) history each all = absurd each.0

is_there : (held : Option (List ℕ)) → IsSome held → held ≡ Some (unwrap_or held [])
is_there held there = search rules

pub gave_front : (files : Files) (name : List ℕ) (limit : ℕ) (bytes : List ℕ) (calls history : List Call) → Takes name limit bytes calls → AreTrueOf files history calls → GaveFront files name limit bytes
gave_front files name limit bytes calls history takes all = record { content = unwrap_or (files name) []; there = is_there (files name) parts.0.0; front = front (either (length bytes) limit) }
  where
    parts : AreTrueOf files history (opened name takes.file ∷ takes.reads) × AreTrueOf files (pushed takes.reads (opened name takes.file ∷ history)) takes.end
    parts = AreTrueOf-append files history (opened name takes.file ∷ takes.reads) takes.end (subst (AreTrueOf files history) takes.split all)

    whole : unwrap_or (files name) [] ≡ bytes ++ left_of files (pushed takes.reads (opened name takes.file ∷ history))
    whole = left_of-reads files takes.file takes.reads (opened name takes.file ∷ history) takes.each parts.0.1
        ∙ ap (λ (l : List ℕ). l ++ left_of files (pushed takes.reads (opened name takes.file ∷ history))) takes.joined

    front : (length bytes ≤ limit) ⊎ (limit < length bytes) → bytes ≡ take (limit + 1) (unwrap_or (files name) [])
    front (inl short) =
        let last = takes.ends.whole short in
        let end = subst (AreTrueOf files (pushed takes.reads (opened name takes.file ∷ history))) last.2 parts.1 in
        let none = end.0.1 refl last.1 in
        let all_given : unwrap_or (files name) [] ≡ bytes = whole ∙ ap (λ (l : List ℕ). bytes ++ l) none ∙ append-nil bytes in
        sym (take_all (limit + 1) bytes (omega arith)) ∙ ap (take (limit + 1)) (sym all_given)
    front (inr long) =
        let size : length bytes ≡ limit + 1 = omega (arith, takes.within) in
        sym (take_all (limit + 1) bytes (omega arith))
        ∙ sym (take-append-le (limit + 1) bytes (left_of files (pushed takes.reads (opened name takes.file ∷ history))) (omega arith))
        ∙ ap (take (limit + 1)) (sym whole)

-- an input that was read to its end gave all
pub gave_all : (files : Files) (name : List ℕ) (limit : ℕ) (bytes : List ℕ) (calls history : List Call) → Takes name limit bytes calls → AreTrueOf files history calls → length bytes ≤ limit → files name ≡ Some bytes
gave_all files name limit bytes calls history takes all short =
    let gave = gave_front files name limit bytes calls history takes all in
    let few : length gave.content ≤ limit + 1 = omega (arith, ap (length {A = ℕ}) gave.front, length-take (limit + 1) gave.content, short) in
    gave.there ∙ ap (λ (l : List ℕ). Some l) (sym (gave.front ∙ take_all (limit + 1) gave.content few))
