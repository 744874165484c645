-- A call of a host that gives and takes one byte at a time, by the call of the host inside: what the two lists come to is the same, so one agrees with what
-- the names hold, and with what a steady host does, where the other does.
use Rattle.std.proofs.Common.{◌≡◌, ◌≤◌, ◌<◌, ◌+◌, ℕ, Bool, List, [], ◌∷◌, ◌++◌, length, take, Option, Some, Ok, Err, refl, sym, ap, ◌∙◌, subst}
use Rattle.std.specs.Prelude.{◌⊎◌, Result, IfOk}
use Rattle.std.proofs.lemmas.List.{take-append-le}
use Rattle.std.proofs.lemmas.Option.{same_Some}
use Rattle.snd_host.specs.Calls.{Call, opened, not_opened, read, not_read, created, not_created, wrote, not_written, finished, not_finished, read_call}
use Rattle.snd_host.specs.Host.{HostState, Files, IsPrefix, longest_output_name}
use Rattle.snd_host.specs.History.{IsTrueOf, IsSteadyCall, rooms_after, ended_of, left_of}
use Rattle.snd_host.specs.Follows.{Makes}
use Rattle.snd_host.specs.Memory.{memory_state, names_of}
use Rattle.snd_host.specs.Drip.{drip_state}
use Rattle.snd_host.specs.declared.drip.DripHost.{DripHost}

true_alike : (files : Files) (before now : List Call) → left_of files before ≡ left_of files now → (call : Call) → IsTrueOf files before call → IsTrueOf files now call
true_alike files before now same (opened name file) h = h
true_alike files before now same (not_opened name) h = h
true_alike files before now same (read file room bytes) h = subst (λ (l : List ℕ). IsPrefix bytes l × (bytes ≡ [] → 0 < room → l ≡ [])) same h
true_alike files before now same (not_read file room) h = h
true_alike files before now same (created name file) h = h
true_alike files before now same (not_created name) h = h
true_alike files before now same (wrote file bytes) h = h
true_alike files before now same (not_written file piece) h = h
true_alike files before now same (finished file) h = h
true_alike files before now same (not_finished file) h = h

steady_alike : (holds : Option Files) (rooms : List ℕ) (before now : List Call) → ended_of before ≡ ended_of now → (call : Call) → IsSteadyCall holds rooms before call → IsSteadyCall holds rooms now call
steady_alike holds rooms before now same (opened name file) h = h
steady_alike holds rooms before now same (not_opened name) h = h
steady_alike holds rooms before now same (read file room bytes) h = h
steady_alike holds rooms before now same (not_read file room) h = h
steady_alike holds rooms before now same (created name file) h = h
steady_alike holds rooms before now same (not_created name) h = subst (λ (e : List Bool). (length rooms ≤ length e + 2) ⊎ (longest_output_name < length name)) same h
steady_alike holds rooms before now same (wrote file bytes) h = h
steady_alike holds rooms before now same (not_written file piece) h = h
steady_alike holds rooms before now same (finished file) h = h
steady_alike holds rooms before now same (not_finished file) h = h

-- the call, by that of the host inside, which agrees where this does
pub drip_makes : (host : DripHost) (call inner : Call) (b j : HostState) → b.calls ≡ call ∷ host.log.calls → b.holds ≡ j.holds → b.steady ≡ j.steady →
    ((files : Files) → IsTrueOf files host.host.log.calls inner → IsTrueOf files host.host.log.calls call) →
    ((holds : Option Files) (rooms : List ℕ) → IsSteadyCall holds rooms host.host.log.calls inner → IsSteadyCall holds rooms host.host.log.calls call × (rooms_after inner rooms ≡ rooms_after call rooms)) →
    Makes inner (memory_state host.host) j → Makes call (drip_state host) b
drip_makes host call inner b j noted holds steady is_true fair made = record {
  calls = noted;
  holds = holds ∙ made.holds;
  true = λ files known.
      let left = subst (λ (f : Files). left_of f host.host.log.calls ≡ left_of f host.log.calls) (same_Some (names_of host.host) files known) (sym host.left_is) in
      true_alike files host.host.log.calls host.log.calls left call (is_true files (made.true files known));
  steady = λ rooms known.
      let s = made.steady rooms known in
      let f = fair (Some (names_of host.host)) rooms s.0 in
      (steady_alike (Some (names_of host.host)) rooms host.host.log.calls host.log.calls (sym host.ended_is) call f.0, steady ∙ s.1 ∙ ap (λ (l : List ℕ). Some l) f.1);
}

-- the same call of both
pub drip_makes_same : (host : DripHost) (call : Call) (b j : HostState) → b.calls ≡ call ∷ host.log.calls → b.holds ≡ j.holds → b.steady ≡ j.steady → Makes call (memory_state host.host) j → Makes call (drip_state host) b
drip_makes_same host call b j noted holds steady made = drip_makes host call call b j noted holds steady (λ files h. h) (λ known rooms h. (h, λ i. rooms_after call rooms)) made

-- a read into the front of a buffer
pub drip_reads : {E : Type 0} (host : DripHost) (b j : HostState) (file room less : ℕ) (front rest : List ℕ) (result : Result ℕ E) → (0 < room → 0 < less) → IfOk result (λ count. count ≤ length front) →
    b.calls ≡ read_call file room (front ++ rest) result ∷ host.log.calls → b.holds ≡ j.holds → b.steady ≡ j.steady → Makes (read_call file less front result) (memory_state host.host) j → Makes (read_call file room (front ++ rest) result) (drip_state host) b
drip_reads host b j file room less front rest (Ok count) more within noted holds steady made =
    let left = λ (files : Files). left_of files host.host.log.calls in
    drip_makes host (read file room (take count (front ++ rest))) (read file less (take count front)) b j noted holds steady
    (λ files h. subst (λ (l : List ℕ). IsPrefix l (left files) × (l ≡ [] → 0 < room → left files ≡ [])) (sym (take-append-le count front rest within)) (h.0, λ none some. h.1 none (more some)))
    (λ known rooms h. (tt, refl)) made
drip_reads host b j file room less front rest (Err e) more within noted holds steady made =
    drip_makes host (not_read file room) (not_read file less) b j noted holds steady (λ files h. tt) (λ known rooms h. absurd h) made
