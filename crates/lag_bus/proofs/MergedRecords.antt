-- What a merge of voice records and events has, and how it grows.
use Rattle.std.proofs.Common.{◌≡◌, ℕ, suc, ◌+◌, ◌<◌, ◌≤◌, List, [], ◌∷◌, ◌++◌, length, Bool, true, false, nat_le, slice_get, get_or, drop, drop-cons, Some, None, if◌then◌else◌, cond, refl, ap, sym, ◌∙◌, arith, rules, append_assoc, length-append, add-one}
use Rattle.std.proofs.lemmas.Bool.{le-leb, lt-leb}
use Rattle.std.proofs.lemmas.List.{append-nil}
use Rattle.std.specs.List.{filter}
use Rattle.trace_form.specs.declared.record.Record.{Record}
use Rattle.trace_form.specs.declared.record.Record.TheVariants.{Reg, Port, Voice}
use Rattle.lag_bus.specs.Each.{Each, IsVoiceWithin}
use Rattle.lag_bus.specs.Merge.{events_up_to, events_after, merge}
use Rattle.lock_step.specs.SampleNumbers.{sample_number}
use Rattle.lag_bus.specs.Ready.{is_before_sample}

pub Each-append : {X : Type 0} (P : X → Type 0) (xs ys : List X) → Each P xs → Each P ys → Each P (xs ++ ys)
Each-append P [] ys h g = g
Each-append P (x ∷ xs) ys h g = (h.0, Each-append P xs ys h.1 g)

pub Each-filter : {X : Type 0} (p : X → Bool) (P : X → Type 0) (xs : List X) → Each P xs → Each P (filter p xs)
Each-filter p P [] h = tt
Each-filter p P (x ∷ xs) h = elim (p x) as (λ b. Each P (cond b (x ∷ filter p xs) (filter p xs))) [ true ↦ (h.0, Each-filter p P xs h.1) | false ↦ Each-filter p P xs h.1 ]

pub Each-map : {X : Type 0} (P Q : X → Type 0) → ((x : X) → P x → Q x) → (xs : List X) → Each P xs → Each Q xs
Each-map P Q f [] h = tt
Each-map P Q f (x ∷ xs) h = (f x h.0, Each-map P Q f xs h.1)

pub filter_all : {X : Type 0} (p : X → Bool) (xs : List X) → Each (λ x. p x ≡ true) xs → filter p xs ≡ xs
filter_all p [] h = refl
filter_all p (x ∷ xs) h = rw h.0 (ap (λ ys. x ∷ ys) (filter_all p xs h.1))

pub filter_none : {X : Type 0} (p : X → Bool) (xs : List X) → Each (λ x. p x ≡ false) xs → filter p xs ≡ []
filter_none p [] h = refl
filter_none p (x ∷ xs) h = rw h.0 (filter_none p xs h.1)

pub early_takes : (k : ℕ) (e : Record) (events : List Record) → sample_number e ≤ k → events_up_to k (e ∷ events) ≡ e ∷ events_up_to k events
unfolding events_up_to
early_takes k e events h = rw (le-leb (sample_number e) k h)

pub early_stops : (k : ℕ) (e : Record) (events : List Record) → k < sample_number e → events_up_to k (e ∷ events) ≡ []
unfolding events_up_to
early_stops k e events h = rw (lt-leb (sample_number e) k h)

pub later_drops : (k : ℕ) (e : Record) (events : List Record) → sample_number e ≤ k → events_after k (e ∷ events) ≡ events_after k events
unfolding events_after
later_drops k e events h = rw (le-leb (sample_number e) k h)

pub later_keeps : (k : ℕ) (e : Record) (events : List Record) → k < sample_number e → events_after k (e ∷ events) ≡ e ∷ events
unfolding events_after
later_keeps k e events h = rw (lt-leb (sample_number e) k h)

-- all events are early
pub early_all : (k : ℕ) (events : List Record) → Each (λ e. sample_number e ≤ k) events → events_up_to k events ≡ events
early_all k [] h = unfold events_up_to in refl
early_all k (e ∷ events) h = early_takes k e events h.0 ∙ ap (λ (xs : List Record). e ∷ xs) (early_all k events h.1)

pub later_all : (k : ℕ) (events : List Record) → Each (λ e. sample_number e ≤ k) events → events_after k events ≡ []
later_all k [] h = unfold events_after in refl
later_all k (e ∷ events) h = later_drops k e events h.0 ∙ later_all k events h.1

-- both parts have what all events have
pub Each-events_up_to : (P : Record → Type 0) (k : ℕ) (events : List Record) → Each P events → Each P (events_up_to k events)
unfolding events_up_to
Each-events_up_to P k [] h = tt
Each-events_up_to P k (e ∷ events) h =
    elim (nat_le (sample_number e) k) as (λ b. Each P (if b then e ∷ events_up_to k events else [])) [ true ↦ (h.0, Each-events_up_to P k events h.1) | false ↦ tt ]

pub Each-events_after : (P : Record → Type 0) (k : ℕ) (events : List Record) → Each P events → Each P (events_after k events)
unfolding events_after
Each-events_after P k [] h = tt
Each-events_after P k (e ∷ events) h =
    elim (nat_le (sample_number e) k) as (λ b. Each P (if b then events_after k events else e ∷ events)) [ true ↦ Each-events_after P k events h.1 | false ↦ h ]

-- the event at the front
pub front_none : (events : List Record) → slice_get events 0 ≡ None → events ≡ []
front_none [] h = refl
front_none (e ∷ events) h = cc

pub early_front : (k : ℕ) (events : List Record) (e : Record) → slice_get events 0 ≡ Some e → sample_number e ≤ k → events_up_to k events ≡ e ∷ events_up_to k (drop 1 events)
early_front k [] e h g = cc
early_front k (x ∷ events) e h g = let same : x ≡ e = cc in rw same (early_takes k e events g)

pub later_front : (k : ℕ) (events : List Record) (e : Record) → slice_get events 0 ≡ Some e → sample_number e ≤ k → events_after k events ≡ events_after k (drop 1 events)
later_front k [] e h g = cc
later_front k (x ∷ events) e h g = let same : x ≡ e = cc in rw same (later_drops k e events g)

pub early_stop : (k : ℕ) (events : List Record) (e : Record) → slice_get events 0 ≡ Some e → k < sample_number e → events_up_to k events ≡ []
early_stop k [] e h g = cc
early_stop k (x ∷ events) e h g = let same : x ≡ e = cc in rw same (early_stops k e events g)

pub later_stop : (k : ℕ) (events : List Record) (e : Record) → slice_get events 0 ≡ Some e → k < sample_number e → events_after k events ≡ events
later_stop k [] e h g = cc
later_stop k (x ∷ events) e h g = let same : x ≡ e = cc in rw same (later_keeps k e events g)

pub front_length : (events : List Record) (e : Record) → slice_get events 0 ≡ Some e → length events ≡ length (drop 1 events) + 1
front_length [] e h = cc
front_length (x ∷ events) e h = omega arith

-- nothing
pub merge_nothing : merge [] [] ≡ []
unfolding merge
merge_nothing = refl

pub merge_end : (events : List Record) → merge [] events ≡ events
unfolding merge
merge_end events = refl

pub merge_next : (v : Record) (voices events : List Record) → merge (v ∷ voices) events ≡ events_up_to (sample_number v) events ++ v ∷ merge voices (events_after (sample_number v) events)
unfolding merge
merge_next v voices events = refl

pub merge_step : (all : List Record) (i : ℕ) (d : Record) (events : List Record) → i < length all
    → merge (drop i all) events ≡ events_up_to (sample_number (get_or all i d)) events ++ get_or all i d ∷ merge (drop (i + 1) all) (events_after (sample_number (get_or all i d)) events)
merge_step all i d events h = rw (add-one, drop-cons all i d) (merge_next (get_or all i d) (drop (suc i) all) events)

-- no event
pub merge_none : (voices : List Record) → merge voices [] ≡ voices
unfolding merge events_up_to events_after
merge_none [] = refl
merge_none (v ∷ voices) = ap (λ (xs : List Record). v ∷ xs) (merge_none voices)

pub Each-merge : (P : Record → Type 0) (voices events : List Record) → Each P voices → Each P events → Each P (merge voices events)
unfolding merge
Each-merge P [] events hv he = he
Each-merge P (v ∷ voices) events hv he =
    Each-append P (events_up_to (sample_number v) events) (v ∷ merge voices (events_after (sample_number v) events)) (Each-events_up_to P (sample_number v) events he) (hv.0, Each-merge P voices (events_after (sample_number v) events) hv.1 (Each-events_after P (sample_number v) events he))

-- the voices of a number that no event is beyond come last
pub merge_first : (k : ℕ) (new events : List Record) → Each (λ e. sample_number e ≤ k) events → Each (λ v. sample_number v ≡ k) new → merge new events ≡ events ++ new
unfolding merge
merge_first k [] events he hn = sym (append-nil events)
merge_first k (n ∷ new) events he hn =
    rw (hn.0, early_all k events he, later_all k events he) (ap (λ (xs : List Record). events ++ n ∷ xs) (merge_none new))

pub merge_voices : (k : ℕ) (voices new events : List Record) → Each (λ e. sample_number e ≤ k) events → Each (λ v. sample_number v ≡ k) new → merge (voices ++ new) events ≡ merge voices events ++ new
unfolding merge
merge_voices k [] new events he hn = merge_first k new events he hn
merge_voices k (v ∷ voices) new events he hn =
    let rest = merge_voices k voices new (events_after (sample_number v) events) (Each-events_after (λ e. sample_number e ≤ k) (sample_number v) events he) hn in
    rw rest (sym (append_assoc (events_up_to (sample_number v) events) (v ∷ merge voices (events_after (sample_number v) events)) new))

-- an event beyond all voices comes last
pub early_more : (k : ℕ) (events : List Record) (e : Record) → k < sample_number e → events_up_to k (events ++ e ∷ []) ≡ events_up_to k events
unfolding events_up_to
early_more k [] e h = rw (lt-leb (sample_number e) k h)
early_more k (x ∷ events) e h =
    elim (nat_le (sample_number x) k) as (λ b. (if b then x ∷ events_up_to k (events ++ e ∷ []) else []) ≡ (if b then x ∷ events_up_to k events else []))
    [ true ↦ ap (λ (xs : List Record). x ∷ xs) (early_more k events e h) | false ↦ refl ]

pub later_more : (k : ℕ) (events : List Record) (e : Record) → k < sample_number e → events_after k (events ++ e ∷ []) ≡ events_after k events ++ e ∷ []
unfolding events_after
later_more k [] e h = rw (lt-leb (sample_number e) k h)
later_more k (x ∷ events) e h =
    elim (nat_le (sample_number x) k) as (λ b. (if b then events_after k (events ++ e ∷ []) else x ∷ (events ++ e ∷ [])) ≡ (if b then events_after k events else x ∷ events) ++ e ∷ [])
    [ true ↦ later_more k events e h | false ↦ refl ]

pub merge_event : (voices events : List Record) (e : Record) → Each (λ v. sample_number v < sample_number e) voices → merge voices (events ++ e ∷ []) ≡ merge voices events ++ e ∷ []
unfolding merge
merge_event [] events e h = refl
merge_event (v ∷ voices) events e h =
    rw (early_more (sample_number v) events e h.0, later_more (sample_number v) events e h.0, merge_event voices (events_after (sample_number v) events) e h.1)
    (sym (append_assoc (events_up_to (sample_number v) events) (v ∷ merge voices (events_after (sample_number v) events)) (e ∷ [])))

-- lengths
pub length-parts : (k : ℕ) (events : List Record) → length (events_up_to k events) + length (events_after k events) ≡ length events
unfolding events_up_to events_after
length-parts k [] = refl
length-parts k (e ∷ events) =
    let rest = length-parts k events in
    elim (nat_le (sample_number e) k) as (λ b. length (if b then e ∷ events_up_to k events else []) + length (if b then events_after k events else e ∷ events) ≡ length (e ∷ events))
    [ true ↦ omega arith | false ↦ omega arith ]

pub length-merge : (voices events : List Record) → length (merge voices events) ≡ length voices + length events
unfolding merge
length-merge [] events = omega arith
length-merge (v ∷ voices) events =
    let rest = length-merge voices (events_after (sample_number v) events) in
    omega (arith, length-parts (sample_number v) events, length-append (events_up_to (sample_number v) events) (v ∷ merge voices (events_after (sample_number v) events)))

-- what the order of numbers says
pub number_before : (k : ℕ) (r : Record) → is_before_sample k r ≡ true → sample_number r ≤ k
number_before k (Voice sample voice level out block keyed ended) h = search rules
number_before k (Reg sample addr value) h = search rules
number_before k (Port sample port value) h = search rules

pub later_before : (k j : ℕ) → k ≤ j → (r : Record) → is_before_sample k r ≡ true → is_before_sample j r ≡ true
later_before k j g (Voice sample voice level out block keyed ended) h = let a : sample < k = search rules in let b : sample < j = omega arith in search rules
later_before k j g (Reg sample addr value) h = let a : sample ≤ k = search rules in let b : sample ≤ j = omega arith in search rules
later_before k j g (Port sample port value) h = let a : sample ≤ k = search rules in let b : sample ≤ j = omega arith in search rules

pub event_after : (k : ℕ) (r : Record) → k < sample_number r → is_before_sample k r ≡ false
event_after k (Voice sample voice level out block keyed ended) h = search rules
event_after k (Reg sample addr value) h = search rules
event_after k (Port sample port value) h = search rules

pub voice_before : (a b : ℕ) (r : Record) → IsVoiceWithin a b r → is_before_sample b r ≡ true
voice_before a b (Voice sample voice level out block keyed ended) w = search rules
voice_before a b (Reg sample addr value) w = absurd w
voice_before a b (Port sample port value) w = absurd w

pub voice_after : (a b : ℕ) (r : Record) → IsVoiceWithin a b r → is_before_sample a r ≡ false
voice_after a b (Voice sample voice level out block keyed ended) w = search rules
voice_after a b (Reg sample addr value) w = absurd w
voice_after a b (Port sample port value) w = absurd w

pub voice_number : (a b : ℕ) (r : Record) → IsVoiceWithin a b r → sample_number r < b
voice_number a b (Voice sample voice level out block keyed ended) w = w.1
voice_number a b (Reg sample addr value) w = absurd w
voice_number a b (Port sample port value) w = absurd w
