-- Calls one after another, and those that write. What calls agree with goes through them one by one, so two lists that do are one list that does.
use Rattle.std.proofs.Common.{◌≡◌, ◌≢◌, ℕ, ◌≤◌, Bool, List, [], ◌∷◌, ◌++◌, Option, Some, length, take, drop, refl, sym, ap, ◌∙◌, subst, arith, ◌+◌, ◌<◌, length-drop, length-take, take-add}
use Rattle.std.specs.List.{AllByRecursion}
use Rattle.std.proofs.lemmas.List.{append_assoc, append-nil, take-append-drop}
use Rattle.snd_host.specs.Calls.{Call, opened, not_opened, read, not_read, created, not_created, wrote, not_written, finished, not_finished}
use Rattle.snd_host.specs.Host.{HostState, Files, IsOpen}
use Rattle.snd_host.specs.History.{ended_of, AreTrueOf, AreSteadyCalls, rooms_after, rooms_over}
use Rattle.snd_host.specs.Follows.{pushed, Makes, Since, IsCut, IsWrite, AreWrites, bytes_written}
use Rattle.snd_host.proofs.EachCall.{each_then, write_is}

pub pushed_more : (xs ys before : List Call) → pushed (xs ++ ys) before ≡ pushed ys (pushed xs before)
pushed_more [] ys before = refl
pushed_more (x ∷ xs) ys before = pushed_more xs ys (x ∷ before)

pub rooms_over-append : (xs ys : List Call) (rooms : List ℕ) → rooms_over (xs ++ ys) rooms ≡ rooms_over ys (rooms_over xs rooms)
rooms_over-append [] ys rooms = refl
rooms_over-append (x ∷ xs) ys rooms = rooms_over-append xs ys (rooms_after x rooms)

-- calls that agree with what the names hold, one after another
pub true_then : (files : Files) (xs ys history : List Call) → AreTrueOf files history xs → AreTrueOf files (pushed xs history) ys → AreTrueOf files history (xs ++ ys)
true_then files [] ys history first second = second
true_then files (x ∷ xs) ys history first second = (first.0, true_then files xs ys (x ∷ history) first.1 second)

-- and those of a steady host
pub steady_then : (holds : Option Files) (xs ys history : List Call) (rooms : List ℕ) → AreSteadyCalls holds rooms history xs → AreSteadyCalls holds (rooms_over xs rooms) (pushed xs history) ys →
    AreSteadyCalls holds rooms history (xs ++ ys)
steady_then holds [] ys history rooms first second = second
steady_then holds (x ∷ xs) ys history rooms first second = (first.0, steady_then holds xs ys (x ∷ history) (rooms_after x rooms) first.1 second)

pub since_none : (a : HostState) → Since [] a a
since_none a = record { calls = refl; holds = refl; true = λ files known. tt; steady = λ rooms known. (tt, known) }

pub since_one : (call : Call) (a b : HostState) → Makes call a b → Since (call ∷ []) a b
since_one call a b made = record {
  calls = made.calls;
  holds = made.holds;
  true = λ files known. (made.true files known, tt);
  steady = λ rooms known. let s = made.steady rooms known in ((s.0, tt), s.1);
}

pub since_then : (xs ys : List Call) (a b c : HostState) → Since xs a b → Since ys b c → Since (xs ++ ys) a c
since_then xs ys a b c first second = record {
  calls = second.calls ∙ ap (pushed ys) first.calls ∙ sym (pushed_more xs ys a.calls);
  holds = second.holds ∙ first.holds;
  true = λ files known. true_then files xs ys a.calls (first.true files known) (subst (λ (l : List Call). AreTrueOf files l ys) first.calls (second.true files (first.holds ∙ known)));
  steady = λ rooms known.
      let one = first.steady rooms known in
      let two = second.steady (rooms_over xs rooms) one.1 in (
        steady_then a.holds xs ys a.calls rooms one.0
            (subst (λ (l : List Call). AreSteadyCalls a.holds (rooms_over xs rooms) l ys) first.calls (subst (λ (h : Option Files). AreSteadyCalls h (rooms_over xs rooms) b.calls ys) first.holds two.0)),
        two.1 ∙ ap (λ (l : List ℕ). Some l) (sym (rooms_over-append xs ys rooms)),
      );
}

pub since_more : (calls : List Call) (call : Call) (a b c : HostState) → Since calls a b → Makes call b c → Since (calls ++ call ∷ []) a c
since_more calls call a b c first made = since_then calls (call ∷ []) a b c first (since_one call b c made)

pub no_writes : (file : ℕ) → AreWrites file [] []
no_writes file = record { each = tt; joined = refl }

pub bytes_more : (xs ys : List Call) → bytes_written (xs ++ ys) ≡ bytes_written xs ++ bytes_written ys
bytes_more [] ys = refl
bytes_more (wrote f bytes ∷ xs) ys = ap (λ (l : List ℕ). bytes ++ l) (bytes_more xs ys) ∙ sym (append_assoc bytes (bytes_written xs) (bytes_written ys))
bytes_more (opened name n ∷ xs) ys = bytes_more xs ys
bytes_more (not_opened name ∷ xs) ys = bytes_more xs ys
bytes_more (read n room bytes ∷ xs) ys = bytes_more xs ys
bytes_more (not_read n room ∷ xs) ys = bytes_more xs ys
bytes_more (created name n ∷ xs) ys = bytes_more xs ys
bytes_more (not_created name ∷ xs) ys = bytes_more xs ys
bytes_more (not_written n piece ∷ xs) ys = bytes_more xs ys
bytes_more (finished n ∷ xs) ys = bytes_more xs ys
bytes_more (not_finished n ∷ xs) ys = bytes_more xs ys

pub one_write : (file : ℕ) (bytes : List ℕ) → bytes ≢ [] → AreWrites file bytes (wrote file bytes ∷ [])
one_write file bytes some = record { each = ((refl, some), tt); joined = append-nil bytes }

pub writes_then : (file : ℕ) (p q : List ℕ) (xs ys : List Call) → AreWrites file p xs → AreWrites file q ys → AreWrites file (p ++ q) (xs ++ ys)
writes_then file p q xs ys first second = record {
  each = each_then (IsWrite file) xs ys first.each second.each;
  joined = bytes_more xs ys ∙ ap (λ (l : List ℕ). l ++ bytes_written ys) first.joined ∙ ap (λ (l : List ℕ). p ++ l) second.joined;
}

-- what no write changes, writes don't
pub kept-writes : {A : Type 0} (file : ℕ) (f : List Call → A) → ((bytes : List ℕ) (before : List Call) → f (wrote file bytes ∷ before) ≡ f before) → (calls before : List Call) → AllByRecursion (IsWrite file) calls →
    f (pushed calls before) ≡ f before
kept-writes file f same [] before each = refl
kept-writes file f same (c ∷ calls) before each = kept-writes file f same calls (c ∷ before) each.1 ∙ write_is file (λ c. f (c ∷ before) ≡ f before) (λ bytes some. same bytes before) c each.0

-- an output that can be written can be written still after writes
pub still_open : (file : ℕ) (bytes : List ℕ) (calls : List Call) (a b : HostState) → Since calls a b → AreWrites file bytes calls → (n : ℕ) → IsOpen (ended_of a.calls) n → IsOpen (ended_of b.calls) n
still_open file bytes calls a b since writes n open_yet =
    subst (λ (e : List Bool). IsOpen e n) (sym (ap ended_of since.calls ∙ kept-writes file ended_of (λ bytes before. refl) calls a.calls writes.each)) open_yet

not_empty : (n : ℕ) (l : List ℕ) → n < length l → drop n l ≢ []
not_empty n l within none = let e = ap (length {A = ℕ}) none in absurd (omega (arith, length-drop n l, e))

-- writes that were cut where one failed
pub writes_cut : (file done : ℕ) (bytes rest : List ℕ) (calls : List Call) → rest ≡ drop done bytes → done < length bytes → AreWrites file (take done bytes) calls →
    IsCut (AreWrites file bytes) (calls ++ not_written file rest ∷ [])
writes_cut file done bytes rest calls is within writes = record {
  done = calls;
  call = wrote file rest;
  rest = [];
  cut = refl;
  whole = subst (λ (l : List ℕ). AreWrites file l (calls ++ wrote file rest ∷ [])) (ap (λ (l : List ℕ). take done bytes ++ l) is ∙ take-append-drop done bytes)
      (writes_then file (take done bytes) rest calls _ writes (one_write file rest (subst (λ (l : List ℕ). l ≢ []) (sym is) (not_empty done bytes within))));
}

joined : (n k : ℕ) (l : List ℕ) → take n l ++ take k (drop n l) ≡ take (n + k) l
joined n k l = sym (take-add n k l)

taken : (k : ℕ) (l : List ℕ) → 0 < k → k ≤ length l → take k l ≢ []
taken k l some within none = let e = ap (length {A = ℕ}) none in absurd (omega (arith, length-take k l, e))

-- one write more
pub writes_more : (file done count : ℕ) (bytes rest : List ℕ) (calls : List Call) → rest ≡ drop done bytes → count ≤ length rest → 0 < count → AreWrites file (take done bytes) calls →
    AreWrites file (take (done + count) bytes) (calls ++ wrote file (take count rest) ∷ [])
writes_more file done count bytes rest calls is fits some writes =
    subst (λ (l : List ℕ). AreWrites file l (calls ++ wrote file (take count rest) ∷ [])) (ap (λ (r : List ℕ). take done bytes ++ take count r) is ∙ joined done count bytes)
    (writes_then file (take done bytes) (take count rest) calls _ writes (one_write file (take count rest) (taken count rest some fits)))
