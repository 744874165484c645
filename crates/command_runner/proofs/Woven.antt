-- Writes to one output or to two.
use Rattle.std.proofs.Common.{◌≡◌, ◌≢◌, ℕ, Bool, true, false, List, [], ◌∷◌, ◌++◌, Some, None, if◌then◌else◌, refl, sym, ap, ◌∙◌, subst, arith, Ok, Err}
use Rattle.std.specs.Prelude.{Option, Result, ◌==◌, ◌||◌}
use Rattle.std.specs.List.{AllByRecursion, list_any}
use Rattle.std.proofs.lemmas.List.{append_assoc, append-nil}
use Rattle.snd_host.specs.Calls.{Call, opened, not_opened, read, not_read, created, not_created, wrote, not_written, finished, not_finished}
use Rattle.snd_host.specs.Host.{HostState}
use Rattle.snd_host.specs.Follows.{Follows, IsWrite, AreWrites, bytes_written}
use Rattle.snd_host.specs.declared.host.Failed.{Failed}
use Rattle.snd_host.proofs.EachCall.{each_as, each_then, write_is}
use Rattle.command_runner.specs.InOrder.{Then}
use Rattle.command_runner.specs.OutputCalls.{Target, IsWriteTo, AreWoven, both, bytes_to}
use Rattle.command_runner.proofs.Sequences.{Can, can_write, then_of, follows_then, follows_failed, follows_as}

-- The second number, if there is one, is another.
abbrev pub Apart : ℕ → Option ℕ → Type 0
Apart n None = Unit {0}
Apart n (Some m) = n ≢ m

pub same_number : (n : ℕ) → (n == n) ≡ true
same_number n = grind (arith)

pub other_number : (n m : ℕ) → n ≢ m → (n == m) ≡ false
other_number n m other = grind (arith)

-- What holds of each write to one of several outputs holds of such a call.
pub write_to_is : (targets : List Target) (P : Call → Type 0) → ((file : ℕ) (bytes : List ℕ) → list_any (λ target. target.0 == file) targets ≡ true → bytes ≢ [] → P (wrote file bytes)) → (c : Call) → IsWriteTo targets c → P c
write_to_is targets P all (wrote file bytes) h = all file bytes h.0 h.1
write_to_is targets P all (opened name file) h = absurd h
write_to_is targets P all (not_opened name) h = absurd h
write_to_is targets P all (read file room bytes) h = absurd h
write_to_is targets P all (not_read file room) h = absurd h
write_to_is targets P all (created name file) h = absurd h
write_to_is targets P all (not_created name) h = absurd h
write_to_is targets P all (not_written file piece) h = absurd h
write_to_is targets P all (finished file) h = absurd h
write_to_is targets P all (not_finished file) h = absurd h

one_to : (file : ℕ) (targets : List Target) → list_any (λ target. target.0 == file) targets ≡ true → (c : Call) → IsWrite file c → IsWriteTo targets c
one_to file targets is = write_is file (IsWriteTo targets) (λ bytes some. (is, some))

-- of writes to one output the bytes to it are all bytes
to_all : (n : ℕ) (calls : List Call) → AllByRecursion (IsWrite n) calls → bytes_to n calls ≡ bytes_written calls
to_all n [] each = refl
to_all n (c ∷ calls) each =
    write_is n (λ c. bytes_to n calls ≡ bytes_written calls → bytes_to n (c ∷ calls) ≡ bytes_written (c ∷ calls))
    (λ bytes some rest. ap (λ (b : Bool). if b then bytes ++ bytes_to n calls else bytes_to n calls) (same_number n) ∙ ap (λ (l : List ℕ). bytes ++ l) rest)
    c each.0 (to_all n calls each.1)

-- and to another none
pub none_to : (n m : ℕ) → n ≢ m → (calls : List Call) → AllByRecursion (IsWrite n) calls → bytes_to m calls ≡ []
none_to n m other [] each = refl
none_to n m other (c ∷ calls) each =
    write_is n (λ c. bytes_to m (c ∷ calls) ≡ bytes_to m calls)
    (λ bytes some. ap (λ (b : Bool). if b then bytes ++ bytes_to m calls else bytes_to m calls) (other_number n m other)) c each.0
    ∙ none_to n m other calls each.1

chosen : (b : Bool) (part p q : List ℕ) → (if b then part ++ (p ++ q) else (p ++ q)) ≡ (if b then part ++ p else p) ++ q
chosen true part p q = sym (append_assoc part p q)
chosen false part p q = refl

pub bytes_more : (file : ℕ) (xs ys : List Call) → bytes_to file (xs ++ ys) ≡ bytes_to file xs ++ bytes_to file ys
bytes_more file [] ys = refl
bytes_more file (wrote f bytes ∷ xs) ys = ap (λ (l : List ℕ). if f == file then bytes ++ l else l) (bytes_more file xs ys) ∙ chosen (f == file) bytes (bytes_to file xs) (bytes_to file ys)
bytes_more file (opened name n ∷ xs) ys = bytes_more file xs ys
bytes_more file (not_opened name ∷ xs) ys = bytes_more file xs ys
bytes_more file (read n room bytes ∷ xs) ys = bytes_more file xs ys
bytes_more file (not_read n room ∷ xs) ys = bytes_more file xs ys
bytes_more file (created name n ∷ xs) ys = bytes_more file xs ys
bytes_more file (not_created name ∷ xs) ys = bytes_more file xs ys
bytes_more file (not_written n piece ∷ xs) ys = bytes_more file xs ys
bytes_more file (finished n ∷ xs) ys = bytes_more file xs ys
bytes_more file (not_finished n ∷ xs) ys = bytes_more file xs ys

among_first : (n : ℕ) (b : Bool) → (n == n || b) ≡ true
among_first n b = ap (λ (x : Bool). x || b) (same_number n)

among_second : (n m : ℕ) → n ≢ m → (n == m || (m == m || false)) ≡ true
among_second n m other = ap (λ (x : Bool). x || (m == m || false)) (other_number n m other) ∙ among_first m false

-- writes to the first output alone,
pub woven_first : (n : ℕ) (t : Option ℕ) (xs : List ℕ) → Apart n t → (calls : List Call) → AreWrites n xs calls → AreWoven (both n t xs []) calls
woven_first n None xs apart calls writes = record {
  each = each_as (IsWrite n) (IsWriteTo ((n, xs) ∷ [])) (one_to n ((n, xs) ∷ []) (among_first n false)) calls writes.each;
  joined = (to_all n calls writes.each ∙ writes.joined, tt);
}
woven_first n (Some m) xs apart calls writes = record {
  each = each_as (IsWrite n) (IsWriteTo ((n, xs) ∷ (m, []) ∷ [])) (one_to n ((n, xs) ∷ (m, []) ∷ []) (among_first n _)) calls writes.each;
  joined = (to_all n calls writes.each ∙ writes.joined, (none_to n m apart calls writes.each, tt));
}

-- and to the second
pub woven_second : (n m : ℕ) (ys : List ℕ) → n ≢ m → (calls : List Call) → AreWrites m ys calls → AreWoven (both n (Some m) [] ys) calls
woven_second n m ys other calls writes = record {
  each = each_as (IsWrite m) (IsWriteTo ((n, []) ∷ (m, ys) ∷ [])) (one_to m ((n, []) ∷ (m, ys) ∷ []) (among_second n m other)) calls writes.each;
  joined = (none_to m n (λ same. other (sym same)) calls writes.each, (to_all m calls writes.each ∙ writes.joined, tt));
}

-- The trace's bytes don't matter where there is no trace.
pub woven_alone : (n : ℕ) (xs ys : List ℕ) → (calls : List Call) → AreWrites n xs calls → AreWoven (both n None xs ys) calls
woven_alone n xs ys calls writes = woven_first n None xs tt calls writes

pub woven_then : (n : ℕ) (t : Option ℕ) (xs ys us vs : List ℕ) → (l : List Call) → Then (AreWoven (both n t xs ys)) (AreWoven (both n t us vs)) l → AreWoven (both n t (xs ++ us) (ys ++ vs)) l
woven_then n None xs ys us vs l t = subst (AreWoven (both n None (xs ++ us) (ys ++ vs))) (sym t.split) (record {
  each = each_then (IsWriteTo ((n, xs ++ us) ∷ [])) t.front t.back t.does_first.each t.does_second.each;
  joined = (bytes_more n t.front t.back ∙ ap (λ (k : List ℕ). k ++ bytes_to n t.back) t.does_first.joined.0 ∙ ap (λ (k : List ℕ). xs ++ k) t.does_second.joined.0, tt);
})
woven_then n (Some m) xs ys us vs l t = subst (AreWoven (both n (Some m) (xs ++ us) (ys ++ vs))) (sym t.split) (record {
  each = each_then (IsWriteTo ((n, xs ++ us) ∷ (m, ys ++ vs) ∷ [])) t.front t.back t.does_first.each t.does_second.each;
  joined = (
    bytes_more n t.front t.back ∙ ap (λ (k : List ℕ). k ++ bytes_to n t.back) t.does_first.joined.0 ∙ ap (λ (k : List ℕ). xs ++ k) t.does_second.joined.0,
    (bytes_more m t.front t.back ∙ ap (λ (k : List ℕ). k ++ bytes_to m t.back) t.does_first.joined.1.0 ∙ ap (λ (k : List ℕ). ys ++ k) t.does_second.joined.1.0, tt),
  );
})

pub no_writes_to : (n : ℕ) (t : Option ℕ) → AreWoven (both n t [] []) []
no_writes_to n None = record { each = tt; joined = (refl, tt) }
no_writes_to n (Some m) = record { each = tt; joined = (refl, (refl, tt)) }

can_weave_second : (n : ℕ) (t : Option ℕ) (ys : List ℕ) → Apart n t → Can (AreWoven (both n t [] ys))
can_weave_second n None ys apart = ([], record { each = tt; joined = (refl, tt) })
can_weave_second n (Some m) ys apart = let can = can_write m ys in (can.0, woven_second n m ys apart can.0 can.1)

-- first the one, then the other
put_then : (n : ℕ) (t : Option ℕ) (xs ys : List ℕ) → (l : List Call) → Then (AreWoven (both n t xs [])) (AreWoven (both n t [] ys)) l → AreWoven (both n t xs ys) l
put_then n t xs ys l joins = subst (λ (k : List ℕ). AreWoven (both n t k ys) l) (append-nil xs) (woven_then n t xs [] [] ys l joins)

pub can_weave : (n : ℕ) (t : Option ℕ) (xs ys : List ℕ) → Apart n t → Can (AreWoven (both n t xs ys))
can_weave n t xs ys apart =
    let a = can_write n xs in let b = can_weave_second n t ys apart in
    (a.0 ++ b.0, put_then n t xs ys (a.0 ++ b.0) (then_of (AreWoven (both n t xs [])) (AreWoven (both n t [] ys)) a.0 b.0 (woven_first n t xs apart a.0 a.1) b.1))

-- A write to the first output failed.
pub put_failed : {T U : Type 0} (n : ℕ) (t : Option ℕ) (xs ys : List ℕ) (a b : HostState) (e f : Failed) → Apart n t → Follows {T = T} {E = Failed} (AreWrites n xs) a b (Err e) → Follows {T = U} {E = Failed} (AreWoven (both n t xs ys)) a b (Err f)
put_failed {T = T} {U = U} n t xs ys a b e f apart cut =
    let A = AreWoven (both n t xs []) in let B = AreWoven (both n t [] ys) in
    follows_as (Then A B) (AreWoven (both n t xs ys)) a b (Err f) (put_then n t xs ys)
    (follows_failed {T = T} {U = U} A B a b e f (follows_as (AreWrites n xs) A a b (Err e) (woven_first n t xs apart) cut) (can_weave_second n t ys apart))

-- All was written to the first.
pub put_both : (n m : ℕ) (xs ys : List ℕ) (a b c : HostState) → n ≢ m → (x : Unit {0}) (result : Result (Unit {0}) Failed) → Follows {T = Unit {0}} {E = Failed} (AreWrites n xs) a b (Ok x) → Follows (AreWrites m ys) b c result → Follows (AreWoven (both n (Some m) xs ys)) a c result
put_both n m xs ys a b c other x result first second =
    let A = AreWoven (both n (Some m) xs []) in let B = AreWoven (both n (Some m) [] ys) in
    follows_as (Then A B) (AreWoven (both n (Some m) xs ys)) a c result (put_then n (Some m) xs ys)
    (follows_then A B a b c x result (follows_as (AreWrites n xs) A a b (Ok x) (woven_first n (Some m) xs other) first) (follows_as (AreWrites m ys) B b c result (woven_second n m ys other) second))

-- Pieces so far, and one piece more.
pub pumped : (n : ℕ) (t : Option ℕ) (xs ys us vs : List ℕ) (a b c : HostState) (x : Unit {0}) (result : Result (Unit {0}) Failed) → Follows {T = Unit {0}} {E = Failed} (AreWoven (both n t xs ys)) a b (Ok x) → Follows (AreWoven (both n t us vs)) b c result →
    Follows (AreWoven (both n t (xs ++ us) (ys ++ vs))) a c result
pumped n t xs ys us vs a b c x result first second =
    follows_as (Then (AreWoven (both n t xs ys)) (AreWoven (both n t us vs))) (AreWoven (both n t (xs ++ us) (ys ++ vs))) a c result (woven_then n t xs ys us vs)
    (follows_then (AreWoven (both n t xs ys)) (AreWoven (both n t us vs)) a b c x result first second)

-- A piece could not be written, and this was still to come.
pub pump_failed : {T : Type 0} (n : ℕ) (t : Option ℕ) (xs ys us vs ps qs all more : List ℕ) (a b c : HostState) (x : Unit {0}) (e f : Failed) → Apart n t → xs ++ (us ++ ps) ≡ all → ys ++ (vs ++ qs) ≡ more →
    Follows {T = Unit {0}} {E = Failed} (AreWoven (both n t xs ys)) a b (Ok x) → Follows {T = Unit {0}} {E = Failed} (AreWoven (both n t us vs)) b c (Err e) → Follows {T = T} {E = Failed} (AreWoven (both n t all more)) a c (Err f)
pump_failed {T = T} n t xs ys us vs ps qs all more a b c x e f apart wave trace first second =
    let D = AreWoven (both n t (xs ++ us) (ys ++ vs)) in let R = AreWoven (both n t ps qs) in
    let whole = follows_as {T = T} (Then D R) (AreWoven (both n t ((xs ++ us) ++ ps) ((ys ++ vs) ++ qs))) a c (Err f) (woven_then n t (xs ++ us) (ys ++ vs) ps qs)
    (follows_failed {T = Unit {0}} {U = T} D R a c e f (pumped n t xs ys us vs a b c x (Err e) first second) (can_weave n t ps qs apart)) in
    subst (λ (k : List ℕ). Follows {T = T} {E = Failed} (AreWoven (both n t k more)) a c (Err f)) (append_assoc xs us ps ∙ wave)
    (subst (λ (k : List ℕ). Follows {T = T} {E = Failed} (AreWoven (both n t ((xs ++ us) ++ ps) k)) a c (Err f)) (append_assoc ys vs qs ∙ trace) whole)

-- The last piece was written.
pub pump_done : (n : ℕ) (t : Option ℕ) (xs ys us vs ps qs all more : List ℕ) (a b c : HostState) (x y : Unit {0}) → xs ++ (us ++ ps) ≡ all → ys ++ (vs ++ qs) ≡ more → ps ≡ [] → qs ≡ [] →
    Follows {T = Unit {0}} {E = Failed} (AreWoven (both n t xs ys)) a b (Ok x) → Follows {T = Unit {0}} {E = Failed} (AreWoven (both n t us vs)) b c (Ok y) → Follows {T = Unit {0}} {E = Failed} (AreWoven (both n t all more)) a c (Ok y)
pump_done n t xs ys us vs ps qs all more a b c x y wave trace no_wave no_trace first second =
    let xs_all : xs ++ us ≡ all = ap (λ (l : List ℕ). xs ++ l) (sym (append-nil us) ∙ ap (λ (l : List ℕ). us ++ l) (sym no_wave)) ∙ wave in
    let ys_all : ys ++ vs ≡ more = ap (λ (l : List ℕ). ys ++ l) (sym (append-nil vs) ∙ ap (λ (l : List ℕ). vs ++ l) (sym no_trace)) ∙ trace in
    subst (λ (k : List ℕ). Follows {T = Unit {0}} {E = Failed} (AreWoven (both n t k more)) a c (Ok y)) xs_all
    (subst (λ (k : List ℕ). Follows {T = Unit {0}} {E = Failed} (AreWoven (both n t (xs ++ us) k)) a c (Ok y)) ys_all (pumped n t xs ys us vs a b c x (Ok y) first second))
