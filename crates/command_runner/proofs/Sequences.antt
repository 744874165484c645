-- Calls that do one thing and then another.
use Rattle.std.proofs.Common.{ℕ, List, [], ◌∷◌, ◌++◌, Result, Ok, Err, refl, sym, ap, ◌∙◌, subst}
use Rattle.std.proofs.lemmas.List.{append_assoc, append-nil}
use Rattle.snd_host.specs.Calls.{Call, wrote}
use Rattle.snd_host.specs.Host.{HostState}
use Rattle.snd_host.specs.Follows.{failure_of, Makes, IsCut, IsBegun, Follows, AreWrites}
use Rattle.snd_host.specs.declared.host.Failed.{Failed}
use Rattle.snd_host.proofs.CallsInOrder.{since_one, since_then, no_writes, one_write, writes_then}
use Rattle.command_runner.specs.InOrder.{Then}

-- A thing that calls can do.
abbrev pub Can : (List Call → Type 0) → Type 0
Can Does = (calls : List Call) × Does calls

pub then_of : (A B : List Call → Type 0) (xs ys : List Call) → A xs → B ys → Then A B (xs ++ ys)
then_of A B xs ys first second = record { front = xs; back = ys; split = refl; does_first = first; does_second = second }

pub can_then : (A B : List Call → Type 0) → Can A → Can B → Can (Then A B)
can_then A B a b = (a.0 ++ b.0, then_of A B a.0 b.0 a.1 b.1)

-- where the first thing was cut, so is the whole
pub cut_first : (A B : List Call → Type 0) (calls : List Call) → IsCut A calls → Can B → IsCut (Then A B) calls
cut_first A B calls cut can = record {
  done = cut.done;
  call = cut.call;
  rest = cut.rest ++ can.0;
  cut = cut.cut;
  whole = record { front = cut.done ++ cut.call ∷ cut.rest; back = can.0; split = sym (append_assoc cut.done (cut.call ∷ cut.rest) can.0); does_first = cut.whole; does_second = can.1 };
}

pub cut_second : (A B : List Call → Type 0) (xs ys : List Call) → A xs → IsCut B ys → IsCut (Then A B) (xs ++ ys)
cut_second A B xs ys first cut = record {
  done = xs ++ cut.done;
  call = cut.call;
  rest = cut.rest;
  cut = ap (λ (l : List Call). xs ++ l) cut.cut ∙ sym (append_assoc xs cut.done _);
  whole = record { front = xs; back = cut.done ++ cut.call ∷ cut.rest; split = append_assoc xs cut.done _; does_first = first; does_second = cut.whole };
}

pub cut_as : (A B : List Call → Type 0) (calls : List Call) → ((l : List Call) → A l → B l) → IsCut A calls → IsCut B calls
cut_as A B calls h cut = record { done = cut.done; call = cut.call; rest = cut.rest; cut = cut.cut; whole = h _ cut.whole }

-- the same of a front
pub begun_first : (A B : List Call → Type 0) (calls : List Call) → IsBegun A calls → Can B → IsBegun (Then A B) calls
begun_first A B calls begun can = record {
  rest = begun.rest ++ can.0;
  whole = record { front = calls ++ begun.rest; back = can.0; split = sym (append_assoc calls begun.rest can.0); does_first = begun.whole; does_second = can.1 };
}

pub begun_second : (A B : List Call → Type 0) (xs ys : List Call) → A xs → IsBegun B ys → IsBegun (Then A B) (xs ++ ys)
begun_second A B xs ys first begun = record {
  rest = begun.rest;
  whole = record { front = xs; back = ys ++ begun.rest; split = append_assoc xs ys begun.rest; does_first = first; does_second = begun.whole };
}

pub begun_whole : (A : List Call → Type 0) (calls : List Call) → A calls → IsBegun A calls
begun_whole A calls does = record { rest = []; whole = subst A (sym (append-nil calls)) does }

-- Where the first thing was done, what follows comes of the second.
pub follows_then : {T U : Type 0} (A B : List Call → Type 0) (a b c : HostState) (x : T) (result : Result U Failed) →
    Follows {T = T} {E = Failed} A a b (Ok x) → Follows B b c result → Follows (Then A B) a c result
follows_then A B a b c x (Ok y) one two = record {
  calls = one.calls ++ two.calls;
  since = since_then one.calls two.calls a b c one.since two.since;
  does = then_of A B one.calls two.calls one.does two.does;
}
follows_then A B a b c x (Err e) one two = record {
  calls = one.calls ++ two.calls;
  since = since_then one.calls two.calls a b c one.since two.since;
  does = cut_second A B one.calls two.calls one.does two.does;
}

-- where it failed, it is the whole that was cut
pub follows_failed : {T U : Type 0} (A B : List Call → Type 0) (a b : HostState) (e f : Failed) →
    Follows {T = T} {E = Failed} A a b (Err e) → Can B → Follows {T = U} {E = Failed} (Then A B) a b (Err f)
follows_failed A B a b e f one can = record { calls = one.calls; since = one.since; does = cut_first A B one.calls one.does can }

-- what does one thing does another
pub follows_as : {T : Type 0} (A B : List Call → Type 0) (a b : HostState) (result : Result T Failed) → ((l : List Call) → A l → B l) → Follows A a b result → Follows B a b result
follows_as A B a b (Ok x) h one = record { calls = one.calls; since = one.since; does = h one.calls one.does }
follows_as A B a b (Err e) h one = record { calls = one.calls; since = one.since; does = cut_as A B one.calls h one.does }

-- one call
pub follows_one : {T : Type 0} (A : List Call → Type 0) (call : Call) (a b : HostState) (x : T) → A (call ∷ []) → Makes call a b → Follows {T = T} {E = Failed} A a b (Ok x)
follows_one A call a b x does made = record { calls = call ∷ []; since = since_one call a b made; does = does }

pub follows_not : {T : Type 0} (A : List Call → Type 0) (call : Call) (rest : List Call) (a b : HostState) (e : Failed) → A (call ∷ rest) → Makes (failure_of call) a b → Follows {T = T} {E = Failed} A a b (Err e)
follows_not A call rest a b e does made = record {
  calls = failure_of call ∷ [];
  since = since_one (failure_of call) a b made;
  does = record { done = []; call = call; rest = rest; cut = refl; whole = does };
}

-- any bytes can be written
pub can_write : (file : ℕ) (bytes : List ℕ) → Can (AreWrites file bytes)
can_write file [] = ([], no_writes file)
can_write file (x ∷ bytes) = (wrote file (x ∷ bytes) ∷ [], one_write file (x ∷ bytes) (λ none. absurd (cc)))

-- writes to one output after another are writes to it
pub joined_writes : (file : ℕ) (xs ys : List ℕ) (calls : List Call) → Then (AreWrites file xs) (AreWrites file ys) calls → AreWrites file (xs ++ ys) calls
joined_writes file xs ys calls t = subst (AreWrites file (xs ++ ys)) (sym t.split) (writes_then file xs ys t.front t.back t.does_first t.does_second)
