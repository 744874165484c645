-- The calls that make outputs, step by step.
use Rattle.std.proofs.Common.{◌≡◌, ℕ, ◌+◌, ◌<◌, Bool, List, [], ◌∷◌, ◌++◌, length, Option, Some, None, Result, Ok, Err, refl, sym, ap, ◌∙◌, subst, arith}
use Rattle.std.specs.Option.{option_map}
use Rattle.std.proofs.lemmas.List.{append_assoc, append-nil}
use Rattle.snd_host.specs.Calls.{Call, created, not_created, finished, not_finished, finish_call}
use Rattle.snd_host.specs.History.{ended_of}
use Rattle.snd_host.specs.Host.{HostState, Output}
use Rattle.snd_host.specs.Follows.{Makes, Since, Follows, AreWrites}
use Rattle.snd_host.specs.declared.host.Failed.{Failed}
use Rattle.snd_host.specs.declared.host.OutFile.{OutFile}
use Rattle.snd_host.proofs.CallsInOrder.{since_one, since_then}
use Rattle.command_runner.specs.InOrder.{Then}
use Rattle.command_runner.specs.OutputCalls.{Target, AreWoven, both, numbered, creations, endings, AreCreations, AreEndings, MakesAtOnce, MakesInTurn, MakesAs, DeliversAs, Order, at_once}
use Rattle.command_runner.specs.Stream.{pair, IsTrace, IsOpenAfter}
use Rattle.command_runner.proofs.Flags.{one_more}
use Rattle.command_runner.proofs.Sequences.{Can, can_then, can_write, cut_first, cut_second, cut_as, follows_then, follows_failed, follows_as, follows_one, follows_not}
use Rattle.command_runner.proofs.Woven.{Apart, can_weave, woven_then, pumped}

-- the number of the trace is another than that of the sound file
pub apart : (ended : List Bool) (n : ℕ) (trace : Option OutFile) → IsOpenAfter ended n trace → Apart n (option_map (λ file. file.0) trace)
apart ended n None after = tt
apart ended n (Some file) after = λ same. let above : n < file.0 = after.0 in absurd (omega (arith, same, above))

-- How outputs are created.

created_at : (name : List ℕ) (k n : ℕ) (a b : HostState) → k ≡ n → Makes (created name k) a b → Makes (created name n) a b
created_at name k n a b is made = subst (λ (j : ℕ). Makes (created name j) a b) is made

pub first_not_created : {T : Type 0} (wave : List ℕ) (trace : Option (List ℕ)) (n : ℕ) (a b : HostState) (f : Failed) → Makes (not_created wave) a b → Follows {T = T} {E = Failed} (AreCreations n (pair wave trace [] [])) a b (Err f)
first_not_created wave None n a b f made = follows_not (AreCreations n (pair wave None [] [])) (created wave n) [] a b f refl made
first_not_created wave (Some trace) n a b f made = follows_not (AreCreations n (pair wave (Some trace) [] [])) (created wave n) (created trace (n + 1) ∷ []) a b f refl made

pub second_not_created : {T : Type 0} (wave trace : List ℕ) (n k : ℕ) (a b c : HostState) (f : Failed) → k ≡ n → Makes (created wave k) a b → Makes (not_created trace) b c →
    Follows {T = T} {E = Failed} (AreCreations n (pair wave (Some trace) [] [])) a c (Err f)
second_not_created wave trace n k a b c f is made failed = record {
  calls = created wave n ∷ not_created trace ∷ [];
  since = since_then (created wave n ∷ []) (not_created trace ∷ []) a b c (since_one (created wave n) a b (created_at wave k n a b is made)) (since_one (not_created trace) b c failed);
  does = record { done = created wave n ∷ []; call = created trace (n + 1); rest = []; cut = refl; whole = refl };
}

pub one_created : {T : Type 0} (wave : List ℕ) (n k : ℕ) (a b : HostState) (x : T) → k ≡ n → Makes (created wave k) a b → Follows {T = T} {E = Failed} (AreCreations n (pair wave None [] [])) a b (Ok x)
one_created wave n k a b x is made = follows_one (AreCreations n (pair wave None [] [])) (created wave n) a b x refl (created_at wave k n a b is made)

pub second_number : (name : List ℕ) (k m : ℕ) (a b : HostState) → Makes (created name k) a b → m ≡ length (ended_of b.calls) + 2 → m ≡ length (ended_of a.calls) + 2 + 1
second_number name k m a b made next = omega (arith, next, one_more name k a b made)

pub both_created : {T : Type 0} (wave trace : List ℕ) (k m : ℕ) (a b c : HostState) (x : T) → k ≡ length (ended_of a.calls) + 2 → m ≡ length (ended_of b.calls) + 2 → Makes (created wave k) a b → Makes (created trace m) b c →
    Follows {T = T} {E = Failed} (AreCreations (length (ended_of a.calls) + 2) (pair wave (Some trace) [] [])) a c (Ok x)
both_created wave trace k m a b c x is next made second =
    let n = length (ended_of a.calls) + 2 in
    record {
      calls = created wave n ∷ created trace (n + 1) ∷ [];
      since = since_then (created wave n ∷ []) (created trace (n + 1) ∷ []) a b c (since_one (created wave n) a b (created_at wave k _ a b is made))
          (since_one (created trace (n + 1)) b c (created_at trace m _ b c (second_number wave k m a b made next) second));
      does = refl;
    }

-- How outputs are ended.

pub first_not_ended : {T : Type 0} (n m : ℕ) (a b : HostState) (f : Failed) → Makes (not_finished n) a b → Follows {T = T} {E = Failed} (AreEndings ((n, []) ∷ (m, []) ∷ [])) a b (Err f)
first_not_ended n m a b f made = follows_not (AreEndings ((n, []) ∷ (m, []) ∷ [])) (finished n) (finished m ∷ []) a b f refl made

pub both_ended : (n m : ℕ) (a b c : HostState) (result : Result (Unit {0}) Failed) → Makes (finished n) a b → Makes (finish_call m result) b c → Follows (AreEndings ((n, []) ∷ (m, []) ∷ [])) a c result
both_ended n m a b c (Ok x) made second = record { calls = finished n ∷ finished m ∷ []; since = since_then (finished n ∷ []) (finished m ∷ []) a b c (since_one (finished n) a b made) (since_one (finished m) b c second); does = refl }
both_ended n m a b c (Err e) made second = record {
  calls = finished n ∷ not_finished m ∷ [];
  since = since_then (finished n ∷ []) (not_finished m ∷ []) a b c (since_one (finished n) a b made) (since_one (not_finished m) b c second);
  does = record { done = finished n ∷ []; call = finished m; rest = []; cut = refl; whole = refl };
}

pub one_ended : (n : ℕ) (a b : HostState) (result : Result (Unit {0}) Failed) → Makes (finish_call n result) a b → Follows (AreEndings ((n, []) ∷ [])) a b result
one_ended n a b (Ok x) made = follows_one (AreEndings ((n, []) ∷ [])) (finished n) a b x refl made
one_ended n a b (Err e) made = follows_not (AreEndings ((n, []) ∷ [])) (finished n) [] a b e refl made

-- Names alone show which outputs are created, and numbers which are ended.

creations_same : (n : ℕ) (wave : List ℕ) (trace : Option (List ℕ)) (xs ys : List ℕ) → creations n (pair wave trace [] []) ≡ creations n (pair wave trace xs ys)
creations_same n wave None xs ys = refl
creations_same n wave (Some trace) xs ys = refl

endings_same : (n : ℕ) (t : Option ℕ) (xs ys : List ℕ) → endings (both n t [] []) ≡ endings (both n t xs ys)
endings_same n None xs ys = refl
endings_same n (Some m) xs ys = refl

both_numbered : (wave : List ℕ) (trace : Option (List ℕ)) (t : Option OutFile) (k n : ℕ) (xs ys : List ℕ) → k ≡ n → IsTrace trace t n → both k (option_map (λ file. file.0) t) xs ys ≡ numbered n (pair wave trace xs ys)
both_numbered wave None None k n xs ys is next = ap (λ (j : ℕ). (j, xs) ∷ []) is
both_numbered wave None (Some file) k n xs ys is next = absurd next
both_numbered wave (Some trace) None k n xs ys is next = absurd next
both_numbered wave (Some trace) (Some file) k n xs ys is next = ap (λ (j : ℕ). (j, xs) ∷ (file.0, ys) ∷ []) is ∙ ap (λ (j : ℕ). (n, xs) ∷ (j, ys) ∷ []) next

can_fill : (n : ℕ) (wave : List ℕ) (trace : Option (List ℕ)) (xs ys : List ℕ) → Can (AreWoven (numbered n (pair wave trace xs ys)))
can_fill n wave None xs ys = can_weave n None xs ys tt
can_fill n wave (Some trace) xs ys = can_weave n (Some (n + 1)) xs ys (λ same. absurd (omega (arith, same)))

can_make : (n : ℕ) (wave : List ℕ) (trace : Option (List ℕ)) (xs ys : List ℕ) → Can (Then (AreWoven (numbered n (pair wave trace xs ys))) (AreEndings (numbered n (pair wave trace xs ys))))
can_make n wave trace xs ys =
    let all = numbered n (pair wave trace xs ys) in
    can_then (AreWoven all) (AreEndings all) (can_fill n wave trace xs ys) (endings all, refl)

-- any output can be made
pub can_make_one : (n : ℕ) (output : Output) → Can (MakesAtOnce n (output ∷ []))
can_make_one n output = can_then (AreCreations n (output ∷ [])) (Then (AreWoven (numbered n (output ∷ []))) (AreEndings (numbered n (output ∷ [])))) (creations n (output ∷ []), refl) (can_make n output.name None output.bytes [])

-- One output or two are made at once.
module _ (n : ℕ) (wave : List ℕ) (trace : Option (List ℕ)) (head ws ts : List ℕ) where
  abbrev all : List Target
  all = numbered n (pair wave trace (head ++ ws) ts)

  created_as : {T : Type 0} (a b : HostState) (result : Result T Failed) → Follows (AreCreations n (pair wave trace [] [])) a b result → Follows (AreCreations n (pair wave trace (head ++ ws) ts)) a b result
  created_as a b result begun = follows_as (AreCreations n (pair wave trace [] [])) (AreCreations n (pair wave trace (head ++ ws) ts)) a b result (λ l is. is ∙ creations_same n wave trace (head ++ ws) ts) begun

  pub not_begun : {T U : Type 0} (a b : HostState) (e f : Failed) → Follows {T = T} {E = Failed} (AreCreations n (pair wave trace [] [])) a b (Err e) → Follows {T = U} {E = Failed} (MakesAtOnce n (pair wave trace (head ++ ws) ts)) a b (Err f)
  not_begun {T = T} {U = U} a b e f begun =
      follows_failed {T = T} {U = U} (AreCreations n (pair wave trace (head ++ ws) ts)) (Then (AreWoven all) (AreEndings all)) a b e f (created_as a b (Err e) begun) (can_make n wave trace (head ++ ws) ts)

  module _ (t : Option OutFile) (k : ℕ) (is : k ≡ n) (is_trace : IsTrace trace t n) (away : Apart k (option_map (λ file. file.0) t)) where
    abbrev second : Option ℕ
    second = option_map (λ file. file.0) t

    same : both k second (head ++ ws) ts ≡ all
    same = both_numbered wave trace t k n (head ++ ws) ts is is_trace

    -- a write failed
    cut_short : {T U V : Type 0} (a b c : HostState) (x : V) (e f : Failed) → Follows {T = V} {E = Failed} (AreCreations n (pair wave trace [] [])) a b (Ok x) → Follows {T = T} {E = Failed} (AreWoven (both k second (head ++ ws) ts)) b c (Err e) →
        Follows {T = U} {E = Failed} (MakesAtOnce n (pair wave trace (head ++ ws) ts)) a c (Err f)
    cut_short {T = T} {U = U} a b c x e f begun cut =
        follows_then (AreCreations n (pair wave trace (head ++ ws) ts)) (Then (AreWoven all) (AreEndings all)) a b c x (Err f) (created_as a b (Ok x) begun)
        (follows_failed {T = T} {U = U} (AreWoven all) (AreEndings all) b c e f (subst (λ (l : List Target). Follows {T = T} {E = Failed} (AreWoven l) b c (Err e)) same cut) (endings all, refl))

    pub head_failed : {T U V : Type 0} (a b c : HostState) (x : V) (e f : Failed) → Follows {T = V} {E = Failed} (AreCreations n (pair wave trace [] [])) a b (Ok x) → Follows {T = T} {E = Failed} (AreWoven (both k second head [])) b c (Err e) →
        Follows {T = U} {E = Failed} (MakesAtOnce n (pair wave trace (head ++ ws) ts)) a c (Err f)
    head_failed {T = T} {U = U} {V = V} a b c x e f begun cut =
        let A = AreWoven (both k second head []) in let B = AreWoven (both k second ws ts) in
        cut_short {T = T} {U = U} {V = V} a b c x e f begun
        (follows_as {T = T} (Then A B) (AreWoven (both k second (head ++ ws) ts)) b c (Err e) (woven_then k second head [] ws ts) (follows_failed {T = T} {U = T} A B b c e e cut (can_weave k second ws ts away)))

    pub pieces_cut : {U V : Type 0} (a b c d : HostState) (x : V) (y : Unit {0}) (e f : Failed) → Follows {T = V} {E = Failed} (AreCreations n (pair wave trace [] [])) a b (Ok x) → Follows {T = Unit {0}} {E = Failed} (AreWoven (both k second head [])) b c (Ok y) →
        Follows {T = Unit {0}} {E = Failed} (AreWoven (both k second ws ts)) c d (Err e) → Follows {T = U} {E = Failed} (MakesAtOnce n (pair wave trace (head ++ ws) ts)) a d (Err f)
    pieces_cut {U = U} {V = V} a b c d x y e f begun put cut = cut_short {T = Unit {0}} {U = U} {V = V} a b d x e f begun (pumped k second head [] ws ts b c d y (Err e) put cut)

    pub all_made : {V : Type 0} (a b c d o : HostState) (x : V) (y z : Unit {0}) (result : Result (Unit {0}) Failed) → Follows {T = V} {E = Failed} (AreCreations n (pair wave trace [] [])) a b (Ok x) → Follows {T = Unit {0}} {E = Failed} (AreWoven (both k second head [])) b c (Ok y) →
        Follows {T = Unit {0}} {E = Failed} (AreWoven (both k second ws ts)) c d (Ok z) → Follows (AreEndings (both k second [] [])) d o result → Follows (MakesAtOnce n (pair wave trace (head ++ ws) ts)) a o result
    all_made a b c d o x y z result begun put pump ends =
        let filled = subst (λ (l : List Target). Follows {T = Unit {0}} {E = Failed} (AreWoven l) b d (Ok z)) same (pumped k second head [] ws ts b c d y (Ok z) put pump) in
        let ended = follows_as (AreEndings (both k second [] [])) (AreEndings all) d o result (λ l are. are ∙ endings_same k second (head ++ ws) ts ∙ ap endings same) ends in
        follows_then (AreCreations n (pair wave trace (head ++ ws) ts)) (Then (AreWoven all) (AreEndings all)) a b o x result (created_as a b (Ok x) begun)
        (follows_then (AreWoven all) (AreEndings all) b d o z result filled ended)

-- Outputs that are made one after another.

pub can_make_in_turn : (n : ℕ) (outputs : List Output) → Can (MakesInTurn n outputs)
can_make_in_turn n [] = ([], refl)
can_make_in_turn n (o ∷ outputs) = can_then (MakesAtOnce n (o ∷ [])) (MakesInTurn (n + 1) outputs) (can_make_one n o) (can_make_in_turn (n + 1) outputs)

-- one output more, and those that are left
pub in_turn_more : (n m : ℕ) (xs ys : List Output) (us vs : List Call) → m ≡ n + length xs → MakesInTurn n xs us → MakesInTurn m ys vs → MakesInTurn n (xs ++ ys) (us ++ vs)
in_turn_more n m [] ys us vs is first second =
    let here : m ≡ n = omega (arith, is) in
    subst (λ (l : List Call). MakesInTurn n ys (l ++ vs)) (sym first) (subst (λ (k : ℕ). MakesInTurn k ys vs) here second)
in_turn_more n m (x ∷ xs) ys us vs is first second = record {
  front = first.front;
  back = first.back ++ vs;
  split = ap (λ (l : List Call). l ++ vs) first.split ∙ append_assoc first.front first.back vs;
  does_first = first.does_first;
  does_second = in_turn_more (n + 1) m xs ys first.back vs (omega (arith, is)) first.does_second second;
}

pub in_turn_one : (n : ℕ) (o : Output) (calls : List Call) → MakesAtOnce n (o ∷ []) calls → MakesInTurn n (o ∷ []) calls
in_turn_one n o calls made = record { front = calls; back = []; split = sym (append-nil calls); does_first = made; does_second = refl }

-- an output after others could not be made, and others were left
pub in_turn_stopped : {T U : Type 0} (n m : ℕ) (xs : List Output) (o : Output) (ys all : List Output) (a b c : HostState) (calls : List Call) (e f : Failed) → xs ++ (o ∷ [] ++ ys) ≡ all → m ≡ n + length xs → Since calls a b → MakesInTurn n xs calls →
    Follows {T = T} {E = Failed} (MakesAtOnce m (o ∷ [])) b c (Err e) → Follows {T = U} {E = Failed} (MakesInTurn n all) a c (Err f)
in_turn_stopped n m xs o ys all a b c calls e f are is since made cut =
    let rest = cut_first (MakesAtOnce m (o ∷ [])) (MakesInTurn (m + 1) ys) cut.calls cut.does (can_make_in_turn (m + 1) ys) in
    record {
      calls = calls ++ cut.calls;
      since = since_then calls cut.calls a b c since cut.since;
      does = cut_as (Then (MakesInTurn n xs) (MakesInTurn m (o ∷ ys))) (MakesInTurn n all) (calls ++ cut.calls)
          (λ l t. subst (λ (os : List Output). MakesInTurn n os l) are (subst (MakesInTurn n (xs ++ (o ∷ ys))) (sym t.split) (in_turn_more n m xs (o ∷ ys) t.front t.back is t.does_first t.does_second)))
          (cut_second (MakesInTurn n xs) (MakesInTurn m (o ∷ ys)) calls cut.calls made rest);
    }

-- The report comes after the outputs.

pub no_output_made : (n : ℕ) → MakesAtOnce n [] []
no_output_made n = record { front = []; back = []; split = refl; does_first = refl; does_second = record { front = []; back = []; split = refl; does_first = record { each = tt; joined = tt }; does_second = refl } }

pub report_alone : {T : Type 0} (n : ℕ) (report : List ℕ) (a b : HostState) (result : Result T Failed) → Follows (AreWrites 0 report) a b result → Follows (DeliversAs at_once n [] report) a b result
report_alone n report a b result wrote =
    follows_as (AreWrites 0 report) (DeliversAs at_once n [] report) a b result (λ l writes. record { front = []; back = l; split = refl; does_first = no_output_made n; does_second = writes }) wrote

pub then_report : {V : Type 0} (order : Order) (n : ℕ) (outputs : List Output) (report : List ℕ) (a b c : HostState) (x : V) (result : Result (Unit {0}) Failed) → Follows {T = V} {E = Failed} (MakesAs order n outputs) a b (Ok x) → Follows (AreWrites 0 report) b c result → Follows (DeliversAs order n outputs report) a c result
then_report order n outputs report a b c x result made wrote = follows_then (MakesAs order n outputs) (AreWrites 0 report) a b c x result made wrote

pub none_reported : {T U : Type 0} (order : Order) (n : ℕ) (outputs : List Output) (report : List ℕ) (a b : HostState) (e f : Failed) → Follows {T = T} {E = Failed} (MakesAs order n outputs) a b (Err e) → Follows {T = U} {E = Failed} (DeliversAs order n outputs report) a b (Err f)
none_reported {T = T} {U = U} order n outputs report a b e f cut = follows_failed {T = T} {U = U} (MakesAs order n outputs) (AreWrites 0 report) a b e f cut (can_write 0 report)
