-- What a front of a delivery leaves is a part of what all of it leaves. A front of two things done one after the other is a front of the first, or
-- all of the first and a front of the second; so each phase of a delivery is looked at alone, after all those before it.
use Rattle.std.proofs.Common.{◌≡◌, ◌≢◌, ℕ, zero, suc, ◌+◌, Bool, true, false, List, [], ◌∷◌, ◌++◌, length, refl, sym, ap, ◌∙◌, subst, arith}
use Rattle.std.specs.Prelude.{replicate}
use Rattle.std.specs.List.{AllByRecursion}
use Rattle.std.proofs.lemmas.List.{append_assoc, append-nil, length-append}
use Rattle.snd_host.specs.Calls.{Call}
use Rattle.snd_host.specs.Host.{Output, IsPrefix}
use Rattle.snd_host.specs.Follows as follows
use Rattle.snd_host.specs.Follows.{pushed, IsWrite, AreWrites, bytes_written}
use Rattle.snd_host.proofs.CallsInOrder.{pushed_more, bytes_more}
use Rattle.command_runner.specs.Delivery.{IsBegun, EndedAreWhole, AreEndedInOrder, all_ended}
use Rattle.command_runner.specs.InOrder.{Then}
use Rattle.command_runner.specs.OutputCalls.{IsWriteTo, AreWoven, AreCreations, AreEndings, numbered, creations, endings, bytes_to, MakesAtOnce, MakesInTurn, MakesAs, DeliversAs, Order, at_once, in_turn}
use Rattle.snd_host.proofs.EachCall.{write_is, all_first}
use Rattle.command_runner.proofs.Woven as woven
use Rattle.command_runner.proofs.Fronts.{BeginsThen, begins_first, begins_second, begins_then}
use Rattle.snd_host.specs.History.{given_of, ended_of}
use Rattle.run_laws.proofs.Counting.{Standing, standing}
use Rattle.run_laws.proofs.Making.{grown, grown_none, grown_twice, flag_each, begun_by, none_ended, written, ended_by, after_creations, after_writes, after_endings}

-- Parts of outputs.

-- Of these outputs some were begun, and a part of these was ended.
pub record Partly (outputs : List Output) (s now : Standing) : Type 0 where
  pub begun : List Output
  pub flags : List Bool
  pub left : now ≡ grown [] begun flags s
  pub begins : IsBegun begun outputs
  pub ended_whole : EndedAreWhole begun flags outputs
  pub in_order : AreEndedInOrder flags

begins_by : (calls : List Call) (outputs : List Output) → IsBegun (begun_by calls outputs) outputs
begins_by [] outputs = tt
begins_by (c ∷ calls) [] = tt
begins_by (c ∷ calls) (o ∷ outputs) = (refl, record { rest = o.bytes; split = refl }, begins_by calls outputs)

none_whole : (begun others outputs : List Output) → EndedAreWhole begun (none_ended others) outputs
none_whole [] others outputs = tt
none_whole (o ∷ begun) [] outputs = tt
none_whole (o ∷ begun) (x ∷ others) [] = tt
none_whole (o ∷ begun) (x ∷ others) (output ∷ outputs) = ((λ wrong. absurd (cc)), none_whole begun others outputs)

none_in_order : (outputs : List Output) → AreEndedInOrder (none_ended outputs)
none_in_order outputs = record { ended = zero; others = length outputs; split = repeated outputs }
  where
    repeated : (outputs : List Output) → none_ended outputs ≡ replicate (length outputs) false
    repeated [] = refl
    repeated (o ∷ outputs) = ap (λ (l : List Bool). false ∷ l) (repeated outputs)

all_created : (n : ℕ) (outputs : List Output) → begun_by (creations n outputs) outputs ≡ written n outputs []
all_created n [] = refl
all_created n (o ∷ outputs) = ap (λ (l : List Output). record { name = o.name; bytes = [] } ∷ l) (all_created (n + 1) outputs)

flags_written : (n : ℕ) (outputs : List Output) (xs : List Call) → none_ended (written n outputs xs) ≡ none_ended outputs
flags_written n [] xs = refl
flags_written n (o ∷ outputs) xs = ap (λ (l : List Bool). false ∷ l) (flags_written (n + 1) outputs xs)

begins_written : (n : ℕ) (outputs : List Output) (ws rest : List Call) → AllByRecursion (λ target. bytes_to target.0 (ws ++ rest) ≡ target.1) (numbered n outputs) → IsBegun (written n outputs ws) outputs
begins_written n [] ws rest joined = tt
begins_written n (o ∷ outputs) ws rest joined = (refl, record { rest = bytes_to n rest; split = sym (woven.bytes_more n ws rest) ∙ joined.0 }, begins_written (n + 1) outputs ws rest joined.1)

all_written : (n : ℕ) (outputs : List Output) (ws : List Call) → AllByRecursion (λ target. bytes_to target.0 ws ≡ target.1) (numbered n outputs) → written n outputs ws ≡ outputs
all_written n [] ws joined = refl
all_written n (o ∷ outputs) ws joined =
    ap (λ (l : List ℕ). record { name = o.name; bytes = l } ∷ written (n + 1) outputs ws) joined.0 ∙ ap (λ (l : List Output). o ∷ l) (all_written (n + 1) outputs ws joined.1)

begins_all : (outputs : List Output) → IsBegun outputs outputs
begins_all [] = tt
begins_all (o ∷ outputs) = (refl, record { rest = []; split = append-nil o.bytes }, begins_all outputs)

all_whole : (outputs : List Output) (flags : List Bool) → EndedAreWhole outputs flags outputs
all_whole [] flags = tt
all_whole (o ∷ outputs) [] = tt
all_whole (o ∷ outputs) (flag ∷ flags) = ((λ ended. refl), all_whole outputs flags)

ended_first : (flags : List Bool) → AreEndedInOrder flags → AreEndedInOrder (true ∷ flags)
ended_first flags order = record { ended = suc order.ended; others = order.others; split = ap (λ (l : List Bool). true ∷ l) order.split }

ended_in_order : (calls : List Call) (outputs : List Output) → AreEndedInOrder (ended_by calls outputs)
ended_in_order [] outputs = none_in_order outputs
ended_in_order (c ∷ calls) [] = record { ended = zero; others = zero; split = refl }
ended_in_order (c ∷ calls) (o ∷ outputs) = ended_first (ended_by calls outputs) (ended_in_order calls outputs)

all_are_ended : (n : ℕ) (outputs : List Output) → ended_by (endings (numbered n outputs)) outputs ≡ all_ended outputs
all_are_ended n [] = refl
all_are_ended n (o ∷ outputs) = ap (λ (l : List Bool). true ∷ l) (all_are_ended (n + 1) outputs)

all_in_order : (outputs : List Output) → AreEndedInOrder (all_ended outputs)
all_in_order [] = record { ended = zero; others = zero; split = refl }
all_in_order (o ∷ outputs) = ended_first (all_ended outputs) (all_in_order outputs)

-- Outputs that are made at once.

module _ (outputs : List Output) (n : ℕ) where
  -- after all creations
  after_created : (us history : List Call) → AreCreations n outputs us → standing (pushed us history) ≡ grown [] (written n outputs []) (none_ended outputs) (standing history)
  after_created us history is =
      after_creations outputs n us [] history (append-nil us ∙ is)
      ∙ ap (λ (l : List Output). grown [] l (none_ended l) (standing history)) (ap (λ (l : List Call). begun_by l outputs) is ∙ all_created n outputs)
      ∙ ap (λ (l : List Bool). grown [] (written n outputs []) l (standing history)) (flags_written n outputs [])

  -- and after writes
  after_written : (us ws history : List Call) → n ≡ length (ended_of history) + 2 → AreCreations n outputs us → AllByRecursion (IsWriteTo (numbered n outputs)) ws →
      standing (pushed ws (pushed us history)) ≡ grown [] (written n outputs ws) (none_ended outputs) (standing history)
  after_written us ws history number is each =
      let first = after_created us history is in
      let counted : n ≡ length (given_of history).created + 2 = omega (arith, number, flag_each history) in
      after_writes (given_of history).created outputs n counted ws [] (pushed us history) each (ap (λ (s : Standing). s.created) first)
      ∙ ap (λ (s : Standing). record s { created = (given_of history).created ++ written n outputs ws }) first

  -- and after endings
  after_ended : (us ws es rest history : List Call) → n ≡ length (ended_of history) + 2 → AreCreations n outputs us → AreWoven (numbered n outputs) ws → es ++ rest ≡ endings (numbered n outputs) →
      standing (pushed es (pushed ws (pushed us history))) ≡ grown [] outputs (ended_by es outputs) (standing history)
  after_ended us ws es rest history number is does ends =
      let second = after_written us ws history number is does.each ∙ ap (λ (l : List Output). grown [] l (none_ended outputs) (standing history)) (all_written n outputs ws does.joined) in
      after_endings outputs n es rest (pushed ws (pushed us history)) (ended_of history) ends number (ap (λ (s : Standing). s.ended) second)
      ∙ ap (λ (s : Standing). record s { ended = ended_of history ++ ended_by es outputs }) second

  pub at_once_all : (calls history : List Call) → n ≡ length (ended_of history) + 2 → MakesAtOnce n outputs calls → standing (pushed calls history) ≡ grown [] outputs (all_ended outputs) (standing history)
  at_once_all calls history number t =
      let rest = t.does_second in
      ap (λ (l : List Call). standing (pushed l history)) t.split ∙ ap standing (pushed_more t.front t.back history)
      ∙ ap (λ (l : List Call). standing (pushed l (pushed t.front history))) rest.split ∙ ap standing (pushed_more rest.front rest.back (pushed t.front history))
      ∙ after_ended t.front rest.front rest.back [] history number t.does_first rest.does_first (append-nil rest.back ∙ rest.does_second)
      ∙ ap (λ (l : List Bool). grown [] outputs l (standing history)) (ap (λ (l : List Call). ended_by l outputs) rest.does_second ∙ all_are_ended n outputs)

  pub at_once_part : (calls history : List Call) → n ≡ length (ended_of history) + 2 → follows.IsBegun (MakesAtOnce n outputs) calls → Partly outputs (standing history) (standing (pushed calls history))
  at_once_part calls history number begun = by (begins_then (AreCreations n outputs) (Then (AreWoven (numbered n outputs)) (AreEndings (numbered n outputs))) calls begun)
    where
      later : (us vs : List Call) → AreCreations n outputs us → BeginsThen (AreWoven (numbered n outputs)) (AreEndings (numbered n outputs)) vs → Partly outputs (standing history) (standing (pushed vs (pushed us history)))
      later us vs is (begins_first fills) = record {
        begun = written n outputs vs;
        flags = none_ended outputs;
        left = after_written us vs history number is (all_first (IsWriteTo (numbered n outputs)) vs fills.rest fills.whole.each);
        begins = begins_written n outputs vs fills.rest fills.whole.joined;
        ended_whole = none_whole (written n outputs vs) outputs outputs;
        in_order = none_in_order outputs;
      }
      later us vs is (begins_second ws es split fills ends) = record {
        begun = outputs;
        flags = ended_by es outputs;
        left = ap (λ (l : List Call). standing (pushed l (pushed us history))) split ∙ ap standing (pushed_more ws es (pushed us history)) ∙ after_ended us ws es ends.rest history number is fills ends.whole;
        begins = begins_all outputs;
        ended_whole = all_whole outputs (ended_by es outputs);
        in_order = ended_in_order es outputs;
      }

      by : BeginsThen (AreCreations n outputs) (Then (AreWoven (numbered n outputs)) (AreEndings (numbered n outputs))) calls → Partly outputs (standing history) (standing (pushed calls history))
      by (begins_first creates) = record {
        begun = begun_by calls outputs;
        flags = none_ended (begun_by calls outputs);
        left = after_creations outputs n calls creates.rest history creates.whole;
        begins = begins_by calls outputs;
        ended_whole = none_whole (begun_by calls outputs) (begun_by calls outputs) outputs;
        in_order = none_in_order (begun_by calls outputs);
      }
      by (begins_second us vs split creates more) =
          subst (λ (s : Standing). Partly outputs (standing history) s) (sym (ap (λ (l : List Call). standing (pushed l history)) split ∙ ap standing (pushed_more us vs history)))
          (later us vs creates (begins_then (AreWoven (numbered n outputs)) (AreEndings (numbered n outputs)) vs more))

-- Outputs that are made one after another.

-- the number of the next output
next_number : (n : ℕ) (history now : List Call) (o : Output) → n ≡ length (ended_of history) + 2 → standing now ≡ grown [] (o ∷ []) (true ∷ []) (standing history) → n + 1 ≡ length (ended_of now) + 2
next_number n history now o number is =
    let longer : length (ended_of now) ≡ length (ended_of history) + 1 = ap (λ (s : Standing). length s.ended) is ∙ length-append (ended_of history) (true ∷ []) in
    omega arith

pub in_turn_all : (outputs : List Output) (n : ℕ) (calls history : List Call) → n ≡ length (ended_of history) + 2 → MakesInTurn n outputs calls → standing (pushed calls history) ≡ grown [] outputs (all_ended outputs) (standing history)
in_turn_all [] n calls history number none = ap (λ (l : List Call). standing (pushed l history)) none ∙ sym (grown_none (standing history))
in_turn_all (o ∷ outputs) n calls history number t =
    let first = at_once_all (o ∷ []) n t.front history number t.does_first in
    ap (λ (l : List Call). standing (pushed l history)) t.split ∙ ap standing (pushed_more t.front t.back history)
    ∙ in_turn_all outputs (n + 1) t.back (pushed t.front history) (next_number n history (pushed t.front history) o number first) t.does_second
    ∙ ap (grown [] outputs (all_ended outputs)) first
    ∙ grown_twice [] [] (o ∷ []) outputs (true ∷ []) (all_ended outputs) (standing history)

begins_more : (begun outputs more : List Output) → IsBegun begun outputs → IsBegun begun (outputs ++ more)
begins_more [] outputs more begins = tt
begins_more (o ∷ begun) [] more begins = absurd begins
begins_more (o ∷ begun) (output ∷ outputs) more begins = (begins.0, begins.1, begins_more begun outputs more begins.2)

whole_more : (begun : List Output) (flags : List Bool) (outputs more : List Output) → IsBegun begun outputs → EndedAreWhole begun flags outputs → EndedAreWhole begun flags (outputs ++ more)
whole_more [] flags outputs more begins whole = tt
whole_more (o ∷ begun) [] outputs more begins whole = tt
whole_more (o ∷ begun) (flag ∷ flags) [] more begins whole = absurd begins
whole_more (o ∷ begun) (flag ∷ flags) (output ∷ outputs) more begins whole = (whole.0, whole_more begun flags outputs more begins.2 whole.1)

part_in_turn : (o : Output) (outputs : List Output) (n : ℕ) (calls history : List Call) → n ≡ length (ended_of history) + 2 → BeginsThen (MakesAtOnce n (o ∷ [])) (MakesInTurn (n + 1) outputs) calls
    → ((calls history : List Call) → n + 1 ≡ length (ended_of history) + 2 → follows.IsBegun (MakesInTurn (n + 1) outputs) calls → Partly outputs (standing history) (standing (pushed calls history)))
    → Partly (o ∷ outputs) (standing history) (standing (pushed calls history))
part_in_turn o outputs n calls history number (begins_first one) next =
    let part = at_once_part (o ∷ []) n calls history number one in
    record {
      begun = part.begun;
      flags = part.flags;
      left = part.left;
      begins = begins_more part.begun (o ∷ []) outputs part.begins;
      ended_whole = whole_more part.begun part.flags (o ∷ []) outputs part.begins part.ended_whole;
      in_order = part.in_order;
    }
part_in_turn o outputs n calls history number (begins_second us vs split one more) next =
    let first = at_once_all (o ∷ []) n us history number one in
    let part = next vs (pushed us history) (next_number n history (pushed us history) o number first) more in
    record {
      begun = o ∷ part.begun;
      flags = true ∷ part.flags;
      left = ap (λ (l : List Call). standing (pushed l history)) split ∙ ap standing (pushed_more us vs history) ∙ part.left ∙ ap (grown [] part.begun part.flags) first
          ∙ grown_twice [] [] (o ∷ []) part.begun (true ∷ []) part.flags (standing history);
      begins = (refl, record { rest = []; split = append-nil o.bytes }, part.begins);
      ended_whole = ((λ ended. refl), part.ended_whole);
      in_order = ended_first part.flags part.in_order;
    }

none_before : (xs ys : List Call) → xs ++ ys ≡ [] → xs ≡ []
none_before [] ys is = refl
none_before (x ∷ xs) ys is = absurd (cc)

pub in_turn_part : (outputs : List Output) (n : ℕ) (calls history : List Call) → n ≡ length (ended_of history) + 2 → follows.IsBegun (MakesInTurn n outputs) calls → Partly outputs (standing history) (standing (pushed calls history))
in_turn_part [] n calls history number begun = record {
  begun = [];
  flags = [];
  left = ap (λ (l : List Call). standing (pushed l history)) (none_before calls begun.rest begun.whole) ∙ sym (grown_none (standing history));
  begins = tt;
  ended_whole = tt;
  in_order = record { ended = zero; others = zero; split = refl };
}
in_turn_part (o ∷ outputs) n calls history number begun =
    part_in_turn o outputs n calls history number (begins_then (MakesAtOnce n (o ∷ [])) (MakesInTurn (n + 1) outputs) calls begun) (in_turn_part outputs (n + 1))

-- In either order.

pub makes_all : (order : Order) (outputs : List Output) (n : ℕ) (calls history : List Call) → n ≡ length (ended_of history) + 2 → MakesAs order n outputs calls →
    standing (pushed calls history) ≡ grown [] outputs (all_ended outputs) (standing history)
makes_all at_once outputs n calls history number does = at_once_all outputs n calls history number does
makes_all in_turn outputs n calls history number does = in_turn_all outputs n calls history number does

pub makes_part : (order : Order) (outputs : List Output) (n : ℕ) (calls history : List Call) → n ≡ length (ended_of history) + 2 → follows.IsBegun (MakesAs order n outputs) calls →
    Partly outputs (standing history) (standing (pushed calls history))
makes_part at_once outputs n calls history number begun = at_once_part outputs n calls history number begun
makes_part in_turn outputs n calls history number begun = in_turn_part outputs n calls history number begun

-- The report.

pub after_report : (ws history : List Call) → AllByRecursion (IsWrite 0) ws → standing (pushed ws history) ≡ record (standing history) { report = (given_of history).report ++ bytes_written ws }
after_report [] history each = ap (λ (l : List ℕ). record (standing history) { report = l }) (sym (append-nil (given_of history).report))
after_report (c ∷ ws) history each =
    after_report ws (c ∷ history) each.1
    ∙ write_is 0 (λ c. record (standing (c ∷ history)) { report = (given_of (c ∷ history)).report ++ bytes_written ws } ≡ record (standing history) { report = (given_of history).report ++ bytes_written (c ∷ ws) })
    (λ bytes some. ap (λ (l : List ℕ). record (standing history) { report = l }) (append_assoc (given_of history).report bytes (bytes_written ws))) c each.0

-- after all outputs
reported : (outputs : List Output) (us ws history : List Call) → standing (pushed us history) ≡ grown [] outputs (all_ended outputs) (standing history) → AllByRecursion (IsWrite 0) ws →
    standing (pushed ws (pushed us history)) ≡ grown (bytes_written ws) outputs (all_ended outputs) (standing history)
reported outputs us ws history all each =
    after_report ws (pushed us history) each
    ∙ ap (λ (s : Standing). record s { report = s.report ++ bytes_written ws }) all
    ∙ ap (λ (l : List ℕ). record { report = l; created = (given_of history).created ++ outputs; ended = ended_of history ++ all_ended outputs }) (append_assoc (given_of history).report [] (bytes_written ws))

-- A delivery.

pub delivers_all : (order : Order) (outputs : List Output) (report : List ℕ) (n : ℕ) (calls history : List Call) → n ≡ length (ended_of history) + 2 → DeliversAs order n outputs report calls →
    standing (pushed calls history) ≡ grown report outputs (all_ended outputs) (standing history)
delivers_all order outputs report n calls history number t =
    ap (λ (l : List Call). standing (pushed l history)) t.split ∙ ap standing (pushed_more t.front t.back history)
    ∙ reported outputs t.front t.back history (makes_all order outputs n t.front history number t.does_first) t.does_second.each
    ∙ ap (λ (l : List ℕ). grown l outputs (all_ended outputs) (standing history)) t.does_second.joined

-- A part of the outputs and of the report is left, and the report comes last.
pub record LeftPartly (outputs : List Output) (report : List ℕ) (s now : Standing) : Type 0 where
  pub reported : List ℕ
  pub begun : List Output
  pub flags : List Bool
  pub left : now ≡ grown reported begun flags s
  pub prefix : IsPrefix reported report
  pub begins : IsBegun begun outputs
  pub ended_whole : EndedAreWhole begun flags outputs
  pub in_order : AreEndedInOrder flags
  pub report_last : reported ≢ [] → (begun ≡ outputs) × (flags ≡ all_ended outputs)

pub delivers_part : (order : Order) (outputs : List Output) (report : List ℕ) (n : ℕ) (calls history : List Call) → n ≡ length (ended_of history) + 2 → follows.IsBegun (DeliversAs order n outputs report) calls →
    LeftPartly outputs report (standing history) (standing (pushed calls history))
delivers_part order outputs report n calls history number begun = by (begins_then (MakesAs order n outputs) (AreWrites 0 report) calls begun)
  where
    by : BeginsThen (MakesAs order n outputs) (AreWrites 0 report) calls → LeftPartly outputs report (standing history) (standing (pushed calls history))
    by (begins_first makes) =
        let part = makes_part order outputs n calls history number makes in
        record {
          reported = [];
          begun = part.begun;
          flags = part.flags;
          left = part.left;
          prefix = record { rest = report; split = refl };
          begins = part.begins;
          ended_whole = part.ended_whole;
          in_order = part.in_order;
          report_last = λ some. absurd (some refl);
        }
    by (begins_second us ws split makes writes) = record {
      reported = bytes_written ws;
      begun = outputs;
      flags = all_ended outputs;
      left = ap (λ (l : List Call). standing (pushed l history)) split ∙ ap standing (pushed_more us ws history)
          ∙ reported outputs us ws history (makes_all order outputs n us history number makes) (all_first (IsWrite 0) ws writes.rest writes.whole.each);
      prefix = record { rest = bytes_written writes.rest; split = sym (bytes_more ws writes.rest) ∙ writes.whole.joined };
      begins = begins_all outputs;
      ended_whole = all_whole outputs (all_ended outputs);
      in_order = all_in_order outputs;
      report_last = λ some. (refl, refl);
    }
