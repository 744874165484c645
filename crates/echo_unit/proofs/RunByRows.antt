-- The echo over a batch whose cells are read before they are written: all may be read, then filtered, then written.
use Rattle.std.proofs.Common.{◌≡◌, ℕ, zero, suc, ◌+◌, ◌%◌, ◌<◌, ◌≤◌, ◌==◌, Bool, true, false, List, [], ◌∷◌, ◌++◌, ℤ, length, map, take, drop, get_or, set, ◌⊎◌, inl, inr, refl, ap, sym, ◌∙◌, length-append, add-one, arith}
use Rattle.std.proofs.lemmas.Bool.Decides.{nat_tests}
use Rattle.std.proofs.lemmas.List.{take-append-le, take-take, take-map, get_or-take, get_or-drop, length-drop, ext_get_or}
use Rattle.std.proofs.Math.ListN.{get_or-map}
use Rattle.std.proofs.Math.Seq.{take-suc}
use Rattle.num_fix.specs.declared.Frame.{Frame}
use Rattle.num_fix.specs.SignedWords.{number_at}
use Rattle.aram_core.specs.Memory.{byte_at, word_at}
use Rattle.echo_unit.specs.Echo.{EchoState, is_at_cell, silent_frame, cell_address, halved_word, cell_pair, with_cell, after_reading, at_next_cell, next_echo, filtered_pair, feedback_pair, echo_heard, echo_memory, output_frame}
use Rattle.echo_unit.specs.Fir.{filtered_sample, eight_from}
use Rattle.echo_unit.specs.Flg.{has_echo_writes}
use Rattle.echo_unit.specs.EchoOverBatch.{EchoOver, echo_over, pair_of}
use Rattle.echo_unit.specs.Cells.{after_cells, cell_after, pairs_read, with_cells}
use Rattle.echo_unit.specs.declared.regs.EchoRegs.{EchoRegs}
use Rattle.echo_unit.proofs.Entries.{take_all, drop_newest, row_more, window_of}
use Rattle.echo_unit.proofs.Cells.{cell_of}
use Rattle.echo_unit.proofs.Walk.{cells_apart}
use Rattle.echo_unit.proofs.Neighbours.{same_echo}
use Rattle.echo_unit.proofs.ApartFromCell.{IsApartFromCell, byte_at-echo_memory, echo_memory_still}

pub echo_over-more : (regs : EchoRegs) (main sent : ℕ → Frame) (echo : EchoState) (memory : List ℕ) (j : ℕ)
    → echo_over regs main sent echo memory (j + 1)
    ≡ (let now : EchoOver = echo_over regs main sent echo memory j in
    record {
      echo = next_echo now.echo regs now.memory;
      memory = echo_memory now.echo regs now.memory (sent j);
      frames = now.frames ++ output_frame regs (main j) (echo_heard now.echo regs now.memory) ∷ [];
    })
echo_over-more regs main sent echo memory j = rw add-one refl

pub pairs_read-more : (s : EchoState) (regs : EchoRegs) (memory : List ℕ) (j : ℕ)
    → pairs_read s regs memory (j + 1) ≡ pairs_read s regs memory j ++ cell_pair memory (cell_address regs.esa (after_cells s regs.edl j).offset) ∷ []
pairs_read-more s regs memory j = rw add-one refl

pub with_cells-more : (s : EchoState) (regs : EchoRegs) (words : ℕ → Frame) (memory : List ℕ) (j : ℕ)
    → with_cells s regs words memory (j + 1)
    ≡ with_cell (with_cells s regs words memory j) (cell_address regs.esa (after_cells s regs.edl j).offset) (words j).left (words j).right
with_cells-more s regs words memory j = rw add-one refl

-- rows that agree give the same cells
pub with_cells-rows : (s : EchoState) (regs : EchoRegs) (words others : ℕ → Frame) (memory : List ℕ) (n : ℕ) → ((j : ℕ) → j < n → words j ≡ others j)
    → with_cells s regs words memory n ≡ with_cells s regs others memory n
with_cells-rows s regs words others memory zero same = refl
with_cells-rows s regs words others memory (suc n) same =
    rw (with_cells-rows s regs words others memory n (λ j below. same j (omega (arith, below))), same n (omega arith)) refl

-- a side of one cell more in a row
pub cell_more : (side : Frame → ℤ) (s : EchoState) (regs : EchoRegs) (memory : List ℕ) (row : List ℤ) (j next past place : ℕ) (at : EchoState) (x : ℤ)
    → length row ≡ 72 → j < 64 → next ≡ j + 1 → past ≡ 8 + j + 1 → place ≡ 8 + j → at ≡ after_cells s regs.edl j
    → x ≡ side (cell_pair memory (cell_address regs.esa at.offset)) → take (8 + j) row ≡ map side (pairs_read s regs memory j)
    → take past (set row place x) ≡ map side (pairs_read s regs memory next)
cell_more side s regs memory row j next past place at x long few next_is past_is place_is at_is is before =
    let this : x ≡ side (cell_pair memory (cell_after s regs j)) = is ∙ ap (λ (t : EchoState). side (cell_pair memory (cell_address regs.esa t.offset))) at_is in
    rw (next_is, past_is, place_is, pairs_read-more)
    (row_more side row (pairs_read s regs memory j) (8 + j) x (cell_pair memory (cell_after s regs j)) (omega (arith, long, few)) before this)

-- no cell of so many is written before it is read
abbrev pub ReadsFirst : EchoRegs → EchoState → ℕ → Type 0
ReadsFirst regs echo n =
    (has_echo_writes regs.flg ≡ false) ⊎ ((i j byte : ℕ) → i < j → j < n → byte < 4 → IsApartFromCell (cell_after echo regs i) (cell_after echo regs j + byte))

pub reads_first : (regs : EchoRegs) (s : EchoState) (n : ℕ) → is_at_cell s ≡ true → n ≤ 64 → (has_echo_writes regs.flg ≡ true → 0 < regs.edl % 16) → ReadsFirst regs s n
reads_first regs s n at few apart = by (has_echo_writes regs.flg) refl
  where
    by : (b : Bool) → has_echo_writes regs.flg ≡ b → ReadsFirst regs s n
    by true e = inr (λ i j byte below small tiny. cells_apart regs s (cell_of s at) (apart e) i j byte below (omega (arith, small, few)) tiny)
    by false e = inl e

length-pairs_read : (s : EchoState) (regs : EchoRegs) (memory : List ℕ) (j : ℕ) → length s.history ≡ 8 → length (pairs_read s regs memory j) ≡ 8 + j
length-pairs_read s regs memory zero eight = eight
length-pairs_read s regs memory (suc j) eight =
    let more : length (pairs_read s regs memory j ++ cell_pair memory (cell_after s regs j) ∷ []) ≡ length (pairs_read s regs memory j) + 1 =
    length-append (pairs_read s regs memory j) (cell_pair memory (cell_after s regs j) ∷ []) in
    omega (arith, more, length-pairs_read s regs memory j eight)

-- the pairs of fewer cells come first
first_pairs : (s : EchoState) (regs : EchoRegs) (memory : List ℕ) (m n : ℕ) → length s.history ≡ 8 → m ≤ n
    → take (8 + m) (pairs_read s regs memory n) ≡ pairs_read s regs memory m
first_pairs s regs memory m zero eight few =
    let none : m ≡ 0 = omega (arith, few) in
    rw none (take_all s.history 8 eight)
first_pairs s regs memory m (suc n) eight few = by (λ fewer. first_pairs s regs memory m n eight fewer) (m == suc n) refl
  where
    by : (m ≤ n → take (8 + m) (pairs_read s regs memory n) ≡ pairs_read s regs memory m) → (b : Bool) → (m == suc n) ≡ b
        → take (8 + m) (pairs_read s regs memory (suc n)) ≡ pairs_read s regs memory m
    by before true e =
        let all : m ≡ suc n = grind (arith, nat_tests, e) in
        rw all (take_all (pairs_read s regs memory (suc n)) (8 + suc n) (length-pairs_read s regs memory (suc n) eight))
    by before false e =
        let fewer : m ≤ n = grind (arith, nat_tests, e, few) in
        let long = length-pairs_read s regs memory n eight in
        take-append-le (8 + m) (pairs_read s regs memory n) (cell_pair memory (cell_after s regs n) ∷ []) (omega (arith, long, fewer)) ∙ before fewer

module _ (regs : EchoRegs) (main sent : ℕ → Frame) (echo : EchoState) (memory : List ℕ) where
  stands : (j : ℕ) → ((echo_over regs main sent echo memory j).echo.offset ≡ (after_cells echo regs.edl j).offset)
      × ((echo_over regs main sent echo memory j).echo.length ≡ (after_cells echo regs.edl j).length)
  unfolding next_echo after_reading at_next_cell
  stands zero = (refl, refl)
  stands (suc j) = let at = stands j in (rw (at.0, at.1) refl, rw (at.0, at.1) refl)

  still : has_echo_writes regs.flg ≡ false → (j : ℕ) → (echo_over regs main sent echo memory j).memory ≡ memory
  still off zero = refl
  still off (suc j) =
      let now : EchoOver = echo_over regs main sent echo memory j in
      echo_memory_still now.echo regs now.memory (sent j) off ∙ still off j

  -- bytes off the cells of the samples before are as they were
  untouched : (j at : ℕ) → ((i : ℕ) → i < j → IsApartFromCell (cell_after echo regs i) at) → byte_at (echo_over regs main sent echo memory j).memory at ≡ byte_at memory at
  untouched zero at off = refl
  untouched (suc j) at off =
      let now : EchoOver = echo_over regs main sent echo memory j in
      let place : now.echo.offset ≡ (after_cells echo regs.edl j).offset = (stands j).0 in
      byte_at-echo_memory now.echo regs now.memory (sent j) at (rw place (off j (omega arith))) ∙ untouched j at (λ i below. off i (omega (arith, below)))

  module _ (n : ℕ) (first : ReadsFirst regs echo n) (eight : length echo.history ≡ 8) where
    cell_byte : ((i j byte : ℕ) → i < j → j < n → byte < 4 → IsApartFromCell (cell_after echo regs i) (cell_after echo regs j + byte))
        → (j byte at : ℕ) → j < n → byte < 4 → at % 0x10000 ≡ (cell_after echo regs j + byte) % 0x10000
        → byte_at (echo_over regs main sent echo memory j).memory at ≡ byte_at memory at
    cell_byte apart j byte at few small same =
        let here : ℕ = cell_after echo regs j + byte in
        let unchanged : byte_at (echo_over regs main sent echo memory j).memory here ≡ byte_at memory here = untouched j here (λ i below. apart i j byte below few small) in
        rw same unchanged

    -- each pair that is read is that of the memory from before
    pair_before : (j : ℕ) → j < n → cell_pair (echo_over regs main sent echo memory j).memory (cell_after echo regs j) ≡ cell_pair memory (cell_after echo regs j)
    unfolding cell_pair halved_word word_at
    pair_before j few = by first
      where
        by : ReadsFirst regs echo n → cell_pair (echo_over regs main sent echo memory j).memory (cell_after echo regs j) ≡ cell_pair memory (cell_after echo regs j)
        by (inl off) = rw (still off j) refl
        by (inr apart) =
            let at : ℕ = cell_after echo regs j in
            rw (
              cell_byte apart j 0 at few (omega arith) (omega arith),
              cell_byte apart j 1 (at + 1) few (omega arith) (omega arith),
              cell_byte apart j 2 ((at + 2) % 0x10000) few (omega arith) (omega arith),
              cell_byte apart j 3 ((at + 2) % 0x10000 + 1) few (omega arith) (omega arith),
            ) refl

    -- the pairs that the filter meets
    read_from : (j : ℕ) → j < n → (echo_over regs main sent echo memory j).echo.history ≡ drop j (pairs_read echo regs memory j)
        → (after_reading (echo_over regs main sent echo memory j).echo regs (echo_over regs main sent echo memory j).memory).history ≡ drop (suc j) (pairs_read echo regs memory (suc j))
    unfolding after_reading
    read_from j few before =
        let long = length-pairs_read echo regs memory j eight in
        rw ((stands j).0, pair_before j few, before)
        (drop_newest (pairs_read echo regs memory j) j (cell_pair memory (cell_after echo regs j)) (omega (arith, long)))

    history_is : (j : ℕ) → j ≤ n → (echo_over regs main sent echo memory j).echo.history ≡ drop j (pairs_read echo regs memory j)
    unfolding next_echo at_next_cell
    history_is zero few = refl
    history_is (suc j) few = read_from j (omega (arith, few)) (history_is j (omega (arith, few)))

    read_is : (j : ℕ) → j < n
        → (after_reading (echo_over regs main sent echo memory j).echo regs (echo_over regs main sent echo memory j).memory).history ≡ drop (suc j) (pairs_read echo regs memory (suc j))
    read_is j few = read_from j few (history_is j (omega (arith, few)))

    -- over a row of what is heard, by the pairs that memory has before the batch
    module _ (row : ℕ → Frame) (heard_is : (j : ℕ) → j < n → row j ≡ filtered_pair (drop (suc j) (pairs_read echo regs memory (suc j))) regs.fir) where
      frames_are : (frames : List Frame) (d : Frame) → n ≤ length frames → ((j : ℕ) → j < n → get_or frames j d ≡ output_frame regs (main j) (row j))
          → (j : ℕ) → j ≤ n → (echo_over regs main sent echo memory j).frames ≡ take j frames
      frames_are frames d long is zero few = refl
      frames_are frames d long is (suc j) few =
          let this : get_or frames j d ≡ output_frame regs (main j) (filtered_pair (drop (suc j) (pairs_read echo regs memory (suc j))) regs.fir) =
          rw (heard_is j (omega (arith, few))) at (is j (omega (arith, few))) in
          rw (frames_are frames d long is j (omega (arith, few)), read_is j (omega (arith, few)))
          (ap (λ (frame : Frame). take j frames ++ frame ∷ []) (sym this) ∙ sym (take-suc frames j d (omega (arith, few, long))))

      memory_is : has_echo_writes regs.flg ≡ true → (j : ℕ) → j ≤ n
          → (echo_over regs main sent echo memory j).memory ≡ with_cells echo regs (λ j. feedback_pair (sent j) (row j) regs.efb) memory j
      unfolding echo_memory
      memory_is on zero few = refl
      memory_is on (suc j) few =
          rw (on, read_is j (omega (arith, few)), (stands j).0, memory_is on j (omega (arith, few)), heard_is j (omega (arith, few))) refl

-- what rows of what was heard and written are, of a batch
pub record IsPlayed (regs : EchoRegs) (main sent : ℕ → Frame) (echo : EchoState) (memory written : List ℕ) (n : ℕ) (left right heard_left heard_right : List ℤ) (history frames : List Frame) : Type 0 where
  pub first : ReadsFirst regs echo n
  pub eight : length echo.history ≡ 8
  pub few : n ≤ 64
  pub left_is : take (8 + n) left ≡ map (λ pair. pair.left) (pairs_read echo regs memory n)
  pub right_is : take (8 + n) right ≡ map (λ pair. pair.right) (pairs_read echo regs memory n)
  pub heard_left_is : (j : ℕ) → j < 64 → number_at heard_left j ≡ filtered_sample (eight_from left (j + 1)) regs.fir
  pub heard_right_is : (j : ℕ) → j < 64 → number_at heard_right j ≡ filtered_sample (eight_from right (j + 1)) regs.fir
  pub on : has_echo_writes regs.flg ≡ true → written ≡ with_cells echo regs (λ j. feedback_pair (sent j) (pair_of heard_left heard_right j) regs.efb) memory n
  pub off : has_echo_writes regs.flg ≡ false → written ≡ memory
  pub pairs : length history ≡ 8
  pub history_is : (i : ℕ) → i < 8 → get_or history i silent_frame ≡ pair_of left right (n + i)
  pub count : length frames ≡ 64
  pub frames_are : (j : ℕ) → j < 64 → get_or frames j silent_frame ≡ output_frame regs (main j) (pair_of heard_left heard_right j)

-- a side of the pairs that were read, as a row has it
side_window : (side : Frame → ℤ) (s : EchoState) (regs : EchoRegs) (memory : List ℕ) (row : List ℤ) (n j : ℕ) → length s.history ≡ 8 → j < n
    → take (8 + n) row ≡ map side (pairs_read s regs memory n) → take 8 (drop (j + 1) row) ≡ map side (drop (suc j) (pairs_read s regs memory (suc j)))
side_window side s regs memory row n j eight few is =
    let fewer : take (8 + suc j) row ≡ map side (pairs_read s regs memory (suc j)) =
    sym (take-take (8 + suc j) (8 + n) row (omega (arith, few))) ∙ ap (take (8 + suc j)) is ∙ take-map side (8 + suc j) (pairs_read s regs memory n)
    ∙ ap (map side) (first_pairs s regs memory (suc j) n eight (omega (arith, few))) in
    let order : suc j + 8 ≡ 8 + suc j = omega arith in
    rw add-one (window_of side row (pairs_read s regs memory (suc j)) (suc j) (rw order fewer))

-- an entry of a side
side_entry : (side : Frame → ℤ) (row : List ℤ) (pairs : List Frame) (n i : ℕ) (d : Frame) → i < n → take n row ≡ map side pairs → get_or row i (side d) ≡ side (get_or pairs i d)
side_entry side row pairs n i d few is = sym (get_or-take n row i (side d) few) ∙ ap (λ (l : List ℤ). get_or l i (side d)) is ∙ get_or-map side pairs i d

pub same_echo_over : (batch : EchoOver) (echo : EchoState) (memory : List ℕ) (frames : List Frame) → batch.echo ≡ echo → batch.memory ≡ memory → batch.frames ≡ frames
    → batch ≡ record { echo = echo; memory = memory; frames = frames }
same_echo_over batch echo memory frames a b c = λ i. record { echo = a i; memory = b i; frames = c i }

heard_of_rows : (regs : EchoRegs) (main sent : ℕ → Frame) (echo : EchoState) (memory written : List ℕ) (n : ℕ) (left right heard_left heard_right : List ℤ) (history frames : List Frame)
    → IsPlayed regs main sent echo memory written n left right heard_left heard_right history frames
    → (j : ℕ) → j < n → pair_of heard_left heard_right j ≡ filtered_pair (drop (suc j) (pairs_read echo regs memory (suc j))) regs.fir
unfolding filtered_pair
heard_of_rows regs main sent echo memory written n left right heard_left heard_right history frames p j below =
    let few : j < 64 = omega (arith, below, p.few) in
    let on_left : number_at heard_left j ≡ filtered_sample (map (λ (pair : Frame). pair.left) (drop (suc j) (pairs_read echo regs memory (suc j)))) regs.fir =
    p.heard_left_is j few ∙ ap (λ (samples : List ℤ). filtered_sample samples regs.fir) (side_window (λ pair. pair.left) echo regs memory left n j p.eight below p.left_is) in
    let on_right : number_at heard_right j ≡ filtered_sample (map (λ (pair : Frame). pair.right) (drop (suc j) (pairs_read echo regs memory (suc j)))) regs.fir =
    p.heard_right_is j few ∙ ap (λ (samples : List ℤ). filtered_sample samples regs.fir) (side_window (λ pair. pair.right) echo regs memory right n j p.eight below p.right_is) in
    λ k. record { left = on_left k; right = on_right k }

-- they are what the steps one after another leave and give
pub run_by_rows : (regs : EchoRegs) (main sent : ℕ → Frame) (echo : EchoState) (memory written : List ℕ) (n : ℕ) (left right heard_left heard_right : List ℤ) (history frames : List Frame)
    → IsPlayed regs main sent echo memory written n left right heard_left heard_right history frames
    → echo_over regs main sent echo memory n ≡ record { echo = record (after_cells echo regs.edl n) { history = history }; memory = written; frames = take n frames }
run_by_rows regs main sent echo memory written n left right heard_left heard_right history frames p =
    let batch : EchoOver = echo_over regs main sent echo memory n in
    let places = stands regs main sent echo memory n in
    let pairs : List Frame = pairs_read echo regs memory n in
    let long : length pairs ≡ 8 + n = length-pairs_read echo regs memory n p.eight in
    let d : Frame = silent_frame in
    let newest : history ≡ drop n pairs =
    ext_get_or d history (drop n pairs) (p.pairs ∙ omega (arith, long, length-drop n pairs)) (λ i below. newest_is i (omega (arith, below, p.pairs))) in
    let ended : batch.echo.history ≡ history = history_is regs main sent echo memory n p.first p.eight n (omega arith) ∙ sym newest in
    let at : batch.echo ≡ record (after_cells echo regs.edl n) { history = history } =
    same_echo batch.echo (record (after_cells echo regs.edl n) { history = history }) places.0 places.1 ended in
    same_echo_over batch (record (after_cells echo regs.edl n) { history = history }) written (take n frames) at (by (has_echo_writes regs.flg) refl)
    (frames_are regs main sent echo memory n p.first p.eight (pair_of heard_left heard_right) (heard_of_rows regs main sent echo memory written n left right heard_left heard_right history frames p) frames d (omega (arith, p.count, p.few)) (λ j below. p.frames_are j (omega (arith, below, p.few))) n (omega arith))
  where
    newest_is : (i : ℕ) → i < 8 → get_or history i silent_frame ≡ get_or (drop n (pairs_read echo regs memory n)) i silent_frame
    newest_is i small =
        let pairs : List Frame = pairs_read echo regs memory n in
        let d : Frame = silent_frame in
        let inside : n + i < 8 + n = omega (arith, small) in
        let on_left : number_at left (n + i) ≡ (get_or pairs (n + i) d).left = side_entry (λ pair. pair.left) left pairs (8 + n) (n + i) d inside p.left_is in
        let on_right : number_at right (n + i) ≡ (get_or pairs (n + i) d).right = side_entry (λ pair. pair.right) right pairs (8 + n) (n + i) d inside p.right_is in
        let same : pair_of left right (n + i) ≡ get_or pairs (n + i) d = λ k. record { left = on_left k; right = on_right k } in
        p.history_is i small ∙ same ∙ sym (get_or-drop n pairs i d)

    by : (b : Bool) → has_echo_writes regs.flg ≡ b → (echo_over regs main sent echo memory n).memory ≡ written
    by true e = memory_is regs main sent echo memory n p.first p.eight (pair_of heard_left heard_right) (heard_of_rows regs main sent echo memory written n left right heard_left heard_right history frames p) e n (omega arith) ∙ sym (p.on e)
    by false e = still regs main sent echo memory e n ∙ sym (p.off e)
