-- The headers of the blocks that are found, in their bytes.
use Rattle.std.proofs.Common.{◌≡◌, ℕ, zero, suc, ◌+◌, ◌-◌, ◌*◌, ◌/◌, ◌<◌, ◌≤◌, ◌==◌, Bool, true, false, nat_le, nat_lt, ℤ, pos, List, [], ◌∷◌, ◌++◌, length, take, drop, Some, None, refl, sym, ap, ◌∙◌, arith, length-append, append_assoc}
use Rattle.std.specs.Prelude.{slice_index, slice_get, Option, if◌then◌else◌}
use Rattle.std.specs.Int.{w64, to_be_bytes}
use Rattle.std.specs.List.{All}
use Rattle.std.proofs.lemmas.Bool.{and_parts}
use Rattle.std.proofs.lemmas.Bool.Decides.{nat_tests}
use Rattle.std.proofs.lemmas.List.{length-take-le, length-drop, append-nil, get_or_append_left, get_or-append-add}
use Rattle.std.proofs.lemmas.List.Elements.{All-head, All-tail}
use Rattle.num_fix.specs.SignedWords.{number_at}
use Rattle.brr_encode.specs.Greedy.{nearest_sample, greedy_digits}
use Rattle.brr_encode.specs.Encoding.{best_header, end_bits, digit_bytes, block_samples, blocks_of, header_count, padded_samples, stands_alone, encoding_from}
use Rattle.brr_encode.specs.Triples.{IsAllowedHeader}
use Rattle.brr_encode.proofs.Triples.{best_header-allowed, header_at-allowed}
use Rattle.brr_search.specs.Candidates.{no_candidate}
use Rattle.brr_search.specs.Beam.{best_candidates, with_block, fronts, blocks_through}
use Rattle.brr_search.specs.Found.{searched, is_cheaper, cheaper, cost_of, found_encoding}
use Rattle.brr_search.specs.Headers.{IsHeaderByte, AreAllowedBlocks}
use Rattle.brr_search.specs.declared.candidate.Candidate.{Candidate}
use Rattle.brr_search.proofs.Headers.{all-best}

-- a block has eight bytes of digits
length-digit_bytes : (digits : List ℤ) → length (digit_bytes digits) ≡ length digits / 2
length-digit_bytes [] = refl
length-digit_bytes (high ∷ []) = refl
length-digit_bytes (high ∷ low ∷ digits) = let rest = length-digit_bytes digits in omega (arith, rest)

length-greedy_digits : (header : ℕ) (p1 p2 : ℤ) (targets : List ℤ) → length (greedy_digits header p1 p2 targets) ≡ length targets
length-greedy_digits header p1 p2 [] = refl
length-greedy_digits header p1 p2 (target ∷ targets) = ap suc (length-greedy_digits header (nearest_sample header target p1 p2) p1 targets)

module _ (total loop_block : ℕ) (looped : Bool) where
  -- the header byte of the block of an index
  abbrev IsHeaderAt : (index byte : ℕ) → Type 0
  IsHeaderAt index byte = IsHeaderByte (stands_alone index loop_block) (end_bits (index + 1 == total) looped) byte

  -- the blocks before that of an index
  record AreBlocksTo (index : ℕ) (blocks : List ℕ) : Type 0 where
    size : length blocks ≡ 9 * index
    headers : (i : ℕ) → i < index → IsHeaderAt i (slice_index blocks (9 * i))

  none : AreBlocksTo 0 []
  none = record { size = refl; headers = λ i low. absurd (omega (arith, low)) }

  -- one block more
  one_more : (index byte : ℕ) (blocks digits : List ℕ) → AreBlocksTo index blocks → IsHeaderAt index byte → length digits ≡ 8
      → AreBlocksTo (suc index) (blocks ++ byte ∷ digits)
  one_more index byte blocks digits before is eight =
      record {
        size = let all = length-append blocks (byte ∷ digits) in let sized = before.size in omega (arith, all, sized, eight);
        headers = λ i low. by (nat_lt i index) i low refl;
      }
    where
      by : (b : Bool) (i : ℕ) → i < suc index → nat_lt i index ≡ b → IsHeaderAt i (slice_index (blocks ++ byte ∷ digits) (9 * i))
      by true i low is_low =
          let lower : i < index = grind (arith, nat_tests, is_low) in
          let within : 9 * i < length blocks = let sized = before.size in omega (arith, lower, sized) in
          rw (get_or_append_left blocks (byte ∷ digits) 0 (9 * i) within) (before.headers i lower)
      by false i low is_last =
          let last : i ≡ index = grind (arith, nat_tests, is_last, low) in
          let place : 9 * i ≡ length blocks + 0 = let sized = before.size in omega (arith, last, sized) in
          rw (place, get_or-append-add blocks (byte ∷ digits) 0 0, last) is

  -- the last block of all is the one after which none is left
  is_last : (index count : ℕ) → total ≡ index + suc count → (count == 0) ≡ (index + 1 == total)
  is_last index count all = by (count == 0) refl
    where
      by : (b : Bool) → (count == 0) ≡ b → (count == 0) ≡ (index + 1 == total)
      by true is = let left : count ≡ 0 = grind (arith, nat_tests, is) in let same : (index + 1 == total) ≡ true = grind (arith, nat_tests, left, all) in is ∙ sym same
      by false is = let other : (index + 1 == total) ≡ false = grind (arith, nat_tests, is, all) in is ∙ sym other

  -- the plain encoding
  plain_from : (count index : ℕ) (blocks : List ℕ) (p1 p2 : ℤ) (targets : List ℤ) → AreBlocksTo index blocks → total ≡ index + count
      → 16 * count ≤ length targets → AreBlocksTo total (blocks ++ blocks_of count index loop_block looped p1 p2 targets)
  plain_from zero index blocks p1 p2 targets before all enough =
      let end : total ≡ index = omega (arith, all) in
      rw (append-nil blocks) (rw (sym end) at before)
  plain_from (suc count) index blocks p1 p2 targets before all enough =
      let alone : Bool = stands_alone index loop_block in
      let block : List ℤ = take 16 targets in
      let kept : List ℤ = block_samples alone p1 p2 block in
      let header : ℕ = best_header alone p1 p2 block in
      let sixteen : length block ≡ 16 = length-take-le 16 targets (omega (arith, enough)) in
      let digits : List ℕ = digit_bytes (greedy_digits header p1 p2 block) in
      let eight : length digits ≡ 8 =
      let halves = length-digit_bytes (greedy_digits header p1 p2 block) in
      let whole = length-greedy_digits header p1 p2 block in
      omega (arith, halves, whole, sixteen) in
      let byte : ℕ = header + end_bits (count == 0) looped in
      let is : IsHeaderAt index byte =
      record { header = header; allowed = best_header-allowed alone p1 p2 block; is = ap (λ (b : Bool). header + end_bits b looped) (is_last index count all) } in
      let rest : List ℕ = blocks_of count (suc index) loop_block looped (number_at kept 15) (number_at kept 14) (drop 16 targets) in
      let left : 16 * count ≤ length (drop 16 targets) = let cut = length-drop 16 targets in omega (arith, cut, enough) in
      let done = plain_from count (suc index) (blocks ++ byte ∷ digits) (number_at kept 15) (number_at kept 14) (drop 16 targets)
      (one_more index byte blocks digits before is eight) (omega (arith, all)) left in
      rw (append_assoc blocks (byte ∷ digits) rest) at done

  -- blocks that are as many as they may be, or fewer than there should be
  record AreBlocksIfWhole (index : ℕ) (blocks : List ℕ) : Type 0 where
    most : length blocks ≤ 9 * index
    whole : length blocks ≡ 9 * index → AreBlocksTo index blocks

  -- one block more of a candidate
  with_candidate : (index flags : ℕ) (front : ℕ → List ℕ) (found : Option Candidate) → ((place : ℕ) → AreBlocksIfWhole index (front place))
      → flags ≡ end_bits (index + 1 == total) looped → ((candidate : Candidate) → found ≡ Some candidate → IsAllowedHeader (stands_alone index loop_block) candidate.header)
      → AreBlocksIfWhole (suc index) (with_block front flags found)
  with_candidate index flags front None before bits allowed = record { most = omega arith; whole = λ sized. absurd (omega (arith, sized)) }
  with_candidate index flags front (Some candidate) before bits allowed =
      let blocks : List ℕ = front candidate.start in
      let digits : List ℕ = to_be_bytes w64 candidate.digits in
      let eight : length digits ≡ 8 = refl in
      let all = length-append blocks ((candidate.header + flags) ∷ digits) in
      let few = (before candidate.start).most in
      record {
        most = omega (arith, all, few, eight);
        whole = λ sized.
            let full : length blocks ≡ 9 * index = omega (arith, all, sized, eight) in
            let is : IsHeaderAt index (candidate.header + flags) = record { header = candidate.header; allowed = allowed candidate refl; is = ap (λ (n : ℕ). candidate.header + n) bits } in
            one_more index (candidate.header + flags) blocks digits ((before candidate.start).whole full) is eight;
      }

  all-slice_get : (P : Candidate → Type 0) (candidates : List Candidate) (place : ℕ) (candidate : Candidate) → All P candidates → slice_get candidates place ≡ Some candidate → P candidate
  all-slice_get P [] place candidate each is = absurd (cc)
  all-slice_get P (first ∷ candidates) zero candidate each is = let same : first ≡ candidate = cc in rw (sym same) (All-head P first candidates each)
  all-slice_get P (first ∷ candidates) (suc place) candidate each is = all-slice_get P candidates place candidate (All-tail P first candidates each) is

  -- the blocks along the candidates of a search
  through : (most count index : ℕ) (candidates : List Candidate) (front : ℕ → List ℕ) (targets : List ℤ) → total ≡ index + count
      → ((place : ℕ) → AreBlocksIfWhole index (front place)) → AreBlocksIfWhole total (blocks_through most count index loop_block looped candidates front targets)
  through most zero index candidates front targets all before = let end : total ≡ index = omega (arith, all) in rw (sym end) at (before 0)
  through most (suc count) index candidates front targets all before =
      let alone : Bool = stands_alone index loop_block in
      let best : List Candidate = best_candidates most candidates (take 16 targets) (header_count alone) in
      let flags : ℕ = end_bits (count == 0) looped in
      let bits : flags ≡ end_bits (index + 1 == total) looped = ap (λ (b : Bool). end_bits b looped) (is_last index count all) in
      let each : All (λ candidate. IsAllowedHeader alone candidate.header) best =
      all-best (λ header. IsAllowedHeader alone header) most candidates (take 16 targets) (header_count alone) (header_at-allowed alone) in
      through most count (suc index) best (fronts front flags best) (drop 16 targets) (omega (arith, all)) (λ place.
      with_candidate index flags front (slice_get best place) before bits (λ candidate is. all-slice_get (λ w. IsAllowedHeader alone w.header) best place candidate each is))

module _ (loop_block : ℕ) (samples : List ℤ) (looped : Bool) where
  abbrev targets : List ℤ
  targets = padded_samples samples

  abbrev count : ℕ
  count = length targets / 16

  allowed_to : (blocks : List ℕ) → AreBlocksTo count loop_block looped count blocks → AreAllowedBlocks count loop_block looped blocks
  allowed_to blocks all = record { size = all.size; headers = all.headers }

  plain_allowed : AreAllowedBlocks count loop_block looped (encoding_from loop_block samples looped)
  unfolding encoding_from
  plain_allowed =
      allowed_to _ (plain_from count loop_block looped count 0 [] (pos 0) (pos 0) targets (none count loop_block looped) (omega arith) (omega arith))

  searched_allowed : (most cost : ℕ) → is_cheaper cost targets (searched most loop_block targets looped) ≡ true
      → AreAllowedBlocks count loop_block looped (searched most loop_block targets looped)
  unfolding searched
  searched_allowed most cost is_less =
      let blocks : List ℕ = searched most loop_block targets looped in
      let found = through count loop_block looped most count 0 (no_candidate ∷ []) (λ _. []) targets (omega arith)
      (λ place. record { most = omega arith; whole = λ sized. none count loop_block looped }) in
      let same : (length blocks == 9 * count) ≡ true = (and_parts (length blocks == 9 * count) (nat_lt (cost_of blocks targets) cost) is_less).0 in
      allowed_to blocks (found.whole (grind (arith, nat_tests, same)))

  pub found_allowed : (candidates : ℕ) → AreAllowedBlocks count loop_block looped (found_encoding candidates loop_block samples looped)
  unfolding found_encoding
  found_allowed candidates = by (nat_le candidates 1)
    where
      plain : List ℕ
      plain = encoding_from loop_block samples looped

      others : List ℕ
      others = searched (candidates - 1) loop_block targets looped

      choose : (b : Bool) → is_cheaper (cost_of plain targets) targets others ≡ b → AreAllowedBlocks count loop_block looped (if b then others else plain)
      choose true is = searched_allowed (candidates - 1) (cost_of plain targets) is
      choose false is = plain_allowed

      by : (b : Bool) → AreAllowedBlocks count loop_block looped (if b then plain else cheaper targets plain others)
      by true = plain_allowed
      by false = choose (is_cheaper (cost_of plain targets) targets others) refl
