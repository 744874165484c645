-- What the head of a file shows is given by the bytes that are given and by what is kept of them alike.
use Rattle.std.proofs.Common.{◌≡◌, ◌∙◌, ap, sym, ℕ, ◌+◌, ◌-◌, ◌<◌, ◌≤◌, ◌++◌, List, [], ◌∷◌, zero, suc, length, take, drop, refl, append_assoc, lit≤, arith}
use Rattle.std.specs.Prelude.{replicate, slice_index, map, ◌==◌, if◌then◌else◌, None}
use Rattle.std.specs.List.{before_first, position_or_len}
use Rattle.std.proofs.Math.Seq.{take-append_seam}
use Rattle.std.proofs.lemmas.List.{take-append-le, take-append-drop, drop-append-le, drop-take, length-take, length-drop, get_or-take, get_or_append_left}
use Rattle.spc_form.specs.declared.parts.TheConstants.{HEAD_SIZE, TAG_MARK_PLACE}
use Rattle.spc_form.specs.declared.tags.Tag.{Tag}
use Rattle.spc_form.specs.declared.tags.Tag.TheVariants.{Title, Game, Dumper, Comments, Date, Seconds, Fade, Artist}
use Rattle.spc_form.specs.Accepted.{kept_length, padded_bytes}
use Rattle.spc_form.specs.Inspection.{info_of, StandThere}
use Rattle.spc_form.specs.Layout.{part_of}
use Rattle.spc_form.specs.Tags.{field_start, field_size, text_of, has_tags, seconds_known, length_of, number_in, length_of_numbers, is_some_time, all_tags}

take-take : {X : Type 0} (n m : ℕ) (xs : List X) → n ≤ m → take n (take m xs) ≡ take n xs
take-take zero m xs few = refl
take-take (suc n) zero xs few = absurd (omega (arith, few))
take-take (suc n) (suc m) [] few = refl
take-take {X} (suc n) (suc m) (x ∷ xs) few = ap (λ (l : List X). x ∷ l) (take-take n m xs (omega (arith, few)))

part_of-padded : (bytes : List ℕ) (place count : ℕ) → place + count ≤ length bytes → place + count ≤ kept_length → part_of (padded_bytes bytes) place count ≡ part_of bytes place count
unfolding part_of padded_bytes
part_of-padded bytes place count there kept =
    let zeros : List ℕ = replicate (kept_length - length bytes) 0 in
    let front = take kept_length bytes in
    let long = length-take kept_length bytes in
    let split : place + (kept_length - place) ≡ kept_length = omega (arith, kept) in
    let rest : drop place front ≡ take (kept_length - place) (drop place bytes) = ap (λ (n : ℕ). drop place (take n bytes)) (sym split) ∙ drop-take place (kept_length - place) bytes in
    let size : count ≤ length (drop place front) = rw rest (rw length-take (omega (arith, there, kept, length-drop place bytes))) in
    ap (take count) (drop-append-le place front zeros (omega (arith, long, there, kept)))
    ∙ take-append-le count (drop place front) zeros size
    ∙ ap (take count) rest
    ∙ take-take count (kept_length - place) (drop place bytes) (omega (arith, kept))

byte_of-padded : (bytes : List ℕ) (place : ℕ) → place < length bytes → place < kept_length → slice_index (padded_bytes bytes) place ≡ slice_index bytes place
unfolding padded_bytes
byte_of-padded bytes place there kept =
    get_or_append_left (take kept_length bytes) (replicate (kept_length - length bytes) 0) 0 place (omega (arith, length-take kept_length bytes, there, kept))
    ∙ get_or-take kept_length bytes place 0 kept

module _ (bytes : List ℕ) (long : HEAD_SIZE ≤ length bytes) where
  has_tags-padded : has_tags (padded_bytes bytes) ≡ has_tags bytes
  has_tags-padded = ap (λ (byte : ℕ). byte == 0x1A) (byte_of-padded bytes TAG_MARK_PLACE (omega (arith, long)) (lit≤ tt))

  field_inside : (tag : Tag) → field_start tag + field_size tag ≤ HEAD_SIZE
  field_inside Title = lit≤ tt
  field_inside Game = lit≤ tt
  field_inside Dumper = lit≤ tt
  field_inside Comments = lit≤ tt
  field_inside Date = lit≤ tt
  field_inside Seconds = lit≤ tt
  field_inside Fade = lit≤ tt
  field_inside Artist = lit≤ tt

  text_of-padded : (tag : Tag) → text_of (padded_bytes bytes) tag ≡ text_of bytes tag
  unfolding text_of
  text_of-padded tag =
      let inside = field_inside tag in
      ap (before_first (λ byte. byte == 0)) (part_of-padded bytes (field_start tag) (field_size tag) (omega (arith, inside, long)) (omega (arith, inside)))

  seconds_known-padded : seconds_known (padded_bytes bytes) ≡ seconds_known bytes
  unfolding seconds_known
  seconds_known-padded = λ i. if has_tags-padded i then number_in (text_of-padded Seconds i) else None

  length_of-padded : length_of (padded_bytes bytes) ≡ length_of bytes
  unfolding length_of
  length_of-padded = λ i. length_of_numbers (seconds_known-padded i) (number_in (text_of-padded Fade i))

  pub info_of-padded : info_of (padded_bytes bytes) ≡ info_of bytes
  info_of-padded = λ i. record {
    length = length_of-padded i;
    is_tagged = has_tags-padded i;
    is_length_known = is_some_time (seconds_known-padded i);
    texts = map (λ tag. record { offset = field_start tag; length = length (text_of-padded tag i) }) all_tags;
  }

  -- the front of a list has its own length
  front_is : (xs : List ℕ) (q count : ℕ) → take (length (take q (take count xs))) xs ≡ take q (take count xs)
  front_is xs q count =
      let front = take q (take count xs) in
      let rest = drop q (take count xs) ++ drop count xs in
      let whole : front ++ rest ≡ xs =
      sym (append_assoc front (drop q (take count xs)) (drop count xs))
      ∙ ap (λ (l : List ℕ). l ++ drop count xs) (take-append-drop q (take count xs))
      ∙ take-append-drop count xs in
      ap (take (length front)) (sym whole) ∙ take-append_seam front rest

  text_stands : (tag : Tag) → part_of bytes (field_start tag) (length (text_of bytes tag)) ≡ text_of bytes tag
  unfolding text_of part_of
  text_stands tag =
      let field = take (field_size tag) (drop (field_start tag) bytes) in
      front_is (drop (field_start tag) bytes) (position_or_len (λ byte. byte == 0) field) (field_size tag)

  pub texts_stand : StandThere bytes (padded_bytes bytes)
  texts_stand tag = ap (λ (text : List ℕ). part_of bytes (field_start tag) (length text)) (text_of-padded tag) ∙ text_stands tag ∙ sym (text_of-padded tag)
