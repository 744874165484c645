use Rattle.std.proofs.Common.{rules, ◌≡◌, ◌≢◌, ◌<◌, ℕ, List, Some, length, slice_set, ap, sym, inl, inr, ◌≤◌, ◌∙◌}
use Rattle.std.proofs.lemmas.Bool.{cases_lt}
use Rattle.std.proofs.lemmas.List.{get_or-set_other, get_or-set_same, length-set}
use Rattle.std.proofs.lemmas.Option.{slice_get-get_or, slice_get_past}
use Rattle.gauss_table.specs.ShortTaps.{short_mix}
use Rattle.gauss_table.specs.declared.short_taps.ShortTaps.{ShortTaps}
use Rattle.voice_batch.specs.OutsOverRow.{short_mixed, short_mixed_at}
use Rattle.voice_batch.proofs.short_sounding.put_products.Goals as goal

-- what stands where taps were put
put_here : (xs : List ShortTaps) (j : ℕ) (taps : ShortTaps) → j < length xs → short_mixed_at (slice_set xs j taps) j ≡ short_mix taps
put_here xs j taps within =
    let inside : j < length (slice_set xs j taps) = rw length-set within in
    ap short_mixed (slice_get-get_or (slice_set xs j taps) j taps inside ∙ ap Some (get_or-set_same xs j taps taps within))

-- what stands elsewhere
put_elsewhere : (xs : List ShortTaps) (j i : ℕ) (taps : ShortTaps) → i ≢ j → short_mixed_at (slice_set xs j taps) i ≡ short_mixed_at xs i
put_elsewhere xs j i taps other =
    ap short_mixed (elim (cases_lt i (length xs)) [
      | inl within ↦ (
          let inside : i < length (slice_set xs j taps) = rw length-set within in
          slice_get-get_or (slice_set xs j taps) i taps inside ∙ ap Some (get_or-set_other xs j i taps taps other) ∙ sym (slice_get-get_or xs i taps within))
      | inr past ↦ (
          let outside : length (slice_set xs j taps) ≤ i = rw length-set past in
          slice_get_past (slice_set xs j taps) i outside ∙ sym (slice_get_past xs i past))
    ])

pub returns-clause-here : goal.returns-clause-here
returns-clause-here c =
    let long : length c.args.taps.now ≡ 64 = search rules in
    let within : c.args.j < length c.args.taps.now = rw long c.requires in
    put_here c.args.taps.now c.args.j _ within ∙ c.put.ensures

pub returns-clause-others : goal.returns-clause-others
returns-clause-others c i other = put_elsewhere c.args.taps.now c.args.j i _ other
