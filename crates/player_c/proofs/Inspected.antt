-- The texts of a file's tags stand at the places that its info has.
use Rattle.std.proofs.Common.{◌≡◌, ◌∙◌, ap, sym, ℕ, List, [], map, Option, Some, None, Result, Ok, Err, IfOk}
use Rattle.std.specs.List.{slice_get}
use Rattle.std.specs.Option.{option_map}
use Rattle.std.proofs.lemmas.Option.{slice_get-map, same_Some}
use Rattle.spc_form.specs.declared.inspection.SpcInfo.{SpcInfo}
use Rattle.spc_form.specs.declared.inspection.TextPlace.{TextPlace}
use Rattle.spc_form.specs.declared.reading.SpcRefusal.{SpcRefusal}
use Rattle.spc_form.specs.declared.tags.Tag.{Tag}
use Rattle.spc_form.specs.Inspection.{text_place, info_from, StandThere}
use Rattle.spc_form.specs.Layout.{part_of}
use Rattle.spc_form.specs.Tags.{all_tags}
use Rattle.player_c.specs.Info.{TextsStand}
use Rattle.player_c.specs.Tags.{text_in}

texts_of : Result SpcInfo SpcRefusal → List TextPlace
texts_of (Ok info) = info.texts
texts_of (Err refusal) = []

text_stands : (bytes file : List ℕ) → StandThere bytes file → (tag : Option Tag) (place : TextPlace) → option_map (text_place file) tag ≡ Some place
    → part_of bytes place.offset place.length ≡ text_in file tag
text_stands bytes file there None place is = cc
text_stands bytes file there (Some tag) place is = ap (λ (p : TextPlace). part_of bytes p.offset p.length) (sym (same_Some (text_place file tag) place is)) ∙ there tag

pub texts_stand : (bytes : List ℕ) (read : Result (List ℕ) SpcRefusal) (info : SpcInfo) (places : List TextPlace) → IfOk read (λ file. StandThere bytes file)
    → Ok info ≡ info_from read → places ≡ info.texts → IfOk read (λ file. TextsStand bytes file places)
unfolding texts_of
texts_stand bytes (Err refusal) info places there is same = tt
texts_stand bytes (Ok file) info places there is same =
    let all : places ≡ map (text_place file) all_tags = same ∙ ap texts_of is in
    λ number place given.
    text_stands bytes file there (slice_get all_tags number) place (sym (slice_get-map (text_place file) all_tags number) ∙ ap (λ (l : List TextPlace). slice_get l number) (sym all) ∙ given)
