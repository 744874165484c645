-- Rows of links, the last one taken away.
use Rattle.std.proofs.Common.{◌≡◌, ℕ, ◌+◌, ◌<◌, List, [], ◌∷◌, ◌++◌, length, map, take, reverse, get_or, Option, Some, None, MatchOption, refl, ap, sym, ◌∙◌}
use Rattle.std.specs.Prelude.{slice_get}
use Rattle.std.proofs.lemmas.List.{take_more, reverse-append, map-append}
use Rattle.std.specs.Option.{option_map}
use Rattle.std.proofs.lemmas.Option.{slice_get-map}
use Rattle.brr_search.specs.Beam.{with_block, fronts}
use Rattle.brr_search.specs.Links.{link_of, with_link, blocks_along}
use Rattle.brr_search.specs.declared.candidate.Candidate.{Candidate}
use Rattle.brr_search.specs.declared.links.Link.{Link}
use Rattle.brr_search.specs.declared.links.Row.{Row}

pub map_more : {A B : Type 0} (f : A → B) (xs : List A) (i : ℕ) (d : A) → i < length xs → map f (take (i + 1) xs) ≡ map f (take i xs) ++ f (get_or xs i d) ∷ []
map_more f xs i d h = ap (λ (l : List _). map f l) (take_more xs i d h) ∙ map-append f (take i xs) (get_or xs i d ∷ [])

along_row : (old new : List Row) (row : Row) (place : ℕ) → old ≡ new ++ row ∷ [] → blocks_along (reverse old) place ≡ with_link (blocks_along (reverse new)) (slice_get row.links.items place)
along_row old new row place e = ap (λ (rows : List Row). blocks_along rows place) (ap (λ (rows : List Row). reverse rows) e ∙ reverse-append new (row ∷ []))

pub taken : (old new : List Row) (row : Row) (place : ℕ) (link : Option Link) → old ≡ new ++ row ∷ [] → link ≡ slice_get row.links.items place
    → MatchOption link (blocks_along (reverse old) place ≡ []) (λ link. blocks_along (reverse old) place ≡ blocks_along (reverse new) link.start ++ link.block)
taken old new row place None e is = along_row old new row place e ∙ ap (with_link (blocks_along (reverse new))) (sym is)
taken old new row place (Some link) e is = along_row old new row place e ∙ ap (with_link (blocks_along (reverse new))) (sym is)

with_linked : (front : ℕ → List ℕ) (flags : ℕ) (candidate : Option Candidate) → with_link front (option_map (link_of flags) candidate) ≡ with_block front flags candidate
with_linked front flags None = refl
with_linked front flags (Some candidate) = refl

-- a row more: the blocks of each candidate with those before them
pub row_fronts : (old new : List Row) (row : Row) (flags : ℕ) (candidates : List Candidate) → new ≡ old ++ row ∷ [] → row.links.items ≡ map (link_of flags) candidates
    → (place : ℕ) → blocks_along (reverse new) place ≡ fronts (blocks_along (reverse old)) flags candidates place
row_fronts old new row flags candidates e is place =
    let front = blocks_along (reverse old) in
    along_row new old row place e
    ∙ ap (λ (links : List Link). with_link front (slice_get links place)) is
    ∙ ap (λ (link : Option Link). with_link front link) (slice_get-map (link_of flags) candidates place)
    ∙ with_linked front flags (slice_get candidates place)
