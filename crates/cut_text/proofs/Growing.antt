-- A list that grows by what a line says.
use Rattle.std.proofs.Common.{◌≡◌, ℕ, ◌+◌, List, [], ◌∷◌, ◌++◌, length, refl, ap, sym, ◌∙◌}
use Rattle.std.specs.Prelude.{Option, Some, None, Result, Ok, Err}
use Rattle.std.proofs.lemmas.List.{append_assoc, append-nil}
use Rattle.cut_form.specs.TextLines.{said_before}
use Rattle.cut_text.specs.declared.refusal.TextRefusal.{TextRefusal}
use Rattle.cut_text.specs.declared.refusal.TextRefusal.TheVariants.{Wrong, OutOfMemory}
use Rattle.cut_text.specs.Reading.{Reports, OneMore, IsWrongAfter}

-- a list before what other lines say
abbrev pub list_before : {A : Type 0} → List A → Result (List A) ℕ → Result (List A) ℕ
list_before list (Ok more) = Ok (list ++ more)
list_before list (Err wrong) = Err wrong

pub none_before : {A : Type 0} (said : Result (List A) ℕ) → said ≡ list_before [] said
none_before (Ok list) = refl
none_before (Err wrong) = refl

pub none_after : {A : Type 0} (list : List A) → list_before list (Ok []) ≡ Ok list
none_after list = ap Ok (append-nil list)

one_first : {A : Type 0} (one : A) (said : Result (List A) ℕ) → said_before one said ≡ list_before (one ∷ []) said
one_first one (Ok more) = refl
one_first one (Err wrong) = refl

one_before : {A : Type 0} (old : List A) (one : A) (said : Result (List A) ℕ) → list_before old (list_before (one ∷ []) said) ≡ list_before (old ++ one ∷ []) said
one_before old one (Ok more) = ap Ok (sym (append_assoc old (one ∷ []) more))
one_before old one (Err wrong) = refl

-- A reader of lines, one after another, with what the lines before them said: where the next line says something, that stands before what the later ones say;
-- where it says nothing, it is reported as wrong.
pub record IsReader {A : Type 0} (reads : List A → List (List ℕ) → Result (List A) ℕ) (next : List A → List ℕ → Option A) : Type 0 where
  pub goes_on : (old : List A) (line : List ℕ) (lines : List (List ℕ)) (one : A) → next old line ≡ Some one → reads old (line ∷ lines) ≡ said_before one (reads (old ++ one ∷ []) lines)
  pub stops : (old : List A) (line : List ℕ) (lines : List (List ℕ)) → next old line ≡ None → reads old (line ∷ lines) ≡ Err (length old + 1)

-- what a list and the lines after it say
abbrev pub said_after : {A : Type 0} → (reads : List A → List (List ℕ) → Result (List A) ℕ) → List A → (lines : List (List ℕ)) → Result (List A) ℕ
said_after reads list lines = list_before list (reads list lines)

module _ {A : Type 0} {reads : List A → List (List ℕ) → Result (List A) ℕ} {next : List A → List ℕ → Option A} (reader : IsReader reads next) where
  said_one : (old : List A) (line : List ℕ) (lines : List (List ℕ)) (one : A) → next old line ≡ Some one → said_after reads old (line ∷ lines) ≡ said_after reads (old ++ one ∷ []) lines
  said_one old line lines one is =
      ap (list_before old) (reader.goes_on old line lines one is)
      ∙ ap (list_before old) (one_first one (reads (old ++ one ∷ []) lines))
      ∙ one_before old one (reads (old ++ one ∷ []) lines)

  -- what all lines say is what the later ones say after a list that has what the next line says too
  pub said_after-more : (old new : List A) (line : List ℕ) (lines : List (List ℕ)) → OneMore old new (next old line) → said_after reads old (line ∷ lines) ≡ said_after reads new lines
  said_after-more old new line lines grown = by (next old line) refl grown
    where
      by : (said : Option A) → next old line ≡ said → OneMore old new said → said_after reads old (line ∷ lines) ≡ said_after reads new lines
      by None is more = absurd more
      by (Some one) is more = said_one old line lines one is ∙ ap (λ (list : List A). said_after reads list lines) (sym more)

  -- a refusal of the next line shows what all lines say
  pub tells_wrong : (old : List A) (line : List ℕ) (lines : List (List ℕ)) (said : Result (List A) ℕ) (refusal : TextRefusal) →
      said ≡ said_after reads old (line ∷ lines) → IsWrongAfter old (next old line) refusal → Reports refusal said
  tells_wrong old line lines said (Wrong number) is wrong = is ∙ ap (list_before old) (reader.stops old line lines wrong.0) ∙ ap Err (sym wrong.1)
  tells_wrong old line lines said OutOfMemory is wrong = tt
