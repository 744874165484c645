use Rattle.std.proofs.Common.{◌≡◌, ◌∙◌, sym, ap, subst, ℕ, ◌<◌, List, [], ◌∷◌, ◌++◌, get_or, string_bytes}
use Rattle.std.specs.Prelude.{codes}
use Rattle.text_form.specs.Digits.{two_digits}
use Rattle.command_rip.proofs.Digits.{high_ascii, low_ascii, with_digits}
use Rattle.command_rip.proofs.command.entry_name.Goals as goal

pub returns : goal.returns
returns c =
    let entry = c.args.entry in
    let digits = c.two_digits-digits.ensures in
    let high : c.from.result ≡ get_or (two_digits entry) 0 0 = c.from.ensures ∙ ap (λ (l : List ℕ). get_or l 0 0) digits in
    let low : c.from-2.result ≡ get_or (two_digits entry) 1 0 = c.from-2.ensures ∙ ap (λ (l : List ℕ). get_or l 1 0) digits in
    let one = c.in_ok-push.ensures.ascii (subst (λ (n : ℕ). n < 128) (sym high) (high_ascii entry)) in
    let two = c.in_ok-push-2.ensures.ascii (subst (λ (n : ℕ). n < 128) (sym low) (low_ascii entry)) in
    let first : string_bytes c.push.new.self ≡ c.args.prefix.now ++ get_or (two_digits entry) 0 0 ∷ [] =
    c.in_ok-push.ensures.bytes ∙ (λ i. c.in_ok-name.ensures.ok i ++ one i) ∙ ap (λ (n : ℕ). c.args.prefix.now ++ n ∷ []) high in
    let second : string_bytes c.push-2.new.self ≡ (c.args.prefix.now ++ get_or (two_digits entry) 0 0 ∷ []) ++ get_or (two_digits entry) 1 0 ∷ [] =
    c.in_ok-push-2.ensures.bytes ∙ (λ i. first i ++ two i) ∙ ap (λ (n : ℕ). (c.args.prefix.now ++ get_or (two_digits entry) 0 0 ∷ []) ++ n ∷ []) low in
    c.in_ok-push_str.ensures.bytes ∙ ap (λ (l : List ℕ). l ++ codes ".wav") second ∙ with_digits c.args.prefix.now entry (codes ".wav")
