use Rattle.std.proofs.Common.{rules, ◌≡◌, ◌∙◌, ap, ◌-◌, ◌<◌, min, length, set, arith}
use Rattle.player.proofs.Texts.{text_put}
use Rattle.player.proofs.output.put_text.Goals as goal

pub returns-in-Some : goal.returns-in-Some
returns-in-Some c =
    let text = c.args.text.now in let out = c.args.out.now in
    let some : 0 < length out = search rules in
    let most : c.in-Some.most ≡ length out - 1 = search rules in
    let count : c.min-count.result ≡ min (length text) (length out - 1) = omega (arith, c.min-count.ensures, most) in
    record { text = ap (λ l. set l c.min-count.result 0) c.put_bytes.ensures ∙ text_put text out c.min-count.result some count }
