use Rattle.std.proofs.Common.{◌≤◌, ◌∙◌, ap, sym, refl, length, Ok, arith}
use Rattle.spc_form.specs.declared.parts.TheConstants.{HEAD_SIZE}
use Rattle.spc_form.specs.Inspection.{info_from}
use Rattle.spc_form.proofs.Heads.{info_of-padded, texts_stand}
use Rattle.spc_form.proofs.inspection.inspect.Goals as goal

pub returns-in-None-clause-info : goal.returns-in-None-clause-info
returns-in-None-clause-info c =
    let long : HEAD_SIZE ≤ length c.args.bytes.now = omega (arith, c.in-None.ensures.long refl) in
    (λ i. Ok (record {
      length = c.length_in.ensures.length i;
      is_tagged = c.is_tagged_in.ensures i;
      is_length_known = c.is_length_known_in.ensures.known i;
      texts = c.text_places.ensures i;
    }))
    ∙ ap Ok (sym (info_of-padded c.args.bytes.now long))
    ∙ ap info_from (sym (c.in-None.ensures.accepted refl))

pub returns-in-None-clause-texts : goal.returns-in-None-clause-texts
returns-in-None-clause-texts c =
    let long : HEAD_SIZE ≤ length c.args.bytes.now = omega (arith, c.in-None.ensures.long refl) in
    rw (c.in-None.ensures.accepted refl) (texts_stand c.args.bytes.now long)
