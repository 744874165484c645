use Rattle.std.proofs.Common.{sym, ap, ◌∙◌}
use Rattle.snd_host.specs.Host.{next_count}
use Rattle.snd_host.specs.History.{current_of, ended_of, in_faults, note_faults, out_faults}
use Rattle.disk_host.specs.Created.{flags_of}
use Rattle.disk_host.proofs.Places.{unset_again}
use Rattle.disk_host.proofs.host.end_output.Goals as goal

pub invariant_of-kept-2 : goal.invariant_of-kept-2
invariant_of-kept-2 g c =
    let old = c.args.kept.now in
    let noted = c.note_finish-2.ensures in
    record {
      current_is = ap current_of noted ∙ old.current_is;
      ended_is = ap ended_of noted ∙ old.ended_is ∙ sym (c.end_created.ensures.flags ∙ unset_again (flags_of old.created.items) _ _ c.requires.open_yet (sym c.is_ok.ensures.value ∙ c.if-is_ok.false));
      in_faults_is = ap in_faults noted ∙ old.in_faults_is;
      note_faults_is = ap note_faults noted ∙ old.note_faults_is;
      out_faults_is = ap out_faults noted ∙ ap next_count old.out_faults_is ∙ sym c.saturating_add-kept.ensures;
    }
