use Rattle.std.proofs.Common.{Bool, sym, ap, ◌∙◌, if◌then◌else◌}
use Rattle.snd_host.specs.Host.{next_count}
use Rattle.snd_host.specs.History.{current_of, ended_of, in_faults, note_faults, out_faults}
use Rattle.disk_host.proofs.Outputs.{other_number}
use Rattle.disk_host.proofs.host.Kept.count_write.Goals as goal

pub invariant_of-self-else-number-eq1 : goal.invariant_of-self-else-number-eq1
invariant_of-self-else-number-eq1 g c =
    let old = c.args.self.now in
    let noted = c.note_write.ensures in
    let other = other_number c.args.number c.if-number-eq1.false in
    record {
      current_is = ap current_of noted ∙ old.current_is;
      ended_is = ap ended_of noted ∙ old.ended_is;
      in_faults_is = ap in_faults noted ∙ old.in_faults_is;
      note_faults_is = ap note_faults noted ∙ ap (λ (b : Bool). if b then next_count (note_faults old.log.calls) else note_faults old.log.calls) other ∙ old.note_faults_is;
      out_faults_is = ap out_faults noted ∙ ap (λ (b : Bool). if b then out_faults old.log.calls else next_count (out_faults old.log.calls)) other ∙ ap next_count old.out_faults_is
          ∙ sym c.saturating_add-self-else-number-eq1.ensures;
    }

pub invariant_of-self-2 : goal.invariant_of-self-2
invariant_of-self-2 g c =
    let old = c.args.self.now in
    let noted = c.note_write-2.ensures in
    record {
      current_is = ap current_of noted ∙ old.current_is;
      ended_is = ap ended_of noted ∙ old.ended_is;
      in_faults_is = ap in_faults noted ∙ old.in_faults_is;
      note_faults_is = ap note_faults noted ∙ old.note_faults_is;
      out_faults_is = ap out_faults noted ∙ old.out_faults_is;
    }
