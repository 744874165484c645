-- What is still to come of a session, once it went on.
use Rattle.std.proofs.Common.{◌≡◌, ◌∙◌, sym, ap, refl, ℕ, ◌<◌, List, [], ◌∷◌, ◌++◌, length, arith, append_assoc}
use Rattle.std.specs.List.{flat_map}
use Rattle.std.proofs.lemmas.Grind.{flat_map-append}
use Rattle.std.proofs.lemmas.List.Concat.{flat_map-cons}
use Rattle.num_fix.specs.declared.Frame.{Frame}
use Rattle.wav_form.specs.Wave.{frame_bytes}
use Rattle.chip_form.specs.ChipMeaning.{ChipMeaning}
use Rattle.chip_form.specs.ChipSaving.{ChipSaving}
use Rattle.lock_step.specs.Machine.{Machine}
use Rattle.render_core.specs.MachineRun.{Whole}
use Rattle.cut_form.specs.declared.script.ScriptLine.{ScriptLine}
use Rattle.cut_form.specs.declared.script.Reply.{Reply}
use Rattle.cut_form.specs.Slices.{cut_frames}
use Rattle.cut_form.specs.Session.{Session, LineOutcome, replies, played_cuts}
use Rattle.cut_server.specs.ServerState.{pages_after, frames_after, slots_of}
use Rattle.cut_server.specs.Server.{ChipServer, lock_step_machines, pages_at, frames_to, KeepsTune}
use Rattle.session_files.specs.SessionRun.{session_of, left_to_play, Answers}
use Rattle.session_files.specs.Replies.{reply_line, report_on}
use Rattle.session_files.specs.SessionFiles.{SessionFilesState, replies_to_come, frames_left, SessionGoesOn}
use Rattle.cut_server.proofs.SameTune.{frames_kept}
use Rattle.render_files.proofs.Waves.{moved}
use Rattle.session_files.proofs.Playing.{frames_first}

module _ {S V : Type 0} (chip : ChipMeaning S) (saving : ChipSaving S V) where
  replies_kept : {old new : ChipServer S V} → KeepsTune chip saving old new → (a b : Session) (k l : List ScriptLine) → b ≡ a → l ≡ k
      → replies (slots_of new) (pages_at chip saving new) b l ≡ replies (slots_of old) (pages_at chip saving old) a k
  replies_kept {old} {new} tune a b k l same lines =
      ap (λ (w : Whole (Machine S)). replies (slots_of new) (pages_after (lock_step_machines chip saving) w) b l) tune.start
      ∙ ap (λ (n : ℕ). replies n (pages_at chip saving old) b l) tune.slots
      ∙ ap (λ (s : Session). replies (slots_of old) (pages_at chip saving old) s l) same
      ∙ ap (replies (slots_of old) (pages_at chip saving old) a) lines

  rest_kept : {old new : ChipServer S V} → KeepsTune chip saving old new → (now known : List Reply) → now ≡ known
      → cut_frames (frames_to chip saving new) (played_cuts now) ≡ cut_frames (frames_to chip saving old) (played_cuts known)
  rest_kept {old} {new} tune now known same =
      ap (λ (h : ℕ → List Frame). cut_frames h (played_cuts now)) (frames_kept chip saving tune)
      ∙ ap (λ (r : List Reply). cut_frames (frames_to chip saving old) (played_cuts r)) same

  -- frames were played
  pub played_on : {old new : SessionFilesState S V} (played : List Frame) → KeepsTune chip saving old.run.server new.run.server → session_of new.run ≡ session_of old.run → new.lines ≡ old.lines → new.known ≡ old.known
      → played ++ left_to_play chip saving new.run ≡ left_to_play chip saving old.run → new.wave ≡ old.wave ++ flat_map frame_bytes played → new.run.left < old.run.left → SessionGoesOn chip saving old new
  played_on {old} {new} played tune same lines known split wave less =
      let later : replies_to_come chip saving new ≡ replies_to_come chip saving old = replies_kept tune (session_of old.run) (session_of new.run) old.lines new.lines same lines in
      record {
        wave = moved old.wave new.wave played (left_to_play chip saving old.run) (left_to_play chip saving new.run) _ _ wave split (rest_kept tune (replies_to_come chip saving new) (replies_to_come chip saving old) later);
        report = ap (λ (l : List ℕ). l ++ report_on (replies_to_come chip saving new)) known ∙ ap (λ (r : List Reply). old.known ++ report_on r) later;
        less_work = omega (arith, less, ap length lines);
      }

  -- a line was answered
  pub answered : {old new : SessionFilesState S V} (line : ScriptLine) (reply : Reply) → Answers chip saving line old.run new.run reply → left_to_play chip saving old.run ≡ [] → old.lines ≡ line ∷ new.lines
      → new.known ≡ old.known ++ reply_line reply → new.wave ≡ old.wave → SessionGoesOn chip saving old new
  answered {old} {new} line reply answers before lines known wave =
      let server = old.run.server in
      let f = frames_to chip saving server in
      let rest = replies (slots_of server) (pages_at chip saving server) (session_of new.run) new.lines in
      let all : replies_to_come chip saving old ≡ reply ∷ rest =
      ap (replies (slots_of server) (pages_at chip saving server) (session_of old.run)) lines
      ∙ ap (λ (o : LineOutcome). o.reply ∷ replies (slots_of server) (pages_at chip saving server) o.session new.lines) answers.outcome in
      let later : replies_to_come chip saving new ≡ rest = replies_kept answers.tune (session_of new.run) (session_of new.run) new.lines new.lines refl refl in
      record {
        wave =
            ap (λ (l : List Frame). old.wave ++ flat_map frame_bytes (l ++ cut_frames f (played_cuts (replies_to_come chip saving old)))) before
            ∙ ap (λ (r : List Reply). old.wave ++ flat_map frame_bytes (cut_frames f (played_cuts r))) all
            ∙ ap (λ (l : List Frame). old.wave ++ flat_map frame_bytes l) (frames_first f reply rest)
            ∙ ap (λ (l : List Frame). old.wave ++ flat_map frame_bytes (l ++ cut_frames f (played_cuts rest))) (sym answers.frames)
            ∙ ap (λ (l : List Frame). old.wave ++ flat_map frame_bytes (left_to_play chip saving new.run ++ l)) (sym (rest_kept answers.tune (replies_to_come chip saving new) rest later))
            ∙ ap (λ (l : List ℕ). l ++ flat_map frame_bytes (frames_left chip saving new)) (sym wave);
        report =
            ap (λ (l : List ℕ). l ++ report_on (replies_to_come chip saving new)) known
            ∙ ap (λ (r : List Reply). (old.known ++ reply_line reply) ++ report_on r) later
            ∙ append_assoc old.known (reply_line reply) (report_on rest)
            ∙ ap (λ (l : List ℕ). old.known ++ l) (sym (flat_map-cons reply_line reply rest))
            ∙ ap (λ (r : List Reply). old.known ++ report_on r) (sym all);
        less_work = omega (arith, answers.few, ap length lines);
      }
