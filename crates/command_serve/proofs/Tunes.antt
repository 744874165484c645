-- A session over a tune.
use Rattle.std.proofs.Common.{◌≡◌, ◌∙◌, ap, ℕ, List}
use Rattle.num_fix.specs.declared.Frame.{Frame}
use Rattle.wav_form.specs.Wave.{stereo_wave}
use Rattle.cut_form.specs.declared.script.ScriptLine.{ScriptLine}
use Rattle.cut_form.specs.Session.{opened_session, replies, played_cuts}
use Rattle.cut_form.specs.Slices.{cut_frames}
use Rattle.session_files.specs.Replies.{report_on}

-- a session on a server is one over the tune
pub wave_of_tune : (f h : ℕ → List Frame) (p q : ℕ → List (List ℕ)) (m n : ℕ) (lines : List ScriptLine) → f ≡ h → p ≡ q → m ≡ n
    → stereo_wave (cut_frames f (played_cuts (replies m p (opened_session p) lines))) ≡ stereo_wave (cut_frames h (played_cuts (replies n q (opened_session q) lines)))
wave_of_tune f h p q m n lines frames pages slots =
    ap (λ (g : ℕ → List Frame). stereo_wave (cut_frames g (played_cuts (replies m p (opened_session p) lines)))) frames
    ∙ ap (λ (g : ℕ → List (List ℕ)). stereo_wave (cut_frames h (played_cuts (replies m g (opened_session g) lines)))) pages
    ∙ ap (λ (k : ℕ). stereo_wave (cut_frames h (played_cuts (replies k q (opened_session q) lines)))) slots

pub report_of_tune : (p q : ℕ → List (List ℕ)) (m n : ℕ) (lines : List ScriptLine) → p ≡ q → m ≡ n → report_on (replies m p (opened_session p) lines) ≡ report_on (replies n q (opened_session q) lines)
report_of_tune p q m n lines pages slots =
    ap (λ (g : ℕ → List (List ℕ)). report_on (replies m g (opened_session g) lines)) pages
    ∙ ap (λ (k : ℕ). report_on (replies k q (opened_session q) lines)) slots
