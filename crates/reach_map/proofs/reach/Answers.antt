use Rattle.std.proofs.Common.{◌≡◌, ◌++◌, List, ℕ, Bool, true, false, ap, ◌∙◌}
use Rattle.std.specs.FinSet as set
use Rattle.aram_core.specs.Pages.{Pages, have_common_page}
use Rattle.reach_map.specs.Added.{with_pages}
use Rattle.reach_map.specs.Reach.{reach, voice_pages, window_pages}
use Rattle.aram_core.specs.declared.window.Window.{Window}
use Rattle.reach_map.specs.declared.ChainStart.{ChainStart}
use Rattle.reach_map.proofs.Added.{with_pages-from_list}
use Rattle.reach_map.proofs.reach.Goals as goal

reach-on : (memory : List ℕ) (starts : List ChainStart) (entries : List ℕ) (window : Window) (read write : Pages) (entangled : Bool)
    → read ≡ set.union (set.from_list (voice_pages memory starts entries)) (set.from_list (window_pages window)) → write ≡ set.from_list (window_pages window)
    → entangled ≡ have_common_page (set.from_list (voice_pages memory starts entries)) write
    → record { read_pages = read; write_pages = write; entangled = entangled } ≡ reach memory starts entries window true
unfolding reach with_pages
reach-on memory starts entries window read write entangled reads writes common =
    let voices : List ℕ = voice_pages memory starts entries in
    let echo : List ℕ = window_pages window in
    let all : read ≡ set.from_list (voices ++ echo) = reads ∙ with_pages-from_list voices echo in
    let both : entangled ≡ have_common_page (set.from_list voices) (set.from_list echo) = common ∙ ap (have_common_page (set.from_list voices)) writes in
    (λ i. record { read_pages = all i; write_pages = writes i; entangled = both i })

reach-off : (memory : List ℕ) (starts : List ChainStart) (entries : List ℕ) (window : Window) (read write : Pages) (entangled : Bool)
    → read ≡ set.union (set.from_list (voice_pages memory starts entries)) (set.from_list (window_pages window)) → write ≡ set.empty → entangled ≡ false
    → record { read_pages = read; write_pages = write; entangled = entangled } ≡ reach memory starts entries window false
unfolding reach with_pages
reach-off memory starts entries window read write entangled reads writes common =
    let all : read ≡ set.from_list (voice_pages memory starts entries ++ window_pages window) = reads ∙ with_pages-from_list (voice_pages memory starts entries) (window_pages window) in
    (λ i. record { read_pages = all i; write_pages = writes i; entangled = common i })

pub returns-then-writes_on : goal.returns-then-writes_on
returns-then-writes_on c =
    rw c.if-writes_on.true (reach-on c.args.memory.now c.args.starts.now c.args.entries.now c.args.window _ _ _ (cc) (cc) (cc))

pub returns-else-writes_on : goal.returns-else-writes_on
returns-else-writes_on c =
    rw c.if-writes_on.false (reach-off c.args.memory.now c.args.starts.now c.args.entries.now c.args.window _ _ _ (cc) (cc) (cc))
