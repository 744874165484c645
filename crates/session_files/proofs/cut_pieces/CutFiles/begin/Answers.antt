use Rattle.std.proofs.Common.{◌≡◌, ◌∙◌, ℕ, suc, ◌+◌, ◌<◌, ◌≤◌, List, ◌∷◌, drop, length, get_or, Some, refl, ap, sym, subst, arith}
use Rattle.std.specs.List.{slice_get}
use Rattle.std.proofs.lemmas.Option.{slice_get_within, slice_get_read}
use Rattle.num_fix.specs.Limits.{max_frames}
use Rattle.num_fix.specs.declared.Frame.{Frame}
use Rattle.cut_form.specs.declared.cut.Cut.{Cut}
use Rattle.cut_form.specs.CutBook.{after_seek, with_one_if_room, slots_for_cuts}
use Rattle.cut_server.specs.Server.{pages_at, KeepsTune}
use Rattle.cut_server.specs.ServerState.{book_of}
use Rattle.cut_text.specs.Cuts.{EndWithinHour}
use Rattle.cut_form.specs.GrowingFrames.{AreOfRun}
use Rattle.cut_form.proofs.Slices.{drop_at}
use Rattle.cut_server.proofs.SameTune.{frames_kept}
use Rattle.session_files.specs.CutFiles.{IsInBounds, report_of}
use Rattle.session_files.proofs.Cutting.{ends_within, kept_twice, server_begun, bounds_begun, report_begun}
use Rattle.session_files.proofs.cut_pieces.CutFiles.begin.Goals as goal

-- the cut at a place of the list
record Found (cuts : List Cut) (i : ℕ) (cut : Cut) : Type 0 where
  before : i + 1 ≤ length cuts
  first : drop i cuts ≡ cut ∷ drop (i + 1) cuts
  within : cut.start + cut.count ≤ max_frames

found : (cuts read : List Cut) (i : ℕ) (cut : Cut) → read ≡ cuts → EndWithinHour read → i < length read → cut ≡ get_or read i cut → Found cuts i cut
found cuts read i cut same within before is =
    let there : slice_get cuts i ≡ Some cut = ap (λ (l : List Cut). slice_get l i) (sym same) ∙ slice_get_read read (length read) i cut refl before is in
    record {
      before = omega (arith, slice_get_within cuts i cut there);
      first = drop_at cuts i cut there;
      within = ends_within cuts i cut (subst EndWithinHour same within) there;
    }

pub seek-requires : goal.seek-requires
seek-requires g c =
    let lookup = c.in-Some.ensures.lookup in
    let at = found c.self.inside.cuts c.as_slice.result.now c.self.inside.begun c.in-Some.cut.now c.as_slice.ensures.cuts c.as_slice.ensures.within lookup.3.0 lookup.1 in
    omega (arith, at.within)

at_cut : (g : _) (c : goal.After-self-2-1 g) → Found c.self.inside.cuts c.self.inside.begun c.in-Some.cut.now
at_cut g c =
    let lookup = c.in-Some.ensures.lookup in
    found c.self.inside.cuts c.as_slice.result.now c.self.inside.begun c.in-Some.cut.now c.as_slice.ensures.cuts c.as_slice.ensures.within lookup.3.0 lookup.1

tune : (g : _) (c : goal.After-self-2-1 g) → KeepsTune g.C.Chip.meaning g.C.Chip.saving c.self.inside.server c.mark_if_room.new.server
tune g c = kept_twice g.C.Chip.meaning g.C.Chip.saving c.seek.ensures.tune c.mark_if_room.ensures.tune

bounds : (g : _) (c : goal.After-self-2-1 g) → IsInBounds (book_of c.self.inside.server) c.self.inside.left (suc (length (drop (c.self.inside.begun + 1) c.self.inside.cuts)))
bounds g c = subst (λ (n : ℕ). IsInBounds (book_of c.self.inside.server) c.self.inside.left n) (ap length (at_cut g c).first) c.self.invariant.bounds

book : (g : _) (c : goal.After-self-2-1 g) → book_of c.mark_if_room.new.server
    ≡ with_one_if_room slots_for_cuts (pages_at g.C.Chip.meaning g.C.Chip.saving c.self.inside.server) (after_seek (book_of c.self.inside.server) c.in-Some.cut.now.start)
book g c =
    server_begun g.C.Chip.meaning g.C.Chip.saving c.in-Some.cut.now (bounds g c) (at_cut g c).within c.self.invariant.slots
    c.seek.ensures.tune c.mark_if_room.ensures.tune c.seek.ensures.book c.mark_if_room.ensures.book

pub returns-clause-report : goal.returns-clause-report
returns-clause-report g c =
    let inside = c.self.inside in
    rw (← c.self.view_is)
    (report_begun g.C.Chip.meaning g.C.Chip.saving inside.cuts (drop (inside.begun + 1) inside.cuts) (drop inside.begun inside.cuts) c.in-Some.cut.now inside.left (tune g c)
    (rw (← c.self.view_is) at c.requires) (at_cut g c).first (book g c))

pub invariant_of-self : goal.invariant_of-self
invariant_of-self g c =
    let server = c.self.inside.server in
    record {
      slots = (tune g c).slots ∙ c.self.invariant.slots;
      run = subst (λ (f : ℕ → List Frame). AreOfRun f) (sym (frames_kept g.C.Chip.meaning g.C.Chip.saving (tune g c))) c.self.invariant.run;
      begun = (at_cut g c).before;
      bounds = bounds_begun (book_of c.mark_if_room.new.server) (pages_at g.C.Chip.meaning g.C.Chip.saving server) c.in-Some.cut.now (bounds g c) (at_cut g c).within (book g c);
      done = λ done. omega (arith, ap length (at_cut g c).first, c.self.invariant.done done);
      known = λ done. c.self.invariant.known done ∙ ap (report_of g.C.Chip.meaning g.C.Chip.saving) c.self.view_is ∙ sym (returns-clause-report g c);
    }
