-- The side and the notes of what is stored for a history go on.
use Rattle.std.proofs.Common.{◌≡◌, ℕ, true, List, [], ◌∷◌, Some, refl, sym, ap, ◌∙◌, subst}
use Rattle.host_model.specs.declared.file.File.{File}
use Rattle.history.specs.History.{Beat}
use Rattle.tier_settings.specs.declared.settings.Settings.{Settings}
use Rattle.store_core.specs.declared.beats.beat.Beat.{Beat as StoreBeat}
use Rattle.store_core.specs.beats.Records.{with_all}
use Rattle.store_core.proofs.BeatProofs.RecordLaw.{oldest_first}
use Rattle.store_core.proofs.StandLemmas.{stands-form}
use Rattle.agent_core.specs.Kept.{AreBeatsOf}
use Rattle.agent_core.specs.Notes.{beats_go_on, left_after, noted_in_side, noted_of, with_note, Noted, NotesGo}
use Rattle.agent_core.specs.Stands.{AreSince, StandsForHistory}
use Rattle.agent_core.proofs.NoteLemmas.{go-on-more, go-on-none, goes-by, left-more, left-none}
use Rattle.agent_core.proofs.ReplayLemmas.{beat-leaves, beat-takes}
use Rattle.agent_core.proofs.SideNoted.{side-noted}

-- the beats since a checkpoint go on from what the history up to it leaves, and leave what the history leaves
record Leaves (start : Noted) (h : List Beat) (since : List StoreBeat) : Type 0 where
  beats : List StoreBeat
  are : AreBeatsOf h beats
  left : left_after start since ≡ noted_of h
  go_on : beats_go_on start since ≡ true

history-leaves : (earlier h : List Beat) (before since : List StoreBeat) → AreBeatsOf earlier before → AreSince earlier h since → Leaves (noted_of earlier) h since
history-leaves earlier h before [] were are = record {
  beats = before;
  are = subst (λ (g : List Beat). AreBeatsOf g before) (sym are) were;
  left = left-none (noted_of earlier) ∙ ap noted_of (sym are);
  go_on = go-on-none (noted_of earlier);
}
history-leaves earlier [] before (kept ∷ since) were are = absurd are
history-leaves earlier (beat ∷ h) before (kept ∷ since) were are =
    let was = history-leaves earlier h before since were are.1 in
    let start = noted_of earlier in
    let now : with_note (noted_of h) kept ≡ left_after start (kept ∷ since)
    = left-more start (noted_of h) (with_note (noted_of h) kept) since kept (sym was.left) refl in
    record {
      beats = kept ∷ was.beats;
      are = (are.0, was.are);
      left = sym now ∙ beat-leaves h was.beats was.are beat kept are.0 (noted_of h) (with_note (noted_of h) kept) refl refl;
      go_on = go-on-more start (noted_of h) since kept true was.go_on (sym was.left) (beat-takes h was.beats was.are beat kept are.0 (noted_of h) refl);
    }

pub history-goes : (set : Settings) (h : List Beat) (disk : File → List ℕ) → StandsForHistory set h disk → NotesGo true disk
history-goes set h disk here =
    let are = here.are in
    let body = here.stands.contents.body in
    let start = noted_of are.earlier in
    let since = oldest_first here.stored.after in
    let good : noted_in_side body.side ≡ Some start
    = ap noted_in_side here.stands.has.base.side ∙ side-noted set are.earlier are.beats are.were here.stored.base.side are.side in
    let go_on : beats_go_on start (with_all [] since.rest) ≡ true
    = ap (λ (all : List StoreBeat). beats_go_on start all) since.whole ∙ (history-leaves are.earlier h are.beats here.stored.after are.were are.since).go_on in
    record {
      body = body;
      beats = since.rest;
      form = stands-form here.stored disk here.stands since.rest since.whole;
      notes = goes-by start body.side since.rest true good go_on;
    }
