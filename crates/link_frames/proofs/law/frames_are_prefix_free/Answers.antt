use Rattle.std.proofs.Common.{[], ◌++◌, ap, ◌∙◌, sym}
use Rattle.std.proofs.lemmas.List.{append-nil}
use Rattle.link_frames.specs.Frames.{frame_bytes}
use Rattle.link_frames.proofs.FramesLaw.{one_frame, one_end}
use Rattle.link_frames.proofs.law.frames_are_prefix_free.Goals as goal

pub returns-clause-one_frame : goal.returns-clause-one_frame
returns-clause-one_frame c = λ a b spells_a spells_b same. one_frame a b [] [] spells_a spells_b (ap (λ bytes. bytes ++ []) same)

pub returns-clause-no_prefix : goal.returns-clause-no_prefix
returns-clause-no_prefix c = λ a b more spells_a spells_b same. one_end a b more [] spells_a spells_b (same ∙ sym (append-nil (frame_bytes b)))
