use Rattle.std.proofs.Common.{◌+◌, List, ◌++◌, take, subst, sym, ◌∙◌, vec_len}
use Rattle.replication.specs.declared.beats.Beat.{Beat}
use Rattle.replication.specs.Marks.{AreMarks}
use Rattle.replication.specs.Names.{uses, words_of}
use Rattle.replication.proofs.PrefixCode.{words_of-more}
use Rattle.link_frames.proofs.used.are_dimensions_used.Goals as goal

pub loop-beat-preserved : goal.loop-beat-preserved
loop-beat-preserved c =
    let items = c.as_slice-beat-items.result.now in
    let same = c.as_slice-beat-items.ensures in
    let i = c.loop-beat.beat-index in
    let long = c.loop-beat.invariant.long in
    let new = c.mark_words.new.marks.items in
    let before = subst (λ (bs : List Beat). AreMarks (uses (words_of (take i bs))) (vec_len c.loop-beat.marks) c.loop-beat.marks.items) (sym same)
    (rw long c.loop-beat.invariant.marks) in
    record {
      long = c.mark_words.ensures.long ∙ long;
      marks = rw (← long) (subst (λ (bs : List Beat). AreMarks (uses (words_of (take (i + 1) bs))) (vec_len c.loop-beat.marks) new) same
          (subst (λ words. AreMarks (uses words) (vec_len c.loop-beat.marks) new) (sym (words_of-more items i c.beat-item.result c.loop-beat-test.true c.beat-item.is))
          (subst (λ words. AreMarks (uses (words_of (take i items) ++ words)) (vec_len c.loop-beat.marks) new) c.as_slice.ensures
          (c.mark_words.ensures.marks (words_of (take i items)) before))));
    }
