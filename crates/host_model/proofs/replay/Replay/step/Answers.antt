use Rattle.std.proofs.Common.{sym, ◌∙◌}
use Rattle.host_model.proofs.LeftLemmas.{Replays-write, Replays-fail_write, Replays-cut, Replays-fail_cut}
use Rattle.host_model.proofs.replay.Replay.step.Goals as goal

pub returns-else-not-is : goal.returns-else-not-is
returns-else-not-is c past before =
    let old = c.args.self.now in
    let new = c.write.new.self in
    let said = rw c.as_slice.ensures at c.write.ensures in
    rw c.in-Write.is (Replays-write c.write.result c.args.fill c.args.file c.in-Write.other past old.now old.left new.now new.left c.in-Write.at c.in-Write.bytes
    (sym c.is.ensures ∙ c.if-not-is.false) said.now said.left before)

pub returns-else-not-is-2 : goal.returns-else-not-is-2
returns-else-not-is-2 c past before =
    let old = c.args.self.now in
    let new = c.fail_write.new.self in
    rw c.in-FailedWrite.is (Replays-fail_write c.fail_write.result c.args.fill c.args.file c.in-FailedWrite.other past old.now old.left new.now new.left c.in-FailedWrite.at c.in-FailedWrite.size
    (sym c.is-in-FailedWrite.ensures ∙ c.if-not-is-2.false) c.fail_write.ensures.now c.fail_write.ensures.left before)

pub returns-else-not-is-3 : goal.returns-else-not-is-3
returns-else-not-is-3 c past before =
    let old = c.args.self.now in
    let new = c.cut.new.self in
    rw c.in-CutTo.is (Replays-cut c.cut.result c.args.fill c.args.file c.in-CutTo.other past old.now old.left new.now new.left c.in-CutTo.len
    (sym c.is-in-CutTo.ensures ∙ c.if-not-is-3.false) c.cut.ensures.now c.cut.ensures.left before)

pub returns-else-not-is-4 : goal.returns-else-not-is-4
returns-else-not-is-4 c past before =
    let old = c.args.self.now in
    let new = c.fail_cut.new.self in
    rw c.in-FailedCutTo.is (Replays-fail_cut c.fail_cut.result c.args.fill c.args.file c.in-FailedCutTo.other past old.now old.left new.now new.left c.in-FailedCutTo.len
    (sym c.is-in-FailedCutTo.ensures ∙ c.if-not-is-4.false) c.fail_cut.ensures.now c.fail_cut.ensures.left before)
