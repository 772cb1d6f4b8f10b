use Rattle.link_frames.proofs.StreamLaw.{one_reading, none-open, none-long, none-bad}
use Rattle.link_frames.proofs.law.cut_changes_no_frames.Goals as goal

pub returns-clause-one_list : goal.returns-clause-one_list
returns-clause-one_list c = λ bytes rest end before first second one none two none_two. (one_reading bytes rest end before first second one none two none_two).0

pub returns-clause-one_rest : goal.returns-clause-one_rest
returns-clause-one_rest c = λ bytes rest end before first second one none two none_two. (one_reading bytes rest end before first second one none two none_two).1

pub returns-clause-open : goal.returns-clause-open
returns-clause-open c = none-open

pub returns-clause-long : goal.returns-clause-long
returns-clause-long c = none-long

pub returns-clause-bad : goal.returns-clause-bad
returns-clause-bad c = none-bad
