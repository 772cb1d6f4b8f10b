use Rattle.link_frames.proofs.StreamLaw.{pieces_change_no_frames, together, under_way}
use Rattle.link_frames.proofs.law.pieces_change_no_frames.Goals as goal

pub returns-clause-together : goal.returns-clause-together
returns-clause-together c = together

pub returns-clause-under_way : goal.returns-clause-under_way
returns-clause-under_way c = under_way

pub returns-clause-one_list : goal.returns-clause-one_list
returns-clause-one_list c = λ pieces others before first second rest end one two same. (pieces_change_no_frames pieces others before first second rest end one two same).0

pub returns-clause-one_rest : goal.returns-clause-one_rest
returns-clause-one_rest c = λ pieces others before first second rest end one two same. (pieces_change_no_frames pieces others before first second rest end one two same).1
