use Rattle.link_frames.proofs.form.is_in_form.Goals as goal

pub returns-in-Data : goal.returns-in-Data
returns-in-Data c = rw c.in-Data.is c.is_data.ensures
