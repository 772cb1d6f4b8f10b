use Rattle.store_core.proofs.disk.law.telling_keeps_files_open.Goals as goal

pub returns-clause-opened : goal.returns-clause-opened
returns-clause-opened c past sent files contents is = record { number = is.number; place = is.place; journal = is.journal; holds = is.holds }

pub returns-clause-shares : goal.returns-clause-shares
returns-clause-shares c past sent shares within = within
