use Rattle.store_core.proofs.DamageLemmas.{form-undamaged}
use Rattle.agent_core.proofs.NoteLemmas.{notes-made, notes-once}
use Rattle.agent_core.proofs.StoredNotes.{history-goes}
use Rattle.agent_core.proofs.law.history_notes_go_on.Goals as goal

pub returns-clause-once : goal.returns-clause-once
returns-clause-once c = notes-once

pub returns-clause-records : goal.returns-clause-records
returns-clause-records c goes disk notes damaged = damaged.no_form notes.body notes.beats notes.form

pub returns-clause-whole : goal.returns-clause-whole
returns-clause-whole c goes part disk notes = form-undamaged notes.body notes.beats disk notes.form part

pub returns-clause-made : goal.returns-clause-made
returns-clause-made c = notes-made

pub returns-clause-history : goal.returns-clause-history
returns-clause-history c = history-goes
