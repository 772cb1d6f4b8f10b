use Rattle.journal_core.proofs.GrammarLemmas.{records_once, place_once}
use Rattle.journal_core.proofs.law.bytes_hold_one_journal.Goals as goal

pub returns-clause-records : goal.returns-clause-records
returns-clause-records c = records_once

pub returns-clause-place : goal.returns-clause-place
returns-clause-place c = place_once
