use Rattle.query_engine.proofs.SeriesLemmas.{reversed_rising, reversed_within, reversed_record}
use Rattle.query_engine.proofs.law.series_can_be_rolled.Goals as goal

pub returns-clause-rising : goal.returns-clause-rising
returns-clause-rising c = reversed_rising

pub returns-clause-within : goal.returns-clause-within
returns-clause-within c = reversed_within

pub returns-clause-same : goal.returns-clause-same
returns-clause-same c = reversed_record
