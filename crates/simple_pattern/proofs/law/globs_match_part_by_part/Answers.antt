use Rattle.simple_pattern.specs.Glob.{is_match}
use Rattle.simple_pattern.proofs.Characters.{is_match-characters}
use Rattle.simple_pattern.proofs.Runs.{is_match-nil, is_match-parts, any_end-parts, any_end-twice, every_name}
use Rattle.simple_pattern.proofs.law.globs_match_part_by_part.Goals as goal

pub returns-clause-end : goal.returns-clause-end
returns-clause-end c = is_match-nil

pub returns-clause-plain : goal.returns-clause-plain
returns-clause-plain c = is_match-parts

pub returns-clause-run : goal.returns-clause-run
returns-clause-run c = λ glob. any_end-parts (is_match glob)

pub returns-clause-stars : goal.returns-clause-stars
returns-clause-stars c = λ glob. any_end-twice (is_match glob)

pub returns-clause-every : goal.returns-clause-every
returns-clause-every c = every_name

pub returns-clause-characters : goal.returns-clause-characters
returns-clause-characters c = is_match-characters
