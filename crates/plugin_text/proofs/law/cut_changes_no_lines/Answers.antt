use Rattle.plugin_text.proofs.LongLemmas.{IsLongAfter-append, HasNoLongLine-append, IsLongAfter-later}
use Rattle.plugin_text.proofs.OneLineLemmas.{parts-one_line}
use Rattle.plugin_text.proofs.PartsLemmas.{parts_whole, parts-append, lines-append, rest-append}
use Rattle.plugin_text.proofs.law.cut_changes_no_lines.Goals as goal

pub returns-clause-whole : goal.returns-clause-whole
returns-clause-whole c = parts_whole

pub returns-clause-one_line : goal.returns-clause-one_line
returns-clause-one_line c = parts-one_line

pub returns-clause-parts : goal.returns-clause-parts
returns-clause-parts c = parts-append

pub returns-clause-lines : goal.returns-clause-lines
returns-clause-lines c = lines-append

pub returns-clause-rest : goal.returns-clause-rest
returns-clause-rest c = rest-append

pub returns-clause-long : goal.returns-clause-long
returns-clause-long c = IsLongAfter-append

pub returns-clause-short : goal.returns-clause-short
returns-clause-short c = HasNoLongLine-append

pub returns-clause-later : goal.returns-clause-later
returns-clause-later c = IsLongAfter-later
