use Rattle.query_text.proofs.ReplyLemmas.{table-reply, fault-reply}
use Rattle.query_text.proofs.law.replies_are_whole_lines.Goals as goal

pub returns-clause-table : goal.returns-clause-table
returns-clause-table c = table-reply

pub returns-clause-fault : goal.returns-clause-fault
returns-clause-fault c = fault-reply
