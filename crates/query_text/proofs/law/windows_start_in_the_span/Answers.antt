use Rattle.query_text.proofs.SpanLemmas.{windows_are}
use Rattle.query_text.proofs.law.windows_start_in_the_span.Goals as goal

pub returns : goal.returns
returns c = windows_are
