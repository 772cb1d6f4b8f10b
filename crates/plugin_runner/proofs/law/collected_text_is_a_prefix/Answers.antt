use Rattle.plugin_runner.proofs.TurnsLemmas.{turned_prefix, turned_whole}
use Rattle.plugin_runner.proofs.law.collected_text_is_a_prefix.Goals as goal

pub returns-clause-prefix : goal.returns-clause-prefix
returns-clause-prefix c = λ coming words every starts last begun course answer after ahead ahead' later turned.
    turned_prefix coming words every starts last begun course answer after ahead ahead' turned later

pub returns-clause-whole : goal.returns-clause-whole
returns-clause-whole c = λ coming words every starts last begun course answer ending after ahead ahead' later turned.
    turned_whole coming words every starts last begun course answer after ahead ahead' turned ending later
