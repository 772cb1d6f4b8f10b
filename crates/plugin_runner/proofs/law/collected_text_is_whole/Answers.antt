use Rattle.plugin_runner.proofs.TurnsLemmas.{turned_ran}
use Rattle.plugin_runner.proofs.law.collected_text_is_whole.Goals as goal

pub returns : goal.returns
returns c = λ coming words every starts last begun course answer ending after ahead ahead' later turned.
    turned_ran coming words every starts last begun course answer after ahead ahead' turned ending later
