use Rattle.std.proofs.Common.{ap, ◌∙◌, ◌+◌, List, length}
use Rattle.replication.specs.declared.beats.Beat.{Beat as SentBeat}
use Rattle.agent_core.proofs.PrefixLemmas.{length-none, length-some}
use Rattle.agent_core.proofs.copying.beats_in.Goals as goal

pub returns-then-message : goal.returns-then-message
returns-then-message c registry = ap (λ (beats : List SentBeat). length beats + 1) c.as_slice-beats.ensures ∙ length-some registry c.args.message.now c.if-message.true

pub returns-else-message : goal.returns-else-message
returns-else-message c registry = ap length c.as_slice-beats.ensures ∙ length-none registry c.args.message.now c.if-message.false
