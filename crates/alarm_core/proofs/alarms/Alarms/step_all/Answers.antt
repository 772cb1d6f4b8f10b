use Rattle.alarm_core.specs.Charts.{AreTaken}
use Rattle.alarm_core.proofs.RunLemmas.{taken_stand}
use Rattle.alarm_core.proofs.alarms.Alarms.step_all.Goals as goal

pub step_states-requires : goal.step_states-requires
step_states-requires g c =
    let pairing = c.args.self.now.pairing in
    let states = c.args.self.now.states.items in
    let are : AreTaken states c.args.self.now.lost pairing.pairs = c.args.self.now.taken c.requires.taken in
    rw (c.as_slice-runs.ensures, c.as_mut_slice-states.ensures.value) (taken_stand pairing.pairs pairing.runs states pairing.in_runs are.owners)
