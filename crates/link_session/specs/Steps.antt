-- A child and a parent by their histories, and all Data that were ever sent between them: the world of the crate `replication`,
-- over whole histories. A Data that is lost is one that is never delivered; any may be delivered again, and in any order.
use Rattle.std.specs.Prelude.{◌≡◌, ℕ, List, [], ◌∷◌, ◌++◌, take, slice_get, Some}
use Rattle.std.specs.List.{AllByRecursion}
use Rattle.std.specs.Option.{option_map_or}
use Rattle.history.specs.History.{Beat}
use Rattle.replication.specs.declared.ask.Ask.{Ask}
use Rattle.replication.specs.declared.message.Data.{Data}
use Rattle.link_frames.specs.DataForm.{IsData}
use Rattle.link_frames.specs.declared.frame.Frame.{Frame}
use Rattle.link_frames.specs.declared.frame.Frame.TheVariants as frame
use Rattle.tier_settings.specs.declared.settings.Settings.{Settings}
use Rattle.store_core.specs.declared.beats.beat.Beat.{Beat as StoreBeat}
use Rattle.agent_core.specs.Answers.{floor_of_history}
use Rattle.agent_core.specs.Copies.{data_of_history}
use Rattle.agent_core.specs.Copying.{added_to}
use Rattle.agent_core.specs.Kept.{onto, AreBeatsOf}

-- the histories of both, all floors that the child had, and all Data that it ever sent, the oldest first
pub record World : Type 0 where
  pub child : List Beat
  pub floors : List ℕ
  pub parent : List Beat
  pub messages : List Data

abbrev pub world_of : (child : List Beat) → (floors : List ℕ) → (parent : List Beat) → (messages : List Data) → World
world_of child floors parent messages = record { child = child; floors = floors; parent = parent; messages = messages }

-- what may happen
pub data Step : Type 0 where
  -- the child's history gets a beat, and the child has the floor of it from then on
  gets : Beat → Step
  -- the child answers an Ask
  answers : Ask → Step
  -- the Data at this place among all that were ever sent comes to the parent, and a crash keeps this many of the beats that it adds
  delivers : (place keep : ℕ) → Step

-- the child has the settings
abbrev pub happens : Settings → World → Step → World
happens set w (gets beat) = record w { child = beat ∷ w.child; floors = w.floors ++ floor_of_history set (beat ∷ w.child) 0 ∷ [] }
happens set w (answers ask) = option_map_or (λ (message : Data). record w { messages = w.messages ++ message ∷ [] }) (data_of_history set w.child ask) w
happens set w (delivers place keep) = option_map_or (λ (message : Data). record w { parent = onto w.parent (take keep (added_to w.parent message)) }) (slice_get w.messages place) w

-- what steps lead to, the newest first, as a history has its beats
abbrev pub run_from : Settings → World → List Step → World
run_from set w [] = w
run_from set w (step ∷ steps) = happens set (run_from set w steps) step

-- some steps lead from the one to the other
abbrev pub LeadTo : Settings → World → World → Type 0
LeadTo set before after = (steps : List Step) × (run_from set before steps ≡ after)

-- before any step
abbrev pub start : Settings → World
start set = world_of [] (floor_of_history set [] 0 ∷ []) [] []

-- each history is one that a store keeps, and each Data has the form of a frame's
pub record IsKept (w : World) : Type 0 where
  pub child_beats : List StoreBeat
  pub child_are : AreBeatsOf w.child child_beats
  pub parent_beats : List StoreBeat
  pub parent_are : AreBeatsOf w.parent parent_beats
  pub forms : AllByRecursion IsData w.messages

-- the Data of frames
abbrev pub data_in : List Frame → List Data
data_in [] = []
data_in (frame.Data message ∷ frames) = message ∷ data_in frames
data_in (other ∷ frames) = data_in frames

-- the Data is one of these
abbrev pub WasSent : List Data → Data → Type 0
WasSent messages message = (place : ℕ) × (slice_get messages place ≡ Some message)
