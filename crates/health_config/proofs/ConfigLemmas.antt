-- The entities that are left, behind what was read.
use Rattle.std.proofs.Common.{◌≡◌, ℕ, ◌+◌, Bool, true, List, [], ◌∷◌, ◌++◌, take, drop, map, Option, Some, None, is_some, Result, Ok, Err, refl, sym, ap, ◌∙◌, arith, append_assoc}
use Rattle.std.specs.Option.{option_map, option_to_list}
use Rattle.health_config.specs.declared.entity.Entity.{Entity}
use Rattle.health_config.specs.declared.fault.ConfigFault.{ConfigFault}
use Rattle.health_config.specs.declared.fault.ConfigFault.TheVariants.{BadLine, NoName, NoOn, BadDuration, TooManyAlarms, TextTooLong, Memory}
use Rattle.health_config.specs.declared.tally.Tally.{Tally}
use Rattle.health_config.specs.declared.lines.Line.{Line}
use Rattle.health_config.specs.Config.{Configuration, both, entity, entities, prefix_skipped, none_but, then_entities, of_sections, of_draft, ended, ended_by, tally_of, Adds, IsFound}
use Rattle.health_config.specs.Draft.{Draft}
use Rattle.health_config.specs.Entity.{Alarm, alarm, alarm_of}
use Rattle.health_config.specs.Fault.{◌>>=◌, IsRefusalFor}
use Rattle.health_config.specs.Key.{begins}
use Rattle.health_config.specs.Sections.{Group, section, sections}
use Rattle.health_config.proofs.SectionsLemmas.{leading_len, prefix_is, groups_are}

both-assoc : (a b c : Configuration) → both a (both b c) ≡ both (both a b) c
both-assoc a b c =
    ap (λ (alarms : List Alarm). record { alarms = alarms; skipped = a.skipped + (b.skipped + c.skipped) }) (sym (append_assoc a.alarms b.alarms c.alarms))
    ∙ ap (λ (skipped : ℕ). record { alarms = (a.alarms ++ b.alarms) ++ c.alarms; skipped = skipped }) (omega arith)

next_by : (done first : Configuration) (left : Result Configuration ConfigFault) → then_entities done (left >>= λ more. Ok (both first more)) ≡ then_entities (both done first) left
next_by done first (Ok more) = ap (λ (all : Configuration). Ok all) (both-assoc done first more)
next_by done first (Err fault) = refl

-- the entity that lines begin with, and the lines behind it
abbrev pub group_of : Bool → Line → List Line → Group
group_of template head behind = record { template = template; head = head; body = take (leading_len behind) behind }

-- the entities of lines that begin with one
pub groups_found : (lines : List Line) (template : Bool) (head : Line) (behind : List Line) → IsFound lines template head behind
    → (sections lines).groups ≡ group_of template head behind ∷ (sections (drop (leading_len behind) behind)).groups
groups_found lines template head behind found =
    ap (λ (all : List Line). (sections all).groups) found.whole
    ∙ ap (λ (o : Option Bool). (section o head (sections behind)).groups) found.begins
    ∙ ap (λ (body : List Line). record { template = template; head = head; body = body } ∷ (sections behind).groups) (prefix_is behind)
    ∙ ap (λ (groups : List Group). group_of template head behind ∷ groups) (groups_are behind)

module _ (before : ℕ) (done : Configuration) (lines : List Line) (template : Bool) (head : Line) (behind : List Line) (found : IsFound lines template head behind) where
  found_first : then_entities done (entities before (sections lines).groups)
      ≡ then_entities done (entity before (group_of template head behind) >>= λ first. entities (before + 1) (sections (drop (leading_len behind) behind)).groups >>= λ more. Ok (both first more))
  found_first = ap (λ (groups : List Group). then_entities done (entities before groups)) (groups_found lines template head behind found)

  -- an entity more
  pub next_entity : (first : Configuration) → entity before (group_of template head behind) ≡ Ok first
      → then_entities done (entities before (sections lines).groups) ≡ then_entities (both done first) (entities (before + 1) (sections (drop (leading_len behind) behind)).groups)
  next_entity first read =
      found_first
      ∙ ap (λ (r : Result Configuration ConfigFault). then_entities done (r >>= λ first. entities (before + 1) (sections (drop (leading_len behind) behind)).groups >>= λ more. Ok (both first more))) read
      ∙ next_by done first (entities (before + 1) (sections (drop (leading_len behind) behind)).groups)

  -- its refusal is the first
  pub entity_refused : (fault : ConfigFault) → entity before (group_of template head behind) ≡ Err fault → then_entities done (entities before (sections lines).groups) ≡ Err fault
  entity_refused fault read =
      found_first
      ∙ ap (λ (r : Result Configuration ConfigFault). then_entities done (r >>= λ first. entities (before + 1) (sections (drop (leading_len behind) behind)).groups >>= λ more. Ok (both first more))) read

ended_some : (on : Option (List ℕ)) (line : ℕ) (config : Configuration) → is_some on ≡ true → ended_by on line config ≡ Ok config
ended_some None line config some = cc
ended_some (Some on) line config some = refl

-- an entity that is on something adds what its lines set
pub ended_adds : (line : ℕ) (name : List ℕ) (template : Bool) (draft : Draft) (old new : Tally) (entity : Option Entity) → is_some draft.on ≡ true
    → option_map alarm_of entity ≡ alarm name template draft → map alarm_of new.alarms ≡ map alarm_of old.alarms ++ option_to_list (option_map alarm_of entity)
    → new.skipped ≡ old.skipped + draft.skipped → Adds (ended line name template draft) (tally_of old) (tally_of new)
ended_adds line name template draft old new entity some is alarms skipped = (
  of_draft name template draft,
  ended_some draft.on line (of_draft name template draft) some,
  ap (λ (alarms : List Alarm). record { alarms = alarms; skipped = new.skipped }) (alarms ∙ ap (λ (o : Option Alarm). map alarm_of old.alarms ++ option_to_list o) is)
      ∙ ap (λ (skipped : ℕ). record { alarms = map alarm_of old.alarms ++ option_to_list (alarm name template draft); skipped = skipped }) skipped,
)

-- ---- refusals

-- where every refusal of one answer is one of another, a call may answer alike
pub refused_alike : {A B : Type 0} (a : Result A ConfigFault) (b : Result B ConfigFault) (fault : ConfigFault) → ((f : ConfigFault) → a ≡ Err f → b ≡ Err f)
    → IsRefusalFor a fault → IsRefusalFor b fault
refused_alike a b (BadLine line) alike is = alike (BadLine line) is
refused_alike a b (NoName line) alike is = alike (NoName line) is
refused_alike a b (NoOn line) alike is = alike (NoOn line) is
refused_alike a b (BadDuration line) alike is = alike (BadDuration line) is
refused_alike a b (TooManyAlarms line) alike is = alike (TooManyAlarms line) is
refused_alike a b TextTooLong alike is = alike TextTooLong is
refused_alike a b Memory alike is = tt

-- ---- the lines before the first entity

module _ (lines prefix : List Line) (cut : prefix ≡ take (leading_len lines) lines) where
  prefix_read : prefix_skipped (sections lines).prefix ≡ prefix_skipped prefix
  prefix_read = ap prefix_skipped (prefix_is lines ∙ sym cut)

  pub prefix_refused : (fault : ConfigFault) → prefix_skipped prefix ≡ Err fault → of_sections (sections lines) ≡ Err fault
  prefix_refused fault read =
      ap (λ (r : Result ℕ ConfigFault). r >>= λ skipped. then_entities (none_but skipped) (entities 0 (sections lines).groups)) (prefix_read ∙ read)

  pub prefix_taken : (skipped : ℕ) (rest : List Line) → prefix_skipped prefix ≡ Ok skipped → rest ≡ drop (leading_len lines) lines
      → of_sections (sections lines) ≡ then_entities (none_but skipped) (entities 0 (sections rest).groups)
  prefix_taken skipped rest read is =
      ap (λ (r : Result ℕ ConfigFault). r >>= λ skipped. then_entities (none_but skipped) (entities 0 (sections lines).groups)) (prefix_read ∙ read)
      ∙ ap (λ (groups : List Group). then_entities (none_but skipped) (entities 0 groups)) (groups_are lines ∙ ap (λ (all : List Line). (sections all).groups) (sym is))

-- nothing was read but what was skipped
pub none_read : (alarms : List Entity) (skipped : ℕ) → alarms ≡ [] → none_but skipped ≡ tally_of (record { alarms = alarms; skipped = skipped })
none_read alarms skipped none = ap (λ (alarms : List Entity). record { alarms = map alarm_of alarms; skipped = skipped }) (sym none)

-- ---- one turn of the loop over entities

module _ (before : ℕ) (old : Configuration) (lines : List Line) (template : Bool) (head : Line) (behind body next : List Line)
    (found : IsFound lines template head behind) (cut : body ≡ take (leading_len behind) behind) where
  body_read : entity before (record { template = template; head = head; body = body }) ≡ entity before (group_of template head behind)
  body_read = ap (λ (body : List Line). entity before (record { template = template; head = head; body = body })) cut

  pub turned : (new : Configuration) → next ≡ drop (leading_len behind) behind → Adds (entity before (record { template = template; head = head; body = body })) old new
      → then_entities old (entities before (sections lines).groups) ≡ then_entities new (entities (before + 1) (sections next).groups)
  turned new is adds =
      next_entity before old lines template head behind found adds.0 (sym body_read ∙ adds.1)
      ∙ ap (λ (done : Configuration). then_entities done (entities (before + 1) (sections (drop (leading_len behind) behind)).groups)) (sym adds.2)
      ∙ ap (λ (left : List Line). then_entities new (entities (before + 1) (sections left).groups)) (sym is)

  pub stopped : (fault : ConfigFault) → entity before (record { template = template; head = head; body = body }) ≡ Err fault
      → then_entities old (entities before (sections lines).groups) ≡ Err fault
  stopped fault read = entity_refused before old lines template head behind found fault (sym body_read ∙ read)
