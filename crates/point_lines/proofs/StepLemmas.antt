-- What a line that was taken changes, and why one was not.
use Rattle.std.proofs.Common.{◌≡◌, ◌≤◌, ℕ, ◌+◌, Bool, true, false, List, [], ◌∷◌, length, Option, None, is_some, Result, Ok, Err, refl, sym, ap, ◌∙◌, arith}
use Rattle.std.proofs.lemmas.List.Elements.{All-cons}
use Rattle.std.specs.Option.{option_map_or}
use Rattle.history.specs.declared.fault.BlockFault.{BlockFault}
use Rattle.history.specs.declared.fault.BlockFault.TheVariants as block
use Rattle.history.specs.declared.line.Line.{Line}
use Rattle.history.specs.declared.line.Line.TheVariants as line
use Rattle.history.specs.History.{child, last, registry_of}
use Rattle.history.specs.Limits.{keeps_limits}
use Rattle.history.specs.Read.{refusal_at}
use Rattle.history.specs.Refusal.{refusal as refusal_by}
use Rattle.history.specs.Registry.{Registry}
use Rattle.plugin_text.specs.declared.fault.LineFault.TheVariants as fault
use Rattle.collect_block.specs.declared.feed.Feed.{Feed}
use Rattle.collect_block.specs.declared.step.Step.{Step}
use Rattle.collect_block.specs.declared.step.Step.TheVariants as step
use Rattle.collect_block.specs.Feed.{CountsAt, CountsFor, CountsPast, IsFeedOf, RefusedBy, step_of}
use Rattle.point_lines.specs.declared.reader.Reader.{Reader}
use Rattle.plugin_text.specs.declared.refusal.Refusal.{Refusal}
use Rattle.plugin_text.specs.declared.refusal.Refusal.TheVariants as refusal
use Rattle.point_lines.specs.declared.stop.Stop.TheVariants as stop
use Rattle.point_lines.specs.Judged.{every, history_of, placed}
use Rattle.point_lines.specs.Reader.{IsReaderOf, StopsFor}
use Rattle.point_lines.specs.Steps.{Stepped, block_stop, skips}
use Rattle.point_lines.specs.Told.{skipped}

-- ---- the counts
pub skipped-within : (past : List Line) → skipped past ≤ length past
skipped-within [] = omega arith
skipped-within (line.Chart def ∷ past) = omega (arith, skipped-within past)
skipped-within (line.Dimension def ∷ past) = omega (arith, skipped-within past)
skipped-within (line.Begin chart ∷ past) = omega (arith, skipped-within past)
skipped-within (line.Set id value anomalous ∷ past) = omega (arith, skipped-within past)
skipped-within (line.End ∷ past) = omega (arith, skipped-within past)
skipped-within (line.Flush ∷ past) = omega (arith, skipped-within past)
skipped-within (line.Disable ∷ past) = omega (arith, skipped-within past)
skipped-within (line.Moment moment ∷ past) = omega (arith, skipped-within past)
skipped-within (line.Query text ∷ past) = omega (arith, skipped-within past)
skipped-within (line.Skipped ∷ past) = omega (arith, skipped-within past)

skipped-more : (said : Line) (past : List Line) → skipped past + skips said ≡ skipped (said ∷ past)
skipped-more (line.Chart def) past = omega arith
skipped-more (line.Dimension def) past = omega arith
skipped-more (line.Begin chart) past = omega arith
skipped-more (line.Set id value anomalous) past = omega arith
skipped-more line.End past = omega arith
skipped-more line.Flush past = omega arith
skipped-more line.Disable past = omega arith
skipped-more (line.Moment moment) past = omega arith
skipped-more (line.Query text) past = refl
skipped-more line.Skipped past = refl

-- ---- what a feed counts
-- a feed that counts does so at each line
pub counts-at : (feed : Feed) (registry : Registry) (said : Line) → CountsFor feed registry → CountsAt said feed registry
counts-at feed registry (line.Chart def) counts = counts
counts-at feed registry (line.Dimension def) counts = counts
counts-at feed registry said counts = tt

-- and goes on for the same registry
counts-on : (feed : Feed) (registry : Registry) (said : Line) → CountsPast said feed registry → CountsFor feed registry
counts-on feed registry (line.Moment moment) counts = counts registry
counts-on feed registry said counts = counts

-- ---- why a line was not read
pub child-none : (past : List Line) → child (history_of past) ≡ None
child-none [] = refl
child-none (line.Chart def ∷ past) = child-none past
child-none (line.Dimension def ∷ past) = child-none past
child-none (line.Begin chart ∷ past) = child-none past
child-none (line.Set id value anomalous ∷ past) = child-none past
child-none (line.End ∷ past) = child-none past
child-none (line.Flush ∷ past) = child-none past
child-none (line.Disable ∷ past) = child-none past
child-none (line.Moment moment ∷ past) = child-none past
child-none (line.Query text ∷ past) = child-none past
child-none (line.Skipped ∷ past) = child-none past

module _ (reader : Reader) (past : List Line) (has : IsReaderOf reader past) (said : Line) where
  -- the feed's refusal is that of the definitions
  pub reason-is : refusal_by reader.registry every past false reader.last said ≡ refusal_at every [] past said
  reason-is =
      let now = history_of past in
      ap (λ registry. refusal_by registry every past false reader.last said) has.definitions
      ∙ ap (λ (moment : ℕ). refusal_by (registry_of now) every past false moment said) has.moment
      ∙ ap (λ (copies : Bool). refusal_by (registry_of now) every past copies (last now) said) (sym (ap is_some (child-none past)))

module _ (past : List Line) (said : Line) where
  abbrev answer : Option BlockFault → Result Line Refusal
  answer reason = option_map_or (λ (fault : BlockFault). Err (refusal.Block fault)) reason (Ok said)

  pub placed-ok : refusal_at every [] past said ≡ None → placed past said ≡ Ok said
  placed-ok none = ap answer none

  pub stops-block : (new : Reader) (fault : BlockFault) (reason : Option BlockFault) → reason ≡ refusal_at every [] past said → RefusedBy reason fault
      → (out : List ℕ) → StopsFor new past (placed past said) (block_stop fault) out out
  stops-block new block.NoChart reason is by out = (ap answer (sym is ∙ by), refl)
  stops-block new block.NoDimension reason is by out = (ap answer (sym is ∙ by), refl)
  stops-block new block.NoBlock reason is by out = (ap answer (sym is ∙ by), refl)
  stops-block new block.OpenBlock reason is by out = (ap answer (sym is ∙ by), refl)
  stops-block new block.SecondBlock reason is by out = (ap answer (sym is ∙ by), refl)
  stops-block new block.OffGrid reason is by out = (ap answer (sym is ∙ by), refl)
  stops-block new (block.MomentOrder last) reason is by out = (ap answer (sym is ∙ by), refl)
  stops-block new block.Unfinished reason is by out = (ap answer (sym is ∙ by), refl)
  stops-block new block.MixedRoles reason is by out = (ap answer (sym is ∙ by), refl)
  stops-block new block.GridChanged reason is by out = (ap answer (sym is ∙ by), refl)
  stops-block new block.TooManyCharts reason is by out = (ap answer (sym is ∙ by), refl)
  stops-block new block.TooManyDimensions reason is by out = (ap answer (sym is ∙ by), refl)
  stops-block new block.Memory reason is by out = tt

-- ---- a line that may stand there is counted
module _ (old : Reader) (past : List Line) (said : Line) (leads_to : Step) (feed : Feed) where
  abbrev counted : Reader
  counted = record old { lines = old.lines + 1; skipped = old.skipped + skips said; feed = feed }

  pub count-steps : IsReaderOf old past → keeps_limits said ≡ true → refusal_at every [] past said ≡ None → IsFeedOf feed every (said ∷ past) → CountsPast said feed old.registry → leads_to ≡ step_of every past said
      → Stepped counted past said leads_to
  count-steps has limits none fed counts step_is = record {
    lines = omega (arith, has.lines);
    skips = ap (λ (n : ℕ). n + skips said) has.skips ∙ skipped-more said past;
    feed = fed;
    counts = counts;
    definitions = has.definitions;
    moment = has.moment;
    rows = has.rows;
    accepted = has.accepted;
    accepted_line = none;
    limits = All-cons (λ (line : Line). keeps_limits line ≡ true) said past limits has.limits;
    step_is = step_is;
  }
