-- What a feed knows of the lines that it has taken.
use Rattle.std.proofs.Common.{◌≡◌, ℕ, Bool, false, List, Some, is_some, sym, ap, ◌∙◌, if◌then◌else◌}
use Rattle.std.specs.Option.{option_map_or}
use Rattle.list_lemmas.proofs.Searches.{some-map}
use Rattle.history.specs.declared.beat.OpenBeat.{OpenBeat}
use Rattle.history.specs.declared.dimension.DimDef.{DimDef}
use Rattle.history.specs.declared.fault.BlockFault.TheVariants.{OpenBlock, NoChart}
use Rattle.history.specs.declared.line.Line.{Line}
use Rattle.history.specs.declared.line.Line.TheVariants as line
use Rattle.history.specs.Looking.{open_block, beat}
use Rattle.history.specs.Refusal.{refusal, dimension_refusal}
use Rattle.history.specs.Registry.{Registry}
use Rattle.collect_block.specs.declared.feed.Feed.{Feed}
use Rattle.collect_block.specs.BeatTables.{beat_of}
use Rattle.collect_block.specs.Feed.{IsFeedOf, block_of}

-- whether a block is open
pub block-open : (feed : Feed) (every : ℕ) (past : List Line) → IsFeedOf feed every past → is_some feed.block ≡ is_some (open_block past)
block-open feed every past is = ap is_some is.block ∙ some-map (block_of past) (open_block past)

pub dimension-refused : (registry : Registry) (feed : Feed) (every : ℕ) (past : List Line) (copies : Bool) (last : ℕ) (def : DimDef) (chart : List ℕ) → IsFeedOf feed every past
    → is_some feed.block ≡ false → feed.chart ≡ Some chart → refusal registry every past copies last (line.Dimension def) ≡ dimension_refusal registry (beat_of feed.beat) chart def
dimension-refused registry feed every past copies last def chart is closed named =
    (λ i. if (sym (block-open feed every past is) ∙ closed) i then Some OpenBlock
    else option_map_or (λ chart. dimension_refusal registry (beat every past) chart def) ((sym is.chart ∙ named) i) (Some NoChart))
    ∙ ap (λ (open_beat : OpenBeat). dimension_refusal registry open_beat chart def) (sym is.beat)
