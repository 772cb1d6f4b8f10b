-- What is said of a block that is lent to be written.
use base.Fml.{Fml}
use denote.RattleType.{RattleType}
use denote.Ref.{MutBor}
use denote.Follow.{follows}
use Rattle.std.specs.declared.alloc.Allocator.{Ghosts}
use Rattle.page_pool.specs.declared.block.Block.{Block}
use Rattle.page_pool.specs.contracts.block.Block.{the_row as block-row}

-- the block with another value in it
abbrev pub with_value : {X Z : Type 0} → Block X Z → X → Block X Z
with_value b w = record { at = b.at; alloc = b.alloc; value = w }

-- once the borrow r ends, the block behind b holds the last value written through r
abbrev pub block_follows : (R Z : RattleType) (g : Ghosts Z.Denot) → MutBor (Block R.Denot Z.Denot) → MutBor R.Denot → Fml
block_follows R Z g b r = follows (block-row R Z g) R b.ghost_name r.ghost_name (with_value b.now)
