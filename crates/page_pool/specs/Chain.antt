-- The free pages of a pool in memory.
use Rattle.std.specs.Prelude.{List, [], ◌∷◌}
use base.Fml.{Fml, ftrue, fsep}
use denote.RawPtr.{Ptr}
use Rattle.libc.specs.Heap.{chunk}
use Rattle.std_alloc.specs.Box.Ownership.{box_owns}
use Rattle.page_pool.specs.declared.node.Node.{Node}
use Rattle.page_pool.specs.contracts.node.Node.{the_row as node-row}

-- each page owns its block, and its link leads to the next
abbrev pub chain : Ptr → List Node → Fml
chain p [] = ftrue
chain p (n ∷ ns) = fsep (box_owns chunk node-row p n) (chain n.link ns)

-- the same bytes with another link
abbrev pub with_link : Node → Ptr → Node
with_link n p = record { link = p; bytes = n.bytes }
