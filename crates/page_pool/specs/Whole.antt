-- What the free pages of a pool have in common.
use Rattle.std.specs.Prelude.{Bool, true, ◌&&◌, List, [], ◌∷◌, length, nat_eq}
use Rattle.page_pool.specs.declared.node.Node.{Node}
use Rattle.page_pool.specs.declared.node.TheConstants.{PAGE_SIZE}

-- each has its 4,096 bytes
abbrev pub are_whole : List Node → Bool
are_whole [] = true
are_whole (n ∷ ns) = nat_eq (length n.bytes) PAGE_SIZE && are_whole ns
