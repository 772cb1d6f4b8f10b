-- A list of free pages may go to another thread: it owns the blocks of its pages, and names no thread.
use Rattle.std.specs.Prelude.{List, [], ◌∷◌}
use mir.Raw.{raw}
use base.Shift.{Keyless}
use denote.RawPtr.{Ptr}
use denote.Memory.{lone}
use denote.Builtin.{RawPtr}
use denote.Struct.Struct.{exits_of}
use denote.Struct.Owning.{shape, fields, to}
use denote.Param.Send.{IsSend, owning_send, struct_send, sendable}
use Rattle.libc.specs.Heap.{chunk-Keyless}
use Rattle.std_alloc.proofs.SendSync.{quiet, lies}
use Rattle.page_pool.specs.Chain.{chain}
use Rattle.page_pool.specs.declared.node.Node.{Node}
use Rattle.page_pool.specs.contracts.node.Node as node
use Rattle.page_pool.specs.contracts.free_list.FreeList as list

pointer : IsSend RawPtr
pointer = search sendable

page : IsSend node.the_row
page = search sendable depth 9

chained : (p : Ptr) (ns : List Node) → Keyless (chain p ns)
chained p [] = tt
chained p (n ∷ ns) = ((lies node.the_row page p n, chunk-Keyless (raw (lone node.the_row.mir)) p), chained n.link ns)

pub send : IsSend list.the_row
send = let O = list.the_type in owning_send O (pointer, tt) (λ d. chained d.first d.nodes)
    (λ k. quiet (to O) (exits_of k (fields O)) ((struct_send (shape O) (pointer, tt)).leaving k))
