-- A block may go to another thread if its value and its allocator may.
use mir.Raw.{raw}
use denote.RattleType.{RattleType}
use denote.Memory.{lone}
use denote.Builtin.{RawPtr}
use denote.Struct.Struct.{exits_of}
use denote.Struct.Owning.{shape, fields, to}
use denote.Param.Send.{IsSend, Frees, owning_send, struct_send, sendable}
use Rattle.core.specs.declared.alloc.Allocator.{Ghosts}
use Rattle.std_alloc.proofs.SendSync.{quiet, lies}
use Rattle.page_pool.specs.contracts.block.Block as block

ps : IsSend RawPtr
ps = search sendable

pub send : (T A : RattleType) (g : Ghosts A.Denot) → IsSend T → IsSend A → Frees g g.dealloc_token → IsSend (block.the_row T A g)
send T A g s sa f = let O = block.the_type T A g in owning_send O (ps, (sa, tt)) (λ d. (lies T s d.at d.value, f.frees d.alloc (raw (lone T.mir)) d.at))
    (λ k. quiet (to O) (exits_of k (fields O)) ((struct_send (shape O) (ps, (sa, tt))).leaving k))
