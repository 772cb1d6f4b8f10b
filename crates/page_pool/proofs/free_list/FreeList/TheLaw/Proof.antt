-- A `&` to a list of free pages holds nothing of the pages. Assumes `Logic`.
use denote.Param.Shared.{copy_shared}
use denote.SharingLaws.{nothing_shr_laws}
use denote.Struct.Field.{RawPtr-field}
use denote.Struct.Laws.{RawPtr-copy}
use denote.Struct.Lending.{of_Lends, Lends-nothing}
use Rattle.page_pool.specs.contracts.free_list.FreeList as C
use Rattle.page_pool.proofs.free_list.FreeList.TheLaw.Statement.{statement}

pub shares : statement
shares =
    of_Lends C.struct C.the_codes C.the_heap C.the_lent (λ d p. nothing_shr_laws)
    (copy_shared RawPtr-field RawPtr-copy, tt) (λ M 𝓤 𝓛 d p. Lends-nothing 𝓛 (C.the_heap d) C.the_row.lives)
