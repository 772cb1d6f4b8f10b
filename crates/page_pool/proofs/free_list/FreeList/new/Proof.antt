-- `new` makes a list with no page.
use Rattle.std.proofs.Common.{[], ◌∷◌, refl, lit<}
use mir.Val.{Val}
use base.Logic.{SProp, emp}
use base.Fml.{ftrue}
use contract.Monad.{fact, fact_i}
use contract.Running.{tables}
use types.Kit.{‵, raw, ◌⊛◌, ◌$◌, ◌∵◌, !, qed, by, keep, use0}
use types.Run.{lit, no_more, and_then, returns, enter}
use types.ByLocal.{alloc_all, pass_all, free_all, look_at, sets}
use types.Part.{agg}
use denote.RawPtr.{null_ptr}
use denote.Steps.{nothing}
use denote.Triple.Walked.{Stays, walk_of}
use Rattle.std.specs.Prelude.{◌≡◌, List}
use Rattle.std.proofs.raw_atomic.Walks.{proved, leaves}
use Rattle.page_pool.specs.declared.node.Node.{Node}
use Rattle.page_pool.proofs.NodeSteps.{list_val, list_in}
use Rattle.page_pool.specs.contracts.free_list.FreeList.new as f
use Rattle.page_pool.proofs.free_list.FreeList.new.Statement.{statement}
use Rattle.page_pool.proofs.free_list.FreeList.new.Code as code

pub new_spec : {M : Type 1} → statement M
new_spec 𝓤 𝓛 𝓜 𝓡 wired =
    let c = f.clauses 𝓛 𝓜.mem 𝓡.returns in let hs : Stays f.ended.signature.params f.ended.kept = tt in let 𝓣 = tables 𝓤 𝓛.H 𝓜 𝓡 𝓡.env in let none : List Node = [] in
    proved 𝓛 f.ended hs c 𝓜 𝓡 tt f.Key.name code.function (code.unfolded 𝓤 𝓛.H 𝓜 𝓡 wired) (λ κs. tt) (λ κs. tt) (λ κs qs bounds a g are.
    let y : (walk_of 𝓛 f.ended hs c).Ghost = ((κs, qs, bounds, a, tt), g) in let Post : Val → SProp 𝓤 = (walk_of 𝓛 f.ended hs c).post y in
    qed 𝓛 ((‵ ftrue ⊛ ‵ ftrue) ∷ ‵ ftrue ∷ []) ∵ keep ! [] $ enter ! 𝓣.C 𝓣.Λ code.function [] Post $ alloc_all ! (λ l. pass_all ! refl tt $
    sets ! (agg ! (and_then ! (lit ! tt) (no_more !))) refl (tt, (record { fits = lit< tt }, tt)) $
    nothing ! $ list_in ! null_ptr none $ use0 𝓛 (raw (fact 𝓤 (none ≡ none))) (fact_i 𝓤 (none ≡ none) (emp 𝓤) refl) $ nothing ! $ nothing ! $
    returns ! (look_at ! 0 refl) $ free_all ! refl $ keep ! (0 ∷ 1 ∷ 3 ∷ 2 ∷ []) $ by ! (leaves 𝓛 f.ended hs c y (list_val null_ptr) (record { first = null_ptr; nodes = none }) tt tt)))
