-- `put` writes the link, and makes the page the first.
use Rattle.std.proofs.Common.{◌≡◌, ℕ, List, [], ◌∷◌, ◌++◌, refl, sym, subst}
use mir.Val.{Val, vptr, vunit}
use base.Logic.{SProp, ent, emp, id⊢}
use base.Fml.{ftrue, flft}
use prog.Wp.{WpFn}
use contract.Monad.{fact, fact_i}
use contract.Running.{tables}
use types.Kit.{‵, raw, ◌⊛◌, at_ret, ◌$◌, ◌∵◌, !, qed, by, move, keep, drop, use0, split, join, fsplit3, fjoin, fjoin3, suffices, rewrite, feq_i}
use types.Run.{stop, fld, load, of_opd, unit_lit, first, blocks, exec, returns, enter, assigns, assigns_last}
use types.ByLocal.{alloc_all, pass_all, free_all, look_at, get, get_in, through, sets, env}
use types.Part.{sub, whole, look_in, store_in}
use denote.Exit.{yes}
use denote.RattleType.{RattleType, owns}
use denote.Memory.{cell_at}
use denote.RawPtr.{Ptr, block_ptr}
use denote.Signature.{types_at, plain}
use denote.Steps.{nothing, opens, closes}
use denote.Triple.Walked.{Stays, stay_dropped, stay_ref, walk_of, Goes-ref}
use base.Fraction.{full_share}
use Rattle.core.proofs.alloc.Calls.{Goes-blank}
use Rattle.core.proofs.alloc.Shapes.{after}
use Rattle.core.proofs.atomic.Steps.{Ptr-Good}
use Rattle.std.specs.contracts.alloc.Global as heap
use Rattle.std.proofs.alloc.Global.TheLaws as heap_laws
use Rattle.std.specs.contracts.impls.GlobalAllocator.TheImpl.{ghosts}
use Rattle.std.proofs.raw_atomic.Walks.{proved_at, leaves}
use Rattle.page_pool.specs.Chain.{with_link}
use Rattle.page_pool.specs.contracts.node.Node as node
use Rattle.page_pool.specs.contracts.free_list.FreeList as list
use Rattle.page_pool.proofs.Values.{both, Held, held_good, held_out}
use Rattle.page_pool.proofs.NodeSteps.{list_val, node_out, node_in, list_out, list_in}
use Rattle.page_pool.specs.contracts.free_list.FreeList.put.{ended, clauses}
use Rattle.page_pool.specs.contracts.free_list.FreeList.put.Key.{name as #self}
use Rattle.page_pool.proofs.free_list.FreeList.put.Statement.{statement}
use Rattle.page_pool.proofs.free_list.FreeList.put.Code as code

pub put_spec : {M : Type 1} → statement M
put_spec 𝓤 𝓛 𝓜 𝓡 wired =
    let H = 𝓛.H in let 𝓣 = tables 𝓤 H 𝓜 𝓡 𝓡.env in let c = clauses 𝓛 𝓜.mem 𝓡.returns in let fn = code.function in
    let Z : RattleType = heap.the_row in let LZ = heap_laws.the_row_laws in let Bl : RattleType = Held node.the_row Z LZ ghosts in let Li : RattleType = list.the_row in
    let hs : Stays ended.signature.params ended.kept = (stay_ref (0 ∷ []) tt (plain (λ _. Li)), (stay_dropped (plain (λ _. Bl)) yes, tt)) in
    proved_at 𝓛 ended hs c 𝓜 𝓡 (Goes-ref 𝓛 1 0 tt (plain (λ _. Li)), (Goes-blank 𝓛 1 (plain (λ _. Bl)) yes (λ κs x f. tt), tt)) #self fn (code.unfolded 𝓤 H 𝓜 𝓡 wired) (λ y are.
    let κs = y.0.0 in let qs = y.0.1 in let a = y.0.3 in let vss = y.0.4 in let Post : Val → SProp 𝓤 = (walk_of 𝓛 ended hs c).post y in
    let rb : ℕ = a.0.ref_ptr.0 in let ro : ℕ = a.0.ref_ptr.1 in let h : Li.Denot = a.0.now in let v : Bl.Denot = a.1.0 in let n = v.value in
    qed 𝓛 (((‵ (flft κs.0 qs.0) ⊛ ‵ ftrue) ⊛ ‵ (owns (types_at ended.signature.params κs) a vss)) ∷ raw ((c κs a).requires y.1) ∷ []) ∵
    split ! $ split ! $ move ! (2 ∷ []) $ fsplit3 ! $ fsplit3 ! $ keep ! (3 ∷ 1 ∷ 2 ∷ 5 ∷ []) $
    held_out node.the_row Z LZ ghosts ! v vss.1.0 (λ b o g e ws fits. move ! (1 ∷ []) $ drop ! $
    let us : List Val = vptr rb ro ∷ both (vptr b o) g ∷ [] in let Run : List Val → SProp 𝓤 = λ xs. WpFn 𝓤 H 𝓣.C 𝓣.Λ fn xs Post in
    suffices ! (Run us) (subst (λ (xs : List Val). ent 𝓤 (Run us) (Run xs)) (sym (λ i. are.0.0 i ++ (ws i ++ []))) (id⊢ 𝓤 (Run us))) $
    enter ! 𝓣.C 𝓣.Λ fn us Post $ alloc_all ! (λ l. pass_all ! refl ((tt, tt), (held_good node.the_row Z LZ ghosts b o g fits, tt)) $ let Ev = env fn.locals l in
    move ! (1 ∷ 2 ∷ 3 ∷ []) $ opens ! tt Li rb ro (λ ts. move ! (1 ∷ []) $ list_out ! h ts (λ et. rewrite ! 1 (λ (xs : List Val). ‵ (cell_at full_share Li.mir xs rb ro)) et refl $
    move ! (5 ∷ []) $ node_out ! n b o $
    -- [the node's cell; what it owns; its token; the chain; the list's cell; the open borrow, in three entries]
    sets ! (of_opd ! (get_in ! (fld ! refl (stop !)) (sub ! 0 refl (whole !)))) refl (tt, tt) $
    first ! $ blocks ! $
    sets ! (of_opd ! (load ! (through ! refl (fld ! refl (stop !))) (look_in ! 4 (sub ! 0 refl (whole !))))) refl (Ptr-Good h.first) $
    assigns_last ! (of_opd ! (get ! refl)) (through ! refl (fld ! refl (stop !))) (store_in ! 0 (sub ! 0 refl (whole !)) (Ptr-Good h.first)) $
    exec ! 𝓣.C 𝓣.Λ Ev (after 2 fn.body) (at_ret Ev Post) $
    assigns ! (of_opd ! (get ! refl)) (through ! refl (fld ! refl (stop !))) (store_in ! 4 (sub ! 0 refl (whole !)) (tt, tt)) $
    sets ! (of_opd ! (unit_lit !)) refl (tt, tt) $
    let p : Ptr = block_ptr b o in let ns = with_link n h.first ∷ h.nodes in let h' : Li.Denot = record { first = p; nodes = ns } in
    node_in ! n h.first b o $ fjoin ! $ list_in ! p ns $ move ! (1 ∷ 0 ∷ []) $ closes ! tt Li h' (list_val p ∷ []) rb ro $
    -- [self, in two parts; the token of its lifetime]
    feq_i ! (List Val) vss.0 (vptr rb ro ∷ []) are.0.0 $ fjoin3 ! $ nothing ! $ nothing ! $ fjoin ! $ move ! (1 ∷ 0 ∷ []) $ fjoin ! $ nothing ! $ move ! (2 ∷ 0 ∷ []) $ join ! $
    use0 𝓛 (raw (fact 𝓤 (ns ≡ ns))) (fact_i 𝓤 (ns ≡ ns) (emp 𝓤) refl) $ feq_i ! (List Val) (vunit ∷ []) (vunit ∷ []) refl $
    returns ! (look_at ! 0 refl) $ free_all ! refl $ keep ! (2 ∷ 3 ∷ 0 ∷ 1 ∷ []) $ by ! (leaves 𝓛 ended hs c y vunit tt (h', (tt, tt)) (tt, (tt, tt))))))))
