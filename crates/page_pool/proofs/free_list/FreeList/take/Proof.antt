-- `take` reads the link, which leads to what is then the first page.
use Rattle.std.proofs.Common.{◌≡◌, ◌<◌, ℕ, List, [], ◌∷◌, ◌++◌, length, refl, sym, subst}
use mir.Syntax.{impl, tnil, dnil}
use mir.Raw.{raw as bare}
use mir.Val.{Val, vptr}
use base.Logic.{SProp, ent, emp, id⊢, never, fst∗}
use base.Fml.{ftrue, flft}
use prog.Wp.{WpFn}
use contract.Monad.{fact, fact_i}
use contract.Running.{tables}
use types.Kit.{‵, raw, ◌⊛◌, at_ret, ◌$◌, ◌∵◌, !, qed, by, move, keep, use0, split, join, fsplit, fsplit3, fjoin, fjoin3, suffices, rewrite, feq_i}
use types.Logic.{sem}
use types.Run.{stop, fld, load, of_opd, no_more, and_then, first, blocks, exec, returns, enter, assigns}
use types.ByLocal.{alloc_all, pass_all, free_all, look_at, get, through, sets, sets_last, env}
use types.Part.{agg, sub, whole, look_in, store_in}
use denote.Exit.{yes}
use denote.RattleType.{RattleType, owns}
use denote.Memory.{cell_at, lone}
use denote.RawPtr.{Ptr, block_ptr, null_ptr, in_a_block}
use denote.Signature.{types_at, plain}
use denote.Steps.{nothing, heard, opens, closes}
use denote.Triple.Walked.{Stays, stay_dropped, stay_ref, walk_of, Goes-ref}
use base.Fraction.{full_share}
use Rattle.core.proofs.alloc.Calls.{Al, Goes-blank, handle_tells}
use Rattle.core.proofs.alloc.Shapes.{after}
use Rattle.core.proofs.atomic.Steps.{Ptr-Good}
use Rattle.std.specs.contracts.alloc.Global as heap
use Rattle.std.proofs.alloc.Global.TheLaws as heap_laws
use Rattle.std.specs.contracts.impls.GlobalAllocator.TheImpl.{ghosts}
use Rattle.std.proofs.raw_atomic.Walks.{proved_at, leaves}
use Rattle.libc.specs.Heap.{chunk}
use Rattle.std_alloc.specs.Box.Ownership.{box_owns}
use Rattle.page_pool.specs.Chain.{chain}
use Rattle.page_pool.specs.declared.node.Node.{Node}
use Rattle.page_pool.specs.contracts.node.Node as node
use Rattle.page_pool.specs.contracts.free_list.FreeList as list
use Rattle.page_pool.proofs.Values.{both, Held, held_good, held_in}
use Rattle.page_pool.proofs.NodeSteps.{first_and_rest, list_val, node_out, node_in, list_out, list_in}
use Rattle.page_pool.specs.contracts.free_list.FreeList.take.{ended, clauses}
use Rattle.page_pool.specs.contracts.free_list.FreeList.take.Key.{name as #self}
use Rattle.page_pool.proofs.free_list.FreeList.take.Statement.{statement}
use Rattle.page_pool.proofs.free_list.FreeList.take.Code as code

pub take_spec : {M : Type 1} → statement M
take_spec 𝓤 𝓛 𝓜 𝓡 wired =
    let H = 𝓛.H in let 𝓣 = tables 𝓤 H 𝓜 𝓡 𝓡.env in let c = clauses 𝓛 𝓜.mem 𝓡.returns in let fn = code.function in
    let Z : RattleType = heap.the_row in let LZ = heap_laws.the_row_laws in let Bl : RattleType = Held node.the_row Z LZ ghosts in let Li : RattleType = list.the_row in
    let hs : Stays ended.signature.params ended.kept = (stay_ref (0 ∷ []) tt (plain (λ _. Li)), (stay_dropped (plain (λ _. Z)) yes, tt)) in
    let al : Al = record { row = Z; laws = LZ; g = ghosts; d = impl [] tnil dnil; drops = impl [] tnil dnil } in
    proved_at 𝓛 ended hs c 𝓜 𝓡 (Goes-ref 𝓛 1 0 tt (plain (λ _. Li)), (Goes-blank 𝓛 1 (plain (λ _. Z)) yes (λ κs x f. tt), tt)) #self fn (code.unfolded 𝓤 H 𝓜 𝓡 wired) (λ y are.
    let κs = y.0.0 in let qs = y.0.1 in let a = y.0.3 in let vss = y.0.4 in let Post : Val → SProp 𝓤 = (walk_of 𝓛 ended hs c).post y in
    let rb : ℕ = a.0.ref_ptr.0 in let ro : ℕ = a.0.ref_ptr.1 in let h : Li.Denot = a.0.now in let heap = a.1.0 in let R = node.the_row in
    qed 𝓛 (((‵ (flft κs.0 qs.0) ⊛ ‵ ftrue) ⊛ ‵ (owns (types_at ended.signature.params κs) a vss)) ∷ raw (fact 𝓤 (0 < length h.nodes)) ∷ []) ∵
    move ! (1 ∷ []) $ heard ! (0 < length h.nodes) (λ some_left. let parts = first_and_rest h.nodes some_left in let n = parts.0 in let rest = parts.1 in
    split ! $ split ! $ move ! (2 ∷ []) $ fsplit3 ! $ fsplit3 ! $ keep ! (3 ∷ 1 ∷ 2 ∷ 5 ∷ []) $ handle_tells al ! heap vss.1.0 (λ g ws fits.
    let us : List Val = vptr rb ro ∷ g ∷ [] in let Run : List Val → SProp 𝓤 = λ xs. WpFn 𝓤 H 𝓣.C 𝓣.Λ fn xs Post in
    suffices ! (Run us) (subst (λ (xs : List Val). ent 𝓤 (Run us) (Run xs)) (sym (λ i. are.0.0 i ++ (ws i ++ []))) (id⊢ 𝓤 (Run us))) $
    enter ! 𝓣.C 𝓣.Λ fn us Post $ alloc_all ! (λ l. pass_all ! refl ((tt, tt), (fits, tt)) $ let Ev = env fn.locals l in
    move ! (1 ∷ 2 ∷ 3 ∷ []) $ opens ! tt Li rb ro (λ ts. move ! (1 ∷ []) $ list_out ! h ts (λ et. rewrite ! 1 (λ (xs : List Val). ‵ (cell_at full_share Li.mir xs rb ro)) et refl $
    rewrite ! 0 (λ (ns : List Node). ‵ (chain h.first ns)) parts.2 refl $ fsplit ! $
    in_a_block ! h.first (λ p. box_owns chunk R p n) (fst∗ 𝓤 (never 𝓤) (sem 𝓛 (chunk (bare (lone R.mir)) null_ptr))) (λ b o ep.
    rewrite ! 2 (λ (p : Ptr). ‵ (cell_at full_share Li.mir (list_val p ∷ []) rb ro)) ep refl $ node_out ! n b o $
    -- [the node's cell; what it owns; its token; the rest of the chain; the list's cell; the open borrow, in three entries; the handle]
    sets ! (of_opd ! (load ! (through ! refl (fld ! refl (stop !))) (look_in ! 4 (sub ! 0 refl (whole !))))) refl (tt, tt) $
    first ! $ blocks ! $
    sets_last ! (of_opd ! (load ! (through ! refl (fld ! refl (stop !))) (look_in ! 0 (sub ! 0 refl (whole !))))) refl (Ptr-Good n.link) $
    exec ! 𝓣.C 𝓣.Λ Ev (after 2 fn.body) (at_ret Ev Post) $
    assigns ! (of_opd ! (get ! refl)) (through ! refl (fld ! refl (stop !))) (store_in ! 4 (sub ! 0 refl (whole !)) (Ptr-Good n.link)) $
    sets ! (agg ! (and_then ! (get ! refl) (and_then ! (get ! refl) (no_more !)))) refl (held_good R Z LZ ghosts b o g fits) $
    let h' : Li.Denot = record { first = n.link; nodes = rest } in let got : Bl.Denot = record { at = block_ptr b o; alloc = heap; value = n } in
    node_in ! n n.link b o $ move ! (0 ∷ 6 ∷ []) $ held_in R Z LZ ghosts ! b o g heap n $ move ! (1 ∷ []) $ list_in ! n.link rest $
    move ! (2 ∷ 0 ∷ 3 ∷ 4 ∷ 5 ∷ []) $ closes ! tt Li h' (list_val n.link ∷ []) rb ro $
    -- [self, in two parts; the token of its lifetime; the block]
    feq_i ! (List Val) vss.0 (vptr rb ro ∷ []) are.0.0 $ fjoin3 ! $ nothing ! $ nothing ! $ fjoin ! $ move ! (1 ∷ 0 ∷ []) $ fjoin ! $ nothing ! $ move ! (2 ∷ 0 ∷ []) $ join ! $
    use0 𝓛 (raw (fact 𝓤 (h.nodes ≡ n ∷ rest))) (fact_i 𝓤 (h.nodes ≡ n ∷ rest) (emp 𝓤) parts.2) $
    returns ! (look_at ! 0 refl) $ free_all ! refl $ keep ! (1 ∷ 2 ∷ 3 ∷ 0 ∷ []) $ by ! (leaves 𝓛 ended hs c y (both (vptr b o) g) got (h', (tt, tt)) (tt, (tt, tt))))))))))
