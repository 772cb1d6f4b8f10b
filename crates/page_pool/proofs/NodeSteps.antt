-- What the proofs of a list's functions share. Assumes `Logic`.
--     node_out, node_in      a node in memory is [the cell; what it owns; the token], and the same at another link
--     list_out, list_in      a list by its machine value is its chain
use Rattle.std.proofs.Common.{◌≡◌, ◌<◌, ℕ, List, [], ◌∷◌, ◌++◌, length, refl, ap, ◌∙◌, arith}
use seplogic.Ra.Ura.{Ura}
use mir.Raw.{raw as bare}
use mir.Val.{Val, vstruct, vcons, vnil, of_list}
use base.Fraction.{full_share}
use base.Logic.{ent}
use types.Logic.{Logic, sem}
use types.Kit.{Item, Goal, Seq, Step, step, ‵, ◌$◌, ◌∵◌, !, qed, done, move, drop, fsplit, fjoin, fpick, fpack, use1, rewrite, feq_i, feq_l}
use denote.RattleType.{Valss, flat}
use denote.Laws.{Is, shows}
use denote.Memory.{cell_at, lone}
use denote.RawPtr.{Ptr, RawPtr, block_ptr, ptr_val}
use denote.Steps.{nothing, peeks}
use denote.Struct.Members.{Member}
use denote.Struct.Struct.{within}
use denote.Struct.Declared as plain
use denote.Struct.Owning.{shape}
use Rattle.core.proofs.cell.Inside.{spread, gather}
use Rattle.libc.specs.Heap.{chunk}
use Rattle.std_alloc.specs.Box.Ownership.{box_owns}
use Rattle.page_pool.specs.Chain.{chain, with_link}
use Rattle.page_pool.specs.declared.node.Node.{Node}
use Rattle.page_pool.specs.contracts.node.Node as node
use Rattle.page_pool.proofs.node.Node.TheLaws as node_laws
use Rattle.page_pool.specs.contracts.free_list.FreeList as list

-- a list that is not empty
pub first_and_rest : {X : Type 0} (xs : List X) → 0 < length xs → (x : X) × (rest : List X) × (xs ≡ x ∷ rest)
first_and_rest [] some = absurd (omega (arith, some))
first_and_rest (x ∷ xs) some = (x, xs, refl)

abbrev pub node_val : Node → Val
node_val = node_laws.lowered

abbrev pub list_val : Ptr → Val
list_val p = vstruct (vcons (ptr_val p) vnil)

abbrev member : Member
member = record { row = node.the_row; ty = lone node.the_row.mir }

abbrev relinked : Ptr → List Val → List Val
relinked p (vstruct (vcons v rest) ∷ []) = vstruct (vcons (ptr_val p) rest) ∷ []
relinked p vs = vs

module _ {M : Type 1} {𝓤 : Ura M} (𝓛 : Logic 𝓤) where
  relinks : (n : Node) (p : Ptr) → ent 𝓤 (sem 𝓛 (node.the_row.own_val n (node_val n ∷ []))) (sem 𝓛 (node.the_row.own_val (with_link n p) (node_val (with_link n p) ∷ [])))
  relinks n p = let S = plain.shape node.the_type in let m = with_link n p in
      qed 𝓛 (‵ (node.the_row.own_val n (node_val n ∷ [])) ∷ []) ∵ fpick ! (λ vss. fsplit ! $ feq_l ! (λ ev. fsplit ! $ feq_l ! (λ ep.
      feq_i ! (List Val) (ptr_val p ∷ []) (ptr_val p ∷ []) refl $ fjoin ! $
      feq_i ! (List Val) (node_val m ∷ []) (vstruct (of_list (flat S.fields (ptr_val p ∷ [], vss.1))) ∷ []) (ap (relinked p) (ev ∙ ap (λ (us : List Val). vstruct (of_list (flat S.fields (us, vss.1))) ∷ []) ep)) $ fjoin ! $
      fpack ! (Valss S.fields) (within S (p, (n.bytes, tt)) (node_val m ∷ [])) (ptr_val p ∷ [], vss.1) $ done !)))

module _ {M : Type 1} {𝓤 : Ura M} {𝓛 : Logic 𝓤} {K : Type 0} {Γ : List (Item 𝓤)} {G : Goal 𝓤 𝓛.H} where
  pub node_out : K → (n : Node) (b o : ℕ)
      → Step K 𝓛 (‵ (cell_at full_share node.the_row.mir (node_val n ∷ []) b o) ∷ ‵ (node.the_row.own_val n (node_val n ∷ [])) ∷ ‵ (chunk (bare (lone node.the_row.mir)) (block_ptr b o)) ∷ Γ) G
      (‵ (box_owns chunk node.the_row (block_ptr b o) n) ∷ Γ) G
  node_out t n b o = step (λ s.
      fsplit t $ spread member t (node_laws.the_row_laws.lawful 𝓛) n b o (λ v good. move t (1 ∷ []) $ peeks t node.the_row (Is node.the_row) (shows 𝓛 node.the_row) n (v ∷ []) (λ is.
      let e : v ∷ [] ≡ node_val n ∷ [] = node_laws.lowers.val_is n (v ∷ []) is in
      rewrite t 0 (λ (us : List Val). ‵ (node.the_row.own_val n us)) e refl $ rewrite t 1 (λ (us : List Val). ‵ (cell_at full_share node.the_row.mir us b o)) e refl $ move t (1 ∷ 0 ∷ []) $ s)))

  pub node_in : K → (n : Node) (p : Ptr) (b o : ℕ)
      → Step K 𝓛 (‵ (box_owns chunk node.the_row (block_ptr b o) (with_link n p)) ∷ Γ) G
      (‵ (cell_at full_share node.the_row.mir (node_val (with_link n p) ∷ []) b o) ∷ ‵ (node.the_row.own_val n (node_val n ∷ [])) ∷ ‵ (chunk (bare (lone node.the_row.mir)) (block_ptr b o)) ∷ Γ) G
  node_in t n p b o = step (λ s. let m = with_link n p in
      move t (1 ∷ []) $ use1 𝓛 (‵ (node.the_row.own_val m (node_val m ∷ []))) (relinks 𝓛 n p) $ move t (1 ∷ 0 ∷ []) $ gather member t m (node_val m) b o $ fjoin t $ s)

  pub list_out : K → (l : list.the_row.Denot) (vs : List Val)
      → (vs ≡ list_val l.first ∷ [] → Seq K 𝓛 (‵ (chain l.first l.nodes) ∷ Γ) G) → Seq K 𝓛 (‵ (list.the_row.own_val l vs) ∷ Γ) G
  list_out t l vs k = fsplit t $ fpick t (λ vss. fsplit t $ feq_l t (λ ev. fsplit t $ feq_l t (λ ep. drop t $
      k (ev ∙ ap (λ (us : List Val). vstruct (of_list (us ++ [])) ∷ []) ep))))

  pub list_in : K → (p : Ptr) (ns : List Node)
      → Step K 𝓛 (‵ (list.the_row.own_val (record { first = p; nodes = ns }) (list_val p ∷ [])) ∷ Γ) G (‵ (chain p ns) ∷ Γ) G
  list_in t p ns = step (λ s. nothing t $ feq_i t (List Val) (ptr_val p ∷ []) (ptr_val p ∷ []) refl $ fjoin t $ feq_i t (List Val) (list_val p ∷ []) (list_val p ∷ []) refl $ fjoin t $
      fpack t (Valss (RawPtr ∷ [])) (within (shape list.the_type) (p, tt) (list_val p ∷ [])) (ptr_val p ∷ [], tt) $ fjoin t $ s)
