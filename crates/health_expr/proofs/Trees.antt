-- An expression and its tree, level by level.
use Rattle.std.proofs.Common.{◌≡◌, ℕ, List, [], ◌∷◌, refl, ap, sym, ◌∙◌, rules, Vec}
use Rattle.std.specs.Prelude.{Box}
use Rattle.std.specs.declared.alloc.Global.{Global}
use Rattle.health_expr.specs.declared.value.Value.{Value}
use Rattle.health_expr.specs.declared.operator.Operator.{Operator}
use Rattle.health_expr.specs.declared.expr.Expr.{Expr, Binary, Nan, Infinity, the_lemmas}
use Rattle.health_expr.specs.Tree.{Tree, nan, infinity, combined, worth}
use Rattle.health_expr.specs.TreeOf.{chain, tree_of, row_of, combined_all}

-- what a chain is worth
pub worth-chain : (named : List ℕ → Value) (left : Tree) (steps : List (Operator × Expr)) → combined_all named (worth named left) steps ≡ worth named (chain left (row_of steps))
worth-chain named left [] = refl
worth-chain named left (step ∷ steps) = worth-chain named (combined step.0 left (tree_of step.1)) steps

pub tree_of-Binary : (first : Box Expr Global) (rest : Vec (Operator × Expr) Global) → tree_of (Binary first rest) ≡ chain (tree_of first.value) (row_of rest.items)
tree_of-Binary first rest = search (rules, the_lemmas)

-- what an expression of operators that bind alike is worth, by what its first operand is worth
pub worth-Binary : (named : List ℕ → Value) (self head : Expr) (first : Box Expr Global) (rest : Vec (Operator × Expr) Global) (value outcome : Value) → self ≡ Binary first rest → head ≡ first.value
    → value ≡ worth named (tree_of head) → outcome ≡ combined_all named value rest.items → outcome ≡ worth named (tree_of self)
worth-Binary named self head first rest value outcome is at v o =
    o
    ∙ ap (λ (x : Value). combined_all named x rest.items) (v ∙ ap (λ (e : Expr). worth named (tree_of e)) at)
    ∙ worth-chain named (tree_of first.value) rest.items
    ∙ ap (λ (t : Tree). worth named t) (sym (tree_of-Binary first rest))
    ∙ ap (λ (e : Expr). worth named (tree_of e)) (sym is)

pub tree_of-Nan : tree_of Nan ≡ nan
tree_of-Nan = search (rules, the_lemmas)

pub tree_of-Infinity : tree_of Infinity ≡ infinity
tree_of-Infinity = search (rules, the_lemmas)
