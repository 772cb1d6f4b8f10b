-- What a function of the code returned, against what the grammar reads.
use Rattle.std.specs.Prelude.{◌≡◌, List, Result, Ok, Err, ⊤}
use Rattle.health_expr.specs.declared.expr.Expr.{Expr}
use Rattle.health_expr.specs.declared.fault.ExprFault.{ExprFault}
use Rattle.health_expr.specs.declared.fault.ExprFault.TheVariants.{Syntax, TooDeep, NumberTooWide, Memory}
use Rattle.health_expr.specs.Tree.{Tree}
use Rattle.health_expr.specs.TreeOf.{tree_of}
use Rattle.health_expr.specs.Words.{Placed}

-- the fault is the one of the words, or there was no memory
abbrev pub Fails : {A : Type 0} → ExprFault → Result A ExprFault → Type 0
Fails (Syntax place) read = read ≡ Err (Syntax place)
Fails TooDeep read = read ≡ Err TooDeep
Fails NumberTooWide read = read ≡ Err NumberTooWide
Fails Memory read = ⊤

-- what was read is the tree that the grammar reads, with these words behind it
abbrev pub Reads : Result (Tree × List Placed) ExprFault → Result Expr ExprFault → List Placed → Type 0
Reads read (Ok expr) behind = read ≡ Ok (tree_of expr, behind)
Reads read (Err fault) behind = Fails fault read

-- the same of a whole text
abbrev pub ReadsAll : Result Tree ExprFault → Result Expr ExprFault → Type 0
ReadsAll read (Ok expr) = read ≡ Ok (tree_of expr)
ReadsAll read (Err fault) = Fails fault read
