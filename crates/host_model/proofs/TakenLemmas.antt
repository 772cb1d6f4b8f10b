-- bytes that are taken from the start of what is left
use Rattle.std.proofs.Common.{◌≡◌, ℕ, sym, ◌+◌, List, ◌++◌, take, drop}
use Rattle.std.proofs.lemmas.List.{take-append-drop, drop-drop}

-- what was left is its prefix and then the rest
pub prefix_and_rest : (bytes into : List ℕ) (taken n : ℕ) → take n into ≡ take n (drop taken bytes) → drop taken bytes ≡ take n into ++ drop (taken + n) bytes
prefix_and_rest bytes into taken n prefix = rw (prefix, ← drop-drop n taken bytes) (sym (take-append-drop n (drop taken bytes)))
