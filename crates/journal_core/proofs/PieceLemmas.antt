-- what is copied from a piece that was read ahead
use Rattle.std.proofs.Common.{◌≡◌, ℕ, ◌+◌, ◌-◌, ◌≤◌, ⊎_elim, List, take, drop, refl, sym, ap, ◌∙◌, arith}
use Rattle.std.proofs.lemmas.Bool.{cases_lt}
use Rattle.std.proofs.lemmas.List.{take-take, drop-take, drop-drop}
use Rattle.journal_core.specs.declared.piece.Piece.{Piece}
use Rattle.journal_core.specs.Piece.{ReadsAhead}

inside : (bytes old : List ℕ) (count skip n : ℕ) → take count old ≡ take count bytes → skip + n ≤ count → take n (drop skip old) ≡ take n (drop skip bytes)
inside bytes old count skip n same within =
    let prefix : take (skip + n) old ≡ take (skip + n) bytes =
    sym (take-take (skip + n) count old within) ∙ ap (λ (l : List ℕ). take (skip + n) l) same ∙ take-take (skip + n) count bytes within in
    sym (drop-take skip n old) ∙ ap (λ (l : List ℕ). drop skip l) prefix ∙ drop-take skip n bytes

pub copied : (bytes into : List ℕ) (piece : Piece) (place n : ℕ) → ReadsAhead bytes piece → piece.place ≤ place → n ≤ piece.count - (place - piece.place)
    → take n into ≡ take n (drop (place - piece.place) piece.bytes) → take n into ≡ take n (drop place bytes)
copied bytes into piece place n ahead behind fits copy =
    let skip = place - piece.place in
    let there : piece.place + skip ≡ place = omega arith in
    let same : take n (drop skip piece.bytes) ≡ take n (drop skip (drop piece.place bytes)) =
    ⊎_elim
    (λ none. let zero_bytes : n ≡ 0 = omega arith in rw zero_bytes refl)
    (λ within. inside (drop piece.place bytes) piece.bytes piece.count skip n ahead.same within)
    (cases_lt piece.count (skip + n)) in
    copy ∙ same ∙ ap (λ (l : List ℕ). take n l) (drop-drop skip piece.place bytes ∙ ap (λ (k : ℕ). drop k bytes) there)
