-- Items that are read one after the other.
use Rattle.std.proofs.Common.{◌≡◌, ℕ, suc, ◌-◌, ◌+◌, ◌≤◌, ◌<◌, ◌⊎◌, inl, inr, List, [], ◌∷◌, ◌++◌, Ok, Err, refl, sym, ap, ◌∙◌, append_assoc, arith}
use Rattle.std.proofs.lemmas.List.{append-nil}
use Rattle.field_codec.specs.declared.fault.FieldFault.{FieldFault}
use Rattle.field_codec.specs.Reading.{ReadOf, read_as}
use Rattle.field_codec.specs.Lists.{read_items}

-- the items that were read before, in front of those that are still read
abbrev pub with_prefix : {X : Type 0} → List X → ReadOf (List X) → ReadOf (List X)
with_prefix prefix read = read_as (λ items. prefix ++ items) read

with_prefix-nil : {X : Type 0} (read : ReadOf (List X)) → with_prefix [] read ≡ read
with_prefix-nil (Ok read) = refl
with_prefix-nil (Err fault) = refl

pub begins : {X : Type 0} (item : List ℕ → ReadOf X) (count : ℕ) (bytes : List ℕ) → with_prefix [] (read_items item (count - 0) bytes) ≡ read_items item count bytes
begins item count bytes =
    let all : count - 0 ≡ count = omega arith in
    with_prefix-nil (read_items item (count - 0) bytes) ∙ ap (λ (n : ℕ). read_items item n bytes) all

regroup : {X : Type 0} (prefix : List X) (x : X) (read : ReadOf (List X)) → with_prefix prefix (read_as (λ (both : X × List X). both.0 ∷ both.1) (read_as (λ (items : List X). (x, items)) read)) ≡ with_prefix (prefix ++ x ∷ []) read
regroup prefix x (Ok read) = ap (λ items. Ok (items, read.1)) (sym (append_assoc prefix (x ∷ []) read.0))
regroup prefix x (Err fault) = refl

-- one item more is read
pub goes_on : {X : Type 0} (item : List ℕ → ReadOf X) (prefix : List X) (count i : ℕ) (bytes after : List ℕ) (x : X) (total : ReadOf (List X)) → i < count
    → item bytes ≡ Ok (x, after) → with_prefix prefix (read_items item (count - i) bytes) ≡ total
    → with_prefix (prefix ++ x ∷ []) (read_items item (count - (i + 1)) after) ≡ total
unfolding read_items
goes_on item prefix count i bytes after x total more read so_far =
    let left : count - i ≡ suc (count - (i + 1)) = omega arith in
    let one : with_prefix prefix (read_items item (count - i) bytes) ≡ with_prefix (prefix ++ x ∷ []) (read_items item (count - (i + 1)) after) =
    rw (left, read) (regroup prefix x (read_items item (count - (i + 1)) after)) in
    sym one ∙ so_far

-- an item is refused, and with it all
pub ends : {X : Type 0} (full fault : FieldFault) (item : List ℕ → ReadOf X) (prefix : List X) (count i : ℕ) (bytes : List ℕ) (total : ReadOf (List X)) → i < count
    → (fault ≡ full) ⊎ (item bytes ≡ Err fault) → with_prefix prefix (read_items item (count - i) bytes) ≡ total → (fault ≡ full) ⊎ (total ≡ Err fault)
unfolding read_items
ends full fault item prefix count i bytes total more (inl is_full) so_far = inl is_full
ends full fault item prefix count i bytes total more (inr refused) so_far =
    let left : count - i ≡ suc (count - (i + 1)) = omega arith in
    let all : with_prefix prefix (read_items item (count - i) bytes) ≡ Err fault = rw (left, refused) refl in
    inr (sym so_far ∙ all)

-- all are read
pub is_done : {X : Type 0} (item : List ℕ → ReadOf X) (prefix : List X) (count i : ℕ) (bytes : List ℕ) (total : ReadOf (List X)) → count ≤ i
    → with_prefix prefix (read_items item (count - i) bytes) ≡ total → total ≡ Ok (prefix, bytes)
unfolding read_items
is_done item prefix count i bytes total done so_far =
    let left : count - i ≡ 0 = omega arith in
    let all : with_prefix prefix (read_items item (count - i) bytes) ≡ Ok (prefix, bytes) = rw left (ap (λ items. Ok (items, bytes)) (append-nil prefix)) in
    sym so_far ∙ all
