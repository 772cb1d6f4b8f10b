-- the moments of one call of a host, from what the call ensures
use Rattle.std.proofs.Common.{◌≡◌, ℕ, ◌≤◌, false, List, ◌∷◌, ◌++◌, length, min, take, Result, Ok, Err, sym, ap, ◌∙◌, subst, inl, inr, ⊎_elim, arith}
use Rattle.std.specs.Result.{OnOk, OnErr, is_err}
use Rattle.std.proofs.Math.Nat.{min-eq_left, min-eq_right}
use Rattle.std.proofs.lemmas.Bool.{cases_lt}
use Rattle.std.proofs.lemmas.List.{take_all, take-take, length-take}
use Rattle.host_model.specs.declared.file.File.{File}
use Rattle.host_model.specs.Images.{Change, Synced, contents}
use Rattle.host_model.specs.Past.{Event, On, Told, of, told, IsDisk, MayAdd}
use Rattle.host_model.specs.Moments.{Throughout, begins, goes_on, EveryCrash, OnlyOn}
use Rattle.host_model.proofs.MomentLemmas.{at_end, joined, of-on_same, OnlyOn-change}

-- what a call that did not fail ensures
pub ok_part : {T E P : Type 0} (result : Result T E) → is_err result ≡ false → OnOk result P → P
ok_part (Ok value) fine held = held
ok_part (Err fault) failed held = absurd cc

-- nothing happened
pub unmoved : (P : List Event → Type 0) (old new : List Event) → new ≡ old → P old → Throughout P old new
unmoved P old new same here = subst (λ past. Throughout P old past) (sym same) (begins here)

-- one event happened
pub moved : (P : List Event → Type 0) (event : Event) (old new : List Event) → new ≡ event ∷ old → P old → P (event ∷ old) → Throughout P old new
moved P event old new same here there = subst (λ past. Throughout P old past) (sym same) (goes_on event old (begins here) there)

-- a call that failed left one such event, or none
pub may_have_moved : {X : Type 0} (P : List Event → Type 0) (event : X → Event) (old new : List Event) → MayAdd event old new
    → P old → ((x : X) → P (event x ∷ old)) → Throughout P old new
may_have_moved P event old new (inl same) here there = unmoved P old new same here
may_have_moved P event old new (inr (x, same)) here there = moved P (event x) old new same here (there x)

-- a write or a cut: `done` and `torn` are the clauses of the call
pub changed : {T E X : Type 0} (P : List Event → Type 0) (honest : Type 0) (result : Result T E) (done : Event) (torn : X → Event) (old new : List Event) → honest
    → OnOk result (honest → new ≡ done ∷ old) → OnErr result (honest → MayAdd torn old new)
    → P old → P (done ∷ old) → ((x : X) → P (torn x ∷ old)) → Throughout P old new
changed P honest (Ok value) done torn old new h ok err here there broken = moved P done old new (ok h) here there
changed P honest (Err fault) done torn old new h ok err here there broken = may_have_moved P torn old new (err h) here broken

-- a sync
pub settled : {T E : Type 0} (P : List Event → Type 0) (honest : Type 0) (result : Result T E) (file : File) (old new : List Event) → honest
    → OnOk result (honest → new ≡ On file Synced ∷ old) → OnErr result (honest → new ≡ old)
    → P old → P (On file Synced ∷ old) → Throughout P old new
settled P honest (Ok value) file old new h ok err here there = moved P (On file Synced) old new (ok h) here there
settled P honest (Err fault) file old new h ok err here there = unmoved P old new (err h) here

take-take_min : {A : Type 0} (m n : ℕ) (xs : List A) → take m (take n xs) ≡ take (min m n) xs
take-take_min m n xs =
    ⊎_elim
    (λ less. let size : length (take n xs) ≤ m = omega (arith, length-take n xs) in
    take_all m (take n xs) size ∙ ap (λ k. take k xs) (sym (min-eq_right (omega arith))))
    (λ more. take-take m n xs more ∙ ap (λ k. take k xs) (sym (min-eq_left more)))
    (cases_lt n m)

-- a tell: the disk stays, and the output gains a prefix of what is told
pub said : {T E : Type 0} (P : (File → List ℕ) → List ℕ → Type 0) (honest : Type 0) (result : Result T E) (bytes : List ℕ) (old new : List Event) → honest
    → OnOk result (honest → new ≡ Told bytes ∷ old) → OnErr result (honest → MayAdd (λ n. Told (take n bytes)) old new)
    → EveryCrash P old → ((disk : File → List ℕ) (n : ℕ) → IsDisk old disk → P disk (told old ++ take n bytes))
    → Throughout (EveryCrash P) old new
said P honest result bytes old new h ok err here there =
    changed (EveryCrash P) honest result (Told bytes) (λ n. Told (take n bytes)) old new h ok err here
    (λ disk text images cut. subst (λ t. P disk t) (sym cut.1) (there disk cut.0 images))
    (λ n disk text images cut. subst (λ t. P disk t) (sym (cut.1 ∙ ap (λ l. told old ++ l) (take-take_min cut.0 n bytes))) (there disk (min cut.0 n) images))

-- what a call leaves of its file, and that it leaves all else as it was

-- what a file reads as after an event
pub reads_after : (file : File) (change : Change) (past new : List Event) → new ≡ On file change ∷ past → contents (of file new) ≡ contents (change ∷ of file past)
reads_after file change past new e = ap (λ (p : List Event). contents (of file p)) e ∙ ap contents (of-on_same file change past)

-- one more write or cut of the file
pub only_changed : {T E X : Type 0} (honest : Type 0) (result : Result T E) (file : File) (done : Change) (torn : X → Change) (old past new : List Event) → honest
    → OnOk result (honest → new ≡ On file done ∷ past) → OnErr result (honest → MayAdd (λ x. On file (torn x)) past new)
    → Throughout (OnlyOn file old) old past → Throughout (OnlyOn file old) old new
only_changed honest result file done torn old past new h ok err moments =
    let here = at_end moments in
    joined moments
    (changed (OnlyOn file old) honest result (On file done) (λ x. On file (torn x)) past new h ok err here
    (OnlyOn-change file done old past here)
    (λ x. OnlyOn-change file (torn x) old past here))

-- one more sync of it
pub only_settled : {T E : Type 0} (honest : Type 0) (result : Result T E) (file : File) (old past new : List Event) → honest
    → OnOk result (honest → new ≡ On file Synced ∷ past) → OnErr result (honest → new ≡ past)
    → Throughout (OnlyOn file old) old past → Throughout (OnlyOn file old) old new
only_settled honest result file old past new h ok err moments =
    let here = at_end moments in
    joined moments (settled (OnlyOn file old) honest result file past new h ok err here (OnlyOn-change file Synced old past here))
