-- a new host that gets what a crash leaves, file by file
use Rattle.std.proofs.Common.{◌≡◌, ◌≢◌, eq-eqb, ℕ, ◌+◌, ◌<◌, ◌≤◌, Bool, true, false, List, [], ◌∷◌, ◌++◌, length, None, refl, sym, ap, ◌∙◌, subst, arith, append-nil}
use Rattle.std.proofs.lemmas.Bool.{eqb-true, false≢true}
use Rattle.std.proofs.lemmas.List.{drop_all}
use Rattle.host_model.specs.declared.file.File.{File}
use Rattle.host_model.specs.declared.keep.Keep.{Keep}
use Rattle.host_model.specs.Images.{Change, Wrote, Synced, contents, written, IsSynced}
use Rattle.host_model.specs.Past.{Event, On, file_number, is_same, of, told}
use Rattle.host_model.specs.HostState.{HostState, new_host, write_event}
use Rattle.host_model.specs.Keep.{IsLeftBy}
use Rattle.host_model.specs.DiskLaw.{same_file}

-- the files below this number are as the crash leaves them, and nothing has happened to the others
pub record Settling (keep : Keep) (old new : HostState) (number : ℕ) : Type 0 where
  pub files : (file : File) → file_number file < number → IsLeftBy keep (of file old.past) (contents (of file new.past))
  pub stable : (file : File) → IsSynced (of file new.past)
  pub open_ : (file : File) → number ≤ file_number file → of file new.past ≡ []
  pub output : told new.past ≡ []
  pub fresh : new ≡ record (new_host [] None) { past = new.past }

pub Settling-none : (keep : Keep) (old new : HostState) → new ≡ new_host [] None → Settling keep old new 0
Settling-none keep old new same =
    let start : Settling keep old (new_host [] None) 0 = record {
      files = λ file below. absurd (omega arith);
      stable = λ file. tt;
      open_ = λ file above. refl;
      output = refl;
      fresh = refl;
    } in
    subst (λ host. Settling keep old host 0) (sym same) start

-- a file that was put down and synced
abbrev put_down : List Event → File → List ℕ → List Event
put_down past file bytes = On file Synced ∷ write_event file 0 bytes past ∷ past

here_after : (past : List Event) (file other : File) (bytes : List ℕ) → is_same other file ≡ true
    → of other (put_down past file bytes) ≡ Synced ∷ Wrote 0 (length bytes) (written (contents (of file past)) 0 bytes) ∷ of other past
here_after past file other bytes same = rw same refl

there_after : (past : List Event) (file other : File) (bytes : List ℕ) → is_same other file ≡ false → of other (put_down past file bytes) ≡ of other past
there_after past file other bytes apart = rw apart refl

written-new : (bytes : List ℕ) → written [] 0 bytes ≡ bytes
written-new bytes = ap (λ (l : List ℕ). bytes ++ l) (drop_all (0 + length bytes) [] (omega arith)) ∙ append-nil bytes

stable_after : (b : Bool) (past : List Event) (file other : File) (bytes : List ℕ) → is_same other file ≡ b → IsSynced (of other past)
    → IsSynced (of other (put_down past file bytes))
stable_after true past file other bytes same before = rw (here_after past file other bytes same) tt
stable_after false past file other bytes apart before = rw (there_after past file other bytes apart) before

left_after : (b : Bool) (keep : Keep) (old past : List Event) (file other : File) (bytes : List ℕ) → is_same other file ≡ b → of file past ≡ []
    → IsLeftBy keep (of file old) bytes → (is_same other file ≡ false → IsLeftBy keep (of other old) (contents (of other past)))
    → IsLeftBy keep (of other old) (contents (of other (put_down past file bytes)))
left_after true keep old past file other bytes same fresh left before =
    let reads : contents (of other (put_down past file bytes)) ≡ bytes =
    ap contents (here_after past file other bytes same) ∙ ap (λ (changes : List Change). written (contents changes) 0 bytes) fresh ∙ written-new bytes in
    let one : file ≡ other = sym (same_file other file same) in
    subst (λ l. IsLeftBy keep (of other old) l) (sym reads) (subst (λ f. IsLeftBy keep (of f old) bytes) one left)
left_after false keep old past file other bytes apart fresh left before = rw (there_after past file other bytes apart) (before apart)

open_after : (b : Bool) (past : List Event) (file other : File) (bytes : List ℕ) → is_same other file ≡ b → (is_same other file ≡ true → ⊥) → of other past ≡ []
    → of other (put_down past file bytes) ≡ []
open_after true past file other bytes same apart before = absurd (apart same)
open_after false past file other bytes apart _ before = there_after past file other bytes apart ∙ before

pub Settling-more : (keep : Keep) (old new : HostState) (number : ℕ) (file : File) (bytes : List ℕ) → file_number file ≡ number → IsLeftBy keep (of file old.past) bytes
    → Settling keep old new number
    → Settling keep old (record new { past = On file Synced ∷ write_event file 0 bytes new.past ∷ new.past }) (number + 1)
Settling-more keep old new number file bytes here left before = record {
  files = λ other below.
      left_after (is_same other file) keep old.past new.past file other bytes refl (before.open_ file (omega arith)) left
      (λ apart.
      let places : file_number other ≢ file_number file = λ e. false≢true (sym apart ∙ eq-eqb (file_number other) (file_number file) e) in
      before.files other (omega arith));
  stable = λ other. stable_after (is_same other file) new.past file other bytes refl (before.stable other);
  open_ = λ other above.
      open_after (is_same other file) new.past file other bytes refl
      (λ same. let e = eqb-true (file_number other) (file_number file) same in absurd (omega arith))
      (before.open_ other (omega arith));
  output = before.output;
  fresh = ap (λ (host : HostState). record host { past = put_down new.past file bytes }) before.fresh;
}
