-- Lines that are handed over, one after another.
use Rattle.std.proofs.Common.{◌≡◌, ℕ, ◌+◌, ◌<◌, List, [], ◌∷◌, ◌++◌, length, take, drop, get_or, Result, Ok, Err, IfErr, OnOk, refl, sym, ap, ◌∙◌, subst, append_assoc, length-append, length-take, arith}
use Rattle.std.proofs.lemmas.List.{take_more, take-append-drop}
use Rattle.host_model.specs.declared.status.Status.{Status}
use Rattle.line_stream.specs.Chain.{Acts, Chain, goes_on}
use Rattle.line_stream.specs.Stream.{BrokeAt}

-- by what a call answers
pub on_ok-by : (r : Result (Unit {0}) Status) (P : Type 0) → (r ≡ Ok tt → P) → OnOk r P
on_ok-by (Ok done) P by = by refl
on_ok-by (Err status) P by = tt

pub if_err-by : (r : Result (Unit {0}) Status) (P : Status → Type 0) → ((status : Status) → r ≡ Err status → P status) → IfErr r P
if_err-by (Ok done) P by = tt
if_err-by (Err status) P by = by status refl

module _ {T H : Type 0} (acts : Acts T H) where
  -- one line more was taken
  pub chain-line : (start : T) (begin : H) (prefix : List (List ℕ)) (line : List ℕ) (number : ℕ) (result : Result (Unit {0}) Status) (old new : T) (host host' : H) → Chain acts start begin prefix old host
      → number ≡ length prefix + 1 → acts.takes old host number line result new host' → result ≡ Ok tt → Chain acts start begin (prefix ++ line ∷ []) new host'
  chain-line start begin prefix line number result old new host host' chain number_is takes is =
      goes_on prefix line old new host host' chain
      (subst (λ (n : ℕ). acts.takes old host n line (Ok tt) new host') number_is (subst (λ (r : Result (Unit {0}) Status). acts.takes old host number line r new host') is takes))

  -- the next of these lines was taken
  pub chain-next : (start : T) (begin : H) (prefix lines : List (List ℕ)) (i : ℕ) (item line : List ℕ) (number : ℕ) (result : Result (Unit {0}) Status) (old new : T) (host host' : H) → Chain acts start begin (prefix ++ take i lines) old host
      → i < length lines → get_or lines i item ≡ item → line ≡ item → number ≡ length prefix + i + 1 → acts.takes old host number line result new host' → result ≡ Ok tt
      → Chain acts start begin (prefix ++ take (i + 1) lines) new host'
  chain-next start begin prefix lines i item line number result old new host host' chain within at same number_is takes is =
      let counts : number ≡ length (prefix ++ take i lines) + 1 = omega (arith, number_is, length-append prefix (take i lines), length-take {A = List ℕ} i lines, within) in
      let more : (prefix ++ take i lines) ++ line ∷ [] ≡ prefix ++ take (i + 1) lines =
      append_assoc prefix (take i lines) (line ∷ []) ∙ ap (λ (l : List (List ℕ)). prefix ++ l) (ap (λ (x : List ℕ). take i lines ++ x ∷ []) (same ∙ sym at) ∙ sym (take_more lines i item within)) in
      subst (λ (l : List (List ℕ)). Chain acts start begin l new host') more (chain-line start begin (prefix ++ take i lines) line number result old new host host' chain counts takes is)

  -- the next of these lines ended the run
  pub broke-next : (start : T) (begin : H) (prefix lines : List (List ℕ)) (i : ℕ) (item line : List ℕ) (number : ℕ) (result : Result (Unit {0}) Status) (status : Status) (old new : T) (host host' : H) → Chain acts start begin (prefix ++ take i lines) old host
      → i < length lines → get_or lines i item ≡ item → line ≡ item → number ≡ length prefix + i + 1 → acts.takes old host number line result new host' → result ≡ Err status
      → BrokeAt acts status start begin prefix lines new host'
  broke-next start begin prefix lines i item line number result status old new host host' chain within at same number_is takes is = record {
    before = take i lines;
    line = line;
    more = drop (i + 1) lines;
    taker' = old;
    host' = host;
    whole =
        let more : take (i + 1) lines ≡ take i lines ++ line ∷ [] = take_more lines i item within ∙ ap (λ (x : List ℕ). take i lines ++ x ∷ []) (at ∙ sym same) in
        sym (take-append-drop (i + 1) lines) ∙ ap (λ (l : List (List ℕ)). l ++ drop (i + 1) lines) more ∙ append_assoc (take i lines) (line ∷ []) (drop (i + 1) lines);
    chain = chain;
    broke =
        let counts : number ≡ length (prefix ++ take i lines) + 1 = omega (arith, number_is, length-append prefix (take i lines), length-take {A = List ℕ} i lines, within) in
        subst (λ (n : ℕ). acts.takes old host n line (Err status) new host') counts (subst (λ (r : Result (Unit {0}) Status). acts.takes old host number line r new host') is takes);
  }
