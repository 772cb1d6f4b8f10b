-- What is sent over a link and taken of it, part by part.
use Rattle.std.proofs.Common.{◌≡◌, ℕ, Bool, true, List, [], ◌++◌, length, take, Option, Some, None, option_map, refl, sym, ap, subst, ◌∙◌, append_assoc, append-nil}
use Rattle.std.specs.List.{flat_map}
use Rattle.std.proofs.Math.Seq.{take-append_seam, take-length}
use Rattle.std.proofs.lemmas.Grind.{flat_map-append}
use Rattle.host_model.specs.Link.{Sends, SendsPrefix}
use Rattle.link_frames.specs.declared.frame.Frame.{Frame}
use Rattle.link_frames.specs.Frames.{frame_bytes}
use Rattle.link_session.specs.Session.{SaysPrefix}

pub sends-nothing : (sent : Option (List ℕ)) → Sends sent [] sent
sends-nothing None = refl
sends-nothing (Some bytes) = ap Some (sym (append-nil bytes))

pub sends-both : (a b c : Option (List ℕ)) (x y : List ℕ) → Sends a x b → Sends b y c → Sends a (x ++ y) c
sends-both None b c x y first second = second ∙ ap (option_map (λ (sent : List ℕ). sent ++ y)) first
sends-both (Some sent) b c x y first second = second ∙ ap (option_map (λ (sent : List ℕ). sent ++ y)) first ∙ ap Some (append_assoc sent x y)

-- nothing was to be said
pub silent-prefix : (all : Bool) (sent : Option (List ℕ)) → SaysPrefix all [] sent sent
silent-prefix all sent = record { said = []; unsaid = []; whole = refl; sends = sends-nothing sent; complete = λ _. refl }

-- behind frames that were said, a prefix of others was
pub joined-prefix : (all : Bool) (first more : List Frame) (a b c : Option (List ℕ)) → Sends a (flat_map frame_bytes first) b → SaysPrefix all more b c → SaysPrefix all (first ++ more) a c
joined-prefix all first more a b c said prefix = record {
  said = flat_map frame_bytes first ++ prefix.said;
  unsaid = prefix.unsaid;
  whole = flat_map-append frame_bytes first more ∙ ap (λ (bytes : List ℕ). flat_map frame_bytes first ++ bytes) prefix.whole ∙ sym (append_assoc (flat_map frame_bytes first) prefix.said prefix.unsaid);
  sends = sends-both a b c (flat_map frame_bytes first) prefix.said said prefix.sends;
  complete = prefix.complete;
}

-- all of them were
pub all-said : (all : Bool) (frames : List Frame) (a b : Option (List ℕ)) → SaysPrefix all frames a b → all ≡ true → Sends a (flat_map frame_bytes frames) b
all-said all frames a b prefix is =
    subst (λ (bytes : List ℕ). Sends a bytes b) (sym (prefix.whole ∙ ap (λ (bytes : List ℕ). prefix.said ++ bytes) (prefix.complete is) ∙ append-nil prefix.said)) prefix.sends

-- a prefix of their bytes was sent
pub prefix-sends : (all : Bool) (frames : List Frame) (a b : Option (List ℕ)) → SaysPrefix all frames a b → SendsPrefix a (flat_map frame_bytes frames) b
prefix-sends all frames a b prefix =
    (length prefix.said, subst (λ (bytes : List ℕ). Sends a bytes b) (sym (ap (take (length prefix.said)) prefix.whole ∙ take-append_seam prefix.said prefix.unsaid)) prefix.sends)

pub all-sends : (bytes : List ℕ) (a b : Option (List ℕ)) → Sends a bytes b → SendsPrefix a bytes b
all-sends bytes a b sends = (length bytes, subst (λ (sent : List ℕ). Sends a sent b) (sym (take-length bytes)) sends)
