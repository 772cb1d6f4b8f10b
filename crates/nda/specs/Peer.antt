use Rattle.std.specs.Prelude.{ℕ, List, [], ◌∷◌, codes, if◌then◌else◌}
use Rattle.std.specs.Str.{bytes_eq}
use Rattle.nda.specs.declared.arguments.Peer.{Peer}
use Rattle.nda.specs.declared.arguments.Peer.TheVariants.{Nobody, Child, Parent}

-- with whom the command of these words speaks
abbrev pub peer_of : List (List ℕ) → Peer
peer_of (command ∷ address ∷ []) =
    if bytes_eq command (codes "receive") then Child
    else if bytes_eq command (codes "send") then Parent
    else Nobody
peer_of _ = Nobody

-- the word behind the command, where it is the only one
abbrev pub address_of : List (List ℕ) → List ℕ
address_of (command ∷ address ∷ []) = address
address_of _ = []
