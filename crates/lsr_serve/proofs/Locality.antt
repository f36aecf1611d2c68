-- Rows of links that have their wires and local addresses, and one more.
use Rattle.std.proofs.Common.{◌≡◌, ◌+◌, ◌<◌, ◌≤◌, ◌++◌, ◌∷◌, ℕ, All, List, [], ap, get_or, length, map, subst, sym, take, ◌∙◌}
use Rattle.std.proofs.lemmas.List.{map-append, take_all, take_more}
use Rattle.std.proofs.lemmas.List.Elements.{All-more}
use Rattle.std.specs.declared.net.socket_addr.SocketAddr.{SocketAddr}
use Rattle.lsr_config.specs.declared.sockets.LinkSockets.{LinkSockets}
use Rattle.lsr_serve.specs.Local.{AreLinkLocal, AreLocal}

-- the wire of one row more has the row's number
pub named_more : {A : Type 0} (number : A → ℕ) (rows : List (ℕ × LinkSockets)) (i : ℕ) (d : ℕ × LinkSockets) (wires now : List A) (wire : A) → i < length rows → now ≡ wires ++ wire ∷ [] → number wire ≡ (get_or rows i d).0
    → map number wires ≡ map (λ row. row.0) (take i rows) → map number now ≡ map (λ row. row.0) (take (i + 1) rows)
named_more {A} number rows i d wires now wire low more is before =
    let first : ℕ × LinkSockets → ℕ = λ (row : ℕ × LinkSockets). row.0 in
    ap (map number) more ∙ map-append number wires (wire ∷ []) ∙ (λ j. before j ++ is j ∷ []) ∙ sym (map-append first (take i rows) (get_or rows i d ∷ []))
    ∙ ap (map first) (sym (take_more rows i d low))

-- one row more is local
pub local_more : (like : SocketAddr) (rows : List (ℕ × LinkSockets)) (i : ℕ) (d : ℕ × LinkSockets) → i < length rows → AreLinkLocal like (get_or rows i d).1 → All (λ row. AreLinkLocal like row.1) (take i rows)
    → All (λ row. AreLinkLocal like row.1) (take (i + 1) rows)
local_more like rows i d low local before = All-more (λ (row : ℕ × LinkSockets). AreLinkLocal like row.1) rows i d low before local

-- all of them are
pub all_local : (like : SocketAddr) (rows : List (ℕ × LinkSockets)) (i : ℕ) → length rows ≤ i → All (λ row. AreLinkLocal like row.1) (take i rows) → AreLocal rows
all_local like rows i whole local = (like, subst (All (λ (row : ℕ × LinkSockets). AreLinkLocal like row.1)) (take_all i rows whole) local)
