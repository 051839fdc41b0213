-- Sending a text piece by piece.
use Rattle.std.proofs.Common.{ℕ, List, ◌++◌, Option, sym, ap, ◌∙◌, append_assoc}
use Rattle.std.proofs.KnownBytes.{Appends-trans}
use Rattle.edge_io.specs.Front.{Sends}

pub Sends-trans : (a b c : Option (List ℕ)) (first then last : List ℕ) → Sends a b then first → Sends b c last then → Sends a c last first
Sends-trans a b c first then last p q =
    (p.0 ++ q.0, p.1 ∙ ap (λ (x : List ℕ). p.0 ++ x) q.1 ∙ sym (append_assoc p.0 q.0 last), Appends-trans a b c p.0 q.0 p.2 q.2)
