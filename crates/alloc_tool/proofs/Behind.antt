-- One text written behind another.
use Rattle.std.proofs.Common.{ℕ, List, ◌++◌, Option, sym, ◌∙◌, ap}
use Rattle.std.specs.Io.KnownBytes.{Appends}
use Rattle.std.proofs.KnownBytes.{Appends-trans}
use Rattle.std.proofs.lemmas.List.{append_assoc}
use Rattle.edge_io.specs.Front.{AppendsFront}

-- a front of the first is one of both
pub front_first : (a b : Option (List ℕ)) (x y : List ℕ) → AppendsFront a b x → AppendsFront a b (x ++ y)
front_first a b x y f = (f.0, f.1 ++ y, ap (λ (l : List ℕ). l ++ y) f.2 ∙ append_assoc f.0 f.1 y, f.3)

-- behind the whole first, a front of the second
pub front_second : (a b c : Option (List ℕ)) (x y : List ℕ) → Appends a b x → AppendsFront b c y → AppendsFront a c (x ++ y)
front_second a b c x y whole f = (x ++ f.0, f.1, ap (λ (l : List ℕ). x ++ l) f.2 ∙ sym (append_assoc x f.0 f.1), Appends-trans a b c x f.0 whole f.3)
