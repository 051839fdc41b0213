-- Putting texts behind what waits for a sink, one after another.
use Rattle.std.proofs.Common.{◌≡◌, ℕ, List, [], ◌∷◌, ◌++◌, Option, refl, sym, ap, ◌∙◌, append_assoc, Result, Ok, Err, OnErr}
use Rattle.std.specs.Io.KnownBytes.{Appends}
use Rattle.std.proofs.KnownBytes.{Appends-trans}
use Rattle.std.proofs.lemmas.List.{append-nil}
use Rattle.std.proofs.lemmas.Grind.{flat_map-append}
use Rattle.edge_io.specs.Front.{AppendsFront, Sends}
use Rattle.edge_io.specs.Text.{text}
use Rattle.edge_io.specs.Puts.{Puts, PutsFront}

pub text-append : (xs ys : List (List ℕ)) → text (xs ++ ys) ≡ text xs ++ text ys
text-append xs ys = flat_map-append (λ (l : List ℕ). l ++ 10 ∷ []) xs ys

-- one text behind another
pub puts-then : (a b c : Option (List ℕ)) (w0 w1 w2 x y : List ℕ) → Puts a b w0 w1 x → Puts b c w1 w2 y → Puts a c w0 w2 (x ++ y)
puts-then a b c w0 w1 w2 x y first then =
    let split : w0 ++ (x ++ y) ≡ (first.0 ++ then.0) ++ w2 =
    sym (append_assoc w0 x y) ∙ ap (λ (l : List ℕ). l ++ y) first.1 ∙ append_assoc first.0 w1 y ∙ ap (λ (l : List ℕ). first.0 ++ l) then.1 ∙ sym (append_assoc first.0 then.0 w2) in
    (first.0 ++ then.0, split, Appends-trans a b c first.0 then.0 first.2 then.2)

-- nothing is put, and what waits may be sent
pub puts_nothing : (a b : Option (List ℕ)) (w0 w1 : List ℕ) → Sends a b w1 w0 → Puts a b w0 w1 []
puts_nothing a b w0 w1 sends = rw (append-nil w0) sends

-- a front of nothing, where what waits may be sent
pub front_nothing : (a b : Option (List ℕ)) (w0 w1 x : List ℕ) → Sends a b w1 w0 → PutsFront a b w0 w1 x
front_nothing a b w0 w1 x sends = ([], x, refl, puts_nothing a b w0 w1 sends)

-- a text is put, and then a front of another
pub front_then : (a b c : Option (List ℕ)) (w0 w1 w2 x y : List ℕ) → Puts a b w0 w1 x → PutsFront b c w1 w2 y → PutsFront a c w0 w2 (x ++ y)
front_then a b c w0 w1 w2 x y first then =
    (x ++ then.0, then.1, ap (λ (l : List ℕ). x ++ l) then.2 ∙ sym (append_assoc x then.0 then.1), puts-then a b c w0 w1 w2 x then.0 first then.3)

-- a front of the first of two texts is a front of both
pub front_of : (a b : Option (List ℕ)) (w0 w1 x y : List ℕ) → PutsFront a b w0 w1 x → PutsFront a b w0 w1 (x ++ y)
front_of a b w0 w1 x y front = (front.0, front.1 ++ y, ap (λ (l : List ℕ). l ++ y) front.2 ∙ append_assoc front.0 front.1 y, front.3)

-- the whole is a front of itself
pub whole_front : (a b : Option (List ℕ)) (w0 w1 x : List ℕ) → Puts a b w0 w1 x → PutsFront a b w0 w1 x
whole_front a b w0 w1 x puts = (x, [], sym (append-nil x), puts)

-- what was put behind nothing is a front of the whole, in what was sent
pub sent_front : (a b : Option (List ℕ)) (w1 x : List ℕ) → PutsFront a b [] w1 x → AppendsFront a b x
sent_front a b w1 x front =
    let sends = front.3 in
    (sends.0, w1 ++ front.1, front.2 ∙ ap (λ (l : List ℕ). l ++ front.1) sends.1 ∙ append_assoc sends.0 w1 front.1, sends.2)

-- what was put behind nothing was sent, where nothing waits
pub sent_all : (a b : Option (List ℕ)) (w1 x : List ℕ) → Puts a b [] w1 x → w1 ≡ [] → Appends a b x
sent_all a b w1 x puts none =
    let e : x ≡ puts.0 = puts.1 ∙ ap (λ (l : List ℕ). puts.0 ++ l) none ∙ append-nil puts.0 in
    rw e puts.2

pub on_err : {T E P : Type 0} (result : Result T E) → P → OnErr result P
on_err (Ok x) fact = tt
on_err (Err e) fact = fact
