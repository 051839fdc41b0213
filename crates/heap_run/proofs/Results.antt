-- What holds of a result that is Ok.
use Rattle.std.specs.Prelude.{OnOk, IfOk}
use Rattle.std.proofs.Common.{Result, Ok, Err}

pub on-any : {A E P : Type 0} (r : Result A E) → P → OnOk r P
on-any (Ok x) p = p
on-any (Err e) p = tt

pub on-ok : {A E P Q : Type 0} (r : Result A E) → (P → Q) → OnOk r P → OnOk r Q
on-ok (Ok x) f h = f h
on-ok (Err e) f h = tt

pub on-both : {A E : Type 0} (P Q : Type 0) (r : Result A E) → OnOk r P → OnOk r Q → OnOk r (P × Q)
on-both P Q (Ok x) p q = (p, q)
on-both P Q (Err e) p q = tt

pub if-ok : {A E : Type 0} {P Q : A → Type 0} (r : Result A E) → ((x : A) → P x → Q x) → IfOk r P → IfOk r Q
if-ok (Ok x) f h = f x h
if-ok (Err e) f h = tt

pub if-both : {A E : Type 0} (P Q : A → Type 0) (r : Result A E) → IfOk r P → IfOk r Q → IfOk r (λ x. P x × Q x)
if-both P Q (Ok x) p q = (p, q)
if-both P Q (Err e) p q = tt
