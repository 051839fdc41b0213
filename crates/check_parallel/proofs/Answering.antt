-- Answers that are handed on.
use Rattle.std.specs.Prelude.{IfErr, IfOk, IsErrAnd, OnOk}
use Rattle.std.proofs.Common.{◌≡◌, Bool, true, Result, Ok, Err, sym, subst}
use Rattle.report_check.specs.declared.fault.CheckFault.{CheckFault}

-- of an answer without a fault
pub when-ok : {T : Type 0} (r : Result T CheckFault) (x : T) (P : Type 0) → r ≡ Ok x → OnOk r P → P
when-ok (Ok y) x P e h = h
when-ok (Err fault) x P e h = cc

pub if-ok : {T E : Type 0} (r : Result T E) (x : T) (P : T → Type 0) → r ≡ Ok x → IfOk r P → P x
if-ok (Ok y) x P e h = (let s : y ≡ x = cc in subst P s h)
if-ok (Err fault) x P e h = cc

-- of a fault
pub if-err : {T : Type 0} (r : Result T CheckFault) (fault : CheckFault) (P : CheckFault → Type 0) → r ≡ Err fault → IfErr r P → P fault
if-err (Ok x) fault P e h = cc
if-err (Err other) fault P e h = (let s : other ≡ fault = cc in subst P s h)

pub ok-map : {T : Type 0} (r : Result T CheckFault) (P Q : Type 0) → (P → Q) → OnOk r P → OnOk r Q
ok-map (Ok x) P Q to h = to h
ok-map (Err fault) P Q to h = tt

pub err-map : {T : Type 0} (r : Result T CheckFault) (P Q : CheckFault → Type 0) → ((fault : CheckFault) → P fault → Q fault) → IfErr r P → IfErr r Q
err-map (Ok x) P Q to h = tt
err-map (Err fault) P Q to h = to fault h

-- a fault that is handed on, where nothing is said of an answer without one
pub err-both : {T : Type 0} (r : Result T CheckFault) (fault : CheckFault) (M : Type 0) (P : CheckFault → Type 0) → IsErrAnd r (λ (e : CheckFault). e ≡ fault) → P fault → OnOk r M × IfErr r P
err-both (Ok x) fault M P h p = absurd h
err-both (Err e) fault M P h p = (tt, subst P (sym h) p)

pub err-if : {T : Type 0} (r : Result T CheckFault) (fault : CheckFault) (M : T → Type 0) (P : CheckFault → Type 0) → IsErrAnd r (λ (e : CheckFault). e ≡ fault) → P fault → IfOk r M × IfErr r P
err-if (Ok x) fault M P h p = absurd h
err-if (Err e) fault M P h p = (tt, subst P (sym h) p)

-- what all of two parts have
pub ok-done : {E : Type 0} (r : Result Bool E) (P Q : Type 0) → (P → Q) → IfOk r (λ (all : Bool). all ≡ true → P) → IfOk r (λ (all : Bool). all ≡ true → Q)
ok-done (Ok x) P Q to h = λ e. to (h e)
ok-done (Err fault) P Q to h = tt
