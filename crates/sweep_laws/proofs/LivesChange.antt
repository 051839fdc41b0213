-- A life comes in at the end of the list, or leaves it.
use Rattle.std.proofs.Common.{◌≡◌, ◌≢◌, ℕ, zero, suc, ◌+◌, ◌<◌, ◌≤◌, ◌⊎◌, inl, inr, ⊎_elim, Bool, true, false, true≢false, cond, eqb, ◌&&◌, ltb, leb, List, [], ◌∷◌, ◌++◌, length, set, get_or, sym, refl, ap, ◌∙◌, subst, arith, eq-eqb, ne_eqb, length-set, get_or-set_other, get_or-set_same}
use Rattle.std.specs.Prelude.{Some, None}
use Rattle.std.specs.List.{AllByRecursion}
use Rattle.std.proofs.lemmas.Bool.{lt-ltb, le-ltb}
use mathlib.Core.Logic.{dite}
use native.Mathlib.Decide.{ℕ_discrete}
use Rattle.sweep_laws.specs.State.{LifeState}
use Rattle.sweep_laws.specs.Lists.{put_run}
use Rattle.sweep_laws.specs.ChangesOfLives.{drop_life}
use Rattle.sweep_laws.specs.Counts.{one_if}
use Rattle.sweep_laws.specs.Named.{is_covered, covers, owner, begins, is_class}
use Rattle.sweep_laws.proofs.NeedsMet.{some_none}
use Rattle.sweep_laws.specs.Reading.{life_in}

-- whether a life covers a page
pub covered : (q : ℕ) (l : LifeState) → (is_covered q l ≡ true) ⊎ (is_covered q l ≡ false)
covered q l = go (is_covered q l) refl
  where
    go : (b : Bool) → is_covered q l ≡ b → (is_covered q l ≡ true) ⊎ (is_covered q l ≡ false)
    go true e = inl e
    go false e = inr e

leb_yes : (a b : ℕ) → a ≤ b → leb a b ≡ true
leb_yes a b h = grind arith

leb_no : (a b : ℕ) → b < a → leb a b ≡ false
leb_no a b h = grind arith

pub is_in : (q : ℕ) (l : LifeState) → l.page ≤ q → q < l.page + l.pages → is_covered q l ≡ true
is_in q l a b = rw (leb_yes l.page q a, lt-ltb q (l.page + l.pages) b) refl

pub is_below : (q : ℕ) (l : LifeState) → q < l.page → is_covered q l ≡ false
is_below q l a = rw (leb_no l.page q a) refl

pub is_above : (q : ℕ) (l : LifeState) → l.page + l.pages ≤ q → is_covered q l ≡ false
is_above q l a = go (leb l.page q)
  where
    go : (b : Bool) → b && ltb q (l.page + l.pages) ≡ false
    go true = le-ltb q (l.page + l.pages) a
    go false = refl

-- the pages that lives cover
pub uncovered_owner : (q : ℕ) (ls : List LifeState) → covers q ls ≡ 0 → owner q ls ≡ None
uncovered_owner q [] e = refl
uncovered_owner q (l ∷ ls) e = ⊎_elim
    (λ (c : is_covered q l ≡ true). let o = ap one_if c in absurd (omega arith))
    (λ (c : is_covered q l ≡ false). let o = ap one_if c in rw c (uncovered_owner q ls (omega arith)))
    (covered q l)

pub unowned_covers : (q : ℕ) (ls : List LifeState) → owner q ls ≡ None → covers q ls ≡ 0
unowned_covers q [] e = refl
unowned_covers q (l ∷ ls) e = ⊎_elim
    (λ (c : is_covered q l ≡ true). absurd (some_none l.page (subst (λ (b : Bool). cond b (Some l.page) (owner q ls) ≡ None) c e)))
    (λ (c : is_covered q l ≡ false). let o = ap one_if c in let t = unowned_covers q ls (subst (λ (b : Bool). cond b (Some l.page) (owner q ls) ≡ None) c e) in omega arith)
    (covered q l)

pub uncovered_begins : (q : ℕ) (ls : List LifeState) → AllByRecursion (λ l. 1 ≤ l.pages) ls → covers q ls ≡ 0 → begins q ls ≡ false
uncovered_begins q [] w e = refl
uncovered_begins q (l ∷ ls) w e = dite (ℕ_discrete l.page q)
    (λ s. let c = ap one_if (is_in q l (omega arith) (let x = w.0 in omega arith)) in absurd (omega arith))
    (λ d. rw (ne_eqb l.page q d) (uncovered_begins q ls w.1 (omega arith)))

-- a life at the end
pub covers_append : (q : ℕ) (ls : List LifeState) (m : LifeState) → covers q (ls ++ m ∷ []) ≡ covers q ls + one_if (is_covered q m)
covers_append q [] m = omega arith
covers_append q (l ∷ ls) m = let t = covers_append q ls m in omega arith

pub owner_append_new : (q : ℕ) (ls : List LifeState) (m : LifeState) → owner q ls ≡ None → is_covered q m ≡ true → owner q (ls ++ m ∷ []) ≡ Some m.page
owner_append_new q [] m e c = rw c refl
owner_append_new q (l ∷ ls) m e c = ⊎_elim
    (λ (x : is_covered q l ≡ true). absurd (some_none l.page (subst (λ (b : Bool). cond b (Some l.page) (owner q ls) ≡ None) x e)))
    (λ (x : is_covered q l ≡ false). rw x (owner_append_new q ls m (subst (λ (b : Bool). cond b (Some l.page) (owner q ls) ≡ None) x e) c))
    (covered q l)

pub owner_append_else : (q : ℕ) (ls : List LifeState) (m : LifeState) → is_covered q m ≡ false → owner q (ls ++ m ∷ []) ≡ owner q ls
owner_append_else q [] m c = rw c refl
owner_append_else q (l ∷ ls) m c = ap (cond (is_covered q l) (Some l.page)) (owner_append_else q ls m c)

pub begins_append_new : (q : ℕ) (ls : List LifeState) (m : LifeState) → m.page ≡ q → begins q (ls ++ m ∷ []) ≡ true
begins_append_new q [] m e = rw (eq-eqb m.page q e) refl
begins_append_new q (l ∷ ls) m e = go (eqb l.page q) (begins_append_new q ls m e)
  where
    go : (b : Bool) → begins q (ls ++ m ∷ []) ≡ true → cond b true (begins q (ls ++ m ∷ [])) ≡ true
    go true t = refl
    go false t = t

pub begins_append_else : (q : ℕ) (ls : List LifeState) (m : LifeState) → m.page ≢ q → begins q (ls ++ m ∷ []) ≡ begins q ls
begins_append_else q [] m e = rw (ne_eqb m.page q e) refl
begins_append_else q (l ∷ ls) m e = ap (cond (eqb l.page q) true) (begins_append_else q ls m e)

pub class_append_else : (q k : ℕ) (ls : List LifeState) (m : LifeState) → m.page ≢ q → is_class q k (ls ++ m ∷ []) ≡ is_class q k ls
class_append_else q k [] m e = rw (ne_eqb m.page q e) refl
class_append_else q k (l ∷ ls) m e = ap (cond (eqb l.page q) (eqb l.class k)) (class_append_else q k ls m e)

pub class_append_kept : (q k : ℕ) (ls : List LifeState) (m : LifeState) → is_class q k ls ≡ true → is_class q k (ls ++ m ∷ []) ≡ true
class_append_kept q k [] m e = absurd (true≢false (sym e))
class_append_kept q k (l ∷ ls) m e = go (eqb l.page q) (class_append_kept q k ls m) e
  where
    go : (b : Bool) → (is_class q k ls ≡ true → is_class q k (ls ++ m ∷ []) ≡ true) → cond b (eqb l.class k) (is_class q k ls) ≡ true → cond b (eqb l.class k) (is_class q k (ls ++ m ∷ [])) ≡ true
    go true t x = x
    go false t x = t x

pub all_append : (P : LifeState → Type 0) (ls : List LifeState) (m : LifeState) → AllByRecursion P ls → P m → AllByRecursion P (ls ++ m ∷ [])
all_append P [] m a x = (x, tt)
all_append P (l ∷ ls) m a x = (a.0, all_append P ls m a.1 x)

-- a life that leaves
pub covers_drop : (p q : ℕ) (ls : List LifeState) → begins p ls ≡ true → covers q (drop_life p ls) + one_if (is_covered q (life_in p ls)) ≡ covers q ls
covers_drop p q [] e = absurd (true≢false (sym e))
covers_drop p q (l ∷ ls) e = dite (ℕ_discrete l.page p)
    (λ s. rw (eq-eqb l.page p s) (omega arith))
    (λ d. let n = ne_eqb l.page p d in let t = covers_drop p q ls (subst (λ (b : Bool). cond b true (begins p ls) ≡ true) n e) in rw n (omega (arith, t)))

pub owner_drop : (p q : ℕ) (ls : List LifeState) → begins p ls ≡ true → is_covered q (life_in p ls) ≡ false → owner q (drop_life p ls) ≡ owner q ls
owner_drop p q [] e c = absurd (true≢false (sym e))
owner_drop p q (l ∷ ls) e c = dite (ℕ_discrete l.page p)
    (λ s. let n = eq-eqb l.page p s in let x : is_covered q l ≡ false = rw n at c in rw (n, x) refl)
    (λ d. let n = ne_eqb l.page p d in let x : is_covered q (life_in p ls) ≡ false = rw n at c in
    rw n (ap (cond (is_covered q l) (Some l.page)) (owner_drop p q ls (subst (λ (b : Bool). cond b true (begins p ls) ≡ true) n e) x)))

pub begins_drop : (p q : ℕ) (ls : List LifeState) → q ≢ p → begins q (drop_life p ls) ≡ begins q ls
begins_drop p q [] o = refl
begins_drop p q (l ∷ ls) o = dite (ℕ_discrete l.page p)
    (λ s. rw (eq-eqb l.page p s, ne_eqb l.page q (λ e. o (sym e ∙ s))) refl)
    (λ d. rw (ne_eqb l.page p d) (ap (cond (eqb l.page q) true) (begins_drop p q ls o)))

pub class_drop : (p q k : ℕ) (ls : List LifeState) → q ≢ p → is_class q k (drop_life p ls) ≡ is_class q k ls
class_drop p q k [] o = refl
class_drop p q k (l ∷ ls) o = dite (ℕ_discrete l.page p)
    (λ s. rw (eq-eqb l.page p s, ne_eqb l.page q (λ e. o (sym e ∙ s))) refl)
    (λ d. rw (ne_eqb l.page p d) (ap (cond (eqb l.page q) (eqb l.class k)) (class_drop p q k ls o)))

pub all_drop : (P : LifeState → Type 0) (p : ℕ) (ls : List LifeState) → AllByRecursion P ls → AllByRecursion P (drop_life p ls)
all_drop P p [] a = tt
all_drop P p (l ∷ ls) a = dite (ℕ_discrete l.page p)
    (λ s. rw (eq-eqb l.page p s) a.1)
    (λ d. rw (ne_eqb l.page p d) (a.0, all_drop P p ls a.1))

pub all_at : (P : LifeState → Type 0) (p : ℕ) (ls : List LifeState) → AllByRecursion P ls → begins p ls ≡ true → P (life_in p ls)
all_at P p [] a e = absurd (true≢false (sym e))
all_at P p (l ∷ ls) a e = dite (ℕ_discrete l.page p)
    (λ s. rw (eq-eqb l.page p s) a.0)
    (λ d. let n = ne_eqb l.page p d in rw n (all_at P p ls a.1 (subst (λ (b : Bool). cond b true (begins p ls) ≡ true) n e)))

pub life_page : (p : ℕ) (ls : List LifeState) → begins p ls ≡ true → (life_in p ls).page ≡ p
life_page p [] e = absurd (true≢false (sym e))
life_page p (l ∷ ls) e = dite (ℕ_discrete l.page p)
    (λ s. rw (eq-eqb l.page p s) s)
    (λ d. let n = ne_eqb l.page p d in rw n (life_page p ls (subst (λ (b : Bool). cond b true (begins p ls) ≡ true) n e)))

-- a run of entries that are written
module _ {A : Type 0} where
  pub length_run : (xs : List A) (p n : ℕ) (x : A) → length (put_run xs p n x) ≡ length xs
  length_run xs p zero x = refl
  length_run xs p (suc n) x = length-set (put_run xs p n x) (p + n) x ∙ length_run xs p n x

  pub run_here : (xs : List A) (p n q : ℕ) (x d : A) → p ≤ q → q < p + n → q < length xs → get_or (put_run xs p n x) q d ≡ x
  run_here xs p zero q x d a b c = absurd (omega arith)
  run_here xs p (suc n) q x d a b c = dite (ℕ_discrete q (p + n))
      (λ e. ap (λ (z : ℕ). get_or (set (put_run xs p n x) (p + n) x) z d) e ∙ get_or-set_same (put_run xs p n x) (p + n) x d (let l = length_run xs p n x in omega arith))
      (λ o. get_or-set_other (put_run xs p n x) (p + n) q x d o ∙ run_here xs p n q x d a (omega arith) c)

  pub run_else : (xs : List A) (p n q : ℕ) (x d : A) → (q < p) ⊎ (p + n ≤ q) → get_or (put_run xs p n x) q d ≡ get_or xs q d
  run_else xs p zero q x d out = refl
  run_else xs p (suc n) q x d out = get_or-set_other (put_run xs p n x) (p + n) q x d (λ e. ⊎_elim (λ (z : q < p). let v : ⊥ = omega arith in v) (λ (z : p + suc n ≤ q). let v : ⊥ = omega arith in v) out)
      ∙ run_else xs p n q x d (⊎_elim (λ (z : q < p). inl z) (λ (z : p + suc n ≤ q). inr (omega arith)) out)
