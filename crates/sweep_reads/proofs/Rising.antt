-- Marks that strictly rise have those of a page side by side.
use Rattle.std.proofs.Common.{◌≡◌, ◌≢◌, ℕ, zero, suc, ◌+◌, ◌-◌, ◌<◌, ◌≤◌, ⊎_elim, true, eqb, ltb, ◌&&◌, List, [], ◌∷◌, ◌++◌, length, get_or, take, drop, refl, sym, ap, ◌∙◌, subst, arith, ne_eqb}
use Rattle.std.specs.Prelude.{slice_range}
use Rattle.std.specs.List.Sorted.{IsNonDecreasingBy}
use Rattle.std.proofs.lemmas.Bool.{eqb-true, ltb-true}
use Rattle.std.proofs.lemmas.List.{take-append-drop, append-nil, get_or_default, get_or-take, get_or-drop, length-take, length-drop}
use Rattle.std.proofs.lemmas.List.Sorted.{IsNonDecreasingBy-from_all_adjacent}
use mathlib.Core.Logic.{dite}
use native.Mathlib.Decide.{dec_le}
use Rattle.sweep_laws.specs.Lists.{is_before, rises_after, rises}
use Rattle.sweep_laws.specs.ChangesOfLives.{marks_at}
use Rattle.sweep_laws.proofs.NeedsMet.{both, either_one}
use Rattle.sweep_reads.proofs.OfPage.{marks-append}

before_le : (a b : ℕ × ℕ) → is_before a b ≡ true → a.0 ≤ b.0
before_le a b e = ⊎_elim (λ (x : ltb a.0 b.0 ≡ true). let y = ltb-true a.0 b.0 x in let z : a.0 ≤ b.0 = omega arith in z)
    (λ (x : eqb a.0 b.0 && ltb a.1 b.1 ≡ true). let y = eqb-true a.0 b.0 (both _ _ x).0 in let z : a.0 ≤ b.0 = omega arith in z)
    (either_one _ _ e)

-- neighbours rise
next_le : (a : ℕ × ℕ) (ms : List (ℕ × ℕ)) → rises_after a ms ≡ true → (k : ℕ) (d : ℕ × ℕ) → suc k < length (a ∷ ms) → (get_or (a ∷ ms) k d).0 ≤ (get_or (a ∷ ms) (suc k) d).0
next_le a [] e k d low = absurd (omega arith)
next_le a (b ∷ ms) e zero d low = before_le a b (both _ _ e).0
next_le a (b ∷ ms) e (suc k) d low = next_le b ms (both _ _ e).1 k d (omega arith)

pub pages_rise : (ms : List (ℕ × ℕ)) → rises ms ≡ true → IsNonDecreasingBy (λ (m : ℕ × ℕ). m.0) ms
pages_rise [] e = λ i j d l low. absurd (omega arith)
pages_rise (a ∷ ms) e = IsNonDecreasingBy-from_all_adjacent (λ (m : ℕ × ℕ). m.0) (a ∷ ms)
    (λ k d low. let s : k + 1 ≡ suc k = omega arith in subst (λ (n : ℕ). (get_or (a ∷ ms) k d).0 ≤ (get_or (a ∷ ms) n d).0) (sym s) (next_le a ms e k d (omega arith)))

-- the marks before a page end where those behind it begin, or earlier
pub in_order : (page start end : ℕ) (ms : List (ℕ × ℕ)) → start ≤ length ms → ((k : ℕ) (d : ℕ × ℕ) → k < start → (get_or ms k d).0 < page)
    → ((k : ℕ) (d : ℕ × ℕ) → end ≤ k → k < length ms → page + 1 ≤ (get_or ms k d).0) → start ≤ end
in_order page start end ms inside before behind = dite (dec_le start end) (λ s. s)
    (λ s. let a = before end (0, 0) (omega arith) in let b = behind end (0, 0) (omega arith) (omega arith) in absurd (omega arith))

-- marks of other pages
none_of : (page : ℕ) (ms : List (ℕ × ℕ)) → ((k : ℕ) → k < length ms → (get_or ms k (0, 0)).0 ≢ page) → marks_at page ms ≡ []
none_of page [] h = refl
none_of page (m ∷ ms) h = rw (ne_eqb m.0 page (h 0 (omega arith))) (none_of page ms (λ k low. h (suc k) (omega arith)))

pub marks_between : (page start end : ℕ) (ms : List (ℕ × ℕ)) → start ≤ end → end ≤ length ms → ((k : ℕ) (d : ℕ × ℕ) → k < start → (get_or ms k d).0 < page)
    → ((k : ℕ) (d : ℕ × ℕ) → end ≤ k → k < length ms → page + 1 ≤ (get_or ms k d).0) → marks_at page (slice_range ms start end) ≡ marks_at page ms
marks_between page start end ms order inside before behind =
    sym (append-nil (marks_at page own)) ∙ ap (λ xs. marks_at page own ++ xs) (sym back) ∙ sym (marks-append page own (drop n (drop start ms))) ∙ ap (marks_at page) (take-append-drop n (drop start ms))
    ∙ ap (λ xs. xs ++ marks_at page (drop start ms)) (sym front) ∙ sym (marks-append page (take start ms) (drop start ms)) ∙ ap (marks_at page) (take-append-drop start ms)
  where
    n : ℕ
    n = end - start

    own : List (ℕ × ℕ)
    own = slice_range ms start end

    front : marks_at page (take start ms) ≡ []
    front = none_of page (take start ms) (λ k low. let l : k < start = omega (arith, length-take start ms) in
        let b = before k (0, 0) l in let e = ap (λ (m : ℕ × ℕ). m.0) (get_or-take start ms k (0, 0) l) in λ s. omega arith)

    back : marks_at page (drop n (drop start ms)) ≡ []
    back = none_of page (drop n (drop start ms)) (λ k low. let e = ap (λ (m : ℕ × ℕ). m.0) (get_or-drop n (drop start ms) k (0, 0) ∙ get_or-drop start ms (n + k) (0, 0)) in
        let b = behind (start + (n + k)) (0, 0) (omega arith) (omega (arith, length-drop n (drop start ms), length-drop start ms)) in λ s. omega arith)

-- marks before one of a page below, and marks behind one of a page above

pub before_rise : (ms : List (ℕ × ℕ)) (page n : ℕ) → rises ms ≡ true → n ≤ length ms → (n ≡ 0 → ⊥) → (get_or ms (n - 1) (0, 0)).0 < page → (k : ℕ) (d : ℕ × ℕ) → k < n → (get_or ms k d).0 < page
before_rise ms page n rise inside some last k d low =
    let r = pages_rise ms rise k (n - 1) (0, 0) (omega arith) (omega arith) in
    let e = ap (λ (m : ℕ × ℕ). m.0) (get_or_default ms k d (0, 0) (omega arith)) in
    omega arith

pub behind_rise : (ms : List (ℕ × ℕ)) (page n : ℕ) (e : ℕ × ℕ) → rises ms ≡ true → n < length ms → page ≤ (get_or ms n e).0 → (k : ℕ) (d : ℕ × ℕ) → n ≤ k → k < length ms → page ≤ (get_or ms k d).0
behind_rise ms page n e rise inside first k d from low =
    let r = pages_rise ms rise n k d from low in
    let s = ap (λ (m : ℕ × ℕ). m.0) (get_or_default ms n d e inside) in
    omega arith

-- marks between those of the pages before and those of the pages behind are of the page
pub between_pages : (page start end : ℕ) (ms : List (ℕ × ℕ)) → start ≤ end → end ≤ length ms → ((k : ℕ) (d : ℕ × ℕ) → start ≤ k → k < length ms → page ≤ (get_or ms k d).0)
    → ((k : ℕ) (d : ℕ × ℕ) → k < end → (get_or ms k d).0 < page + 1) → (k : ℕ) (d : ℕ × ℕ) → k < length (slice_range ms start end) → (get_or (slice_range ms start end) k d).0 ≡ page
between_pages page start end ms order inside behind before k d low =
    let l : k < end - start = omega (arith, length-take (end - start) (drop start ms)) in
    let e = ap (λ (m : ℕ × ℕ). m.0) (get_or-take (end - start) (drop start ms) k d l ∙ get_or-drop start ms k d) in
    let a = behind (start + k) d (omega arith) (omega arith) in
    let b = before (start + k) d (omega arith) in
    omega arith
