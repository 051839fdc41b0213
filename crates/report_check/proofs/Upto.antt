-- The journal's lines up to the end of a cycle.
use Rattle.std.proofs.Common.{◌≡◌, ℕ, zero, suc, ◌+◌, ◌-◌, ◌<◌, ◌≤◌, leb, false, List, [], ◌∷◌, take, length, get_or, refl, sym, ◌∙◌, ap, subst, arith, inl, inr}
use Rattle.std.proofs.lemmas.Bool.{cases_lt, le-leb, lt-leb}
use Rattle.std.proofs.lemmas.List.{take_more, reverse-append, length-reverse, length-take-le, take_all}
use Rattle.page_bitmap.specs.declared.line.Line.{Line}
use Rattle.page_alloc.specs.Journal.{cycle_of, at_end, past_of, IsBy, LegalFor}

pub line-more : (journal : List Line) (n : ℕ) (d : Line) → n < length journal → past_of (take (n + 1) journal) ≡ get_or journal n d ∷ past_of (take n journal)
line-more journal n d lt = rw (take_more journal n d lt) (reverse-append (take n journal) (get_or journal n d ∷ []))

pub past-length : (journal : List Line) (n : ℕ) → n ≤ length journal → length (past_of (take n journal)) ≡ n
past-length journal n le = length-reverse (take n journal) ∙ length-take-le n journal le

-- each front of a legal journal is legal
legal-back : (procs region goal : ℕ) (journal : List Line) (n k : ℕ) → n + k ≤ length journal → LegalFor procs region goal (past_of (take (n + k) journal)) → LegalFor procs region goal (past_of (take n journal))
legal-back procs region goal journal n zero le legal = let e : n + 0 ≡ n = omega arith in subst (λ (m : ℕ). LegalFor procs region goal (past_of (take m journal))) e legal
legal-back procs region goal journal n (suc k) le legal =
    let e : n + suc k ≡ (n + k) + 1 = omega arith in
    let all : LegalFor procs region goal (past_of (take ((n + k) + 1) journal)) = subst (λ (m : ℕ). LegalFor procs region goal (past_of (take m journal))) e legal in
    legal-back procs region goal journal n k (omega arith) (front journal (n + k) (omega arith) all)
  where
    front : (js : List Line) (m : ℕ) → m < length js → LegalFor procs region goal (past_of (take (m + 1) js)) → LegalFor procs region goal (past_of (take m js))
    front [] m lt h = absurd (omega arith)
    front (j ∷ js) m lt h = let h' : LegalFor procs region goal (get_or (j ∷ js) m j ∷ past_of (take m (j ∷ js))) = subst (λ (p : List Line). LegalFor procs region goal p) (line-more (j ∷ js) m j lt) h in h'.2

pub legal-front : (procs region goal : ℕ) (journal : List Line) (n : ℕ) → n ≤ length journal → LegalFor procs region goal (past_of journal) → LegalFor procs region goal (past_of (take n journal))
legal-front procs region goal journal n le legal =
    let whole : LegalFor procs region goal (past_of (take (length journal) journal)) = subst (λ (js : List Line). LegalFor procs region goal (past_of js)) (sym (take_all (length journal) journal (omega arith))) legal in
    let e : length journal ≡ n + (length journal - n) = omega arith in
    legal-back procs region goal journal n (length journal - n) (omega arith) (subst (λ (m : ℕ). LegalFor procs region goal (past_of (take m journal))) e whole)

at_end-by : (c : ℕ) (past : List Line) → IsBy c past → at_end c past ≡ past
at_end-by c [] by = refl
at_end-by c (line ∷ past) by = let e = le-leb (cycle_of line) c by in rw e refl

-- the lines behind the first of a later cycle are of later cycles too
pub later : (procs region goal : ℕ) (journal : List Line) (n k c : ℕ) (d : Line) → n + k < length journal → LegalFor procs region goal (past_of journal) → c < cycle_of (get_or journal n d)
    → (c < cycle_of (get_or journal (n + k) d)) × (at_end c (past_of (take ((n + k) + 1) journal)) ≡ at_end c (past_of (take n journal)))
later procs region goal journal n zero c d lt legal behind =
    let e : n + 0 ≡ n = omega arith in
    let less : c < cycle_of (get_or journal (n + 0) d) = rw e behind in
    (less, rw e (one journal n c d (omega arith) behind))
  where
    one : (journal : List Line) (n c : ℕ) (d : Line) → n < length journal → c < cycle_of (get_or journal n d) → at_end c (past_of (take (n + 1) journal)) ≡ at_end c (past_of (take n journal))
    one journal n c d lt behind = let e = lt-leb (cycle_of (get_or journal n d)) c behind in rw (line-more journal n d lt, e) refl
later procs region goal journal n (suc k) c d lt legal behind =
    let rest = later procs region goal journal n k c d (omega arith) legal behind in
    let e : n + suc k ≡ (n + k) + 1 = omega arith in
    let here : LegalFor procs region goal (get_or journal (n + suc k) d ∷ past_of (take (n + suc k) journal)) =
    subst (λ (p : List Line). LegalFor procs region goal p) (line-more journal (n + suc k) d lt) (legal-front procs region goal journal (n + suc k + 1) (omega arith) legal) in
    let order : IsBy (cycle_of (get_or journal (n + suc k) d)) (past_of (take (n + suc k) journal)) = here.1 in
    let before : past_of (take (n + suc k) journal) ≡ get_or journal (n + k) d ∷ past_of (take (n + k) journal) = ap (λ (m : ℕ). past_of (take m journal)) e ∙ line-more journal (n + k) d (omega arith) in
    let le : cycle_of (get_or journal (n + k) d) ≤ cycle_of (get_or journal (n + suc k) d) = subst (λ (p : List Line). IsBy (cycle_of (get_or journal (n + suc k) d)) p) before order in
    let first = rest.0 in
    let less : c < cycle_of (get_or journal (n + suc k) d) = omega arith in
    let skip = lt-leb (cycle_of (get_or journal (n + suc k) d)) c less in
    (less, step skip (line-more journal (n + suc k) d lt) (ap (λ (m : ℕ). at_end c (past_of (take m journal))) e ∙ rest.1))
  where
    step : {whole past : List Line} {line : Line} {end : List Line} → leb (cycle_of line) c ≡ false → whole ≡ line ∷ past → at_end c past ≡ end → at_end c whole ≡ end
    step off is same = rw (is, off) same

pub end-at : (procs region goal : ℕ) (journal : List Line) (n c : ℕ) (d : Line) → n ≤ length journal → LegalFor procs region goal (past_of journal) → IsBy c (past_of (take n journal))
    → (n < length journal → c < cycle_of (get_or journal n d)) → past_of (take n journal) ≡ at_end c (past_of journal)
end-at procs region goal journal n c d le legal by behind = elim (cases_lt n (length journal)) [
  | inl lt ↦ (
      let k = length journal - n - 1 in
      let size : (n + k) + 1 ≡ length journal = omega arith in
      let l = later procs region goal journal n k c d (omega arith) legal (behind lt) in
      let whole : take ((n + k) + 1) journal ≡ journal = take_all ((n + k) + 1) journal (omega arith) in
      sym (at_end-by c (past_of (take n journal)) by) ∙ (sym l.1 ∙ ap (λ (js : List Line). at_end c (past_of js)) whole))
  | inr ge ↦ (
      let whole : take n journal ≡ journal = take_all n journal ge in
      sym (at_end-by c (past_of (take n journal)) by) ∙ ap (λ (js : List Line). at_end c (past_of js)) whole)
]

pub by-on : (c d : ℕ) (past : List Line) → c ≤ d → IsBy c past → IsBy d past
by-on c d [] le by = tt
by-on c d (line ∷ past) le by = omega arith
