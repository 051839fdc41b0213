-- The lines of a report stand in turn.
use Rattle.std.proofs.Common.{◌≡◌, ℕ, ◌+◌, ◌^◌, ◌<◌, ◌≤◌, List, [], ◌∷◌, ◌++◌, map, length, Option, Some, None, refl, sym, ap, ◌∙◌, subst, inl, inr, arith, append_assoc, length-append}
use Rattle.std.specs.List.{AllByRecursion}
use Rattle.edge_io.specs.Text.{text}
use Rattle.page_alloc.specs.Lists.{AllApart}
use Rattle.span_state.specs.declared.sweep.SweepNote.{SweepNote}
use Rattle.cycle_history.specs.declared.Total.{Total}
use Rattle.cycle_history.specs.declared.Prof.{Prof}
use Rattle.cycle_history.specs.declared.Report.{Report}
use Rattle.cycle_history.specs.Orders.{AreRisingProfile, AreRisingSweeps, AreRisingTotals, IsProfBefore, IsSweepBefore, IsTotalBefore}
use Rattle.cycle_history.specs.Text.{answer_line, journal_line, sweep_line, total_line, profile_line, numbered, report_text}
use Rattle.report_text.specs.declared.item.Item.{Item}
use Rattle.report_text.specs.declared.item.Item.TheVariants.{Object, Journal, Sweep, Class, Bucket, End}
use Rattle.report_text.specs.Items.{AreInTurn, IsFirst, IsNext, ItemFits, MayFollow, last_of, line_for, rank}
use Rattle.report_text.specs.Refusal.{told}
use Rattle.report_text.specs.Unique.{AnswerFits, LineFits, SweepFits, TotalFits, ProfFits, FitsTypes}
use Rattle.report_text.proofs.Unique.{all_numbered, from_journal, from_profile, from_sweeps, from_totals}

-- ---- the lines of a report, one at a time

abbrev pub items : {X : Type 0} → (ℕ → X → Item) → ℕ → List X → List Item
items make n [] = []
items make n (x ∷ xs) = make n x ∷ items make (n + 1) xs

abbrev pub sweep : ℕ → SweepNote → Item
sweep n note = Sweep note

abbrev pub class : ℕ → Total → Item
class n total = Class total

abbrev pub bucket : ℕ → Prof → Item
bucket n prof = Bucket prof

-- all but the last
abbrev pub body : Report → List Item
body r = items Object 0 r.answers ++ (items Journal 0 r.journal ++ (items sweep 0 r.sweeps ++ (items class 0 r.totals ++ items bucket 0 r.profile)))

abbrev whole : Report → List Item
whole r = items Object 0 r.answers ++ (items Journal 0 r.journal ++ (items sweep 0 r.sweeps ++ (items class 0 r.totals ++ (items bucket 0 r.profile ++ End ∷ []))))

body_whole : (r : Report) → body r ++ End ∷ [] ≡ whole r
body_whole r = simp append_assoc

lines_then : {X : Type 0} (make : ℕ → X → Item) (line : ℕ → X → List ℕ) → ((n : ℕ) (x : X) → line_for (make n x) ≡ line n x) → (n : ℕ) (xs : List X) (rest : List Item) (more : List (List ℕ)) → map line_for rest ≡ more
    → map line_for (items make n xs ++ rest) ≡ numbered line n xs ++ more
lines_then make line same n [] rest more e = e
lines_then make line same n (x ∷ xs) rest more e = ap (λ (l : List ℕ). l ∷ map line_for (items make (n + 1) xs ++ rest)) (same n x) ∙ ap (λ (ls : List (List ℕ)). line n x ∷ ls) (lines_then make line same (n + 1) xs rest more e)

whole_lines : (r : Report) → map line_for (whole r) ≡ numbered answer_line 0 r.answers ++ from_journal r
whole_lines r =
    lines_then Object answer_line (λ n x. refl) 0 r.answers _ (from_journal r)
    (lines_then Journal journal_line (λ n x. refl) 0 r.journal _ (from_sweeps r)
    (lines_then sweep (λ _ note. sweep_line note) (λ n x. refl) 0 r.sweeps _ (from_totals r)
    (lines_then class (λ _ total. total_line total) (λ n x. refl) 0 r.totals _ (from_profile r)
    (lines_then bucket (λ _ prof. profile_line prof) (λ n x. refl) 0 r.profile (End ∷ []) _ refl))))

-- they are its text
pub told_text : (r : Report) → told (body r ++ End ∷ []) ≡ report_text r
told_text r = ap (λ (xs : List Item). told xs) (body_whole r) ∙ ap text (whole_lines r) ∙ sym (all_numbered r)

-- ---- in turn

abbrev pub rank_of : Option Item → ℕ
rank_of None = 0
rank_of (Some x) = rank x

-- these may stand behind what is of a lower kind
abbrev Accept : ℕ → List Item → Type 0
Accept k rest = (before : Option Item) → rank_of before < k → AreInTurn before rest

record Sort {X : Type 0} (make : ℕ → X → Item) (Fits : X → Type 0) (R : X → X → Type 0) (k : ℕ) : Type 0 where
  ranked : (n : ℕ) (x : X) → rank (make n x) ≡ k
  first : (x : X) → IsFirst (make 0 x)
  next : (n : ℕ) (x y : X) → R x y → IsNext (make n x) (make (n + 1) y)
  fits : (n : ℕ) (x : X) → n < 2 ^ 64 → Fits x → ItemFits (make n x)

chain : {X : Type 0} (make : ℕ → X → Item) (Fits : X → Type 0) (R : X → X → Type 0) (k j : ℕ) (rest : List Item) → Sort make Fits R k → k < j → Accept j rest → (n : ℕ) (x : X) (xs : List X) → AllByRecursion Fits xs → AllApart R (x ∷ xs)
    → n + 1 + length xs ≤ 2 ^ 64 → AreInTurn (Some (make n x)) (items make (n + 1) xs ++ rest)
chain make Fits R k j rest sort less accept n x [] fits apart count = accept (Some (make n x)) (let same = sort.ranked n x in omega arith)
chain make Fits R k j rest sort less accept n x (y ∷ ys) fits apart count =
    (sort.fits (n + 1) y (omega arith) fits.0, inl (sort.next n x y (apart.0 y (inl refl))), chain make Fits R k j rest sort less accept (n + 1) y ys fits.1 apart.1 (omega arith))

behind_lower : (x : Item) (k : ℕ) → rank x ≡ k → IsFirst x → (before : Option Item) → rank_of before < k → MayFollow before x
behind_lower x k ranked first None less = first
behind_lower x k ranked first (Some b) less = inr (omega arith, first)

list_in_turn : {X : Type 0} (make : ℕ → X → Item) (Fits : X → Type 0) (R : X → X → Type 0) (k j : ℕ) (rest : List Item) → Sort make Fits R k → k < j → Accept j rest → (xs : List X) → AllByRecursion Fits xs → AllApart R xs
    → length xs ≤ 2 ^ 64 → Accept k (items make 0 xs ++ rest)
list_in_turn make Fits R k j rest sort less accept [] fits apart count before low = accept before (omega arith)
list_in_turn make Fits R k j rest sort less accept (x ∷ xs) fits apart count before low =
    (sort.fits 0 x (omega arith) fits.0, behind_lower (make 0 x) k (sort.ranked 0 x) (sort.first x) before low, chain make Fits R k j rest sort less accept 0 x xs fits.1 apart (omega arith))

abbrev Any : {X : Type 0} → X → X → Type 0
Any x y = Unit {0}

apart_any : {X : Type 0} (xs : List X) → AllApart Any xs
apart_any [] = tt
apart_any (x ∷ xs) = (λ y i. tt, apart_any xs)

end_in_turn : Accept 6 (End ∷ [])
end_in_turn before low = (tt, behind_lower End 6 refl tt before low, tt)

pub whole_in_turn : (r : Report) → FitsTypes r → AreRisingSweeps r.sweeps → AreRisingTotals r.totals → AreRisingProfile r.profile → length (report_text r) < 2 ^ 64 → AreInTurn None (body r ++ End ∷ [])
whole_in_turn r fits sweeps totals profile small =
    subst (AreInTurn None) (sym (body_whole r))
    (list_in_turn Object AnswerFits Any 1 2 _ (record { ranked = λ n x. refl; first = λ x. refl; next = λ n x y a. refl; fits = λ n x low f. (low, f) }) (omega arith)
    (list_in_turn Journal LineFits Any 2 3 _ (record { ranked = λ n x. refl; first = λ x. refl; next = λ n x y a. refl; fits = λ n x low f. (low, f) }) (omega arith)
    (list_in_turn sweep SweepFits IsSweepBefore 3 4 _ (record { ranked = λ n x. refl; first = λ x. tt; next = λ n x y a. a; fits = λ n x low f. f }) (omega arith)
    (list_in_turn class TotalFits IsTotalBefore 4 5 _ (record { ranked = λ n x. refl; first = λ x. tt; next = λ n x y a. a; fits = λ n x low f. f }) (omega arith)
    (list_in_turn bucket ProfFits IsProfBefore 5 6 _ (record { ranked = λ n x. refl; first = λ x. tt; next = λ n x y a. a; fits = λ n x low f. f }) (omega arith) end_in_turn
    r.profile fits.profile profile count_p) r.totals fits.totals totals count_t) r.sweeps fits.sweeps sweeps count_s) r.journal fits.journal (apart_any r.journal) count_j) r.answers fits.answers (apart_any r.answers) count_a None (omega arith)) where
      long_text : (ls : List (List ℕ)) → length ls ≤ length (text ls)
      long_text [] = omega arith
      long_text (l ∷ ls) = let more = long_text ls in let one = length-append l (10 ∷ []) in let all = length-append (l ++ 10 ∷ []) (text ls) in omega arith

      count : {X : Type 0} (line : ℕ → X → List ℕ) (n : ℕ) (xs : List X) (rest : List (List ℕ)) → length (numbered line n xs ++ rest) ≡ length xs + length rest
      count line n [] rest = omega arith
      count line n (x ∷ xs) rest = let more = count line (n + 1) xs rest in omega arith

      few : length (numbered answer_line 0 r.answers ++ from_journal r) < 2 ^ 64
      few = let long = long_text (numbered answer_line 0 r.answers ++ from_journal r) in let same = ap length (all_numbered r) in omega arith

      all : length r.answers + (length r.journal + (length r.sweeps + (length r.totals + (length r.profile + 1)))) < 2 ^ 64
      all =
          let a = count answer_line 0 r.answers (from_journal r) in
          let j = count journal_line 0 r.journal (from_sweeps r) in
          let s = count (λ _ note. sweep_line note) 0 r.sweeps (from_totals r) in
          let t = count (λ _ total. total_line total) 0 r.totals (from_profile r) in
          let p = count (λ _ prof. profile_line prof) 0 r.profile (line_for End ∷ []) in
          let f = few in
          omega arith

      count_a : length r.answers ≤ 2 ^ 64
      count_a = let f = all in omega arith

      count_j : length r.journal ≤ 2 ^ 64
      count_j = let f = all in omega arith

      count_s : length r.sweeps ≤ 2 ^ 64
      count_s = let f = all in omega arith

      count_t : length r.totals ≤ 2 ^ 64
      count_t = let f = all in omega arith

      count_p : length r.profile ≤ 2 ^ 64
      count_p = let f = all in omega arith

-- ---- one more

pub in_turn_more : (before : Option Item) (xs : List Item) (x : Item) → AreInTurn before xs → ItemFits x → MayFollow (last_of before xs) x → AreInTurn before (xs ++ x ∷ [])
in_turn_more before [] x turn fits follows = (fits, follows, tt)
in_turn_more before (y ∷ ys) x turn fits follows = (turn.0, turn.1, in_turn_more (Some y) ys x turn.2 fits follows)

pub last_of_more : (before : Option Item) (xs : List Item) (x : Item) → last_of before (xs ++ x ∷ []) ≡ Some x
last_of_more before [] x = refl
last_of_more before (y ∷ ys) x = last_of_more (Some y) ys x

pub items_more : {X : Type 0} (make : ℕ → X → Item) (n : ℕ) (xs : List X) (x : X) → items make n (xs ++ x ∷ []) ≡ items make n xs ++ make (n + length xs) x ∷ []
items_more make n [] x = let e : n ≡ n + 0 = omega arith in ap (λ (m : ℕ). make m x ∷ []) e
items_more make n (y ∷ ys) x = let e : n + 1 + length ys ≡ n + length (y ∷ ys) = omega arith in ap (λ (zs : List Item). make n y ∷ zs) (items_more make (n + 1) ys x ∙ ap (λ (m : ℕ). items make (n + 1) ys ++ make m x ∷ []) e)
