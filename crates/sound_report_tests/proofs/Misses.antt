-- A test of rule 3.
use Rattle.std.proofs.Common.{◌≡◌, ℕ, Bool, true, false, eqb, List, [], ◌∷◌, length, refl, sym, Decides}
use Rattle.std.proofs.lemmas.Bool.{false≢true}
use Rattle.std.proofs.lemmas.Bool.Decides.{Decides-like, Decides-eqb}
use Rattle.page_bitmap.specs.declared.line.Line.{Line}
use Rattle.page_bitmap.specs.declared.line.Line.TheVariants.{Take, Miss, Give, Scav, Pull, Cut, Drop}
use Rattle.page_alloc.specs.Lists.{In, IsNumber}
use Rattle.cycle_history.specs.declared.Answer.{Answer}
use Rattle.cycle_history.specs.declared.Answer.TheVariants.{Placed, Zero, Missed}
use Rattle.cycle_history.specs.Objects.{Object}
use Rattle.cycle_history.specs.Rules.{NamesMiss, AreMissed}
use Rattle.sound_report_tests.proofs.Tests.{Decides-then, Decides-else, Decides-implies, all_in, Decides-all}

abbrev pub is_miss : ℕ → ℕ → ℕ → Line → Bool
is_miss c p k (Take cycle page pages class) = false
is_miss c p k (Miss cycle pages class) = elim (eqb cycle c) [ true ↦ elim (eqb pages p) [ true ↦ eqb class k | false ↦ false ] | false ↦ false ]
is_miss c p k (Give cycle page pages) = false
is_miss c p k (Scav cycle page pages) = false
is_miss c p k (Pull cycle proc page pages) = false
is_miss c p k (Cut cycle proc page pages class) = false
is_miss c p k (Drop cycle proc page pages) = false

Decides-miss : (c p k : ℕ) (line : Line) → Decides (is_miss c p k line) (line ≡ Miss c p k)
Decides-miss c p k (Take cycle page pages class) = (λ h. absurd (false≢true h), λ e. cc)
Decides-miss c p k (Miss cycle pages class) =
    Decides-like (is_miss c p k (Miss cycle pages class)) (λ (h : (cycle ≡ c) × ((pages ≡ p) × (class ≡ k))). let e1 = h.0 in let e2 = h.1.0 in let e3 = h.1.1 in cc) (λ e. (cc, (cc, cc)))
    (Decides-then (eqb cycle c) (elim (eqb pages p) [ true ↦ eqb class k | false ↦ false ]) (Decides-eqb cycle c) (Decides-then (eqb pages p) (eqb class k) (Decides-eqb pages p) (Decides-eqb class k)))
Decides-miss c p k (Give cycle page pages) = (λ h. absurd (false≢true h), λ e. cc)
Decides-miss c p k (Scav cycle page pages) = (λ h. absurd (false≢true h), λ e. cc)
Decides-miss c p k (Pull cycle proc page pages) = (λ h. absurd (false≢true h), λ e. cc)
Decides-miss c p k (Cut cycle proc page pages class) = (λ h. absurd (false≢true h), λ e. cc)
Decides-miss c p k (Drop cycle proc page pages) = (λ h. absurd (false≢true h), λ e. cc)

abbrev pub is_here : ℕ → (Line → Bool) → Line → List Line → Bool
is_here n test newest past = elim (eqb (length past) n) [ true ↦ test newest | false ↦ false ]

abbrev pub is_number : ℕ → (Line → Bool) → List Line → Bool
is_number n test [] = false
is_number n test (newest ∷ past) = elim (is_here n test newest past) [ true ↦ true | false ↦ is_number n test past ]

Decides-number : (n : ℕ) (test : Line → Bool) (x : Line) → ((line : Line) → Decides (test line) (line ≡ x)) → (past : List Line) → Decides (is_number n test past) (IsNumber n x past)
Decides-number n test x each [] = (λ h. absurd (false≢true h), λ h. absurd h)
Decides-number n test x each (newest ∷ past) =
    Decides-else (is_here n test newest past) (is_number n test past)
    (Decides-then (eqb (length past) n) (test newest) (Decides-eqb (length past) n) (each newest))
    (Decides-number n test x each past)

abbrev pub names_miss : List Line → ℕ → ℕ → ℕ → Answer → Bool
names_miss past c p k (Placed address) = true
names_miss past c p k Zero = true
names_miss past c p k (Missed line) = is_number line (is_miss c p k) past

Decides-names : (past : List Line) (c p k : ℕ) (answer : Answer) → Decides (names_miss past c p k answer) ((line : ℕ) → answer ≡ Missed line → IsNumber line (Miss c p k) past)
Decides-names past c p k (Placed address) = (λ h line e. let none : ⊥ = cc in absurd none, λ h. refl)
Decides-names past c p k Zero = (λ h line e. let none : ⊥ = cc in absurd none, λ h. refl)
Decides-names past c p k (Missed line) =
    Decides-like (is_number line (is_miss c p k) past) (λ (h : IsNumber line (Miss c p k) past). λ other e. (let same : line ≡ other = cc in rw (sym same) h)) (λ f. f line refl)
    (Decides-number line (is_miss c p k) (Miss c p k) (Decides-miss c p k) past)

abbrev pub is_missed : ℕ → Answer → Bool
is_missed line (Placed address) = false
is_missed line Zero = false
is_missed line (Missed other) = eqb line other

abbrev pub same_miss : Answer → Answer → Bool
same_miss (Placed address) other = false
same_miss Zero other = false
same_miss (Missed line) other = is_missed line other

abbrev NameOne : Answer → Answer → Type 0
NameOne x y = (line : ℕ) × (x ≡ Missed line) × (y ≡ Missed line)

Decides-same_miss : (x y : Answer) → Decides (same_miss x y) (NameOne x y)
Decides-same_miss (Placed address) y = (λ h. absurd (false≢true h), λ h. let e = h.1 in cc)
Decides-same_miss Zero y = (λ h. absurd (false≢true h), λ h. let e = h.1 in cc)
Decides-same_miss (Missed line) (Placed address) = (λ h. absurd (false≢true h), λ h. let e = h.2 in cc)
Decides-same_miss (Missed line) Zero = (λ h. absurd (false≢true h), λ h. let e = h.2 in cc)
Decides-same_miss (Missed line) (Missed other) =
    Decides-like (eqb line other) (λ (e : line ≡ other). (line, refl, cc)) (λ h. let e1 = h.1 in let e2 = h.2 in cc) (Decides-eqb line other)

abbrev pub once_test : Object → Object → Bool
once_test a b = elim (same_miss a.answer b.answer) [ true ↦ eqb a.id b.id | false ↦ true ]

abbrev Once : Object → Object → Type 0
Once a b = NameOne a.answer b.answer → a.id ≡ b.id

abbrev pub are_missed : List Line → List Object → Bool
are_missed past objects = elim (all_in (λ o. names_miss past o.cycle o.need.pages o.need.class o.answer) objects) [ true ↦ all_in (λ a. all_in (once_test a) objects) objects | false ↦ false ]

pub Decides-missed : (past : List Line) (objects : List Object) → Decides (are_missed past objects) (AreMissed past objects)
Decides-missed past objects =
    Decides-like (are_missed past objects)
    (λ (h : ((o : Object) → In o objects → NamesMiss past o) × ((a : Object) → In a objects → (b : Object) → In b objects → Once a b)).
    record { named = h.0; once = λ a b line ha hb ea eb. h.1 a ha b hb (line, ea, eb) })
    (λ h. (h.named, λ a ha b hb one. h.once a b one.0 ha hb one.1 one.2))
    (Decides-then (all_in (λ o. names_miss past o.cycle o.need.pages o.need.class o.answer) objects) (all_in (λ a. all_in (once_test a) objects) objects)
    (Decides-all (λ o. names_miss past o.cycle o.need.pages o.need.class o.answer) (NamesMiss past) objects (λ o i. Decides-names past o.cycle o.need.pages o.need.class o.answer))
    (Decides-all (λ a. all_in (once_test a) objects) (λ a. (b : Object) → In b objects → Once a b) objects (λ a i.
    Decides-all (once_test a) (Once a) objects (λ b j. Decides-implies (same_miss a.answer b.answer) (eqb a.id b.id) (Decides-same_miss a.answer b.answer) (Decides-eqb a.id b.id)))))
