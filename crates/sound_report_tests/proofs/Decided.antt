-- A test that decides which rules a report meets.
use Rattle.std.proofs.Common.{◌≡◌, ℕ, zero, suc, ◌+◌, ◌≤◌, ◌<◌, max, Bool, true, false, not, ◌&&◌, ◌||◌, leb, eqb, List, [], ◌∷◌, length, map, reverse, refl, sym, ◌∙◌, ap, ap₂, subst, arith, inl, inr, Decides, ◌↔◌, ne_eqb}
use Rattle.std.specs.List.{AllZip}
use Rattle.std.proofs.lemmas.Bool.{false≢true, leb-true, le-leb}
use Rattle.std.proofs.lemmas.Bool.Decides.{Decides-like, Decides-eqb, Decides-not}
use Rattle.page_bitmap.specs.declared.line.Line.{Line}
use Rattle.page_alloc.specs.Lists.{In}
use Rattle.page_alloc.specs.Lives.{Life, open_lives}
use Rattle.page_alloc.specs.Blocks.{open_blocks}
use Rattle.page_alloc.specs.Journal.{at_end, LegalFor, IsBy}
use Rattle.trace_reader.specs.declared.trace.Trace.{Trace}
use Rattle.trace_reader.specs.declared.trace.Cycle.{Cycle}
use Rattle.cycle_history.specs.declared.Answer.{Answer}
use Rattle.cycle_history.specs.declared.Answer.TheVariants.{Placed, Zero, Missed}
use Rattle.cycle_history.specs.declared.Report.{Report}
use Rattle.cycle_history.specs.Requests.{Request, requests_of, spans_after, marked_by, last_cycle, region_of, caching_procs}
use Rattle.cycle_history.specs.Objects.{Object, is_placed, live}
use Rattle.cycle_history.specs.Rules.{IsObject, AreAnswered, AreMissed, AreSeated, AreApart, AreFilled}
use Rattle.cycle_history.specs.Sweeps.{AreSwept, AreTotals}
use Rattle.cycle_history.specs.Sound.{past_in, HasAnswers, HasJournal, HasProfile}
use Rattle.cycle_history.specs.Broken.{MeetsUpTo, MeetsRules}
use Rattle.sound_report_tests.proofs.Tests.{Decides-then, Decides-given}
use Rattle.sound_report_tests.proofs.Journals.{is_legal, Decides-legal, is_by, Decides-by, has_no_blocks, Decides-no_blocks}
use Rattle.sound_report_tests.proofs.Misses.{are_missed, Decides-missed}
use Rattle.sound_report_tests.proofs.Places.{sits_in, IsBounded, are_seated, Decides-are_seated}
use Rattle.sound_report_tests.proofs.Apart.{are_apart, Decides-are_apart}
use Rattle.sound_report_tests.proofs.Filled.{are_filled, Decides-filled}
use Rattle.sound_report_tests.proofs.Swept.{are_swept, Decides-swept}
use Rattle.sound_report_tests.proofs.Totals.{are_totals, Decides-totals}
use Rattle.sound_report_tests.proofs.Recounted.{swept-alike, totals-alike}
use Rattle.sound_report_tests.proofs.Profiled.{has_profile, Decides-profile, profile-alike}
use Rattle.sound_report_tests.proofs.Needs.{need_for-is}
use Rattle.sound_report_tests.proofs.Alike.{object_for, put_at, first_seat, seated_objects, IsLike, IsSame, answered-like, seated-same, from_right, missed-alike, apart-alike, seated-alike, filled-alike}

-- ---- answers

abbrev pub agrees : ℕ → Answer → Bool
agrees size (Placed address) = not (eqb size 0)
agrees size Zero = eqb size 0
agrees size (Missed line) = not (eqb size 0)

Decides-agrees : (size : ℕ) (answer : Answer) → Decides (agrees size answer) ((answer ≡ Zero) ↔ (size ≡ 0))
Decides-agrees size (Placed address) =
    Decides-like (not (eqb size 0)) (λ (h : size ≡ 0 → ⊥). ((λ e. cc), (λ e. absurd (h e)))) (λ iff. λ e. (let z = iff.1 e in let none : ⊥ = cc in none)) (Decides-not (eqb size 0) (Decides-eqb size 0))
Decides-agrees size Zero = Decides-like (eqb size 0) (λ (e : size ≡ 0). ((λ z. e), (λ z. refl))) (λ iff. iff.0 refl) (Decides-eqb size 0)
Decides-agrees size (Missed line) =
    Decides-like (not (eqb size 0)) (λ (h : size ≡ 0 → ⊥). ((λ e. cc), (λ e. absurd (h e)))) (λ iff. λ e. (let z = iff.1 e in let none : ⊥ = cc in none)) (Decides-not (eqb size 0) (Decides-eqb size 0))

abbrev pub are_answered : List Request → List Answer → Bool
are_answered [] [] = true
are_answered [] (answer ∷ answers) = false
are_answered (r ∷ requests) [] = false
are_answered (r ∷ requests) (answer ∷ answers) = elim (agrees r.event.size answer) [ true ↦ are_answered requests answers | false ↦ false ]

abbrev answers_in : List Object → List Answer
answers_in objects = map (λ (o : Object). o.answer) objects

first-object : (r : Request) (n : ℕ) (b : Object) (lives : List Life) → IsObject r n b → IsObject r n (first_seat b lives)
first-object r n b [] is = is
first-object r n b (life ∷ lives) is = by (sits_in b life) (first-object r n b lives is)
  where
    by : (test : Bool) → IsObject r n (first_seat b lives) → IsObject r n (elim test [ true ↦ put_at b life | false ↦ first_seat b lives ])
    by true rest = record { id = is.id; proc = is.proc; cycle = is.cycle; zero = is.zero; need = is.need }
    by false rest = rest

first-answer : (b : Object) (lives : List Life) → (first_seat b lives).answer ≡ b.answer
first-answer b [] = refl
first-answer b (life ∷ lives) = by (sits_in b life) (first-answer b lives)
  where
    by : (test : Bool) → (first_seat b lives).answer ≡ b.answer → (elim test as (λ x. Object) [ true ↦ put_at b life | false ↦ first_seat b lives ]).answer ≡ b.answer
    by true rest = refl
    by false rest = rest

abbrev AreSo : List Line → List Request → List Answer → Type 0
AreSo past requests answers = AreAnswered requests (seated_objects past requests answers) × (answers_in (seated_objects past requests answers) ≡ answers)

Decides-answered : (past : List Line) (requests : List Request) (answers : List Answer) → Decides (are_answered requests answers) (AreSo past requests answers)
Decides-answered past [] [] = (λ h. (tt, refl), λ h. refl)
Decides-answered past [] (answer ∷ answers) = (λ h. absurd (false≢true h), λ h. let e = h.1 in cc)
Decides-answered past (r ∷ requests) [] = (λ h. absurd (false≢true h), λ h. absurd h.0)
Decides-answered past (r ∷ requests) (answer ∷ answers) =
    let b = object_for r (length requests) answer in
    let lives = open_lives (at_end r.cycle past) in
    let kept = first-answer b lives in
    Decides-like (are_answered (r ∷ requests) (answer ∷ answers))
    (λ (h : ((answer ≡ Zero) ↔ (r.event.size ≡ 0)) × AreSo past requests answers).
    ((first-object r (length requests) b lives (record { id = refl; proc = refl; cycle = refl; zero = h.0; need = λ some. need_for-is r.event.size r.event.scan }), h.1.0), ap₂ (λ (x : Answer) (xs : List Answer). x ∷ xs) kept h.1.1))
    (λ h. (
      (λ z. h.0.0.zero.0 (kept ∙ z), λ none. sym kept ∙ h.0.0.zero.1 none),
      (h.0.1, ap tail_of h.1),
    ))
    (Decides-then (agrees r.event.size answer) (are_answered requests answers) (Decides-agrees r.event.size answer) (Decides-answered past requests answers))
  where
    tail_of : List Answer → List Answer
    tail_of [] = []
    tail_of (x ∷ xs) = xs

answered-true : (requests : List Request) (objects : List Object) → AreAnswered requests objects → are_answered requests (answers_in objects) ≡ true
answered-true [] [] is = refl
answered-true [] (o ∷ objects) is = absurd is
answered-true (r ∷ requests) [] is = absurd is
answered-true (r ∷ requests) (o ∷ objects) is =
    (Decides-then (agrees r.event.size o.answer) (are_answered requests (answers_in objects)) (Decides-agrees r.event.size o.answer) (λ h. h, λ h. h)).1 (is.0.zero, answered-true requests objects is.1)

-- ---- bounds

spans-none : (c : ℕ) (cycles : List Cycle) → length cycles ≤ c → spans_after c cycles ≡ []
spans-none zero [] le = refl
spans-none (suc c) [] le = refl
spans-none zero (cycle ∷ cycles) le = absurd (omega arith)
spans-none (suc c) (cycle ∷ cycles) le = spans-none c cycles (omega arith)

unmarked-late : (t : Trace) (m id : ℕ) → length t.cycles < m → marked_by t m id ≡ false
unmarked-late t zero id lt = refl
unmarked-late t (suc m) id lt = rw (spans-none m t.cycles (omega arith)) refl

-- a cycle after all marks and all objects
abbrev pub bound_of : ℕ → List Object → ℕ
bound_of n [] = n
bound_of n (o ∷ objects) = max (o.cycle + 1) (bound_of n objects)

bound-over : (n : ℕ) (objects : List Object) (o : Object) → In o objects → o.cycle < bound_of n objects
bound-over n [] o i = absurd i
bound-over n (x ∷ objects) o i = elim i [
  | inl here ↦ (let e : x.cycle ≡ o.cycle = ap (λ (y : Object). y.cycle) here in omega arith)
  | inr there ↦ (let rest = bound-over n objects o there in omega arith)
]

bound-least : (n : ℕ) (objects : List Object) → n ≤ bound_of n objects
bound-least n [] = omega arith
bound-least n (x ∷ objects) = let rest = bound-least n objects in omega arith

dead_late : (t : Trace) (bound : ℕ) (o : Object) → length t.cycles + 1 ≤ bound → o.cycle < bound → (c : ℕ) → bound ≤ c → live (marked_by t) c o ≡ false
dead_late t bound o low lt c le =
    let unmarked : marked_by t c o.id ≡ false = unmarked-late t c o.id (omega arith) in
    let other : eqb o.cycle c ≡ false = ne_eqb o.cycle c (λ e. absurd (omega arith)) in
    by (is_placed o.answer) (eqb o.cycle c) (marked_by t c o.id) other unmarked
  where
    by : (p x y : Bool) → x ≡ false → y ≡ false → (p && (x || y)) ≡ false
    by true x y ex ey = rw (ex, ey) refl
    by false x y ex ey = refl

all-bounded : (t : Trace) (os cs : List Object) → AllZip IsLike os cs → (c : Object) → In c cs → IsBounded (marked_by t) (bound_of (length t.cycles + 1) cs) c
all-bounded t os cs like c i =
    let o = from_right IsLike os cs like c i in
    record {
      slot = λ placed. o.2.slot (λ z. (let e : is_placed c.answer ≡ false = ap is_placed z in let none : ⊥ = cc in none));
      late = dead_late t (bound_of (length t.cycles + 1) cs) c (bound-least (length t.cycles + 1) cs) (bound-over (length t.cycles + 1) cs c i);
    }

-- ---- the rules up to a number

asked-le : {Q : Type 0} (k n : ℕ) (b : Bool) → (k ≤ n → Decides b Q) → Decides (elim (leb k n) [ true ↦ b | false ↦ true ]) (k ≤ n → Q)
asked-le {Q} k n b d = by (leb k n) (λ e. leb-true k n e) (λ le. le-leb k n le)
  where
    by : (a : Bool) → (a ≡ true → k ≤ n) → (k ≤ n → a ≡ true) → Decides (elim a [ true ↦ b | false ↦ true ]) (k ≤ n → Q)
    by true to from = (λ h le. (d le).0 h, λ f. (d (to refl)).1 (f (to refl)))
    by false to from = (λ h le. absurd (false≢true (from le)), λ f. refl)

abbrev pub objects_in : Trace → Report → List Object
objects_in t report = seated_objects (past_in report) (requests_of t) (reverse report.answers)

abbrev pub meets_answers : ℕ → Trace → Report → Bool
meets_answers n t report = elim (leb 1 n) [ true ↦ are_answered (requests_of t) (reverse report.answers) | false ↦ true ]

abbrev pub is_settled : Trace → Report → Bool
is_settled t report = elim (is_legal (caching_procs t) (region_of t) t.header.goal (past_in report)) [ true ↦ has_no_blocks (open_blocks (past_in report)) | false ↦ false ]

abbrev pub has_journal : Trace → Report → Bool
has_journal t report = elim (is_by (last_cycle t) (past_in report)) [ true ↦ is_settled t report | false ↦ false ]

abbrev pub meets_journal : ℕ → Trace → Report → Bool
meets_journal n t report = elim (leb 2 n) [ true ↦ has_journal t report | false ↦ true ]

abbrev pub meets_misses : ℕ → Report → List Object → Bool
meets_misses n report cs = elim (leb 3 n) [ true ↦ are_missed (past_in report) cs | false ↦ true ]

abbrev pub meets_places : ℕ → Trace → Report → List Object → Bool
meets_places n t report cs = elim (leb 4 n) [ true ↦ are_seated (marked_by t) (bound_of (length t.cycles + 1) cs) (past_in report) cs | false ↦ true ]

abbrev pub meets_apart : ℕ → Trace → List Object → Bool
meets_apart n t cs = elim (leb 5 n) [ true ↦ are_apart (marked_by t) (bound_of (length t.cycles + 1) cs) cs | false ↦ true ]

abbrev pub meets_filling : ℕ → Trace → List Object → Bool
meets_filling n t cs = elim (leb 6 n) [ true ↦ are_filled (marked_by t) cs | false ↦ true ]

abbrev pub meets_sweeps : ℕ → Trace → Report → List Object → Bool
meets_sweeps n t report cs = elim (leb 7 n) [ true ↦ are_swept (marked_by t) (last_cycle t) (past_in report) cs report.sweeps | false ↦ true ]

abbrev pub meets_totals : ℕ → Trace → Report → List Object → Bool
meets_totals n t report cs = elim (leb 8 n) [ true ↦ are_totals (marked_by t) (last_cycle t) cs report.totals | false ↦ true ]

abbrev pub meets_profile : ℕ → Trace → Report → List Object → Bool
meets_profile n t report cs = elim (leb 9 n) [ true ↦ has_profile t report cs | false ↦ true ]

-- the rules 6 to 9
abbrev pub meets_last : ℕ → Trace → Report → List Object → Bool
meets_last n t report cs = elim (meets_filling n t cs) [ true ↦ elim (meets_sweeps n t report cs) [ true ↦ elim (meets_totals n t report cs) [ true ↦ meets_profile n t report cs | false ↦ false ] | false ↦ false ] | false ↦ false ]

-- the rules 3 to 9
abbrev pub meets_rest : ℕ → Trace → Report → List Object → Bool
meets_rest n t report cs = elim (meets_misses n report cs) [ true ↦ elim (meets_places n t report cs) [ true ↦ elim (meets_apart n t cs) [ true ↦ meets_last n t report cs | false ↦ false ] | false ↦ false ] | false ↦ false ]

abbrev pub meets : ℕ → Trace → Report → Bool
meets n t report = elim (meets_answers n t report) [ true ↦ elim (meets_journal n t report) [ true ↦ meets_rest n t report (objects_in t report) | false ↦ false ] | false ↦ false ]

Decides-has_answers : (t : Trace) (report : Report) → Decides (are_answered (requests_of t) (reverse report.answers)) (HasAnswers t report (objects_in t report))
Decides-has_answers t report =
    Decides-like (are_answered (requests_of t) (reverse report.answers))
    (λ (h : AreSo (past_in report) (requests_of t) (reverse report.answers)). record { asked = h.0; printed = h.1 })
    (λ h. (h.asked, h.printed))
    (Decides-answered (past_in report) (requests_of t) (reverse report.answers))

Decides-has_journal : (t : Trace) (report : Report) → Decides (has_journal t report) (HasJournal t report)
Decides-has_journal t report =
    Decides-like (has_journal t report)
    (λ (h : IsBy (last_cycle t) (past_in report) × (LegalFor (caching_procs t) (region_of t) t.header.goal (past_in report) × (open_blocks (past_in report) ≡ []))).
    record { legal = h.1.0; cycles = h.0; settled = h.1.1 })
    (λ h. (h.cycles, (h.legal, h.settled)))
    (Decides-then (is_by (last_cycle t) (past_in report)) (is_settled t report) (Decides-by (last_cycle t) (past_in report))
    (Decides-then (is_legal (caching_procs t) (region_of t) t.header.goal (past_in report)) (has_no_blocks (open_blocks (past_in report)))
    (Decides-legal (caching_procs t) (region_of t) t.header.goal (past_in report)) (Decides-no_blocks (open_blocks (past_in report)))))

bounded-in : (t : Trace) (report : Report) → HasAnswers t report (objects_in t report) → (c : Object) → In c (objects_in t report) → IsBounded (marked_by t) (bound_of (length t.cycles + 1) (objects_in t report)) c
bounded-in t report has =
    let cs = objects_in t report in
    let like : AllZip IsLike cs (seated_objects (past_in report) (requests_of t) (answers_in cs)) = answered-like (past_in report) (requests_of t) cs has.asked in
    all-bounded t cs cs (subst (λ (answers : List Answer). AllZip IsLike cs (seated_objects (past_in report) (requests_of t) answers)) has.printed like)

abbrev LastRules : ℕ → Trace → Report → List Object → Type 0
LastRules n t report cs = (6 ≤ n → AreFilled (marked_by t) cs) × ((7 ≤ n → AreSwept (marked_by t) (last_cycle t) (past_in report) cs report.sweeps)
    × ((8 ≤ n → AreTotals (marked_by t) (last_cycle t) cs report.totals) × (9 ≤ n → HasProfile t report cs)))

Decides-last : (n : ℕ) (t : Trace) (report : Report) (cs : List Object) → (1 ≤ n → HasAnswers t report cs) → Decides (meets_last n t report cs) (LastRules n t report cs)
Decides-last n t report cs has =
    Decides-then (meets_filling n t cs) (elim (meets_sweeps n t report cs) [ true ↦ elim (meets_totals n t report cs) [ true ↦ meets_profile n t report cs | false ↦ false ] | false ↦ false ])
    (asked-le 6 n (are_filled (marked_by t) cs) (λ le. Decides-filled (marked_by t) cs))
    (Decides-then (meets_sweeps n t report cs) (elim (meets_totals n t report cs) [ true ↦ meets_profile n t report cs | false ↦ false ])
    (asked-le 7 n (are_swept (marked_by t) (last_cycle t) (past_in report) cs report.sweeps) (λ le. Decides-swept (marked_by t) (last_cycle t) (past_in report) cs report.sweeps))
    (Decides-then (meets_totals n t report cs) (meets_profile n t report cs)
    (asked-le 8 n (are_totals (marked_by t) (last_cycle t) cs report.totals) (λ le. Decides-totals (marked_by t) (last_cycle t) cs report.totals))
    (asked-le 9 n (has_profile t report cs) (λ le. Decides-profile t report cs (has (omega arith))))))

pub Decides-meets_up_to : (n : ℕ) (t : Trace) (report : Report) → Decides (meets n t report) (MeetsUpTo n t report (objects_in t report))
Decides-meets_up_to n t report =
    let cs = objects_in t report in
    let past = past_in report in
    let bound = bound_of (length t.cycles + 1) cs in
    Decides-like (meets n t report)
    (λ (h : (1 ≤ n → HasAnswers t report cs) × ((2 ≤ n → HasJournal t report) × ((3 ≤ n → AreMissed past cs) × ((4 ≤ n → AreSeated (marked_by t) past cs) × ((5 ≤ n → AreApart (marked_by t) cs) × LastRules n t report cs))))).
    record { answers = h.0; journal = h.1.0; misses = h.1.1.0; places = h.1.1.1.0; apart = h.1.1.1.1.0; filling = h.1.1.1.1.1.0; sweeps = h.1.1.1.1.1.1.0; totals = h.1.1.1.1.1.1.1.0; profile = h.1.1.1.1.1.1.1.1 })
    (λ h. (h.answers, (h.journal, (h.misses, (h.places, (h.apart, (h.filling, (h.sweeps, (h.totals, h.profile)))))))))
    (Decides-given (meets_answers n t report) (elim (meets_journal n t report) [ true ↦ meets_rest n t report cs | false ↦ false ])
    (asked-le 1 n (are_answered (requests_of t) (reverse report.answers)) (λ le. Decides-has_answers t report))
    (λ has. Decides-then (meets_journal n t report) (meets_rest n t report cs)
    (asked-le 2 n (has_journal t report) (λ le. Decides-has_journal t report))
    (Decides-then (meets_misses n report cs) (elim (meets_places n t report cs) [ true ↦ elim (meets_apart n t cs) [ true ↦ meets_last n t report cs | false ↦ false ] | false ↦ false ])
    (asked-le 3 n (are_missed past cs) (λ le. Decides-missed past cs))
    (Decides-then (meets_places n t report cs) (elim (meets_apart n t cs) [ true ↦ meets_last n t report cs | false ↦ false ])
    (asked-le 4 n (are_seated (marked_by t) bound past cs) (λ le. Decides-are_seated (marked_by t) bound past cs (bounded-in t report (has (omega arith)))))
    (Decides-then (meets_apart n t cs) (meets_last n t report cs)
    (asked-le 5 n (are_apart (marked_by t) bound cs) (λ le. Decides-are_apart (marked_by t) bound cs (bounded-in t report (has (omega arith)))))
    (Decides-last n t report cs has))))))

-- what some objects meet, those with the seats that the addresses give meet too
pub meets-seated : (n : ℕ) (t : Trace) (report : Report) (objects : List Object) → MeetsUpTo n t report objects → MeetsUpTo n t report (objects_in t report)
meets-seated n t report objects m =
    let past = past_in report in
    let requests = requests_of t in
    let like : 1 ≤ n → AllZip IsLike objects (objects_in t report) = λ le. (let has = m.answers le in
    subst (λ (answers : List Answer). AllZip IsLike objects (seated_objects past requests answers)) has.printed (answered-like past requests objects has.asked)) in
    let same : 4 ≤ n → AllZip IsSame objects (objects_in t report) = λ le. (let has = m.answers (omega arith) in
    subst (λ (answers : List Answer). AllZip IsSame objects (seated_objects past requests answers)) has.printed (seated-same (marked_by t) past requests objects has.asked (m.places le))) in
    record {
      answers = λ le. (let has = m.answers le in
          let test : are_answered requests (reverse report.answers) ≡ true = subst (λ (answers : List Answer). are_answered requests answers ≡ true) has.printed (answered-true requests objects has.asked) in
          (Decides-has_answers t report).0 test);
      journal = m.journal;
      misses = λ le. missed-alike past objects (objects_in t report) (like (omega arith)) (m.misses le);
      places = λ le. seated-alike (marked_by t) past objects (objects_in t report) (same le) (m.places le);
      apart = λ le. apart-alike (marked_by t) objects (objects_in t report) (like (omega arith)) (m.apart le);
      filling = λ le. filled-alike (marked_by t) objects (objects_in t report) (same (omega arith)) (m.filling le);
      sweeps = λ le. swept-alike (marked_by t) (last_cycle t) past objects (objects_in t report) report.sweeps (same (omega arith)) (m.sweeps le);
      totals = λ le. totals-alike (marked_by t) (last_cycle t) objects (objects_in t report) report.totals (same (omega arith)) (m.totals le);
      profile = λ le. profile-alike t report objects (objects_in t report) (like (omega arith)) (m.profile le);
    }

pub Decides-meets : (n : ℕ) (t : Trace) (report : Report) → Decides (meets n t report) (MeetsRules n t report)
Decides-meets n t report =
    let d = Decides-meets_up_to n t report in
    (λ h. (objects_in t report, d.0 h), λ m. d.1 (meets-seated n t report m.0 m.1))
