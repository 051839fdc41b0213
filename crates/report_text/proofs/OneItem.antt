-- A line is of at most one item of its kind, and each kind has a first letter of its own.
use Rattle.std.proofs.Common.{◌≡◌, ℕ, ◌^◌, ◌<◌, false, List, [], ◌∷◌, ◌++◌, drop, codes, decimal, refl, sym, ap, ◌∙◌, arith, append_assoc}
use Rattle.std.specs.Fmt.{digits}
use Rattle.page_bitmap.specs.declared.line.Line.{Line}
use Rattle.page_bitmap.specs.declared.line.Line.TheVariants.{Take, Miss, Give, Scav, Pull, Cut, Drop}
use Rattle.span_state.specs.declared.sweep.SweepNote.{SweepNote}
use Rattle.cycle_history.specs.declared.Answer.{Answer}
use Rattle.cycle_history.specs.declared.Answer.TheVariants.{Placed, Zero, Missed}
use Rattle.cycle_history.specs.declared.Total.{Total}
use Rattle.cycle_history.specs.declared.Prof.{Prof}
use Rattle.cycle_history.specs.Text.{answer_text, answer_line, journal_text, journal_line, sweep_line, total_line, profile_line}
use Rattle.report_text.specs.Unique.{AnswerFits, LineFits, SweepFits, TotalFits, ProfFits}
use Rattle.report_text.proofs.Fields.{same_behind, first_same, second_same, space-end, line-end, address-end, pair-end}

-- a kind of lines: each begins with its letter, and what is behind it and the item are read off a text
pub record Kind {X : Type 0} (line : ℕ → X → List ℕ) (Fits : X → Type 0) (letter : ℕ) : Type 0 where
  pub begins : (n : ℕ) (x : X) → (rest : List ℕ) × (line n x ≡ letter ∷ rest)
  pub one : (n : ℕ) (x y : X) (s t : List ℕ) → Fits x → Fits y → (line n x ++ 10 ∷ []) ++ s ≡ (line n y ++ 10 ∷ []) ++ t → (x ≡ y) × (s ≡ t)

pub same5 : {A B C D E X : Type 0} (made : A → B → C → D → E → X) (a a' : A) (b b' : B) (c c' : C) (d d' : D) (e e' : E) → a ≡ a' → b ≡ b' → c ≡ c' → d ≡ d' → e ≡ e'
    → made a b c d e ≡ made a' b' c' d' e'
same5 made a a' b b' c c' d d' e e' pa pb pc pd pe = cc

same4 : {X : Type 0} (made : ℕ → ℕ → ℕ → ℕ → X) (a a' b b' c c' d d' : ℕ) → a ≡ a' → b ≡ b' → c ≡ c' → d ≡ d' → made a b c d ≡ made a' b' c' d'
same4 made a a' b b' c c' d d' pa pb pc pd = cc

same3 : {X : Type 0} (made : ℕ → ℕ → ℕ → X) (a a' b b' c c' : ℕ) → a ≡ a' → b ≡ b' → c ≡ c' → made a b c ≡ made a' b' c'
same3 made a a' b b' c c' pa pb pc = cc

-- ---- answers

answer-end : (x y : Answer) (s t : List ℕ) → AnswerFits x → AnswerFits y → answer_text x ++ 10 ∷ s ≡ answer_text y ++ 10 ∷ t → (x ≡ y) × (s ≡ t)
answer-end (Placed a) (Placed b) s t fx fy e =
    let both = address-end a b s t fx fy (same_behind (codes " 0x") (digits 16 false a ++ 10 ∷ s) (digits 16 false b ++ 10 ∷ t) e) in
    (ap (λ (n : ℕ). Placed n) both.0, both.1)
answer-end (Placed a) Zero s t fx fy e = absurd (omega (arith, second_same 32 48 122 _ _ e))
answer-end (Placed a) (Missed n) s t fx fy e = absurd (omega (arith, second_same 32 48 109 _ _ e))
answer-end Zero (Placed b) s t fx fy e = absurd (omega (arith, second_same 32 122 48 _ _ e))
answer-end Zero Zero s t fx fy e = (refl, same_behind (codes " zero\n") s t e)
answer-end Zero (Missed n) s t fx fy e = absurd (omega (arith, second_same 32 122 109 _ _ e))
answer-end (Missed m) (Placed b) s t fx fy e = absurd (omega (arith, second_same 32 109 48 _ _ e))
answer-end (Missed m) Zero s t fx fy e = absurd (omega (arith, second_same 32 109 122 _ _ e))
answer-end (Missed m) (Missed n) s t fx fy e =
    let both = line-end m n s t fx fy (same_behind (codes " miss ") (decimal m ++ 10 ∷ s) (decimal n ++ 10 ∷ t) e) in
    (ap (λ (k : ℕ). Missed k) both.0, both.1)

pub answer-form : (number rest behind : List ℕ) → ((codes "o " ++ (number ++ (rest ++ []))) ++ 10 ∷ []) ++ behind ≡ codes "o " ++ (number ++ (rest ++ 10 ∷ behind))
answer-form number rest behind = simp append_assoc

-- ---- journal lines

abbrev cycle_in : Line → ℕ
cycle_in (Take cycle page pages class) = cycle
cycle_in (Miss cycle pages class) = cycle
cycle_in (Give cycle page pages) = cycle
cycle_in (Scav cycle page pages) = cycle
cycle_in (Pull cycle proc page pages) = cycle
cycle_in (Cut cycle proc page pages class) = cycle
cycle_in (Drop cycle proc page pages) = cycle

-- what stands behind the cycle and a space, with the line's end
abbrev behind_cycle : Line → List ℕ → List ℕ
behind_cycle (Take cycle page pages class) s = codes "take " ++ (decimal page ++ 32 ∷ (decimal pages ++ 32 ∷ (decimal class ++ 10 ∷ s)))
behind_cycle (Miss cycle pages class) s = codes "miss " ++ (decimal pages ++ 32 ∷ (decimal class ++ 10 ∷ s))
behind_cycle (Give cycle page pages) s = codes "give " ++ (decimal page ++ 32 ∷ (decimal pages ++ 10 ∷ s))
behind_cycle (Scav cycle page pages) s = codes "scav " ++ (decimal page ++ 32 ∷ (decimal pages ++ 10 ∷ s))
behind_cycle (Pull cycle proc page pages) s = codes "pull " ++ (decimal proc ++ 32 ∷ (decimal page ++ 32 ∷ (decimal pages ++ 10 ∷ s)))
behind_cycle (Cut cycle proc page pages class) s = codes "cut " ++ (decimal proc ++ 32 ∷ (decimal page ++ 32 ∷ (decimal pages ++ 32 ∷ (decimal class ++ 10 ∷ s))))
behind_cycle (Drop cycle proc page pages) s = codes "drop " ++ (decimal proc ++ 32 ∷ (decimal page ++ 32 ∷ (decimal pages ++ 10 ∷ s)))

-- the first letter of what was done
word_letter : Line → ℕ
word_letter (Take cycle page pages class) = 116
word_letter (Miss cycle pages class) = 109
word_letter (Give cycle page pages) = 103
word_letter (Scav cycle page pages) = 115
word_letter (Pull cycle proc page pages) = 112
word_letter (Cut cycle proc page pages class) = 99
word_letter (Drop cycle proc page pages) = 100

begins_word : (x : Line) (s : List ℕ) → (rest : List ℕ) × (behind_cycle x s ≡ word_letter x ∷ rest)
unfolding word_letter
begins_word (Take cycle page pages class) s = (drop 1 (behind_cycle (Take cycle page pages class) s), refl)
begins_word (Miss cycle pages class) s = (drop 1 (behind_cycle (Miss cycle pages class) s), refl)
begins_word (Give cycle page pages) s = (drop 1 (behind_cycle (Give cycle page pages) s), refl)
begins_word (Scav cycle page pages) s = (drop 1 (behind_cycle (Scav cycle page pages) s), refl)
begins_word (Pull cycle proc page pages) s = (drop 1 (behind_cycle (Pull cycle proc page pages) s), refl)
begins_word (Cut cycle proc page pages class) s = (drop 1 (behind_cycle (Cut cycle proc page pages class) s), refl)
begins_word (Drop cycle proc page pages) s = (drop 1 (behind_cycle (Drop cycle proc page pages) s), refl)

same_word : (x y : Line) (s t : List ℕ) → behind_cycle x s ≡ behind_cycle y t → word_letter x ≡ word_letter y
same_word x y s t e = first_same (word_letter x) (word_letter y) _ _ (sym (begins_word x s).1 ∙ e ∙ (begins_word y t).1)

four-form : (word a b c d e s : List ℕ) → (a ++ (32 ∷ word ++ (b ++ (32 ∷ (c ++ (32 ∷ (d ++ (32 ∷ (e ++ []))))))))) ++ 10 ∷ s ≡ a ++ 32 ∷ (word ++ (b ++ 32 ∷ (c ++ 32 ∷ (d ++ 32 ∷ (e ++ 10 ∷ s)))))
four-form word a b c d e s = simp append_assoc

three-form : (word a b c d s : List ℕ) → (a ++ (32 ∷ word ++ (b ++ (32 ∷ (c ++ (32 ∷ (d ++ []))))))) ++ 10 ∷ s ≡ a ++ 32 ∷ (word ++ (b ++ 32 ∷ (c ++ 32 ∷ (d ++ 10 ∷ s))))
three-form word a b c d s = simp append_assoc

two-form : (word a b c s : List ℕ) → (a ++ (32 ∷ word ++ (b ++ (32 ∷ (c ++ []))))) ++ 10 ∷ s ≡ a ++ 32 ∷ (word ++ (b ++ 32 ∷ (c ++ 10 ∷ s)))
two-form word a b c s = simp append_assoc

line-form : (line : Line) (s : List ℕ) → journal_text line ++ 10 ∷ s ≡ decimal (cycle_in line) ++ 32 ∷ behind_cycle line s
line-form (Take cycle page pages class) s = three-form (codes "take ") (decimal cycle) (decimal page) (decimal pages) (decimal class) s
line-form (Miss cycle pages class) s = two-form (codes "miss ") (decimal cycle) (decimal pages) (decimal class) s
line-form (Give cycle page pages) s = two-form (codes "give ") (decimal cycle) (decimal page) (decimal pages) s
line-form (Scav cycle page pages) s = two-form (codes "scav ") (decimal cycle) (decimal page) (decimal pages) s
line-form (Pull cycle proc page pages) s = three-form (codes "pull ") (decimal cycle) (decimal proc) (decimal page) (decimal pages) s
line-form (Cut cycle proc page pages class) s = four-form (codes "cut ") (decimal cycle) (decimal proc) (decimal page) (decimal pages) (decimal class) s
line-form (Drop cycle proc page pages) s = three-form (codes "drop ") (decimal cycle) (decimal proc) (decimal page) (decimal pages) s

behind-end : (x y : Line) (s t : List ℕ) → LineFits x → LineFits y → cycle_in x ≡ cycle_in y → behind_cycle x s ≡ behind_cycle y t → (x ≡ y) × (s ≡ t)
unfolding word_letter
behind-end (Take c p q k) (Take c' p' q' k') s t fx fy same e =
    let one = space-end p p' _ _ (omega (arith, fx.1)) (omega (arith, fy.1)) (same_behind (codes "take ") _ _ e) in
    let two = pair-end q q' k k' s t (omega (arith, fx.2)) (omega (arith, fy.2)) (omega (arith, fx.3)) (omega (arith, fy.3)) one.1 in
    let e1 = one.0 in let e2 = two.0 in let e3 = two.1 in
    (cc, two.2)
behind-end (Miss c q k) (Miss c' q' k') s t fx fy same e =
    let two = pair-end q q' k k' s t (omega (arith, fx.1)) (omega (arith, fy.1)) (omega (arith, fx.2)) (omega (arith, fy.2)) (same_behind (codes "miss ") _ _ e) in
    let e2 = two.0 in let e3 = two.1 in
    (cc, two.2)
behind-end (Give c p q) (Give c' p' q') s t fx fy same e =
    let two = pair-end p p' q q' s t (omega (arith, fx.1)) (omega (arith, fy.1)) (omega (arith, fx.2)) (omega (arith, fy.2)) (same_behind (codes "give ") _ _ e) in
    let e2 = two.0 in let e3 = two.1 in
    (cc, two.2)
behind-end (Scav c p q) (Scav c' p' q') s t fx fy same e =
    let two = pair-end p p' q q' s t (omega (arith, fx.1)) (omega (arith, fy.1)) (omega (arith, fx.2)) (omega (arith, fy.2)) (same_behind (codes "scav ") _ _ e) in
    let e2 = two.0 in let e3 = two.1 in
    (cc, two.2)
behind-end (Pull c o p q) (Pull c' o' p' q') s t fx fy same e =
    let one = space-end o o' _ _ (omega (arith, fx.1)) (omega (arith, fy.1)) (same_behind (codes "pull ") _ _ e) in
    let two = pair-end p p' q q' s t (omega (arith, fx.2)) (omega (arith, fy.2)) (omega (arith, fx.3)) (omega (arith, fy.3)) one.1 in
    let e1 = one.0 in let e2 = two.0 in let e3 = two.1 in
    (cc, two.2)
behind-end (Cut c o p q k) (Cut c' o' p' q' k') s t fx fy same e =
    let one = space-end o o' _ _ (omega (arith, fx.1)) (omega (arith, fy.1)) (same_behind (codes "cut ") _ _ e) in
    let two = space-end p p' _ _ (omega (arith, fx.2)) (omega (arith, fy.2)) one.1 in
    let three = pair-end q q' k k' s t (omega (arith, fx.3)) (omega (arith, fy.3)) (omega (arith, fx.4)) (omega (arith, fy.4)) two.1 in
    let e1 = one.0 in let e2 = two.0 in let e3 = three.0 in let e4 = three.1 in
    (cc, three.2)
behind-end (Drop c o p q) (Drop c' o' p' q') s t fx fy same e =
    let one = space-end o o' _ _ (omega (arith, fx.1)) (omega (arith, fy.1)) (same_behind (codes "drop ") _ _ e) in
    let two = pair-end p p' q q' s t (omega (arith, fx.2)) (omega (arith, fy.2)) (omega (arith, fx.3)) (omega (arith, fy.3)) one.1 in
    let e1 = one.0 in let e2 = two.0 in let e3 = two.1 in
    (cc, two.2)
behind-end x y s t fx fy same e = absurd (let apart = same_word x y s t e in omega arith)

cycle_fits : (line : Line) → LineFits line → cycle_in line < 2 ^ 64
cycle_fits (Take cycle page pages class) fits = omega (arith, fits.0)
cycle_fits (Miss cycle pages class) fits = omega (arith, fits.0)
cycle_fits (Give cycle page pages) fits = omega (arith, fits.0)
cycle_fits (Scav cycle page pages) fits = omega (arith, fits.0)
cycle_fits (Pull cycle proc page pages) fits = omega (arith, fits.0)
cycle_fits (Cut cycle proc page pages class) fits = omega (arith, fits.0)
cycle_fits (Drop cycle proc page pages) fits = omega (arith, fits.0)

journal-end : (x y : Line) (s t : List ℕ) → LineFits x → LineFits y → journal_text x ++ 10 ∷ s ≡ journal_text y ++ 10 ∷ t → (x ≡ y) × (s ≡ t)
journal-end x y s t fx fy e =
    let both = space-end (cycle_in x) (cycle_in y) (behind_cycle x s) (behind_cycle y t) (cycle_fits x fx) (cycle_fits y fy) (sym (line-form x s) ∙ e ∙ line-form y t) in
    behind-end x y s t fx fy both.0 both.1

pub journal-form : (number rest behind : List ℕ) → ((codes "j " ++ (number ++ (codes " " ++ (rest ++ [])))) ++ 10 ∷ []) ++ behind ≡ codes "j " ++ (number ++ 32 ∷ (rest ++ 10 ∷ behind))
journal-form number rest behind = simp append_assoc

-- ---- sweeps, totals, buckets

sweep-form : (a b c d s : List ℕ) → ((codes "s " ++ (a ++ (codes " " ++ (b ++ (codes " " ++ (c ++ (codes " " ++ (d ++ [])))))))) ++ 10 ∷ []) ++ s
    ≡ codes "s " ++ (a ++ 32 ∷ (b ++ 32 ∷ (c ++ 32 ∷ (d ++ 10 ∷ s))))
sweep-form a b c d s = simp append_assoc

total-form : (a b c s : List ℕ) → ((codes "t " ++ (a ++ (codes " " ++ (b ++ (codes " " ++ (c ++ [])))))) ++ 10 ∷ []) ++ s ≡ codes "t " ++ (a ++ 32 ∷ (b ++ 32 ∷ (c ++ 10 ∷ s)))
total-form a b c s = simp append_assoc

profile-form : (a b c d e s : List ℕ) → ((codes "p " ++ (a ++ (codes " " ++ (b ++ (codes " " ++ (c ++ (codes " " ++ (d ++ (codes " " ++ (e ++ [])))))))))) ++ 10 ∷ []) ++ s
    ≡ codes "p " ++ (a ++ 32 ∷ (b ++ 32 ∷ (c ++ 32 ∷ (d ++ 32 ∷ (e ++ 10 ∷ s)))))
profile-form a b c d e s = simp append_assoc

abbrev made_sweep : ℕ → ℕ → ℕ → ℕ → SweepNote
made_sweep cycle page kept freed = record { cycle = cycle; page = page; kept = kept; freed = freed }

abbrev made_total : ℕ → ℕ → ℕ → Total
made_total class mallocs frees = record { class = class; mallocs = mallocs; frees = frees }

abbrev made_prof : ℕ → ℕ → ℕ → ℕ → ℕ → Prof
made_prof mark stack size allocs frees = record { mark = mark; stack = stack; size = size; allocs = allocs; frees = frees }

sweep-end : (x y : SweepNote) (s t : List ℕ) → SweepFits x → SweepFits y → (sweep_line x ++ 10 ∷ []) ++ s ≡ (sweep_line y ++ 10 ∷ []) ++ t → (x ≡ y) × (s ≡ t)
sweep-end x y s t fx fy e =
    let split = sym (sweep-form (decimal x.cycle) (decimal x.page) (decimal x.kept) (decimal x.freed) s) ∙ e ∙ sweep-form (decimal y.cycle) (decimal y.page) (decimal y.kept) (decimal y.freed) t in
    let one = space-end x.cycle y.cycle _ _ (omega (arith, fx.cycle)) (omega (arith, fy.cycle)) (same_behind (codes "s ") _ _ split) in
    let two = space-end x.page y.page _ _ (omega (arith, fx.page)) (omega (arith, fy.page)) one.1 in
    let last = pair-end x.kept y.kept x.freed y.freed s t (omega (arith, fx.kept)) (omega (arith, fy.kept)) (omega (arith, fx.freed)) (omega (arith, fy.freed)) two.1 in
    (same4 made_sweep x.cycle y.cycle x.page y.page x.kept y.kept x.freed y.freed one.0 two.0 last.0 last.1, last.2)

total-end : (x y : Total) (s t : List ℕ) → TotalFits x → TotalFits y → (total_line x ++ 10 ∷ []) ++ s ≡ (total_line y ++ 10 ∷ []) ++ t → (x ≡ y) × (s ≡ t)
total-end x y s t fx fy e =
    let split = sym (total-form (decimal x.class) (decimal x.mallocs) (decimal x.frees) s) ∙ e ∙ total-form (decimal y.class) (decimal y.mallocs) (decimal y.frees) t in
    let one = space-end x.class y.class _ _ (omega (arith, fx.class)) (omega (arith, fy.class)) (same_behind (codes "t ") _ _ split) in
    let last = pair-end x.mallocs y.mallocs x.frees y.frees s t fx.mallocs fy.mallocs fx.frees fy.frees one.1 in
    (same3 made_total x.class y.class x.mallocs y.mallocs x.frees y.frees one.0 last.0 last.1, last.2)

profile-end : (x y : Prof) (s t : List ℕ) → ProfFits x → ProfFits y → (profile_line x ++ 10 ∷ []) ++ s ≡ (profile_line y ++ 10 ∷ []) ++ t → (x ≡ y) × (s ≡ t)
profile-end x y s t fx fy e =
    let split = sym (profile-form (decimal x.mark) (decimal x.stack) (decimal x.size) (decimal x.allocs) (decimal x.frees) s) ∙ e
    ∙ profile-form (decimal y.mark) (decimal y.stack) (decimal y.size) (decimal y.allocs) (decimal y.frees) t in
    let one = space-end x.mark y.mark _ _ (omega (arith, fx.mark)) (omega (arith, fy.mark)) (same_behind (codes "p ") _ _ split) in
    let two = space-end x.stack y.stack _ _ (omega (arith, fx.stack)) (omega (arith, fy.stack)) one.1 in
    let three = space-end x.size y.size _ _ fx.size fy.size two.1 in
    let last = pair-end x.allocs y.allocs x.frees y.frees s t fx.allocs fy.allocs fx.frees fy.frees three.1 in
    (same5 made_prof x.mark y.mark x.stack y.stack x.size y.size x.allocs y.allocs x.frees y.frees one.0 two.0 three.0 last.0 last.1, last.2)

-- ---- the kinds

answer-one : (n : ℕ) (x y : Answer) (s t : List ℕ) → AnswerFits x → AnswerFits y → (answer_line n x ++ 10 ∷ []) ++ s ≡ (answer_line n y ++ 10 ∷ []) ++ t → (x ≡ y) × (s ≡ t)
answer-one n x y s t fx fy e =
    let split = sym (answer-form (decimal n) (answer_text x) s) ∙ e ∙ answer-form (decimal n) (answer_text y) t in
    answer-end x y s t fx fy (same_behind (decimal n) (answer_text x ++ 10 ∷ s) (answer_text y ++ 10 ∷ t) (same_behind (codes "o ") _ _ split))

journal-one : (n : ℕ) (x y : Line) (s t : List ℕ) → LineFits x → LineFits y → (journal_line n x ++ 10 ∷ []) ++ s ≡ (journal_line n y ++ 10 ∷ []) ++ t → (x ≡ y) × (s ≡ t)
journal-one n x y s t fx fy e =
    let split = sym (journal-form (decimal n) (journal_text x) s) ∙ e ∙ journal-form (decimal n) (journal_text y) t in
    let behind = same_behind (32 ∷ []) (journal_text x ++ 10 ∷ s) (journal_text y ++ 10 ∷ t) (same_behind (decimal n) _ _ (same_behind (codes "j ") _ _ split)) in
    journal-end x y s t fx fy behind

pub answers_kind : Kind answer_line AnswerFits 111
answers_kind = record { begins = λ n x. (drop 1 (answer_line n x), refl); one = answer-one }

pub journal_kind : Kind journal_line LineFits 106
journal_kind = record { begins = λ n x. (drop 1 (journal_line n x), refl); one = journal-one }

pub sweeps_kind : Kind (λ (n : ℕ) (note : SweepNote). sweep_line note) SweepFits 115
sweeps_kind = record { begins = λ n x. (drop 1 (sweep_line x), refl); one = λ n x y s t fx fy e. sweep-end x y s t fx fy e }

pub totals_kind : Kind (λ (n : ℕ) (total : Total). total_line total) TotalFits 116
totals_kind = record { begins = λ n x. (drop 1 (total_line x), refl); one = λ n x y s t fx fy e. total-end x y s t fx fy e }

pub profile_kind : Kind (λ (n : ℕ) (prof : Prof). profile_line prof) ProfFits 112
profile_kind = record { begins = λ n x. (drop 1 (profile_line x), refl); one = λ n x y s t fx fy e. profile-end x y s t fx fy e }
