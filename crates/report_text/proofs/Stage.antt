-- A report while its lines are read: what the last of them leaves open.
use Rattle.std.proofs.Common.{◌≡◌, ℕ, ◌+◌, ◌<◌, ◌≤◌, ◌⊎◌, List, [], ◌∷◌, ◌++◌, length, Option, Some, None, refl, sym, ap, ◌∙◌, subst, inl, inr, arith, append_assoc, length-append}
use Rattle.std.specs.List.{AllByRecursion}
use Rattle.std.proofs.lemmas.List.{append-nil}
use Rattle.page_bitmap.specs.declared.line.Line.{Line}
use Rattle.page_alloc.specs.Lists.{AllApart, In}
use Rattle.span_state.specs.declared.sweep.SweepNote.{SweepNote}
use Rattle.cycle_history.specs.declared.Answer.{Answer}
use Rattle.cycle_history.specs.declared.Total.{Total}
use Rattle.cycle_history.specs.declared.Prof.{Prof}
use Rattle.cycle_history.specs.declared.Report.{Report}
use Rattle.cycle_history.specs.Orders.{AreRisingProfile, AreRisingSweeps, AreRisingTotals, IsProfBefore, IsSweepBefore, IsTotalBefore}
use Rattle.trace_reader.proofs.Digits.{AllByRecursion-push}
use Rattle.report_text.specs.declared.item.Item.{Item}
use Rattle.report_text.specs.declared.item.Item.TheVariants.{Object, Journal, Sweep, Class, Bucket, End}
use Rattle.report_text.specs.Items.{AreInTurn, IsNext, ItemFits, MayFollow, last_of, rank}
use Rattle.report_text.specs.Gathered.{IsEmpty, with_item}
use Rattle.report_text.specs.Unique.{AnswerFits, LineFits, SweepFits, TotalFits, ProfFits, FitsTypes}
use Rattle.report_text.proofs.Turns.{body, bucket, class, in_turn_more, items, items_more, last_of_more, rank_of, sweep}

-- ---- orders

-- the item is one of the list, or comes behind it
abbrev UpTo : {X : Type 0} → (X → X → Type 0) → List X → X → Type 0
UpTo R xs y = (x : _) → In x xs → (x ≡ y) ⊎ R x y

in_more : {X : Type 0} (x y : X) (xs : List X) → In x (xs ++ y ∷ []) → In x xs ⊎ (y ≡ x)
in_more x y [] i = elim i [ inl same ↦ inr same | inr none ↦ absurd none ]
in_more x y (z ∷ zs) i = elim i [ inl same ↦ inl (inl same) | inr more ↦ elim (in_more x y zs more) [ inl here ↦ inl (inr here) | inr last ↦ inr last ] ]

apart_more : {X : Type 0} (R : X → X → Type 0) (xs : List X) (y : X) → AllApart R xs → ((x : X) → In x xs → R x y) → AllApart R (xs ++ y ∷ [])
apart_more R [] y apart before = ((λ z none. absurd none), tt)
apart_more R (x ∷ xs) y apart before =
    ((λ z i. elim (in_more z y xs i) [ inl here ↦ apart.0 z here | inr last ↦ subst (R x) last (before x (inl refl)) ]), apart_more R xs y apart.1 (λ z i. before z (inr i)))

up_to_more : {X : Type 0} (R : X → X → Type 0) (xs : List X) (y : X) → ((x : X) → In x xs → R x y) → UpTo R (xs ++ y ∷ []) y
up_to_more R xs y before x i = elim (in_more x y xs i) [ inl here ↦ inr (before x here) | inr last ↦ inl (sym last) ]

before_next : {X : Type 0} (R : X → X → Type 0) → ((a b c : X) → R a b → R b c → R a c) → (xs : List X) (y z : X) → UpTo R xs y → R y z → (x : X) → In x xs → R x z
before_next R trans xs y z up next x i = elim (up x i) [ inl same ↦ subst (λ w. R w z) (sym same) next | inr less ↦ trans x y z less next ]

sweep_trans : (a b c : SweepNote) → IsSweepBefore a b → IsSweepBefore b c → IsSweepBefore a c
sweep_trans a b c ab bc = grind (arith, ab, bc)

total_trans : (a b c : Total) → IsTotalBefore a b → IsTotalBefore b c → IsTotalBefore a c
total_trans a b c ab bc = omega arith

prof_trans : (a b c : Prof) → IsProfBefore a b → IsProfBefore b c → IsProfBefore a c
prof_trans a b c ab bc = grind (arith, ab, bc)

-- ---- what the last line tells of the report

abbrev Leaves : Option Item → Report → Type 0
Leaves None r = Unit {0}
Leaves (Some (Object n answer)) r = length r.answers ≡ n + 1
Leaves (Some (Journal n line)) r = length r.journal ≡ n + 1
Leaves (Some (Sweep note)) r = UpTo IsSweepBefore r.sweeps note
Leaves (Some (Class total)) r = UpTo IsTotalBefore r.totals total
Leaves (Some (Bucket prof)) r = UpTo IsProfBefore r.profile prof
Leaves (Some End) r = Unit {0}

-- the report has the lines up to one that says `before`
pub record Stage (before : Option Item) (r : Report) : Type 0 where
  pub in_turn : AreInTurn None (body r)
  pub last : last_of None (body r) ≡ before
  pub open_ : rank_of before < 6
  pub fits : FitsTypes r
  pub sweeps : AreRisingSweeps r.sweeps
  pub totals : AreRisingTotals r.totals
  pub profile : AreRisingProfile r.profile
  pub no_answers : rank_of before < 1 → r.answers ≡ []
  pub no_journal : rank_of before < 2 → r.journal ≡ []
  pub no_sweeps : rank_of before < 3 → r.sweeps ≡ []
  pub no_totals : rank_of before < 4 → r.totals ≡ []
  pub no_profile : rank_of before < 5 → r.profile ≡ []
  pub leaves : Leaves before r

pub empty_body : (r : Report) → IsEmpty r → body r ≡ []
empty_body r none = rw (none.answers, none.journal, none.sweeps, none.totals, none.profile) refl

pub stage_start : (r : Report) → IsEmpty r → Stage None r
stage_start r none = let nothing = empty_body r none in record {
  in_turn = subst (AreInTurn None) (sym nothing) tt;
  last = ap (last_of None) nothing;
  open_ = omega arith;
  fits = record {
    answers = subst (AllByRecursion AnswerFits) (sym none.answers) tt;
    journal = subst (AllByRecursion LineFits) (sym none.journal) tt;
    sweeps = subst (AllByRecursion SweepFits) (sym none.sweeps) tt;
    totals = subst (AllByRecursion TotalFits) (sym none.totals) tt;
    profile = subst (AllByRecursion ProfFits) (sym none.profile) tt;
  };
  sweeps = subst (AllApart IsSweepBefore) (sym none.sweeps) tt;
  totals = subst (AllApart IsTotalBefore) (sym none.totals) tt;
  profile = subst (AllApart IsProfBefore) (sym none.profile) tt;
  no_answers = λ _. none.answers;
  no_journal = λ _. none.journal;
  no_sweeps = λ _. none.sweeps;
  no_totals = λ _. none.totals;
  no_profile = λ _. none.profile;
  leaves = tt;
}

-- ---- one line more

-- what may follow is not lower than the line before, and where it is higher it is the first of its kind
rank_up : (before : Option Item) (x : Item) → MayFollow before x → rank_of before ≤ rank x
rank_up None x m = omega arith
rank_up (Some b) x m = elim m [ inl next ↦ same_rank b x next | inr less ↦ (let l = less.0 in omega arith) ] where
  same_rank : (b x : Item) → IsNext b x → rank b ≤ rank x
  same_rank (Object m a) (Object n c) next = omega arith
  same_rank (Journal m a) (Journal n c) next = omega arith
  same_rank (Sweep a) (Sweep c) next = omega arith
  same_rank (Class a) (Class c) next = omega arith
  same_rank (Bucket a) (Bucket c) next = omega arith
  same_rank b x next = absurd next

answers_number : (before : Option Item) (r : Report) (n : ℕ) (a : Answer) → Stage before r → MayFollow before (Object n a) → n ≡ length r.answers
answers_number None r n a stage m = m ∙ sym (ap length (stage.no_answers (omega arith)))
answers_number (Some b) r n a stage m = elim m [ inl next ↦ at b next stage.leaves | inr less ↦ absurd (let l = less.0 in positive b l) ] where
  at : (b : Item) → IsNext b (Object n a) → Leaves (Some b) r → n ≡ length r.answers
  at (Object m c) next leaves = next ∙ sym leaves
  at b next leaves = absurd next

  positive : (b : Item) → rank b < 1 → ⊥
  positive (Object n a) less = absurd (omega arith)
  positive (Journal n a) less = absurd (omega arith)
  positive (Sweep a) less = absurd (omega arith)
  positive (Class a) less = absurd (omega arith)
  positive (Bucket a) less = absurd (omega arith)
  positive End less = absurd (omega arith)

journal_number : (before : Option Item) (r : Report) (n : ℕ) (l : Line) → Stage before r → MayFollow before (Journal n l) → n ≡ length r.journal
journal_number None r n l stage m = m ∙ sym (ap length (stage.no_journal (omega arith)))
journal_number (Some b) r n l stage m = elim m [ inl next ↦ at b next stage.leaves | inr less ↦ less.1 ∙ sym (ap length (stage.no_journal less.0)) ] where
  at : (b : Item) → IsNext b (Journal n l) → Leaves (Some b) r → n ≡ length r.journal
  at (Journal m c) next leaves = next ∙ sym leaves
  at b next leaves = absurd next

in_none : {X : Type 0} (xs : List X) (x : X) → xs ≡ [] → In x xs → ⊥
in_none xs x none i = subst (In x) none i

sweeps_before : (before : Option Item) (r : Report) (s : SweepNote) → Stage before r → MayFollow before (Sweep s) → (x : SweepNote) → In x r.sweeps → IsSweepBefore x s
sweeps_before None r s stage m x i = absurd (in_none r.sweeps x (stage.no_sweeps (omega arith)) i)
sweeps_before (Some b) r s stage m x i = elim m [ inl next ↦ at b next stage.leaves | inr less ↦ absurd (in_none r.sweeps x (stage.no_sweeps less.0) i) ] where
  at : (b : Item) → IsNext b (Sweep s) → Leaves (Some b) r → IsSweepBefore x s
  at (Sweep t) next leaves = before_next IsSweepBefore sweep_trans r.sweeps t s leaves next x i
  at b next leaves = absurd next

totals_before : (before : Option Item) (r : Report) (s : Total) → Stage before r → MayFollow before (Class s) → (x : Total) → In x r.totals → IsTotalBefore x s
totals_before None r s stage m x i = absurd (in_none r.totals x (stage.no_totals (omega arith)) i)
totals_before (Some b) r s stage m x i = elim m [ inl next ↦ at b next stage.leaves | inr less ↦ absurd (in_none r.totals x (stage.no_totals less.0) i) ] where
  at : (b : Item) → IsNext b (Class s) → Leaves (Some b) r → IsTotalBefore x s
  at (Class t) next leaves = before_next IsTotalBefore total_trans r.totals t s leaves next x i
  at b next leaves = absurd next

profile_before : (before : Option Item) (r : Report) (s : Prof) → Stage before r → MayFollow before (Bucket s) → (x : Prof) → In x r.profile → IsProfBefore x s
profile_before None r s stage m x i = absurd (in_none r.profile x (stage.no_profile (omega arith)) i)
profile_before (Some b) r s stage m x i = elim m [ inl next ↦ at b next stage.leaves | inr less ↦ absurd (in_none r.profile x (stage.no_profile less.0) i) ] where
  at : (b : Item) → IsNext b (Bucket s) → Leaves (Some b) r → IsProfBefore x s
  at (Bucket t) next leaves = before_next IsProfBefore prof_trans r.profile t s leaves next x i
  at b next leaves = absurd next

-- ---- the body with the line

front_more : (xs ys zs : List Item) (x : Item) → ys ≡ zs ++ x ∷ [] → xs ++ ys ≡ (xs ++ zs) ++ x ∷ []
front_more xs ys zs x e = ap (λ (ws : List Item). xs ++ ws) e ∙ sym (append_assoc xs zs (x ∷ []))

list_more : {X : Type 0} (make : ℕ → X → Item) (xs : List X) (x : X) (n : ℕ) (behind : List Item) → behind ≡ [] → n ≡ length xs → items make 0 (xs ++ x ∷ []) ++ behind ≡ (items make 0 xs ++ behind) ++ make n x ∷ []
list_more make xs x n behind none number =
    rw none (append-nil (items make 0 (xs ++ x ∷ [])) ∙ items_more make 0 xs x ∙ ap (λ (m : ℕ). items make 0 xs ++ make m x ∷ []) (omega arith) ∙ ap (λ (zs : List Item). zs ++ make n x ∷ []) (sym (append-nil (items make 0 xs))))

pub body_more : (before : Option Item) (r : Report) (x : Item) → Stage before r → MayFollow before x → rank x < 6 → body (with_item r x) ≡ body r ++ x ∷ []
body_more before r (Object n a) stage m low =
    let up = rank_up before (Object n a) m in
    list_more Object r.answers a n _ (rw (stage.no_journal (omega arith), stage.no_sweeps (omega arith), stage.no_totals (omega arith), stage.no_profile (omega arith)) refl) (answers_number before r n a stage m)
body_more before r (Journal n l) stage m low =
    let up = rank_up before (Journal n l) m in
    front_more (items Object 0 r.answers) _ _ (Journal n l)
    (list_more Journal r.journal l n _ (rw (stage.no_sweeps (omega arith), stage.no_totals (omega arith), stage.no_profile (omega arith)) refl) (journal_number before r n l stage m))
body_more before r (Sweep s) stage m low =
    let up = rank_up before (Sweep s) m in
    front_more (items Object 0 r.answers) _ _ (Sweep s) (front_more (items Journal 0 r.journal) _ _ (Sweep s)
    (list_more sweep r.sweeps s (length r.sweeps) _ (rw (stage.no_totals (omega arith), stage.no_profile (omega arith)) refl) refl))
body_more before r (Class t) stage m low =
    let up = rank_up before (Class t) m in
    front_more (items Object 0 r.answers) _ _ (Class t) (front_more (items Journal 0 r.journal) _ _ (Class t) (front_more (items sweep 0 r.sweeps) _ _ (Class t)
    (list_more class r.totals t (length r.totals) _ (rw (stage.no_profile (omega arith)) refl) refl)))
body_more before r (Bucket p) stage m low =
    front_more (items Object 0 r.answers) _ _ (Bucket p) (front_more (items Journal 0 r.journal) _ _ (Bucket p) (front_more (items sweep 0 r.sweeps) _ _ (Bucket p) (front_more (items class 0 r.totals) _ _ (Bucket p)
    (items_more bucket 0 r.profile p))))
body_more before r End stage m low = absurd (omega arith)

-- ---- the stage behind the line

length_more : {X : Type 0} (xs : List X) (x : X) → length (xs ++ x ∷ []) ≡ length xs + 1
length_more xs x = length-append xs (x ∷ [])

-- what all kinds have in common
turns : (before : Option Item) (r : Report) (x : Item) → Stage before r → ItemFits x → MayFollow before x → rank x < 6 → AreInTurn None (body (with_item r x)) × (last_of None (body (with_item r x)) ≡ Some x)
turns before r x stage fits m low =
    let more = body_more before r x stage m low in
    let follows : MayFollow (last_of None (body r)) x = subst (λ b. MayFollow b x) (sym stage.last) m in
    (subst (AreInTurn None) (sym more) (in_turn_more None (body r) x stage.in_turn fits follows), ap (last_of None) more ∙ last_of_more None (body r) x)

pub stage_more : (before : Option Item) (r : Report) (x : Item) → Stage before r → ItemFits x → MayFollow before x → rank x < 6 → Stage (Some x) (with_item r x)
stage_more before r (Object n a) stage fits m low =
    let up = rank_up before (Object n a) m in
    let turn = turns before r (Object n a) stage fits m low in
    let f = stage.fits in
    let number = answers_number before r n a stage m in
    let count = length_more r.answers a in
    record {
      in_turn = turn.0;
      last = turn.1;
      open_ = low;
      fits = record { answers = AllByRecursion-push AnswerFits r.answers a f.answers fits.1; journal = f.journal; sweeps = f.sweeps; totals = f.totals; profile = f.profile };
      sweeps = stage.sweeps;
      totals = stage.totals;
      profile = stage.profile;
      no_answers = λ less. absurd (omega arith);
      no_journal = λ less. stage.no_journal (omega arith);
      no_sweeps = λ less. stage.no_sweeps (omega arith);
      no_totals = λ less. stage.no_totals (omega arith);
      no_profile = λ less. stage.no_profile (omega arith);
      leaves = omega arith;
    }
stage_more before r (Journal n l) stage fits m low =
    let up = rank_up before (Journal n l) m in
    let turn = turns before r (Journal n l) stage fits m low in
    let f = stage.fits in
    let number = journal_number before r n l stage m in
    let count = length_more r.journal l in
    record {
      in_turn = turn.0;
      last = turn.1;
      open_ = low;
      fits = record { answers = f.answers; journal = AllByRecursion-push LineFits r.journal l f.journal fits.1; sweeps = f.sweeps; totals = f.totals; profile = f.profile };
      sweeps = stage.sweeps;
      totals = stage.totals;
      profile = stage.profile;
      no_answers = λ less. absurd (omega arith);
      no_journal = λ less. absurd (omega arith);
      no_sweeps = λ less. stage.no_sweeps (omega arith);
      no_totals = λ less. stage.no_totals (omega arith);
      no_profile = λ less. stage.no_profile (omega arith);
      leaves = omega arith;
    }
stage_more before r (Sweep s) stage fits m low =
    let up = rank_up before (Sweep s) m in
    let turn = turns before r (Sweep s) stage fits m low in
    let f = stage.fits in
    let all = sweeps_before before r s stage m in
    record {
      in_turn = turn.0;
      last = turn.1;
      open_ = low;
      fits = record { answers = f.answers; journal = f.journal; sweeps = AllByRecursion-push SweepFits r.sweeps s f.sweeps fits; totals = f.totals; profile = f.profile };
      sweeps = apart_more IsSweepBefore r.sweeps s stage.sweeps all;
      totals = stage.totals;
      profile = stage.profile;
      no_answers = λ less. absurd (omega arith);
      no_journal = λ less. absurd (omega arith);
      no_sweeps = λ less. absurd (omega arith);
      no_totals = λ less. stage.no_totals (omega arith);
      no_profile = λ less. stage.no_profile (omega arith);
      leaves = up_to_more IsSweepBefore r.sweeps s all;
    }
stage_more before r (Class t) stage fits m low =
    let up = rank_up before (Class t) m in
    let turn = turns before r (Class t) stage fits m low in
    let f = stage.fits in
    let all = totals_before before r t stage m in
    record {
      in_turn = turn.0;
      last = turn.1;
      open_ = low;
      fits = record { answers = f.answers; journal = f.journal; sweeps = f.sweeps; totals = AllByRecursion-push TotalFits r.totals t f.totals fits; profile = f.profile };
      sweeps = stage.sweeps;
      totals = apart_more IsTotalBefore r.totals t stage.totals all;
      profile = stage.profile;
      no_answers = λ less. absurd (omega arith);
      no_journal = λ less. absurd (omega arith);
      no_sweeps = λ less. absurd (omega arith);
      no_totals = λ less. absurd (omega arith);
      no_profile = λ less. stage.no_profile (omega arith);
      leaves = up_to_more IsTotalBefore r.totals t all;
    }
stage_more before r (Bucket p) stage fits m low =
    let turn = turns before r (Bucket p) stage fits m low in
    let f = stage.fits in
    let all = profile_before before r p stage m in
    record {
      in_turn = turn.0;
      last = turn.1;
      open_ = low;
      fits = record { answers = f.answers; journal = f.journal; sweeps = f.sweeps; totals = f.totals; profile = AllByRecursion-push ProfFits r.profile p f.profile fits };
      sweeps = stage.sweeps;
      totals = stage.totals;
      profile = apart_more IsProfBefore r.profile p stage.profile all;
      no_answers = λ less. absurd (omega arith);
      no_journal = λ less. absurd (omega arith);
      no_sweeps = λ less. absurd (omega arith);
      no_totals = λ less. absurd (omega arith);
      no_profile = λ less. absurd (omega arith);
      leaves = up_to_more IsProfBefore r.profile p all;
    }
stage_more before r End stage fits m low = absurd (omega arith)
