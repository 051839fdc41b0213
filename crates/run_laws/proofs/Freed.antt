-- The samples that died are freed by the sweeps of their lives, each once.
use Rattle.std.proofs.Common.{◌≡◌, ◌≢◌, ℕ, suc, ◌+◌, ◌<◌, Bool, true, ◌&&◌, not, eqb, if◌then◌else◌, List, [], ◌∷◌, ◌++◌, refl, sym, ◌∙◌, ap, arith, inl, inr}
use Rattle.std.proofs.lemmas.Bool.{cases_Bool, eq-eqb, ne_eqb, and_parts, and_right}
use Rattle.page_alloc.specs.Lists.{In, AllApart, count, one_if}
use Rattle.page_alloc.specs.Lives.{Life, open_lives}
use Rattle.sound_run.proofs.Journals.{pages-apart}
use Rattle.span_state.specs.declared.sweep.SweepNote.{SweepNote}
use Rattle.cycle_history.specs.Requests.{Marking}
use Rattle.cycle_history.specs.Objects.{Object, live}
use Rattle.sound_run.proofs.Live.{at_end-now, live-placed}
use Rattle.sound_run.proofs.Counts.{not_live}
use Rattle.sound_run.proofs.Seats.{same_number}
use Rattle.run_laws.specs.CycleSoFar.{CycleSoFar}
use Rattle.run_laws.specs.Facts.{Facts}
use Rattle.run_laws.specs.Reached.{Began}
use Rattle.run_laws.specs.Profile.{Calls}
use Rattle.run_laws.specs.CycleCalls.{sum_of, has_died, FreesByNotes}
use Rattle.cycle_history.specs.Profile.{Samples, Bucket, is_sample}
use Rattle.run_laws.proofs.Lists.{apart-map}
use Rattle.run_laws.proofs.Lines.{older-by}
use Rattle.run_laws.proofs.Profile.{count-old}

-- ---- sums

sum-add : {X : Type 0} (f g : X → ℕ) (xs : List X) → sum_of (λ x. f x + g x) xs ≡ sum_of f xs + sum_of g xs
sum-add f g [] = refl
sum-add f g (x ∷ xs) = let rest = sum-add f g xs in omega arith

sum-same : {X : Type 0} (f g : X → ℕ) (xs : List X) → ((x : X) → In x xs → f x ≡ g x) → sum_of f xs ≡ sum_of g xs
sum-same f g [] same = refl
sum-same f g (x ∷ xs) same = let here = same x (inl refl) in let rest = sum-same f g xs (λ y h. same y (inr h)) in omega arith

sum-none : {X : Type 0} (f : X → ℕ) (xs : List X) → ((x : X) → In x xs → f x ≡ 0) → sum_of f xs ≡ 0
sum-none f [] none = refl
sum-none f (x ∷ xs) none = let here = none x (inl refl) in let rest = sum-none f xs (λ y h. none y (inr h)) in omega arith

-- one of several different keys is this one
one-key : {Y : Type 0} (key : Y → ℕ) (n : ℕ) (ys : List Y) (y : Y) → AllApart (λ (a b : Y). key a ≢ key b) ys → In y ys → key y ≡ n → sum_of (λ (x : Y). one_if (eqb n (key x))) ys ≡ 1
one-key key n [] y apart h is = absurd h
one-key key n (x ∷ ys) y apart h is = elim h [
  | inl here ↦ (
      let e = eq-eqb n (key x) (sym is ∙ ap key (sym here)) in
      let rest = sum-none (λ (z : _). one_if (eqb n (key z))) ys (λ z hz. (let f = ne_eqb n (key z) (λ q. apart.0 z hz (ap key here ∙ is ∙ q)) in rw f refl)) in
      rw e (omega arith))
  | inr there ↦ (
      let ne = ne_eqb n (key x) (λ q. apart.0 y there (sym q ∙ sym is)) in
      let rest = one-key key n ys y apart.1 there is in
      rw ne (omega arith))
]

-- the objects that pass, by the keys of their lives
count-parts : {Y : Type 0} (test : Object → Bool) (key : Y → ℕ) (ys : List Y) (objects : List Object) → AllApart (λ (a b : Y). key a ≢ key b) ys
    → ((o : Object) → In o objects → test o ≡ true → (y : Y) × In y ys × (key y ≡ o.life)) → sum_of (λ (y : Y). count (λ (o : Object). test o && eqb o.life (key y)) objects) ys ≡ count test objects
count-parts test key ys [] apart each = sum-none (λ y. 0) ys (λ y h. refl)
count-parts test key ys (o ∷ objects) apart each =
    let rest = count-parts test key ys objects apart (λ x h. each x (inr h)) in
    let both = sum-add (λ y. one_if (test o && eqb o.life (key y))) (λ y. count (λ (x : Object). test x && eqb x.life (key y)) objects) ys in
    let here : sum_of (λ y. one_if (test o && eqb o.life (key y))) ys ≡ one_if (test o) = elim (cases_Bool (test o)) [
      | inl is ↦ (let at = each o (inl refl) is in rw is (one-key key o.life ys at.0 apart at.1 at.2))
      | inr isnt ↦ rw isnt (sum-none (λ y. 0) ys (λ y h. refl))
    ] in
    omega arith

-- ---- the number of the life at a page

abbrev number_at : List Life → ℕ → ℕ
number_at [] p = 0
number_at (life ∷ lives) p = if eqb life.page p then life.number else number_at lives p

number_at-life : (lives : List Life) (life : Life) → AllApart (λ (a b : Life). a.page ≢ b.page) lives → In life lives → number_at lives life.page ≡ life.number
number_at-life [] life apart h = absurd h
number_at-life (first ∷ lives) life apart h = elim h [
  | inl here ↦ (let e = eq-eqb first.page life.page (ap (λ (l : Life). l.page) here) in rw e (ap (λ (l : Life). l.number) here))
  | inr there ↦ (let ne = ne_eqb first.page life.page (apart.0 life there) in rw ne (number_at-life lives life apart.1 there))
]

-- ---- frees

-- the life that a note is of
note-life : (marked : Marking) (region goal : ℕ) (objects : List Object) (e : CycleSoFar) → Facts marked region goal objects e → (note : SweepNote) → In note e.notes
    → (life : Life) × In life (open_lives e.before) × (life.page ≡ note.page)
note-life marked region goal objects e facts note h =
    let told = facts.notes.from note h in
    let at = facts.sweeps.only told.0 told.1 told.2 in
    let page : note.page ≡ told.1.page = told.3.page in
    let page' : told.1.page ≡ at.0.page = at.2 in
    (at.0, at.1, sym (page ∙ page'))

old-freed : (marked : Marking) (region goal : ℕ) (s : Samples) (objects : List Object) (notes : List SweepNote) (calls : Calls) (e : CycleSoFar) (m : ℕ) (dead : ℕ → Bucket → ℕ) (b : Bucket)
    → Began marked region goal e.cycle e.before objects notes e.carried → Facts marked region goal objects e → e.cycle ≡ suc m → FreesByNotes marked s objects calls e m dead
    → calls.freed e.cycle b ≡ count (has_died marked s m b) objects
old-freed marked region goal s objects notes calls e m dead b began facts is frees =
    let lives = open_lives e.before in
    let apart = pages-apart region goal e.before began.run.journal in
    let by = older-by m e.before (λ line i. (let lt = began.lines_older line i in omega arith)) in
    let key : SweepNote → ℕ = λ note. number_at (open_lives e.before) note.page in
    let life_of_note = note-life marked region goal objects e facts in
    let key_is : (note : SweepNote) (h : In note e.notes) → number_at (open_lives e.before) note.page ≡ (life_of_note note h).0.number = λ note h. (
    let l = life_of_note note h in
    ap (λ (p : ℕ). number_at (open_lives e.before) p) (sym l.2) ∙ number_at-life (open_lives e.before) l.0 apart l.1) in
    let differ = apart-map (λ (newer older : SweepNote). older.page < newer.page) (λ (x y : SweepNote). number_at (open_lives e.before) x.page ≢ number_at (open_lives e.before) y.page) e.notes
    (λ x y hx hy lt same. (
    let lx = life_of_note x hx in
    let ly = life_of_note y hy in
    let one : lx.0 ≡ ly.0 = same_number e.before lx.0 ly.0 lx.1 ly.1 (sym (key_is x hx) ∙ same ∙ key_is y hy) in
    let page : x.page ≡ y.page = sym lx.2 ∙ ap (λ (l : Life). l.page) one ∙ ly.2 in
    omega arith)) facts.notes.order in
    let parts = count-parts (has_died marked s m b) (λ (note : SweepNote). number_at (open_lives e.before) note.page) e.notes objects differ (λ o h died. (
    let two = and_parts (is_sample s b o) (live marked m o && not (marked (suc m) o.id)) died in
    let lived = (and_parts (live marked m o) (not (marked (suc m) o.id)) two.1).0 in
    let seat = began.run.seats o h (live-placed marked m o lived) in
    let there : In seat.0 (open_lives e.before) = rw (at_end-now m e.before by) at (seat.1.stays m lived) in
    let swept = facts.sweeps.each seat.0 there in
    let told = facts.notes.each swept.0 swept.1 swept.2 in
    let page : told.0.page ≡ seat.0.page = told.2.page ∙ swept.3 in
    let number : number_at (open_lives e.before) seat.0.page ≡ seat.0.number = number_at-life (open_lives e.before) seat.0 apart there in
    let moved : number_at (open_lives e.before) told.0.page ≡ number_at (open_lives e.before) seat.0.page = ap (λ (p : ℕ). number_at (open_lives e.before) p) page in
    (told.0, told.1, moved ∙ number ∙ seat.1.number))) in
    let each = sum-same (λ (note : SweepNote). dead note.page b) (λ (note : SweepNote). count (λ (o : Object). has_died marked s m b o && eqb o.life (number_at (open_lives e.before) note.page)) objects) e.notes (λ note h. (
    let l = life_of_note note h in
    ap (λ (p : ℕ). dead p b) (sym l.2) ∙ frees.right l.0 b l.1 ∙ ap (λ (n : ℕ). count (λ (o : Object). has_died marked s m b o && eqb o.life n) objects) (sym (key_is note h)))) in
    frees.freed b ∙ each ∙ parts

-- the calls of a cycle free the samples that died, of all objects
pub cycle-freed : (marked : Marking) (region goal : ℕ) (s : Samples) (objects : List Object) (notes : List SweepNote) (calls : Calls) (e : CycleSoFar) (m : ℕ) (dead : ℕ → Bucket → ℕ) (b : Bucket)
    → Began marked region goal e.cycle e.before objects notes e.carried → Facts marked region goal objects e → e.cycle ≡ suc m → FreesByNotes marked s objects calls e m dead
    → calls.freed e.cycle b ≡ count (has_died marked s m b) (e.news ++ objects)
cycle-freed marked region goal s objects notes calls e m dead b began facts is frees =
    old-freed marked region goal s objects notes calls e m dead b began facts is frees
    ∙ sym (count-old (has_died marked s m b) e.news objects (λ o h. (
    let now = facts.objects_are.now o h in
    let off = not_live marked o m (facts.objects_are.lasts o h) (omega arith) in
    and_right (is_sample s b o) (live marked m o && not (marked (suc m) o.id)) (rw off refl))))
