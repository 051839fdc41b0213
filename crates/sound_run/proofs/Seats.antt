-- Rules 4 and 5 from seats that are kept.
use Rattle.std.proofs.Common.{◌≡◌, ◌≢◌, ℕ, suc, ◌+◌, ◌*◌, ◌<◌, ◌≤◌, true, List, [], ◌∷◌, length, refl, sym, ◌∙◌, ap, arith, ◌⊎◌, inl, inr}
use Rattle.std.proofs.lemmas.Bool.{cases_lt, cases_order}
use Rattle.std.proofs.Math.Nat.{mul-le-mul_left}
use Rattle.page_bitmap.specs.declared.line.Line.{Line}
use Rattle.page_bitmap.specs.declared.line.Line.TheVariants.{Take, Miss, Give, Scav, Pull, Cut, Drop}
use Rattle.page_alloc.specs.Lists.{In}
use Rattle.page_alloc.specs.Lives.{Life, open_lives}
use Rattle.page_alloc.specs.Journal.{at_end, LegalFor}
use Rattle.cycle_history.specs.Requests.{Marking}
use Rattle.cycle_history.specs.Objects.{Object, is_placed, start_of, Sits, IsSeated, IsApart}
use Rattle.cycle_history.specs.Rules.{AreSeated, AreApart}
use Rattle.sound_run.specs.Run.{Fits, HasSeat, IsRun, slot_for}
use Rattle.page_alloc.proofs.Lives.{share-for, from_others}
use Rattle.sound_run.proofs.Live.{legal-at_end, live-placed, live-of}

slot_room : (slot count pages k : ℕ) → k < count → slot * count ≤ 8192 * pages → slot * k + slot ≤ 8192 * pages
slot_room slot count pages k lt room = omega (arith, mul-le-mul_left slot lt)

pub sits-room : (o : Object) (life : Life) (k : ℕ) → Fits o.need → Sits o life k → o.need.slot * k + o.need.slot ≤ 8192 * life.pages
sits-room o life k fits sits =
    let room = slot_room o.need.slot o.need.count o.need.pages k sits.index fits.room in
    let e = sits.pages in
    rw e room

-- Two runs of pages that are apart or share the first page of one.
pub overlap : (procs region goal : ℕ) (past : List Line) (a b : Life) → LegalFor procs region goal past → In a (open_lives past) → In b (open_lives past) → 1 ≤ a.pages → 1 ≤ b.pages
    → (a ≡ b) ⊎ ((a.page + a.pages ≤ b.page) ⊎ (b.page + b.pages ≤ a.page))
overlap procs region goal past a b legal ha hb some-a some-b =
    elim (cases_lt b.page (a.page + a.pages)) [
      | inr left ↦ inr (inl left)
      | inl one ↦ elim (cases_lt a.page (b.page + b.pages)) [
        | inr right ↦ inr (inr right)
        | inl two ↦ elim (cases_lt a.page b.page) [
          | inl lt ↦ inl (share-for procs region goal past a b b.page legal ha hb (omega arith) one (omega arith) (omega arith))
          | inr ge ↦ inl (share-for procs region goal past a b a.page legal ha hb (omega arith) (omega arith) ge two)
        ]
      ]
    ]

pub sits-pages : (o : Object) (life : Life) (k : ℕ) → Fits o.need → Sits o life k → 1 ≤ life.pages
sits-pages o life k fits sits = let room = sits-room o life k fits sits in let some = fits.some in omega arith

-- an object sits in one open life
pub one_life : (procs region goal : ℕ) (past : List Line) (o : Object) (a b : Life) (i k : ℕ) → LegalFor procs region goal past → In a (open_lives past) → In b (open_lives past)
    → Fits o.need → Sits o a i → Sits o b k → a ≡ b
one_life procs region goal past o a b i k legal ha hb fits sa sb =
    let ra = sits-room o a i fits sa in
    let rb = sits-room o b k fits sb in
    let some = fits.some in
    let e1 = sa.address in
    let e2 = sb.address in
    let e : start_of a + o.need.slot * i ≡ start_of b + o.need.slot * k = cc in
    elim (overlap procs region goal past a b legal ha hb (sits-pages o a i fits sa) (sits-pages o b k fits sb)) [
      | inl same ↦ same
      | inr apart ↦ elim apart [ inl left ↦ absurd (omega arith) | inr right ↦ absurd (omega arith) ]
    ]

-- an open life's number is below the journal's length
pub number-below : (past : List Line) (life : Life) → In life (open_lives past) → life.number < length past
number-below [] life h = absurd h
number-below (Take cycle page pages class ∷ past) life h =
    elim h [
      | inl here ↦ (let e : length past ≡ life.number = ap (λ (l : Life). l.number) here in omega arith)
      | inr there ↦ (let lt = number-below past life there in omega arith)
    ]
number-below (Miss cycle pages class ∷ past) life h = let lt = number-below past life h in omega arith
number-below (Give cycle page pages ∷ past) life h = let lt = number-below past life (from_others page (open_lives past) life h).0 in omega arith
number-below (Scav cycle page pages ∷ past) life h = let lt = number-below past life h in omega arith
number-below (Pull cycle proc page pages ∷ past) life h = let lt = number-below past life h in omega arith
number-below (Cut cycle proc page pages class ∷ past) life h =
    elim h [
      | inl here ↦ (let e : length past ≡ life.number = ap (λ (l : Life). l.number) here in omega arith)
      | inr there ↦ (let lt = number-below past life there in omega arith)
    ]
number-below (Drop cycle proc page pages ∷ past) life h = let lt = number-below past life h in omega arith

pub same_number : (past : List Line) (a b : Life) → In a (open_lives past) → In b (open_lives past) → a.number ≡ b.number → a ≡ b
same_number [] a b ha hb e = absurd ha
same_number (Take cycle page pages class ∷ past) a b ha hb e =
    elim ha [
      | inl a-new ↦ elim hb [
        | inl b-new ↦ sym a-new ∙ b-new
        | inr b-old ↦ (let n : length past ≡ a.number = ap (λ (l : Life). l.number) a-new in let lt = number-below past b b-old in absurd (omega arith))
      ]
      | inr a-old ↦ elim hb [
        | inl b-new ↦ (let n : length past ≡ b.number = ap (λ (l : Life). l.number) b-new in let lt = number-below past a a-old in absurd (omega arith))
        | inr b-old ↦ same_number past a b a-old b-old e
      ]
    ]
same_number (Miss cycle pages class ∷ past) a b ha hb e = same_number past a b ha hb e
same_number (Give cycle page pages ∷ past) a b ha hb e = same_number past a b (from_others page (open_lives past) a ha).0 (from_others page (open_lives past) b hb).0 e
same_number (Scav cycle page pages ∷ past) a b ha hb e = same_number past a b ha hb e
same_number (Pull cycle proc page pages ∷ past) a b ha hb e = same_number past a b ha hb e
same_number (Cut cycle proc page pages class ∷ past) a b ha hb e =
    elim ha [
      | inl a-new ↦ elim hb [
        | inl b-new ↦ sym a-new ∙ b-new
        | inr b-old ↦ (let n : length past ≡ a.number = ap (λ (l : Life). l.number) a-new in let lt = number-below past b b-old in absurd (omega arith))
      ]
      | inr a-old ↦ elim hb [
        | inl b-new ↦ (let n : length past ≡ b.number = ap (λ (l : Life). l.number) b-new in let lt = number-below past a a-old in absurd (omega arith))
        | inr b-old ↦ same_number past a b a-old b-old e
      ]
    ]
same_number (Drop cycle proc page pages ∷ past) a b ha hb e = same_number past a b ha hb e

-- Rule 4.
pub seated : (marked : Marking) (procs region goal : ℕ) (past : List Line) (o : Object) (life : Life) → LegalFor procs region goal past → Fits o.need → is_placed o.answer ≡ true
    → HasSeat marked past o life → IsSeated marked past o life
seated marked procs region goal past o life legal fits placed seat =
    let here = seat.stays o.cycle (live-of marked o.cycle o placed refl) in
    record {
      number = seat.number;
      here = here;
      sits = seat.sits;
      only = λ other k h sits. one_life procs region goal (at_end o.cycle past) o other life k o.index (legal-at_end procs region goal o.cycle past legal) h here fits sits seat.sits;
      stays = seat.stays;
    }

-- Rule 5: two objects of two lives, or of two indices of one life.
pub apart : (procs region goal : ℕ) (past : List Line) (a b : Object) (la lb : Life) → LegalFor procs region goal past → In la (open_lives past) → In lb (open_lives past)
    → Fits a.need → Fits b.need → Sits a la a.index → Sits b lb b.index → (la ≡ lb → a.index ≢ b.index) → IsApart a b
apart procs region goal past a b la lb legal ha hb fa fb sa sb differ x y ax by =
    let ra = sits-room a la a.index fa sa in
    let rb = sits-room b lb b.index fb sb in
    let e1 = sa.address in
    let e2 = sb.address in
    let ex : start_of la + a.need.slot * a.index ≡ x = cc in
    let ey : start_of lb + b.need.slot * b.index ≡ y = cc in
    elim (overlap procs region goal past la lb legal ha hb (sits-pages a la a.index fa sa) (sits-pages b lb b.index fb sb)) [
      | inr other ↦ elim other [ inl left ↦ inl (omega arith) | inr right ↦ inr (omega arith) ]
      | inl same ↦ (
          let c1 = sa.class in
          let c2 = sb.class in
          let p1 = sa.pages in
          let p2 = sb.pages in
          let s1 = fa.slot in
          let s2 = fb.slot in
          let page : la.page ≡ lb.page = ap (λ (l : Life). l.page) same in
          let class : a.need.class ≡ b.need.class = sym c1 ∙ ap (λ (l : Life). l.class) same ∙ c2 in
          let pages : a.need.pages ≡ b.need.pages = sym p1 ∙ ap (λ (l : Life). l.pages) same ∙ p2 in
          let slot : a.need.slot ≡ b.need.slot = s1 ∙ ap (λ (n : ℕ). slot_for n a.need.pages) class ∙ ap (λ (n : ℕ). slot_for b.need.class n) pages ∙ sym s2 in
          elim (cases_order a.index b.index) [
            | inl equal ↦ absurd (differ same equal)
            | inr order ↦ elim order [
              | inl lt ↦ (
                  let m : a.need.slot * suc a.index ≤ a.need.slot * b.index = mul-le-mul_left a.need.slot lt in
                  let t : a.need.slot * b.index ≡ b.need.slot * b.index = ap (λ (n : ℕ). n * b.index) slot in
                  inl (omega arith))
              | inr gt ↦ (
                  let m : b.need.slot * suc b.index ≤ b.need.slot * a.index = mul-le-mul_left b.need.slot gt in
                  let t : a.need.slot * a.index ≡ b.need.slot * a.index = ap (λ (n : ℕ). n * a.index) slot in
                  inr (omega arith))
            ]
          ])
    ]

-- a run keeps rules 4 and 5
pub run-seated : (marked : Marking) (region goal c : ℕ) (past : List Line) (objects : List Object) → IsRun marked region goal c past objects → AreSeated marked past objects
run-seated marked region goal c past objects run o h placed =
    let seat = run.seats o h placed in
    (seat.0, seated marked 64 region goal past o seat.0 run.journal (run.fits o h placed) placed seat.1)

pub run-apart : (marked : Marking) (region goal c : ℕ) (past : List Line) (objects : List Object) → IsRun marked region goal c past objects → AreApart marked objects
run-apart marked region goal c past objects run m a b ha hb ne la lb =
    let pa = live-placed marked m a la in
    let pb = live-placed marked m b lb in
    let sa = run.seats a ha pa in
    let sb = run.seats b hb pb in
    let na = sa.1.number in
    let nb = sb.1.number in
    apart 64 region goal (at_end m past) a b sa.0 sb.0 (legal-at_end 64 region goal m past run.journal) (sa.1.stays m la) (sb.1.stays m lb)
    (run.fits a ha pa) (run.fits b hb pb) sa.1.sits sb.1.sits
    (λ same. run.distinct m a b ha hb ne la lb (sym na ∙ ap (λ (l : Life). l.number) same ∙ nb))
