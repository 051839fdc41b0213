-- Open lives of a legal journal: they lie in the region, share no page, and are what owners say.
use Rattle.std.proofs.Common.{◌≡◌, ◌≢◌, ℕ, zero, suc, ◌+◌, ◌-◌, ◌/◌, ◌<◌, ◌≤◌, Bool, true, false, ◌&&◌, ◌||◌, not, leb, eqb, List, [], ◌∷◌, length, get_or, drop, Option, Some, None, is_some, refl, sym, ◌∙◌, ap, arith, ◌⊎◌, inl, inr}
use Rattle.std.proofs.lemmas.Bool.{leb-true, eqb-true, eq-eqb, ne_eqb, cases_lt, cases_Bool, and_parts}
use Rattle.std.proofs.lemmas.Bool.Decides.{nat_tests}
use Rattle.page_bitmap.specs.declared.line.Line.{Line}
use Rattle.page_bitmap.specs.declared.line.Line.TheVariants.{Take, Miss, Give, Scav, Pull, Cut, Drop}
use Rattle.size_classes.specs.Classes.{IsClass, pages_of}
use Rattle.size_classes.specs.Table.{page_counts}
use Rattle.page_alloc.specs.Lists.{In, AllApart}
use Rattle.page_alloc.specs.Owners.{within, owner, cached, is_held, is_number, unscavenged, IsUnheld}
use Rattle.page_alloc.specs.Lives.{Life, others, open_lives}
use Rattle.page_alloc.specs.FreeRuns.{IsSpanSize}
use Rattle.page_alloc.specs.Journal.{Legal, LegalFor}

pub within-true : (p first pages : ℕ) → first ≤ p → p < first + pages → within p first pages ≡ true
within-true p first pages low high = grind (arith, nat_tests)

pub within-false : (p first pages : ℕ) → (p < first) ⊎ (first + pages ≤ p) → within p first pages ≡ false
within-false p first pages (inl low) = grind (arith, nat_tests)
within-false p first pages (inr high) = grind (arith, nat_tests)

pub within-low : (p first pages : ℕ) → within p first pages ≡ true → first ≤ p
within-low p first pages h = grind (arith, nat_tests)

pub within-high : (p first pages : ℕ) → within p first pages ≡ true → p < first + pages
within-high p first pages h = grind (arith, nat_tests)

-- a life of the others is one of all, and begins elsewhere
pub from_others : (page : ℕ) (lives : List Life) (life : Life) → In life (others page lives) → In life lives × (life.page ≢ page)
from_others page [] life h = absurd h
from_others page (first ∷ lives) life h =
    elim (cases_Bool (eqb first.page page)) [
      | inl is ↦ (
          let h' : In life (others page lives) = rw is at h in
          let rest = from_others page lives life h' in
          (inr rest.0, rest.1))
      | inr isnt ↦ (
          let h' : (first ≡ life) ⊎ In life (others page lives) = rw isnt at h in
          elim h' [
            | inl here ↦ (inl here, λ e. (let f : first.page ≡ page = ap (λ (l : Life). l.page) here ∙ e in let g : eqb first.page page ≡ true = eq-eqb first.page page f in cc))
            | inr there ↦ (let rest = from_others page lives life there in (inr rest.0, rest.1))
          ])
    ]

pub to_others : (page : ℕ) (lives : List Life) (life : Life) → In life lives → life.page ≢ page → In life (others page lives)
to_others page [] life h ne = absurd h
to_others page (first ∷ lives) life h ne =
    elim (cases_Bool (eqb first.page page)) [
      | inl is ↦ (
          let same : first.page ≡ page = eqb-true first.page page is in
          rw is (elim h [
            | inl here ↦ absurd (ne (ap (λ (l : Life). l.page) (sym here) ∙ same))
            | inr there ↦ to_others page lives life there ne
          ]))
      | inr isnt ↦ rw isnt (elim h [
        | inl here ↦ inl here
        | inr there ↦ inr (to_others page lives life there ne)
      ])
    ]

-- a number that an option is
pub is-number : (n : ℕ) (o : Option ℕ) → is_number n o ≡ true → o ≡ Some n
is-number n None h = cc
is-number n (Some m) h = ap (λ (k : ℕ). Some k) (eqb-true m n h)

-- the parts of a page that nobody has
pub unheld : (past : List Line) (p : ℕ) → is_held past p ≡ false → IsUnheld past p
unheld past p h = record { owner = unheld-1 (owner past p) (cached past p) h; cached = unheld-2 (owner past p) (cached past p) h }
  where
    unheld-1 : (a b : Option ℕ) → (is_some a || is_some b) ≡ false → a ≡ None
    unheld-1 None b h = refl
    unheld-1 (Some x) b h = cc

    unheld-2 : (a b : Option ℕ) → (is_some a || is_some b) ≡ false → b ≡ None
    unheld-2 a None h = refl
    unheld-2 None (Some x) h = cc
    unheld-2 (Some y) (Some x) h = cc

-- the pages that a Pull pulls
pub pulled-parts : (past : List Line) (p page : ℕ) → within p page 64 && not (is_held past p) ≡ true → (within p page 64 ≡ true) × IsUnheld past p
pulled-parts past p page h =
    let parts = and_parts (within p page 64) (not (is_held past p)) h in
    (parts.0, unheld past p (not-true (is_held past p) parts.1))
  where
    not-true : (b : Bool) → not b ≡ true → b ≡ false
    not-true true h = cc
    not-true false h = refl

-- no span has a page that a processor has in its cache
pub exclusive : (procs region goal : ℕ) (past : List Line) (p proc : ℕ) → LegalFor procs region goal past → cached past p ≡ Some proc → owner past p ≡ None
exclusive procs region goal [] p proc legal h = cc
exclusive procs region goal (Take cycle page pages class ∷ past) p proc legal h =
    elim (cases_Bool (within p page pages)) [
      | inl is ↦ (let free = legal.0.1.here.free p (within-low p page pages is) (within-high p page pages is) in cc)
      | inr isnt ↦ rw isnt (exclusive procs region goal past p proc legal.2 h)
    ]
exclusive procs region goal (Miss cycle pages class ∷ past) p proc legal h = exclusive procs region goal past p proc legal.2 h
exclusive procs region goal (Give cycle page pages ∷ past) p proc legal h =
    elim (cases_Bool (within p page pages)) [
      | inl is ↦ rw is refl
      | inr isnt ↦ rw isnt (exclusive procs region goal past p proc legal.2 h)
    ]
exclusive procs region goal (Scav cycle page pages ∷ past) p proc legal h = exclusive procs region goal past p proc legal.2 h
exclusive procs region goal (Pull cycle q page pages ∷ past) p proc legal h =
    elim (cases_Bool (within p page 64 && not (is_held past p))) [
      | inl is ↦ (pulled-parts past p page is).1.owner
      | inr isnt ↦ (let h' : cached past p ≡ Some proc = rw isnt at h in exclusive procs region goal past p proc legal.2 h')
    ]
exclusive procs region goal (Cut cycle q page pages class ∷ past) p proc legal h =
    elim (cases_Bool (within p page pages)) [
      | inl is ↦ (let h' : None ≡ Some proc = rw is at h in cc)
      | inr isnt ↦ (let h' : cached past p ≡ Some proc = rw isnt at h in rw isnt (exclusive procs region goal past p proc legal.2 h'))
    ]
exclusive procs region goal (Drop cycle q page pages ∷ past) p proc legal h =
    elim (cases_Bool (is_number q (cached past p))) [
      | inl is ↦ (let h' : None ≡ Some proc = rw is at h in cc)
      | inr isnt ↦ (let h' : cached past p ≡ Some proc = rw isnt at h in exclusive procs region goal past p proc legal.2 h')
    ]

-- each page of an open life has it as owner
pub covers-for : (procs region goal : ℕ) (past : List Line) (life : Life) (p : ℕ) → LegalFor procs region goal past → In life (open_lives past) → life.page ≤ p → p < life.page + life.pages → owner past p ≡ Some life.page
covers-for procs region goal [] life p legal h low high = absurd h
covers-for procs region goal (Take cycle page pages class ∷ past) life p legal h low high =
    elim h [
      | inl here ↦ (
          let e1 : page ≡ life.page = ap (λ (l : Life). l.page) here in
          let e2 : pages ≡ life.pages = ap (λ (l : Life). l.pages) here in
          let w : within p page pages ≡ true = within-true p page pages (omega arith) (omega arith) in
          rw w (ap (λ (n : ℕ). Some n) e1))
      | inr there ↦ (
          let old = covers-for procs region goal past life p legal.2 there low high in
          elim (cases_Bool (within p page pages)) [
            | inl is ↦ (
                let free = legal.0.1.here.free p (within-low p page pages is) (within-high p page pages is) in
                cc)
            | inr isnt ↦ rw isnt old
          ])
    ]
covers-for procs region goal (Miss cycle pages class ∷ past) life p legal h low high = covers-for procs region goal past life p legal.2 h low high
covers-for procs region goal (Give cycle page pages ∷ past) life p legal h low high =
    let one = from_others page (open_lives past) life h in
    let old = covers-for procs region goal past life p legal.2 one.0 low high in
    elim (cases_Bool (within p page pages)) [
      | inl is ↦ (
          let given = legal.0.0 in
          let e1 : given.page ≡ page = legal.0.2 in
          let e2 : given.pages ≡ pages = legal.0.3 in
          let low' = within-low p page pages is in
          let high' = within-high p page pages is in
          let also = covers-for procs region goal past given p legal.2 legal.0.1 (omega arith) (omega arith) in
          let same : life.page ≡ page = cc in
          absurd (one.1 same))
      | inr isnt ↦ rw isnt old
    ]
covers-for procs region goal (Scav cycle page pages ∷ past) life p legal h low high = covers-for procs region goal past life p legal.2 h low high
covers-for procs region goal (Pull cycle proc page pages ∷ past) life p legal h low high = covers-for procs region goal past life p legal.2 h low high
covers-for procs region goal (Cut cycle proc page pages class ∷ past) life p legal h low high =
    elim h [
      | inl here ↦ (
          let e1 : page ≡ life.page = ap (λ (l : Life). l.page) here in
          let e2 : pages ≡ life.pages = ap (λ (l : Life). l.pages) here in
          let w : within p page pages ≡ true = within-true p page pages (omega arith) (omega arith) in
          rw w (ap (λ (n : ℕ). Some n) e1))
      | inr there ↦ (
          let old = covers-for procs region goal past life p legal.2 there low high in
          elim (cases_Bool (within p page pages)) [
            | inl is ↦ (
                let none = exclusive procs region goal past p proc legal.2 (legal.0.3.here p (within-low p page pages is) (within-high p page pages is)) in
                cc)
            | inr isnt ↦ rw isnt old
          ])
    ]
covers-for procs region goal (Drop cycle proc page pages ∷ past) life p legal h low high = covers-for procs region goal past life p legal.2 h low high

-- two open lives that share a page are the same
pub share-for : (procs region goal : ℕ) (past : List Line) (a b : Life) (p : ℕ) → LegalFor procs region goal past → In a (open_lives past) → In b (open_lives past)
    → a.page ≤ p → p < a.page + a.pages → b.page ≤ p → p < b.page + b.pages → a ≡ b
share-for procs region goal [] a b p legal ha hb al ah bl bh = absurd ha
share-for procs region goal (Take cycle page pages class ∷ past) a b p legal ha hb al ah bl bh =
    elim ha [
      | inl a-new ↦ elim hb [
        | inl b-new ↦ sym a-new ∙ b-new
        | inr b-old ↦ (
            let old = covers-for procs region goal past b p legal.2 b-old bl bh in
            let e1 : page ≡ a.page = ap (λ (l : Life). l.page) a-new in
            let e2 : pages ≡ a.pages = ap (λ (l : Life). l.pages) a-new in
            let free = legal.0.1.here.free p (omega arith) (omega arith) in
            cc)
      ]
      | inr a-old ↦ elim hb [
        | inl b-new ↦ (
            let old = covers-for procs region goal past a p legal.2 a-old al ah in
            let e1 : page ≡ b.page = ap (λ (l : Life). l.page) b-new in
            let e2 : pages ≡ b.pages = ap (λ (l : Life). l.pages) b-new in
            let free = legal.0.1.here.free p (omega arith) (omega arith) in
            cc)
        | inr b-old ↦ share-for procs region goal past a b p legal.2 a-old b-old al ah bl bh
      ]
    ]
share-for procs region goal (Miss cycle pages class ∷ past) a b p legal ha hb al ah bl bh = share-for procs region goal past a b p legal.2 ha hb al ah bl bh
share-for procs region goal (Give cycle page pages ∷ past) a b p legal ha hb al ah bl bh =
    share-for procs region goal past a b p legal.2 (from_others page (open_lives past) a ha).0 (from_others page (open_lives past) b hb).0 al ah bl bh
share-for procs region goal (Scav cycle page pages ∷ past) a b p legal ha hb al ah bl bh = share-for procs region goal past a b p legal.2 ha hb al ah bl bh
share-for procs region goal (Pull cycle proc page pages ∷ past) a b p legal ha hb al ah bl bh = share-for procs region goal past a b p legal.2 ha hb al ah bl bh
share-for procs region goal (Cut cycle proc page pages class ∷ past) a b p legal ha hb al ah bl bh =
    elim ha [
      | inl a-new ↦ elim hb [
        | inl b-new ↦ sym a-new ∙ b-new
        | inr b-old ↦ (
            let old = covers-for procs region goal past b p legal.2 b-old bl bh in
            let e1 : page ≡ a.page = ap (λ (l : Life). l.page) a-new in
            let e2 : pages ≡ a.pages = ap (λ (l : Life). l.pages) a-new in
            let none = exclusive procs region goal past p proc legal.2 (legal.0.3.here p (omega arith) (omega arith)) in
            cc)
      ]
      | inr a-old ↦ elim hb [
        | inl b-new ↦ (
            let old = covers-for procs region goal past a p legal.2 a-old al ah in
            let e1 : page ≡ b.page = ap (λ (l : Life). l.page) b-new in
            let e2 : pages ≡ b.pages = ap (λ (l : Life). l.pages) b-new in
            let none = exclusive procs region goal past p proc legal.2 (legal.0.3.here p (omega arith) (omega arith)) in
            cc)
        | inr b-old ↦ share-for procs region goal past a b p legal.2 a-old b-old al ah bl bh
      ]
    ]
share-for procs region goal (Drop cycle proc page pages ∷ past) a b p legal ha hb al ah bl bh = share-for procs region goal past a b p legal.2 ha hb al ah bl bh

-- each number of the list is at least 1
abbrev pub positive : List ℕ → Bool
positive [] = true
positive (x ∷ xs) = leb 1 x && positive xs

positive-at : (xs : List ℕ) (k : ℕ) → positive xs ≡ true → k < length xs → 1 ≤ get_or xs k 0
positive-at [] k h lt = absurd (omega arith)
positive-at (x ∷ xs) zero h lt = leb-true 1 x (and_parts (leb 1 x) (positive xs) h).0
positive-at (x ∷ xs) (suc k) h lt = positive-at xs k (and_parts (leb 1 x) (positive xs) h).1 (omega arith)

positive-class : (xs : List ℕ) (class : ℕ) → positive (drop 1 xs) ≡ true → 1 ≤ class → class < length xs → 1 ≤ get_or xs class 0
positive-class [] class h low lt = absurd (omega arith)
positive-class (x ∷ xs) zero h low lt = absurd (omega arith)
positive-class (x ∷ xs) (suc k) h low lt = positive-at xs k h (omega arith)

pub class_pages : (class : ℕ) → IsClass class → 1 ≤ pages_of class
unfolding pages_of
class_pages class is = positive-class page_counts class refl is.0 (omega arith)

pub span_pages : (class pages : ℕ) → IsSpanSize class pages → 1 ≤ pages
span_pages class pages size =
    elim (cases_lt class 2) [
      | inl large ↦ (let five = size.1 large in omega arith)
      | inr small ↦ (let one = size.0 small in let e = one.1 in let some = class_pages (class / 2) one.0 in omega arith)
    ]

-- a page that a processor has in its cache lies in the region
pub cached-inside : (procs region goal : ℕ) (past : List Line) (p proc : ℕ) → LegalFor procs region goal past → cached past p ≡ Some proc → p < region
cached-inside procs region goal [] p proc legal h = cc
cached-inside procs region goal (Take cycle page pages class ∷ past) p proc legal h = cached-inside procs region goal past p proc legal.2 h
cached-inside procs region goal (Miss cycle pages class ∷ past) p proc legal h = cached-inside procs region goal past p proc legal.2 h
cached-inside procs region goal (Give cycle page pages ∷ past) p proc legal h = cached-inside procs region goal past p proc legal.2 h
cached-inside procs region goal (Scav cycle page pages ∷ past) p proc legal h = cached-inside procs region goal past p proc legal.2 h
cached-inside procs region goal (Pull cycle q page pages ∷ past) p proc legal h =
    elim (cases_Bool (within p page 64 && not (is_held past p))) [
      | inl is ↦ (
          let high = within-high p page 64 (pulled-parts past p page is).0 in
          let inside = legal.0.2.inside in
          omega arith)
      | inr isnt ↦ (let h' : cached past p ≡ Some proc = rw isnt at h in cached-inside procs region goal past p proc legal.2 h')
    ]
cached-inside procs region goal (Cut cycle q page pages class ∷ past) p proc legal h =
    elim (cases_Bool (within p page pages)) [
      | inl is ↦ (let h' : None ≡ Some proc = rw is at h in cc)
      | inr isnt ↦ (let h' : cached past p ≡ Some proc = rw isnt at h in cached-inside procs region goal past p proc legal.2 h')
    ]
cached-inside procs region goal (Drop cycle q page pages ∷ past) p proc legal h =
    elim (cases_Bool (is_number q (cached past p))) [
      | inl is ↦ (let h' : None ≡ Some proc = rw is at h in cc)
      | inr isnt ↦ (let h' : cached past p ≡ Some proc = rw isnt at h in cached-inside procs region goal past p proc legal.2 h')
    ]

-- an open life has a page, and all its pages lie in the region
pub lies-for : (procs region goal : ℕ) (past : List Line) (life : Life) → LegalFor procs region goal past → In life (open_lives past) → (1 ≤ life.pages) × (life.page + life.pages ≤ region)
lies-for procs region goal [] life legal h = absurd h
lies-for procs region goal (Take cycle page pages class ∷ past) life legal h =
    elim h [
      | inl here ↦ (
          let e1 : page ≡ life.page = ap (λ (l : Life). l.page) here in
          let e2 : pages ≡ life.pages = ap (λ (l : Life). l.pages) here in
          let some = span_pages class pages legal.0.0 in
          let inside = legal.0.1.here.inside in
          (omega arith, omega arith))
      | inr there ↦ lies-for procs region goal past life legal.2 there
    ]
lies-for procs region goal (Miss cycle pages class ∷ past) life legal h = lies-for procs region goal past life legal.2 h
lies-for procs region goal (Give cycle page pages ∷ past) life legal h = lies-for procs region goal past life legal.2 (from_others page (open_lives past) life h).0
lies-for procs region goal (Scav cycle page pages ∷ past) life legal h = lies-for procs region goal past life legal.2 h
lies-for procs region goal (Pull cycle proc page pages ∷ past) life legal h = lies-for procs region goal past life legal.2 h
lies-for procs region goal (Cut cycle proc page pages class ∷ past) life legal h =
    elim h [
      | inl here ↦ (
          let e1 : page ≡ life.page = ap (λ (l : Life). l.page) here in
          let e2 : pages ≡ life.pages = ap (λ (l : Life). l.pages) here in
          let some = span_pages class pages legal.0.2 in
          let last = cached-inside procs region goal past (page + pages - 1) proc legal.2 (legal.0.3.here (page + pages - 1) (omega arith) (omega arith)) in
          (omega arith, omega arith))
      | inr there ↦ lies-for procs region goal past life legal.2 there
    ]
lies-for procs region goal (Drop cycle proc page pages ∷ past) life legal h = lies-for procs region goal past life legal.2 h

-- two open lives with one first page are the same
pub same_page-for : (procs region goal : ℕ) (past : List Line) (a b : Life) → LegalFor procs region goal past → In a (open_lives past) → In b (open_lives past) → a.page ≡ b.page → a ≡ b
same_page-for procs region goal past a b legal ha hb e =
    let pa = lies-for procs region goal past a legal ha in
    let pb = lies-for procs region goal past b legal hb in
    share-for procs region goal past a b a.page legal ha hb (omega arith) (omega arith) (omega arith) (omega arith)

-- a page has an owner only where an open life begins at the owner and has the page
pub record IsOf (past : List Line) (p first : ℕ) (life : Life) : Type 0 where
  pub here : In life (open_lives past)
  pub begins : life.page ≡ first
  pub low : first ≤ p
  pub high : p < first + life.pages

pub owned-for : (procs region goal : ℕ) (past : List Line) (p first : ℕ) → LegalFor procs region goal past → owner past p ≡ Some first → (life : Life) × IsOf past p first life
owned-for procs region goal [] p first legal h = cc
owned-for procs region goal (Take cycle page pages class ∷ past) p first legal h =
    elim (cases_Bool (within p page pages)) [
      | inl is ↦ (
          let h' : Some page ≡ Some first = rw is at h in
          let e : page ≡ first = cc in
          let low = within-low p page pages is in
          let high = within-high p page pages is in
          (_, record { here = inl refl; begins = e; low = omega arith; high = omega arith }))
      | inr isnt ↦ (
          let h' : owner past p ≡ Some first = rw isnt at h in
          let old = owned-for procs region goal past p first legal.2 h' in
          (old.0, record { here = inr old.1.here; begins = old.1.begins; low = old.1.low; high = old.1.high }))
    ]
owned-for procs region goal (Miss cycle pages class ∷ past) p first legal h =
    let old = owned-for procs region goal past p first legal.2 h in
    (old.0, record { here = old.1.here; begins = old.1.begins; low = old.1.low; high = old.1.high })
owned-for procs region goal (Give cycle page pages ∷ past) p first legal h =
    elim (cases_Bool (within p page pages)) [
      | inl is ↦ (let h' : None ≡ Some first = rw is at h in cc)
      | inr isnt ↦ (
          let h' : owner past p ≡ Some first = rw isnt at h in
          let old = owned-for procs region goal past p first legal.2 h' in
          let given = legal.0.0 in
          let e1 : given.page ≡ page = legal.0.2 in
          let e2 : given.pages ≡ pages = legal.0.3 in
          let other : old.0.page ≢ page = λ e. (
          let same : old.0 ≡ given = same_page-for procs region goal past old.0 given legal.2 old.1.here legal.0.1 (e ∙ sym e1) in
          let e3 : old.0.pages ≡ given.pages = ap (λ (l : Life). l.pages) same in
          let b = old.1.begins in
          let low = old.1.low in
          let high = old.1.high in
          let w : within p page pages ≡ true = within-true p page pages (omega arith) (omega arith) in
          cc) in
          (old.0, record { here = to_others page (open_lives past) old.0 old.1.here other; begins = old.1.begins; low = old.1.low; high = old.1.high }))
    ]
owned-for procs region goal (Scav cycle page pages ∷ past) p first legal h =
    let old = owned-for procs region goal past p first legal.2 h in
    (old.0, record { here = old.1.here; begins = old.1.begins; low = old.1.low; high = old.1.high })
owned-for procs region goal (Pull cycle proc page pages ∷ past) p first legal h =
    let old = owned-for procs region goal past p first legal.2 h in
    (old.0, record { here = old.1.here; begins = old.1.begins; low = old.1.low; high = old.1.high })
owned-for procs region goal (Cut cycle proc page pages class ∷ past) p first legal h =
    elim (cases_Bool (within p page pages)) [
      | inl is ↦ (
          let h' : Some page ≡ Some first = rw is at h in
          let e : page ≡ first = cc in
          let low = within-low p page pages is in
          let high = within-high p page pages is in
          (_, record { here = inl refl; begins = e; low = omega arith; high = omega arith }))
      | inr isnt ↦ (
          let h' : owner past p ≡ Some first = rw isnt at h in
          let old = owned-for procs region goal past p first legal.2 h' in
          (old.0, record { here = inr old.1.here; begins = old.1.begins; low = old.1.low; high = old.1.high }))
    ]
owned-for procs region goal (Drop cycle proc page pages ∷ past) p first legal h =
    let old = owned-for procs region goal past p first legal.2 h in
    (old.0, record { here = old.1.here; begins = old.1.begins; low = old.1.low; high = old.1.high })

-- a page that a processor has in its cache is unscavenged
pub cached-unscavenged : (procs region goal : ℕ) (past : List Line) (p proc : ℕ) → LegalFor procs region goal past → cached past p ≡ Some proc → unscavenged past p ≡ true
cached-unscavenged procs region goal [] p proc legal h = cc
cached-unscavenged procs region goal (Take cycle page pages class ∷ past) p proc legal h =
    elim (cases_Bool (within p page pages)) [
      | inl is ↦ rw is refl
      | inr isnt ↦ rw isnt (cached-unscavenged procs region goal past p proc legal.2 h)
    ]
cached-unscavenged procs region goal (Miss cycle pages class ∷ past) p proc legal h = cached-unscavenged procs region goal past p proc legal.2 h
cached-unscavenged procs region goal (Give cycle page pages ∷ past) p proc legal h = cached-unscavenged procs region goal past p proc legal.2 h
cached-unscavenged procs region goal (Scav cycle page pages ∷ past) p proc legal h =
    elim (cases_Bool (within p page pages)) [
      | inl is ↦ (let free = (legal.0.1.loose p (within-low p page pages is) (within-high p page pages is)).0 in cc)
      | inr isnt ↦ rw isnt (cached-unscavenged procs region goal past p proc legal.2 h)
    ]
cached-unscavenged procs region goal (Pull cycle q page pages ∷ past) p proc legal h =
    elim (cases_Bool (within p page 64 && not (is_held past p))) [
      | inl is ↦ rw is refl
      | inr isnt ↦ (
          let h' : cached past p ≡ Some proc = rw isnt at h in
          rw isnt (cached-unscavenged procs region goal past p proc legal.2 h'))
    ]
cached-unscavenged procs region goal (Cut cycle q page pages class ∷ past) p proc legal h =
    elim (cases_Bool (within p page pages)) [
      | inl is ↦ (let h' : None ≡ Some proc = rw is at h in cc)
      | inr isnt ↦ (let h' : cached past p ≡ Some proc = rw isnt at h in cached-unscavenged procs region goal past p proc legal.2 h')
    ]
cached-unscavenged procs region goal (Drop cycle q page pages ∷ past) p proc legal h =
    elim (cases_Bool (is_number q (cached past p))) [
      | inl is ↦ (let h' : None ≡ Some proc = rw is at h in cc)
      | inr isnt ↦ (let h' : cached past p ≡ Some proc = rw isnt at h in cached-unscavenged procs region goal past p proc legal.2 h')
    ]

-- an owned page is unscavenged
pub owned-unscavenged-for : (procs region goal : ℕ) (past : List Line) (p first : ℕ) → LegalFor procs region goal past → owner past p ≡ Some first → unscavenged past p ≡ true
owned-unscavenged-for procs region goal [] p first legal h = cc
owned-unscavenged-for procs region goal (Take cycle page pages class ∷ past) p first legal h =
    elim (cases_Bool (within p page pages)) [
      | inl is ↦ rw is refl
      | inr isnt ↦ (
          let h' : owner past p ≡ Some first = rw isnt at h in
          rw isnt (owned-unscavenged-for procs region goal past p first legal.2 h'))
    ]
owned-unscavenged-for procs region goal (Miss cycle pages class ∷ past) p first legal h = owned-unscavenged-for procs region goal past p first legal.2 h
owned-unscavenged-for procs region goal (Give cycle page pages ∷ past) p first legal h =
    elim (cases_Bool (within p page pages)) [
      | inl is ↦ (let h' : None ≡ Some first = rw is at h in cc)
      | inr isnt ↦ (
          let h' : owner past p ≡ Some first = rw isnt at h in
          owned-unscavenged-for procs region goal past p first legal.2 h')
    ]
owned-unscavenged-for procs region goal (Scav cycle page pages ∷ past) p first legal h =
    elim (cases_Bool (within p page pages)) [
      | inl is ↦ (
          let free = (legal.0.1.loose p (within-low p page pages is) (within-high p page pages is)).0 in
          cc)
      | inr isnt ↦ rw isnt (owned-unscavenged-for procs region goal past p first legal.2 h)
    ]
owned-unscavenged-for procs region goal (Pull cycle q page pages ∷ past) p first legal h =
    elim (cases_Bool (within p page 64 && not (is_held past p))) [
      | inl is ↦ rw is refl
      | inr isnt ↦ rw isnt (owned-unscavenged-for procs region goal past p first legal.2 h)
    ]
owned-unscavenged-for procs region goal (Cut cycle proc page pages class ∷ past) p first legal h =
    elim (cases_Bool (within p page pages)) [
      | inl is ↦ cached-unscavenged procs region goal past p proc legal.2 (legal.0.3.here p (within-low p page pages is) (within-high p page pages is))
      | inr isnt ↦ (
          let h' : owner past p ≡ Some first = rw isnt at h in
          owned-unscavenged-for procs region goal past p first legal.2 h')
    ]
owned-unscavenged-for procs region goal (Drop cycle proc page pages ∷ past) p first legal h = owned-unscavenged-for procs region goal past p first legal.2 h

others-none : (page : ℕ) (lives : List Life) → ((life : Life) → In life lives → life.page ≢ page) → others page lives ≡ lives
others-none page [] none = refl
others-none page (first ∷ lives) none =
    let isnt : eqb first.page page ≡ false = ne_eqb first.page page (none first (inl refl)) in
    rw isnt (ap (λ (ls : List Life). first ∷ ls) (others-none page lives (λ life h. none life (inr h))))

apart-others : (page : ℕ) (lives : List Life) → AllApart (λ (a b : Life). a.page ≢ b.page) lives → AllApart (λ (a b : Life). a.page ≢ b.page) (others page lives)
apart-others page [] apart = tt
apart-others page (first ∷ lives) apart =
    elim (cases_Bool (eqb first.page page)) [
      | inl is ↦ rw is (apart-others page lives apart.1)
      | inr isnt ↦ rw isnt (λ life h. apart.0 life (from_others page lives life h).0, apart-others page lives apart.1)
    ]

-- open lives begin at different pages
pub pages-apart-for : (procs region goal : ℕ) (past : List Line) → LegalFor procs region goal past → AllApart (λ (a b : Life). a.page ≢ b.page) (open_lives past)
pages-apart-for procs region goal [] legal = tt
pages-apart-for procs region goal (Take cycle page pages class ∷ past) legal =
    let some = span_pages class pages legal.0.0 in (
      λ life h e. (
          let lie = lies-for procs region goal past life legal.2 h in
          let has = covers-for procs region goal past life page legal.2 h (omega arith) (omega arith) in
          let none = legal.0.1.here.free page (omega arith) (omega arith) in
          cc),
      pages-apart-for procs region goal past legal.2,
    )
pages-apart-for procs region goal (Miss cycle pages class ∷ past) legal = pages-apart-for procs region goal past legal.2
pages-apart-for procs region goal (Give cycle page pages ∷ past) legal = apart-others page (open_lives past) (pages-apart-for procs region goal past legal.2)
pages-apart-for procs region goal (Scav cycle page pages ∷ past) legal = pages-apart-for procs region goal past legal.2
pages-apart-for procs region goal (Pull cycle proc page pages ∷ past) legal = pages-apart-for procs region goal past legal.2
pages-apart-for procs region goal (Cut cycle proc page pages class ∷ past) legal =
    let some = span_pages class pages legal.0.2 in (
      λ life h e. (
          let lie = lies-for procs region goal past life legal.2 h in
          let has = covers-for procs region goal past life page legal.2 h (omega arith) (omega arith) in
          let none = exclusive procs region goal past page proc legal.2 (legal.0.3.here page (omega arith) (omega arith)) in
          cc),
      pages-apart-for procs region goal past legal.2,
    )
pages-apart-for procs region goal (Drop cycle proc page pages ∷ past) legal = pages-apart-for procs region goal past legal.2

-- without the life that begins at a page there is one life less
pub length-others : (page : ℕ) (lives : List Life) (life : Life) → AllApart (λ (a b : Life). a.page ≢ b.page) lives → In life lives → life.page ≡ page
    → length (others page lives) + 1 ≡ length lives
length-others page [] life apart h e = absurd h
length-others page (first ∷ lives) life apart h e =
    elim h [
      | inl here ↦ (
          let same : first.page ≡ page = ap (λ (l : Life). l.page) here ∙ e in
          let is : eqb first.page page ≡ true = eq-eqb first.page page same in
          let rest : others page lives ≡ lives = others-none page lives (λ other there q. apart.0 other there (same ∙ sym q)) in
          rw (is, rest) (omega arith))
      | inr there ↦ (
          let ne : first.page ≢ page = λ q. apart.0 life there (q ∙ sym e) in
          let isnt : eqb first.page page ≡ false = ne_eqb first.page page ne in
          let rest = length-others page lives life apart.1 there e in
          rw isnt (omega arith))
    ]

-- the same of a journal without page caches
pub covers : (region goal : ℕ) (past : List Line) (life : Life) (p : ℕ) → Legal region goal past → In life (open_lives past) → life.page ≤ p → p < life.page + life.pages → owner past p ≡ Some life.page
covers region goal past life p legal h low high = covers-for 0 region goal past life p legal h low high

pub share : (region goal : ℕ) (past : List Line) (a b : Life) (p : ℕ) → Legal region goal past → In a (open_lives past) → In b (open_lives past)
    → a.page ≤ p → p < a.page + a.pages → b.page ≤ p → p < b.page + b.pages → a ≡ b
share region goal past a b p legal ha hb al ah bl bh = share-for 0 region goal past a b p legal ha hb al ah bl bh

pub lies : (region goal : ℕ) (past : List Line) (life : Life) → Legal region goal past → In life (open_lives past) → (1 ≤ life.pages) × (life.page + life.pages ≤ region)
lies region goal past life legal h = lies-for 0 region goal past life legal h

pub same_page : (region goal : ℕ) (past : List Line) (a b : Life) → Legal region goal past → In a (open_lives past) → In b (open_lives past) → a.page ≡ b.page → a ≡ b
same_page region goal past a b legal ha hb e = same_page-for 0 region goal past a b legal ha hb e

pub pages-apart : (region goal : ℕ) (past : List Line) → Legal region goal past → AllApart (λ (a b : Life). a.page ≢ b.page) (open_lives past)
pages-apart region goal past legal = pages-apart-for 0 region goal past legal
