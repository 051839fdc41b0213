-- Blocks that are out, and the pages that processors have in their page caches, as lines are added.
use Rattle.std.proofs.Common.{◌≡◌, ◌≢◌, ℕ, zero, suc, ◌+◌, ◌<◌, ◌≤◌, Bool, true, false, ◌&&◌, not, eqb, if◌then◌else◌, List, [], ◌∷◌, length, Option, Some, None, refl, sym, ◌∙◌, ap, arith, ◌⊎◌, inl, inr}
use Rattle.std.proofs.lemmas.Bool.{cases_Bool, false≢true, eqb-true, eq-eqb, ne_eqb, cases_lt}
use Rattle.page_bitmap.specs.declared.line.Line.{Line}
use Rattle.page_bitmap.specs.declared.line.Line.TheVariants.{Take, Miss, Give, Scav, Pull, Cut, Drop}
use Rattle.page_cache.specs.declared.block.CutNote.{CutNote}
use Rattle.page_cache.specs.Runs.{IsFirstRun, HasNoRun}
use Rattle.page_alloc.specs.Lists.{In, AllApart}
use Rattle.page_alloc.specs.Owners.{within, cached, is_held, is_number}
use Rattle.page_alloc.specs.Blocks.{OpenBlock, block_of, blocks_but, open_blocks, HasBlock, HasNoBlock, IsFirstCut}
use Rattle.page_alloc.specs.Cuts.{AreCuts, behind_cuts, cache_of, without}
use Rattle.page_alloc.specs.Journal.{LegalFor}
use Rattle.page_alloc.proofs.Cutting.{blocks-apart}
use Rattle.page_alloc.proofs.Lives.{is-number, pulled-parts, within-low, within-high}

-- ---- blocks that are out

pub from-but : (proc : ℕ) (blocks : List OpenBlock) (block : OpenBlock) → In block (blocks_but proc blocks) → In block blocks × (block.proc ≢ proc)
from-but proc [] block h = absurd h
from-but proc (first ∷ blocks) block h =
    elim (cases_Bool (eqb first.proc proc)) [
      | inl is ↦ (let h' : In block (blocks_but proc blocks) = rw is at h in let rest = from-but proc blocks block h' in (inr rest.0, rest.1))
      | inr isnt ↦ (
          let h' : (first ≡ block) ⊎ In block (blocks_but proc blocks) = rw isnt at h in
          elim h' [
            | inl here ↦ (
              inl here,
              λ e. (
                  let same : first.proc ≡ proc = ap (λ (b : OpenBlock). b.proc) here ∙ e in
                  absurd (false≢true (sym isnt ∙ eq-eqb first.proc proc same))),
            )
            | inr there ↦ (let rest = from-but proc blocks block there in (inr rest.0, rest.1))
          ])
    ]

pub to-but : (proc : ℕ) (blocks : List OpenBlock) (block : OpenBlock) → In block blocks → block.proc ≢ proc → In block (blocks_but proc blocks)
to-but proc [] block h ne = absurd h
to-but proc (first ∷ blocks) block h ne =
    elim (cases_Bool (eqb first.proc proc)) [
      | inl is ↦ (
          let same : first.proc ≡ proc = eqb-true first.proc proc is in
          rw is (elim h [
            | inl here ↦ absurd (ne (ap (λ (b : OpenBlock). b.proc) (sym here) ∙ same))
            | inr there ↦ to-but proc blocks block there ne
          ]))
      | inr isnt ↦ rw isnt (elim h [
        | inl here ↦ inl here
        | inr there ↦ inr (to-but proc blocks block there ne)
      ])
    ]

-- cuts leave them as they are
pub behind-blocks : (cycle proc : ℕ) (cuts : List CutNote) (past : List Line) → open_blocks (behind_cuts cycle proc cuts past) ≡ open_blocks past
behind-blocks cycle proc [] past = refl
behind-blocks cycle proc (cut ∷ cuts) past = behind-blocks cycle proc cuts (Cut cycle proc cut.page cut.pages cut.class ∷ past)

-- a processor has one block out
same-block : (blocks : List OpenBlock) (a b : OpenBlock) → AllApart (λ (x y : OpenBlock). x.proc ≢ y.proc) blocks → In a blocks → In b blocks → a.proc ≡ b.proc → a ≡ b
same-block [] a b apart ha hb e = absurd ha
same-block (first ∷ blocks) a b apart ha hb e = elim ha [
  | inl fa ↦ elim hb [
    | inl fb ↦ sym fa ∙ fb
    | inr tb ↦ absurd (apart.0 b tb (ap (λ (x : OpenBlock). x.proc) fa ∙ e))
  ]
  | inr ta ↦ elim hb [
    | inl fb ↦ absurd (apart.0 a ta (ap (λ (x : OpenBlock). x.proc) fb ∙ sym e))
    | inr tb ↦ same-block blocks a b apart.1 ta tb e
  ]
]

pub one-page : (procs region goal : ℕ) (past : List Line) (proc p q : ℕ) → LegalFor procs region goal past → HasBlock past proc p → HasBlock past proc q → p ≡ q
one-page procs region goal past proc p q legal a b =
    let same : a.block ≡ b.block = same-block (open_blocks past) a.block b.block (blocks-apart procs region goal past legal) a.out b.out (a.of_proc ∙ sym b.of_proc) in
    sym a.first ∙ ap (λ (x : OpenBlock). x.page) same ∙ b.first

-- some block is out, or none is
pub some-block : (blocks : List OpenBlock) → 0 < length blocks → (block : OpenBlock) × In block blocks
some-block [] lt = absurd (omega arith)
some-block (block ∷ blocks) lt = (block, inl refl)

pub none-of : (blocks : List OpenBlock) → length blocks ≡ 0 → blocks ≡ []
none-of [] e = refl
none-of (block ∷ blocks) e = absurd (omega arith)

-- each is of a processor that has a page cache
pub proc-of : (procs region goal : ℕ) (past : List Line) (block : OpenBlock) → LegalFor procs region goal past → In block (open_blocks past) → block.proc < procs
proc-of procs region goal [] block legal h = absurd h
proc-of procs region goal (Take cycle page pages class ∷ past) block legal h = proc-of procs region goal past block legal.2 h
proc-of procs region goal (Miss cycle pages class ∷ past) block legal h = proc-of procs region goal past block legal.2 h
proc-of procs region goal (Give cycle page pages ∷ past) block legal h = proc-of procs region goal past block legal.2 h
proc-of procs region goal (Scav cycle page pages ∷ past) block legal h = proc-of procs region goal past block legal.2 h
proc-of procs region goal (Pull cycle proc page pages ∷ past) block legal h = elim h [
  | inl here ↦ (let e : proc ≡ block.proc = ap (λ (b : OpenBlock). b.proc) here in let lt = legal.0.0 in omega arith)
  | inr there ↦ proc-of procs region goal past block legal.2 there
]
proc-of procs region goal (Cut cycle proc page pages class ∷ past) block legal h = proc-of procs region goal past block legal.2 h
proc-of procs region goal (Drop cycle proc page pages ∷ past) block legal h = proc-of procs region goal past block legal.2 (from-but proc (open_blocks past) block h).0

-- so no more are out than there are processors
apart-but : (proc : ℕ) (blocks : List OpenBlock) → AllApart (λ (a b : OpenBlock). a.proc ≢ b.proc) blocks → AllApart (λ (a b : OpenBlock). a.proc ≢ b.proc) (blocks_but proc blocks)
apart-but proc [] apart = tt
apart-but proc (first ∷ blocks) apart =
    elim (cases_Bool (eqb first.proc proc)) [
      | inl is ↦ rw is (apart-but proc blocks apart.1)
      | inr isnt ↦ rw isnt (λ block h. apart.0 block (from-but proc blocks block h).0, apart-but proc blocks apart.1)
    ]

none-but : (proc : ℕ) (blocks : List OpenBlock) → ((block : OpenBlock) → In block blocks → block.proc ≢ proc) → blocks_but proc blocks ≡ blocks
none-but proc [] none = refl
none-but proc (first ∷ blocks) none =
    let isnt : eqb first.proc proc ≡ false = ne_eqb first.proc proc (none first (inl refl)) in
    rw isnt (ap (λ (bs : List OpenBlock). first ∷ bs) (none-but proc blocks (λ block h. none block (inr h))))

one-less : (proc : ℕ) (blocks : List OpenBlock) → AllApart (λ (a b : OpenBlock). a.proc ≢ b.proc) blocks → length blocks ≤ length (blocks_but proc blocks) + 1
one-less proc [] apart = omega arith
one-less proc (first ∷ blocks) apart =
    elim (cases_Bool (eqb first.proc proc)) [
      | inl is ↦ (
          let same : first.proc ≡ proc = eqb-true first.proc proc is in
          let rest : blocks_but proc blocks ≡ blocks = none-but proc blocks (λ other there q. apart.0 other there (same ∙ sym q)) in
          rw (is, rest) (omega arith))
      | inr isnt ↦ (let rest = one-less proc blocks apart.1 in rw isnt (omega arith))
    ]

pub few-procs : (n : ℕ) (blocks : List OpenBlock) → AllApart (λ (a b : OpenBlock). a.proc ≢ b.proc) blocks → ((block : OpenBlock) → In block blocks → block.proc < n) → length blocks ≤ n
few-procs zero [] apart low = omega arith
few-procs zero (first ∷ blocks) apart low = absurd (let none = low first (inl refl) in omega arith)
few-procs (suc n) blocks apart low =
    let rest = few-procs n (blocks_but n blocks) (apart-but n blocks apart) (λ block h. (let was = from-but n blocks block h in let lt = low block was.0 in let ne = was.1 in omega arith)) in
    let less = one-less n blocks apart in
    omega arith

-- ---- pages in page caches

pub number-is : (n : ℕ) (o : Option ℕ) → o ≡ Some n → is_number n o ≡ true
number-is n o e = rw e (eq-eqb n n refl)

-- a processor without a block has no page
pub none-cached : (past : List Line) (q p : ℕ) → HasNoBlock past q → cached past p ≢ Some q
none-cached [] q p none h = cc
none-cached (Take cycle page pages class ∷ past) q p none h = none-cached past q p none h
none-cached (Miss cycle pages class ∷ past) q p none h = none-cached past q p none h
none-cached (Give cycle page pages ∷ past) q p none h = none-cached past q p none h
none-cached (Scav cycle page pages ∷ past) q p none h = none-cached past q p none h
none-cached (Pull cycle proc page pages ∷ past) q p none h =
    elim (cases_Bool (within p page 64 && not (is_held past p))) [
      | inl is ↦ (let h' : Some proc ≡ Some q = rw is at h in let e : proc ≡ q = cc in none (block_of proc cycle page) (inl refl) e)
      | inr isnt ↦ (let h' : cached past p ≡ Some q = rw isnt at h in none-cached past q p (λ block there. none block (inr there)) h')
    ]
none-cached (Cut cycle proc page pages class ∷ past) q p none h =
    elim (cases_Bool (within p page pages)) [
      | inl is ↦ (let h' : None ≡ Some q = rw is at h in cc)
      | inr isnt ↦ (let h' : cached past p ≡ Some q = rw isnt at h in none-cached past q p none h')
    ]
none-cached (Drop cycle proc page pages ∷ past) q p none h =
    elim (cases_Bool (is_number proc (cached past p))) [
      | inl is ↦ (let h' : None ≡ Some q = rw is at h in cc)
      | inr isnt ↦ (
          let h' : cached past p ≡ Some q = rw isnt at h in
          let ne : q ≢ proc = λ e. absurd (false≢true (sym isnt ∙ number-is proc (cached past p) (h' ∙ ap (λ (n : ℕ). Some n) e))) in
          none-cached past q p (λ block there e. none block (to-but proc (open_blocks past) block there (λ d. ne (sym e ∙ d))) e) h')
    ]

pub none-left : (past : List Line) (q p : ℕ) → HasNoBlock past q → cache_of past q p ≡ false
none-left past q p none = elim (cases_Bool (is_number q (cached past p))) [
  | inl on ↦ absurd (none-cached past q p none (is-number q (cached past p) on))
  | inr off ↦ off
]

and-false : (b : Bool) → (b && false) ≡ false
and-false true = refl
and-false false = refl

and-true : (b : Bool) → (b && true) ≡ b
and-true true = refl
and-true false = refl

cut-cached : (o : Option ℕ) (w : Bool) (proc : ℕ) → is_number proc (if w then None else o) ≡ (is_number proc o && not w)
cut-cached o true proc = sym (and-false (is_number proc o))
cut-cached o false proc = sym (and-true (is_number proc o))

-- what is left of a processor's pages behind its cuts
pub left-of : (cycle proc : ℕ) (cuts : List CutNote) (past : List Line) (set left : ℕ → Bool) → ((p : ℕ) → set p ≡ cache_of past proc p) → AreCuts set cuts left
    → (p : ℕ) → left p ≡ cache_of (behind_cuts cycle proc cuts past) proc p
left-of cycle proc [] past set left same are p = are p ∙ same p
left-of cycle proc (cut ∷ cuts) past set left same are p =
    left-of cycle proc cuts (Cut cycle proc cut.page cut.pages cut.class ∷ past) (without set cut.page cut.pages) left
    (λ k. ap (λ (b : Bool). b && not (within k cut.page cut.pages)) (same k) ∙ sym (cut-cached (cached past k) (within k cut.page cut.pages) proc)) are.3 p

other-number : (q proc : ℕ) (o : Option ℕ) → q ≢ proc → o ≡ Some proc → is_number q o ≡ false
other-number q proc o ne e = rw e (ne_eqb proc q (λ d. ne (sym d)))

-- the pages of another processor are as they were behind cuts, a Drop and a Pull
pub other-cuts : (cycle proc q : ℕ) (cuts : List CutNote) (past : List Line) (set left : ℕ → Bool) → q ≢ proc → ((p : ℕ) → set p ≡ cache_of past proc p) → AreCuts set cuts left
    → (p : ℕ) → cache_of (behind_cuts cycle proc cuts past) q p ≡ cache_of past q p
other-cuts cycle proc q [] past set left ne same are p = refl
other-cuts cycle proc q (cut ∷ cuts) past set left ne same are p =
    other-cuts cycle proc q cuts (Cut cycle proc cut.page cut.pages cut.class ∷ past) (without set cut.page cut.pages) left ne
    (λ k. ap (λ (b : Bool). b && not (within k cut.page cut.pages)) (same k) ∙ sym (cut-cached (cached past k) (within k cut.page cut.pages) proc)) are.3 p
    ∙ elim (cases_Bool (within p cut.page cut.pages)) [
      | inl is ↦ (
          let has : set p ≡ true = are.2.run p (within-low p cut.page cut.pages is) (within-high p cut.page cut.pages is) in
          let mine = is-number proc (cached past p) (sym (same p) ∙ has) in
          rw is (sym (other-number q proc (cached past p) ne mine)))
      | inr isnt ↦ rw isnt refl
    ]

pub other-drop : (cycle proc page n q : ℕ) (past : List Line) → q ≢ proc → (p : ℕ) → cache_of (Drop cycle proc page n ∷ past) q p ≡ cache_of past q p
other-drop cycle proc page n q past ne p = elim (cases_Bool (is_number proc (cached past p))) [
  | inl is ↦ (let mine = is-number proc (cached past p) is in rw is (sym (other-number q proc (cached past p) ne mine)))
  | inr isnt ↦ rw isnt refl
]

pub other-pull : (cycle proc page n q : ℕ) (past : List Line) → q ≢ proc → (p : ℕ) → cache_of (Pull cycle proc page n ∷ past) q p ≡ cache_of past q p
other-pull cycle proc page n q past ne p = elim (cases_Bool (within p page 64 && not (is_held past p))) [
  | inl is ↦ (
      let none = (pulled-parts past p page is).1.cached in
      let off : eqb proc q ≡ false = ne_eqb proc q (λ d. ne (sym d)) in
      let there : is_number q (cached past p) ≡ false = rw none refl in
      rw is (off ∙ sym there))
  | inr isnt ↦ rw isnt refl
]

-- the first run of the pages that a processor has is the one to cut
pub first-cut : (past : List Line) (proc page n : ℕ) (set : ℕ → Bool) → ((p : ℕ) → set p ≡ cache_of past proc p) → IsFirstRun set n page → IsFirstCut past proc page n
first-cut past proc page n set same first = record {
  here = λ p above below. is-number proc (cached past p) (sym (same p) ∙ first.run p above below);
  least = λ q less run. first.least q less (λ p above below. same p ∙ number-is proc (cached past p) (run p above below));
}

pub no-cut-run : (past : List Line) (proc page n : ℕ) (set : ℕ → Bool) → ((p : ℕ) → set p ≡ cache_of past proc p) → HasNoRun set n → ¬ IsFirstCut past proc page n
no-cut-run past proc page n set same none first = none page (λ p above below. same p ∙ number-is proc (cached past p) (first.here p above below))

pub one-cut : (past : List Line) (proc a b n : ℕ) → IsFirstCut past proc a n → IsFirstCut past proc b n → a ≡ b
one-cut past proc a b n fa fb =
    elim (cases_lt a b) [
      | inl lt ↦ absurd (fb.least a lt fa.here)
      | inr ge ↦ elim (cases_lt b a) [ inl lt ↦ absurd (fa.least b lt fb.here) | inr le ↦ omega arith ]
    ]
