-- What the log of a call says, put together from what its parts say.
use Rattle.std.proofs.Common.{◌≡◌, ℕ, zero, suc, ◌+◌, ◌<◌, ◌&&◌, Bool, true, false, true≢false, eqb, eq-eqb, ne_eqb, List, [], ◌∷◌, ◌++◌, refl, sym, ap, ◌∙◌, arith}
use Rattle.std.specs.List.{AllByRecursion}
use Rattle.page_bitmap.specs.Counts.{one_if}
use Rattle.sweep_laws.specs.Counts.{one_if as count_if}
use Rattle.sweep_laws.specs.Reading.{class_of_set, is_swept_set}
use Rattle.worker_log.specs.declared.Entry.{Entry}
use Rattle.worker_log.specs.declared.Entry.TheVariants.{Looked, LookedEmptyCell, Popped, Pushed, Swept, Found, Read, Added}
use Rattle.worker_log.specs.declared.Sweeping.{Sweeping}
use Rattle.worker_log.specs.Logs.{sweepings}
use Rattle.worker_log.specs.SetNumbers.{is_full_set, swept_set, unswept_set}
use Rattle.worker_log.specs.Entries.{is_partial_push, is_pop, is_pop_of, is_push_of, is_sweep_of}
use Rattle.worker_log.proofs.Logs.{many-append}
use Rattle.span_state.specs.declared.sweep.SweepNote.{SweepNote}
use Rattle.span_laws.specs.Calls.{is_giving, is_missing, is_placing, note_in, notes_of, number_added, pages_swept}
use Rattle.span_laws.specs.Logs.{is_taking}
use Rattle.span_laws.proofs.CallLogs.{total-append}
use Rattle.span_set.specs.Blocks.{is_of_block}
use Rattle.span_set.specs.Pops.{IsLookAt}
use Rattle.span_set.proofs.Numbers.{full_is, partial_is, unswept_is}
use Rattle.central_lists.specs.Works.{Says, just, nothing}

pub same_if : (b : Bool) → one_if b ≡ count_if b
same_if true = refl
same_if false = refl

pub one_here : (x : ℕ) → one_if (eqb x x) ≡ 1
one_here x = ap one_if (eq-eqb x x refl)

pub none_else : (x y : ℕ) → (x ≡ y → ⊥) → one_if (eqb x y) ≡ 0
none_else x y d = ap one_if (ne_eqb x y d)

none_and : (a b : Bool) → a ≡ false → one_if (a && b) ≡ 0
none_and a b e = ap (λ (z : Bool). one_if (z && b)) e

-- an unswept set of a class is one of two
one_of_two : (g class full : ℕ) → full < 2 → one_if (eqb (unswept_set g class full) (unswept_set g class 0)) + one_if (eqb (unswept_set g class full) (unswept_set g class 1)) ≡ 1
one_of_two g class zero low = let a = one_here (unswept_set g class 0) in let b = none_else (unswept_set g class 0) (unswept_set g class 1) (λ e. omega arith) in omega arith
one_of_two g class (suc zero) low = let a = one_here (unswept_set g class 1) in let b = none_else (unswept_set g class 1) (unswept_set g class 0) (λ e. omega arith) in omega arith
one_of_two g class (suc (suc full)) low = absurd (omega arith)

pub class_here : (g class full : ℕ) → full < 2 → class_of_set (unswept_set g class full) ≡ class
class_here g class full low = omega arith

module _ (g class : ℕ) where
  pub says-nil : Says g class 0 nothing []
  says-nil = record {
    hides_nothing = refl;
    tried_is = refl;
    pushes = λ p. refl;
    adds_pages = refl;
    spends_nothing = refl;
    claims_nothing = refl;
    takes_nothing = refl;
    misses_nothing = refl;
    gives_nothing = refl;
    places_nothing = refl;
    keeps_block = refl;
    pops_no_full = λ j p s f. refl;
  }

  pub says-trans : (t u v : ℕ) (k m n : ℕ → ℕ) (x y : List Entry) → Says g class t k x → Says g class u m y → t + u ≡ v → ((p : ℕ) → k p + m p ≡ n p) → Says g class v n (y ++ x)
  says-trans t u v k m n x y a b sum mores = record {
    hides_nothing = let e = many-append is_partial_push y x in let i = a.hides_nothing in let j = b.hides_nothing in omega arith;
    tried_is = let e = many-append (is_pop (unswept_set g class 0)) y x in let f = many-append (is_pop (unswept_set g class 1)) y x in let i = a.tried_is in let j = b.tried_is in omega arith;
    pushes = λ p. let e = many-append (is_sweep_of p) y x in let f = many-append (is_push_of (swept_set g class 1) p) y x in let i = a.pushes p in let j = b.pushes p in let s = mores p in omega arith;
    adds_pages = let e = total-append (number_added 2) y x in let f = total-append pages_swept y x in let i = a.adds_pages in let j = b.adds_pages in omega arith;
    spends_nothing = let e = total-append (number_added 3) y x in let i = a.spends_nothing in let j = b.spends_nothing in omega arith;
    claims_nothing = let e = total-append (number_added 4) y x in let i = a.claims_nothing in let j = b.claims_nothing in omega arith;
    takes_nothing = let e = many-append is_taking y x in let i = a.takes_nothing in let j = b.takes_nothing in omega arith;
    misses_nothing = let e = many-append is_missing y x in let i = a.misses_nothing in let j = b.misses_nothing in omega arith;
    gives_nothing = let e = many-append is_giving y x in let i = a.gives_nothing in let j = b.gives_nothing in omega arith;
    places_nothing = let e = many-append is_placing y x in let i = a.places_nothing in let j = b.places_nothing in omega arith;
    keeps_block = let e = many-append is_of_block y x in let i = a.keeps_block in let j = b.keeps_block in omega arith;
    pops_no_full = λ j p s f. let e = many-append (is_pop_of j p) y x in let i = a.pops_no_full j p s f in let l = b.pops_no_full j p s f in omega arith;
  }

  -- an entry that only looks
  looked : (set head tail : ℕ) → Says g class 0 nothing (Looked set head tail ∷ [])
  looked set head tail = record {
    hides_nothing = refl;
    tried_is = refl;
    pushes = λ p. refl;
    adds_pages = refl;
    spends_nothing = refl;
    claims_nothing = refl;
    takes_nothing = refl;
    misses_nothing = refl;
    gives_nothing = refl;
    places_nothing = refl;
    keeps_block = refl;
    pops_no_full = λ j p s f. refl;
  }

  read : (value : ℕ) → Says g class 0 nothing (Read 1 value ∷ [])
  read value = record {
    hides_nothing = refl;
    tried_is = refl;
    pushes = λ p. refl;
    adds_pages = refl;
    spends_nothing = refl;
    claims_nothing = refl;
    takes_nothing = refl;
    misses_nothing = refl;
    gives_nothing = refl;
    places_nothing = refl;
    keeps_block = refl;
    pops_no_full = λ j p s f. refl;
  }

  pub blank : (set index : ℕ) → Says g class 0 nothing (LookedEmptyCell set index ∷ [])
  blank set index = record {
    hides_nothing = refl;
    tried_is = refl;
    pushes = λ p. refl;
    adds_pages = refl;
    spends_nothing = refl;
    claims_nothing = refl;
    takes_nothing = refl;
    misses_nothing = refl;
    gives_nothing = refl;
    places_nothing = refl;
    keeps_block = refl;
    pops_no_full = λ j p s f. refl;
  }

  pub found : (page word : ℕ) → Says g class 0 nothing (Found page word ∷ [])
  found page word = record {
    hides_nothing = refl;
    tried_is = refl;
    pushes = λ p. refl;
    adds_pages = refl;
    spends_nothing = refl;
    claims_nothing = refl;
    takes_nothing = refl;
    misses_nothing = refl;
    gives_nothing = refl;
    places_nothing = refl;
    keeps_block = refl;
    pops_no_full = λ j p s f. refl;
  }

  -- looks at a set, behind a reading of the generation
  pub looks_say : (set value : ℕ) (said : List Entry) → AllByRecursion (IsLookAt set) said → Says g class 0 nothing (said ++ Read 1 value ∷ [])
  looks_say set value [] l = read value
  looks_say set value (Looked s h t ∷ said) l = says-trans 0 0 0 nothing nothing nothing (said ++ Read 1 value ∷ []) (Looked s h t ∷ []) (looks_say set value said l.1) (looked s h t) (omega arith) (λ p. omega arith)
  looks_say set value (_ ∷ said) l = absurd l.0

  pub last_look : (set head tail value : ℕ) (said : List Entry) → AllByRecursion (IsLookAt set) said → Says g class 0 nothing (Looked set head tail ∷ (said ++ Read 1 value ∷ []))
  last_look set head tail value said l = says-trans 0 0 0 nothing nothing nothing (said ++ Read 1 value ∷ []) (Looked set head tail ∷ []) (looks_say set value said l) (looked set head tail) (omega arith) (λ p. omega arith)

  -- a pop from an unswept set of the class
  pub tried : (full page : ℕ) → full < 2 → Says g class 1 nothing (Popped (unswept_set g class full) page ∷ [])
  tried full page low = record {
    hides_nothing = refl;
    tried_is = let o = one_of_two g class full low in omega arith;
    pushes = λ p. refl;
    adds_pages = refl;
    spends_nothing = refl;
    claims_nothing = refl;
    takes_nothing = refl;
    misses_nothing = refl;
    gives_nothing = refl;
    places_nothing = refl;
    keeps_block = refl;
    pops_no_full = λ j p s f. let z = none_and (eqb (unswept_set g class full) j) (eqb page p) (ne_eqb _ j (λ e. true≢false (sym s ∙ ap (is_swept_set g) (sym e) ∙ unswept_is g class full (omega arith)))) in omega arith;
  }

  -- a pop from the swept partial set
  pub taken : (page : ℕ) → Says g class 0 nothing (Popped (swept_set g class 0) page ∷ [])
  taken page = record {
    hides_nothing = refl;
    tried_is = let a = none_else (swept_set g class 0) (unswept_set g class 0) (λ e. omega arith) in let b = none_else (swept_set g class 0) (unswept_set g class 1) (λ e. omega arith) in omega arith;
    pushes = λ p. refl;
    adds_pages = refl;
    spends_nothing = refl;
    claims_nothing = refl;
    takes_nothing = refl;
    misses_nothing = refl;
    gives_nothing = refl;
    places_nothing = refl;
    keeps_block = refl;
    pops_no_full = λ j p s f. let z = none_and (eqb (swept_set g class 0) j) (eqb page p) (ne_eqb _ j (λ e. true≢false (sym f ∙ ap is_full_set (sym e) ∙ partial_is g class))) in omega arith;
  }

  -- a sweep in hand
  pub swept : (s : Sweeping) (before value : ℕ) → Says g class 0 (just s.page) (Swept s ∷ Added 2 s.pages ∷ Read 2 before ∷ Read 1 value ∷ [])
  swept s before value = record {
    hides_nothing = refl;
    tried_is = refl;
    pushes = λ p. let e = same_if (eqb s.page p) in omega arith;
    adds_pages = omega arith;
    spends_nothing = refl;
    claims_nothing = refl;
    takes_nothing = refl;
    misses_nothing = refl;
    gives_nothing = refl;
    places_nothing = refl;
    keeps_block = refl;
    pops_no_full = λ j p t f. refl;
  }

  -- one with its push to the full set
  pub pushed : (s : Sweeping) (before value again : ℕ) → Says g class 0 nothing (Pushed (swept_set g class 1) s.page ∷ Read 1 again ∷ Swept s ∷ Added 2 s.pages ∷ Read 2 before ∷ Read 1 value ∷ [])
  pushed s before value again = record {
    hides_nothing = rw (full_is g class) refl;
    tried_is = refl;
    pushes = λ p. rw (eq-eqb (swept_set g class 1) (swept_set g class 1) refl) (omega arith);
    adds_pages = omega arith;
    spends_nothing = refl;
    claims_nothing = refl;
    takes_nothing = refl;
    misses_nothing = refl;
    gives_nothing = refl;
    places_nothing = refl;
    keeps_block = refl;
    pops_no_full = λ j p t f. refl;
  }

-- looks sweep nothing
pub looks_sweep : (set value : ℕ) (said : List Entry) → AllByRecursion (IsLookAt set) said → sweepings (said ++ Read 1 value ∷ []) ≡ []
looks_sweep set value [] l = refl
looks_sweep set value (Looked s h t ∷ said) l = looks_sweep set value said l.1
looks_sweep set value (_ ∷ said) l = absurd l.0

-- looks make no note
pub looks_note : (g set value : ℕ) (said : List Entry) → AllByRecursion (IsLookAt set) said → notes_of g (said ++ Read 1 value ∷ []) ≡ []
looks_note g set value [] l = refl
looks_note g set value (Looked s h t ∷ said) l = ap (λ (x : List SweepNote). x ++ note_in g (Looked s h t)) (looks_note g set value said l.1)
looks_note g set value (_ ∷ said) l = absurd l.0
