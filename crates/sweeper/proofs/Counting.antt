-- Sums and counts of logs that are put together.
use Rattle.std.proofs.Common.{◌≡◌, ℕ, ◌+◌, ◌<◌, Bool, List, [], ◌∷◌, ◌++◌, map, reverse, refl, ap, ◌∙◌, arith}
use Rattle.std.proofs.lemmas.List.{reverse-append, map-append}
use Rattle.worker_log.specs.declared.Entry.{Entry}
use Rattle.worker_log.specs.declared.Entry.TheVariants.{Looked, LookedEmptyCell, Popped, Pushed, Swept, Took, Missed, Gave, Allocated, Found, Read, Added, Pulled, NoPage, Cut as CutEntry, NoCut, Settled}
use Rattle.worker_log.specs.declared.Sweeping.{Sweeping}
use Rattle.worker_log.specs.Logs.{sweepings}
use Rattle.worker_log.specs.Entries.{is_placing_in, is_pop_of, many}
use Rattle.worker_log.proofs.Logs.{many-append}
use Rattle.span_laws.specs.Logs.{is_taking}
use Rattle.span_laws.specs.Calls.{is_missing, is_placing, number_added, pages_swept}
use Rattle.sweep_laws.specs.Counts.{total}
use Rattle.span_set.specs.Blocks.{is_of_block}
use Rattle.sweeper.specs.Entries.{is_added, is_emptying_of, is_giving_of, is_keeping_of, is_look_of, is_push_at, is_read}
use Rattle.sweeper.specs.Work.{IsPlain, MakesNone, OnlySweeps, TakesNone, note_by, notes_of}
use Rattle.sweeper.specs.Tries.{SweepsNone}

-- sums add up
pub total-append : (number : Entry → ℕ) (xs ys : List Entry) → total number (xs ++ ys) ≡ total number xs + total number ys
total-append number [] ys = omega arith
total-append number (x ∷ xs) ys = let rest = total-append number xs ys in omega arith

-- what a log counts, a longer one counts
pub some-new : (test : Entry → Bool) (xs ys : List Entry) → 0 < many test xs → 0 < many test (xs ++ ys)
some-new test xs ys l = let a = many-append test xs ys in omega arith

pub some-old : (test : Entry → Bool) (xs ys : List Entry) → 0 < many test ys → 0 < many test (xs ++ ys)
some-old test xs ys l = let a = many-append test xs ys in omega arith

pub none-both : (test : Entry → Bool) (xs ys : List Entry) → many test xs ≡ 0 → many test ys ≡ 0 → many test (xs ++ ys) ≡ 0
none-both test xs ys a b = let c = many-append test xs ys in omega arith

-- the sweeps of a log
pub sweepings-append : (xs ys : List Entry) → sweepings (xs ++ ys) ≡ sweepings xs ++ sweepings ys
sweepings-append [] ys = refl
sweepings-append (Allocated a ∷ xs) ys = sweepings-append xs ys
sweepings-append (Swept s ∷ xs) ys = ap (λ (l : List Sweeping). s ∷ l) (sweepings-append xs ys)
sweepings-append (Missed m line ∷ xs) ys = sweepings-append xs ys
sweepings-append (Looked s h t ∷ xs) ys = sweepings-append xs ys
sweepings-append (LookedEmptyCell s i ∷ xs) ys = sweepings-append xs ys
sweepings-append (Pulled number line ∷ xs) ys = sweepings-append xs ys
sweepings-append (NoPage ∷ xs) ys = sweepings-append xs ys
sweepings-append (CutEntry page pages class ∷ xs) ys = sweepings-append xs ys
sweepings-append (NoCut pages left ∷ xs) ys = sweepings-append xs ys
sweepings-append (Settled number ∷ xs) ys = sweepings-append xs ys
sweepings-append (Popped s p ∷ xs) ys = sweepings-append xs ys
sweepings-append (Pushed s p ∷ xs) ys = sweepings-append xs ys
sweepings-append (Took m line ∷ xs) ys = sweepings-append xs ys
sweepings-append (Gave p m ∷ xs) ys = sweepings-append xs ys
sweepings-append (Found p w ∷ xs) ys = sweepings-append xs ys
sweepings-append (Read w v ∷ xs) ys = sweepings-append xs ys
sweepings-append (Added w v ∷ xs) ys = sweepings-append xs ys

-- and its notes: those of the older part come first
pub notes-append : (cycle : ℕ) (new old : List Entry) → notes_of cycle (new ++ old) ≡ notes_of cycle old ++ notes_of cycle new
notes-append cycle new old = ap (λ (l : List Sweeping). map (note_by cycle) (reverse l)) (sweepings-append new old)
    ∙ ap (map (note_by cycle)) (reverse-append (sweepings new) (sweepings old))
    ∙ map-append (note_by cycle) (reverse (sweepings old)) (reverse (sweepings new))

pub notes-none : (cycle : ℕ) (said : List Entry) → sweepings said ≡ [] → notes_of cycle said ≡ []
notes-none cycle said e = ap (λ (l : List Sweeping). map (note_by cycle) (reverse l)) e

-- what sweeping calls add, put together, is of that kind
pub sweeps-append : (g : ℕ) (xs ys : List Entry) → OnlySweeps g xs → OnlySweeps g ys → OnlySweeps g (xs ++ ys)
sweeps-append g xs ys a b = record {
  unplaced = none-both is_placing xs ys a.unplaced b.unplaced;
  unspent = none-both (is_added 3) xs ys a.unspent b.unspent;
  swept_pages = (let c = total-append (number_added 2) xs ys in let d = total-append pages_swept xs ys in let e = a.swept_pages in let f = b.swept_pages in omega arith);
  given = λ p. let c = many-append (is_giving_of p) xs ys in let d = many-append (is_emptying_of p) xs ys in let e = a.given p in let f = b.given p in omega arith;
  pushed = λ p. let c = many-append (is_push_at p) xs ys in let d = many-append (is_keeping_of p) xs ys in let e = a.pushed p in let f = b.pushed p in omega arith;
  unpopped = λ j p s. none-both (is_pop_of j p) xs ys (a.unpopped j p s) (b.unpopped j p s);
  unlooked = λ j s. none-both (is_look_of j) xs ys (a.unlooked j s) (b.unlooked j s);
  untouched = λ p. none-both (is_placing_in p) xs ys (a.untouched p) (b.untouched p);
}

pub takes-append : (xs ys : List Entry) → TakesNone xs → TakesNone ys → TakesNone (xs ++ ys)
takes-append xs ys a b = record { untaken = none-both is_taking xs ys a.untaken b.untaken; unmissed = none-both is_missing xs ys a.unmissed b.unmissed }

pub plain-append : (xs ys : List Entry) → IsPlain xs → IsPlain ys → IsPlain (xs ++ ys)
plain-append xs ys a b = record { takes_none = takes-append xs ys a.takes_none b.takes_none; unclaimed = none-both (is_added 4) xs ys a.unclaimed b.unclaimed; unread = λ i. none-both (is_read 4 i) xs ys (a.unread i) (b.unread i); keeps_block = none-both is_of_block xs ys a.keeps_block b.keeps_block }

-- what makes no span, put together, makes none
pub makes-append : (xs ys : List Entry) → MakesNone xs → MakesNone ys → MakesNone (xs ++ ys)
makes-append xs ys a b = record { takes_none = takes-append xs ys a.takes_none b.takes_none; unclaimed = none-both (is_added 4) xs ys a.unclaimed b.unclaimed; unread = λ i. none-both (is_read 4 i) xs ys (a.unread i) (b.unread i) }

pub plain-makes : (xs : List Entry) → IsPlain xs → MakesNone xs
plain-makes xs a = record { takes_none = a.takes_none; unclaimed = a.unclaimed; unread = a.unread }

pub none-append : (xs ys : List Entry) → SweepsNone xs → SweepsNone ys → SweepsNone (xs ++ ys)
none-append xs ys a b = record { none = sweepings-append xs ys ∙ ap (λ (l : List Sweeping). l ++ sweepings ys) a.none ∙ b.none; plain = plain-append xs ys a.plain b.plain }

-- nothing
pub nothing-sweeps : (g : ℕ) → OnlySweeps g []
nothing-sweeps g = record { unplaced = refl; unspent = refl; swept_pages = refl; given = λ p. refl; pushed = λ p. refl; unpopped = λ j p s. refl; unlooked = λ j s. refl; untouched = λ p. refl }

pub nothing-none : SweepsNone []
nothing-none = record { none = refl; plain = record { takes_none = record { untaken = refl; unmissed = refl }; unclaimed = refl; unread = λ i. refl; keeps_block = refl } }
