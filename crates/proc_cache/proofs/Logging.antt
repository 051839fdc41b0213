-- What logs sum up to, and in which words.
use Rattle.std.proofs.Common.{◌≡◌, ℕ, ◌+◌, Bool, true, false, List, [], ◌∷◌, ◌++◌, refl, ap, ◌∙◌, arith}
use Rattle.page_bitmap.specs.Counts.{one_if}
use Rattle.page_bitmap.specs.declared.line.Line.{Line}
use Rattle.page_bitmap.specs.declared.line.Line.TheVariants.{Take, Miss, Give, Scav, Pull, Cut, Drop}
use Rattle.sweep_laws.specs.Named.{only}
use Rattle.worker_log.specs.declared.Entry.{Entry}
use Rattle.worker_log.specs.declared.Entry.TheVariants.{Looked, LookedEmptyCell, Popped, Pushed, Swept, Took, Missed, Gave, Allocated, Found, Read, Added, Pulled, NoPage, Cut as CutEntry, NoCut, Settled}
use Rattle.worker_log.specs.declared.Placing.{Placing}
use Rattle.worker_log.specs.Logs.{Refusal, placings, refusals, refused}
use Rattle.worker_log.specs.Entries.{many}
use Rattle.worker_log.proofs.Logs.{many-append}
use Rattle.span_laws.specs.Calls.{added, is_missing, is_placing, number_added}
use Rattle.span_laws.specs.Logs.{is_taking}
use Rattle.sweeper.specs.Entries.{is_added}
use Rattle.proc_cache.specs.Leaves.{Sums}
use Rattle.proc_cache.proofs.Leaving.{total-append}

pub sums-append : (a b c d e f g h : ℕ) (later first : List Entry) → Sums a b c d first → Sums e f g h later → Sums (a + e) (b + f) (c + g) (d + h) (later ++ first)
sums-append a b c d e f g h later first x y = record {
  spends = let t = total-append (number_added 3) later first in let p = x.spends in let q = y.spends in omega arith;
  takes = let t = many-append is_taking later first in let p = x.takes in let q = y.takes in omega arith;
  misses = let t = many-append is_missing later first in let p = x.misses in let q = y.misses in omega arith;
  places = let t = many-append is_placing later first in let p = x.places in let q = y.places in omega arith;
}

-- a log that places nothing has no placings, and one without a refusal no refusals
pub no_placings : (said : List Entry) → many is_placing said ≡ 0 → placings said ≡ []
no_placings [] e = refl
no_placings (Allocated a ∷ said) e = absurd (omega arith)
no_placings (Swept s ∷ said) e = no_placings said (omega arith)
no_placings (Missed number line ∷ said) e = no_placings said (omega arith)
no_placings (Looked set head tail ∷ said) e = no_placings said (omega arith)
no_placings (LookedEmptyCell set index ∷ said) e = no_placings said (omega arith)
no_placings (Pulled number line ∷ said) e = no_placings said (omega arith)
no_placings (NoPage ∷ said) e = no_placings said (omega arith)
no_placings (CutEntry page pages class ∷ said) e = no_placings said (omega arith)
no_placings (NoCut pages left ∷ said) e = no_placings said (omega arith)
no_placings (Settled number ∷ said) e = no_placings said (omega arith)
no_placings (Popped set page ∷ said) e = no_placings said (omega arith)
no_placings (Pushed set page ∷ said) e = no_placings said (omega arith)
no_placings (Took number line ∷ said) e = no_placings said (omega arith)
no_placings (Gave page pages ∷ said) e = no_placings said (omega arith)
no_placings (Found page word ∷ said) e = no_placings said (omega arith)
no_placings (Read word value ∷ said) e = no_placings said (omega arith)
no_placings (Added word value ∷ said) e = no_placings said (omega arith)

pub no_refusals : (said : List Entry) → many is_missing said ≡ 0 → refusals said ≡ []
no_refusals [] e = refl
no_refusals (Missed number line ∷ said) e = absurd (omega arith)
no_refusals (Allocated a ∷ said) e = no_refusals said (omega arith)
no_refusals (Swept s ∷ said) e = no_refusals said (omega arith)
no_refusals (Looked set head tail ∷ said) e = no_refusals said (omega arith)
no_refusals (LookedEmptyCell set index ∷ said) e = no_refusals said (omega arith)
no_refusals (Pulled number line ∷ said) e = no_refusals said (omega arith)
no_refusals (NoPage ∷ said) e = no_refusals said (omega arith)
no_refusals (CutEntry page pages class ∷ said) e = no_refusals said (omega arith)
no_refusals (NoCut pages left ∷ said) e = no_refusals said (omega arith)
no_refusals (Settled number ∷ said) e = no_refusals said (omega arith)
no_refusals (Popped set page ∷ said) e = no_refusals said (omega arith)
no_refusals (Pushed set page ∷ said) e = no_refusals said (omega arith)
no_refusals (Took number line ∷ said) e = no_refusals said (omega arith)
no_refusals (Gave page pages ∷ said) e = no_refusals said (omega arith)
no_refusals (Found page word ∷ said) e = no_refusals said (omega arith)
no_refusals (Read word value ∷ said) e = no_refusals said (omega arith)
no_refusals (Added word value ∷ said) e = no_refusals said (omega arith)

-- placings and refusals of two logs
pub placings-append : (later first : List Entry) → placings (later ++ first) ≡ placings later ++ placings first
placings-append [] first = refl
placings-append (Allocated a ∷ later) first = ap (λ (l : List Placing). a ∷ l) (placings-append later first)
placings-append (Swept s ∷ later) first = placings-append later first
placings-append (Missed number line ∷ later) first = placings-append later first
placings-append (Looked set head tail ∷ later) first = placings-append later first
placings-append (LookedEmptyCell set index ∷ later) first = placings-append later first
placings-append (Pulled number line ∷ later) first = placings-append later first
placings-append (NoPage ∷ later) first = placings-append later first
placings-append (CutEntry page pages class ∷ later) first = placings-append later first
placings-append (NoCut pages left ∷ later) first = placings-append later first
placings-append (Settled number ∷ later) first = placings-append later first
placings-append (Popped set page ∷ later) first = placings-append later first
placings-append (Pushed set page ∷ later) first = placings-append later first
placings-append (Took number line ∷ later) first = placings-append later first
placings-append (Gave page pages ∷ later) first = placings-append later first
placings-append (Found page word ∷ later) first = placings-append later first
placings-append (Read word value ∷ later) first = placings-append later first
placings-append (Added word value ∷ later) first = placings-append later first

refused-append : (number : ℕ) (line : Line) (xs ys : List Refusal) → refused number line (xs ++ ys) ≡ refused number line xs ++ ys
refused-append number (Miss cycle pages class) xs ys = refl
refused-append number (Take cycle page pages class) xs ys = refl
refused-append number (Give cycle page pages) xs ys = refl
refused-append number (Scav cycle page pages) xs ys = refl
refused-append number (Pull cycle proc page pages) xs ys = refl
refused-append number (Cut cycle proc page pages class) xs ys = refl
refused-append number (Drop cycle proc page pages) xs ys = refl

pub refusals-append : (later first : List Entry) → refusals (later ++ first) ≡ refusals later ++ refusals first
refusals-append [] first = refl
refusals-append (Missed number line ∷ later) first = ap (refused number line) (refusals-append later first) ∙ refused-append number line (refusals later) (refusals first)
refusals-append (Allocated a ∷ later) first = refusals-append later first
refusals-append (Swept s ∷ later) first = refusals-append later first
refusals-append (Looked set head tail ∷ later) first = refusals-append later first
refusals-append (LookedEmptyCell set index ∷ later) first = refusals-append later first
refusals-append (Pulled number line ∷ later) first = refusals-append later first
refusals-append (NoPage ∷ later) first = refusals-append later first
refusals-append (CutEntry page pages class ∷ later) first = refusals-append later first
refusals-append (NoCut pages left ∷ later) first = refusals-append later first
refusals-append (Settled number ∷ later) first = refusals-append later first
refusals-append (Popped set page ∷ later) first = refusals-append later first
refusals-append (Pushed set page ∷ later) first = refusals-append later first
refusals-append (Took number line ∷ later) first = refusals-append later first
refusals-append (Gave page pages ∷ later) first = refusals-append later first
refusals-append (Found page word ∷ later) first = refusals-append later first
refusals-append (Read word value ∷ later) first = refusals-append later first
refusals-append (Added word value ∷ later) first = refusals-append later first

-- a word to which nothing is added
pub adds_none : (word : ℕ) (said : List Entry) → many (is_added word) said ≡ 0 → added word said ≡ 0
adds_none word [] e = refl
adds_none word (Added w n ∷ said) e = let r = adds_none word said (omega arith) in let o = none (Rattle.std.specs.Prelude.◌==◌ w word) n (omega arith) in omega arith
  where
    none : (b : Bool) (n : ℕ) → one_if b ≡ 0 → only b n ≡ 0
    none true n e = absurd (omega arith)
    none false n e = refl
adds_none word (Allocated a ∷ said) e = let r = adds_none word said (omega arith) in omega arith
adds_none word (Swept s ∷ said) e = let r = adds_none word said (omega arith) in omega arith
adds_none word (Missed number line ∷ said) e = let r = adds_none word said (omega arith) in omega arith
adds_none word (Looked set head tail ∷ said) e = let r = adds_none word said (omega arith) in omega arith
adds_none word (LookedEmptyCell set index ∷ said) e = let r = adds_none word said (omega arith) in omega arith
adds_none word (Pulled number line ∷ said) e = let r = adds_none word said (omega arith) in omega arith
adds_none word (NoPage ∷ said) e = let r = adds_none word said (omega arith) in omega arith
adds_none word (CutEntry page pages class ∷ said) e = let r = adds_none word said (omega arith) in omega arith
adds_none word (NoCut pages left ∷ said) e = let r = adds_none word said (omega arith) in omega arith
adds_none word (Settled number ∷ said) e = let r = adds_none word said (omega arith) in omega arith
adds_none word (Popped set page ∷ said) e = let r = adds_none word said (omega arith) in omega arith
adds_none word (Pushed set page ∷ said) e = let r = adds_none word said (omega arith) in omega arith
adds_none word (Took number line ∷ said) e = let r = adds_none word said (omega arith) in omega arith
adds_none word (Gave page pages ∷ said) e = let r = adds_none word said (omega arith) in omega arith
adds_none word (Found page w ∷ said) e = let r = adds_none word said (omega arith) in omega arith
adds_none word (Read w value ∷ said) e = let r = adds_none word said (omega arith) in omega arith
