-- What is left of a line behind each of its numbers, and what a line that goes on otherwise does not say.
use Rattle.std.proofs.Common.{◌≡◌, ℕ, ◌^◌, ◌<◌, List, [], ◌∷◌, ◌++◌, codes, decimal, sym, ◌∙◌, arith, Option, Some, None, MatchOption}
use Rattle.std.proofs.lemmas.List.{append-nil}
use Rattle.page_bitmap.specs.declared.line.Line.{Line}
use Rattle.page_bitmap.specs.declared.line.Line.TheVariants.{Take, Miss, Give, Scav, Pull, Cut, Drop}
use Rattle.span_state.specs.declared.sweep.SweepNote.{SweepNote}
use Rattle.cycle_history.specs.declared.Answer.{Answer}
use Rattle.cycle_history.specs.declared.Answer.TheVariants.{Placed, Zero, Missed}
use Rattle.cycle_history.specs.declared.Total.{Total}
use Rattle.cycle_history.specs.declared.Prof.{Prof}
use Rattle.cycle_history.specs.Text.{answer_text, journal_text}
use Rattle.report_text.specs.declared.item.Item.TheVariants.{Object, Journal, Sweep, Class, Bucket}
use Rattle.report_text.specs.Items.{Says}
use Rattle.report_text.specs.Unique.{AnswerFits, LineFits}
use Rattle.report_text.specs.Words.{IsBlock, IsCutOut, IsHead, IsLast, IsMissed, IsNoCacheChange, IsNoPlainChange, IsRunOfPages, IsTaken}
use Rattle.report_text.proofs.Fields.{same_behind}
use Rattle.report_text.proofs.Numbers.{Within, one_head}

-- what stands behind a number and a blank
behind_head : (k n m : ℕ) (bytes r q : List ℕ) → Within k → IsHead k bytes n r → bytes ≡ decimal m ++ 32 ∷ q → m < k → r ≡ q
behind_head k n m bytes r q within head e small = (one_head k k n m bytes r q within within head (record { spelled = e; small = small })).1

-- the same of a number of 32, 64 and 8 bits behind a text
behind_short : (n m : ℕ) (text line bytes r q : List ℕ) → line ≡ text ++ bytes → IsHead (2 ^ 32) bytes n r → line ≡ text ++ (decimal m ++ 32 ∷ q) → m < 2 ^ 32 → r ≡ q
behind_short n m text line bytes r q front head e small = behind_head (2 ^ 32) n m bytes r q (omega arith) head (same_behind text bytes (decimal m ++ 32 ∷ q) (sym front ∙ e)) small

behind_long : (n m : ℕ) (text line bytes r q : List ℕ) → line ≡ text ++ bytes → IsHead (2 ^ 64) bytes n r → line ≡ text ++ (decimal m ++ 32 ∷ q) → m < 2 ^ 64 → r ≡ q
behind_long n m text line bytes r q front head e small = behind_head (2 ^ 64) n m bytes r q (omega arith) head (same_behind text bytes (decimal m ++ 32 ∷ q) (sym front ∙ e)) small

behind_byte : (n m : ℕ) (text line bytes r q : List ℕ) → line ≡ text ++ bytes → IsHead (2 ^ 8) bytes n r → line ≡ text ++ (decimal m ++ 32 ∷ q) → m < 2 ^ 8 → r ≡ q
behind_byte n m text line bytes r q front head e small = behind_head (2 ^ 8) n m bytes r q (omega arith) head (same_behind text bytes (decimal m ++ 32 ∷ q) (sym front ∙ e)) small

short_on : (n m : ℕ) (bytes r q : List ℕ) → IsHead (2 ^ 32) bytes n r → bytes ≡ decimal m ++ 32 ∷ q → m < 2 ^ 32 → r ≡ q
short_on n m bytes r q head e small = behind_head (2 ^ 32) n m bytes r q (omega arith) head e small

long_on : (n m : ℕ) (bytes r q : List ℕ) → IsHead (2 ^ 64) bytes n r → bytes ≡ decimal m ++ 32 ∷ q → m < 2 ^ 64 → r ≡ q
long_on n m bytes r q head e small = behind_head (2 ^ 64) n m bytes r q (omega arith) head e small

abbrev NoHead : ℕ → List ℕ → Type 0
NoHead bound bytes = (n : ℕ) (rest : List ℕ) → ¬ IsHead bound bytes n rest

abbrev NoLast : ℕ → List ℕ → Type 0
NoLast bound bytes = (n : ℕ) → ¬ IsLast bound bytes n

-- ---- buckets

bucket_1 : (line r0 r1 : List ℕ) (a : ℕ) → line ≡ codes "p " ++ r0 → IsHead (2 ^ 32) r0 a r1 → (prof : Prof) → Says line (Bucket prof)
    → r1 ≡ decimal prof.stack ++ 32 ∷ (decimal prof.size ++ 32 ∷ (decimal prof.allocs ++ 32 ∷ (decimal prof.frees ++ [])))
bucket_1 line r0 r1 a front h1 prof says = behind_short a prof.mark (codes "p ") line r0 r1 _ front h1 says.0 says.1.mark

pub bucket_stack : (line r0 r1 : List ℕ) (a : ℕ) → line ≡ codes "p " ++ r0 → IsHead (2 ^ 32) r0 a r1 → NoHead (2 ^ 32) r1 → (prof : Prof) → ¬ Says line (Bucket prof)
bucket_stack line r0 r1 a front h1 none prof says = none prof.stack _ (record { spelled = bucket_1 line r0 r1 a front h1 prof says; small = says.1.stack })

bucket_2 : (line r0 r1 r2 : List ℕ) (a b : ℕ) → line ≡ codes "p " ++ r0 → IsHead (2 ^ 32) r0 a r1 → IsHead (2 ^ 32) r1 b r2 → (prof : Prof) → Says line (Bucket prof)
    → r2 ≡ decimal prof.size ++ 32 ∷ (decimal prof.allocs ++ 32 ∷ (decimal prof.frees ++ []))
bucket_2 line r0 r1 r2 a b front h1 h2 prof says = short_on b prof.stack r1 r2 _ h2 (bucket_1 line r0 r1 a front h1 prof says) says.1.stack

pub bucket_size : (line r0 r1 r2 : List ℕ) (a b : ℕ) → line ≡ codes "p " ++ r0 → IsHead (2 ^ 32) r0 a r1 → IsHead (2 ^ 32) r1 b r2 → NoHead (2 ^ 64) r2 → (prof : Prof) → ¬ Says line (Bucket prof)
bucket_size line r0 r1 r2 a b front h1 h2 none prof says = none prof.size _ (record { spelled = bucket_2 line r0 r1 r2 a b front h1 h2 prof says; small = says.1.size })

bucket_3 : (line r0 r1 r2 r3 : List ℕ) (a b c : ℕ) → line ≡ codes "p " ++ r0 → IsHead (2 ^ 32) r0 a r1 → IsHead (2 ^ 32) r1 b r2 → IsHead (2 ^ 64) r2 c r3 → (prof : Prof) → Says line (Bucket prof)
    → r3 ≡ decimal prof.allocs ++ 32 ∷ (decimal prof.frees ++ [])
bucket_3 line r0 r1 r2 r3 a b c front h1 h2 h3 prof says = long_on c prof.size r2 r3 _ h3 (bucket_2 line r0 r1 r2 a b front h1 h2 prof says) says.1.size

pub bucket_allocs : (line r0 r1 r2 r3 : List ℕ) (a b c : ℕ) → line ≡ codes "p " ++ r0 → IsHead (2 ^ 32) r0 a r1 → IsHead (2 ^ 32) r1 b r2 → IsHead (2 ^ 64) r2 c r3 → NoHead (2 ^ 64) r3 → (prof : Prof) → ¬ Says line (Bucket prof)
bucket_allocs line r0 r1 r2 r3 a b c front h1 h2 h3 none prof says = none prof.allocs _ (record { spelled = bucket_3 line r0 r1 r2 r3 a b c front h1 h2 h3 prof says; small = says.1.allocs })

pub bucket_frees : (line r0 r1 r2 r3 r4 : List ℕ) (a b c d : ℕ) → line ≡ codes "p " ++ r0 → IsHead (2 ^ 32) r0 a r1 → IsHead (2 ^ 32) r1 b r2 → IsHead (2 ^ 64) r2 c r3 → IsHead (2 ^ 64) r3 d r4 → NoLast (2 ^ 64) r4
    → (prof : Prof) → ¬ Says line (Bucket prof)
bucket_frees line r0 r1 r2 r3 r4 a b c d front h1 h2 h3 h4 none prof says =
    none prof.frees (record { spelled = long_on d prof.allocs r3 r4 _ h4 (bucket_3 line r0 r1 r2 r3 a b c front h1 h2 h3 prof says) says.1.allocs; small = says.1.frees })

-- ---- size classes

class_1 : (line r0 r1 : List ℕ) (a : ℕ) → line ≡ codes "t " ++ r0 → IsHead (2 ^ 8) r0 a r1 → (total : Total) → Says line (Class total) → r1 ≡ decimal total.mallocs ++ 32 ∷ (decimal total.frees ++ [])
class_1 line r0 r1 a front h1 total says = behind_byte a total.class (codes "t ") line r0 r1 _ front h1 says.0 says.1.class

pub class_mallocs : (line r0 r1 : List ℕ) (a : ℕ) → line ≡ codes "t " ++ r0 → IsHead (2 ^ 8) r0 a r1 → NoHead (2 ^ 64) r1 → (total : Total) → ¬ Says line (Class total)
class_mallocs line r0 r1 a front h1 none total says = none total.mallocs _ (record { spelled = class_1 line r0 r1 a front h1 total says; small = says.1.mallocs })

pub class_frees : (line r0 r1 r2 : List ℕ) (a b : ℕ) → line ≡ codes "t " ++ r0 → IsHead (2 ^ 8) r0 a r1 → IsHead (2 ^ 64) r1 b r2 → NoLast (2 ^ 64) r2 → (total : Total) → ¬ Says line (Class total)
class_frees line r0 r1 r2 a b front h1 h2 none total says =
    none total.frees (record { spelled = long_on b total.mallocs r1 r2 _ h2 (class_1 line r0 r1 a front h1 total says) says.1.mallocs; small = says.1.frees })

-- ---- sweeps

sweep_1 : (line r0 r1 : List ℕ) (a : ℕ) → line ≡ codes "s " ++ r0 → IsHead (2 ^ 32) r0 a r1 → (note : SweepNote) → Says line (Sweep note)
    → r1 ≡ decimal note.page ++ 32 ∷ (decimal note.kept ++ 32 ∷ (decimal note.freed ++ []))
sweep_1 line r0 r1 a front h1 note says = behind_short a note.cycle (codes "s ") line r0 r1 _ front h1 says.0 says.1.cycle

pub sweep_page : (line r0 r1 : List ℕ) (a : ℕ) → line ≡ codes "s " ++ r0 → IsHead (2 ^ 32) r0 a r1 → NoHead (2 ^ 32) r1 → (note : SweepNote) → ¬ Says line (Sweep note)
sweep_page line r0 r1 a front h1 none note says = none note.page _ (record { spelled = sweep_1 line r0 r1 a front h1 note says; small = says.1.page })

sweep_2 : (line r0 r1 r2 : List ℕ) (a b : ℕ) → line ≡ codes "s " ++ r0 → IsHead (2 ^ 32) r0 a r1 → IsHead (2 ^ 32) r1 b r2 → (note : SweepNote) → Says line (Sweep note) → r2 ≡ decimal note.kept ++ 32 ∷ (decimal note.freed ++ [])
sweep_2 line r0 r1 r2 a b front h1 h2 note says = short_on b note.page r1 r2 _ h2 (sweep_1 line r0 r1 a front h1 note says) says.1.page

pub sweep_kept : (line r0 r1 r2 : List ℕ) (a b : ℕ) → line ≡ codes "s " ++ r0 → IsHead (2 ^ 32) r0 a r1 → IsHead (2 ^ 32) r1 b r2 → NoHead (2 ^ 32) r2 → (note : SweepNote) → ¬ Says line (Sweep note)
sweep_kept line r0 r1 r2 a b front h1 h2 none note says = none note.kept _ (record { spelled = sweep_2 line r0 r1 r2 a b front h1 h2 note says; small = says.1.kept })

pub sweep_freed : (line r0 r1 r2 r3 : List ℕ) (a b c : ℕ) → line ≡ codes "s " ++ r0 → IsHead (2 ^ 32) r0 a r1 → IsHead (2 ^ 32) r1 b r2 → IsHead (2 ^ 32) r2 c r3 → NoLast (2 ^ 32) r3 → (note : SweepNote) → ¬ Says line (Sweep note)
sweep_freed line r0 r1 r2 r3 a b c front h1 h2 h3 none note says =
    none note.freed (record { spelled = short_on c note.kept r2 r3 _ h3 (sweep_2 line r0 r1 r2 a b front h1 h2 note says) says.1.kept; small = says.1.freed })

-- ---- objects, and journal lines

pub object_answer : (line r0 r1 : List ℕ) (a : ℕ) → line ≡ codes "o " ++ r0 → IsHead (2 ^ 64) r0 a r1 → ((answer : Answer) → AnswerFits answer → 32 ∷ r1 ≡ answer_text answer → ⊥) → (n : ℕ) (answer : Answer) → ¬ Says line (Object n answer)
object_answer line r0 r1 a front h1 none n answer says = none answer says.1.1 (at answer (same_behind (codes "o ") _ _ (sym front ∙ says.0))) where
  blank : (q : List ℕ) → r0 ≡ decimal n ++ 32 ∷ q → 32 ∷ r1 ≡ 32 ∷ q
  blank q e = let same = long_on a n r0 r1 q h1 e says.1.0 in cc

  at : (x : Answer) → r0 ≡ decimal n ++ (answer_text x ++ []) → 32 ∷ r1 ≡ answer_text x
  at (Placed address) e = blank _ e ∙ append-nil _
  at Zero e = blank _ e ∙ append-nil _
  at (Missed number) e = blank _ e ∙ append-nil _

pub journal_change : (line r0 r1 : List ℕ) (a : ℕ) → line ≡ codes "j " ++ r0 → IsHead (2 ^ 64) r0 a r1 → ((change : Line) → LineFits change → r1 ≡ journal_text change → ⊥) → (n : ℕ) (change : Line) → ¬ Says line (Journal n change)
journal_change line r0 r1 a front h1 none n change says =
    none change says.1.1 (behind_long a n (codes "j ") line r0 r1 _ front h1 says.0 says.1.0 ∙ append-nil (journal_text change))

-- ---- what stands behind a journal line's cycle

taken_1 : (bytes r0 r1 : List ℕ) (a : ℕ) → bytes ≡ codes "take " ++ r0 → IsHead (2 ^ 32) r0 a r1 → (page pages class : ℕ) → IsTaken bytes page pages class → r1 ≡ decimal pages ++ 32 ∷ (decimal class ++ [])
taken_1 bytes r0 r1 a front h1 page pages class taken = behind_short a page (codes "take ") bytes r0 r1 _ front h1 taken.spelled taken.page_fits

pub taken_pages : (bytes r0 r1 : List ℕ) (a : ℕ) → bytes ≡ codes "take " ++ r0 → IsHead (2 ^ 32) r0 a r1 → NoHead (2 ^ 32) r1 → (page pages class : ℕ) → ¬ IsTaken bytes page pages class
taken_pages bytes r0 r1 a front h1 none page pages class taken = none pages _ (record { spelled = taken_1 bytes r0 r1 a front h1 page pages class taken; small = taken.pages_fit })

pub taken_class : (bytes r0 r1 r2 : List ℕ) (a b : ℕ) → bytes ≡ codes "take " ++ r0 → IsHead (2 ^ 32) r0 a r1 → IsHead (2 ^ 32) r1 b r2 → NoLast (2 ^ 8) r2 → (page pages class : ℕ) → ¬ IsTaken bytes page pages class
taken_class bytes r0 r1 r2 a b front h1 h2 none page pages class taken =
    none class (record { spelled = short_on b pages r1 r2 _ h2 (taken_1 bytes r0 r1 a front h1 page pages class taken) taken.pages_fit; small = taken.class_fits })

pub missed_class : (bytes r0 r1 : List ℕ) (a : ℕ) → bytes ≡ codes "miss " ++ r0 → IsHead (2 ^ 32) r0 a r1 → NoLast (2 ^ 8) r1 → (pages class : ℕ) → ¬ IsMissed bytes pages class
missed_class bytes r0 r1 a front h1 none pages class missed =
    none class (record { spelled = behind_short a pages (codes "miss ") bytes r0 r1 _ front h1 missed.spelled missed.pages_fit; small = missed.class_fits })

pub run_page : (word bytes r0 : List ℕ) → bytes ≡ word ++ r0 → NoHead (2 ^ 32) r0 → (page pages : ℕ) → ¬ IsRunOfPages word bytes page pages
run_page word bytes r0 front none page pages run = none page _ (record { spelled = same_behind word r0 _ (sym front ∙ run.spelled); small = run.page_fits })

pub run_pages : (word bytes r0 r1 : List ℕ) (a : ℕ) → bytes ≡ word ++ r0 → IsHead (2 ^ 32) r0 a r1 → NoLast (2 ^ 32) r1 → (page pages : ℕ) → ¬ IsRunOfPages word bytes page pages
run_pages word bytes r0 r1 a front h1 none page pages run =
    none pages (record { spelled = behind_short a page word bytes r0 r1 _ front h1 run.spelled run.page_fits; small = run.pages_fit })

cut_1 : (bytes r0 r1 : List ℕ) (a : ℕ) → bytes ≡ codes "cut " ++ r0 → IsHead (2 ^ 32) r0 a r1 → (proc page pages class : ℕ) → IsCutOut bytes proc page pages class
    → r1 ≡ decimal page ++ 32 ∷ (decimal pages ++ 32 ∷ (decimal class ++ []))
cut_1 bytes r0 r1 a front h1 proc page pages class cut = behind_short a proc (codes "cut ") bytes r0 r1 _ front h1 cut.spelled cut.proc_fits

pub cut_page : (bytes r0 r1 : List ℕ) (a : ℕ) → bytes ≡ codes "cut " ++ r0 → IsHead (2 ^ 32) r0 a r1 → NoHead (2 ^ 32) r1 → (proc page pages class : ℕ) → ¬ IsCutOut bytes proc page pages class
cut_page bytes r0 r1 a front h1 none proc page pages class cut = none page _ (record { spelled = cut_1 bytes r0 r1 a front h1 proc page pages class cut; small = cut.page_fits })

cut_2 : (bytes r0 r1 r2 : List ℕ) (a b : ℕ) → bytes ≡ codes "cut " ++ r0 → IsHead (2 ^ 32) r0 a r1 → IsHead (2 ^ 32) r1 b r2 → (proc page pages class : ℕ) → IsCutOut bytes proc page pages class
    → r2 ≡ decimal pages ++ 32 ∷ (decimal class ++ [])
cut_2 bytes r0 r1 r2 a b front h1 h2 proc page pages class cut = short_on b page r1 r2 _ h2 (cut_1 bytes r0 r1 a front h1 proc page pages class cut) cut.page_fits

pub cut_pages : (bytes r0 r1 r2 : List ℕ) (a b : ℕ) → bytes ≡ codes "cut " ++ r0 → IsHead (2 ^ 32) r0 a r1 → IsHead (2 ^ 32) r1 b r2 → NoHead (2 ^ 32) r2 → (proc page pages class : ℕ) → ¬ IsCutOut bytes proc page pages class
cut_pages bytes r0 r1 r2 a b front h1 h2 none proc page pages class cut =
    none pages _ (record { spelled = cut_2 bytes r0 r1 r2 a b front h1 h2 proc page pages class cut; small = cut.pages_fit })

pub cut_class : (bytes r0 r1 r2 r3 : List ℕ) (a b c : ℕ) → bytes ≡ codes "cut " ++ r0 → IsHead (2 ^ 32) r0 a r1 → IsHead (2 ^ 32) r1 b r2 → IsHead (2 ^ 32) r2 c r3 → NoLast (2 ^ 8) r3
    → (proc page pages class : ℕ) → ¬ IsCutOut bytes proc page pages class
cut_class bytes r0 r1 r2 r3 a b c front h1 h2 h3 none proc page pages class cut =
    none class (record { spelled = short_on c pages r2 r3 _ h3 (cut_2 bytes r0 r1 r2 a b front h1 h2 proc page pages class cut) cut.pages_fit; small = cut.class_fits })

pub block_proc : (word bytes r0 : List ℕ) → bytes ≡ word ++ r0 → NoHead (2 ^ 32) r0 → (proc page pages : ℕ) → ¬ IsBlock word bytes proc page pages
block_proc word bytes r0 front none proc page pages block = none proc _ (record { spelled = same_behind word r0 _ (sym front ∙ block.spelled); small = block.proc_fits })

block_1 : (word bytes r0 r1 : List ℕ) (a : ℕ) → bytes ≡ word ++ r0 → IsHead (2 ^ 32) r0 a r1 → (proc page pages : ℕ) → IsBlock word bytes proc page pages → r1 ≡ decimal page ++ 32 ∷ (decimal pages ++ [])
block_1 word bytes r0 r1 a front h1 proc page pages block = behind_short a proc word bytes r0 r1 _ front h1 block.spelled block.proc_fits

pub block_page : (word bytes r0 r1 : List ℕ) (a : ℕ) → bytes ≡ word ++ r0 → IsHead (2 ^ 32) r0 a r1 → NoHead (2 ^ 32) r1 → (proc page pages : ℕ) → ¬ IsBlock word bytes proc page pages
block_page word bytes r0 r1 a front h1 none proc page pages block = none page _ (record { spelled = block_1 word bytes r0 r1 a front h1 proc page pages block; small = block.page_fits })

pub block_pages : (word bytes r0 r1 r2 : List ℕ) (a b : ℕ) → bytes ≡ word ++ r0 → IsHead (2 ^ 32) r0 a r1 → IsHead (2 ^ 32) r1 b r2 → NoLast (2 ^ 32) r2 → (proc page pages : ℕ) → ¬ IsBlock word bytes proc page pages
block_pages word bytes r0 r1 r2 a b front h1 h2 none proc page pages block =
    none pages (record { spelled = short_on b page r1 r2 _ h2 (block_1 word bytes r0 r1 a front h1 proc page pages block) block.page_fits; small = block.pages_fit })

-- no kind of journal line stands there
pub no_change : (bytes r0 : List ℕ) (a : ℕ) → IsHead (2 ^ 32) bytes a r0 → IsNoPlainChange r0 → IsNoCacheChange r0 → (change : Line) → LineFits change → bytes ≡ journal_text change → ⊥
no_change bytes r0 a head plain cache (Take cycle page pages class) fits e =
    plain.take page pages class (record { spelled = short_on a cycle bytes r0 _ head e fits.0; page_fits = fits.1; pages_fit = fits.2; class_fits = fits.3 })
no_change bytes r0 a head plain cache (Miss cycle pages class) fits e =
    plain.miss pages class (record { spelled = short_on a cycle bytes r0 _ head e fits.0; pages_fit = fits.1; class_fits = fits.2 })
no_change bytes r0 a head plain cache (Give cycle page pages) fits e =
    plain.give page pages (record { spelled = short_on a cycle bytes r0 _ head e fits.0; page_fits = fits.1; pages_fit = fits.2 })
no_change bytes r0 a head plain cache (Scav cycle page pages) fits e =
    plain.scav page pages (record { spelled = short_on a cycle bytes r0 _ head e fits.0; page_fits = fits.1; pages_fit = fits.2 })
no_change bytes r0 a head plain cache (Pull cycle proc page pages) fits e =
    cache.pull proc page pages (record { spelled = short_on a cycle bytes r0 _ head e fits.0; proc_fits = fits.1; page_fits = fits.2; pages_fit = fits.3 })
no_change bytes r0 a head plain cache (Cut cycle proc page pages class) fits e =
    cache.cut proc page pages class (record { spelled = short_on a cycle bytes r0 _ head e fits.0; proc_fits = fits.1; page_fits = fits.2; pages_fit = fits.3; class_fits = fits.4 })
no_change bytes r0 a head plain cache (Drop cycle proc page pages) fits e =
    cache.drop proc page pages (record { spelled = short_on a cycle bytes r0 _ head e fits.0; proc_fits = fits.1; page_fits = fits.2; pages_fit = fits.3 })

-- a line of a page cache, or none, where no plain one stands
pub cache_or_none : (o : Option Line) (bytes r0 : List ℕ) (a : ℕ) → IsHead (2 ^ 32) bytes a r0 → IsNoPlainChange r0
    → MatchOption o (IsNoCacheChange r0) (λ change. LineFits change × (decimal a ++ 32 ∷ r0 ≡ journal_text change))
    → MatchOption o ((change : Line) → LineFits change → bytes ≡ journal_text change → ⊥) (λ change. LineFits change × (bytes ≡ journal_text change))
cache_or_none None bytes r0 a head plain none = no_change bytes r0 a head plain none
cache_or_none (Some change) bytes r0 a head plain found = (found.0, head.spelled ∙ found.1)
