-- Whether the newest entry of a log that tells of the span of a page is a sweep. A log has its newest entry first.
use Rattle.std.specs.Prelude.{ℕ, ◌==◌, ◌&&◌, ◌||◌, Bool, false, not, List, [], ◌∷◌}
use Rattle.page_bitmap.specs.declared.line.Line.{Line}
use Rattle.page_bitmap.specs.declared.line.Line.TheVariants.{Take, Miss, Give, Scav, Pull, Cut as CutLine, Drop}
use Rattle.worker_log.specs.declared.Entry.{Entry}
use Rattle.worker_log.specs.declared.Entry.TheVariants.{Looked, LookedEmptyCell, Popped, Pushed, Swept, Took, Missed, Gave, Allocated, Found, Read, Added, Pulled, NoPage, Cut, NoCut, Settled}

-- The line takes a run that begins at the page.
abbrev pub is_take_at : ℕ → Line → Bool
is_take_at p (Take cycle page pages class) = page == p
is_take_at p (Miss cycle pages class) = false
is_take_at p (Give cycle page pages) = false
is_take_at p (Scav cycle page pages) = false
is_take_at p (Pull cycle proc page pages) = false
is_take_at p (CutLine cycle proc page pages class) = page == p
is_take_at p (Drop cycle proc page pages) = false

-- Of the entries that sweep, take, cut or give back the span of the page the newest is a sweep.
abbrev pub is_swept_last : ℕ → List Entry → Bool
is_swept_last p [] = false
is_swept_last p (Swept s ∷ log) = s.page == p || is_swept_last p log
is_swept_last p (Took number line ∷ log) = not (is_take_at p line) && is_swept_last p log
is_swept_last p (Gave page pages ∷ log) = not (page == p) && is_swept_last p log
is_swept_last p (Allocated a ∷ log) = is_swept_last p log
is_swept_last p (Missed number line ∷ log) = is_swept_last p log
is_swept_last p (Looked set head tail ∷ log) = is_swept_last p log
is_swept_last p (LookedEmptyCell set index ∷ log) = is_swept_last p log
is_swept_last p (Popped set page ∷ log) = is_swept_last p log
is_swept_last p (Pushed set page ∷ log) = is_swept_last p log
is_swept_last p (Found page word ∷ log) = is_swept_last p log
is_swept_last p (Read word value ∷ log) = is_swept_last p log
is_swept_last p (Added word value ∷ log) = is_swept_last p log
is_swept_last p (Pulled number line ∷ log) = is_swept_last p log
is_swept_last p (NoPage ∷ log) = is_swept_last p log
is_swept_last p (Cut page pages class ∷ log) = not (page == p) && is_swept_last p log
is_swept_last p (NoCut pages left ∷ log) = is_swept_last p log
is_swept_last p (Settled number ∷ log) = is_swept_last p log
