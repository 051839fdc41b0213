-- Who has a page after the lines of a past, a span or a processor in its page cache, and which pages are unscavenged, taken and
-- backed. A past is a journal with its newest line first.
use Rattle.std.specs.Prelude.{◌≡◌, ℕ, ◌+◌, ◌==◌, Bool, false, ◌&&◌, ◌||◌, not, nat_le, nat_lt, if◌then◌else◌, List, [], ◌∷◌, Option, Some, None, is_some}
use Rattle.page_bitmap.specs.declared.line.Line.{Line}
use Rattle.page_bitmap.specs.declared.line.Line.TheVariants.{Take, Miss, Give, Scav, Pull, Cut, Drop}
use Rattle.page_alloc.specs.Lists.{count_below}

-- A page is one of the run of `pages` pages that begins at `first`.
abbrev pub within : ℕ → ℕ → ℕ → Bool
within page first pages = nat_le first page && nat_lt page (first + pages)

-- The first page of the span that has page p after these lines, or nothing where none has it; at the start none has.
abbrev pub owner : List Line → ℕ → Option ℕ
owner [] p = None
owner (Take cycle page pages class ∷ past) p = if within p page pages then Some page else owner past p
owner (Miss cycle pages class ∷ past) p = owner past p
owner (Give cycle page pages ∷ past) p = if within p page pages then None else owner past p
owner (Scav cycle page pages ∷ past) p = owner past p
owner (Pull cycle proc page pages ∷ past) p = owner past p
owner (Cut cycle proc page pages class ∷ past) p = if within p page pages then Some page else owner past p
owner (Drop cycle proc page pages ∷ past) p = owner past p

-- The answer is this number.
abbrev pub is_number : ℕ → Option ℕ → Bool
is_number n None = false
is_number n (Some m) = m == n

-- The processor that has page p in its page cache after these lines, or nothing where none has it. A Pull gives a processor the
-- pages of a block of 64 that nobody has, a Cut takes those of a span, and a Drop all that the processor still has.
abbrev pub cached : List Line → ℕ → Option ℕ
cached [] p = None
cached (Take cycle page pages class ∷ past) p = cached past p
cached (Miss cycle pages class ∷ past) p = cached past p
cached (Give cycle page pages ∷ past) p = cached past p
cached (Scav cycle page pages ∷ past) p = cached past p
cached (Pull cycle proc page pages ∷ past) p = if within p page 64 && not (is_some (owner past p) || is_some (cached past p)) then Some proc else cached past p
cached (Cut cycle proc page pages class ∷ past) p = if within p page pages then None else cached past p
cached (Drop cycle proc page pages ∷ past) p = if is_number proc (cached past p) then None else cached past p

-- A span has page p, or a processor has it in its page cache; a page is free where neither has it.
abbrev pub is_held : List Line → ℕ → Bool
is_held past p = is_some (owner past p) || is_some (cached past p)

-- Neither a span nor a processor has page p.
pub record IsUnheld (past : List Line) (p : ℕ) : Type 0 where
  pub owner : owner past p ≡ None
  pub cached : cached past p ≡ None

-- Some Take took page p or some Pull pulled it, and no Scav released it since.
abbrev pub unscavenged : List Line → ℕ → Bool
unscavenged [] p = false
unscavenged (Take cycle page pages class ∷ past) p = within p page pages || unscavenged past p
unscavenged (Miss cycle pages class ∷ past) p = unscavenged past p
unscavenged (Give cycle page pages ∷ past) p = unscavenged past p
unscavenged (Scav cycle page pages ∷ past) p = not (within p page pages) && unscavenged past p
unscavenged (Pull cycle proc page pages ∷ past) p = (within p page 64 && not (is_held past p)) || unscavenged past p
unscavenged (Cut cycle proc page pages class ∷ past) p = unscavenged past p
unscavenged (Drop cycle proc page pages ∷ past) p = unscavenged past p

-- How many pages of the region a span or a processor's page cache has.
abbrev pub taken : ℕ → List Line → ℕ
taken region past = count_below region (is_held past)

-- How many pages of the region a span or a processor's page cache has, or are free and unscavenged.
abbrev pub backed : ℕ → List Line → ℕ
backed region past = count_below region (λ p. is_held past p || unscavenged past p)
