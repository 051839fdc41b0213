-- The ownership rule: who has which page, in ten facts. "Page" is a page of the region, and a list names
-- a page once where it stands there once.
use Rattle.std.specs.Prelude.{◌≡◌, ◌⊎◌, ◌+◌, ◌<◌, ◌≤◌, length}
use Rattle.std.specs.List.{AllByRecursion}
use Rattle.sweep_laws.specs.Named.{poppers, swept_by, unswept}
use Rattle.sweep_laws.specs.State.{CoreState}
use Rattle.sweep_laws.specs.OwnedLives.{EachPage, EachAt, IsGeneration, LivesFit, PulledApart, ObjectsFit}
use Rattle.sweep_laws.specs.OwnedSets.{SetsFit}
use Rattle.sweep_laws.specs.OwnedPages.{NamesOnce, IsNobodys, WaitsOnce, IsSweptByOne, IsHeldOrQueued, IsCachedByOne}

-- 1. the generation, the words, the owners, the lives and the pulled lists fit together
pub record LivesAreApart (c : CoreState) : Type 0 where
  pub generation : IsGeneration c.generation
  pub lives : LivesFit c.generation c.words c.owners c.lives
  pub pulled : PulledApart c.lives c.hands

-- 2. a page with word 0 is nobody's
abbrev pub FreeIsNobodys : CoreState → Type 0
FreeIsNobodys c = EachPage c.words (λ p w. w ≡ 0 → IsNobodys c p)

-- 3. a page at G-2 waits to be swept, in one place
abbrev pub UnsweptIsQueued : CoreState → Type 0
UnsweptIsQueued c = EachPage c.words (λ p w. w + 2 ≡ c.generation → WaitsOnce c p)

-- 4. a page at G-1 is swept by one hand
abbrev pub SweepingIsOnes : CoreState → Type 0
SweepingIsOnes c = EachPage c.words (λ p w. w + 1 ≡ c.generation → IsSweptByOne c p)

-- 5. a page at G is held by one hand or named by one unpopped swept cell, which by fact 8 is of a set of its
-- class
abbrev pub SweptIsOnes : CoreState → Type 0
SweptIsOnes c = EachPage c.words (λ p w. w ≡ c.generation → IsHeldOrQueued c p)

-- 6. a page at G+1 or G+3 is cached by one hand
abbrev pub CachedIsOnes : CoreState → Type 0
CachedIsOnes c = EachPage c.words (λ p w. (w ≡ c.generation + 1) ⊎ (w ≡ c.generation + 3) → IsCachedByOne c p)

-- 7. no hand's list names a page twice, and all unpopped unswept cells and popped lists together name it at
-- most once
pub record NamedOnce (c : CoreState) : Type 0 where
  pub lists : EachPage c.words (λ p w. EachAt c.hands (λ n h. NamesOnce p h))
  pub entries : EachPage c.words (λ p w. unswept c.generation p c.sets + poppers p c.hands ≤ 1)

-- 8. the sets and the claims fit together
abbrev pub SetsAreFilled : CoreState → Type 0
SetsAreFilled c = SetsFit c.generation (length c.words) c.lives c.sets c.hands

-- 9. all swept lists together name a page at most once, and then its word is 0, G or G+3
pub record SweptOnce (c : CoreState) : Type 0 where
  pub once : EachPage c.words (λ p w. swept_by p c.hands ≤ 1)
  pub word : EachPage c.words (λ p w. 0 < swept_by p c.hands → (w ≡ 0) ⊎ (w ≡ c.generation) ⊎ (w ≡ c.generation + 3))

-- 10. in each life, kept is a part of allocated, and allocated indices are below the count
abbrev pub ObjectsAreKept : CoreState → Type 0
ObjectsAreKept c = AllByRecursion ObjectsFit c.lives

-- who has which page: the rule of span ownership
pub record Owned (c : CoreState) : Type 0 where
  pub lives : LivesAreApart c
  pub free : FreeIsNobodys c
  pub unswept : UnsweptIsQueued c
  pub sweeping : SweepingIsOnes c
  pub swept : SweptIsOnes c
  pub cached : CachedIsOnes c
  pub once : NamedOnce c
  pub sets : SetsAreFilled c
  pub swept_lists : SweptOnce c
  pub objects : ObjectsAreKept c
