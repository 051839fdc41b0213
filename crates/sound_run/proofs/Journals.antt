-- Lives of the journal of a run: they lie in the region, and no two begin at one page.
use Rattle.std.proofs.Common.{◌≡◌, ◌≢◌, ℕ, ◌+◌, ◌<◌, ◌≤◌, List, Some}
use Rattle.page_bitmap.specs.declared.line.Line.{Line}
use Rattle.page_alloc.specs.Lists.{AllApart, In}
use Rattle.page_alloc.specs.Lives.{Life, open_lives}
use Rattle.page_alloc.specs.Owners.{owner}
use Rattle.page_alloc.proofs.Lives.{covers-for, lies-for, pages-apart-for, same_page-for, share-for}
use Rattle.sound_run.specs.Run.{IsJournal}

pub covers : (region goal : ℕ) (past : List Line) (life : Life) (p : ℕ) → IsJournal region goal past → In life (open_lives past) → life.page ≤ p → p < life.page + life.pages → owner past p ≡ Some life.page
covers region goal past life p legal h low high = covers-for 64 region goal past life p legal h low high

pub share : (region goal : ℕ) (past : List Line) (a b : Life) (p : ℕ) → IsJournal region goal past → In a (open_lives past) → In b (open_lives past)
    → a.page ≤ p → p < a.page + a.pages → b.page ≤ p → p < b.page + b.pages → a ≡ b
share region goal past a b p legal ha hb al ah bl bh = share-for 64 region goal past a b p legal ha hb al ah bl bh

pub lies : (region goal : ℕ) (past : List Line) (life : Life) → IsJournal region goal past → In life (open_lives past) → (1 ≤ life.pages) × (life.page + life.pages ≤ region)
lies region goal past life legal h = lies-for 64 region goal past life legal h

pub same_page : (region goal : ℕ) (past : List Line) (a b : Life) → IsJournal region goal past → In a (open_lives past) → In b (open_lives past) → a.page ≡ b.page → a ≡ b
same_page region goal past a b legal ha hb e = same_page-for 64 region goal past a b legal ha hb e

pub pages-apart : (region goal : ℕ) (past : List Line) → IsJournal region goal past → AllApart (λ (a b : Life). a.page ≢ b.page) (open_lives past)
pages-apart region goal past legal = pages-apart-for 64 region goal past legal
