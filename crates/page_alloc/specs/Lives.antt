-- Lives: what a Take or Cut line begins and a Give line ends. A past is a journal with its newest line first; the number of a line is
-- how many lines are older.
use Rattle.std.specs.Prelude.{ℕ, ◌==◌, if◌then◌else◌, List, [], ◌∷◌, length}
use Rattle.page_bitmap.specs.declared.line.Line.{Line}
use Rattle.page_bitmap.specs.declared.line.Line.TheVariants.{Take, Miss, Give, Scav, Pull, Cut, Drop}

-- A life is a Take or Cut line, by its number, with its pages and its span class, up to the Give line that ends it.
pub record Life : Type 0 where
  pub number : ℕ
  pub cycle : ℕ
  pub page : ℕ
  pub pages : ℕ
  pub class : ℕ

abbrev pub life_of : ℕ → ℕ → ℕ → ℕ → ℕ → Life
life_of number cycle page pages class = record { number = number; cycle = cycle; page = page; pages = pages; class = class }

-- The lives that don't begin at this page.
abbrev pub others : ℕ → List Life → List Life
others page [] = []
others page (life ∷ lives) = if life.page == page then others page lives else life ∷ others page lives

-- The lives that no Give line has ended, the newest first.
abbrev pub open_lives : List Line → List Life
open_lives [] = []
open_lives (Take cycle page pages class ∷ past) = life_of (length past) cycle page pages class ∷ open_lives past
open_lives (Miss cycle pages class ∷ past) = open_lives past
open_lives (Give cycle page pages ∷ past) = others page (open_lives past)
open_lives (Scav cycle page pages ∷ past) = open_lives past
open_lives (Pull cycle proc page pages ∷ past) = open_lives past
open_lives (Cut cycle proc page pages class ∷ past) = life_of (length past) cycle page pages class ∷ open_lives past
open_lives (Drop cycle proc page pages ∷ past) = open_lives past

-- All lives, ended or not, the newest first.
abbrev pub all_lives : List Line → List Life
all_lives [] = []
all_lives (Take cycle page pages class ∷ past) = life_of (length past) cycle page pages class ∷ all_lives past
all_lives (Miss cycle pages class ∷ past) = all_lives past
all_lives (Give cycle page pages ∷ past) = all_lives past
all_lives (Scav cycle page pages ∷ past) = all_lives past
all_lives (Pull cycle proc page pages ∷ past) = all_lives past
all_lives (Cut cycle proc page pages class ∷ past) = life_of (length past) cycle page pages class ∷ all_lives past
all_lives (Drop cycle proc page pages ∷ past) = all_lives past
