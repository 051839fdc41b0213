-- How the lives that workers know stand to those of the journal: workers know a life that was cut by the number of the line that pulled
-- its block, and know it before its Cut line is written.
use Rattle.std.specs.Prelude.{◌≡◌, ◌⊎◌, ℕ, ◌==◌, if◌then◌else◌, List, [], ◌∷◌, length, Some}
use Rattle.page_bitmap.specs.declared.line.Line.{Line}
use Rattle.page_bitmap.specs.declared.line.Line.TheVariants.{Take, Miss, Give, Scav, Pull, Cut, Drop}
use Rattle.page_alloc.specs.Lists.{In}
use Rattle.page_alloc.specs.Lives.{Life, life_of, open_lives}
use Rattle.page_alloc.specs.Blocks.{HasBlock, OpenBlock, open_blocks}
use Rattle.run_laws.specs.CycleSoFar.{CycleSoFar, past_after}
use Rattle.run_laws.specs.Blocks.{CutOut, OutBlock, cut_line, cuts_of, cuttings, out_of}

-- The number of a processor's newest Pull line, 0 where it has none.
abbrev pub pull_number : ℕ → List Line → ℕ
pull_number w [] = 0
pull_number w (Take cycle page pages class ∷ past) = pull_number w past
pull_number w (Miss cycle pages class ∷ past) = pull_number w past
pull_number w (Give cycle page pages ∷ past) = pull_number w past
pull_number w (Scav cycle page pages ∷ past) = pull_number w past
pull_number w (Pull cycle proc page pages ∷ past) = if proc == w then length past else pull_number w past
pull_number w (Cut cycle proc page pages class ∷ past) = pull_number w past
pull_number w (Drop cycle proc page pages ∷ past) = pull_number w past

-- The number by which workers know the life that a line makes: a Cut line's is that of the Pull line of its block, and any other line's
-- its own.
abbrev pub number_known : Line → List Line → ℕ
number_known (Take cycle page pages class) past = length past
number_known (Miss cycle pages class) past = length past
number_known (Give cycle page pages) past = length past
number_known (Scav cycle page pages) past = length past
number_known (Pull cycle proc page pages) past = length past
number_known (Cut cycle proc page pages class) past = pull_number proc past
number_known (Drop cycle proc page pages) past = length past

-- The number by which workers know the life that the line of this number made.
abbrev pub known_number : List Line → ℕ → ℕ
known_number [] n = n
known_number (line ∷ past) n = if n == length past then number_known line past else known_number past n

-- Workers know a life of the journal as this one: only its number may differ.
pub record IsKnownAs (past : List Line) (life known : Life) : Type 0 where
  pub number : known.number ≡ known_number past life.number
  pub cycle : known.cycle ≡ life.cycle
  pub page : known.page ≡ life.page
  pub pages : known.pages ≡ life.pages
  pub class : known.class ≡ life.class

-- A life that workers know is an open one of the journal, or was cut of a block that is out.
abbrev pub IsOpenLife : CycleSoFar → Life → Type 0
IsOpenLife e known = ((life : Life) × In life (open_lives (past_after e)) × IsKnownAs (past_after e) life known)
    ⊎ ((w : ℕ) × (b : OutBlock) × (x : CutOut) × (out_of (e.logs w) ≡ Some b) × In x b.cuts × (known ≡ life_of b.number e.cycle x.page x.pages x.class))

-- The blocks that are out in the journal are those that logs have out: each was pulled in this cycle, by the newest Pull line of its
-- processor. A span that a log cut was cut of the block that is out, or has its line. And the lives that workers know are such.
pub record KnowsBlocks (e : CycleSoFar) : Type 0 where
  pub out : (w : ℕ) (b : OutBlock) → out_of (e.logs w) ≡ Some b → HasBlock (past_after e) w b.page
  pub number : (w : ℕ) (b : OutBlock) → out_of (e.logs w) ≡ Some b → pull_number w (past_after e) ≡ b.number
  pub of_cycle : (block : OpenBlock) → In block (open_blocks (past_after e)) → block.cycle ≡ e.cycle
  pub of_log : (block : OpenBlock) → In block (open_blocks (past_after e)) → (b : OutBlock) × (out_of (e.logs block.proc) ≡ Some b)
  pub cut : (w : ℕ) (x : CutOut) → In x (cuttings (e.logs w)) → In (cut_line e.cycle w x) e.lines ⊎ In x (cuts_of (e.logs w))
  pub lives : (known : Life) → In known e.known → IsOpenLife e known
