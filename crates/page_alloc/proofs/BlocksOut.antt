-- Blocks that are out: none is without page caches, and what a line asks of them.
use Rattle.std.proofs.Common.{◌≡◌, ℕ, ◌<◌, ◌≤◌, List, [], ◌∷◌, refl, sym, subst, arith}
use Rattle.page_bitmap.specs.declared.line.Line.{Line}
use Rattle.page_bitmap.specs.declared.line.Line.TheVariants.{Take, Miss, Give, Scav, Pull, Cut, Drop}
use Rattle.page_alloc.specs.Blocks.{open_blocks, AreOfCycle}
use Rattle.page_alloc.specs.Heap.{HasMoreRoom, PageHeap}
use Rattle.page_alloc.specs.Journal.{cycle_of, GoesOn, KeepsBlocks, Legal, LegalFor, IsAllowed, AreAllowed, MayFollowFor}

-- without page caches no block is out
pub no-blocks : (region goal : ℕ) (past : List Line) → Legal region goal past → open_blocks past ≡ []
no-blocks region goal [] legal = refl
no-blocks region goal (Take cycle page pages class ∷ past) legal = no-blocks region goal past legal.2
no-blocks region goal (Miss cycle pages class ∷ past) legal = no-blocks region goal past legal.2
no-blocks region goal (Give cycle page pages ∷ past) legal = no-blocks region goal past legal.2
no-blocks region goal (Scav cycle page pages ∷ past) legal = no-blocks region goal past legal.2
no-blocks region goal (Pull cycle proc page pages ∷ past) legal = absurd (let none = legal.0.0 in omega arith)
no-blocks region goal (Cut cycle proc page pages class ∷ past) legal = absurd (let none = legal.0.0 in omega arith)
no-blocks region goal (Drop cycle proc page pages ∷ past) legal = absurd (let none = legal.0.0 in omega arith)

-- so each cycle is that of all blocks that are out
pub any-cycle : (region goal c : ℕ) (past : List Line) → Legal region goal past → AreOfCycle c past
any-cycle region goal c past legal block h = absurd (rw (no-blocks region goal past legal) at h)

pub more-cycle : (old new : PageHeap) (c : ℕ) → HasMoreRoom old new → Legal old.region old.goal old.past → AreOfCycle c new.past
more-cycle old new c more legal = subst (AreOfCycle c) (sym more.past) (any-cycle old.region old.goal c old.past legal)

-- without page caches any line goes on
pub any-line : (region goal : ℕ) (past : List Line) (line : Line) → Legal region goal past → GoesOn past line
any-line region goal [] line legal = tt
any-line region goal (Take cycle page pages class ∷ past) line legal = tt
any-line region goal (Miss cycle pages class ∷ past) line legal = tt
any-line region goal (Give cycle page pages ∷ past) line legal = tt
any-line region goal (Scav cycle page pages ∷ past) line legal = tt
any-line region goal (Pull cycle proc page pages ∷ past) line legal = tt
any-line region goal (Cut cycle proc page pages class ∷ past) line legal = absurd (let none = legal.0.0 in omega arith)
any-line region goal (Drop cycle proc page pages ∷ past) line legal = tt

pub keeps-none : (region goal : ℕ) (past : List Line) (line : Line) → Legal region goal past → KeepsBlocks past line
keeps-none region goal past line legal = record { cycle = any-cycle region goal (cycle_of line) past legal; cuts = any-line region goal past line legal }

-- a line that some processors let follow follows for those that it is allowed for
pub follows-for : (a b region goal : ℕ) (past : List Line) (line : Line) → IsAllowed b line → MayFollowFor a region goal past line → MayFollowFor b region goal past line
follows-for a b region goal past (Take cycle page pages class) allowed may = may
follows-for a b region goal past (Miss cycle pages class) allowed may = may
follows-for a b region goal past (Give cycle page pages) allowed may = may
follows-for a b region goal past (Scav cycle page pages) allowed may = may
follows-for a b region goal past (Pull cycle proc page pages) allowed may = (allowed, may.1, may.2)
follows-for a b region goal past (Cut cycle proc page pages class) allowed may = (allowed, may.1, may.2, may.3)
follows-for a b region goal past (Drop cycle proc page pages) allowed may = (allowed, may.1, may.2)

-- a legal journal is one for each number of processors that is above those of its lines
pub legal-for : (a b region goal : ℕ) (past : List Line) → AreAllowed b past → LegalFor a region goal past → LegalFor b region goal past
legal-for a b region goal [] allowed legal = tt
legal-for a b region goal (line ∷ past) allowed legal = (follows-for a b region goal past line allowed.0 legal.0, legal.1, legal-for a b region goal past allowed.1 legal.2, legal.3)

allowed-line : (a b : ℕ) (line : Line) → a ≤ b → IsAllowed a line → IsAllowed b line
allowed-line a b (Take cycle page pages class) le h = tt
allowed-line a b (Miss cycle pages class) le h = tt
allowed-line a b (Give cycle page pages) le h = tt
allowed-line a b (Scav cycle page pages) le h = tt
allowed-line a b (Pull cycle proc page pages) le h = omega arith
allowed-line a b (Cut cycle proc page pages class) le h = omega arith
allowed-line a b (Drop cycle proc page pages) le h = omega arith

follows-allowed : (a region goal : ℕ) (past : List Line) (line : Line) → MayFollowFor a region goal past line → IsAllowed a line
follows-allowed a region goal past (Take cycle page pages class) may = tt
follows-allowed a region goal past (Miss cycle pages class) may = tt
follows-allowed a region goal past (Give cycle page pages) may = tt
follows-allowed a region goal past (Scav cycle page pages) may = tt
follows-allowed a region goal past (Pull cycle proc page pages) may = may.0
follows-allowed a region goal past (Cut cycle proc page pages class) may = may.0
follows-allowed a region goal past (Drop cycle proc page pages) may = may.0

-- the lines of a legal journal are of its processors
pub legal-allowed : (a region goal : ℕ) (past : List Line) → LegalFor a region goal past → AreAllowed a past
legal-allowed a region goal [] legal = tt
legal-allowed a region goal (line ∷ past) legal = (follows-allowed a region goal past line legal.0, legal-allowed a region goal past legal.2)

-- with more processors a legal journal stays one
pub legal-more : (a b region goal : ℕ) (past : List Line) → a ≤ b → LegalFor a region goal past → LegalFor b region goal past
legal-more a b region goal past le legal = legal-for a b region goal past (more past (legal-allowed a region goal past legal)) legal
  where
    more : (past : List Line) → AreAllowed a past → AreAllowed b past
    more [] h = tt
    more (line ∷ past) h = (allowed-line a b line le h.0, more past h.1)
