-- The core's move of a step.
use Rattle.std.specs.Prelude.{ℕ}
use Rattle.sweep_laws.specs.declared.moves.Move.{Move}
use Rattle.sweep_laws.specs.declared.moves.Move.TheVariants.{Unlock, Acquire, DropPopped, Release, Cache, Allocate, Uncache, StaleUncache, Claim, Fill, PopSwept, PopUnswept, Cut}
use Rattle.span_laws.specs.declared.said.Said.{Said}
use Rattle.span_laws.specs.declared.said.Said.TheVariants.{Finds, Caches, Uncaches, UncachesStale, Claims, Fills, PopsEntry}
use Rattle.span_laws.specs.declared.said.SaidOf.{SaidOf}
use Rattle.span_laws.specs.declared.said.SaidOf.TheVariants.{Acquires, Releases, Pops, Places, Cuts}
use Rattle.span_laws.specs.declared.view.Span.{Span}

abbrev pub move_of : ℕ → Said → Move
move_of n (Finds page word) = DropPopped n page
move_of n (Caches page) = Cache n page
move_of n (Uncaches page) = Uncache n page
move_of n (UncachesStale page) = StaleUncache n page
move_of n (Claims set index page) = Claim n set page
move_of n (Fills set page) = Fill n
move_of n (PopsEntry set page) = PopUnswept n set
-- the others are no single move: a core whose lock is free refuses this one
move_of n _ = Unlock n

-- the same of a step on a body
abbrev pub move_on : ℕ → SaidOf → Span → Move
move_on n Acquires b = Acquire n b.page
move_on n Releases b = Release n b.page
move_on n (Pops set) b = PopSwept n set
move_on n (Places index) b = Allocate n b.page index
move_on n (Cuts left) b = Cut n b.page b.pages b.count b.class
move_on n _ b = Unlock n
