-- Lines that nothing is wrong with.
use Rattle.std.specs.Prelude.{◌≡◌, ℕ, false, List, [], ◌∷◌, Some, None}
use Rattle.trace_reader.specs.declared.statement.Statement.{Statement}
use Rattle.edge_io.specs.Line.{IsLine}
use Rattle.trace_reader.specs.Spelling.{line_for}
use Rattle.trace_reader.specs.Says.{said}
use Rattle.trace_reader.specs.Refusal.{statement_fault, is_end}

-- nothing is wrong with a statement behind these
pub record IsGood (past : List Statement) (s : Statement) : Type 0 where
  pub is_line : IsLine (line_for s)
  pub says : said (line_for s) ≡ Some s
  pub not_end : is_end (Some s) ≡ false
  pub no_fault : (n : ℕ) → statement_fault n past s ≡ None

abbrev pub AreGood : List Statement → List Statement → Type 0
AreGood past [] = Unit {0}
AreGood past (s ∷ ss) = IsGood past s × AreGood (s ∷ past) ss
