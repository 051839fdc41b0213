-- The text of a small report, computed.
use Rattle.std.specs.Prelude.{◌≡◌, [], ◌∷◌, ◌++◌, codes, refl}
use Rattle.std.specs.Fmt.{digits}
use Rattle.cycle_history.specs.declared.Answer.TheVariants.{Placed, Zero, Missed}
use Rattle.page_bitmap.specs.declared.line.Line.TheVariants.{Take, Miss, Give, Scav}
use Rattle.cycle_history.specs.declared.Report.{Report}
use Rattle.cycle_history.specs.Text.{report_text}

-- a report with three answers and a line of each kind
each_kind : Report
each_kind = record {
  answers = Placed 0xc000002000 ∷ Zero ∷ Missed 7 ∷ [];
  journal = Take 0 3 10 118 ∷ Miss 1 129 1 ∷ Give 1 256 128 ∷ Scav 12 64 64 ∷ [];
  sweeps = record { cycle = 1; page = 256; kept = 0; freed = 3 } ∷ [];
  totals = record { class = 3; mallocs = 341; frees = 12 } ∷ [];
  profile = record { mark = 2; stack = 7; size = 24; allocs = 4; frees = 3 } ∷ [];
}

-- its text
lines_of_each_kind : report_text each_kind
    ≡ codes "o 0 0xc000002000" ++ 10 ∷ codes "o 1 zero" ++ 10 ∷ codes "o 2 miss 7" ++ 10 ∷ codes "j 0 0 take 3 10 118" ++ 10 ∷ codes "j 1 1 miss 129 1" ++ 10 ∷ codes "j 2 1 give 256 128" ++ 10 ∷ codes "j 3 12 scav 64 64" ++ 10
    ∷ codes "s 1 256 0 3" ++ 10 ∷ codes "t 3 341 12" ++ 10 ∷ codes "p 2 7 24 4 3" ++ 10 ∷ codes "end" ++ 10 ∷ []
unfolding digits each_kind
lines_of_each_kind = refl
