-- What a report has of its lines.
use Rattle.std.specs.Prelude.{◌≡◌, [], ◌∷◌, ◌++◌}
use Rattle.cycle_history.specs.declared.Report.{Report}
use Rattle.report_text.specs.declared.item.Item.{Item}
use Rattle.report_text.specs.declared.item.Item.TheVariants.{Object, Journal, Sweep, Class, Bucket, End}

-- The report with what one more line says.
abbrev pub with_item : Report → Item → Report
with_item r (Object n answer) = record r { answers = r.answers ++ answer ∷ [] }
with_item r (Journal n line) = record r { journal = r.journal ++ line ∷ [] }
with_item r (Sweep note) = record r { sweeps = r.sweeps ++ note ∷ [] }
with_item r (Class total) = record r { totals = r.totals ++ total ∷ [] }
with_item r (Bucket prof) = record r { profile = r.profile ++ prof ∷ [] }
with_item r End = r

-- The report has nothing.
pub record IsEmpty (r : Report) : Type 0 where
  pub answers : r.answers ≡ []
  pub journal : r.journal ≡ []
  pub sweeps : r.sweeps ≡ []
  pub totals : r.totals ≡ []
  pub profile : r.profile ≡ []
