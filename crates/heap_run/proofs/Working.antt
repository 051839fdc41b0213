-- A hand still works by the same table, ring and marks: behind its calls, behind a turn, and where it was handed out.
use Rattle.std.proofs.Common.{◌≡◌, ℕ, List, ap, sym, ◌∙◌}
use Rattle.atomic_table.specs.Seated.{TableId}
use Rattle.profile_cycle.specs.History.{RingId}
use Rattle.span_state.specs.MarkSet.{MarkSet}
use Rattle.worker_log.specs.declared.Entry.{Entry}
use Rattle.span_laws.specs.Views.{Seen}
use Rattle.span_laws.specs.declared.view.View.{View}
use Rattle.span_set.specs.Asks.{WorksBy}
use Rattle.span_set.specs.declared.hand.Hand.{Hand}
use Rattle.heap_run.specs.Counts.{Counts, IsOut}
use Rattle.heap_run.specs.Parts.{IsSameRun}
use Rattle.heap_run.specs.Turns.{HasActed}
use Rattle.heap_run.proofs.Acted.{HandsOut, out-marks}
use Rattle.heap_run.proofs.Counting.{counts-may, out-may}

module _ (t : TableId) (r : RingId) (m : MarkSet) where
  pub acted-works : (P : List Entry → Type 0) (f : ℕ → ℕ) (old new : Hand) → HasActed P old new → Counts m f old new → WorksBy t r m old → WorksBy t r m new
  acted-works P f old new acted counts works = record {
    works = (acted.table ∙ works.works.0, acted.away ∙ works.works.1);
    marks = works.marks ∙ sym (ap (λ (v : View). v.marks) acted.view);
    counts = counts-may r m f old new works.counts counts;
  }

  pub same-works : (f : ℕ → ℕ) (old new : Hand) → IsSameRun old.worker new.worker → Counts m f old new → WorksBy t r m old → WorksBy t r m new
  same-works f old new same counts works = record {
    works = (same.table ∙ works.works.0, same.away ∙ works.works.1);
    marks = works.marks ∙ sym same.marks;
    counts = counts-may r m f old new works.counts counts;
  }

  pub out-works : (i n : ℕ) (driver hand : Hand) → HandsOut i driver hand → IsOut n driver hand → WorksBy t r m driver → WorksBy t r m hand
  out-works i n driver hand o out works = record {
    works = (ap (λ (w : Seen). w.table) o.out ∙ works.works.0, ap (λ (w : Seen). w.away) o.out);
    marks = works.marks ∙ sym (out-marks i driver hand o);
    counts = out-may r m n driver hand works.counts out;
  }
