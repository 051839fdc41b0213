-- The worker that the driver of a new table hands out with a page cache has nothing.
use Rattle.std.proofs.Common.{◌≡◌, ℕ, false, List, [], ap, ◌∙◌}
use Rattle.std.specs.Prelude.{None, slice_index_or}
use Rattle.std.specs.List.{range_with_len}
use Rattle.atomic_table.specs.Seated.{TableId}
use Rattle.span_laws.specs.Asks.{IsAtWork, IsIdle}
use Rattle.span_laws.specs.Handed.{handed_out_for}
use Rattle.span_laws.specs.declared.view.Part.{Part}
use Rattle.span_laws.specs.Views.{Seen, first_view, no_part, parts_of}
use Rattle.span_laws.proofs.Start.{get_here, set_here}

-- over variables, so that no list of parts is written out
module _ (t : TableId) (workers n proc pages goal procs : ℕ) (d w : Seen) (made : d ≡ record { table = t; number = n; away = []; caching = false; journal = None; view = first_view pages goal procs workers }) (out : w ≡ handed_out_for proc d) where
  none_at : slice_index_or (parts_of 69 d.view) proc no_part ≡ no_part
  none_at = ap (λ (x : Seen). slice_index_or (parts_of 69 x.view) proc no_part) made
      ∙ ap (λ (l : List Part). slice_index_or l proc no_part) (set_here no_part workers 69)
      ∙ get_here no_part (range_with_len 0 workers) proc

  pub handed_idle : IsIdle w.view.own
  handed_idle = record {
    sweeping = ap (λ (x : Seen). x.view.own.sweeping) out ∙ ap (λ (h : Part). h.sweeping) none_at;
    held = ap (λ (x : Seen). x.view.own.held) out ∙ ap (λ (h : Part). h.held) none_at;
    popped = ap (λ (x : Seen). x.view.own.popped) out ∙ ap (λ (h : Part). h.popped) none_at;
    claimed = ap (λ (x : Seen). x.view.own.claimed) out ∙ ap (λ (h : Part). h.claimed) none_at;
  }

  pub handed_works : IsAtWork t w
  handed_works = (ap (λ (x : Seen). x.table) out ∙ ap (λ (x : Seen). x.table) made, ap (λ (x : Seen). x.away) out)

  pub handed_marks : w.view.marks ≡ []
  handed_marks = ap (λ (x : Seen). x.view.marks) out ∙ ap (λ (x : Seen). x.view.marks) made
