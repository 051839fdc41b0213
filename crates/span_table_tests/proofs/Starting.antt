-- The first driver, and who is handed out by it.
use Rattle.std.proofs.Common.{◌≡◌, ◌≢◌, ℕ, false, get_or, set, [], refl, ap, sym, subst, ◌∙◌}
use Rattle.std.specs.Prelude.{None}
use Rattle.std.proofs.lemmas.List.{get_or-set_other}
use Rattle.sweep_laws.specs.Start.{copies}
use Rattle.atomic_table.specs.Seated.{TableId}
use Rattle.span_laws.specs.Views.{Seen, first_view, no_part}
use Rattle.span_laws.specs.declared.view.Part.{Part}
use Rattle.span_table_tests.specs.FirstCycle.{IsFirstDriver}
use Rattle.span_table.proofs.Starts.{get_copies}

pub unclaimed_copy : (many n m : ℕ) (h : Part) → m ≢ n → (get_or (set (copies many no_part) n h) m no_part).claimed ≡ None
unclaimed_copy many n m h other = ap (λ (x : Part). x.claimed) (get_or-set_other (copies many no_part) n m h no_part other ∙ get_copies many no_part m)

-- over variables, so that no list of parts is written out
first_of : (t : TableId) (workers n pages goal procs : ℕ) (w : Seen) → w ≡ record { table = t; number = n; away = []; caching = false; journal = None; view = first_view pages goal procs workers } → n ≡ 69 → workers ≡ 70 → IsFirstDriver t w
first_of t workers n pages goal procs w e is many = subst (IsFirstDriver t) (sym e) (record { table = refl; number = is; pages = pages; goal = goal; procs = procs; view = ap (first_view pages goal procs) many })

pub first_driver : (t : TableId) (pages goal procs : ℕ) (w : Seen) → w ≡ record { table = t; number = 69; away = []; caching = false; journal = None; view = first_view pages goal procs 70 } → IsFirstDriver t w
first_driver t pages goal procs w e = first_of t 70 69 pages goal procs w e refl refl
