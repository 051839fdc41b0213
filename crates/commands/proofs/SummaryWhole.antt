-- The pieces of the summary are its text.
use Rattle.std.proofs.Common.{◌≡◌, ℕ, List, [], ◌∷◌, ◌++◌, codes, append_assoc}
use Rattle.std.specs.List.{sum_by}
use Rattle.edge_io.specs.Text.{text}
use Rattle.trace_reader.specs.declared.trace.Trace.{Trace}
use Rattle.cycle_history.specs.declared.Report.{Report}
use Rattle.cycle_history.specs.Requests.{last_cycle}
use Rattle.commands.specs.Summary.{counted, dead_at, frees_of, mallocs_of, objects_asked, one_placed, one_refused, sampled_at, summary_text}

pieces : (t0 t1 t2 t3 t4 t5 t6 t7 t8 t9 a b c d e f g h : List ℕ) → t0 ≡ [] → t1 ≡ t0 ++ (a ++ 10 ∷ []) → t2 ≡ t1 ++ (b ++ 10 ∷ []) → t3 ≡ t2 ++ (c ++ 10 ∷ []) → t4 ≡ t3 ++ (d ++ 10 ∷ []) → t5 ≡ t4 ++ (e ++ 10 ∷ [])
    → t6 ≡ t5 ++ (f ++ 10 ∷ []) → t7 ≡ t6 ++ g → t8 ≡ t7 ++ (h ++ 10 ∷ []) → t9 ≡ t8 ++ (codes "check ok" ++ 10 ∷ []) → t9 ≡ text (a ∷ b ∷ c ∷ d ∷ e ∷ f ∷ (g ++ h) ∷ codes "check ok" ∷ [])
pieces t0 t1 t2 t3 t4 t5 t6 t7 t8 t9 a b c d e f g h e0 e1 e2 e3 e4 e5 e6 e7 e8 e9 = rw (e9, e8, e7, e6, e5, e4, e3, e2, e1, e0) (simp append_assoc)

pub whole : (t : Trace) (r : Report) (t0 t1 t2 t3 t4 t5 t6 t7 t8 t9 : List ℕ) → t0 ≡ []
    → t1 ≡ t0 ++ (counted (codes "objects ") (sum_by objects_asked t.cycles) ++ 10 ∷ [])
    → t2 ≡ t1 ++ (counted (codes "placed ") (sum_by one_placed r.answers) ++ 10 ∷ [])
    → t3 ≡ t2 ++ (counted (codes "refused ") (sum_by one_refused r.answers) ++ 10 ∷ [])
    → t4 ≡ t3 ++ (counted (codes "mark ends ") (last_cycle t) ++ 10 ∷ [])
    → t5 ≡ t4 ++ (counted (codes "mallocs ") (sum_by mallocs_of r.totals) ++ 10 ∷ [])
    → t6 ≡ t5 ++ (counted (codes "frees ") (sum_by frees_of r.totals) ++ 10 ∷ [])
    → t7 ≡ t6 ++ counted (codes "sampled ") (sum_by (sampled_at (last_cycle t)) r.profile)
    → t8 ≡ t7 ++ (counted (codes " ") (sum_by (dead_at (last_cycle t)) r.profile) ++ 10 ∷ [])
    → t9 ≡ t8 ++ (codes "check ok" ++ 10 ∷ []) → t9 ≡ summary_text t r
unfolding summary_text
whole t r t0 t1 t2 t3 t4 t5 t6 t7 t8 t9 e0 e1 e2 e3 e4 e5 e6 e7 e8 e9 =
    pieces t0 t1 t2 t3 t4 t5 t6 t7 t8 t9 (counted (codes "objects ") (sum_by objects_asked t.cycles)) (counted (codes "placed ") (sum_by one_placed r.answers)) (counted (codes "refused ") (sum_by one_refused r.answers))
    (counted (codes "mark ends ") (last_cycle t)) (counted (codes "mallocs ") (sum_by mallocs_of r.totals)) (counted (codes "frees ") (sum_by frees_of r.totals)) (counted (codes "sampled ") (sum_by (sampled_at (last_cycle t)) r.profile))
    (counted (codes " ") (sum_by (dead_at (last_cycle t)) r.profile)) e0 e1 e2 e3 e4 e5 e6 e7 e8 e9
