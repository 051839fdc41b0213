-- How many pages are backed behind the lines of scavenging steps.
use Rattle.std.proofs.Common.{◌≡◌, ◌⊎◌, ℕ, ◌+◌, ◌<◌, ◌≤◌, Bool, true, false, ◌||◌, List, [], ◌∷◌, ◌++◌, length, Ok, refl, sym, subst, arith, inl, inr}
use Rattle.page_bitmap.specs.Counts.{count_run}
use Rattle.page_bitmap.specs.CountLaws.{count_below-all, count_below-le, count_below-none, count_below-run}
use Rattle.page_bitmap.specs.declared.line.Line.{Line}
use Rattle.page_bitmap.specs.declared.line.Line.TheVariants.{Scav}
use Rattle.page_bitmap.specs.declared.line.Run.{Run}
use Rattle.page_alloc.specs.Owners.{backed, is_held, unscavenged, within}
use Rattle.page_alloc.specs.FreeRuns.{IsScavengeRun}
use Rattle.page_alloc.specs.Journal.{LegalFor}
use Rattle.page_alloc.proofs.Keeping.{not-held}
use Rattle.page_alloc.proofs.Lives.{within-false, within-true}
use Rattle.cycle_history.specs.Sound.{IsScavenged}
use Rattle.span_laws.specs.Views.{Seen}
use Rattle.scavenger.specs.declared.scavenge.Reason.{Reason}
use Rattle.scavenger.specs.declared.scavenge.Reason.TheVariants.{AtGoal, NoCandidate, TurnsSpent}
use Rattle.scavenger.specs.declared.scavenge.Stopped.{Stopped}
use Rattle.scavenger.specs.Scavenges.{EndsScavenged, Scavenges, StopsFor, behind, scav_lines}

-- a step takes the pages of its run from the backed ones
backed-less : (region cycle page n : ℕ) (past : List Line) → IsScavengeRun region past page n → backed region (Scav cycle page n ∷ past) + n ≡ backed region past
backed-less region cycle page n past run =
    let old : ℕ → Bool = λ p. is_held past p || unscavenged past p in
    let new : ℕ → Bool = λ p. is_held past p || unscavenged (Scav cycle page n ∷ past) p in
    let same : (p : ℕ) → (p < page) ⊎ (page + n ≤ p) → unscavenged (Scav cycle page n ∷ past) p ≡ unscavenged past p =
    λ p out. (let isnt : within p page n ≡ false = within-false p page n out in rw isnt refl) in
    let counted = count_below-run region page n old new run.inside
    (λ k lt. (let e = same k (inl lt) in rw e refl)) (λ k le. (let e = same k (inr le) in rw e refl)) in
    let all_before : count_run page n old ≡ n = count_below-all n (λ k. old (page + k)) (λ k lt. (
    let loose = run.loose (page + k) (omega arith) (omega arith) in
    let e = not-held past (page + k) loose.0 in
    let u = loose.1 in
    rw (e, u) refl)) in
    let none_after : count_run page n new ≡ 0 = count_below-none n (λ k. new (page + k)) (λ k lt. (
    let e = not-held past (page + k) (run.loose (page + k) (omega arith) (omega arith)).0 in
    let is : within (page + k) page n ≡ true = within-true (page + k) page n (omega arith) (omega arith) in
    rw (e, is) refl)) in
    omega arith

-- so many steps release a page each
runs-backed : (procs region goal cycle : ℕ) (past : List Line) (runs : List Run) → LegalFor procs region goal (scav_lines cycle runs ++ past)
    → length runs + backed region (scav_lines cycle runs ++ past) ≤ backed region past
runs-backed procs region goal cycle past [] legal = omega arith
runs-backed procs region goal cycle past (run ∷ runs) legal =
    let more = runs-backed procs region goal cycle past runs legal.2 in
    let less = backed-less region cycle run.page run.pages (scav_lines cycle runs ++ past) legal.0.1 in
    let some = legal.0.1.some in
    omega arith

-- behind as many runs as the region has pages no page is backed
all-released : (procs region goal cycle : ℕ) (past : List Line) (runs : List Run) → LegalFor procs region goal (scav_lines cycle runs ++ past) → length runs ≡ region
    → backed region (scav_lines cycle runs ++ past) ≤ goal
all-released procs region goal cycle past runs legal all =
    let few = runs-backed procs region goal cycle past runs legal in
    let most : backed region past ≤ region = count_below-le region (λ p. is_held past p || unscavenged past p) in
    omega arith

reasoned : (procs region goal cycle : ℕ) (past : List Line) (runs : List Run) (reason : Reason) → LegalFor procs region goal (scav_lines cycle runs ++ past)
    → StopsFor region goal (scav_lines cycle runs ++ past) (length runs) reason → IsScavenged region goal (scav_lines cycle runs ++ past)
reasoned procs region goal cycle past runs AtGoal legal why = inl why.0
reasoned procs region goal cycle past runs NoCandidate legal why = inr why.1
reasoned procs region goal cycle past runs TurnsSpent legal why = inl (all-released procs region goal cycle past runs legal why)

-- whatever it stopped for, the pages are scavenged to the goal
pub scavenged : (old new : Seen) (s : Stopped) → Scavenges old new (Ok s) → EndsScavenged new
scavenged old new s done =
    let all : List Line = behind old done.0 done.1 in
    let P : Seen → Type 0 = λ w. EndsScavenged w in
    subst P (sym done.2.view) (all, refl, reasoned old.view.procs old.view.region old.view.goal _ done.0 done.1 s.reason done.2.legal done.4)
