-- The heap comes home after a scavenging step.
use Rattle.std.proofs.Common.{◌≡◌, ◌⊎◌, inl, inr, ⊎_elim, ℕ, ◌<◌, ◌≤◌, Bool, true, false, List, [], ◌∷◌, set, refl, sym, ap, subst, ◌∙◌, arith}
use Rattle.std.specs.Prelude.{None, Some, Option, IfNone, IfSome}
use mathlib.Core.Option.{none, some}
use Rattle.atomic_table.specs.Table.{gives, step, Allows}
use Rattle.page_alloc.specs.FreeRuns.{IsLoose}
use Rattle.page_alloc.specs.Heap.{AddsLine, HasMoreRoom, PageHeap}
use Rattle.page_alloc.specs.Journal.{LegalFor}
use Rattle.page_alloc.specs.Owners.{backed}
use Rattle.page_bitmap.specs.declared.line.Line.{Line}
use Rattle.page_bitmap.specs.declared.line.Line.TheVariants.{Scav}
use Rattle.page_bitmap.specs.declared.line.Run.{Run}
use Rattle.span_laws.specs.ScavengeAnswers.{Released, past_scavenged, told_if}
use Rattle.span_laws.specs.TakeAnswers.{cycle_at}
use Rattle.span_laws.proofs.Kept.{kept_room, kept_scav}
use Rattle.span_table.specs.Plays.{Heard}
use Rattle.span_table.specs.Running.{Running}
use Rattle.span_table.specs.Seats.{SeatState, hears, unlocks}
use Rattle.span_table.specs.declared.view.Item.{Item}
use Rattle.span_table.specs.declared.view.Item.TheVariants.{Heap}
use Rattle.span_table.specs.declared.view.SeatView.{SeatView}
use Rattle.span_table.specs.Turning.{Ruled}
use Rattle.span_table.proofs.Ruling.{lift}
use Rattle.span_table.proofs.Adaptors.{none_some, one_some}
use Rattle.span_table.proofs.Core.{core_rule, lock_left, own_kept, still_counts}
use Rattle.span_table.proofs.Driver.{alone}
use Rattle.span_table.proofs.Joined.{along}
use Rattle.span_table.proofs.StoredKept.{stored_locks}
use Rattle.span_table.proofs.WordsKept.{words_lock}

-- a journal that is told is this one, and who is told it drives
told_when : (b : Bool) (past known : List Line) → told_if b past ≡ Some known → (b ≡ true) × (past ≡ known)
told_when true past known is = (refl, one_some past known is)
told_when false past known is = none_some known is

pub released : (heap heap' : PageHeap) (cycle m : ℕ) (o : Option Run) → IfSome o (λ run. AddsLine heap heap' (Scav cycle run.page run.pages))
    → IfNone o ((backed heap.region heap.past ≤ heap.goal) ⊎ ((p : ℕ) → p < heap.region → IsLoose heap.past p → ⊥)) → IfNone o (HasMoreRoom heap heap') → m ≡ backed heap'.region heap'.past → Released cycle heap.region heap.goal heap.past m o
released heap heap' cycle m (Some run) a d s e = (a.may_follow, e ∙ ap (λ (z : ℕ × List Line). backed z.0 z.1) (λ i. (a.region i, a.past i)))
released heap heap' cycle m None a d s e = let same : m ≡ backed heap.region heap.past = e ∙ ap (λ (z : ℕ × List Line). backed z.0 z.1) (λ i. (s.region i, s.past i)) in
    (same, ⊎_elim (λ (x : backed heap.region heap.past ≤ heap.goal). inl (subst (λ (z : ℕ). z ≤ heap.goal) (sym same) x)) (λ (x : (p : ℕ) → p < heap.region → IsLoose heap.past p → ⊥). inr x) d)

-- the journal behind the step, which is legal
pub past_is : (heap heap' : PageHeap) (cycle : ℕ) (o : Option Run) → IfSome o (λ run. AddsLine heap heap' (Scav cycle run.page run.pages)) → IfNone o (HasMoreRoom heap heap') → heap'.past ≡ past_scavenged cycle heap.past o
past_is heap heap' cycle (Some run) a s = a.past
past_is heap heap' cycle None a s = s.past

pub legal_behind : (procs : ℕ) (heap heap' : PageHeap) (cycle : ℕ) (o : Option Run) → IfSome o (λ run. AddsLine heap heap' (Scav cycle run.page run.pages)) → IfNone o (HasMoreRoom heap heap') → LegalFor procs heap.region heap.goal heap.past → LegalFor procs heap.region heap.goal heap'.past
legal_behind procs heap heap' cycle (Some run) a s l = subst (λ (z : ℕ × ℕ). LegalFor procs z.0 z.1 heap'.past) (λ i. (a.region i, a.goal i)) (a.legal procs l)
legal_behind procs heap heap' cycle None a s l = subst (LegalFor procs heap.region heap.goal) (sym s.past) l

module _ (R : ℕ) where
  scavenge_known : (slots id : ℕ) (w : SeatView) (h heap₁ h' : PageHeap) (o : Option Run) (more : List (ℕ × Item)) → w.out ≡ true → (w.drives ≡ true → w.away ≡ []) → w.heap ≡ Some h → HasMoreRoom h heap₁
      → IfSome o (λ run. AddsLine heap₁ h' (Scav (cycle_at w.view.generation) run.page run.pages)) → IfNone o (HasMoreRoom heap₁ h')
      → Allows (Running R) slots id (w, (0, Heap h') ∷ more) 0 (λ _. 0) (λ _. Heard (told_if w.drives h'.past) (step slots 0 0 0 none) (w, (0, Heap h') ∷ more) 0)
  scavenge_known slots id w h heap₁ h' o more out home mine room adds same s r _ at _ =
      let g = r.joint in let n = w.number in let own = (r.seats id w at).own_is out in let held = (r.seats id w at).lock_is out h mine in let k = own_kept R s r id w at out in
      let more₁ : HasMoreRoom g.heap heap₁ = subst (λ (z : PageHeap). HasMoreRoom z heap₁) (sym held.1) room in
      let v = along g.parts w.view in (
        unlocks (hears (told_if w.drives h'.past) w),
        gives,
        tt,
        core_rule R s r id w at out w.view.own g.core h' g.homes 0 g.taker w.slot_out None (told_if w.drives h'.past)
            (kept_scav g.core heap₁ g.homes n v (kept_room g.core g.heap g.homes n v k heap₁ more₁) (cycle_at w.view.generation) (ap cycle_at k.rule.generation) h' o adds same)
            (lock_left R s r id w at out h' held.0)
            (λ past is. let t = told_when w.drives h'.past past is in (t.1, alone g id w (r.seats id w at) t.0 (home t.0)))
            (λ p is. (r.seats id w at).slot_is out p is)
            (λ m p d e. e)
            (set s.words 0 0) (set s.homes 0 (some (Heap h')))
            (words_lock R g.core r.blocks g.lock s.words r.words 0) (still_counts R s r id w at out w.view.own (λ z. omega arith) refl (0) 0 (λ y a l e. omega arith))
            (stored_locks R g s.homes r.stored n w.view.own own w.view.own g.core h' 0 (some (Heap h')) (λ _. refl) (λ p. omega arith)),
        refl,
      )

  pub scavenge_runs : (slots id : ℕ) (me : SeatState) (w : SeatView) (h heap₁ h' : PageHeap) (o : Option Run) (more : List (ℕ × Item)) → me ≡ (w, (0, Heap h') ∷ more) → w.out ≡ true → (w.drives ≡ true → w.away ≡ []) → w.heap ≡ Some h → HasMoreRoom h heap₁
      → IfSome o (λ run. AddsLine heap₁ h' (Scav (cycle_at w.view.generation) run.page run.pages)) → IfNone o (HasMoreRoom heap₁ h')
      → (journal : Option (List Line)) → journal ≡ told_if w.drives h'.past → Allows (Running R) slots id me 0 (λ _. 0) (λ _. Heard journal (step slots 0 0 0 none) me 0)
  scavenge_runs slots id me w h heap₁ h' o more is out home mine room adds same journal told =
      subst (λ (z : SeatState × Option (List Line)). Allows (Running R) slots id z.0 0 (λ _. 0) (λ _. Heard z.1 (step slots 0 0 0 none) z.0 0)) (λ i. (sym is i, sym told i)) (scavenge_known slots id w h heap₁ h' o more out home mine room adds same)

  pub scavenge_allowed : (slots id : ℕ) (me : SeatState) (w : SeatView) (h heap₁ h' : PageHeap) (o : Option Run) (more : List (ℕ × Item)) → me ≡ (w, (0, Heap h') ∷ more) → w.out ≡ true → (w.drives ≡ true → w.away ≡ []) → w.heap ≡ Some h → HasMoreRoom h heap₁
      → IfSome o (λ run. AddsLine heap₁ h' (Scav (cycle_at w.view.generation) run.page run.pages)) → IfNone o (HasMoreRoom heap₁ h')
      → (journal : Option (List Line)) → journal ≡ told_if w.drives h'.past → Allows (Ruled R) slots id me 0 (λ _. 0) (λ _. Heard journal (step slots 0 0 0 none) me 0)
  scavenge_allowed slots id me w h heap₁ h' o more is out home mine room adds same journal told = lift R slots id me 0 (λ _. 0) (λ _. Heard journal (step slots 0 0 0 none) me 0) (ap (λ (z : SeatState). z.0.out) is ∙ out) (scavenge_runs slots id me w h heap₁ h' o more is out home mine room adds same journal told)
