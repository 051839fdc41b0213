-- The bits of a span that was swept.
use Rattle.std.proofs.Common.{◌≡◌, ◌≢◌, ℕ, suc, Bool, true, List, inl, inr}
use Rattle.page_alloc.specs.Lists.{In}
use Rattle.cycle_history.specs.Requests.{Marking}
use Rattle.cycle_history.specs.Objects.{Object, is_placed}
use Rattle.sound_run.specs.Spans.{AreBits}
use Rattle.sound_run.proofs.Live.{live-placed, live-cases, live-marked}

-- A sweep leaves the marked bits: of the next cycle's live objects, as long as that cycle placed none in the life.
pub bits-swept : (marked : Marking) (m : ℕ) (objects : List Object) (n : ℕ) (marks : ℕ → Bool)
    → ((o : Object) → In o objects → o.cycle ≡ suc m → is_placed o.answer ≡ true → o.life ≢ n)
    → ((o : Object) → In o objects → is_placed o.answer ≡ true → marked (suc m) o.id ≡ true → o.life ≡ n → marks o.index ≡ true)
    → ((k : ℕ) → marks k ≡ true → (o : Object) × In o objects × (is_placed o.answer ≡ true) × (marked (suc m) o.id ≡ true) × (o.life ≡ n) × (o.index ≡ k))
    → AreBits marked (suc m) objects n marks
bits-swept marked m objects n marks none names named = record {
  shown = λ o h lives one. elim (live-cases marked (suc m) o lives) [
    | inl now ↦ absurd (none o h now (live-placed marked (suc m) o lives) one)
    | inr mark ↦ names o h (live-placed marked (suc m) o lives) mark one
  ];
  from = λ k on. (let at = named k on in (at.0, at.1, live-marked marked (suc m) at.0 at.2 at.3, at.4, at.5));
}
