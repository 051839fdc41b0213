-- A cut more of a block leaves what settling asks.
use Rattle.std.proofs.Common.{◌≡◌, ℕ, ◌+◌, ◌<◌, ◌≤◌, Bool, true, false, ◌&&◌, not, List, [], ◌∷◌, ◌++◌, Option, Some, None, refl, sym, ◌∙◌, ap, arith, subst, inl, inr}
use Rattle.std.proofs.lemmas.Bool.{cases_lt}
use Rattle.page_bitmap.specs.declared.line.Line.{Line}
use Rattle.page_cache.specs.declared.block.Block.{Block}
use Rattle.page_cache.specs.declared.block.CutNote.{CutNote}
use Rattle.page_cache.specs.Blocks.{has_page}
use Rattle.page_cache.specs.Cache.{Cache, IsCut, first_page, in_block}
use Rattle.page_cache.specs.Runs.{IsFirstRun, LosesRun}
use Rattle.page_alloc.specs.Owners.{within}
use Rattle.page_alloc.specs.FreeRuns.{IsSpanSize}
use Rattle.page_alloc.specs.Blocks.{HasBlock}
use Rattle.page_alloc.specs.Cuts.{AreCuts, IsCutFrom, cache_of, without}
use Rattle.page_alloc.proofs.Lives.{within-true, within-false}

and-false : (b : Bool) → (b && false) ≡ false
and-false true = refl
and-false false = refl

and-true : (b : Bool) → (b && true) ≡ b
and-true true = refl
and-true false = refl

-- what has lost a run is the set without it
loses-without : (old new : ℕ → Bool) (page n : ℕ) → LosesRun old new page n → (p : ℕ) → new p ≡ without old page n p
loses-without old new page n loses p = elim (cases_lt p page) [
  | inl low ↦ (let w : within p page n ≡ false = within-false p page n (inl low) in loses.below p low ∙ sym (rw w (and-true (old p))))
  | inr from ↦ elim (cases_lt p (page + n)) [
    | inl to ↦ (let w : within p page n ≡ true = within-true p page n from to in loses.inside p from to ∙ sym (rw w (and-false (old p))))
    | inr above ↦ (let w : within p page n ≡ false = within-false p page n (inr above) in loses.above p above ∙ sym (rw w (and-true (old p))))
  ]
]

first-alike : (set other : ℕ → Bool) (n page : ℕ) → ((p : ℕ) → other p ≡ set p) → IsFirstRun set n page → IsFirstRun other n page
first-alike set other n page same first = record {
  run = λ p above below. same p ∙ first.run p above below;
  least = λ q less run. first.least q less (λ p above below. sym (same p) ∙ run p above below);
}

cuts-more : (set mid left : ℕ → Bool) (cuts : List CutNote) (cut : CutNote) → AreCuts set cuts mid → cut.pages < 16 → IsSpanSize cut.class cut.pages → IsFirstRun mid cut.pages cut.page
    → ((p : ℕ) → left p ≡ without mid cut.page cut.pages p) → AreCuts set (cuts ++ cut ∷ []) left
cuts-more set mid left [] cut are few size first lost = (
  few,
  size,
  first-alike mid set cut.pages cut.page (λ p. sym (are p)) first,
  λ p. lost p ∙ ap (λ (b : Bool). b && not (within p cut.page cut.pages)) (are p),
)
cuts-more set mid left (one ∷ rest) cut are few size first lost = (are.0, are.1, are.2, cuts-more (without set one.page one.pages) mid left rest cut are.3 few size first lost)

some-first : (o : Option Block) (n : ℕ) → first_page o ≡ Some n → (b : Block) × (o ≡ Some b) × (b.page ≡ n)
some-first None n e = cc
some-first (Some b) n e = (b, refl, cc)

pub cut-more : (past : List Line) (old new : Cache) (cut : CutNote) → IsCutFrom past old → cut.pages < 16 → IsSpanSize cut.class cut.pages → IsFirstRun (in_block old.block) cut.pages cut.page → IsCut old new cut
    → IsCutFrom past new
cut-more past old new cut from few size first is =
    let there : first_page old.block ≡ Some from.block.page = ap first_page from.here in
    let left = some-first new.block from.block.page (is.first ∙ there) in
    let had : (p : ℕ) → in_block old.block p ≡ has_page from.block p = λ p. ap (λ (o : Option Block). in_block o p) from.here in
    let has : (p : ℕ) → in_block new.block p ≡ has_page left.0 p = λ p. ap (λ (o : Option Block). in_block o p) left.1 in
    let proc : new.proc ≡ old.proc = is.proc in
    let page : from.block.page ≡ left.0.page = sym left.2 in
    let cuts : AreCuts (cache_of past old.proc) (old.cuts ++ cut ∷ []) (has_page left.0) =
    cuts-more (cache_of past old.proc) (has_page from.block) (has_page left.0) old.cuts cut from.cuts few size (first-alike (in_block old.block) (has_page from.block) cut.pages cut.page (λ p. sym (had p)) first)
    (λ p. sym (has p) ∙ loses-without (in_block old.block) (in_block new.block) cut.page cut.pages is.pages p ∙ ap (λ (b : Bool). b && not (within p cut.page cut.pages)) (had p)) in
    record {
      block = left.0;
      here = left.1;
      out = subst (λ (z : ℕ × ℕ). HasBlock past z.0 z.1) (λ i. (sym proc i, page i)) from.out;
      cuts = rw (proc, is.noted) cuts;
    }
