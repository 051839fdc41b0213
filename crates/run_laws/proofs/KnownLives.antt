-- By which numbers workers know the lives of a journal that grows, and which blocks stay out in it.
use Rattle.std.proofs.Common.{◌≡◌, ◌≢◌, ℕ, ◌<◌, ◌⊎◌, inl, inr, eq-eqb, ne_eqb, List, [], ◌∷◌, ◌++◌, map, length, sym, refl, ap, ◌∙◌, arith}
use Rattle.std.proofs.lemmas.Bool.{cases_eq}
use Rattle.page_bitmap.specs.declared.line.Line.{Line}
use Rattle.page_alloc.specs.Lists.{In}
use Rattle.page_alloc.specs.Lives.{Life, life_of, open_lives}
use Rattle.page_alloc.specs.Blocks.{OpenBlock, blocks_but, open_blocks}
use Rattle.sound_run.proofs.Seats.{number-below}
use Rattle.run_laws.specs.Blocks.{CutOut, cut_line}
use Rattle.run_laws.specs.Known.{IsKnownAs, known_number, number_known, pull_number}

-- ---- a line

-- it keeps the numbers of older lives
pub known_older : (line : Line) (past : List Line) (n : ℕ) → n < length past → known_number (line ∷ past) n ≡ known_number past n
known_older line past n low = rw (ne_eqb n (length past) (λ s. omega arith)) refl

-- and a life that it makes has its number
pub known_newest : (line : Line) (past : List Line) → known_number (line ∷ past) (length past) ≡ number_known line past
known_newest line past = rw (eq-eqb (length past) (length past) refl) refl

-- an open life stays known as it is
pub known_under : (line : Line) (past : List Line) (life known : Life) → In life (open_lives past) → IsKnownAs past life known → IsKnownAs (line ∷ past) life known
known_under line past life known h is = record {
  number = is.number ∙ sym (known_older line past life.number (number-below past life h));
  cycle = is.cycle;
  page = is.page;
  pages = is.pages;
  class = is.class;
}

-- ---- the lines of cuts

module _ (cycle w : ℕ) (past : List Line) where
  pub cuts_pull : (v : ℕ) (cuts : List CutOut) → pull_number v (map (cut_line cycle w) cuts ++ past) ≡ pull_number v past
  cuts_pull v [] = refl
  cuts_pull v (x ∷ cuts) = cuts_pull v cuts

  pub cuts_blocks : (cuts : List CutOut) → open_blocks (map (cut_line cycle w) cuts ++ past) ≡ open_blocks past
  cuts_blocks [] = refl
  cuts_blocks (x ∷ cuts) = cuts_blocks cuts

  -- the open lives stay, and are known as they were
  pub cuts_keep : (cuts : List CutOut) (life known : Life) → In life (open_lives past) → IsKnownAs past life known
      → In life (open_lives (map (cut_line cycle w) cuts ++ past)) × IsKnownAs (map (cut_line cycle w) cuts ++ past) life known
  cuts_keep [] life known h is = (h, is)
  cuts_keep (x ∷ cuts) life known h is =
      let r = cuts_keep cuts life known h is in
      (inr r.0, known_under (cut_line cycle w x) (map (cut_line cycle w) cuts ++ past) life known r.0 r.1)

  -- a cut becomes a life, which is known by the number of the processor's newest Pull line
  pub cuts_known : (cuts : List CutOut) (x : CutOut) → In x cuts
      → (life : Life) × In life (open_lives (map (cut_line cycle w) cuts ++ past)) × IsKnownAs (map (cut_line cycle w) cuts ++ past) life (life_of (pull_number w past) cycle x.page x.pages x.class)
  cuts_known [] x h = absurd h
  cuts_known (y ∷ cuts) x (inl is) = (
    life_of (length (map (cut_line cycle w) cuts ++ past)) cycle y.page y.pages y.class,
    inl refl,
    record {
      number = sym (known_newest (cut_line cycle w y) (map (cut_line cycle w) cuts ++ past) ∙ cuts_pull w cuts);
      cycle = refl;
      page = sym (ap (λ (z : CutOut). z.page) is);
      pages = sym (ap (λ (z : CutOut). z.pages) is);
      class = sym (ap (λ (z : CutOut). z.class) is);
    },
  )
  cuts_known (y ∷ cuts) x (inr h) =
      let r = cuts_known cuts x h in
      (r.0, inr r.1, known_under (cut_line cycle w y) (map (cut_line cycle w) cuts ++ past) r.0 (life_of (pull_number w past) cycle x.page x.pages x.class) r.1 r.2)

-- ---- the blocks of the other processors

pub from_but : (w : ℕ) (blocks : List OpenBlock) (block : OpenBlock) → In block (blocks_but w blocks) → In block blocks × (block.proc ≢ w)
from_but w [] block h = absurd h
from_but w (first ∷ blocks) block h = elim (cases_eq first.proc w) [
  | inl is ↦ (
      let h' : In block (blocks_but w blocks) = rw (eq-eqb first.proc w is) at h in
      let r = from_but w blocks block h' in
      (inr r.0, r.1))
  | inr isnt ↦ (
      let h' : (first ≡ block) ⊎ In block (blocks_but w blocks) = rw (ne_eqb first.proc w isnt) at h in
      elim h' [
        | inl here ↦ (inl here, λ s. isnt (ap (λ (b : OpenBlock). b.proc) here ∙ s))
        | inr there ↦ (let r = from_but w blocks block there in (inr r.0, r.1))
      ])
]

pub to_but : (w : ℕ) (blocks : List OpenBlock) (block : OpenBlock) → In block blocks → block.proc ≢ w → In block (blocks_but w blocks)
to_but w [] block h isnt = absurd h
to_but w (first ∷ blocks) block h isnt = elim (cases_eq first.proc w) [
  | inl is ↦ rw (eq-eqb first.proc w is) (elim h [
    | inl here ↦ absurd (isnt (sym (ap (λ (b : OpenBlock). b.proc) here) ∙ is))
    | inr there ↦ to_but w blocks block there isnt
  ])
  | inr other ↦ rw (ne_eqb first.proc w other) (elim h [ inl here ↦ inl here | inr there ↦ inr (to_but w blocks block there isnt) ])
]
