-- How the counts of a page change where one hand changes.
use Rattle.std.proofs.Common.{◌≡◌, ◌≢◌, ℕ, ◌+◌, ◌<◌, ◌≤◌, ◌⊎◌, ⊎_elim, not, eqb, ne_eqb, List, set, sym, ap, ◌∙◌, arith}
use mathlib.Core.Logic.{dite}
use native.Mathlib.Decide.{dec_le}
use mathlib.Core.Option.{some}
use lib.ListN.{get_elem?}
use Rattle.sweep_laws.specs.State.{HandState}
use Rattle.sweep_laws.specs.Counts.{times}
use Rattle.sweep_laws.specs.Named.{sweepers, holders, cachers, poppers, swept_by, pullers}
use Rattle.sweep_laws.specs.Standing.{Tally, Page}
use Rattle.sweep_laws.proofs.Totals.{total_set, part_le}

pub record Deltas (p : ℕ) (hs hs' : List HandState) (h h' : HandState) : Type 0 where
  pub sweeping : sweepers p hs' + times p h.sweeping ≡ sweepers p hs + times p h'.sweeping
  pub held : holders p hs' + times p h.held ≡ holders p hs + times p h'.held
  pub cached : cachers p hs' + times p h.cached ≡ cachers p hs + times p h'.cached
  pub popped : poppers p hs' + times p h.popped ≡ poppers p hs + times p h'.popped
  pub swept : swept_by p hs' + times p h.swept ≡ swept_by p hs + times p h'.swept
  pub pulled : pullers p hs' + times p h.pulled ≡ pullers p hs + times p h'.pulled

pub deltas : (hs : List HandState) (n : ℕ) (h h' : HandState) → get_elem? hs n ≡ some h → (p : ℕ) → Deltas p hs (set hs n h') h h'
deltas hs n h h' at p = record {
  sweeping = total_set (λ (x : HandState). times p x.sweeping) hs n h h' at;
  held = total_set (λ (x : HandState). times p x.held) hs n h h' at;
  cached = total_set (λ (x : HandState). times p x.cached) hs n h h' at;
  popped = total_set (λ (x : HandState). times p x.popped) hs n h h' at;
  swept = total_set (λ (x : HandState). times p x.swept) hs n h h' at;
  pulled = total_set (λ (x : HandState). times p x.pulled) hs n h h' at;
}

-- what one hand's lists name, all hands' lists name
pub record Parts (p : ℕ) (hs : List HandState) (h : HandState) : Type 0 where
  pub sweeping : times p h.sweeping ≤ sweepers p hs
  pub held : times p h.held ≤ holders p hs
  pub cached : times p h.cached ≤ cachers p hs
  pub popped : times p h.popped ≤ poppers p hs
  pub swept : times p h.swept ≤ swept_by p hs
  pub pulled : times p h.pulled ≤ pullers p hs

pub parts : (hs : List HandState) (n : ℕ) (h : HandState) → get_elem? hs n ≡ some h → (p : ℕ) → Parts p hs h
parts hs n h at p = record {
  sweeping = part_le (λ (x : HandState). times p x.sweeping) hs n h at;
  held = part_le (λ (x : HandState). times p x.held) hs n h at;
  cached = part_le (λ (x : HandState). times p x.cached) hs n h at;
  popped = part_le (λ (x : HandState). times p x.popped) hs n h at;
  swept = part_le (λ (x : HandState). times p x.swept) hs n h at;
  pulled = part_le (λ (x : HandState). times p x.pulled) hs n h at;
}

pub both_owned : (a b : ℕ) → 0 < a → 0 < b → not (eqb a 0) ≡ not (eqb b 0)
both_owned a b x y = ap not (ne_eqb a 0 (λ e. omega arith)) ∙ sym (ap not (ne_eqb b 0 (λ e. omega arith)))

-- a page with another word than 0, G and G+3 is in no swept list
pub unlisted : (g : ℕ) (t : Tally) → Page g t → 0 < t.word → t.word ≢ g → t.word ≢ g + 3 → t.listed ≡ 0
unlisted g t k a b c = dite (dec_le 1 t.listed)
    (λ l. absurd (⊎_elim (λ (x : t.word ≡ 0). let z : ⊥ = omega arith in z)
    (λ (x : (t.word ≡ g) ⊎ (t.word ≡ g + 3)). ⊎_elim (λ (y : t.word ≡ g). b y) (λ (y : t.word ≡ g + 3). c y) x) (k.listed_word l)))
    (λ l. omega arith)
