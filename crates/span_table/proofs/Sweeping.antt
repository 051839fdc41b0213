-- Who sweeps a span does so alone, and nobody sweeps a cached one: from the rule of the lent state, over all workers.
use Rattle.std.proofs.Common.{◌≡◌, ◌≢◌, ◌⊎◌, ⊎_elim, ℕ, suc, ◌+◌, ◌<◌, ◌&&◌, Bool, eqb, List, length, get_or, map, set, refl, sym, ap, ◌∙◌, arith}
use mathlib.Core.Logic.{dite}
use mathlib.Core.Option.{some}
use native.Mathlib.Decide.{dec_le}
use lib.ListN.{get_elem?}
use Rattle.run_laws.specs.Shown.{bits_of}
use Rattle.sweep_laws.specs.Counts.{times}
use Rattle.sweep_laws.specs.Standing.{Page, tally}
use Rattle.sweep_laws.specs.State.{HandState}
use Rattle.sweep_laws.proofs.Forms.{kept_of}
use Rattle.sweep_laws.proofs.Naming.{times_has}
use Rattle.sweep_laws.proofs.Standings.{cached_list, sweeping_list}
use Rattle.sweep_laws.proofs.Totals.{inside_at, part_le, two_parts_le}
use Rattle.span_laws.specs.Asks.{mine}
use Rattle.span_laws.specs.Cycle.{KeepsCycle, cycle_seen}
use Rattle.span_laws.specs.Rule.{Rule}
use Rattle.span_laws.specs.Views.{hand_state, no_part, parts_of}
use Rattle.span_laws.specs.declared.view.Part.{Part}
use Rattle.span_laws.proofs.Parts.{alone, at_map}
use Rattle.span_laws.proofs.RuleKept.{own_never}
use Rattle.atomic_table.proofs.Lists.{set_again}
use Rattle.span_table.specs.Running.{JointState, Lawful, whole}
use Rattle.span_table.specs.Sweeping.{IsCachedBy, IsSweptOnce, SweepsAlone}
use Rattle.span_table.proofs.Joined.{get_at}

module _ (g : JointState) (k : Lawful g) (n : ℕ) (h : Part) (at : get_elem? g.parts n ≡ some h) where
  pub rule : Rule g.core g.heap g.homes n (whole g.base g.parts n)
  rule = (k.kept n (inside_at g.parts n h at)).rule

  cycle : KeepsCycle g.core g.heap n (whole g.base g.parts n) rule.known
  unfolding rule
  cycle = (k.kept n (inside_at g.parts n h at)).cycle

  own_is : get_or g.parts n no_part ≡ h
  own_is = get_at g.parts n h no_part at

  -- the parts of the rule of the lent state are those of all workers
  pub all_parts : parts_of n (whole g.base g.parts n) ≡ g.parts
  all_parts = ap (set g.parts n) own_is ∙ set_again g.parts n h at

  pub hands_are : g.core.hands ≡ map hand_state g.parts
  hands_are = rule.hands ∙ ap (map hand_state) all_parts

  hand_at : (m : ℕ) (x : Part) → get_elem? g.parts m ≡ some x → get_elem? g.core.hands m ≡ some (hand_state x)
  hand_at m x there = ap (λ (l : List HandState). get_elem? l m) hands_are ∙ at_map hand_state g.parts m x there

  -- a page that the part names is of the region
  low : (p : ℕ) → 0 < mine p h → p < length g.core.words
  low p some_of = dite (dec_le (suc p) (length g.core.words)) (λ l. l)
      (λ d. let none = own_never g.core g.heap g.homes n (whole g.base g.parts n) rule p (omega arith) in let a = none.sweeping in let b = none.held in let c = none.cached in
      let s = ap (λ (x : Part). times p x.sweeping) own_is in let t = ap (λ (x : Part). times p x.held) own_is in let u = ap (λ (x : Part). times p x.cached) own_is in absurd (omega arith))

  page : (p : ℕ) → 0 < mine p h → Page g.core.generation (tally g.core.generation g.core.words g.core.lives g.core.sets g.core.hands p)
  page p some_of = (kept_of g.core rule.owned).page p (low p some_of)

  others_of : (p : ℕ) → 0 < mine p h → (m : ℕ) (x : Part) → get_elem? g.parts m ≡ some x → m ≢ n → mine p x ≡ 0
  others_of p some_of m x there d = alone g.core rule.owned g.parts hands_are p (low p some_of) n h at some_of m x d there

  pub sweeps_alone : (p : ℕ) → 0 < times p h.sweeping → SweepsAlone g n p h
  sweeps_alone p sweeps =
      let some_of : 0 < mine p h = omega arith in let y = page p some_of in
      let s = sweeping_list g.core.generation (tally g.core.generation g.core.words g.core.lives g.core.sets g.core.hands p) y.standing
      (let z = part_le (λ (a : HandState). times p a.sweeping) g.core.hands n (hand_state h) (hand_at n h at) in omega arith) in
      let word = s.0 in let one = s.1 in let none = s.2 in
      let a = part_le (λ (a : HandState). times p a.sweeping) g.core.hands n (hand_state h) (hand_at n h at) in
      let b = part_le (λ (a : HandState). times p a.held) g.core.hands n (hand_state h) (hand_at n h at) in
      let c = part_le (λ (a : HandState). times p a.cached) g.core.hands n (hand_state h) (hand_at n h at) in
      let four = rule.owned.lives.generation.low in record {
        word = word;
        once = (omega arith, omega arith, omega arith);
        others = others_of p some_of;
        unswept = λ m x there. let z = part_le (λ (a : HandState). times p a.swept) g.core.hands m (hand_state x) (hand_at m x there) in
            dite (dec_le (times p x.swept) 0) (λ l. omega arith)
            (λ d. ⊎_elim (λ (e : get_or g.core.words p 0 ≡ 0). absurd (omega arith)) (λ (t : (get_or g.core.words p 0 ≡ g.core.generation) ⊎ (get_or g.core.words p 0 ≡ g.core.generation + 3)).
            ⊎_elim (λ (e : get_or g.core.words p 0 ≡ g.core.generation). absurd (omega arith)) (λ (e : get_or g.core.words p 0 ≡ g.core.generation + 3). absurd (omega arith)) t) (y.listed_word (omega arith)));
        body = rule.bodies.lent n h (ap (λ (l : List Part). get_elem? l n) all_parts ∙ at) p (omega arith);
        known = rule.known;
        cycle = cycle_seen n (whole g.base g.parts n) cycle.lines rule.known (bits_of g.core);
        journal = sym cycle.since;
        lives = refl;
        knows = cycle.knows;
      }

  pub cached_by : (p : ℕ) → 0 < times p h.cached → IsCachedBy g n p h
  cached_by p cached =
      let some_of : 0 < mine p h = omega arith in let y = page p some_of in
      let a = part_le (λ (a : HandState). times p a.sweeping) g.core.hands n (hand_state h) (hand_at n h at) in
      let b = part_le (λ (a : HandState). times p a.held) g.core.hands n (hand_state h) (hand_at n h at) in
      let c = part_le (λ (a : HandState). times p a.cached) g.core.hands n (hand_state h) (hand_at n h at) in
      let s = cached_list g.core.generation (tally g.core.generation g.core.words g.core.lives g.core.sets g.core.hands p) y.standing (omega arith) in
      let one = s.1 in let none = s.2 in record {
        word = s.0;
        once = (omega arith, omega arith, omega arith);
        others = others_of p some_of;
        fresh = (rule.tells n h (ap (λ (l : List Part). get_elem? l n) all_parts ∙ at)).fresh p ∙ ap (λ (x : Bool). x && eqb (get_or g.core.words p 0) (g.core.generation + 3)) (times_has p h.cached cached);
      }

pub swept_once : (g : JointState) → Lawful g → (p : ℕ) → p < length g.core.words → IsSweptOnce g p
swept_once g k p low = record {
  by_one = λ n h at. let y = (kept_of g.core (rule g k n h at).owned).page p low in let l = y.listed in
      let a = part_le (λ (a : HandState). times p a.swept) g.core.hands n (hand_state h) (hand_at g k n h at n h at) in omega arith;
  by_two = λ n m h x d at there. let y = (kept_of g.core (rule g k n h at).owned).page p low in let l = y.listed in
      let a = two_parts_le (λ (a : HandState). times p a.swept) g.core.hands n m (hand_state h) (hand_state x) d (hand_at g k n h at n h at) (hand_at g k n h at m x there) in omega arith;
}
