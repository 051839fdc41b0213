-- Which objects of a cycle a processor's countdown samples.
use Rattle.std.proofs.Common.{◌≡◌, ℕ, ◌+◌, ◌≤◌, Bool, true, false, ◌&&◌, eqb, List, [], ◌∷◌, ◌++◌, map, length, refl, sym, ◌∙◌, ap, arith, inl, inr}
use Rattle.std.proofs.lemmas.Bool.{cases_Bool, cases_lt}
use Rattle.trace_reader.specs.declared.trace.Event.{Event}
use Rattle.cycle_history.specs.declared.Answer.{Answer}
use Rattle.cycle_history.specs.declared.Answer.TheVariants.{Placed, Zero, Missed}
use Rattle.cycle_history.specs.Objects.{Object, is_placed}
use Rattle.cycle_history.specs.Rules.{IsObject}
use Rattle.cycle_history.proofs.Plain.{request_in}
use Rattle.profile_cycle.specs.Naming.{slot_for}
use Rattle.profile_cycle.specs.Sampling.{Countdown, behind, is_sample, is_sampled}
use Rattle.run_laws.specs.Asked.{AreAnsweredFrom}
use Rattle.cycle_history.specs.Profile.{placed_by, Samples}
use Rattle.sample_laws.specs.By.{answers_by, events_by}
use Rattle.sample_laws.specs.Counted.{Knows}
use Rattle.sample_laws.specs.Countdowns.{IsSampledTo, flag, flags, slots_by, spends, spent}
use Rattle.sample_laws.proofs.Slots.{need-slot}

-- the first of two lists, and the rest
pub first-of : {X : Type 0} (x y : X) (xs ys : List X) → ◌≡◌ {A = List X} (x ∷ xs) (y ∷ ys) → (x ≡ y) × (xs ≡ ys)
first-of x y xs ys h = (ap (λ (l : List _). head l x) h, ap (λ (l : List _). tail l) h)
  where
    head : {X : Type 0} → List X → X → X
    head [] d = d
    head (x ∷ xs) d = x

    tail : {X : Type 0} → List X → List X
    tail [] = []
    tail (x ∷ xs) = xs

-- a placed object is of a size above 0
pub placed-some : (c n : ℕ) (e : Event) (o : Object) (address : ℕ) → IsObject (request_in c e) n o → o.answer ≡ Placed address → 1 ≤ e.size
placed-some c n e o address one is = elim (cases_lt 0 e.size) [
  | inl some ↦ some
  | inr none ↦ (let z : o.answer ≡ Zero = one.zero.1 (omega arith) in let f : Placed address ≡ Zero = sym is ∙ z in absurd (cc))
]

pub placed-slot : (c n : ℕ) (e : Event) (o : Object) (address : ℕ) → IsObject (request_in c e) n o → o.answer ≡ Placed address → o.need.slot ≡ slot_for e.size
placed-slot c n e o address one is = let some = placed-some c n e o address one is in need-slot e.size e.scan o.need some (one.need some)

-- one object more, of another processor or not placed
sampled-past : (rate seed p : ℕ) (which : ℕ → Bool) (o : Object) (objects : List Object) (c : Countdown) → (eqb o.proc p && is_placed o.answer) ≡ false → IsSampledTo rate seed p which objects c
    → IsSampledTo rate seed p which (o ∷ objects) c
sampled-past rate seed p which o objects c off was =
    let same : placed_by p (o ∷ objects) ≡ placed_by p objects = rw off refl in
    record { samples = rw same was.samples; left = rw same was.left }

-- one placed object more of the processor
sampled-next : (rate seed p : ℕ) (which : ℕ → Bool) (o : Object) (objects : List Object) (c : Countdown) (slot : ℕ) → (eqb o.proc p && is_placed o.answer) ≡ true → o.need.slot ≡ slot → which o.id ≡ is_sample c slot
    → IsSampledTo rate seed p which objects c → IsSampledTo rate seed p which (o ∷ objects) (behind c slot)
sampled-next rate seed p which o objects c slot on is flagged was =
    let more : placed_by p (o ∷ objects) ≡ o ∷ placed_by p objects = rw on refl in
    let here : which o.id ≡ is_sampled rate seed p (slots_by p objects) o.need.slot = flagged ∙ ap (λ (k : ℕ). is_sample c k) (sym is) ∙ ap (λ (d : Countdown). is_sample d o.need.slot) was.left in
    record {
      samples = rw (more, here, was.samples) refl;
      left = rw (more, sym is) (ap (λ (d : Countdown). behind d o.need.slot) was.left);
    }

pub cycle-sampled : (rate seed p cycle n : ℕ) (s : Samples) (c : Countdown) (events : List Event) (answers : List Answer) (given : List Bool) (objects news : List Object)
    → AreAnsweredFrom n (map (request_in cycle) events) news → map (λ (o : Object). o.answer) news ≡ answers → Knows s events given news
    → answers_by p events given ≡ flags c (events_by p events) (answers_by p events answers) → IsSampledTo rate seed p s.sampled objects c
    → IsSampledTo rate seed p s.sampled (news ++ objects) (spent c (events_by p events) (answers_by p events answers))
cycle-sampled rate seed p cycle n s c [] answers given objects [] asked printed knows flagged was = was
cycle-sampled rate seed p cycle n s c [] answers given objects (o ∷ news) asked printed knows flagged was = absurd asked
cycle-sampled rate seed p cycle n s c (e ∷ events) answers given objects [] asked printed knows flagged was = absurd asked
cycle-sampled rate seed p cycle n s c (e ∷ events) answers [] objects (o ∷ news) asked printed knows flagged was = absurd knows
cycle-sampled rate seed p cycle n s c (e ∷ events) [] (f ∷ given) objects (o ∷ news) asked printed knows flagged was = absurd (cc)
cycle-sampled rate seed p cycle n s c (e ∷ events) (a ∷ answers) (f ∷ given) objects (o ∷ news) asked printed knows flagged was =
    let one = asked.0 in
    let told = first-of o.answer a (map (λ (x : Object). x.answer) news) answers printed in
    elim (cases_Bool (eqb e.proc p)) [
      | inl on ↦ (
          let ev : events_by p (e ∷ events) ≡ e ∷ events_by p events = rw on refl in
          let an : answers_by p (e ∷ events) (a ∷ answers) ≡ a ∷ answers_by p events answers = rw on refl in
          let fl : answers_by p (e ∷ events) (f ∷ given) ≡ f ∷ answers_by p events given = rw on refl in
          let both : f ∷ answers_by p events given ≡ flag (spent c (events_by p events) (answers_by p events answers)) e a ∷ flags c (events_by p events) (answers_by p events answers) =
          sym fl ∙ flagged ∙ ap (λ (l : List Event). flags c l (answers_by p (e ∷ events) (a ∷ answers))) ev ∙ ap (λ (l : List Answer). flags c (e ∷ events_by p events) l) an in
          let parts = first-of f (flag (spent c (events_by p events) (answers_by p events answers)) e a) (answers_by p events given) (flags c (events_by p events) (answers_by p events answers)) both in
          let rest = cycle-sampled rate seed p cycle n s c events answers given objects news asked.1 told.1 knows.2 parts.1 was in
          let mine : eqb o.proc p ≡ true = ap (λ (k : ℕ). eqb k p) one.proc ∙ on in
          rw (ev, an) (by-answer a (spent c (events_by p events) (answers_by p events answers)) one told.0 (knows.0 ∙ parts.0) mine rest))
      | inr off ↦ (
          let ev : events_by p (e ∷ events) ≡ events_by p events = rw off refl in
          let an : answers_by p (e ∷ events) (a ∷ answers) ≡ answers_by p events answers = rw off refl in
          let fl : answers_by p (e ∷ events) (f ∷ given) ≡ answers_by p events given = rw off refl in
          let rest_flagged : answers_by p events given ≡ flags c (events_by p events) (answers_by p events answers) =
          sym fl ∙ flagged ∙ ap (λ (l : List Event). flags c l (answers_by p (e ∷ events) (a ∷ answers))) ev ∙ ap (λ (l : List Answer). flags c (events_by p events) l) an in
          let rest = cycle-sampled rate seed p cycle n s c events answers given objects news asked.1 told.1 knows.2 rest_flagged was in
          let others : eqb o.proc p ≡ false = ap (λ (k : ℕ). eqb k p) one.proc ∙ off in
          rw (ev, an) (sampled-past rate seed p s.sampled o (news ++ objects) (spent c (events_by p events) (answers_by p events answers)) (rw others refl) rest))
    ]
  where
    by-answer : (a : Answer) (d : Countdown) → IsObject (request_in cycle e) (length (map (request_in cycle) events) + n) o → o.answer ≡ a → s.sampled o.id ≡ flag d e a → eqb o.proc p ≡ true
        → IsSampledTo rate seed p s.sampled (news ++ objects) d → IsSampledTo rate seed p s.sampled (o ∷ (news ++ objects)) (spends d e a)
    by-answer (Placed address) d one is flagged mine was =
        sampled-next rate seed p s.sampled o (news ++ objects) d (slot_for e.size) (rw (mine, is) refl) (placed-slot cycle (length (map (request_in cycle) events) + n) e o address one is) flagged was
    by-answer Zero d one is flagged mine was = sampled-past rate seed p s.sampled o (news ++ objects) d (rw (mine, is) refl) was
    by-answer (Missed line) d one is flagged mine was = sampled-past rate seed p s.sampled o (news ++ objects) d (rw (mine, is) refl) was
