-- The pairs of a first page and an index that are allocated as a cycle ends, by the marks and the logs.
use Rattle.std.proofs.Common.{◌≡◌, ℕ, zero, suc, inl, inr, ⊎_elim, Bool, ◌&&◌, ◌||◌, eqb, eq-eqb, true, false, List, [], ◌∷◌, ◌++◌, map, get_or, refl, sym, ap, subst, ◌∙◌}
use Rattle.std.proofs.lemmas.Bool.{cases_Bool, eqb-true}
use Rattle.page_alloc.specs.Lives.{Life}
use Rattle.page_alloc.specs.Lists.{In}
use Rattle.span_state.specs.MarkSet.{has_pair}
use Rattle.sweep_laws.specs.State.{CoreState}
use Rattle.sweep_laws.proofs.NeedsMet.{both, either_one}
use Rattle.worker_log.specs.declared.Entry.{Entry}
use Rattle.worker_log.specs.declared.Placing.{Placing}
use Rattle.worker_log.specs.Logs.{placings}
use Rattle.run_laws.specs.CycleSoFar.{CycleSoFar}
use Rattle.run_laws.specs.Shown.{bits_of, waits_of}
use Rattle.run_laws.specs.ShowsCycle.{ShowsCycle}
use Rattle.run_laws.proofs.Lines.{page-there}
use Rattle.run_laws.proofs.Shown.{absent-life}
use Rattle.sweep_laws.specs.Lists.{has}
use Rattle.sweep_laws.specs.Named.{begins}
use Rattle.sweep_laws.specs.State.{LifeState}
use Rattle.span_laws.specs.MarkEnds.{placed_pairs}
use Rattle.span_laws.specs.declared.view.Part.{Part}

or_right : (a b : Bool) → b ≡ true → (a || b) ≡ true
or_right true b e = refl
or_right false b e = e

both_true : (a b : Bool) → (a ≡ true → b ≡ true) → (b ≡ true → a ≡ true) → a ≡ b
both_true true true f g = refl
both_true true false f g = sym (f refl)
both_true false true f g = g refl
both_true false false f g = refl

pair_append : (xs ys : List (ℕ × ℕ)) (p j : ℕ) → has_pair (xs ++ ys) p j ≡ (has_pair xs p j || has_pair ys p j)
pair_append [] ys p j = refl
pair_append (x ∷ xs) ys p j = ap (λ (b : Bool). (eqb x.0 p && eqb x.1 j) || b) (pair_append xs ys p j) ∙ assoc (eqb x.0 p && eqb x.1 j) (has_pair xs p j) (has_pair ys p j)
  where
    assoc : (a b c : Bool) → (a || (b || c)) ≡ ((a || b) || c)
    assoc true b c = refl
    assoc false b c = refl

-- the pair of a placing
abbrev pair_of : Placing → ℕ × ℕ
pair_of a = (a.page, a.index)

pairs_have : (ps : List Placing) (a : Placing) → In a ps → has_pair (map pair_of ps) a.page a.index ≡ true
pairs_have [] a h = absurd h
pairs_have (b ∷ ps) a h = ⊎_elim
    (λ (s : b ≡ a). (let x = eq-eqb b.page a.page (ap (λ (z : Placing). z.page) s) in let y = eq-eqb b.index a.index (ap (λ (z : Placing). z.index) s) in rw (x, y) refl))
    (λ (t : In a ps). or_right (eqb b.page a.page && eqb b.index a.index) (has_pair (map pair_of ps) a.page a.index) (pairs_have ps a t)) h

pairs_from : (ps : List Placing) (p j : ℕ) → has_pair (map pair_of ps) p j ≡ true → (a : Placing) × In a ps × (a.page ≡ p) × (a.index ≡ j)
pairs_from [] p j h = let none : ⊥ = cc in absurd none
pairs_from (b ∷ ps) p j h = ⊎_elim
    (λ (x : (eqb b.page p && eqb b.index j) ≡ true). (let t = both (eqb b.page p) (eqb b.index j) x in (b, inl refl, eqb-true b.page p t.0, eqb-true b.index j t.1)))
    (λ (x : has_pair (map pair_of ps) p j ≡ true). (let r = pairs_from ps p j x in (r.0, inr r.1, r.2, r.3)))
    (either_one (eqb b.page p && eqb b.index j) (has_pair (map pair_of ps) p j) h)

-- the log of a part by its number
abbrev pub log_at : List Part → ℕ → List Entry
log_at parts w = get_or (map (λ (h : Part). h.log) parts) w []

parts_have : (parts : List Part) (w : ℕ) (a : Placing) → In a (placings (log_at parts w)) → has_pair (placed_pairs parts) a.page a.index ≡ true
parts_have [] w a h = absurd h
parts_have (x ∷ parts) zero a h = pair_append (map pair_of (placings x.log)) (placed_pairs parts) a.page a.index ∙ ap (λ (b : Bool). b || has_pair (placed_pairs parts) a.page a.index) (pairs_have (placings x.log) a h)
parts_have (x ∷ parts) (suc w) a h = pair_append (map pair_of (placings x.log)) (placed_pairs parts) a.page a.index ∙ or_right (has_pair (map pair_of (placings x.log)) a.page a.index) (has_pair (placed_pairs parts) a.page a.index) (parts_have parts w a h)

parts_from : (parts : List Part) (p j : ℕ) → has_pair (placed_pairs parts) p j ≡ true → (w : ℕ) × (a : Placing) × In a (placings (log_at parts w)) × (a.page ≡ p) × (a.index ≡ j)
parts_from [] p j h = let none : ⊥ = cc in absurd none
parts_from (x ∷ parts) p j h = ⊎_elim
    (λ (s : has_pair (map pair_of (placings x.log)) p j ≡ true). (let r = pairs_from (placings x.log) p j s in (0, r.0, r.1, r.2, r.3)))
    (λ (s : has_pair (placed_pairs parts) p j ≡ true). (let r = parts_from parts p j s in (suc r.0, r.1, r.2, r.3, r.4)))
    (either_one (has_pair (map pair_of (placings x.log)) p j) (has_pair (placed_pairs parts) p j) (sym (pair_append (map pair_of (placings x.log)) (placed_pairs parts) p j) ∙ h))

-- where nothing waits, what is allocated is what is marked and what the logs placed
module _ (region goal : ℕ) (c : CoreState) (e : CycleSoFar) (s : ShowsCycle region goal c e) (settled : (p : ℕ) → waits_of c p ≡ false) (marks : List (ℕ × ℕ)) (parts : List Part)
    (marks_are : (p j : ℕ) → has_pair marks p j ≡ e.marks p j) (logs_are : (w : ℕ) → e.logs w ≡ log_at parts w) where
  is_bit : (p j : ℕ) → has_pair (marks ++ placed_pairs parts) p j ≡ true → bits_of c p j ≡ true
  is_bit p j h = sym (s.bits p j) ∙ ⊎_elim
      (λ (x : has_pair marks p j ≡ true). (let m = s.under.holds.marked_known p j (sym (marks_are p j) ∙ x) in
      ap (λ (q : ℕ). e.bits q j) (sym m.2) ∙ s.under.holds.marked m.0 j m.1 (settled m.0.page) (ap (λ (q : ℕ). e.marks q j) m.2 ∙ sym (marks_are p j) ∙ x)))
      (λ (x : has_pair (placed_pairs parts) p j ≡ true). (let r = parts_from parts p j x in
      (λ i. e.bits (sym r.3 i) (sym r.4 i)) ∙ s.under.holds.placed r.0 r.1 (subst (λ (l : List Entry). In r.1 (placings l)) (sym (logs_are r.0)) r.2)))
      (either_one (has_pair marks p j) (has_pair (placed_pairs parts) p j) (sym (pair_append marks (placed_pairs parts) p j) ∙ h))

  has_bit : (p j : ℕ) → bits_of c p j ≡ true → has_pair (marks ++ placed_pairs parts) p j ≡ true
  has_bit p j on = elim (cases_Bool (begins p c.lives)) [
    | inr isnt ↦ (
        let none : has j (let l : LifeState = Rattle.sweep_laws.specs.Reading.life_in p c.lives in l).allocated ≡ false = ap (λ (l : LifeState). has j l.allocated) (absent-life p c.lives isnt) in
        let nothing : ⊥ = cc in
        absurd nothing)
    | inl is ↦ by_life (page-there p e.known (sym (s.lives.begin p) ∙ is))
  ]
    where
      by_life : (life : Life) × In life e.known × (life.page ≡ p) → has_pair (marks ++ placed_pairs parts) p j ≡ true
      by_life (life, here, at) = pair_append marks (placed_pairs parts) p j ∙ elim (s.under.holds.from life j here (settled life.page) (s.bits life.page j ∙ ap (λ (q : ℕ). bits_of c q j) at ∙ on)) [
        | inl mark ↦ ap (λ (b : Bool). b || has_pair (placed_pairs parts) p j) (marks_are p j ∙ ap (λ (q : ℕ). e.marks q j) (sym at) ∙ mark)
        | inr placed ↦ (
            let a = placed.1 in
            let page : a.page ≡ p = placed.3 ∙ at in
            or_right (has_pair marks p j) (has_pair (placed_pairs parts) p j)
            ((λ i. has_pair (placed_pairs parts) (sym page i) (sym placed.4 i)) ∙ parts_have parts placed.0 a (subst (λ (l : List Entry). In a (placings l)) (logs_are placed.0) placed.2)))
      ]

  pub pairs_are_bits : (p j : ℕ) → bits_of c p j ≡ has_pair (marks ++ placed_pairs parts) p j
  pairs_are_bits p j = both_true (bits_of c p j) (has_pair (marks ++ placed_pairs parts) p j) (has_bit p j) (is_bit p j)
