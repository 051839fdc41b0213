-- The bodies agree with the lives, where one page and one part change.
use Rattle.std.proofs.Common.{◌≡◌, ◌≢◌, ℕ, ◌<◌, ◌⊎◌, inl, inr, ⊎_elim, true, false, List, set, length, get_or, sym, ap, ◌∙◌, subst, arith}
use Rattle.std.specs.Prelude.{Option, None}
use mathlib.Core.Logic.{dite}
use mathlib.Core.Option.{some, some-injective}
use lib.ListN.{get_elem?}
use native.Mathlib.Decide.{ℕ_discrete}
use Rattle.page_alloc.specs.Lives.{Life}
use Rattle.span_state.specs.declared.body.Body.{Body}
use Rattle.sweep_laws.specs.Named.{begins}
use Rattle.sweep_laws.specs.Reading.{life_in}
use Rattle.sweep_laws.specs.State.{LifeState}
use Rattle.sweep_laws.proofs.Naming.{at_set, set_here}
use Rattle.sweep_laws.proofs.Totals.{inside_at}
use Rattle.span_laws.specs.declared.view.Part.{Part}
use Rattle.span_laws.specs.declared.view.Span.{Span}
use Rattle.span_laws.specs.Bodies.{Bodies, Fits, IsAway, IsBody, IsHome, IsLent, IsOpen, lends}
use Rattle.span_laws.specs.Views.{span_at, span_of}
use Rattle.span_laws.proofs.Parts.{set_else}

module _ (pages : ℕ) (known : List Life) (ls : List LifeState) (homes : List (Option Body)) (ps : List Part) (b : Bodies pages known ls homes ps) (n : ℕ) (h : Part) (at : get_elem? ps n ≡ some h) where
  module _ (known' : List Life) (ls' : List LifeState) (homes' : List (Option Body)) (h' : Part) (p : ℕ) (many : length homes' ≡ pages)
      (life : (q : ℕ) → q ≢ p → life_in q ls' ≡ life_in q ls) (begin : (q : ℕ) → q ≢ p → begins q ls' ≡ begins q ls)
      (line : (s : Span) → s.page ≢ p → IsOpen known s → IsOpen known' s) (home : (q : ℕ) → q ≢ p → get_or homes' q None ≡ get_or homes q None)
      (lend : (q : ℕ) → q ≢ p → lends q h' ≡ lends q h) (span : (q : ℕ) → q ≢ p → span_at q h'.spans ≡ span_at q h.spans)
      (others : (m : ℕ) (x : Part) → m ≢ n → get_elem? ps m ≡ some x → lends p x ≡ 0)
      (mine : 0 < lends p h' → IsLent known' ls' h' p)
      (there : p < pages → begins p ls' ≡ true → (0 < lends p h') ⊎ IsHome known' ls' homes' p)
      (empty : (0 < lends p h') ⊎ (begins p ls' ≡ false) → get_or homes' p None ≡ None) where
    fits_else : (q : ℕ) → q ≢ p → (s : Span) → Fits known ls q s → Fits known' ls' q s
    fits_else q d s f = record { page = f.page; body = subst (IsBody s) (sym (life q d)) f.body; line = line s (λ e. d (sym f.page ∙ e)) f.line }

    lent_here : (q : ℕ) → 0 < lends q h' → IsLent known' ls' h' q
    lent_here q l = dite (ℕ_discrete q p)
        (λ e. subst (IsLent known' ls' h') (sym e) (mine (subst (λ (z : ℕ). 0 < lends z h') e l)))
        (λ d. let r = b.lent n h at q (subst (λ (z : ℕ). 0 < z) (lend q d) l) in (r.0, span q d ∙ r.1, fits_else q d r.0 r.2))

    lent_else : (m : ℕ) (x : Part) → m ≢ n → get_elem? ps m ≡ some x → (q : ℕ) → 0 < lends q x → IsLent known' ls' x q
    lent_else m x d a q l = dite (ℕ_discrete q p)
        (λ e. let z = others m x d a in let y : 0 < lends p x = subst (λ (z : ℕ). 0 < lends z x) e l in absurd (omega arith))
        (λ y. let r = b.lent m x a q l in (r.0, r.1, fits_else q y r.0 r.2))

    -- the place of a body that is lent is empty
    gone_here : (q : ℕ) → 0 < lends q h' → get_or homes' q None ≡ None
    gone_here q l = dite (ℕ_discrete q p)
        (λ e. ap (λ (z : ℕ). get_or homes' z None) e ∙ empty (inl (subst (λ (z : ℕ). 0 < lends z h') e l)))
        (λ d. home q d ∙ b.gone n h at q (subst (λ (z : ℕ). 0 < z) (lend q d) l))

    gone_else : (m : ℕ) (x : Part) → m ≢ n → get_elem? ps m ≡ some x → (q : ℕ) → 0 < lends q x → get_or homes' q None ≡ None
    gone_else m x d a q l = dite (ℕ_discrete q p)
        (λ e. let z = others m x d a in let y : 0 < lends p x = subst (λ (z : ℕ). 0 < lends z x) e l in absurd (omega arith))
        (λ y. home q y ∙ b.gone m x a q l)

    own_at : get_elem? (set ps n h') n ≡ some h'
    own_at = set_here ps n h' (inside_at ps n h at)

    away_else : (q : ℕ) → q ≢ p → IsAway ps q → IsAway (set ps n h') q
    away_else q d a = dite (ℕ_discrete a.0 n)
        (λ e. let s : a.1 ≡ h = some-injective a.1 h (sym a.2 ∙ ap (get_elem? ps) e ∙ at) in
        let r : IsAway (set ps n h') q = (n, h', own_at, subst (λ (z : ℕ). 0 < z) (sym (lend q d)) (subst (λ (y : Part). 0 < lends q y) s a.3)) in r)
        (λ e. (a.0, a.1, set_else ps n h' a.0 e ∙ a.2, a.3))

    home_else : (q : ℕ) → q ≢ p → q < pages → begins q ls' ≡ true → IsAway (set ps n h') q ⊎ IsHome known' ls' homes' q
    home_else q d l g = ⊎_elim (λ (a : IsAway ps q). inl (away_else q d a))
        (λ (x : IsHome known ls homes q). inr (x.0, home q d ∙ x.1, fits_else q d (span_of x.0) x.2))
        (b.home q l (sym (begin q d) ∙ g))

    home_here : p < pages → begins p ls' ≡ true → IsAway (set ps n h') p ⊎ IsHome known' ls' homes' p
    home_here l g = ⊎_elim (λ (x : 0 < lends p h'). inl (n, h', own_at, x)) (λ (x : IsHome known' ls' homes' p). inr x) (there l g)

    pub bodies_turn : Bodies pages known' ls' homes' (set ps n h')
    bodies_turn = record {
      many = many;
      lent = λ m x a q l. ⊎_elim
          (λ (t : (m ≡ n) × (h' ≡ x)). subst (λ (y : Part). IsLent known' ls' y q) t.1 (lent_here q (subst (λ (y : Part). 0 < lends q y) (sym t.1) l)))
          (λ (t : (m ≢ n) × (get_elem? ps m ≡ some x)). lent_else m x t.0 t.1 q l)
          (at_set ps n m h' x a);
      gone = λ m x a q l. ⊎_elim
          (λ (t : (m ≡ n) × (h' ≡ x)). gone_here q (subst (λ (y : Part). 0 < lends q y) (sym t.1) l))
          (λ (t : (m ≢ n) × (get_elem? ps m ≡ some x)). gone_else m x t.0 t.1 q l)
          (at_set ps n m h' x a);
      bare = λ q g. dite (ℕ_discrete q p)
          (λ e. ap (λ (z : ℕ). get_or homes' z None) e ∙ empty (inr (subst (λ (z : ℕ). begins z ls' ≡ false) e g)))
          (λ d. home q d ∙ b.bare q (sym (begin q d) ∙ g));
      home = λ q l g. dite (ℕ_discrete q p)
          (λ e. subst (λ (z : ℕ). IsAway (set ps n h') z ⊎ IsHome known' ls' homes' z) (sym e) (home_here (subst (λ (z : ℕ). z < pages) e l) (subst (λ (z : ℕ). begins z ls' ≡ true) e g)))
          (λ d. home_else q d l g);
    }

  -- no body moves
  pub bodies_stay : (h' : Part) → ((q : ℕ) → lends q h' ≡ lends q h) → h'.spans ≡ h.spans → Bodies pages known ls homes (set ps n h')
  bodies_stay h' lend spans = record {
    many = b.many;
    lent = λ m x a q l. ⊎_elim
        (λ (t : (m ≡ n) × (h' ≡ x)). subst (λ (y : Part). IsLent known ls y q) t.1
        (let r = b.lent n h at q (subst (λ (z : ℕ). 0 < z) (lend q) (subst (λ (y : Part). 0 < lends q y) (sym t.1) l)) in let z : IsLent known ls h' q = (r.0, ap (span_at q) spans ∙ r.1, r.2) in z))
        (λ (t : (m ≢ n) × (get_elem? ps m ≡ some x)). b.lent m x t.1 q l)
        (at_set ps n m h' x a);
    gone = λ m x a q l. ⊎_elim
        (λ (t : (m ≡ n) × (h' ≡ x)). b.gone n h at q (subst (λ (z : ℕ). 0 < z) (lend q) (subst (λ (y : Part). 0 < lends q y) (sym t.1) l)))
        (λ (t : (m ≢ n) × (get_elem? ps m ≡ some x)). b.gone m x t.1 q l)
        (at_set ps n m h' x a);
    bare = b.bare;
    home = λ q l g. ⊎_elim (λ (a : IsAway ps q). inl (away q a)) (λ (x : IsHome known ls homes q). inr x) (b.home q l g);
  }
    where
      away : (q : ℕ) → IsAway ps q → IsAway (set ps n h') q
      away q a = dite (ℕ_discrete a.0 n)
          (λ e. let s : a.1 ≡ h = some-injective a.1 h (sym a.2 ∙ ap (get_elem? ps) e ∙ at) in
          let r : IsAway (set ps n h') q = (n, h', set_here ps n h' (inside_at ps n h at), subst (λ (z : ℕ). 0 < z) (sym (lend q)) (subst (λ (y : Part). 0 < lends q y) s a.3)) in r)
          (λ e. (a.0, a.1, set_else ps n h' a.0 e ∙ a.2, a.3))
