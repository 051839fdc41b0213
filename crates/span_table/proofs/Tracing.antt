-- Spares and found entries, where one seat steps, is handed out or is taken in.
use Rattle.std.proofs.Common.{◌≡◌, ◌≢◌, ℕ, suc, ◌+◌, ◌<◌, ◌⊎◌, ⊎_elim, true, false, true≢false, List, [], ◌∷◌, ◌++◌, length, get_or, set, refl, sym, ap, subst, ◌∙◌}
use Rattle.std.specs.Prelude.{None, Option, Some}
use mathlib.Core.Logic.{dite}
use mathlib.Core.Option.{some}
use native.Mathlib.Decide.{ℕ_discrete}
use lib.ListN.{get_elem?}
use Rattle.std.proofs.Math.ListN.{length-set}
use Rattle.std.proofs.lemmas.List.{get_or-set_same, get_or-set_other}
use Rattle.sweep_laws.proofs.Naming.{at_set}
use Rattle.block_laws.specs.Blocked.{BlockState}
use Rattle.span_table.specs.Running.{Traced}
use Rattle.span_table.specs.Seats.{spent_seat_view, with_number, without_number}
use Rattle.span_table.specs.declared.view.Found.{Found}
use Rattle.span_table.specs.declared.view.SeatView.{SeatView}
use Rattle.span_table.proofs.Adaptors.{none_some}
use Rattle.span_table.proofs.StoredKept.{put, put_else, put_here}

-- what of one view is so
pub record IsTraced (owner : ℕ → ℕ) (many : ℕ) (b : BlockState) (i : ℕ) (w : SeatView) : Type 0 where
  pub wide : w.out ≡ true → length w.spares ≡ many
  pub spares : w.out ≡ true → (m : ℕ) → m < many → owner m ≡ i → get_or w.spares m 0 ≡ b.spare m
  pub found : w.out ≡ true → (f : Found) → w.found ≡ Some f → b.entry f.set f.entry ≡ f.block + 1

pub one_traced : (owner : ℕ → ℕ) (many : ℕ) (b : BlockState) (vs : List SeatView) → Traced owner many b vs → (i : ℕ) (w : SeatView) → get_elem? vs i ≡ some w → IsTraced owner many b i w
one_traced owner many b vs k i w at = record { wide = k.wide i w at; spares = k.spares i w at; found = k.found i w at }

pub all_traced : (owner : ℕ → ℕ) (many : ℕ) (b : BlockState) (vs : List SeatView) → ((i : ℕ) (w : SeatView) → get_elem? vs i ≡ some w → IsTraced owner many b i w) → Traced owner many b vs
all_traced owner many b vs all = record { wide = λ i w at. (all i w at).wide; spares = λ i w at. (all i w at).spares; found = λ i w at. (all i w at).found }

-- an entry that names a block names it still
abbrev pub Stand : BlockState → BlockState → Type 0
Stand b c = (s e x : ℕ) → b.entry s e ≡ x + 1 → c.entry s e ≡ x + 1

module _ (owner : ℕ → ℕ) (many : ℕ) (b : BlockState) (vs : List SeatView) (k : Traced owner many b vs) (id : ℕ) where
  -- one seat steps
  pub traced_act : (c : BlockState) (w : SeatView) → Stand b c → ((m : ℕ) → m < many → owner m ≢ id → c.spare m ≡ b.spare m) → IsTraced owner many c id w → Traced owner many c (set vs id w)
  traced_act c w stand others own = all_traced owner many c (set vs id w) (λ i x at. ⊎_elim
      (λ (t : (i ≡ id) × (w ≡ x)). subst (λ (z : ℕ × SeatView). IsTraced owner many c z.0 z.1) (λ j. (sym t.0 j, t.1 j)) own)
      (λ (t : (i ≢ id) × (get_elem? vs i ≡ some x)). record {
        wide = k.wide i x t.1;
        spares = λ o m low is. k.spares i x t.1 o m low is ∙ sym (others m low (λ z. t.0 (sym is ∙ z)));
        found = λ o f is. stand f.set f.entry f.block (k.found i x t.1 o f is);
      })
      (at_set vs id i w x at))

  module _ (w : SeatView) (at : get_elem? vs id ≡ some w) (out : w.out ≡ true) where
    -- nothing of it changes
    pub traced_same : (x : SeatView) → x.out ≡ w.out → x.spares ≡ w.spares → x.found ≡ w.found → IsTraced owner many b id x
    traced_same x o s f = record {
      wide = λ z. ap (λ (l : List ℕ). length l) s ∙ k.wide id w at out;
      spares = λ z m low is. ap (λ (l : List ℕ). get_or l m 0) s ∙ k.spares id w at out m low is;
      found = λ z g is. k.found id w at out g (sym f ∙ is);
    }

    -- a number is handed out, to a seat with the view y
    module _ (m : ℕ) (y : SeatView) (same : y.spares ≡ w.spares) (nothing : y.found ≡ None) (mine : owner m ≡ id) (inside : (q : ℕ) → q < many → owner q ≢ length vs) (below : (i : ℕ) (x : SeatView) → get_elem? vs i ≡ some x → i ≢ length vs)
        (at_end : (i : ℕ) (x : SeatView) → get_elem? (set vs id (without_number m w) ++ y ∷ []) i ≡ some x → (get_elem? (set vs id (without_number m w)) i ≡ some x) ⊎ ((i ≡ length vs) × (y ≡ x))) where
      was : (q i : ℕ) → i ≢ length vs → put owner m (length vs) q ≡ i → owner q ≡ i
      was q i d is = dite (ℕ_discrete q m) (λ z. absurd (d (sym is ∙ put_here owner m (length vs) q z))) (λ z. sym (put_else owner m (length vs) q z) ∙ is)

      new : (q : ℕ) → q < many → put owner m (length vs) q ≡ length vs → owner q ≡ id
      new q low is = dite (ℕ_discrete q m) (λ z. ap owner z ∙ mine) (λ z. absurd (inside q low (sym (put_else owner m (length vs) q z) ∙ is)))

      stays : (i : ℕ) (x : SeatView) → get_elem? vs i ≡ some x → IsTraced (put owner m (length vs)) many b i x
      stays i x there = record { wide = k.wide i x there; spares = λ o q low is. k.spares i x there o q low (was q i (below i x there) is); found = k.found i x there }

      driver_stays : IsTraced (put owner m (length vs)) many b id (without_number m w)
      driver_stays = record { wide = λ o. k.wide id w at out; spares = λ o q low is. k.spares id w at out q low (was q id (below id w at) is); found = λ o. k.found id w at out }

      goes_out : IsTraced (put owner m (length vs)) many b (length vs) (y)
      goes_out = record { wide = λ o. ap (λ (l : List ℕ). length l) same ∙ k.wide id w at out; spares = λ o q low is. ap (λ (l : List ℕ). get_or l q 0) same ∙ k.spares id w at out q low (new q low is); found = λ o f is. none_some f (sym nothing ∙ is) }

      pub traced_out : Traced (put owner m (length vs)) many b (set vs id (without_number m w) ++ y ∷ [])
      traced_out = all_traced (put owner m (length vs)) many b (set vs id (without_number m w) ++ y ∷ []) (λ i x there. ⊎_elim
          (λ (t : get_elem? (set vs id (without_number m w)) i ≡ some x). ⊎_elim
          (λ (u : (i ≡ id) × (without_number m w ≡ x)). subst (λ (z : ℕ × SeatView). IsTraced (put owner m (length vs)) many b z.0 z.1) (λ j. (sym u.0 j, u.1 j)) driver_stays)
          (λ (u : (i ≢ id) × (get_elem? vs i ≡ some x)). stays i x u.1)
          (at_set vs id i (without_number m w) x t))
          (λ (t : (i ≡ length vs) × (y ≡ x)). subst (λ (z : ℕ × SeatView). IsTraced (put owner m (length vs)) many b z.0 z.1) (λ j. (sym t.0 j, t.1 j)) goes_out)
          (at_end i x there))

    -- a worker is taken in, whose number the seat had not
    module _ (j : ℕ) (x : SeatView) (apart : j ≢ id) (there : get_elem? vs j ≡ some x) (out_too : x.out ≡ true) (by_other : owner x.number ≡ j) (low : x.number < many) where
      came : (q i : ℕ) → i ≢ id → put owner x.number id q ≡ i → owner q ≡ i
      came q i d is = dite (ℕ_discrete q x.number) (λ z. absurd (d (sym is ∙ put_here owner x.number id q z))) (λ z. sym (put_else owner x.number id q z) ∙ is)

      both : IsTraced (put owner x.number id) many b id (with_number w x)
      both = record {
        wide = λ o. length-set w.spares x.number (get_or x.spares x.number 0) ∙ k.wide id w at out;
        spares = λ o q less is. dite (ℕ_discrete q x.number)
            (λ z. ap (λ (n : ℕ). get_or (set w.spares x.number (get_or x.spares x.number 0)) n 0) z
            ∙ get_or-set_same w.spares x.number (get_or x.spares x.number 0) 0 (subst (λ (n : ℕ). x.number < n) (sym (k.wide id w at out)) low)
            ∙ k.spares j x there out_too x.number low by_other ∙ ap b.spare (sym z))
            (λ z. get_or-set_other w.spares x.number q (get_or x.spares x.number 0) 0 z ∙ k.spares id w at out q less (sym (put_else owner x.number id q z) ∙ is));
        found = λ o. k.found id w at out;
      }

      spent : IsTraced (put owner x.number id) many b j spent_seat_view
      spent = record { wide = λ o. absurd (true≢false (sym o)); spares = λ o. absurd (true≢false (sym o)); found = λ o. absurd (true≢false (sym o)) }

      still : (i : ℕ) (y : SeatView) → i ≢ id → get_elem? vs i ≡ some y → IsTraced (put owner x.number id) many b i y
      still i y d e = record { wide = k.wide i y e; spares = λ o q less is. k.spares i y e o q less (came q i d is); found = k.found i y e }

      pub traced_in : Traced (put owner x.number id) many b (set (set vs id (with_number w x)) j spent_seat_view)
      traced_in = all_traced (put owner x.number id) many b (set (set vs id (with_number w x)) j spent_seat_view) (λ i y e. ⊎_elim
          (λ (t : (i ≡ j) × (spent_seat_view ≡ y)). subst (λ (z : ℕ × SeatView). IsTraced (put owner x.number id) many b z.0 z.1) (λ l. (sym t.0 l, t.1 l)) spent)
          (λ (t : (i ≢ j) × (get_elem? (set vs id (with_number w x)) i ≡ some y)). ⊎_elim
          (λ (u : (i ≡ id) × (with_number w x ≡ y)). subst (λ (z : ℕ × SeatView). IsTraced (put owner x.number id) many b z.0 z.1) (λ l. (sym u.0 l, u.1 l)) both)
          (λ (u : (i ≢ id) × (get_elem? vs i ≡ some y)). still i y u.0 u.1)
          (at_set vs id i (with_number w x) y t.1))
          (at_set (set vs id (with_number w x)) j i spent_seat_view y e))
