-- Each number's part is in one of the views, where one seat steps, is handed out or is taken in.
use Rattle.std.proofs.Common.{◌≡◌, ◌≢◌, inl, inr, ⊎_elim, ℕ, ◌≤◌, ◌||◌, Bool, true, false, ne_eqb, List, [], ◌∷◌, ◌++◌, length, set, refl, sym, ap, subst, ◌∙◌, arith}
use Rattle.std.specs.Prelude.{Option}
use mathlib.Core.Logic.{dite}
use mathlib.Core.Option.{some, some-injective}
use native.Mathlib.Decide.{dec_le, ℕ_discrete}
use lib.ListN.{get_elem?}
use Rattle.std.proofs.Math.ListN.{length-set}
use Rattle.atomic_table.proofs.Lists.{at_last, at_longer}
use Rattle.page_cache.specs.Cache.{Cache}
use Rattle.sweep_laws.specs.Counts.{times}
use Rattle.sweep_laws.specs.Lists.{erase, has}
use Rattle.sweep_laws.proofs.Naming.{set_here, times_erase, times_erase_else, times_erase_le}
use Rattle.sweep_laws.proofs.Totals.{inside_at, other_one}
use Rattle.span_laws.proofs.Parts.{has_erase_else, has_none, set_else}
use Rattle.span_table.specs.Running.{HasPart, Present}
use Rattle.span_table.specs.Seats.{sent_out, spent_seat_view, with_number, without_number}
use Rattle.span_table.specs.declared.view.SeatView.{SeatView}
use Rattle.span_table.proofs.StoredKept.{put, put_else, put_here}

module _ (owner : ℕ → ℕ) (driver many : ℕ) (vs : List SeatView) (k : Present owner driver many vs) (id : ℕ) (w : SeatView) (at : get_elem? vs id ≡ some w) where
  -- a seat that stands where another one does is that one
  same_seat : (i : ℕ) (x : SeatView) → i ≡ id → get_elem? vs i ≡ some x → w ≡ x
  same_seat i x e there = some-injective w x (sym at ∙ ap (get_elem? vs) (sym e) ∙ there)

  -- the view changes, but not whose it is
  pub present_act : (w' : SeatView) → w'.out ≡ w.out → w'.number ≡ w.number → w'.drives ≡ w.drives → w'.away ≡ w.away → Present owner driver many (set vs id w')
  present_act w' out number drives away = record {
    driven = let d = k.driven in dite (ℕ_discrete driver id)
        (λ e. let same = same_seat driver d.0 e d.1 in let r : (x : SeatView) × (get_elem? (set vs id w') driver ≡ some x) × (x.drives ≡ true) × ((m : ℕ) → times m x.away ≤ 1) =
        (w', ap (get_elem? (set vs id w')) e ∙ set_here vs id w' (inside_at vs id w at), drives ∙ ap (λ (x : SeatView). x.drives) same ∙ d.2, λ m. subst (λ (l : List ℕ). times m l ≤ 1) (sym (away ∙ ap (λ (x : SeatView). x.away) same)) (d.3 m)) in r)
        (λ e. (d.0, set_else vs id w' driver e ∙ d.1, d.2, d.3));
    seat = λ m low. let s = k.seat m low in dite (ℕ_discrete (owner m) id)
        (λ e. let same = same_seat (owner m) s.0 e s.1 in let r : (x : SeatView) × (get_elem? (set vs id w') (owner m) ≡ some x) × HasPart m x = (
          w',
          ap (get_elem? (set vs id w')) e ∙ set_here vs id w' (inside_at vs id w at),
          (
            out ∙ ap (λ (x : SeatView). x.out) same ∙ s.2.0,
            ⊎_elim
                (λ (t : s.0.number ≡ m). inl (number ∙ ap (λ (x : SeatView). x.number) same ∙ t))
                (λ (t : (s.0.drives ≡ true) × (has m s.0.away ≡ false)). inr (drives ∙ ap (λ (x : SeatView). x.drives) same ∙ t.0, ap (has m) (away ∙ ap (λ (x : SeatView). x.away) same) ∙ t.1)) s.2.1,
          ),
        ) in r)
        (λ e. (s.0, set_else vs id w' (owner m) e ∙ s.1, s.2));
  }

  -- the driver hands a number out, to a seat with this view
  present_new : (m : ℕ) (z : SeatView) → z.out ≡ true → z.number ≡ m → id ≡ driver → has m w.away ≡ false → times m w.away ≡ 0 → Present (put owner m (length vs)) driver many (set vs id (without_number m w) ++ z ∷ [])
  present_new m z z_out z_number is home none = record {
    driven = let d = k.driven in let same = same_seat driver d.0 (sym is) d.1 in (
      without_number m w,
      at_longer (set vs id (without_number m w)) (z ∷ []) driver (without_number m w) (ap (get_elem? (set vs id (without_number m w))) (sym is) ∙ set_here vs id (without_number m w) (inside_at vs id w at)),
      ap (λ (x : SeatView). x.drives) same ∙ d.2,
      λ q. dite (ℕ_discrete m q)
          (λ e. let one = Rattle.sweep_laws.proofs.Totals.same_one m in subst (λ (y : ℕ). times y (m ∷ w.away) ≤ 1) e (omega arith))
          (λ e. let one = other_one m q e in let y = subst (λ (l : List ℕ). times q l ≤ 1) (sym (ap (λ (x : SeatView). x.away) same)) (d.3 q) in omega arith),
    );
    seat = λ q low. dite (ℕ_discrete q m)
        (λ e. let r : (x : SeatView) × (get_elem? (set vs id (without_number m w) ++ z ∷ []) (put owner m (length vs) q) ≡ some x) × HasPart q x = (
          z,
          ap (get_elem? (set vs id (without_number m w) ++ z ∷ [])) (put_here owner m (length vs) q e) ∙ at_last (set vs id (without_number m w)) (z) (length vs) (length-set vs id (without_number m w)),
          (z_out, inl (z_number ∙ sym e)),
        ) in r)
        (λ e. let s = k.seat q low in dite (ℕ_discrete (owner q) id)
        (λ f. let same = same_seat (owner q) s.0 f s.1 in let r : (x : SeatView) × (get_elem? (set vs id (without_number m w) ++ z ∷ []) (put owner m (length vs) q) ≡ some x) × HasPart q x = (
          without_number m w,
          ap (get_elem? (set vs id (without_number m w) ++ z ∷ [])) (put_else owner m (length vs) q e ∙ f) ∙ at_longer (set vs id (without_number m w)) (z ∷ []) id (without_number m w) (set_here vs id (without_number m w) (inside_at vs id w at)),
          (
            ap (λ (x : SeatView). x.out) same ∙ s.2.0,
            ⊎_elim (λ (t : s.0.number ≡ q). inl (ap (λ (x : SeatView). x.number) same ∙ t))
                (λ (t : (s.0.drives ≡ true) × (has q s.0.away ≡ false)). inr (ap (λ (x : SeatView). x.drives) same ∙ t.0, ap (λ (b : Bool). b || has q w.away) (ne_eqb m q (λ f. e (sym f))) ∙ ap (λ (x : SeatView). has q x.away) same ∙ t.1)) s.2.1,
          ),
        ) in r)
        (λ f. let r : (x : SeatView) × (get_elem? (set vs id (without_number m w) ++ z ∷ []) (put owner m (length vs) q) ≡ some x) × HasPart q x =
        (s.0, ap (get_elem? (set vs id (without_number m w) ++ z ∷ [])) (put_else owner m (length vs) q e) ∙ at_longer (set vs id (without_number m w)) (z ∷ []) (owner q) s.0 (set_else vs id (without_number m w) (owner q) f ∙ s.1), s.2) in r));
  }

  pub present_out : (cache : Option Cache) (m : ℕ) → id ≡ driver → has m w.away ≡ false → times m w.away ≡ 0 → Present (put owner m (length vs)) driver many (set vs id (without_number m w) ++ sent_out cache m w ∷ [])
  present_out cache m = present_new m (sent_out cache m w) refl refl

  -- and takes one in, whose seat is the other one
  pub present_in : (j : ℕ) (x : SeatView) → id ≡ driver → j ≢ id → get_elem? vs j ≡ some x → w.out ≡ true → w.drives ≡ true → (x.drives ≡ true → ⊥) → Present (put owner x.number id) driver many (set (set vs id (with_number w x)) j spent_seat_view)
  present_in j x is apart there out drives follows = record {
    driven = let d = k.driven in let same = same_seat driver d.0 (sym is) d.1 in (
      with_number w x,
      ap (get_elem? now) (sym is) ∙ driver_now,
      drives,
      λ q. let le = subst (λ (l : List ℕ). times q l ≤ 1) (sym (ap (λ (y : SeatView). y.away) same)) (d.3 q) in dite (ℕ_discrete q x.number)
          (λ e. let t = times_erase_le x.number w.away in subst (λ (y : ℕ). times y (erase x.number w.away) ≤ 1) (sym e) (let z = subst (λ (y : ℕ). times y w.away ≤ 1) e le in omega arith))
          (λ e. let t = times_erase_else q x.number w.away e in omega arith),
    );
    seat = λ q low. dite (ℕ_discrete q x.number)
        (λ e. let r : (y : SeatView) × (get_elem? now (put owner x.number id q) ≡ some y) × HasPart q y = (with_number w x, ap (get_elem? now) (put_here owner x.number id q e) ∙ driver_now, (out, inr (drives, ap (λ (z : ℕ). has z (erase x.number w.away)) e ∙ gone))) in r)
        (λ e. let s = k.seat q low in dite (ℕ_discrete (owner q) id)
        (λ f. let same = same_seat (owner q) s.0 f s.1 in let r : (y : SeatView) × (get_elem? now (put owner x.number id q) ≡ some y) × HasPart q y = (
          with_number w x,
          ap (get_elem? now) (put_else owner x.number id q e ∙ f) ∙ driver_now,
          (
            out,
            ⊎_elim (λ (t : s.0.number ≡ q). inl (ap (λ (y : SeatView). y.number) same ∙ t))
                (λ (t : (s.0.drives ≡ true) × (has q s.0.away ≡ false)). inr (drives, has_erase_else q x.number w.away e ∙ ap (λ (y : SeatView). has q y.away) same ∙ t.1)) s.2.1,
          ),
        ) in r)
        (λ f. let r : (y : SeatView) × (get_elem? now (put owner x.number id q) ≡ some y) × HasPart q y =
        (s.0, ap (get_elem? now) (put_else owner x.number id q e) ∙ set_else (set vs id (with_number w x)) j spent_seat_view (owner q) (not_taken q e s) ∙ set_else vs id (with_number w x) (owner q) f ∙ s.1, s.2) in r));
  }
    where
      now : List SeatView
      now = set (set vs id (with_number w x)) j spent_seat_view

      driver_now : get_elem? (set (set vs id (with_number w x)) j spent_seat_view) id ≡ some (with_number w x)
      driver_now = set_else (set vs id (with_number w x)) j spent_seat_view id (λ e. apart (sym e)) ∙ set_here vs id (with_number w x) (inside_at vs id w at)

      gone : has x.number (erase x.number w.away) ≡ false
      gone = let d = k.driven in let same = same_seat driver d.0 (sym is) d.1 in let le = subst (λ (l : List ℕ). times x.number l ≤ 1) (sym (ap (λ (y : SeatView). y.away) same)) (d.3 x.number) in
          has_none x.number (erase x.number w.away) (dite (dec_le (times x.number w.away) 0)
          (λ z. let t = times_erase_le x.number w.away in omega arith)
          (λ z. let t = times_erase x.number w.away (omega arith) in omega arith))

      -- the seat that was taken in had no other number
      not_taken : (q : ℕ) → q ≢ x.number → (s : (y : SeatView) × (get_elem? vs (owner q) ≡ some y) × HasPart q y) → owner q ≢ j
      not_taken q e s f = let same : x ≡ s.0 = some-injective x s.0 (sym there ∙ ap (get_elem? vs) (sym f) ∙ s.1) in ⊎_elim
          (λ (t : s.0.number ≡ q). e (sym t ∙ sym (ap (λ (y : SeatView). y.number) same)))
          (λ (t : (s.0.drives ≡ true) × (has q s.0.away ≡ false)). follows (ap (λ (y : SeatView). y.drives) same ∙ t.0))
          s.2.1
