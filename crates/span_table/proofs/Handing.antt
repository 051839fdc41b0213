-- Seats come and go: a worker is handed out, with a page cache or without, and taken in. The core does not change, and of the parts only page
-- caches come and go.
use Rattle.std.proofs.Common.{◌≡◌, ◌≢◌, ℕ, zero, suc, ◌+◌, ◌<◌, ◌≤◌, ◌⊎◌, inl, inr, ⊎_elim, Bool, ◌||◌, true, false, true≢false, eqb, eq-eqb, List, [], ◌∷◌, ◌++◌, length, get_or, set, refl, sym, ap, subst, ◌∙◌, arith}
use Rattle.std.specs.Prelude.{None, Option, Some}
use mathlib.Core.Logic.{dite}
use mathlib.Core.Option.{some, some-injective, some-ne-none}
use native.Mathlib.Decide.{dec_le, ℕ_discrete}
use lib.ListN.{get_elem?}
use Rattle.std.proofs.Math.ListN.{length-set}
use Rattle.atomic_table.specs.Table.{State, Splits, Joins}
use Rattle.page_alloc.specs.Heap.{PageHeap}
use Rattle.sweep_laws.specs.Counts.{times}
use Rattle.sweep_laws.specs.Lists.{has}
use Rattle.sweep_laws.proofs.Naming.{at_low, at_set, set_here, times_has}
use Rattle.sweep_laws.proofs.Totals.{inside_at}
use Rattle.page_cache.specs.Cache.{Cache, only}
use Rattle.run_laws.specs.Blocks.{out_of}
use Rattle.span_laws.specs.CacheAnswers.{IsEmptyCache}
use Rattle.span_laws.specs.Handed.{with_cache}
use Rattle.span_laws.specs.Views.{no_part, parts_of}
use Rattle.span_laws.specs.declared.view.Part.{Part}
use Rattle.span_laws.specs.declared.view.View.{View}
use Rattle.span_laws.proofs.Parts.{has_erase_else, set_else}
use Rattle.span_table.specs.Turning.{Ruled}
use Rattle.span_table.proofs.Ruling.{lift_join, lift_split}
use Rattle.span_table.specs.Running.{JointState, Present, Running, Seated, Seats, Traced}
use Rattle.span_table.specs.Seats.{sent_out, spent_seat_view, with_number, without_number}
use Rattle.span_table.specs.declared.view.Item.{Item}
use Rattle.span_table.specs.declared.view.SeatView.{SeatView}
use Rattle.page_bitmap.specs.declared.line.Line.{Line}
use Rattle.span_table.proofs.Adaptors.{none_some}
use Rattle.span_table.proofs.Joined.{get_at, inside}
use Rattle.span_table.proofs.PresentKept.{present_in, present_out}
use Rattle.span_table.proofs.StoredKept.{put, put_else, put_here}
use Rattle.span_table.proofs.Recaching.{idle_part, recached, recached_counts, recached_lawful, recached_stored, tells_now}
use Rattle.span_table.proofs.Tracing.{traced_in, traced_out}

-- the last place of a longer list, or one before it
pub at_end : {A : Type 0} (l : List A) (a b : A) (j : ℕ) → get_elem? (l ++ a ∷ []) j ≡ some b → (get_elem? l j ≡ some b) ⊎ ((j ≡ length l) × (a ≡ b))
at_end [] a b zero e = inr (refl, some-injective a b e)
at_end [] a b (suc j) e = absurd (some-ne-none b (sym e))
at_end (x ∷ l) a b zero e = inl e
at_end (x ∷ l) a b (suc j) e = ⊎_elim (λ (t : get_elem? l j ≡ some b). inl t) (λ (t : (j ≡ length l) × (a ≡ b)). inr (ap suc t.0, t.1)) (at_end l a b j e)

or_left : (a b : Bool) → (a || b) ≡ false → a ≡ false
or_left true b e = e
or_left false b e = refl

or_right : (a b : Bool) → (a || b) ≡ false → b ≡ false
or_right true b e = absurd (true≢false e)
or_right false b e = e

-- what a table shows where the part of a number goes to another seat
abbrev pub goes : JointState → ℕ → ℕ → JointState
goes g m i = record g { owner = put g.owner m i }

-- a part that is the same in a list of parts goes out
own_of : (parts : List Part) (n m : ℕ) (y x : Part) → m ≢ n → get_elem? parts m ≡ some x → get_or (set parts n y) m no_part ≡ x
own_of parts n m y x d e = get_at (set parts n y) m x no_part (set_else parts n y m d ∙ e)

no_told : (past : List Line) → None ≡ Some past → ⊥
no_told past e = cc

module _ (R : ℕ) where
  module _ (s : State Item SeatView) (r : Running R s) (id : ℕ) (w : SeatView) (at : get_elem? s.views id ≡ some w) (drives : w.drives ≡ true) (m : ℕ) (low : m < length w.view.parts) (home : has m w.away ≡ false) (other : m ≢ w.number)
      (cache : Option Cache) (fits : (cache ≡ None) ⊎ (cache ≡ Some (only m None))) where
    abbrev part : Part
    part = get_or w.view.parts m no_part

    abbrev cached_part : Part
    cached_part = with_cache cache (get_or w.view.parts m no_part)

    abbrev now : JointState
    now = recached (goes r.joint m (length s.views)) m (get_or w.view.parts m no_part) cache

    is_driver : id ≡ r.joint.driver
    is_driver = ((r.seats id w at).drives drives).0

    none_away : times m w.away ≡ 0
    none_away = dite (dec_le (times m w.away) 0) (λ z. omega arith) (λ z. absurd (true≢false (sym (times_has m w.away (omega arith)) ∙ home)))

    from : (r.joint.owner m ≡ id) × (get_elem? r.joint.parts m ≡ get_elem? w.view.parts m) × ((p : ℕ) → r.joint.taker p ≢ m + 1) × (r.joint.lock ≢ m + 1) × ((h : Part) → get_elem? r.joint.parts m ≡ some h → h.cache ≡ None)
    from = (r.seats id w at).rest is_driver m (subst (λ (z : ℕ). m < z) ((r.seats id w at).wide is_driver) low) home other

    low_part : m < length r.joint.parts
    low_part = subst (λ (z : ℕ). m < z) ((r.seats id w at).wide is_driver) low

    part_at : get_elem? r.joint.parts m ≡ some (get_or w.view.parts m no_part)
    part_at = from.1 ∙ at_low w.view.parts m no_part low

    idle_for : (out_of part.log ≡ None) × (part.pulled ≡ [])
    idle_for = idle_part m part (tells_now r.joint m low_part part part_at r.lawful) (inl (from.4 part part_at))

    left_seat : Seated now id (without_number m w)
    left_seat = let t = r.seats id w at in record {
      agrees = t.agrees;
      own_is = λ o. set_else r.joint.parts m cached_part w.number (λ e. other (sym e)) ∙ t.own_is o;
      own_by = λ o. put_else r.joint.owner m (length s.views) w.number (λ e. other (sym e)) ∙ t.own_by o;
      lock_is = t.lock_is;
      holds = t.holds;
      told_is = λ o past e. absurd (no_told past e);
      slot_is = t.slot_is;
      drives = t.drives;
      rest = λ d q l h n. let u = t.rest d q (subst (λ (z : ℕ). q < z) (length-set r.joint.parts m cached_part) l) (or_right (eqb m q) (has q w.away) h) n in
          let q_else : q ≢ m = λ e. true≢false (sym (eq-eqb m q (sym e)) ∙ or_left (eqb m q) (has q w.away) h) in
          (put_else r.joint.owner m (length s.views) q q_else ∙ u.0, set_else r.joint.parts m cached_part q q_else ∙ u.1, u.2, u.3, λ y z. u.4 y (sym (set_else r.joint.parts m cached_part q q_else) ∙ z));
      wide = λ d. t.wide d ∙ sym (length-set r.joint.parts m cached_part);
    }

    right_seat : Seated now (length s.views) (sent_out cache m w)
    right_seat = let t = r.seats id w at in let out = (t.drives drives).1 in
        let there : get_elem? w.view.parts m ≡ some part = at_low w.view.parts m no_part low in record {
          agrees = λ o. ap (λ (b : View). record b { own = with_cache cache (get_or (parts_of w.number w.view) m no_part); parts = parts_of w.number w.view }) (t.agrees out);
          own_is = λ o. set_here r.joint.parts m cached_part low_part ∙ ap (λ (x : Part). some (with_cache cache x)) (sym (own_of w.view.parts w.number m w.view.own part other there));
          own_by = λ o. put_here r.joint.owner m (length s.views) m refl;
          lock_is = λ o h e. no_heap h e;
          holds = λ o e. absurd (from.3 e);
          told_is = λ o past e. absurd (no_told past e);
          slot_is = λ o p e. absurd (from.2 p e);
          drives = λ e. absurd (true≢false (sym e));
          rest = λ d. absurd (old (d ∙ sym is_driver));
          wide = λ d. absurd (old (d ∙ sym is_driver));
        }
      where
        old : length s.views ≡ id → ⊥
        old e = let l = inside_at s.views id w at in omega arith

        no_heap : (h : PageHeap) → None ≡ Some h → (r.joint.lock ≡ m + 1) × (r.joint.heap ≡ h)
        no_heap h e = absurd cc

    other_seat : (i : ℕ) (x : SeatView) → i ≢ id → get_elem? s.views i ≡ some x → Seated now i x
    other_seat i x d e = let t = r.seats i x e in let driver = r.seats id w at in let not_it : r.joint.owner x.number ≡ i → x.number ≢ m = λ by z. d (sym by ∙ ap r.joint.owner z ∙ from.0) in record {
      agrees = t.agrees;
      own_is = λ o. set_else r.joint.parts m cached_part x.number (not_it (t.own_by o)) ∙ t.own_is o;
      own_by = λ o. put_else r.joint.owner m (length s.views) x.number (not_it (t.own_by o)) ∙ t.own_by o;
      lock_is = t.lock_is;
      holds = t.holds;
      told_is = λ o past e. absurd (d (sym ((t.told_is o past e).1 w.number (inside r.joint id w driver (driver.drives drives).1)) ∙ driver.own_by (driver.drives drives).1));
      slot_is = t.slot_is;
      drives = t.drives;
      rest = λ z. absurd (d (z ∙ sym is_driver));
      wide = λ z. absurd (d (z ∙ sym is_driver));
    }

    out_seats : Seats now (set s.views id (without_number m w) ++ sent_out cache m w ∷ [])
    out_seats i x e = ⊎_elim
        (λ (t : get_elem? (set s.views id (without_number m w)) i ≡ some x). ⊎_elim
        (λ (u : (i ≡ id) × (without_number m w ≡ x)). subst (λ (z : ℕ × SeatView). Seated now z.0 z.1) (λ j. (sym u.0 j, u.1 j)) left_seat)
        (λ (u : (i ≢ id) × (get_elem? s.views i ≡ some x)). other_seat i x u.0 u.1)
        (at_set s.views id i (without_number m w) x t))
        (λ (t : (i ≡ length (set s.views id (without_number m w))) × (sent_out cache m w ≡ x)).
        subst (λ (z : ℕ × SeatView). Seated now z.0 z.1) (λ j. (sym (t.0 ∙ length-set s.views id (without_number m w)) j, t.1 j)) right_seat)
        (at_end (set s.views id (without_number m w)) (sent_out cache m w) x i e)

    handed_out : Running R record { words = s.words; homes = s.homes; views = set s.views id (without_number m w) ++ sent_out cache m w ∷ [] }
    handed_out = record {
      joint = now;
      lawful = record { kept = (recached_lawful r.joint m low_part part part_at r.lawful cache idle_for fits).kept };
      locked = subst (λ (z : ℕ). r.joint.lock ≤ z) (sym (length-set r.joint.parts m cached_part)) r.locked;
      blocks = r.blocks;
      words = record { size = r.words.size; many = r.words.many; whole = r.words.whole; blocked = r.words.blocked; shows = r.words.shows };
      seats = out_seats;
      stored = (let t = recached_stored r.joint m low_part part part_at r.lawful cache idle_for fits R s.homes r.stored in record { deep = t.deep; heap_home = t.heap_home; at_home = t.at_home; body_home = t.body_home; taker_lent = t.taker_lent });
      counted = (let t = recached_counts r.joint m low_part part part_at r.lawful cache idle_for fits s.words r.counted in record { sums = t.sums; each = t.each });
      present = subst (λ (many : ℕ). Present (put r.joint.owner m (length s.views)) r.joint.driver many (set s.views id (without_number m w) ++ sent_out cache m w ∷ [])) (sym (length-set r.joint.parts m cached_part))
          (present_out r.joint.owner r.joint.driver (length r.joint.parts) s.views r.present id w at cache m is_driver home none_away);
      traced = subst (λ (many : ℕ). Traced (put r.joint.owner m (length s.views)) many r.blocks (set s.views id (without_number m w) ++ sent_out cache m w ∷ [])) (sym (length-set r.joint.parts m cached_part))
          (traced_out r.joint.owner (length r.joint.parts) r.blocks s.views r.traced id w at ((r.seats id w at).drives drives).1 m (sent_out cache m w) refl refl from.0
          (λ q deep e. let p = r.present.seat q deep in let l = inside_at s.views (r.joint.owner q) p.0 p.1 in omega arith) (λ i x there e. let l = inside_at s.views i x there in omega arith)
          (λ i x there. ⊎_elim (λ (t : get_elem? (set s.views id (without_number m w)) i ≡ some x). inl t) (λ (t : (i ≡ length (set s.views id (without_number m w))) × (sent_out cache m w ≡ x)). inr (t.0 ∙ length-set s.views id (without_number m w), t.1))
          (at_end (set s.views id (without_number m w)) (sent_out cache m w) x i there)));
    }

  -- the driver hands out the worker of a number that it has, with a page cache or without
  pub hands_out : (id : ℕ) (w : SeatView) (m : ℕ) (cache : Option Cache) → w.out ≡ true → w.drives ≡ true → m < length w.view.parts → has m w.away ≡ false → m ≢ w.number → (cache ≡ None) ⊎ (cache ≡ Some (only m None))
      → Splits (Ruled R) id w (without_number m w) (sent_out cache m w)
  hands_out id w m cache out drives low home other fits = lift_split R id w (without_number m w) (sent_out cache m w) out (λ s r at. handed_out s r id w at drives m low home other cache fits)

  module _ (s : State Item SeatView) (r : Running R s) (id : ℕ) (w : SeatView) (at : get_elem? s.views id ≡ some w) (j : ℕ) (x : SeatView) (apart : j ≢ id) (there : get_elem? s.views j ≡ some x) (drives : w.drives ≡ true) (out : x.out ≡ true) (empty : x.slot_out ≡ 0) (unlocked : x.heap ≡ None) (settled : (x.view.own.cache ≡ None) ⊎ IsEmptyCache x.view.own.cache) where
    abbrev back : JointState
    back = recached (goes r.joint x.number id) x.number x.view.own None

    own_part : get_elem? r.joint.parts x.number ≡ some x.view.own
    own_part = (r.seats j x there).own_is out

    below : x.number < length r.joint.parts
    below = inside r.joint j x (r.seats j x there) out

    idle : (out_of x.view.own.log ≡ None) × (x.view.own.pulled ≡ [])
    idle = idle_part x.number x.view.own (tells_now r.joint x.number below x.view.own own_part r.lawful) settled

    driver_is : id ≡ r.joint.driver
    driver_is = ((r.seats id w at).drives drives).0

    by_other : r.joint.owner x.number ≡ j
    by_other = (r.seats j x there).own_by out

    not_own : x.number ≢ w.number
    not_own e = let t = r.seats id w at in apart (sym by_other ∙ ap r.joint.owner e ∙ t.own_by (t.drives drives).1)

    both_seat : Seated back id (with_number w x)
    both_seat = let t = r.seats id w at in record {
      agrees = λ o. ap (λ (v : View). record v { parts = set w.view.parts x.number (with_cache None x.view.own) }) (t.agrees o);
      own_is = λ o. set_else r.joint.parts x.number (with_cache None x.view.own) w.number (λ e. not_own (sym e)) ∙ t.own_is o;
      own_by = λ o. put_else r.joint.owner x.number id w.number (λ e. not_own (sym e)) ∙ t.own_by o;
      lock_is = t.lock_is;
      holds = t.holds;
      told_is = λ o past e. absurd (apart (sym by_other ∙ (t.told_is o past e).1 x.number (inside r.joint j x (r.seats j x there) out)));
      slot_is = t.slot_is;
      drives = t.drives;
      rest = λ d q l h n. dite (ℕ_discrete q x.number)
          (λ e. (
            put_here r.joint.owner x.number id q e,
            ap (get_elem? (set r.joint.parts x.number (with_cache None x.view.own))) e ∙ set_here r.joint.parts x.number (with_cache None x.view.own) below
                ∙ sym (ap (get_elem? (set w.view.parts x.number (with_cache None x.view.own))) e ∙ set_here w.view.parts x.number (with_cache None x.view.own) (let a = below in let b = t.wide d in omega arith)),
            λ p z. let y = (r.seats j x there).slot_is out p (z ∙ ap (λ (k : ℕ). k + 1) e) in omega arith,
            λ z. none_some r.joint.heap (sym unlocked ∙ (r.seats j x there).holds out (z ∙ ap (λ (k : ℕ). k + 1) e)),
            λ h z. ap (λ (y : Part). y.cache) (sym (some-injective (with_cache None x.view.own) h (sym (set_here r.joint.parts x.number (with_cache None x.view.own) below) ∙ ap (get_elem? (set r.joint.parts x.number (with_cache None x.view.own))) (sym e) ∙ z))),
          ))
          (λ e. let u = t.rest d q (subst (λ (z : ℕ). q < z) (length-set r.joint.parts x.number (with_cache None x.view.own)) l) (sym (has_erase_else q x.number w.away e) ∙ h) n in (
            put_else r.joint.owner x.number id q e ∙ u.0,
            set_else r.joint.parts x.number (with_cache None x.view.own) q e ∙ u.1 ∙ sym (set_else w.view.parts x.number (with_cache None x.view.own) q e),
            u.2,
            u.3,
            λ h z. u.4 h (sym (set_else r.joint.parts x.number (with_cache None x.view.own) q e) ∙ z),
          ));
      wide = λ d. length-set w.view.parts x.number (with_cache None x.view.own) ∙ t.wide d ∙ sym (length-set r.joint.parts x.number (with_cache None x.view.own));
    }

    spent_seat : Seated back j spent_seat_view
    spent_seat = record {
      agrees = λ o. absurd (true≢false (sym o));
      own_is = λ o. absurd (true≢false (sym o));
      own_by = λ o. absurd (true≢false (sym o));
      lock_is = λ o. absurd (true≢false (sym o));
      holds = λ o. absurd (true≢false (sym o));
      told_is = λ o. absurd (true≢false (sym o));
      slot_is = λ o. absurd (true≢false (sym o));
      drives = λ o. absurd (true≢false (sym o));
      rest = λ d. absurd (apart (d ∙ sym driver_is));
      wide = λ d. absurd (apart (d ∙ sym driver_is));
    }

    still_seat : (i : ℕ) (y : SeatView) → i ≢ id → i ≢ j → get_elem? s.views i ≡ some y → Seated back i y
    still_seat i y d f e = let t = r.seats i y e in record {
      agrees = t.agrees;
      own_is = λ o. set_else r.joint.parts x.number (with_cache None x.view.own) y.number (λ z. f (sym (t.own_by o) ∙ ap r.joint.owner z ∙ by_other)) ∙ t.own_is o;
      own_by = λ o. put_else r.joint.owner x.number id y.number (λ z. f (sym (t.own_by o) ∙ ap r.joint.owner z ∙ by_other)) ∙ t.own_by o;
      lock_is = t.lock_is;
      holds = t.holds;
      told_is = λ o past e. absurd (f (sym ((t.told_is o past e).1 x.number (inside r.joint j x (r.seats j x there) out)) ∙ by_other));
      slot_is = t.slot_is;
      drives = t.drives;
      rest = λ z. absurd (d (z ∙ sym driver_is));
      wide = λ z. absurd (d (z ∙ sym driver_is));
    }

    in_seats : Seats back (set (set s.views id (with_number w x)) j spent_seat_view)
    in_seats i y e = ⊎_elim
        (λ (t : (i ≡ j) × (spent_seat_view ≡ y)). subst (λ (z : ℕ × SeatView). Seated back z.0 z.1) (λ k. (sym t.0 k, t.1 k)) spent_seat)
        (λ (t : (i ≢ j) × (get_elem? (set s.views id (with_number w x)) i ≡ some y)). ⊎_elim
        (λ (u : (i ≡ id) × (with_number w x ≡ y)). subst (λ (z : ℕ × SeatView). Seated back z.0 z.1) (λ k. (sym u.0 k, u.1 k)) both_seat)
        (λ (u : (i ≢ id) × (get_elem? s.views i ≡ some y)). still_seat i y u.0 t.0 u.1)
        (at_set s.views id i (with_number w x) y t.1))
        (at_set (set s.views id (with_number w x)) j i spent_seat_view y e)

    taken_in : Running R record { words = s.words; homes = s.homes; views = set (set s.views id (with_number w x)) j spent_seat_view }
    taken_in = record {
      joint = back;
      lawful = record { kept = (recached_lawful r.joint x.number below x.view.own own_part r.lawful None idle (inl refl)).kept };
      locked = subst (λ (z : ℕ). r.joint.lock ≤ z) (sym (length-set r.joint.parts x.number (with_cache None x.view.own))) r.locked;
      blocks = r.blocks;
      words = record { size = r.words.size; many = r.words.many; whole = r.words.whole; blocked = r.words.blocked; shows = r.words.shows };
      seats = in_seats;
      stored = (let t = recached_stored r.joint x.number below x.view.own own_part r.lawful None idle (inl refl) R s.homes r.stored in record { deep = t.deep; heap_home = t.heap_home; at_home = t.at_home; body_home = t.body_home; taker_lent = t.taker_lent });
      counted = (let t = recached_counts r.joint x.number below x.view.own own_part r.lawful None idle (inl refl) s.words r.counted in record { sums = t.sums; each = t.each });
      present = subst (λ (many : ℕ). Present (put r.joint.owner x.number id) r.joint.driver many (set (set s.views id (with_number w x)) j spent_seat_view)) (sym (length-set r.joint.parts x.number (with_cache None x.view.own))) (present_in r.joint.owner r.joint.driver (length r.joint.parts) s.views r.present id w at j x driver_is apart there ((r.seats id w at).drives drives).1 drives (λ e. apart (((r.seats j x there).drives e).0 ∙ sym driver_is)));
      traced = subst (λ (many : ℕ). Traced (put r.joint.owner x.number id) many r.blocks (set (set s.views id (with_number w x)) j spent_seat_view)) (sym (length-set r.joint.parts x.number (with_cache None x.view.own))) (traced_in r.joint.owner (length r.joint.parts) r.blocks s.views r.traced id w at ((r.seats id w at).drives drives).1 j x apart there out by_other below);
    }

  -- the driver takes a worker in
  pub takes_in : (id : ℕ) (w : SeatView) (j : ℕ) (x : SeatView) → w.out ≡ true → w.drives ≡ true → x.out ≡ true → x.slot_out ≡ 0 → x.heap ≡ None → (x.view.own.cache ≡ None) ⊎ IsEmptyCache x.view.own.cache
      → Joins (Ruled R) id w j x (with_number w x) spent_seat_view
  takes_in id w j x mine drives out empty unlocked settled = lift_join R id w j x (with_number w x) spent_seat_view mine
      (λ s r at apart there. taken_in s r id w at j x apart (sym (set_else s.views id (with_number w x) j apart) ∙ there) drives out empty unlocked settled)
