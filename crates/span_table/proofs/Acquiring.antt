-- Acquire: the exchange of a page's word from G-2 to G-1, with the body's slot.
use Rattle.std.proofs.Common.{◌≡◌, ◌≢◌, ℕ, ◌+◌, ◌-◌, ◌<◌, ◌≤◌, true, false, eqb, eq-eqb, ne_eqb, Bool, List, [], ◌∷◌, ◌++◌, length, get_or, set, refl, sym, ap, subst, ◌∙◌, arith}
use Rattle.std.proofs.lemmas.Bool.{lt-ltb}
use Rattle.std.proofs.lemmas.List.{get_or-set_other}
use Rattle.std.specs.Prelude.{None, Option}
use mathlib.Core.Logic.{dite}
use mathlib.Core.Option.{none, some}
use native.Mathlib.Decide.{ℕ_discrete}
use lib.ListN.{get_elem?}
use prog.Atomic.{either}
use Rattle.atomic_table.specs.Table.{State, keeps, takes, step, Allows}
use Rattle.page_alloc.specs.Heap.{PageHeap}
use Rattle.span_state.specs.declared.body.Body.{Body}
use Rattle.sweep_laws.specs.Lists.{has}
use Rattle.sweep_laws.specs.NeedsOfRange.{refusal}
use Rattle.sweep_laws.specs.Needs.{drop_popped_needs}
use Rattle.sweep_laws.specs.State.{CoreState, HandState}
use Rattle.sweep_laws.specs.Step.{after}
use Rattle.sweep_laws.specs.declared.moves.Move.TheVariants.{Acquire, DropPopped}
use Rattle.sweep_laws.proofs.NeedsMet.{none_refuses}
use Rattle.sweep_laws.proofs.Totals.{times_end}
use Rattle.span_laws.specs.Bodies.{IsHome, lends}
use Rattle.span_laws.specs.Cycle.{Kept}
use Rattle.span_laws.specs.OwnSteps.{told, told_of}
use Rattle.span_laws.specs.Views.{acts, no_part, span_of}
use Rattle.span_laws.specs.declared.said.Said.TheVariants.{Finds}
use Rattle.span_laws.specs.declared.said.SaidOf.TheVariants.{Acquires}
use Rattle.span_laws.specs.declared.view.Part.{Part}
use Rattle.span_laws.specs.declared.view.View.{View}
use Rattle.span_laws.proofs.Allowed.{acquire_allowed as needs_met}
use Rattle.span_laws.proofs.Calls.{acquired_class, acquired_marked, acquired_mine, acquired_page, acquired_pops, acquired_untouched}
use Rattle.span_laws.proofs.Kept.{kept_acquire, kept_note, kept_said}
use Rattle.span_laws.proofs.Parts.{lends-le}
use Rattle.span_laws.proofs.RuleKept.{low_number, own_hand}
use Rattle.span_laws.proofs.Uses.{waiting_home, waiting_mine}
use Rattle.table_words.specs.Names.{PageWord}
use Rattle.span_table.specs.Running.{IsUnlent, Lawful, Running, JointState}
use Rattle.span_table.specs.Plays.{Acquired, AcquiresBy}
use Rattle.span_table.specs.Seats.{SeatState, with_slot, says, says_of}
use Rattle.span_table.specs.declared.view.Item.{Item}
use Rattle.span_table.specs.declared.view.Item.TheVariants.{Span}
use Rattle.span_table.specs.declared.view.SeatView.{SeatView}
use Rattle.span_table.specs.Turning.{Ruled}
use Rattle.span_table.proofs.Ruling.{lift}
use Rattle.span_table.proofs.Adaptors.{Goes, exchanges}
use Rattle.span_table.proofs.Core.{core_rule, found_counts, lock_still, still_counts, own_kept, plain_rule}
use Rattle.span_table.proofs.Joined.{along, get_at}
use Rattle.span_table.proofs.Made.{made, times_more}
use Rattle.span_table.proofs.StoredKept.{put, put_else, put_here, stored_still, stored_takes}
use Rattle.span_table.proofs.WordsKept.{words_page, words_same}

-- nobody has the body of a page that waits
unlent_waiting : (g : JointState) → Lawful g → (p : ℕ) → p < length g.core.words → get_or g.core.words p 0 + 2 ≡ g.core.generation → IsUnlent g.parts p
unlent_waiting g k p low w m x a =
    let z = waiting_mine g.core g.heap g.homes m _ (k.kept m (Rattle.sweep_laws.proofs.Totals.inside_at g.parts m x a)).rule p low w in
    let y = lends-le p (get_or g.parts m no_part) in let e = ap (lends p) (get_at g.parts m x no_part a) in omega arith

-- another worker's slot is another one
pub far_put : (f : ℕ → ℕ) (p n m q : ℕ) → m ≢ n → put f p (n + 1) q ≡ m + 1 → f q ≡ m + 1
far_put f p n m q d e = dite (ℕ_discrete q p) (λ z. let y = put_here f p (n + 1) q z in absurd (d (omega arith))) (λ z. sym (put_else f p (n + 1) q z) ∙ e)

-- what is found of a page that does not wait: an entry of it that the worker popped is dropped
module _ (c : CoreState) (heap : PageHeap) (homes : List (Option Body)) (n : ℕ) (v : View) (k : Kept c heap homes n v) (p : ℕ) (low : p < length c.words) (other : get_or c.words p 0 + 2 ≢ c.generation) where
  pub record Found : Type 0 where
    pub core : CoreState
    pub generation : core.generation ≡ c.generation
    pub words : core.words ≡ c.words
    pub sets : core.sets ≡ c.sets
    pub kept : Kept core heap homes n (acts v (told (Finds p (get_or c.words p 0)) v.own))

  drop_needs : has p v.own.popped ≡ true → refusal (drop_popped_needs c n p) ≡ None
  drop_needs h = none_refuses (drop_popped_needs c n p) (
    lt-ltb n (length c.hands) (low_number c heap homes n v k.rule),
    (lt-ltb p (length c.words) low, (ap (λ (s : HandState). has p s.popped) (own_hand c heap homes n v k.rule) ∙ h, (ap Rattle.std.proofs.Common.not (ne_eqb (get_or c.words p 0 + 2) c.generation other), tt))),
  )

  found_by : (b : Bool) → has p v.own.popped ≡ b → Found
  found_by true h = let m = made c (DropPopped n p) (record { owned = k.rule.owned; tidy = k.rule.tidy; space = k.rule.space }) (drop_needs h) tt in record {
    core = after c (DropPopped n p);
    generation = refl;
    words = refl;
    sets = refl;
    kept = kept_said c heap homes n v k (Finds p (get_or c.words p 0)) tt (drop_needs h) m.owned m.tidy m.space;
  }
  found_by false h = record { core = c; generation = refl; words = refl; sets = refl; kept = kept_note c heap homes n v k (Finds p (get_or c.words p 0)) h refl }

  pub found : Found
  found = found_by (has p v.own.popped) refl

module _ (R : ℕ) where
  acquire_hits : (slots id : ℕ) (me : SeatState) (p old new : ℕ) → me.0.out ≡ true → p < R → old + 2 ≡ me.0.view.generation → new + 1 ≡ me.0.view.generation → me.0.slot_out ≡ 0
      → (s : State Item SeatView) → (r : Running R s) → get_elem? s.views id ≡ some me.0 → get_or s.words (p + 75) 0 ≡ old
      → Goes (Running R) slots id me (p + 75) s new (Acquired (step slots (p + 75) old new none) me (get_or s.words (p + 75) 0))
  acquire_hits slots id me p old new out low before after' empty s r at hit =
      let w = me.0 in let g = r.joint in let c = g.core in let n = w.number in let v = along g.parts w.view in
      let k = own_kept R s r id w at out in let own = (r.seats id w at).own_is out in let gen = k.rule.generation in
      let inside : p < length c.words = (let m = r.words.many in omega arith) in
      let shown : get_or s.words (p + 75) 0 ≡ get_or c.words p 0 = r.words.shows (PageWord p) low in
      let wait : get_or c.words p 0 + 2 ≡ c.generation = omega arith in
      let home : IsHome k.rule.known c.lives g.homes p = waiting_home c g.heap g.homes n v k.rule p inside wait in
      let b : Body = home.0 in let e : b.page ≡ p = acquired_page c g.heap g.homes n v k.rule p inside wait b home.1 in
      let part : Part = told_of Acquires (span_of b) w.view.own in
      let m = made c (Acquire n p) (record { owned = k.rule.owned; tidy = k.rule.tidy; space = k.rule.space }) (needs_met c n p (low_number c g.heap g.homes n v k.rule) inside wait) tt in
      let end = times_end b.page w.view.own.sweeping in
      let lent : 0 < lends p part = subst (λ (q : ℕ). 0 < lends q part) e (omega arith) in (
        with_slot p (says_of Acquires (span_of b) w),
        takes (p + 1) (Span b),
        r.stored.body_home p b low home.1 (unlent_waiting g r.lawful p inside wait),
        core_rule R s r id w at out part (after c (Acquire n p)) g.heap (set g.homes p None) g.lock (put g.taker p (n + 1)) (p + 1) w.heap w.journal
            (kept_acquire c g.heap g.homes n v k p inside wait b home.1 (after c (Acquire n p)) refl m.owned m.tidy m.space)
            (lock_still R s r id w at out)
            (λ past is. (r.seats id w at).told_is out past is)
            (λ q z. dite (ℕ_discrete q p) (λ y. omega arith) (λ y. let u = (r.seats id w at).slot_is out q (sym (put_else g.taker p (n + 1) q y) ∙ z) in absurd (omega arith)))
            (λ q x d z. far_put g.taker p n q x d z)
            (set s.words (p + 75) new) (set s.homes (p + 1) none)
            (words_page R c r.blocks g.lock s.words r.words (after c (Acquire n p)) p new low refl (ap (set c.words p) (let y : c.generation - 1 ≡ new = omega arith in y)) refl) (still_counts R s r id w at out part (λ z. omega arith) refl (p + 75) new (λ y a l e. omega arith))
            (stored_takes R g s.homes r.stored n w.view.own own part (after c (Acquire n p)) p (set g.homes p None) low (λ q d. get_or-set_other g.homes p q None None d) (λ q d. let y = times_more q b.page w.view.own.sweeping in omega arith) lent),
        λ q z. let same : p ≡ q = omega arith in
            subst (λ (q : ℕ). AcquiresBy (eqb (get_or s.words (p + 75) 0) old) q (get_or s.words (p + 75) 0) me (with_slot p (says_of Acquires (span_of b) w), (p + 1, Span b) ∷ me.1)) same
            (subst (λ (won : Bool). AcquiresBy won p (get_or s.words (p + 75) 0) me (with_slot p (says_of Acquires (span_of b) w), (p + 1, Span b) ∷ me.1)) (sym (eq-eqb (get_or s.words (p + 75) 0) old hit)) (
              b,
              (
                refl,
                e,
                acquired_marked c g.heap g.homes n v k.rule p inside wait b home.1,
                acquired_untouched c g.heap g.homes n v k.rule p inside wait b home.1,
                acquired_mine c g.heap g.homes n v k.rule p inside wait b home.1,
                acquired_pops c g.heap g.homes n v k.rule p inside wait b home.1,
                acquired_class c g.heap g.homes n v k.rule p inside wait b home.1 k.cycle,
              ),
            )),
      )

  acquire_misses : (slots id : ℕ) (me : SeatState) (p old new : ℕ) → me.0.out ≡ true → p < R → old + 2 ≡ me.0.view.generation
      → (s : State Item SeatView) → (r : Running R s) → get_elem? s.views id ≡ some me.0 → get_or s.words (p + 75) 0 ≢ old
      → Goes (Running R) slots id me (p + 75) s (get_or s.words (p + 75) 0) (Acquired (step slots (p + 75) old new none) me (get_or s.words (p + 75) 0))
  acquire_misses slots id me p old new out low before s r at miss =
      let w = me.0 in let g = r.joint in let c = g.core in let n = w.number in let v = along g.parts w.view in
      let k = own_kept R s r id w at out in let own = (r.seats id w at).own_is out in let gen = k.rule.generation in
      let inside : p < length c.words = (let m = r.words.many in omega arith) in
      let x = get_or s.words (p + 75) 0 in
      let shown : x ≡ get_or c.words p 0 = r.words.shows (PageWord p) low in
      let f = found c g.heap g.homes n v k p inside (λ z. miss (omega arith)) in
      let part : Part = told (Finds p x) w.view.own in (
        says (Finds p x) w,
        keeps,
        tt,
        plain_rule R s r id w at out part f.core
            (subst (λ (y : ℕ). Kept f.core g.heap g.homes n (acts v (told (Finds p y) w.view.own))) (sym shown) f.kept)
            (set s.words (p + 75) x)
            (subst (λ (ws : List ℕ). Rattle.span_table.specs.Running.Words R f.core r.blocks g.lock ws) (sym (lib.Seq.set-get_or s.words (p + 75) 0)) (words_same R c r.blocks g.lock s.words r.words f.core f.generation f.words f.sets)) (found_counts R s r id w at out part (λ z. omega arith) refl (p + 75))
            (stored_still R g s.homes r.stored n w.view.own own part f.core g.heap (λ _. refl) (λ q. omega arith)),
        λ q z. let same : p ≡ q = omega arith in
            subst (λ (q : ℕ). AcquiresBy (eqb x old) q x me (says (Finds p x) w, me.1)) same
            (subst (λ (won : Bool). AcquiresBy won p x me (says (Finds p x) w, me.1)) (sym (ne_eqb x old miss)) refl),
      )

  pub acquire_allowed : (slots id : ℕ) (me : SeatState) (p old new : ℕ) → me.0.out ≡ true → p < R → old + 2 ≡ me.0.view.generation → new + 1 ≡ me.0.view.generation → me.0.slot_out ≡ 0
      → Allows (Ruled R) slots id me (p + 75) (λ n. either (eqb n old) new n) (Acquired (step slots (p + 75) old new none) me)
  acquire_allowed slots id me p old new out low before after' empty = lift R slots id me (p + 75) (λ n. either (eqb n old) new n) (Acquired (step slots (p + 75) old new none) me) out
      (exchanges (Running R) slots id me (p + 75) old new (Acquired (step slots (p + 75) old new none) me)
      (λ s r _ at _ hit. acquire_hits slots id me p old new out low before after' empty s r at hit)
      (λ s r _ at _ miss. acquire_misses slots id me p old new out low before s r at miss))
