-- An object is placed in a span of one object, which goes to the swept full set.
use Rattle.std.proofs.Common.{◌≡◌, ℕ, ◌+◌, ◌*◌, ◌<◌, true, false, true≢false, List, [], ◌∷◌, refl, ap, sym, subst, ◌∙◌, arith, eq-eqb}
use Rattle.std.proofs.lemmas.List.{append-nil}
use Rattle.size_classes.specs.Classes.{region_start}
use Rattle.span_state.specs.Bits.{HasFree, with_bit}
use Rattle.span_state.specs.Spans.{IsSameSpan, allocated}
use Rattle.span_state.specs.declared.body.Body.{Body}
use Rattle.sweep_laws.specs.Lists.{erase, has}
use Rattle.worker_log.specs.declared.Entry.{Entry}
use Rattle.worker_log.specs.declared.Entry.TheVariants.{Added, Allocated, Pushed, Read}
use Rattle.worker_log.specs.declared.Placing.{Placing}
use Rattle.worker_log.specs.SetNumbers.{swept_set}
use Rattle.worker_log.specs.Entries.{is_pop_of, many}
use Rattle.span_laws.specs.declared.said.Said.TheVariants.{Adds, Fills, Reads}
use Rattle.span_laws.specs.declared.said.SaidOf.TheVariants.{Places}
use Rattle.span_laws.specs.Views.{Seen, acts, span_at, span_of}
use Rattle.span_laws.specs.OwnSteps.{after_of, after_said}
use Rattle.span_laws.proofs.WordMoves.{span_else}
use Rattle.span_set.specs.declared.hand.Hand.{Hand}
use Rattle.span_set.proofs.Fits.{fits-none}
use Rattle.sweep_laws.specs.Counts.{times}
use Rattle.span_set.specs.Sets.{MayPush, swept_of}
use Rattle.span_set.proofs.Numbers.{swept_is, swept_low}
use Rattle.proc_cache.specs.Leaves.{Holds}
use Rattle.proc_cache.specs.Findings.{IsHolding}
use Rattle.large_objects.specs.Larges.{IsForOne, PutsObject}

pub first_free : (k : ℕ) (b : Body) (w : Seen) → IsForOne k b w → HasFree b.count (allocated b) 0
first_free k b w f = record { inside = (let o = b.some_object in omega arith); free = f.empty 0; lowest = λ j l. absurd (omega arith) }

module _ (k : ℕ) (b d : Body) (w now : Seen) (low : k < 2) (f : IsForOne k b w) (bits : (j : ℕ) → allocated d j ≡ with_bit 0 (allocated b) j) (same : IsSameSpan b d) (view : now ≡ after_of (Places 0) (span_of d) w) where
  has_first : allocated d 0 ≡ true
  has_first = bits 0

  pub may_push : MayPush (record { class = k; full = true }) d now
  may_push = record {
    class = same.class ∙ f.class;
    used = (0, (let c = same.count in let e = f.count in omega arith), has_first);
    full = λ _ j l. let c = same.count in let e = f.count in let z : 0 ≡ j = omega arith in subst (λ (x : ℕ). allocated d x ≡ true) z has_first;
    room = λ e. absurd (true≢false e);
    unpopped = subst (λ (s : Seen). many (is_pop_of (swept_set s.view.generation k 1) d.page) s.view.own.log ≡ 0) (sym view)
        (subst (λ (p : ℕ). many (is_pop_of (swept_set w.view.generation k 1) p) (after_of (Places 0) (span_of d) w).view.own.log ≡ 0) (sym same.page)
        (let u = f.untouched.pops (swept_set w.view.generation k 1) (swept_low w.view.generation k 1 (omega arith) (omega arith)) (swept_is w.view.generation k 1 (omega arith)) in omega arith));
    unplaced = λ e. absurd (true≢false e);
  }

  pub puts : (old new : Hand) (next at p : ℕ) → old.worker ≡ w → d.next ≡ 1 → p ≡ b.page → at ≡ region_start + 8192 * p → new.notes ≡ old.notes
      → new.worker ≡ after_said (Fills (swept_of now.view.generation (record { class = k; full = true })) d.page) (after_said (Reads 1 now.view.generation) now) → PutsObject k b old new at
  puts old new next at p is one page address notes e = (
    address ∙ ap (λ (x : ℕ). region_start + 8192 * x) page,
    notes,
    (
      span_of d,
      record { page = same.page; pages = same.pages; slot = same.slot; count = same.count; class = same.class; life = same.life; next = one; bits = bits },
      e ∙ ap (λ (s : Seen). after_said (Fills (swept_set s.view.generation k 1) d.page) (after_said (Reads 1 s.view.generation) s)) (view ∙ ap (after_of (Places 0) (span_of d)) (sym is))
          ∙ ap (λ (x : ℕ). after_said (Fills (swept_set old.worker.view.generation k 1) x) (after_said (Reads 1 old.worker.view.generation) (after_of (Places 0) (span_of d) old.worker))) same.page,
    ),
  )

-- the bytes are spent, the object is placed and the span pushed
module _ (k bytes before at : ℕ) (b : Body) (old mid new : Hand) (holding : IsHolding old.worker.view.own b.page) (spent : mid.worker ≡ after_said (Adds 3 before bytes) old.worker) (notes : mid.notes ≡ old.notes) (far : has b.page old.worker.view.own.cached ≡ false)
    (put : PutsObject k b mid new at) where
  abbrev pub placing : Placing
  placing = record { page = put.2.0.page; index = 0; number = put.2.0.life; class = put.2.0.class }

  abbrev pub put_said : List Entry
  put_said = Pushed (swept_set old.worker.view.generation k 1) b.page ∷ Read 1 old.worker.view.generation ∷ Allocated (record { page = put.2.0.page; index = 0; number = put.2.0.life; class = put.2.0.class }) ∷ Added 3 bytes ∷ Read 3 before ∷ []

  all_view : new.worker ≡ after_said (Fills (swept_set old.worker.view.generation k 1) b.page) (after_said (Reads 1 old.worker.view.generation) (after_of (Places 0) put.2.0 (after_said (Adds 3 before bytes) old.worker)))
  all_view = put.2.2 ∙ ap (λ (s : Seen). after_said (Fills (swept_set s.view.generation k 1) b.page) (after_said (Reads 1 s.view.generation) (after_of (Places 0) put.2.0 s))) spent

  erased : (p : ℕ) → erase p (p ∷ []) ≡ []
  erased p = rw (eq-eqb p p refl) refl

  pub put_holds : Holds [] put_said old new
  put_holds = let e = all_view in record {
    log = ap (λ (s : Seen). s.view.own.log) e;
    away = ap (λ (s : Seen). s.away) e;
    table = ap (λ (s : Seen). s.table) e;
    number = ap (λ (s : Seen). s.number) e;
    caching = ap (λ (s : Seen). s.caching) e;
    view = subst (λ (s : Seen). s.view ≡ acts old.worker.view s.view.own) (sym e) refl;
    reset = ap (λ (s : Seen). s.view.own.reset) e;
    sweeping = ap (λ (s : Seen). s.view.own.sweeping) e ∙ holding.sweeping;
    held = ap (λ (s : Seen). s.view.own.held) e ∙ ap (erase b.page) holding.held ∙ erased b.page;
    popped = ap (λ (s : Seen). s.view.own.popped) e ∙ holding.popped;
    claimed = ap (λ (s : Seen). s.view.own.claimed) e;
    cached = ap (λ (s : Seen). s.view.own.cached) e;
    fresh = ap (λ (s : Seen). s.view.own.fresh) e;
    bodies = λ q h. subst (λ (s : Seen). span_at q s.view.own.spans ≡ span_at q old.worker.view.own.spans) (sym e)
        (span_else put.2.0 old.worker.view.own.spans q (λ z. true≢false (sym h ∙ ap (λ (x : ℕ). has x old.worker.view.own.cached) (z ∙ put.2.1.page) ∙ far)));
    unpopped = λ j p part full. refl;
    sets = fits-none old.worker.view.generation (λ q. times q []) put_said old.worker new.worker (put.2.0 ∷ []) refl (ap (λ (s : Seen). s.view.own.spans) e);
    swept = refl;
    notes = ap (λ n. n.items) (put.1 ∙ notes) ∙ sym (append-nil old.notes.items);
  }

  -- its placing, in the words of the body
  pub placing_is : placing ≡ record { page = b.page; index = 0; number = b.life; class = b.class }
  placing_is = λ i. record { page = put.2.1.page i; index = 0; number = put.2.1.life i; class = put.2.1.class i }
