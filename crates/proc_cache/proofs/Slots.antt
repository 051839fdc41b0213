-- The slots of a cache: one is read, written, or kept.
use Rattle.std.proofs.Common.{◌≡◌, ◌≢◌, ℕ, zero, suc, ◌<◌, Bool, true, true≢false, not, List, [], ◌∷◌, set, get_or, length, refl, ap, sym, subst, ◌∙◌, arith}
use Rattle.std.specs.Prelude.{None, Some, Option}
use Rattle.std.specs.Option.{is_some}
use Rattle.std.proofs.Math.ListN.{get_or-map}
use Rattle.std.proofs.Math.Seq.{map-set_same}
use Rattle.std.proofs.lemmas.List.{map-set, get_or-set_same, get_or-set_other}
use Rattle.profile_cycle.specs.Sampling.{Countdown}
use Rattle.span_state.specs.declared.body.Body.{Body}
use Rattle.span_laws.specs.declared.view.Span.{Span}
use Rattle.proc_cache.specs.Cache.{Cache, slot_at, span_in, spans_of, with_slot}

-- an item at an index that the list has is the same with each default
pub other_default : {A : Type 0} (l : List A) (i : ℕ) (d e : A) → i < length l → get_or l i d ≡ get_or l i e
other_default [] i d e h = absurd (omega arith)
other_default (x ∷ l) zero d e h = refl
other_default (x ∷ l) (suc i) d e h = other_default l i d e (omega arith)

-- where there is none, there is none
pub none_is : {A : Type 0} (o : Option A) (f : Bool) → is_some o ≡ not f → f ≡ true → o ≡ None
none_is None f e t = refl
none_is (Some x) f e t = absurd (true≢false (e ∙ ap not t))

module _ (n f : ℕ) (items : List (Option Body)) (t : Countdown) (now : Cache) (view : record { number = n; flushed = f; slots = spans_of items; countdown = t } ≡ now) (k : ℕ) (o : Option Body) where
  -- the slot that is read
  pub slot_is : get_or items k None ≡ o → slot_at now k ≡ span_in o
  slot_is e = subst (λ (c : Cache). slot_at c k ≡ span_in o) view (get_or-map span_in items k None ∙ ap span_in e)

  -- the cache with another body there
  pub slot_written : record { number = n; flushed = f; slots = spans_of (set items k o); countdown = t } ≡ with_slot k (span_in o) now
  slot_written = ap (λ (l : List (Option Span)). let c : Cache = record { number = n; flushed = f; slots = l; countdown = t } in c) (map-set span_in items k o) ∙ ap (with_slot k (span_in o)) view

  -- the cache with the same body there
  pub slot_kept : get_or items k None ≡ o → record { number = n; flushed = f; slots = spans_of (set items k o); countdown = t } ≡ now
  slot_kept e = ap (λ (l : List (Option Span)). let c : Cache = record { number = n; flushed = f; slots = l; countdown = t } in c) (map-set_same span_in items k o None (ap span_in (sym e))) ∙ view

some_low : {A : Type 0} (l : List (Option A)) (i : ℕ) (a : A) → get_or l i None ≡ Some a → i < length l
some_low [] i a e = absurd (let z : None ≡ Some a = e in cc)
some_low (x ∷ l) zero a e = omega arith
some_low (x ∷ l) (suc i) a e = let t = some_low l i a e in omega arith

-- a slot with a span is one of the cache
pub slot_low : (c : Cache) (k : ℕ) (s : Span) → slot_at c k ≡ Some s → k < length c.slots
slot_low c k s e = some_low c.slots k s e

pub slot_here : (c : Cache) (k : ℕ) (o : Option Span) → k < length c.slots → slot_at (with_slot k o c) k ≡ o
slot_here c k o h = get_or-set_same c.slots k o None h

pub slot_else : (c : Cache) (k j : ℕ) (o : Option Span) → j ≢ k → slot_at (with_slot k o c) j ≡ slot_at c j
slot_else c k j o d = get_or-set_other c.slots k j o None d
