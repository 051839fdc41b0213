-- The answer to one event.
use Rattle.std.proofs.Common.{◌≡◌, ℕ, ◌+◌, ◌*◌, ◌/◌, ◌%◌, ◌<◌, ◌≤◌, Bool, true, false, ◌&&◌, eqb, List, [], ◌∷◌, ◌++◌, refl, sym, ◌∙◌, ap, arith, inl, inr, subst, eq-eqb}
use Rattle.std.proofs.lemmas.Bool.{and_parts, cases_Bool, eqb-true}
use Rattle.page_bitmap.specs.Counts.{one_if}
use Rattle.page_alloc.specs.Lists.{In}
use Rattle.size_classes.specs.Classes.{IsLeastClass, objects_of, pages_of, slot_of, span_class_of}
use Rattle.sweep_laws.specs.Lists.{has}
use Rattle.sweep_laws.specs.Reading.{is_swept_set}
use Rattle.trace_reader.specs.declared.trace.Event.{Event}
use Rattle.cycle_history.specs.declared.Answer.{Answer}
use Rattle.cycle_history.specs.declared.Answer.TheVariants.{Placed, Missed}
use Rattle.cycle_history.specs.Needs.{IsNeed, Need}
use Rattle.worker_log.specs.declared.Entry.{Entry}
use Rattle.worker_log.specs.declared.Entry.TheVariants.{Looked, LookedEmptyCell, Popped, Pushed, Swept, Took, Missed as MissedEntry, Gave, Allocated, Found, Read, Added, Pulled, NoPage, Cut, NoCut, Settled}
use Rattle.worker_log.specs.declared.Placing.{Placing}
use Rattle.worker_log.specs.Logs.{Refusal, Taking, placings, refusals, takings}
use Rattle.worker_log.specs.SetNumbers.{is_full_set, swept_set}
use Rattle.worker_log.specs.Entries.{is_placing_in, is_pop_of, many}
use Rattle.worker_log.proofs.Logs.{many-append}
use Rattle.span_laws.specs.declared.view.Part.{Part}
use Rattle.span_set.specs.declared.hand.Hand.{Hand}
use Rattle.proc_cache.specs.Allocs.{PlacesOne}
use Rattle.proc_cache.specs.Cache.{Cache}
use Rattle.proc_cache.specs.Flushes.{Flushes}
use Rattle.proc_cache.specs.Leaves.{Holds, Leaves}
use Rattle.proc_cache.specs.Serves.{IsUsedCache, Serves}
use Rattle.proc_cache.proofs.Serving.{serves_through}
use Rattle.large_objects.specs.Larges.{IsMadeFor as LargeMadeFor, PlacesLarge}
use Rattle.sweeper.specs.Entries.{is_cut_of}
use Rattle.heap_run.specs.Served.{IsMadeFor, IsPlacedBy, IsRefusedBy}
use Rattle.heap_run.specs.Turns.{HasActed, IsCaching, SaysAnswers, SaysNone}
use Rattle.heap_run.proofs.Acted.{acted-then, answers-then, flush-acted, none-answers}

-- ---- what an event needs

half : (class : ℕ) (scan : Bool) → span_class_of class scan / 2 ≡ class
half class true = omega arith
half class false = omega arith

small-class : (class : ℕ) (scan : Bool) → 1 ≤ class → 2 ≤ span_class_of class scan
small-class class true h = omega arith
small-class class false h = omega arith

abbrev small-need : ℕ → Bool → Need
small-need class scan = record { class = span_class_of class scan; pages = pages_of class; slot = slot_of class; count = objects_of class }

small-fits : (size class : ℕ) (scan : Bool) → size ≤ 32768 → IsLeastClass size class → IsNeed size scan (small-need class scan)
small-fits size class scan low least = record {
  small = λ h. (class, least, record { class = refl; pages = refl; slot = refl; count = refl });
  large = λ h. absurd (omega arith);
}

abbrev large-need : ℕ → ℕ → Need
large-need n k = record { class = k; pages = n; slot = 8192 * n; count = 1 }

large-fits : (size n k : ℕ) (scan : Bool) → 32768 < size → n ≡ (size + 8191) / 8192 → k ≡ span_class_of 0 scan → IsNeed size scan (large-need n k)
large-fits size n k scan high pages class = record {
  small = λ h. absurd (omega arith);
  large = λ h. record { class = class; pages = pages; slot = refl; count = refl };
}

-- ---- a small object

pub small-placed : (e : Event) (class at : ℕ) (said : List Entry) → 1 ≤ e.size → e.size ≤ 32768 → IsLeastClass e.size class → PlacesOne (span_class_of class e.scan) at said → SaysAnswers (e ∷ []) (Placed at ∷ []) said
small-placed e class at said some low least p =
    let by : IsPlacedBy e at said p.placing = record {
      some = some;
      need = small-need class e.scan;
      fits = small-fits e.size class e.scan low least;
      class = sym p.class;
      address_is = p.address ∙ ap (λ (c : ℕ). 0xc000000000 + 8192 * p.placing.page + slot_of c * p.placing.index) (half class e.scan);
      large = λ h. absurd (let s = small-class class e.scan least.is_class.0 in omega arith);
    } in
    rw (p.only, p.refused) (by, tt)

pub small-refused : (e : Event) (class line : ℕ) (said : List Entry) → 1 ≤ e.size → e.size ≤ 32768 → IsLeastClass e.size class → placings said ≡ []
    → refusals said ≡ record { number = line; pages = pages_of (span_class_of class e.scan / 2); class = span_class_of class e.scan } ∷ [] → SaysAnswers (e ∷ []) (Missed line ∷ []) said
small-refused e class line said some low least none told =
    let x : Refusal = record { number = line; pages = pages_of (span_class_of class e.scan / 2); class = span_class_of class e.scan } in
    let by : IsRefusedBy e line x = record {
      some = some;
      need = small-need class e.scan;
      fits = small-fits e.size class e.scan low least;
      number = refl;
      pages = ap pages_of (half class e.scan);
      class = refl;
    } in
    rw (none, told) (by, tt)

-- ---- a large object

at-first : (b s i : ℕ) → i ≡ 0 → b ≡ b + s * i
at-first b s i z = rw z (omega arith)

taken-one : (x : Taking) (xs : List Taking) → xs ≡ x ∷ [] → In x xs
taken-one x xs is = rw is (inl refl)

-- the entry of a cut is among those of the log
cut-there : (page pages class : ℕ) (x : Entry) → is_cut_of page pages class x ≡ true → x ≡ Cut page pages class
cut-there page pages class (Cut p n k) on =
    let both = and_parts (eqb p page) (eqb n pages && eqb k class) on in
    let rest = and_parts (eqb n pages) (eqb k class) both.1 in
    ap (λ (q : ℕ). Cut q n k) (eqb-true p page both.0) ∙ ap (λ (q : ℕ). Cut page q k) (eqb-true n pages rest.0) ∙ ap (λ (q : ℕ). Cut page pages q) (eqb-true k class rest.1)
cut-there page pages class (Looked a b c) on = absurd (let no : ⊥ = cc in no)
cut-there page pages class (LookedEmptyCell a b) on = absurd (let no : ⊥ = cc in no)
cut-there page pages class (Popped a b) on = absurd (let no : ⊥ = cc in no)
cut-there page pages class (Pushed a b) on = absurd (let no : ⊥ = cc in no)
cut-there page pages class (Swept s) on = absurd (let no : ⊥ = cc in no)
cut-there page pages class (Took n line) on = absurd (let no : ⊥ = cc in no)
cut-there page pages class (MissedEntry n line) on = absurd (let no : ⊥ = cc in no)
cut-there page pages class (Gave a b) on = absurd (let no : ⊥ = cc in no)
cut-there page pages class (Allocated a) on = absurd (let no : ⊥ = cc in no)
cut-there page pages class (Found a b) on = absurd (let no : ⊥ = cc in no)
cut-there page pages class (Read a b) on = absurd (let no : ⊥ = cc in no)
cut-there page pages class (Added a b) on = absurd (let no : ⊥ = cc in no)
cut-there page pages class (Pulled n line) on = absurd (let no : ⊥ = cc in no)
cut-there page pages class NoPage on = absurd (let no : ⊥ = cc in no)
cut-there page pages class (NoCut n left) on = absurd (let no : ⊥ = cc in no)
cut-there page pages class (Settled n) on = absurd (let no : ⊥ = cc in no)

cut-in : (page pages class : ℕ) (log : List Entry) → 0 < many (is_cut_of page pages class) log → In (Cut page pages class) log
cut-in page pages class [] some = absurd (omega arith)
cut-in page pages class (x ∷ log) some = elim (cases_Bool (is_cut_of page pages class x)) [
  | inl on ↦ inl (cut-there page pages class x on)
  | inr off ↦ inr (cut-in page pages class log (let none : one_if (is_cut_of page pages class x) ≡ 0 = ap one_if off in omega arith))
]

made-for : (n k g : ℕ) (a : Placing) (said : List Entry) → LargeMadeFor n k g a said → IsMadeFor said a (large-need n k)
made-for n k g a said (inl taken) = inl (_, _, a.page, taken-one _ (takings said) taken, refl, refl)
made-for n k g a said (inr cut) = inr (cut-in a.page n k said cut.1)

pub large-placed : (e : Event) (n k at g : ℕ) (said : List Entry) → 32768 < e.size → n ≡ (e.size + 8191) / 8192 → k ≡ span_class_of 0 e.scan → PlacesLarge n k at g said → SaysAnswers (e ∷ []) (Placed at ∷ []) said
large-placed e n k at g said high pages class p =
    let by : IsPlacedBy e at said p.placing = record {
      some = omega arith;
      need = large-need n k;
      fits = large-fits e.size n k e.scan high pages class;
      class = sym p.class;
      address_is = p.address ∙ at-first (0xc000000000 + 8192 * p.placing.page) (8192 * n) p.placing.index p.index;
      large = λ h. made-for n k g p.placing said p.made;
    } in
    rw (p.only, p.refused) (by, tt)

pub large-refused : (e : Event) (n k line : ℕ) (said : List Entry) → 32768 < e.size → n ≡ (e.size + 8191) / 8192 → k ≡ span_class_of 0 e.scan → placings said ≡ []
    → refusals said ≡ record { number = line; pages = n; class = k } ∷ [] → SaysAnswers (e ∷ []) (Missed line ∷ []) said
large-refused e n k line said high pages class none told =
    let x : Refusal = record { number = line; pages = n; class = k } in
    let by : IsRefusedBy e line x = record {
      some = omega arith;
      need = large-need n k;
      fits = large-fits e.size n k e.scan high pages class;
      number = refl;
      pages = refl;
      class = refl;
    } in
    rw (none, told) (by, tt)

-- ---- what the calls leave

pub leaves-acted : (P : List Entry → Type 0) (said : List Entry) (old new : Hand) → Leaves said old new → P said → HasActed P old new
leaves-acted P said old new l p = record {
  said = said;
  did = p;
  log = l.log;
  away = l.away;
  table = l.table;
  number = l.number;
  caching = l.caching;
  view = l.view;
  idle = l.idle;
  notes = l.notes;
}

pub holds-acted : (P : List Entry → Type 0) (said : List Entry) (old new : Hand) → Holds [] said old new → P said → HasActed P old new
holds-acted P said old new l p = record {
  said = said;
  did = p;
  log = l.log;
  away = l.away;
  table = l.table;
  number = l.number;
  caching = l.caching;
  view = l.view;
  idle = record { sweeping = l.sweeping; held = l.held; popped = l.popped; claimed = l.claimed };
  notes = l.notes;
}

-- a flush before it answers nothing
pub flushed-then : (test : ℕ → Bool) (c d : Cache) (e : Event) (a : Answer) (old mid new : Hand) → Flushes test c d old mid → HasActed (SaysAnswers (e ∷ []) (a ∷ [])) mid new → HasActed (SaysAnswers (e ∷ []) (a ∷ [])) old new
flushed-then test c d e a old mid new flushes acted =
    acted-then SaysNone (SaysAnswers (e ∷ []) (a ∷ [])) (SaysAnswers (e ∷ []) (a ∷ [])) old mid new (flush-acted test c d old mid flushes) acted
    (λ first later none now. answers-then (e ∷ []) [] (a ∷ []) [] later first now (none-answers first none))

swept-parity : (k m : ℕ) → m < 2 → (4 * k + 2 * 1 + m) % 2 ≡ m
swept-parity k m lt = omega arith

full-parity : (k m : ℕ) → m < 2 → ((4 * k + 2 * 1 + m) / 2) % 2 ≡ 1
full-parity k m lt = omega arith

bit-low : (n : ℕ) → n % 2 < 2
bit-low n = omega arith

-- the cached spans stay
pub holds-caching : (g : ℕ) (said : List Entry) (old new : Hand) (c : Cache) → g ≡ old.worker.view.generation → Holds [] said old new → IsCaching g old.worker.view.own c → IsCaching g new.worker.view.own c
holds-caching g said old new c now h are =
    let v = are.serves in
    record {
      serves = serves_through g old.worker.view.own new.worker.view.own c v h.cached h.fresh h.bodies
          (λ k s at. (
          let j = swept_set g k 1 in
          let part : is_swept_set old.worker.view.generation j ≡ true = subst (λ (n : ℕ). is_swept_set n j ≡ true) now (eq-eqb (j % 2) ((g / 2) % 2) (swept-parity k ((g / 2) % 2) (bit-low (g / 2)))) in
          let full : is_full_set j ≡ true = eq-eqb ((j / 2) % 2) 1 (full-parity k ((g / 2) % 2) (bit-low (g / 2))) in
          let before = (v.slots k s at).unpopped in
          let later = h.unpopped j s.page part full in
          let both = many-append (is_pop_of j s.page) said old.worker.view.own.log in
          let all : many (is_pop_of j s.page) (said ++ old.worker.view.own.log) ≡ 0 = omega arith in
          subst (λ (l : List Entry). many (is_pop_of j s.page) l ≡ 0) (sym h.log) all));
      used = λ p hc hf. (
          let before = are.used p (sym (ap (has p) h.cached) ∙ hc) (sym (ap (has p) h.fresh) ∙ hf) in
          let both = many-append (is_placing_in p) said old.worker.view.own.log in
          let all : 0 < many (is_placing_in p) (said ++ old.worker.view.own.log) = omega arith in
          subst (λ (l : List Entry). 0 < many (is_placing_in p) l) (sym h.log) all);
    }

pub caching-of : (g n : ℕ) (h : Part) (c : Cache) → n ≡ g → Serves n h c → IsUsedCache h → IsCaching g h c
caching-of g n h c same serves used = record { serves = subst (λ (m : ℕ). Serves m h c) same serves; used = used }
