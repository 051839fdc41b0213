-- The span class of a body that lies as the journal has it.
use Rattle.std.proofs.Common.{◌≡◌, ℕ, zero, suc, ◌<◌, ⊎_elim, inl, inr, Bool, List, [], ◌∷◌, ◌++◌, map, refl, ap, sym, subst, ◌∙◌, arith}
use Rattle.std.specs.Prelude.{Option, Some, None}
use mathlib.Core.Option.{some}
use lib.ListN.{get_elem?}
use mathlib.Core.Logic.{dite}
use native.Mathlib.Decide.{dec_le}
use Rattle.page_alloc.specs.Heap.{PageHeap}
use Rattle.page_alloc.specs.Lives.{Life, life_of, open_lives}
use Rattle.page_alloc.specs.FreeRuns.{IsSpanSize}
use Rattle.page_alloc.specs.Cuts.{AreCuts, without}
use Rattle.page_alloc.specs.Lists.{In}
use Rattle.page_alloc.proofs.Lives.{from_others}
use Rattle.page_bitmap.specs.declared.line.Line.{Line}
use Rattle.page_cache.specs.declared.block.CutNote.{CutNote}
use Rattle.page_cache.specs.Blocks.{has_page}
use Rattle.page_cache.specs.Cache.{Cache}
use Rattle.page_bitmap.specs.declared.line.Line.TheVariants.{Take, Miss, Give, Scav, Pull, Cut, Drop}
use Rattle.span_state.specs.declared.body.Body.{Body}
use Rattle.sweep_laws.specs.State.{CoreState}
use Rattle.sweep_laws.proofs.NeedsMet.{some_none}
use Rattle.sound_run.specs.Run.{IsJournal}
use Rattle.swept_set_laws.specs.Entered.{log_of}
use Rattle.run_laws.specs.Blocks.{CutOut, OutBlock, out_of}
use Rattle.run_laws.specs.Known.{IsKnownAs}
use Rattle.span_laws.specs.Bodies.{Fits}
use Rattle.span_laws.specs.Caches.{CacheTells, HasBlockOut, noted}
use Rattle.span_laws.specs.Cycle.{KeepsCycle}
use Rattle.span_laws.specs.Rule.{Rule, logs_of}
use Rattle.span_laws.specs.TakeAnswers.{cycle_at}
use Rattle.span_laws.specs.Views.{parts_of}
use Rattle.span_laws.specs.declared.view.Part.{Part}
use Rattle.span_laws.specs.declared.view.Span.{Span}
use Rattle.span_laws.specs.declared.view.View.{View}

-- an open life has the pages of its span class
open_size : (region goal : ℕ) (past : List Line) (life : Life) → IsJournal region goal past → In life (open_lives past) → IsSpanSize life.class life.pages
open_size region goal [] life legal h = absurd h
open_size region goal (Take cycle page pages class ∷ past) life legal h = elim h [
  | inl new ↦ rw (ap (λ (l : Life). l.class) (sym new), ap (λ (l : Life). l.pages) (sym new)) legal.0.0
  | inr there ↦ open_size region goal past life legal.2 there
]
open_size region goal (Miss cycle pages class ∷ past) life legal h = open_size region goal past life legal.2 h
open_size region goal (Give cycle page pages ∷ past) life legal h = open_size region goal past life legal.2 (from_others page (open_lives past) life h).0
open_size region goal (Scav cycle page pages ∷ past) life legal h = open_size region goal past life legal.2 h
open_size region goal (Pull cycle proc page pages ∷ past) life legal h = open_size region goal past life legal.2 h
open_size region goal (Cut cycle proc page pages class ∷ past) life legal h = elim h [
  | inl new ↦ rw (ap (λ (l : Life). l.class) (sym new), ap (λ (l : Life). l.pages) (sym new)) legal.0.2
  | inr there ↦ open_size region goal past life legal.2 there
]
open_size region goal (Drop cycle proc page pages ∷ past) life legal h = open_size region goal past life legal.2 h

low_class : (class pages : ℕ) → IsSpanSize class pages → class < 136
low_class class pages s = dite (dec_le 2 class) (λ l. let c = (s.0 l).0.1 in omega arith) (λ l. omega arith)

in_front : {X : Type 0} (x : X) (xs ys : List X) → In x xs → In x (xs ++ ys)
in_front x [] ys h = absurd h
in_front x (y ∷ xs) ys h = ⊎_elim (λ (e : y ≡ x). inl e) (λ (t : In x xs). inr (in_front x xs ys t)) h

in_last : {X : Type 0} (x : X) (xs : List X) → In x (xs ++ x ∷ [])
in_last x [] = inl refl
in_last x (y ∷ xs) = inr (in_last x xs)

-- each cut of a block has the pages of its span class
cuts_size : (set : ℕ → Bool) (cuts : List CutNote) (left : ℕ → Bool) → AreCuts set cuts left → (x : CutNote) → In x cuts → IsSpanSize x.class x.pages
cuts_size set [] left a x h = absurd h
cuts_size set (y ∷ cuts) left a x h = ⊎_elim
    (λ (e : y ≡ x). subst (λ (z : CutNote). IsSpanSize z.class z.pages) e a.1)
    (λ (t : In x cuts). cuts_size (without set y.page y.pages) cuts left a.3 x t)
    h

noted_in : (cuts : List CutOut) (x : CutOut) → In x cuts → In (record { page = x.page; pages = x.pages; class = x.class }) (noted cuts)
noted_in [] x h = absurd h
noted_in (y ∷ cuts) x h = ⊎_elim
    (λ (e : y ≡ x). subst (λ (z : CutOut). In (record { page = z.page; pages = z.pages; class = z.class }) (noted (y ∷ cuts))) e (in_last (record { page = y.page; pages = y.pages; class = y.class }) (noted cuts)))
    (λ (t : In x cuts). in_front (record { page = x.page; pages = x.pages; class = x.class }) (noted cuts) (record { page = y.page; pages = y.pages; class = y.class } ∷ []) (noted_in cuts x t))
    h

-- the part whose log has a block out
pub part_out : (ps : List Part) (w : ℕ) (b : OutBlock) → out_of (log_of (map (λ (h : Part). h.log) ps) w) ≡ Some b → (h : Part) × (get_elem? ps w ≡ some h) × (out_of h.log ≡ Some b)
part_out [] w b e = absurd (some_none b (sym e))
part_out (h ∷ ps) zero b e = (h, refl, e)
part_out (h ∷ ps) (suc w) b e = part_out ps w b e

-- what the page cache tells of it
pub cache_out : (w : ℕ) (h : Part) (b : OutBlock) → CacheTells w h → out_of h.log ≡ Some b → (k : Cache) × (h.cache ≡ Some k) × HasBlockOut k b
cache_out w h b t o = go h.cache refl
  where
    go : (x : Option Cache) → h.cache ≡ x → (k : Cache) × (h.cache ≡ Some k) × HasBlockOut k b
    go None e = absurd (some_none b (sym o ∙ (t.none e).0))
    go (Some k) e = (k, e, (t.some k e).out b o)

module _ (c : CoreState) (heap : PageHeap) (homes : List (Option Body)) (n : ℕ) (v : View) (k : Rule c heap homes n v) (y : KeepsCycle c heap n v k.known) where
  cut_size : (w : ℕ) (b : OutBlock) (x : CutOut) → out_of (log_of (logs_of n v) w) ≡ Some b → In x b.cuts → IsSpanSize x.class x.pages
  cut_size w b x o h =
      let p = part_out (parts_of n v) w b o in let q = cache_out w p.0 b (k.caches w p.0 p.1) p.2 in let r = q.2 in
      cuts_size r.set (noted b.cuts) (has_page r.block) (subst (λ (l : List CutNote). AreCuts r.set l (has_page r.block)) r.notes r.cuts) (record { page = x.page; pages = x.pages; class = x.class }) (noted_in b.cuts x h)

  -- a life that workers know has the pages of its span class
  pub known_size : (life : Life) → In life k.known → IsSpanSize life.class life.pages
  known_size life h = ⊎_elim
      (λ (a : (x : Life) × In x (open_lives (y.lines ++ v.before)) × IsKnownAs (y.lines ++ v.before) x life).
      subst (λ (z : ℕ × ℕ). IsSpanSize z.0 z.1) (λ i. (sym a.2.class i, sym a.2.pages i)) (open_size heap.region heap.goal (y.lines ++ v.before) a.0 (subst (IsJournal heap.region heap.goal) y.since k.legal) a.1))
      (λ (a : (w : ℕ) × (b : OutBlock) × (x : CutOut) × (out_of (log_of (logs_of n v) w) ≡ Some b) × In x b.cuts × (life ≡ life_of b.number (cycle_at v.generation) x.page x.pages x.class)).
      subst (λ (z : Life). IsSpanSize z.class z.pages) (sym a.5) (cut_size a.0 a.1 a.2 a.3 a.4))
      (y.knows.lives life h)

  pub fits_class : (p : ℕ) (s : Span) → Fits k.known c.lives p s → s.class < 136
  fits_class p s f = low_class s.class s.pages (known_size (life_of s.life f.line.0 s.page s.pages s.class) f.line.1)
