-- What the rule says of the own part, and that it stays where a move changes the own hand as a step changes the own part.
use Rattle.std.proofs.Common.{◌≡◌, ◌≢◌, ℕ, zero, suc, ◌-◌, ◌/◌, ◌^◌, ◌<◌, ◌≤◌, ◌⊎◌, ⊎_elim, true, List, [], ◌∷◌, length, get_or, set, map, refl, sym, ap, subst, ◌∙◌, arith, false}
use Rattle.std.specs.Prelude.{None, Option}
use Rattle.std.proofs.lemmas.List.{map-set, length-map, get_or-set_same, get_or-set_other}
use mathlib.Core.Logic.{dite}
use native.Mathlib.Decide.{ℕ_discrete}
use mathlib.Core.Option.{some}
use lib.ListN.{get_elem?}
use Rattle.std.proofs.Math.ListN.{length-set}
use Rattle.size_classes.specs.declared.TheConstants.{MAX_PAGES}
use Rattle.page_alloc.specs.Heap.{PageHeap}
use Rattle.page_alloc.specs.Lives.{Life}
use Rattle.page_alloc.specs.Journal.{AreAllowed, IsBy}
use Rattle.sound_run.specs.Run.{IsJournal}
use Rattle.run_laws.specs.Blocks.{out_of}
use Rattle.span_state.specs.declared.body.Body.{Body}
use Rattle.sweep_laws.specs.ChangesOfLives.{marks_at}
use Rattle.sweep_laws.specs.Counts.{times}
use Rattle.sweep_laws.specs.Named.{begins}
use Rattle.sweep_laws.specs.Reading.{hand_of, is_swept_set, life_in, no_hand}
use Rattle.sweep_laws.specs.OwnedLives.{EachAt}
use Rattle.sweep_laws.specs.Owned.{Owned}
use Rattle.sweep_laws.specs.State.{HandState, CoreState}
use Rattle.sweep_laws.specs.Tidy.{IsTidy, HasSpace, NamesNever}
use Rattle.sweep_laws.proofs.Naming.{at_low, at_set, set_here}
use Rattle.swept_set_laws.specs.Entered.{Entered, log_of}
use Rattle.worker_log.specs.declared.Entry.{Entry}
use Rattle.worker_log.specs.Entries.{many, is_pop_of}
use Rattle.span_laws.specs.declared.view.Part.{Part}
use Rattle.span_laws.specs.declared.view.Span.{Span}
use Rattle.span_laws.specs.declared.view.View.{View}
use Rattle.span_laws.specs.Bodies.{Bodies, IsHome, IsLent, IsOpen, IsWaiting, Marked, lends}
use Rattle.span_laws.specs.Caches.{CacheTells}
use Rattle.span_laws.specs.Cycle.{KeepsCycle, Kept}
use Rattle.span_laws.specs.Rule.{Rule, logs_of}
use Rattle.span_laws.specs.Tells.{Tells}
use Rattle.span_laws.specs.Views.{acts, hand_state, parts_of, span_at}
use Rattle.span_laws.proofs.BodiesKept.{bodies_turn}
use Rattle.span_laws.proofs.MarkedKept.{marked_turn}
use Rattle.span_laws.proofs.Parts.{alone, has3, lends-le, set_else}
use Rattle.span_laws.proofs.TellsKept.{Leads, tells_turn}

set_twice : {A : Type 0} (l : List A) (i : ℕ) (a b : A) → set (set l i a) i b ≡ set l i b
set_twice [] i a b = refl
set_twice (x ∷ xs) zero a b = refl
set_twice (x ∷ xs) (suc i) a b = ap (λ ys. x ∷ ys) (set_twice xs i a b)

-- the rule, where workers know these lives
abbrev pub RuleOf : CoreState → PageHeap → List (Option Body) → ℕ → View → List Life → Type 0
RuleOf c heap homes n v known = (r : Rule c heap homes n v) × (r.known ≡ known)

-- with it the cycle under way
pub kept_by : (c : CoreState) (heap : PageHeap) (homes : List (Option Body)) (n : ℕ) (v : View) (known : List Life) → RuleOf c heap homes n v known → KeepsCycle c heap n v known → Kept c heap homes n v
kept_by c heap homes n v known r k = record { rule = r.0; cycle = subst (KeepsCycle c heap n v) (sym r.1) k }

-- what a part's page cache tells stays where it does, and the pages that are left of its block, and the block that the log has out
pub cache_stays : (n : ℕ) (h h' : Part) → h'.cache ≡ h.cache → h'.pulled ≡ h.pulled → out_of h'.log ≡ out_of h.log → CacheTells n h → CacheTells n h'
cache_stays n h h' cache pulled out t = record {
  none = λ e. let z = t.none (sym cache ∙ e) in (out ∙ z.0, pulled ∙ z.1);
  some = λ x e. let z = t.some x (sym cache ∙ e) in record { proc = z.proc; idle = λ o. z.idle (sym out ∙ o); out = λ b o. z.out b (sym out ∙ o); pages = λ p. ap (times p) pulled ∙ z.pages p };
}

module _ (c : CoreState) (heap : PageHeap) (homes : List (Option Body)) (n : ℕ) (v : View) (k : Rule c heap homes n v) where
  pub as_many : length c.hands ≡ length v.parts
  as_many = ap (λ (l : List HandState). length l) k.hands ∙ length-map (parts_of n v) hand_state ∙ length-set v.parts n v.own

  pub low_number : n < length c.hands
  low_number = let m = as_many in let l = k.number in omega arith

  -- the own part is the core's own hand
  pub own_hand : hand_of c n ≡ hand_state v.own
  own_hand =
      ap (λ (l : List HandState). get_or l n no_hand) (k.hands ∙ map-set hand_state v.parts n v.own)
      ∙ get_or-set_same (map hand_state v.parts) n (hand_state v.own) no_hand (subst (λ (m : ℕ). n < m) (sym (length-map v.parts hand_state)) k.number)

  pub own_at : get_elem? c.hands n ≡ some (hand_state v.own)
  own_at = at_low c.hands n no_hand low_number ∙ ap some own_hand

  pub part_at : get_elem? (parts_of n v) n ≡ some v.own
  part_at = set_here v.parts n v.own k.number

  -- a page that the own lists name is of the region
  pub own_never : (p : ℕ) → length c.words ≤ p → NamesNever p (hand_state v.own)
  own_never p le = k.tidy.hands n (hand_state v.own) own_at p le

  -- the logs where the own part changes
  pub log_own : (h : Part) → log_of (logs_of n (acts v h)) n ≡ h.log
  log_own h = ap (λ (l : List (List Entry)). get_or l n []) (map-set (λ (p : Part). p.log) v.parts n h)
      ∙ get_or-set_same (map (λ (p : Part). p.log) v.parts) n h.log [] (subst (λ (m : ℕ). n < m) (sym (length-map v.parts (λ (p : Part). p.log))) k.number)

  pub log_else : (h : Part) (m : ℕ) → m ≢ n → log_of (logs_of n (acts v h)) m ≡ log_of (logs_of n v) m
  log_else h m d = ap (λ (l : List (List Entry)). get_or l m []) (map-set (λ (p : Part). p.log) v.parts n h) ∙ get_or-set_other (map (λ (p : Part). p.log) v.parts) n m h.log [] d
      ∙ sym (ap (λ (l : List (List Entry)). get_or l m []) (map-set (λ (p : Part). p.log) v.parts n v.own) ∙ get_or-set_other (map (λ (p : Part). p.log) v.parts) n m v.own.log [] d)

  -- the logs, where the own log is the same
  pub logs_same : (h : Part) → h.log ≡ v.own.log → logs_of n v ≡ logs_of n (acts v h)
  logs_same h e = map-set (λ (p : Part). p.log) v.parts n v.own ∙ ap (λ (l : List Entry). set (map (λ (p : Part). p.log) v.parts) n l) (sym e) ∙ sym (map-set (λ (p : Part). p.log) v.parts n h)

  pub same_pops : (h : Part) → ((j q : ℕ) → many (is_pop_of j q) h.log ≡ many (is_pop_of j q) v.own.log) → (m j q : ℕ) → is_swept_set c.generation j ≡ true
      → many (is_pop_of j q) (log_of (logs_of n (acts v h)) m) ≡ many (is_pop_of j q) (log_of (logs_of n v) m)
  same_pops h e m j q part = dite (ℕ_discrete m n)
      (λ s. subst (λ (x : ℕ). many (is_pop_of j q) (log_of (logs_of n (acts v h)) x) ≡ many (is_pop_of j q) (log_of (logs_of n v) x)) (sym s)
      (ap (many (is_pop_of j q)) (log_own h) ∙ e j q ∙ sym (ap (many (is_pop_of j q)) (log_own v.own))))
      (λ d. ap (many (is_pop_of j q)) (log_else h m d))

  -- the own part's page cache, where a step leaves it and the block that is out as they are
  pub own_cache : (h : Part) → h.cache ≡ v.own.cache → h.pulled ≡ v.own.pulled → out_of h.log ≡ out_of v.own.log → CacheTells n h
  own_cache h cache pulled out = cache_stays n v.own h cache pulled out (k.caches n v.own part_at)

  pub parts_after : (h : Part) → set (parts_of n v) n h ≡ parts_of n (acts v h)
  parts_after h = set_twice v.parts n v.own h

  module _ (c' : CoreState) (heap' : PageHeap) (homes' : List (Option Body)) (h : Part) (owned : Owned c') (tidy : IsTidy c') (space : HasSpace c') (lock : c'.lock ≡ c.lock) (words : length c'.words ≡ length c.words)
      (generation : c'.generation ≡ c.generation) (hands : c'.hands ≡ set c.hands n (hand_state h)) (sets : length c'.sets ≡ length c.sets) (region : heap'.region ≡ heap.region) (goal : heap'.goal ≡ heap.goal)
      (legal : IsJournal heap'.region heap'.goal heap'.past) (allowed : AreAllowed v.procs heap'.past) (cycle : IsBy ((c.generation - 4) / 2) heap'.past) (known' : List Life) (cache : CacheTells n h) where
    pub hands_after : c'.hands ≡ map hand_state (set (parts_of n v) n h)
    hands_after = hands ∙ ap (λ (l : List HandState). set l n (hand_state h)) k.hands ∙ sym (map-set hand_state (parts_of n v) n h)

    each_cache : EachAt (set (parts_of n v) n h) (λ m x. CacheTells m x)
    each_cache m x a = ⊎_elim
        (λ (t : (m ≡ n) × (h ≡ x)). subst (λ (z : ℕ × Part). CacheTells z.0 z.1) (λ i. (sym t.0 i, t.1 i)) cache)
        (λ (t : (m ≢ n) × (get_elem? (parts_of n v) m ≡ some x)). k.caches m x t.1)
        (at_set (parts_of n v) n m h x a)

    -- the rule, from its parts
    pub moved : (names' : ℕ → ℕ → ℕ) → Entered c.generation (length c.words) c'.words c'.lives c'.sets (set c.hands n (hand_state h)) (logs_of n (acts v h)) names'
        → Bodies (length c.words) known' c'.lives homes' (set (parts_of n v) n h) → Marked c.generation c'.words c'.lives v.marks → EachAt (set (parts_of n v) n h) (λ m x. Tells c.generation c'.words c'.lives c'.sets x)
        → RuleOf c' heap' homes' n (acts v h) known'
    moved names' entered bodies marks tells = (
      record {
        owned = owned;
        tidy = tidy;
        space = space;
        unlocked = lock ∙ k.unlocked;
        number = k.number;
        hands = hands_after ∙ ap (map hand_state) (parts_after h);
        region = k.region ∙ sym words;
        small = subst (λ (m : ℕ). m ≤ MAX_PAGES) (sym words) k.small;
        goal = k.goal ∙ sym goal;
        generation = k.generation ∙ sym generation;
        sets = sets ∙ k.sets;
        heap_region = region ∙ k.heap_region ∙ sym words;
        legal = legal;
        allowed = allowed;
        cycle = subst (λ (g : ℕ). IsBy ((g - 4) / 2) heap'.past) (sym generation) cycle;
        early = subst (λ (g : ℕ). g ≤ 2 ^ 33) (sym generation) k.early;
        names = names';
        entered = subst (λ (z : ℕ × ℕ × List HandState). Entered z.0 z.1 c'.words c'.lives c'.sets z.2 (logs_of n (acts v h)) names') (λ i. (sym generation i, sym words i, sym hands i)) entered;
        known = known';
        bodies = subst (λ (z : ℕ × List Part). Bodies z.0 known' c'.lives homes' z.1) (λ i. (sym words i, parts_after h i)) bodies;
        marks = subst (λ (g : ℕ). Marked g c'.words c'.lives v.marks) (sym generation) marks;
        tells = subst (λ (z : ℕ × List Part). EachAt z.1 (λ m x. Tells z.0 c'.words c'.lives c'.sets x)) (λ i. (sym generation i, parts_after h i)) tells;
        caches = subst (λ (l : List Part). EachAt l (λ m x. CacheTells m x)) (parts_after h) each_cache;
      },
      refl,
    )

    -- one page moves, which the worker has before or after
    module _ (p : ℕ) (low : p < length c.words) (mine : (0 < has3 p v.own) ⊎ (0 < has3 p h)) where
      pub others : (m : ℕ) (x : Part) → m ≢ n → get_elem? (parts_of n v) m ≡ some x → has3 p x ≡ 0
      others m x d at = ⊎_elim (λ (y : 0 < has3 p v.own). alone c k.owned (parts_of n v) k.hands p low n v.own part_at y m x d at)
          (λ (y : 0 < has3 p h). alone c' owned (set (parts_of n v) n h) hands_after p (subst (λ (z : ℕ). p < z) (sym words) low) n h
          (set_here (parts_of n v) n h (subst (λ (z : ℕ). n < z) (sym (length-set v.parts n v.own)) k.number)) y m x d (set_else (parts_of n v) n h m d ∙ at))
          mine

      pub turned : (names' : ℕ → ℕ → ℕ) → Entered c.generation (length c.words) c'.words c'.lives c'.sets (set c.hands n (hand_state h)) (logs_of n (acts v h)) names'
          → (lead : Leads c.generation c.words c.lives c.sets c'.words c'.lives c'.sets p) → (life : (q : ℕ) → q ≢ p → life_in q c'.lives ≡ life_in q c.lives) → (begin : (q : ℕ) → q ≢ p → begins q c'.lives ≡ begins q c.lives)
          → length homes' ≡ length homes → (line : (s : Span) → s.page ≢ p → IsOpen k.known s → IsOpen known' s) → ((q : ℕ) → q ≢ p → get_or homes' q None ≡ get_or homes q None)
          → ((q : ℕ) → q ≢ p → lends q h ≡ lends q v.own) → ((q : ℕ) → q ≢ p → span_at q h.spans ≡ span_at q v.own.spans)
          → (0 < lends p h → IsLent known' c'.lives h p) → (begins p c'.lives ≡ true → (0 < lends p h) ⊎ IsHome known' c'.lives homes' p)
          → ((0 < lends p h) ⊎ (begins p c'.lives ≡ false) → get_or homes' p None ≡ None)
          → (IsWaiting c.generation (get_or c'.words p 0) → (life_in p c'.lives).kept ≡ marks_at p v.marks)
          → ((i : ℕ) → 0 < times i (life_in p c.lives).allocated → 0 < times i (marks_at p v.marks) → 0 < times i (life_in p c'.lives).allocated)
          → Tells c.generation c'.words c'.lives c'.sets h → RuleOf c' heap' homes' n (acts v h) known'
      turned names' entered lead life begin many line home lend span lent there empty kept still told =
          moved names' entered
          (bodies_turn (length c.words) k.known c.lives homes (parts_of n v) k.bodies n v.own part_at known' c'.lives homes' h p (many ∙ k.bodies.many) life begin line home lend span
          (λ m x d at. let z = lends-le p x in let y = others m x d at in omega arith) lent (λ _. there) empty)
          (marked_turn c.generation c.words c.lives v.marks k.marks c'.words c'.lives p words lead.words life kept still)
          (tells_turn c.generation c.words c.lives c.sets c'.words c'.lives c'.sets p lead (parts_of n v) n h k.tells others told)
