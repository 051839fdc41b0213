-- A new core with the first view has the rule.
use Rattle.std.proofs.Common.{◌≡◌, ℕ, zero, suc, ◌-◌, ◌/◌, ◌^◌, ◌<◌, ◌≤◌, true≢false, List, [], ◌∷◌, map, length, get_or, set, refl, sym, ap, ◌∙◌, subst, arith}
use Rattle.std.specs.Prelude.{None, Option}
use Rattle.std.specs.List.{range_with_len}
use Rattle.std.proofs.lemmas.List.{set-get_or}
use Rattle.std.proofs.lemmas.List.FromFn.{length-map-range_with_len}
use mathlib.Core.Option.{some, some-injective, some-ne-none}
use lib.ListN.{get_elem?}
use Rattle.size_classes.specs.declared.TheConstants.{MAX_PAGES}
use Rattle.page_alloc.specs.Heap.{PageHeap}
use Rattle.page_alloc.specs.Journal.{AreAllowed, IsBy}
use Rattle.sound_run.specs.Run.{IsJournal}
use Rattle.span_state.specs.declared.body.Body.{Body}
use Rattle.sweep_laws.specs.State.{CoreState, HandState, LifeState, SetState}
use Rattle.sweep_laws.specs.Reading.{life_in, no_hand, no_set}
use Rattle.sweep_laws.specs.Start.{copies, new_state}
use Rattle.sweep_laws.specs.Owned.{Owned}
use Rattle.sweep_laws.specs.Tidy.{IsTidy, TailsFit}
use Rattle.sweep_laws.proofs.Forms.{kept_of, owned_of}
use Rattle.sweep_laws.proofs.NeedsMet.{some_none}
use Rattle.swept_set_laws.proofs.EnteredRest.{empty_enters}
use Rattle.worker_log.specs.declared.Entry.{Entry}
use Rattle.span_laws.specs.declared.view.Part.{Part}
use Rattle.span_laws.specs.declared.view.View.{View}
use Rattle.span_laws.specs.Bodies.{lends}
use Rattle.span_laws.specs.Caches.{CacheTells}
use Rattle.span_laws.specs.Rule.{logs_of}
use Rattle.span_laws.specs.Tells.{Tells}
use Rattle.sweep_laws.specs.Named.{begins}
use Rattle.span_laws.specs.Views.{first_view, hand_state, no_part}
use Rattle.span_laws.proofs.RuleKept.{RuleOf}

module _ {A : Type 0} (a : A) where
  pub get_here : (xs : List ℕ) (i : ℕ) → get_or (map (λ _. a) xs) i a ≡ a
  get_here [] i = refl
  get_here (x ∷ xs) zero = refl
  get_here (x ∷ xs) (suc i) = get_here xs i

  pub at_here : (xs : List ℕ) (i : ℕ) (b : A) → get_elem? (map (λ _. a) xs) i ≡ some b → a ≡ b
  at_here [] i b e = absurd (some-ne-none b (sym e))
  at_here (x ∷ xs) zero b e = some-injective a b e
  at_here (x ∷ xs) (suc i) b e = at_here xs i b e

  pub map_here : {B : Type 0} (f : A → B) (xs : List ℕ) → map f (map (λ _. a) xs) ≡ map (λ _. f a) xs
  map_here f [] = refl
  map_here f (x ∷ xs) = ap (λ ys. f a ∷ ys) (map_here f xs)

  pub set_here : (n i : ℕ) → set (copies n a) i a ≡ copies n a
  set_here n i = ap (λ (z : A). set (copies n a) i z) (sym (get_here (range_with_len 0 n) i)) ∙ set-get_or (copies n a) i a

-- the rule of a core whose parts are those of a new one
pub starts : (c : CoreState) (heap : PageHeap) (homes : List (Option Body)) (procs workers n : ℕ) → Owned c → IsTidy c → TailsFit c → n < workers → c.generation ≡ 4 → c.lock ≡ None → c.owners ≡ copies (length c.words) None → c.lives ≡ []
    → c.sets ≡ copies 544 no_set → c.hands ≡ copies workers no_hand → heap.region ≡ length c.words → heap.past ≡ [] → homes ≡ copies (length c.words) None → length c.words ≤ MAX_PAGES
    → RuleOf (record c { room = length c.words }) heap homes n (first_view (length c.words) heap.goal procs workers) []
starts c heap homes procs workers n o t f low g lock owners lives sets hands region past places small = let parts = set_here no_part workers n in (
  record {
    owned = owned_of (record c { room = length c.words }) (kept_of c o);
    tidy = record { hands = t.hands; lives = t.lives };
    space = record { room = omega arith; tails = f };
    unlocked = lock;
    number = subst (λ (z : ℕ). n < z) (sym (length-map-range_with_len (λ _. no_part) 0 workers)) low;
    hands = hands ∙ sym (ap (map hand_state) parts ∙ map_here no_part hand_state (range_with_len 0 workers));
    region = refl;
    small = small;
    goal = refl;
    generation = sym g;
    sets = ap (λ (l : List SetState). length l) sets ∙ length-map-range_with_len (λ _. no_set) 0 544;
    heap_region = region;
    legal = subst (IsJournal heap.region heap.goal) (sym past) tt;
    allowed = subst (AreAllowed procs) (sym past) tt;
    cycle = subst (IsBy ((c.generation - 4) / 2)) (sym past) tt;
    early = subst (λ (z : ℕ). z ≤ 2 ^ 33) (sym g) (omega arith);
    names = λ k i. 0;
    entered = empty_enters c.generation (length c.words) c.words c.lives c.sets c.hands (logs_of n (first_view (length c.words) heap.goal procs workers)) (λ k i. 0)
        (λ k s a part. let e = at_here no_set (range_with_len 0 544) k s (subst (λ (z : List SetState). get_elem? z k ≡ some s) sets a) in (sym (ap (λ (z : SetState). z.head) e), sym (ap (λ (z : SetState). z.tail) e)))
        (λ m h a. let e = at_here no_hand (range_with_len 0 workers) m h (subst (λ (z : List HandState). get_elem? z m ≡ some h) hands a) in sym (ap (λ (z : HandState). z.claimed) e))
        (λ m. ap (λ (z : List (List Entry)). get_or z m []) (ap (map (λ (h : Part). h.log)) parts ∙ map_here no_part (λ (h : Part). h.log) (range_with_len 0 workers)) ∙ get_here [] (range_with_len 0 workers) m);
    known = [];
    bodies = record {
      many = ap (λ (z : List (Option Body)). length z) places ∙ length-map-range_with_len (λ _. let z : Option Body = None in z) 0 (length c.words);
      lent = λ m x a p l. let e = at_here no_part (range_with_len 0 workers) m x (subst (λ (z : List Part). get_elem? z m ≡ some x) parts a) in
          let z : 0 < lends p no_part = subst (λ (y : Part). 0 < lends p y) (sym e) l in absurd (omega arith);
      gone = λ m x a p l. none_home p;
      bare = λ p b. none_home p;
      home = λ p l b. absurd (true≢false (sym b ∙ ap (begins p) lives));
    };
    marks = record {
      kept = λ p l w. ap (λ (z : List LifeState). (life_in p z).kept) lives;
      allocated = λ p i m. absurd (omega arith);
    };
    tells = λ m x a. let e = at_here no_part (range_with_len 0 workers) m x (subst (λ (z : List Part). get_elem? z m ≡ some x) parts a) in
        subst (Tells c.generation c.words c.lives c.sets) e (record {
          fresh = λ p. refl;
          placed = λ p i l. absurd (omega arith);
          emptied = λ k u l. absurd (omega arith);
          read = λ k i p l. absurd (true≢false (sym l));
          filled = λ k u i l. absurd (let z = ap (λ (y : List SetState). (get_or y k no_set).tail) sets ∙ ap (λ (y : SetState). y.tail) (get_here no_set (range_with_len 0 544) k) in omega arith);
          waits = λ k p u l w. absurd (omega arith);
          grown = λ k x y l. absurd (omega arith);
          passed = λ k. omega arith;
        });
    caches = λ m x a. subst (CacheTells m) (at_here no_part (range_with_len 0 workers) m x (subst (λ (z : List Part). get_elem? z m ≡ some x) parts a))
        (record { none = λ e. (refl, refl); some = λ k e. absurd (some_none k (sym e)) });
  },
  refl,
)
  where
    none_home : (p : ℕ) → get_or homes p None ≡ None
    none_home p = ap (λ (z : List (Option Body)). get_or z p None) places ∙ get_here None (range_with_len 0 (length c.words)) p

pub start_rule : (core core' : CoreState) (heap : PageHeap) (homes : List (Option Body)) (v : View) (pages goal procs workers n : ℕ) → core ≡ new_state pages workers → Owned core → IsTidy core → TailsFit core → core' ≡ record core { room = length core.words } → n < workers
    → heap.region ≡ pages → heap.goal ≡ goal → heap.past ≡ [] → homes ≡ copies pages None → pages ≤ MAX_PAGES → v ≡ first_view pages goal procs workers → RuleOf core' heap homes n v []
start_rule core core' heap homes v pages goal procs workers n e o t f r low region goal_is past places small is =
    let many : length core.words ≡ pages = ap (λ (s : CoreState). length s.words) e ∙ length-map-range_with_len (λ _. let z : ℕ = 0 in z) 0 pages in
    subst (λ (s : CoreState). RuleOf s heap homes n v []) (sym r) (subst (λ (x : View). RuleOf (record core { room = length core.words }) heap homes n x []) (ap (λ (z : ℕ). first_view z heap.goal procs workers) many ∙ ap (λ (z : ℕ). first_view pages z procs workers) goal_is ∙ sym is)
    (starts core heap homes procs workers n o t f low (ap (λ (s : CoreState). s.generation) e) (ap (λ (s : CoreState). s.lock) e)
    (ap (λ (s : CoreState). s.owners) e ∙ ap (λ (z : ℕ). let y : List (Option ℕ) = copies z None in y) (sym many)) (ap (λ (s : CoreState). s.lives) e) (ap (λ (s : CoreState). s.sets) e) (ap (λ (s : CoreState). s.hands) e) (region ∙ sym many) past
    (places ∙ ap (λ (z : ℕ). let y : List (Option Body) = copies z None in y) (sym many)) (subst (λ (z : ℕ). z ≤ MAX_PAGES) (sym many) small)))
