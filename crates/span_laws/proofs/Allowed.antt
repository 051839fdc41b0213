-- The needs of each move, met by what a worker's view tells.
use Rattle.std.proofs.Common.{◌≡◌, ◌≢◌, ℕ, ◌+◌, ◌-◌, ◌<◌, ◌≤◌, ◌⊎◌, ⊎_elim, inl, inr, Bool, true, true≢false, not, eqb, ltb, List, [], length, get_or, refl, sym, ap, subst, ◌∙◌, arith, eq-eqb}
use Rattle.std.specs.Prelude.{Option, Some, None}
use Rattle.std.specs.Option.{is_some}
use Rattle.std.proofs.lemmas.Bool.{cases_Bool, cases_lt, lt-ltb}
use Rattle.page_cache.specs.Cache.{Cache, in_block}
use Rattle.page_cache.specs.Runs.{IsRun}
use Rattle.sweep_laws.specs.State.{HandState, CoreState}
use Rattle.sweep_laws.specs.Lists.{has}
use Rattle.sweep_laws.specs.Counts.{one_if, times}
use Rattle.sweep_laws.specs.Reading.{allocated_at, hand_of, cell_of, class_of_set, is_swept_set, no_set, set_of}
use Rattle.sweep_laws.specs.NeedsOfRange.{refusal}
use Rattle.sweep_laws.specs.Needs.{acquire_needs, give_needs, pop_swept_needs, lock_needs, unlock_needs, take_needs, release_needs, cache_needs, uncache_needs, stale_uncache_needs, pull_needs, cut_needs, drop_needs}
use Rattle.sweep_laws.specs.Standing.{tally}
use Rattle.sweep_laws.proofs.Naming.{has_times, times_has}
use Rattle.sweep_laws.proofs.NeedsMet.{none_refuses, none_there}
use Rattle.sweep_laws.proofs.Standings.{cached_list}
use Rattle.sweep_laws.proofs.Totals.{part_le}
use Rattle.sweep_laws.proofs.Forms.{kept_of}
use Rattle.span_laws.specs.declared.view.View.{View}
use Rattle.page_alloc.specs.Heap.{PageHeap}
use Rattle.span_laws.specs.Rule.{Rule}
use Rattle.span_state.specs.declared.body.Body.{Body}
use Rattle.sweep_laws.specs.OwnedSets.{IsPage}
use Rattle.sweep_laws.specs.Owned.{Owned}
use Rattle.sweep_laws.specs.Named.{claimers, is_class}
use Rattle.sweep_laws.proofs.Naming.{at_low}
use Rattle.std.proofs.Common.{ne_eqb}
use Rattle.span_laws.specs.Views.{hand_state}
use Rattle.sweep_laws.specs.Step.{after}
use Rattle.sweep_laws.specs.declared.moves.Move.TheVariants.{Drop, Give, Lock, Pull, Take}
use Rattle.sweep_laws.specs.declared.moves.Claimed.{Claimed}
use Rattle.std.proofs.Math.ListN.{length-set}
use Rattle.sweep_laws.specs.Reading.{is_free_page, least_free}
use Rattle.sweep_laws.specs.Named.{pullers}
use Rattle.sweep_laws.proofs.PulledPages.{none_in_range, page_free, range_none}
use Rattle.span_laws.specs.Caches.{CacheTells}
use Rattle.span_laws.proofs.RuleKept.{low_number, own_hand, own_at, own_never, part_at}

-- a number is below a bound, or not
low_by : (p m : ℕ) (xs : List ℕ) → has p xs ≡ true → (m ≤ p → times p xs ≡ 0) → p < m
low_by p m xs h none = let t = has_times p xs h in ⊎_elim (λ (a : p < m). a) (λ (b : m ≤ p). let z = none b in absurd (omega arith)) (lt_or p m)
  where
    lt_or : (a b : ℕ) → (a < b) ⊎ (b ≤ a)
    lt_or a b = grind arith

module _ (c : CoreState) (heap : PageHeap) (homes : List (Option Body)) (n : ℕ) (v : View) (k : Rule c heap homes n v) where
  in_range : ltb n (length c.hands) ≡ true
  in_range = lt-ltb n (length c.hands) (low_number c heap homes n v k)

  pub sweeping_low : (p : ℕ) → has p v.own.sweeping ≡ true → p < length c.words
  sweeping_low p h = low_by p (length c.words) v.own.sweeping h (λ le. (own_never c heap homes n v k p le).sweeping)

  pub held_low : (p : ℕ) → has p v.own.held ≡ true → p < length c.words
  held_low p h = low_by p (length c.words) v.own.held h (λ le. (own_never c heap homes n v k p le).held)

  pub cached_low : (p : ℕ) → has p v.own.cached ≡ true → p < length c.words
  cached_low p h = low_by p (length c.words) v.own.cached h (λ le. (own_never c heap homes n v k p le).cached)

  pub release_allowed : (p : ℕ) → has p v.own.sweeping ≡ true → refusal (release_needs c n p) ≡ None
  release_allowed p h = none_refuses (release_needs c n p)
      (in_range, (lt-ltb p (length c.words) (sweeping_low p h), (ap (λ (s : HandState). has p s.sweeping) (own_hand c heap homes n v k) ∙ h, tt)))

  pub cache_allowed : (p : ℕ) → has p v.own.held ≡ true → v.own.claimed ≡ None → refusal (cache_needs c n p) ≡ None
  cache_allowed p h e = none_refuses (cache_needs c n p) (
    in_range,
    (
      lt-ltb p (length c.words) (held_low p h),
      (
        ap (λ (s : HandState). has p s.held) (own_hand c heap homes n v k) ∙ h,
        (ap (λ (s : HandState). not (is_some s.claimed)) (own_hand c heap homes n v k) ∙ rw e refl, tt),
      ),
    ),
  )

  pub uncache_allowed : (p : ℕ) → has p v.own.cached ≡ true → get_or c.words p 0 ≡ c.generation + 3 → refusal (uncache_needs c n p) ≡ None
  uncache_allowed p h e = none_refuses (uncache_needs c n p)
      (in_range, (lt-ltb p (length c.words) (cached_low p h), (ap (λ (s : HandState). has p s.cached) (own_hand c heap homes n v k) ∙ h, (eq-eqb _ _ e, tt))))

  -- a cached page has one of two words
  pub cached_word : (p : ℕ) → has p v.own.cached ≡ true → (get_or c.words p 0 ≡ c.generation + 1) ⊎ (get_or c.words p 0 ≡ c.generation + 3)
  cached_word p h = let t = has_times p v.own.cached h in let s = part_le (λ (a : HandState). times p a.cached) c.hands n (hand_state v.own) (own_at c heap homes n v k) in
      (cached_list c.generation (tally c.generation c.words c.lives c.sets c.hands p) ((kept_of c k.owned).page p (cached_low p h)).standing (omega arith)).0

  pub stale_allowed : (p : ℕ) → has p v.own.cached ≡ true → get_or c.words p 0 ≢ c.generation + 3 → refusal (stale_uncache_needs c n p) ≡ None
  stale_allowed p h d = none_refuses (stale_uncache_needs c n p) (
    in_range,
    (
      lt-ltb p (length c.words) (cached_low p h),
      (
        ap (λ (s : HandState). has p s.cached) (own_hand c heap homes n v k) ∙ h,
        (eq-eqb _ _ (⊎_elim (λ (a : get_or c.words p 0 ≡ c.generation + 1). a) (λ (b : get_or c.words p 0 ≡ c.generation + 3). absurd (d b)) (cached_word p h)), tt),
      ),
    ),
  )

leb_yes : (a b : ℕ) → a ≤ b → Rattle.std.proofs.Common.leb a b ≡ true
leb_yes a b h = grind arith

-- the moves under the lock
pub lock_allowed : (c : CoreState) (n : ℕ) → n < length c.hands → c.lock ≡ None → refusal (lock_needs c n) ≡ None
lock_allowed c n low e = none_refuses (lock_needs c n) (lt-ltb n (length c.hands) low, (ap (λ (o : Option ℕ). not (is_some o)) e, tt))

pub take_allowed : (c : CoreState) (n page pages count class : ℕ) → n < length c.hands → page + pages ≤ length c.words → 1 ≤ pages → 1 ≤ count → class < 136
    → ((q : ℕ) → page ≤ q → q < page + pages → get_or c.owners q None ≡ None) → ((q : ℕ) → page ≤ q → q < page + pages → pullers q c.hands ≡ 0) → refusal (take_needs (after c (Lock n)) n page pages count class) ≡ None
take_allowed c n page pages count class low inside some objects small free unpulled = none_refuses (take_needs (after c (Lock n)) n page pages count class) (
  lt-ltb n (length c.hands) low,
  (
    lt-ltb page (length c.words) (omega arith),
    (
      leb_yes (page + pages) (length c.words) inside,
      (
        lt-ltb class 136 small,
        (
          eq-eqb n n refl,
          (rw (lt-ltb 0 pages (omega arith), lt-ltb 0 count (omega arith)) refl, (ap (λ (o : Option ℕ). not (is_some o)) (none_in_range (λ q. not (is_free_page c q)) page pages (λ q l h. ap not (page_free c.owners c.hands q (free q l h) (unpulled q l h)))), tt)),
        ),
      ),
    ),
  ),
)

pub unlock_allowed : (c : CoreState) (n page pages count class : ℕ) → n < length c.hands → refusal (unlock_needs (after (after c (Lock n)) (Take n page pages count class)) n) ≡ None
unlock_allowed c n page pages count class low = none_refuses (unlock_needs (after (after c (Lock n)) (Take n page pages count class)) n)
    (lt-ltb n _ (subst (λ (m : ℕ). n < m) (sym (length-set c.hands n _)) low), (eq-eqb n n refl, tt))

-- an unpopped cell of a swept set that is filled names a page of the region
pub head_page : (c : CoreState) → Owned c → (j : ℕ) → j < length c.sets → is_swept_set c.generation j ≡ true → let s = set_of c j in s.head < s.tail → cell_of s s.head ≢ 0 → (p : ℕ) × (cell_of s s.head ≡ p + 1) × (p < length c.words)
head_page c o j low part more filled = let s = set_of c j in
    ⊎_elim (λ (x : IsPage (length c.words) (λ p. is_class p (class_of_set j) c.lives ≡ true) (cell_of s s.head)). (x.0, x.1, x.2))
    (λ (x : (cell_of s s.head ≡ 0) × (claimers j s.head c.hands ≡ 1)). absurd (filled x.0))
    (o.sets.swept_cell j s (at_low c.sets j no_set low) part s.head (omega arith) more)

pub pop_swept_allowed : (c : CoreState) (n j : ℕ) → n < length c.hands → j < length c.sets → is_swept_set c.generation j ≡ true → (set_of c j).head < (set_of c j).tail → cell_of (set_of c j) (set_of c j).head ≢ 0
    → refusal (pop_swept_needs c n j) ≡ None
pop_swept_allowed c n j low there part more filled = none_refuses (pop_swept_needs c n j)
    (lt-ltb n (length c.hands) low, (lt-ltb j (length c.sets) there, (part, (lt-ltb (set_of c j).head (set_of c j).tail more, (ap not (ne_eqb _ _ filled), tt)))))

pub head_below : (c : CoreState) → Owned c → (j : ℕ) → j < length c.sets → (set_of c j).head ≢ (set_of c j).tail → (set_of c j).head < (set_of c j).tail
head_below c o j low d = let r = o.sets.order j (set_of c j) (at_low c.sets j no_set low) in omega arith

pub give_allowed : (c : CoreState) (n page : ℕ) → n < length c.hands → page < length c.words → has page (hand_of c n).held ≡ true → (hand_of c n).claimed ≡ None
    → length (allocated_at c page) ≡ 0 → refusal (give_needs (after c (Lock n)) n page) ≡ None
give_allowed c n page low inside held free empty = none_refuses (give_needs (after c (Lock n)) n page)
    (lt-ltb n _ low, (lt-ltb page _ inside, (eq-eqb n n refl, (held, (eq-eqb _ 0 empty, (ap (λ (o : Option Claimed). not (is_some o)) free, tt))))))

pub unlock_given : (c : CoreState) (n page : ℕ) → n < length c.hands → refusal (unlock_needs (after (after c (Lock n)) (Give n page)) n) ≡ None
unlock_given c n page low = none_refuses (unlock_needs (after (after c (Lock n)) (Give n page)) n)
    (lt-ltb n _ (subst (λ (m : ℕ). n < m) (sym (length-set c.hands n _)) low), (eq-eqb n n refl, tt))

pub acquire_allowed : (c : CoreState) (n page : ℕ) → n < length c.hands → page < length c.words → get_or c.words page 0 + 2 ≡ c.generation → refusal (acquire_needs c n page) ≡ None
acquire_allowed c n page low inside w = none_refuses (acquire_needs c n page) (lt-ltb n _ low, (lt-ltb page _ inside, (eq-eqb _ _ w, tt)))

-- ---- page caches

-- a page is free where one of the region is
some_free : (c : CoreState) (page : ℕ) → page < length c.words → get_or c.owners page None ≡ None → pullers page c.hands ≡ 0 → is_some (least_free c) ≡ true
some_free c page low free none = elim (cases_Bool (is_some (least_free c))) [
  | inl on ↦ on
  | inr off ↦ absurd (true≢false (sym (page_free c.owners c.hands page free none) ∙ range_none (is_free_page c) 0 (length c.words) (none_there (least_free c) off) page (omega arith) (omega arith)))
]

pub pull_allowed : (c : CoreState) (n page : ℕ) → n < length c.hands → (hand_of c n).pulled ≡ [] → page < length c.words → get_or c.owners page None ≡ None → pullers page c.hands ≡ 0 → refusal (pull_needs (after c (Lock n)) n) ≡ None
pull_allowed c n page low nothing inside free none = none_refuses (pull_needs (after c (Lock n)) n)
    (lt-ltb n (length c.hands) low, (eq-eqb n n refl, (ap (λ (l : List ℕ). eqb (length l) 0) nothing, (some_free c page inside free none, tt))))

pub unlock_pulled : (c : CoreState) (n : ℕ) → n < length c.hands → refusal (unlock_needs (after (after c (Lock n)) (Pull n)) n) ≡ None
unlock_pulled c n low = none_refuses (unlock_needs (after (after c (Lock n)) (Pull n)) n)
    (lt-ltb n _ (subst (λ (m : ℕ). n < m) (sym (length-set c.hands n _)) low), (eq-eqb n n refl, tt))

pub drop_allowed : (c : CoreState) (n : ℕ) → n < length c.hands → refusal (drop_needs (after c (Lock n)) n) ≡ None
drop_allowed c n low = none_refuses (drop_needs (after c (Lock n)) n) (lt-ltb n (length c.hands) low, (eq-eqb n n refl, tt))

pub unlock_dropped : (c : CoreState) (n : ℕ) → n < length c.hands → refusal (unlock_needs (after (after c (Lock n)) (Drop n)) n) ≡ None
unlock_dropped c n low = none_refuses (unlock_needs (after (after c (Lock n)) (Drop n)) n)
    (lt-ltb n _ (subst (λ (m : ℕ). n < m) (sym (length-set c.hands n _)) low), (eq-eqb n n refl, tt))

-- a run of a set whose pages the hand has pulled
pub cut_allowed : (c : CoreState) (n page pages count class : ℕ) (set : ℕ → Bool) → n < length c.hands → page + pages ≤ length c.words → 1 ≤ pages → 1 ≤ count → class < 136
    → ((p : ℕ) → times p (hand_of c n).pulled ≡ one_if (set p)) → IsRun set page pages → refusal (cut_needs c n page pages count class) ≡ None
cut_allowed c n page pages count class set low inside some objects small named run = none_refuses (cut_needs c n page pages count class) (
  lt-ltb n (length c.hands) low,
  (
    lt-ltb page (length c.words) (omega arith),
    (
      leb_yes (page + pages) (length c.words) inside,
      (
        lt-ltb class 136 small,
        (
          rw (lt-ltb 0 pages (omega arith), lt-ltb 0 count (omega arith)) refl,
          (
            ap (λ (o : Option ℕ). not (is_some o)) (none_in_range (λ q. not (has q (hand_of c n).pulled)) page pages (λ q l h. (
                let one : times q (hand_of c n).pulled ≡ 1 = named q ∙ ap one_if (run q l h) in
                ap not (times_has q (hand_of c n).pulled (omega arith))))),
            tt,
          ),
        ),
      ),
    ),
  ),
)

module _ (c : CoreState) (heap : PageHeap) (homes : List (Option Body)) (n : ℕ) (v : View) (k : Rule c heap homes n v) where
  pub own_tells : CacheTells n v.own
  own_tells = k.caches n v.own (part_at c heap homes n v k)

  -- the hand has pulled the pages of the own page cache's block
  pub own_pulled : (x : Cache) → v.own.cache ≡ Some x → (p : ℕ) → times p (hand_of c n).pulled ≡ one_if (in_block x.block p)
  own_pulled x is p = ap (λ (s : HandState). times p s.pulled) (own_hand c heap homes n v k) ∙ (own_tells.some x is).pages p

  -- a run of that block is one of the region
  pub cut_low : (x : Cache) (page pages : ℕ) → v.own.cache ≡ Some x → 1 ≤ pages → IsRun (in_block x.block) page pages → page + pages ≤ length c.words
  cut_low x page pages is some run = elim (cases_lt (page + pages - 1) (length c.words)) [
    | inl low ↦ omega arith
    | inr far ↦ (
        let last : times (page + pages - 1) v.own.pulled ≡ 1 = (own_tells.some x is).pages (page + pages - 1) ∙ ap one_if (run (page + pages - 1) (omega arith) (omega arith)) in
        let never = (own_never c heap homes n v k (page + pages - 1) far).pulled in
        absurd (omega arith))
  ]

  pub own_cut_allowed : (x : Cache) (page pages count class : ℕ) → v.own.cache ≡ Some x → 1 ≤ pages → 1 ≤ count → class < 136 → IsRun (in_block x.block) page pages → refusal (cut_needs c n page pages count class) ≡ None
  own_cut_allowed x page pages count class is some objects small run =
      cut_allowed c n page pages count class (in_block x.block) (low_number c heap homes n v k) (cut_low x page pages is some run) some objects small (own_pulled x is) run
