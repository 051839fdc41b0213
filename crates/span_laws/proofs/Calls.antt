-- The calls that lend a body or bring it home, from what they have at hand.
use Rattle.std.proofs.Common.{◌≡◌, ℕ, ◌+◌, ◌-◌, ◌/◌, ◌<◌, ◌≤◌, true, false, List, [], ◌∷◌, ◌++◌, set, take, drop, length, get_or, ap, sym, subst, ◌∙◌, arith}
use Rattle.std.specs.Prelude.{None, Some, Option}
use Rattle.std.proofs.Math.ListN.{length-set}
use Rattle.std.proofs.lemmas.List.{append-nil, drop_all, take_all}
use Rattle.page_alloc.specs.Heap.{AddsLine, HasMoreRoom, PageHeap}
use Rattle.page_alloc.specs.Journal.{IsBy}
use Rattle.page_alloc.specs.Lives.{Life, life_of}
use Rattle.page_alloc.proofs.Lives.{span_pages}
use Rattle.page_bitmap.specs.declared.line.Line.{Line}
use Rattle.page_bitmap.specs.declared.line.Line.TheVariants.{Take as TakeLine}
use Rattle.span_state.specs.declared.body.Body.{Body}
use Rattle.sweep_laws.specs.Changes.{after_acquire, after_claim, after_pop_swept, after_take}
use Rattle.sweep_laws.specs.Lists.{has}
use Rattle.sweep_laws.specs.Reading.{cell_of, is_swept_set, set_of}
use Rattle.sweep_laws.specs.Owned.{Owned}
use Rattle.sweep_laws.specs.State.{CoreState}
use Rattle.sweep_laws.specs.Tidy.{IsTidy, HasSpace}
use Rattle.worker_log.specs.Entries.{is_pop_of, many}
use Rattle.span_laws.specs.TakeAnswers.{IsNew}
use Rattle.span_laws.specs.Answers.{IsOfSet}
use Rattle.span_laws.specs.BodyAsks.{HasMarked}
use Rattle.span_laws.specs.Asks.{HasBody, IsOfPops, IsTaken, IsUntouched, mine}
use Rattle.span_laws.specs.Bodies.{Fits}
use Rattle.span_laws.specs.Cycle.{KeepsCycle}
use Rattle.span_laws.specs.Rule.{Rule}
use Rattle.span_laws.specs.Truth.{IsSoOf}
use Rattle.span_laws.specs.declared.said.Said.TheVariants.{Claims}
use Rattle.span_laws.specs.declared.said.SaidOf.TheVariants.{Acquires, Pops, Takes}
use Rattle.span_laws.specs.declared.view.View.{View}
use Rattle.span_laws.specs.Views.{acts, has_cell, span_of}
use Rattle.span_laws.specs.OwnSteps.{told, told_of}
use Rattle.span_laws.proofs.LifeMoves.{free_has, free_unsettled, take_keeps}
use Rattle.span_laws.proofs.Notes.{life_keeps, room_keeps}
use Rattle.span_laws.proofs.RuleKept.{RuleOf, part_at}
use Rattle.span_laws.proofs.SetMoves.{claim_keeps, pop_keeps}
use Rattle.span_laws.proofs.Uses.{claim_class, claim_full, claim_used, has_marked, held_low, popped_fits, popped_full, popped_home, popped_low, popped_mine, untouched, waiting_home, waiting_mine}
use Rattle.span_laws.proofs.Classes.{fits_class}
use Rattle.span_laws.proofs.WordMoves.{acquire_keeps, unsettled}
use Rattle.std.proofs.Common.{inl}

same_body : (a b : Body) → Some a ≡ Some b → a ≡ b
same_body a b e = cc

-- a list that was lent whole, and written back with one place changed
pub written_at : {X : Type 0} (old new : List X) (n p : ℕ) (x : X) → n ≡ length old → new ≡ set old p x → take n (new ++ drop (length new) old) ≡ set old p x
written_at old new n p x e f =
    let same : length new ≡ length old = ap length f ∙ length-set old p x in
    let none : drop (length new) old ≡ [] = drop_all (length new) old (omega arith) in
    rw (none, append-nil new) (take_all n new (omega arith) ∙ f)

same_line : (cycle p q m n a b : ℕ) (past : List Line) → p ≡ q → m ≡ n → a ≡ b → (TakeLine cycle p m a ∷ past) ≡ (TakeLine cycle q n b ∷ past)
same_line cycle p q m n a b past x y z = λ i. TakeLine cycle (x i) (y i) (z i) ∷ past

same_take : (c : CoreState) (w count p q m n a b : ℕ) → p ≡ q → m ≡ n → a ≡ b → record (after_take c w p m count a) { lock = None } ≡ record (after_take c w q n count b) { lock = None }
same_take c w count p q m n a b x y z = λ i. record (after_take c w (x i) (y i) count (z i)) { lock = None }

module _ (c : CoreState) (heap : PageHeap) (homes : List (Option Body)) (n : ℕ) (v : View) (k : Rule c heap homes n v) where
  -- the body at home of a page that waits
  module _ (p : ℕ) (low : p < length c.words) (w : get_or c.words p 0 + 2 ≡ c.generation) (b : Body) (at : get_or homes p None ≡ Some b) where
    acquired_fits : Fits k.known c.lives p (span_of b)
    acquired_fits = let h = waiting_home c heap homes n v k p low w in subst (λ (x : Body). Fits k.known c.lives p (span_of x)) (same_body h.0 b (sym h.1 ∙ at)) h.2

    pub acquired_page : b.page ≡ p
    acquired_page = acquired_fits.page

    acquired_own : Fits k.known c.lives b.page (span_of b)
    acquired_own = subst (λ (q : ℕ). Fits k.known c.lives q (span_of b)) (sym acquired_page) acquired_fits

    pub acquired_marked : HasMarked v.marks b
    acquired_marked = has_marked c heap homes n v k b acquired_own

    pub acquired_untouched : IsUntouched v.generation v.own p
    acquired_untouched = untouched c heap homes n v k p low (unsettled c heap homes n v k _ (inl w))

    pub acquired_mine : mine p v.own ≡ 0
    acquired_mine = waiting_mine c heap homes n v k p low w

    -- the entry that was popped tells the class
    pub acquired_pops : IsOfPops v.generation v.own b
    acquired_pops j part m = sym ((k.tells n v.own (part_at c heap homes n v k)).waits j b.page (subst (λ (g : ℕ). is_swept_set g j ≡ false) k.generation part) m (subst (λ (q : ℕ). get_or c.words q 0 + 2 ≡ c.generation) (sym acquired_page) w)) ∙ sym acquired_own.body.class

    pub acquired_class : KeepsCycle c heap n v k.known → b.class < 136
    acquired_class y = fits_class c heap homes n v k y p (span_of b) acquired_fits

    pub acquire_rule : (c' : CoreState) → c' ≡ after_acquire c n p → Owned c' → IsTidy c' → HasSpace c' → RuleOf c' heap (set homes p None) n (acts v (told_of Acquires (span_of b) v.own)) k.known
    acquire_rule c' e o t r = subst (λ (q : ℕ). RuleOf c' heap (set homes q None) n (acts v (told_of Acquires (span_of b) v.own)) k.known) acquired_page
        (acquire_keeps c heap homes n v k b (subst (λ (q : ℕ). q < length c.words) (sym acquired_page) low) (subst (λ (q : ℕ). get_or c.words q 0 + 2 ≡ c.generation) (sym acquired_page) w) acquired_own c' (e ∙ ap (after_acquire c n) (sym acquired_page)) o t r)

  -- the body of the page at the head of a swept set
  module _ (j p : ℕ) (there : j < 544) (part : is_swept_set c.generation j ≡ true) (more : (set_of c j).head < (set_of c j).tail) (filled : cell_of (set_of c j) (set_of c j).head ≡ p + 1) (b : Body) (at : get_or homes p None ≡ Some b) where
    taken_fits : Fits k.known c.lives p (span_of b)
    taken_fits = let h = popped_home c heap homes n v k j p there part more filled in subst (λ (x : Body). Fits k.known c.lives p (span_of x)) (same_body h.0 b (sym h.1 ∙ at)) h.2

    pub taken_page : b.page ≡ p
    taken_page = taken_fits.page

    pub taken_set : IsOfSet j b
    taken_set = popped_fits c heap homes n v k j p there part more filled b taken_fits

    pub taken_mine : IsTaken v.generation j v.own p
    taken_mine = record {
      nothing = popped_mine c heap homes n v k j p there part more filled;
      unpopped = popped_full c heap homes n v k j p there part more filled;
    }

    pub pop_rule : (c' : CoreState) → c' ≡ after_pop_swept c n j → Owned c' → IsTidy c' → HasSpace c' → RuleOf c' heap (set homes p None) n (acts v (told_of (Pops j) (span_of b) v.own)) k.known
    pop_rule c' e o t r = subst (λ (q : ℕ). RuleOf c' heap (set homes q None) n (acts v (told_of (Pops j) (span_of b) v.own)) k.known) taken_page
        (pop_keeps c heap homes n v k b j there part more (filled ∙ ap (λ (q : ℕ). q + 1) (sym taken_page)) (subst (λ (q : ℕ). q < length c.words) (sym taken_page) (popped_low c heap homes n v k j p there part more filled))
        (subst (λ (q : ℕ). Fits k.known c.lives q (span_of b)) (sym taken_page) taken_fits) c' e o t r)

  -- a body that is brought home for a claim
  pub claim_rule : (b : Body) (held : has b.page v.own.held ≡ true) (free : v.own.claimed ≡ None) (lent : HasBody v.own b) (j : ℕ) (there : j < 544) (part : is_swept_set c.generation j ≡ true) (fits : IsOfSet j b) (unpopped : many (is_pop_of j b.page) v.own.log ≡ 0)
      → (c' : CoreState) → c' ≡ after_claim c n j b.page → Owned c' → IsTidy c' → HasSpace c' → RuleOf c' heap (set homes b.page (Some b)) n (acts v (told (Claims j (set_of c j).tail b.page) v.own)) k.known
  claim_rule b held free lent j there part fits unpopped c' e o t r =
      claim_keeps c heap homes n v k b j there part held free lent (held_low c heap homes n v k b held free lent) (claim_class c heap homes n v k b held free lent j there part fits unpopped)
      (claim_used c heap homes n v k b held free lent j there part fits unpopped) (claim_full c heap homes n v k b held free lent j there part fits unpopped) unpopped c' e o t r

  -- a cell that the worker read at the head of a set names its page still
  pub head_filled : (j head p : ℕ) → head ≡ (set_of c j).head → has_cell j head p v.own.read ≡ true → cell_of (set_of c j) (set_of c j).head ≡ p + 1
  head_filled j head p e r = subst (λ (i : ℕ). cell_of (set_of c j) i ≡ p + 1) e ((k.tells n v.own (part_at c heap homes n v k)).read j head p r)

  -- there is room for a line and for a life
  module _ (heap₁ : PageHeap) (more : HasMoreRoom heap heap₁) (c₁ : CoreState) (x : ℕ) (same : c₁ ≡ record c { prepared = x }) where
    pub ready_rule : RuleOf c₁ heap₁ homes n v k.known
    ready_rule = let a = room_keeps c heap homes n v k heap₁ more in let b = life_keeps c heap₁ homes n v a.0 x in subst (λ (s : CoreState). RuleOf s heap₁ homes n v k.known) (sym same) (b.0, b.1 ∙ a.1)

    -- and a line takes a run for a body
    module _ (cycle page pages class : ℕ) (heap' : PageHeap) (line : AddsLine heap₁ heap' (TakeLine cycle page pages class)) (b : Body) (is_new : IsNew pages class b) (at : b.page ≡ page) where
      run_low : b.page < length c₁.words
      run_low = let i = line.may_follow.1.here.inside in let s = span_pages class pages line.may_follow.0 in let r = ready_rule.0.heap_region in omega arith

      pub run_line : heap'.past ≡ TakeLine cycle b.page b.pages b.class ∷ heap₁.past
      run_line = line.past ∙ same_line cycle page b.page pages b.pages class b.class heap₁.past (sym at) (sym is_new.pages) (sym is_new.class)

      pub run_last : length heap₁.past ≡ b.life → IsSoOf heap' (Takes cycle) (span_of b)
      run_last number = (heap₁.past, run_line, number)

      -- which is nobody's in the core
      module _ (free : get_or c₁.owners b.page None ≡ None) where
        pub run_untouched : IsUntouched v.generation v.own b.page
        run_untouched = untouched c₁ heap₁ homes n v ready_rule.0 b.page run_low (free_unsettled c₁ heap₁ homes n v ready_rule.0 b.page run_low free)

        pub run_mine : mine b.page v.own ≡ 0
        run_mine = free_has c₁ heap₁ homes n v ready_rule.0 b.page run_low free

        pub run_rule : cycle ≤ (c.generation - 4) / 2 → length heap₁.past ≡ b.life → (c' : CoreState) → c' ≡ record (after_take c₁ n page pages b.count class) { lock = None } → Owned c' → IsTidy c' → HasSpace c'
            → RuleOf c' heap' homes n (acts v (told_of (Takes cycle) (span_of b) v.own)) (life_of (length heap₁.past) cycle b.page b.pages b.class ∷ k.known)
        run_rule by number c' e o t r =
            let y = take_keeps c₁ heap₁ homes n v ready_rule.0 (span_of b) run_low free is_new.empty cycle heap' line.region line.goal (line.legal 64 ready_rule.0.legal)
            (subst (IsBy ((c₁.generation - 4) / 2)) (sym line.past) (subst (λ (g : ℕ). cycle ≤ (g - 4) / 2) (sym (ap (λ (s : CoreState). s.generation) same)) by))
            run_line number
            c' (e ∙ same_take c₁ n b.count page b.page pages b.pages class b.class (sym at) (sym is_new.pages) (sym is_new.class)) o t r in
            (y.0, y.1 ∙ ap (λ (l : List Life). life_of (length heap₁.past) cycle b.page b.pages b.class ∷ l) ready_rule.1)
