-- Each move keeps what a state shows of the blocks of page caches: one law.
use Rattle.std.proofs.Common.{◌≡◌, ◌≢◌, ℕ, zero, suc, ◌+◌, ◌-◌, ◌<◌, ◌≤◌, ◌⊎◌, inl, inr, Bool, true, false, true≢false, cond, ◌||◌, not, eqb, eq-eqb, ne_eqb, List, [], ◌∷◌, ◌++◌, map, length, set, get_or, length-set, get_or-set_other, get_or-set_same, sym, refl, ap, ◌∙◌, subst, arith}
use Rattle.std.specs.Prelude.{Option, Some, None, option_map}
use Rattle.std.specs.List.{filter}
use Rattle.std.proofs.lemmas.Bool.{cases_eq, cases_lt, ltb-true}
use Rattle.std.proofs.lemmas.List.{length-append, length-map, get_or-map, get_or_past, append_assoc}
use Rattle.std.proofs.lemmas.List.Elements.{filter-append}
use Rattle.page_bitmap.specs.declared.line.Line.{Line}
use Rattle.page_bitmap.specs.declared.line.Line.TheVariants.{Drop as DropLine}
use Rattle.page_alloc.specs.Lists.{In, IsNumber}
use Rattle.page_alloc.specs.Lives.{Life, open_lives}
use Rattle.page_alloc.specs.Owners.{cached, is_number, owner}
use Rattle.page_alloc.proofs.Lives.{from_others}
use Rattle.sound_run.specs.Run.{count_for}
use Rattle.sweep_laws.specs.State.{LifeState, HandState, CoreState}
use Rattle.sweep_laws.specs.Lists.{erase, erase_run}
use Rattle.sweep_laws.specs.Counts.{one_if, times}
use Rattle.sweep_laws.specs.Named.{begins, is_covered}
use Rattle.sweep_laws.specs.Reading.{hand_of, life_in, life_of, no_hand}
use Rattle.sweep_laws.specs.NeedsOfRange.{refusal}
use Rattle.sweep_laws.specs.Needs.{take_needs, give_needs, cut_needs, drop_needs}
use Rattle.sweep_laws.specs.ChangesOfHands.{hold, let_go, cut_span, drop_pulled, forget_swept}
use Rattle.sweep_laws.specs.ChangesOfLives.{drop_life}
use Rattle.sweep_laws.specs.Changes.{after_take, after_give, after_cut, after_drop, after_next}
use Rattle.sweep_laws.specs.Owned.{Owned}
use Rattle.sweep_laws.specs.declared.moves.Move.TheVariants.{Give as GiveMove}
use Rattle.sweep_laws.proofs.Forms.{kept_of}
use Rattle.sweep_laws.proofs.HeapMoves.{free_before, free_uncovered, pulled_uncovered}
use Rattle.sweep_laws.proofs.LivesChange.{begins_drop, run_else, run_here}
use Rattle.sweep_laws.proofs.MovesKept.{hand_at, run_free, run_inside, cut_inside, cut_pulled, move_kept}
use Rattle.sweep_laws.proofs.NeedsMet.{AllMet, all_met, some_none}
use Rattle.sweep_laws.proofs.PulledPages.{erased_else, erased_here}
use Rattle.worker_log.specs.declared.Entry.{Entry}
use Rattle.worker_log.specs.declared.Entry.TheVariants.{Took, Gave, Cut as CutEntry, Settled}
use Rattle.worker_log.specs.Logs.{Taking}
use Rattle.run_laws.specs.CycleSoFar.{CycleSoFar, past_after}
use Rattle.run_laws.specs.Lists.{begins_at}
use Rattle.run_laws.specs.Shown.{IsLifeOf}
use Rattle.run_laws.specs.Steps.{after_took, after_gave}
use Rattle.run_laws.specs.ShowsCycle.{after_mark_end}
use Rattle.run_laws.specs.Blocks.{CutOut, OutBlock, cut_line, cut_out, cut_times, cuts_in, cuts_of, is_of_cache, out_of, pages_cut, pullings, settled_lines, settlings, told_lines, with_cut}
use Rattle.run_laws.specs.ShowsBlocks.{IsLifeCut, ShowsBlocks, after_cut_out, after_settled}
use Rattle.run_laws.proofs.BlockLogs.{SameBlocks, same_block, same_put, put_own, put_else, number_more, same_numbers, cuts_own, cuts_others, cuts_cached, cuts_owner, cuts_lives, cuts_begin, cut_begins, others_begin}
use Rattle.run_laws.proofs.BlocksKept.{SameSpan, same_span, marked_span, marked_begins, dropped_life, owner_of_life, pulled_stay, cut_as, life_as, cut_at_as, newer_cut, newer_life, newer_here, newer_each, placed, within_of}

-- a list without the first places of a run of numbers that it has
pub erase_shorter : (x : ℕ) (xs : List ℕ) → 0 < times x xs → length (erase x xs) + 1 ≡ length xs
erase_shorter x [] h = absurd (omega arith)
erase_shorter x (y ∷ xs) h = elim (cases_eq y x) [
  | inl here ↦ rw (eq-eqb y x here) (omega arith)
  | inr there ↦ (let o = ap one_if (ne_eqb y x there) in let t = erase_shorter x xs (omega arith) in rw (ne_eqb y x there) (omega (arith, t)))
]

erased_length : (p n : ℕ) (xs : List ℕ) → ((q : ℕ) → p ≤ q → q < p + n → 0 < times q xs) → length (erase_run p n xs) + n ≡ length xs
erased_length p zero xs mine = omega arith
erased_length p (suc n) xs mine =
    let t = erased_else (p + n) p n xs (λ a b. omega arith) in let m = mine (p + n) (omega arith) (omega arith) in
    let s = erase_shorter (p + n) (erase_run p n xs) (omega arith) in let r = erased_length p n xs (λ q a b. mine q a (omega arith)) in omega arith

module _ (c : CoreState) (e : CycleSoFar) (now : ShowsBlocks c e) (o : Owned c) where
  -- no life begins at a page with the word 0
  nothing_begins : (p : ℕ) → p < length c.words → get_or c.words p 0 ≡ 0 → begins p c.lives ≡ false
  nothing_begins p low word = (kept_of c o).lives_fit.begin p low ∙ ap not (eq-eqb (get_or c.words p 0) 0 word)

  -- a span is taken, with its line
  pub take_blocks : (w p pages count class : ℕ) → refusal (take_needs c w p pages count class) ≡ None → count ≡ count_for class → ShowsBlocks (after_take c w p pages count class) (after_took e w p pages class)
  take_blocks w p pages count class met same = record {
    lines = λ v. now.lines v ∙ sym ((logs v).lines e.cycle v);
    named = λ v x h. inr (now.named v x (subst (λ (l : List Taking). In x l) (logs v).pullings h));
    settled = λ v n h. let s = now.settled v n (subst (λ (l : List ℕ). In n l) (logs v).settlings h) in (s.0, s.1, inr s.2);
    pulled = λ v q. now.pulled v q ∙ (λ i. times q (sym (hands v) i) + cut_times q (cuts_in (sym (logs v).out i)));
    none = λ v z. hands v ∙ now.none v (sym (logs v).out ∙ z);
    size = λ v b z. ap (λ (l : List ℕ). length l + pages_cut b.cuts) (hands v) ∙ now.size v b (sym (logs v).out ∙ z);
    owned = owners;
    cuts = λ v x h. newer_cut c e now p pages count class absent d refl x (now.cuts v x (subst (λ (b : Option OutBlock). In x (cuts_in b)) (logs v).out h));
    lives = lives;
    each = λ q z. elim (newer_each c e now p pages count class absent d refl q z) [
      | inl here ↦ inl (begins_new q here)
      | inr was ↦ elim (now.each q was) [ inl a ↦ inl (begins_old q a) | inr b ↦ inr (cut_at_as c e now _ logs q b) ]
    ];
  }
    where
      d : CoreState
      d = after_take c w p pages count class

      m : AllMet (take_needs c w p pages count class)
      m = all_met (take_needs c w p pages count class) met

      low : p < length c.words
      low = ltb-true p (length c.words) m.1.0

      absent : begins p c.lives ≡ false
      absent = nothing_begins p low (free_before c.generation c.words c.owners c.lives (kept_of c o).lives_fit p low (run_free c (kept_of c o) w p pages count class met p (omega arith) (let r = (run_inside c (kept_of c o) w p pages count class met).1 in omega arith)))

      logs : (v : ℕ) → SameBlocks ((after_took e w p pages class).logs v) (e.logs v)
      logs = same_put e.logs w (Took _ _) (record { out = refl; lines = λ cycle u. refl; pullings = refl; settlings = refl; cuts = refl })

      hands : (v : ℕ) → (hand_of d v).pulled ≡ (hand_of c v).pulled
      hands = pulled_stay c.hands w (hold p (hand_of c w)) (ltb-true w (length c.hands) m.0) refl

      owners : (q : ℕ) → q < length d.words → ((v : ℕ) → cut_times q (cuts_of ((after_took e w p pages class).logs v)) ≡ 0) → get_or d.owners q None ≡ owner (past_after (after_took e w p pages class)) q
      owners q l z = let size = length-set c.words p c.generation in let entries = (kept_of c o).lives_fit.entries in elim (placed q p pages) [
        | inl i ↦ run_here c.owners p pages q (Some p) None i.0 i.1 (omega arith) ∙ (rw i.2 refl)
        | inr out ↦ run_else c.owners p pages q (Some p) None out.0 ∙ now.owned q (omega arith) (λ v. sym (ap (λ (b : Option OutBlock). cut_times q (cuts_in b)) (logs v).out) ∙ z v) ∙ (rw out.1 refl)
      ]

      lives : (life : Life) → In life (open_lives (past_after (after_took e w p pages class))) → (begins life.page d.lives ≡ true) × IsLifeOf life (life_of d life.page)
      lives life (inl is) = subst (λ (l : Life). (begins l.page d.lives ≡ true) × IsLifeOf l (life_of d l.page)) is
          (let h = newer_here c e now p pages count class absent d refl in
          (h.0, record { pages = ap (λ (l : LifeState). l.pages) h.1; class = ap (λ (l : LifeState). l.class) h.1; count = ap (λ (l : LifeState). l.count) h.1 ∙ same }))
      lives life (inr h) = newer_life c e now p pages count class absent d refl life (now.lives life h)

      begins_new : (q : ℕ) → q ≡ p → begins_at q (open_lives (past_after (after_took e w p pages class))) ≡ true
      begins_new q is = rw (eq-eqb p q (sym is)) refl

      begins_old : (q : ℕ) → begins_at q (open_lives (past_after e)) ≡ true → begins_at q (open_lives (past_after (after_took e w p pages class))) ≡ true
      begins_old q is = go (eqb p q)
        where
          go : (b : Bool) → b || begins_at q (open_lives (past_after e)) ≡ true
          go true = refl
          go false = is

  -- a span is given back, with its line
  pub give_blocks : (w p : ℕ) → refusal (give_needs c w p) ≡ None → ((v : ℕ) (x : CutOut) → In x (cuts_of (e.logs v)) → x.page ≢ p) → ShowsBlocks (after_give c w p) (after_gave e w p (life_of c p).pages)
  give_blocks w p met other = record {
    lines = λ v. now.lines v ∙ sym ((logs v).lines e.cycle v);
    named = λ v x h. inr (now.named v x (subst (λ (l : List Taking). In x l) (logs v).pullings h));
    settled = λ v n h. let s = now.settled v n (subst (λ (l : List ℕ). In n l) (logs v).settlings h) in (s.0, s.1, inr s.2);
    pulled = λ v q. now.pulled v q ∙ (λ i. times q (sym (hands v) i) + cut_times q (cuts_in (sym (logs v).out i)));
    none = λ v z. hands v ∙ now.none v (sym (logs v).out ∙ z);
    size = λ v b z. ap (λ (l : List ℕ). length l + pages_cut b.cuts) (hands v) ∙ now.size v b (sym (logs v).out ∙ z);
    owned = owners;
    cuts = λ v x h. let h' = subst (λ (b : Option OutBlock). In x (cuts_in b)) (logs v).out h in let k = now.cuts v x h' in let ne = other v x h' in
        cut_as c e now d x (begins_drop p x.page c.lives ne ∙ k.begin) (subst (λ (l : LifeState). SameSpan l (life_in x.page c.lives)) (sym (dropped_life p x.page c.lives ne)) (same_span (life_in x.page c.lives))) k;
    lives = λ life h. let r = from_others p (open_lives (past_after e)) life h in let k = now.lives life r.0 in (
      begins_drop p life.page c.lives r.1 ∙ k.0,
      life_as c e now d life (subst (λ (l : LifeState). SameSpan l (life_in life.page c.lives)) (sym (dropped_life p life.page c.lives r.1)) (same_span (life_in life.page c.lives))) k.1,
    );
    each = λ q z. let ne = left q z in elim (now.each q (sym (begins_drop p q c.lives ne) ∙ z)) [ inl a ↦ inl (others_begin p q (open_lives (past_after e)) ne a) | inr b ↦ inr (cut_at_as c e now _ logs q b) ];
  }
    where
      d : CoreState
      d = after_give c w p

      m : AllMet (give_needs c w p)
      m = all_met (give_needs c w p) met

      low : p < length c.words
      low = ltb-true p (length c.words) m.1.0

      logs : (v : ℕ) → SameBlocks ((after_gave e w p (life_of c p).pages).logs v) (e.logs v)
      logs = same_put e.logs w (Gave _ _) (record { out = refl; lines = λ cycle u. refl; pullings = refl; settlings = refl; cuts = refl })

      hands : (v : ℕ) → (hand_of d v).pulled ≡ (hand_of c v).pulled
      hands = pulled_stay c.hands w (let_go p (hand_of c w)) (ltb-true w (length c.hands) m.0) refl

      left : (q : ℕ) → begins q (drop_life p c.lives) ≡ true → q ≢ p
      left q z is =
          let k = move_kept c (kept_of c o) (GiveMove w p) met in
          let gone : begins p (drop_life p c.lives) ≡ false = k.lives_fit.begin p (subst (λ (n : ℕ). p < n) (sym (length-set c.words p 0)) low) ∙ ap not (eq-eqb (get_or (set c.words p 0) p 0) 0 (get_or-set_same c.words p 0 0 low)) in
          true≢false (sym z ∙ ap (λ (x : ℕ). begins x (drop_life p c.lives)) is ∙ gone)

      owners : (q : ℕ) → q < length d.words → ((v : ℕ) → cut_times q (cuts_of ((after_gave e w p (life_of c p).pages).logs v)) ≡ 0) → get_or d.owners q None ≡ owner (past_after (after_gave e w p (life_of c p).pages)) q
      owners q l z = let size = length-set c.words p 0 in let entries = (kept_of c o).lives_fit.entries in let pages : ℕ = (life_of c p).pages in elim (placed q p pages) [
        | inl i ↦ run_here c.owners p pages q None None i.0 i.1 (omega arith) ∙ (rw i.2 refl)
        | inr out ↦ run_else c.owners p pages q None None out.0 ∙ now.owned q (omega arith) (λ v. sym (ap (λ (b : Option OutBlock). cut_times q (cuts_in b)) (logs v).out) ∙ z v) ∙ (rw out.1 refl)
      ]

  -- a span is cut out of the own block: the log tells it, and nothing is written
  pub cut_blocks : (w n p pages count class : ℕ) → refusal (cut_needs c w p pages count class) ≡ None → count ≡ count_for class → ShowsBlocks (after_cut c w p pages count class) (after_cut_out e w n p pages class)
  cut_blocks w n p pages count class met same = record {
    lines = λ v. now.lines v ∙ told v;
    named = λ v x h. now.named v x (pulls v x h);
    settled = λ v k h. now.settled v k (settles v k h);
    pulled = pulled;
    none = none;
    size = size;
    owned = owners;
    cuts = cuts;
    lives = λ life h. newer_life c e now p pages count class absent d refl life (now.lives life h);
    each = λ q z. elim (newer_each c e now p pages count class absent d refl q z) [
      | inl here ↦ inr (w, new, subst (λ (l : List Entry). In new (cuts_of l)) (sym (put_own e.logs w _ w refl)) (subst (λ (b : Option OutBlock). In new (cuts_in (option_map (Rattle.run_laws.specs.Blocks.with_cut new) b))) (sym block.1) (inl refl)), sym here)
      | inr was ↦ elim (now.each q was) [ inl a ↦ inl a | inr b ↦ inr (b.0, b.1, grows b.0 b.1 b.2, b.3) ]
    ];
  }
    where
      d : CoreState
      d = after_cut c w p pages count class

      next : CycleSoFar
      next = after_cut_out e w n p pages class

      new : CutOut
      new = cut_out p pages class

      m : AllMet (cut_needs c w p pages count class)
      m = all_met (cut_needs c w p pages count class) met

      low : p < length c.words
      low = ltb-true p (length c.words) m.1.0

      low_hand : w < length c.hands
      low_hand = ltb-true w (length c.hands) m.0

      some_page : 0 < pages
      some_page = (cut_inside c (kept_of c o) w p pages count class met).1

      mine : (q : ℕ) → p ≤ q → q < p + pages → 0 < times q (hand_of c w).pulled
      mine = cut_pulled c (kept_of c o) w p pages count class met

      absent : begins p c.lives ≡ false
      absent = nothing_begins p low (free_uncovered c.generation c.words c.owners c.lives (kept_of c o).lives_fit p low
          (pulled_uncovered c.generation c.words c.owners c.lives c.sets c.hands (kept_of c o) w (hand_of c w) (hand_at c (kept_of c o) w m.0) p low p (mine p (omega arith) (let s = some_page in omega arith))))

      -- the worker has a block out, since it has pulled pages
      block : (b : OutBlock) × (out_of (e.logs w) ≡ Some b)
      block = go (out_of (e.logs w)) refl
        where
          go : (x : Option OutBlock) → out_of (e.logs w) ≡ x → (b : OutBlock) × (out_of (e.logs w) ≡ Some b)
          go None is = let z = mine p (omega arith) (let s = some_page in omega arith) in let y = ap (times p) (now.none w is) in absurd (omega arith)
          go (Some b) is = (b, is)

      -- what the log tells of blocks but for the cut
      told : (v : ℕ) → told_lines e.cycle v (e.logs v) ≡ told_lines e.cycle v (next.logs v)
      told v = elim (cases_eq v w) [
        | inl is ↦ sym (ap (told_lines e.cycle v) (put_own e.logs w (CutEntry p pages class ∷ e.logs w) v is) ∙ ap (λ (u : ℕ). told_lines e.cycle v (e.logs u)) (sym is))
        | inr isnt ↦ sym (ap (told_lines e.cycle v) (put_else e.logs w (CutEntry p pages class ∷ e.logs w) v isnt))
      ]

      pulls : (v : ℕ) (x : Taking) → In x (pullings (next.logs v)) → In x (pullings (e.logs v))
      pulls v x h = elim (cases_eq v w) [
        | inl is ↦ subst (λ (u : ℕ). In x (pullings (e.logs u))) (sym is) (subst (λ (l : List Entry). In x (pullings l)) (put_own e.logs w (CutEntry p pages class ∷ e.logs w) v is) h)
        | inr isnt ↦ subst (λ (l : List Entry). In x (pullings l)) (put_else e.logs w (CutEntry p pages class ∷ e.logs w) v isnt) h
      ]

      settles : (v n : ℕ) → In n (settlings (next.logs v)) → In n (settlings (e.logs v))
      settles v n h = elim (cases_eq v w) [
        | inl is ↦ subst (λ (u : ℕ). In n (settlings (e.logs u))) (sym is) (subst (λ (l : List Entry). In n (settlings l)) (put_own e.logs w (CutEntry p pages class ∷ e.logs w) v is) h)
        | inr isnt ↦ subst (λ (l : List Entry). In n (settlings l)) (put_else e.logs w (CutEntry p pages class ∷ e.logs w) v isnt) h
      ]

      -- the cuts of the own log, and of another one
      own_cuts : (v : ℕ) → v ≡ w → cuts_of (next.logs v) ≡ new ∷ cuts_of (e.logs v)
      own_cuts v is = ap cuts_of (put_own e.logs w (CutEntry p pages class ∷ e.logs w) v is)
          ∙ ap (λ (b : Option OutBlock). cuts_in (option_map (Rattle.run_laws.specs.Blocks.with_cut new) b)) block.1 ∙ ap (λ (b : Option OutBlock). new ∷ cuts_in b) (sym block.1) ∙ ap (λ (u : ℕ). new ∷ cuts_of (e.logs u)) (sym is)

      else_cuts : (v : ℕ) → v ≢ w → cuts_of (next.logs v) ≡ cuts_of (e.logs v)
      else_cuts v isnt = ap cuts_of (put_else e.logs w (CutEntry p pages class ∷ e.logs w) v isnt)

      grows : (v : ℕ) (x : CutOut) → In x (cuts_of (e.logs v)) → In x (cuts_of (next.logs v))
      grows v x h = elim (cases_eq v w) [ inl is ↦ subst (In x) (sym (own_cuts v is)) (inr h) | inr isnt ↦ subst (In x) (sym (else_cuts v isnt)) h ]

      cuts : (v : ℕ) (x : CutOut) → In x (cuts_of (next.logs v)) → IsLifeCut d x
      cuts v x h = elim (cases_eq v w) [
        | inl is ↦ one (subst (In x) (own_cuts v is) h)
        | inr isnt ↦ newer_cut c e now p pages count class absent d refl x (now.cuts v x (subst (In x) (else_cuts v isnt) h))
      ]
        where
          one : (new ≡ x) ⊎ In x (cuts_of (e.logs v)) → IsLifeCut d x
          one (inl is) = subst (IsLifeCut d) is (let k = newer_here c e now p pages count class absent d refl in
              record { begin = k.0; pages = ap (λ (l : LifeState). l.pages) k.1; class = ap (λ (l : LifeState). l.class) k.1; count = ap (λ (l : LifeState). l.count) k.1 ∙ same })
          one (inr old) = newer_cut c e now p pages count class absent d refl x (now.cuts v x old)

      own_hand : (v : ℕ) → v ≡ w → (hand_of d v).pulled ≡ erase_run p pages (hand_of c v).pulled
      own_hand v is = ap (λ (u : ℕ). (hand_of d u).pulled) is ∙ ap (λ (h : HandState). h.pulled) (get_or-set_same c.hands w (cut_span p pages (hand_of c w)) no_hand low_hand) ∙ ap (λ (u : ℕ). erase_run p pages (hand_of c u).pulled) (sym is)

      else_hand : (v : ℕ) → v ≢ w → (hand_of d v).pulled ≡ (hand_of c v).pulled
      else_hand v isnt = ap (λ (h : HandState). h.pulled) (get_or-set_other c.hands w v (cut_span p pages (hand_of c w)) no_hand isnt)

      pulled : (v q : ℕ) → one_if (is_number v (cached (past_after next) q)) ≡ times q (hand_of d v).pulled + cut_times q (cuts_of (next.logs v))
      pulled v q = elim (cases_eq v w) [
        | inl is ↦ (
            let a = ap (times q) (own_hand v is) in let b = ap (cut_times q) (own_cuts v is) in let r = now.pulled v q in
            elim (placed q p pages) [
              | inl i ↦ (let x = erased_here q p pages (hand_of c v).pulled i.0 i.1 (subst (λ (u : ℕ). 0 < times q (hand_of c u).pulled) (sym is) (mine q i.0 i.1)) in let y = ap one_if i.2 in omega arith)
              | inr out ↦ (let x = erased_else q p pages (hand_of c v).pulled (λ f g. true≢false (sym (Rattle.run_laws.proofs.BlocksKept.within_in q p pages f g) ∙ out.1)) in let y = ap one_if out.1 in omega arith)
            ])
        | inr isnt ↦ (let a = ap (times q) (else_hand v isnt) in let b = ap (cut_times q) (else_cuts v isnt) in let r = now.pulled v q in omega arith)
      ]

      size : (v : ℕ) (b : OutBlock) → out_of (next.logs v) ≡ Some b → length (hand_of d v).pulled + pages_cut b.cuts ≡ b.pages
      size v b z = elim (cases_eq v w) [
        | inl is ↦ (
            let out : Some (with_cut new block.0) ≡ Some b = sym (ap (option_map (with_cut new)) block.1) ∙ sym (ap out_of (put_own e.logs w (CutEntry p pages class ∷ e.logs w) v is)) ∙ z in
            let x = now.size w block.0 block.1 in let y = erased_length p pages (hand_of c w).pulled mine in
            let a = ap (λ (l : List ℕ). length l) (own_hand v is) in let u = ap (λ (k : ℕ). length (erase_run p pages (hand_of c k).pulled)) is in
            subst (λ (g : OutBlock). length (hand_of d v).pulled + pages_cut g.cuts ≡ g.pages) (same_block (with_cut new block.0) b out) (omega arith))
        | inr isnt ↦ ap (λ (l : List ℕ). length l + pages_cut b.cuts) (else_hand v isnt) ∙ now.size v b (sym (ap out_of (put_else e.logs w (CutEntry p pages class ∷ e.logs w) v isnt)) ∙ z)
      ]

      none : (v : ℕ) → out_of (next.logs v) ≡ None → (hand_of d v).pulled ≡ []
      none v z = elim (cases_eq v w) [
        | inl is ↦ absurd (some_none (Rattle.run_laws.specs.Blocks.with_cut new block.0) (sym (ap (option_map (Rattle.run_laws.specs.Blocks.with_cut new)) block.1) ∙ sym (ap out_of (put_own e.logs w (CutEntry p pages class ∷ e.logs w) v is)) ∙ z))
        | inr isnt ↦ else_hand v isnt ∙ now.none v (sym (ap out_of (put_else e.logs w (CutEntry p pages class ∷ e.logs w) v isnt)) ∙ z)
      ]

      owners : (q : ℕ) → q < length d.words → ((v : ℕ) → cut_times q (cuts_of (next.logs v)) ≡ 0) → get_or d.owners q None ≡ owner (past_after next) q
      owners q l z = let size = length-set c.words p c.generation in elim (placed q p pages) [
        | inl i ↦ (let a = ap (cut_times q) (own_cuts w refl) in let b = z w in let y = ap one_if i.2 in absurd (omega arith))
        | inr out ↦ run_else c.owners p pages q (Some p) None out.0 ∙ now.owned q (omega arith) (λ v. elim (cases_eq v w) [
          | inl is ↦ (let a = ap (cut_times q) (own_cuts v is) in let b = z v in let y = ap one_if out.1 in omega arith)
          | inr isnt ↦ (let a = ap (cut_times q) (else_cuts v isnt) in let b = z v in omega arith)
        ])
      ]

  -- a block is settled: its cuts and the Drop of what is left are written
  pub drop_blocks : (w : ℕ) (b : OutBlock) → refusal (drop_needs c w) ≡ None → out_of (e.logs w) ≡ Some b → ShowsBlocks (after_drop c w) (after_settled e w b)
  drop_blocks w b met is_out = record {
    lines = lines;
    named = λ v x h. subst (IsNumber x.number x.line) past_is (inr (number_more cut_lines (past_after e) x.number x.line (now.named v x (pulls v x h))));
    settled = settled;
    pulled = pulled;
    none = λ v z. elim (cases_eq v w) [ inl is ↦ own_hand v is | inr isnt ↦ else_hand v isnt ∙ now.none v (sym (ap out_of (log_else v isnt)) ∙ z) ];
    size = λ v g z. elim (cases_eq v w) [
      | inl is ↦ absurd (some_none g (sym z ∙ ap out_of (log_own v is)))
      | inr isnt ↦ ap (λ (l : List ℕ). length l + pages_cut g.cuts) (else_hand v isnt) ∙ now.size v g (sym (ap out_of (log_else v isnt)) ∙ z)
    ];
    owned = owners;
    cuts = λ v x h. let k = now.cuts v x (remains v x h).1 in cut_as c e now d x k.begin (same_span (life_in x.page c.lives)) k;
    lives = λ life h. elim (cuts_lives e.cycle w (past_after e) b.cuts life (subst (λ (l : List Life). In life l) (ap open_lives (sym past_is)) h)) [
      | inl old ↦ now.lives life old
      | inr of ↦ written life of.0 of.1 of.2 of.3 of.4
    ];
    each = λ q z. elim (now.each q z) [
      | inl a ↦ inl (ap (λ (l : List Line). begins_at q (open_lives l)) (sym past_is) ∙ cuts_begin e.cycle w (past_after e) b.cuts q a)
      | inr k ↦ elim (cases_eq k.0 w) [
        | inl is ↦ inl (ap (λ (l : List Line). begins_at q (open_lives l)) (sym past_is) ∙ ap (λ (u : ℕ). begins_at u (open_lives (cut_lines ++ past_after e))) (sym k.3)
            ∙ cut_begins e.cycle w (past_after e) b.cuts k.1 (subst (λ (x : Option OutBlock). In k.1 (cuts_in x)) is_out (subst (λ (u : ℕ). In k.1 (cuts_of (e.logs u))) is k.2)))
        | inr isnt ↦ inr (k.0, k.1, subst (λ (l : List Entry). In k.1 (cuts_of l)) (sym (log_else k.0 isnt)) k.2, k.3)
      ]
    ];
  }
    where
      d : CoreState
      d = after_drop c w

      next : CycleSoFar
      next = after_settled e w b

      low_hand : w < length c.hands
      low_hand = ltb-true w (length c.hands) (all_met (drop_needs c w) met).0

      cut_lines : List Line
      cut_lines = map (cut_line e.cycle w) b.cuts

      last : Line
      last = DropLine e.cycle w b.page (b.pages - Rattle.run_laws.specs.Blocks.pages_cut b.cuts)

      number : ℕ
      number = length b.cuts + length (past_after e)

      past_is : last ∷ (cut_lines ++ past_after e) ≡ past_after next
      past_is = ap (λ (l : List Line). last ∷ l) (sym (append_assoc cut_lines e.lines e.before))

      log_own : (v : ℕ) → v ≡ w → next.logs v ≡ Settled number ∷ e.logs w
      log_own v is = put_own e.logs w (Settled number ∷ e.logs w) v is

      log_else : (v : ℕ) → v ≢ w → next.logs v ≡ e.logs v
      log_else v isnt = put_else e.logs w (Settled number ∷ e.logs w) v isnt

      own_hand : (v : ℕ) → v ≡ w → (hand_of d v).pulled ≡ []
      own_hand v is = ap (λ (u : ℕ). (hand_of d u).pulled) is ∙ ap (λ (h : HandState). h.pulled) (get_or-set_same c.hands w (drop_pulled (hand_of c w)) no_hand low_hand)

      else_hand : (v : ℕ) → v ≢ w → (hand_of d v).pulled ≡ (hand_of c v).pulled
      else_hand v isnt = ap (λ (h : HandState). h.pulled) (get_or-set_other c.hands w v (drop_pulled (hand_of c w)) no_hand isnt)

      pulls : (v : ℕ) (x : Taking) → In x (pullings (next.logs v)) → In x (pullings (e.logs v))
      pulls v x h = elim (cases_eq v w) [
        | inl is ↦ subst (λ (u : ℕ). In x (pullings (e.logs u))) (sym is) (subst (λ (l : List Entry). In x (pullings l)) (log_own v is) h)
        | inr isnt ↦ subst (λ (l : List Entry). In x (pullings l)) (log_else v isnt) h
      ]

      -- a cut that isn't in the journal yet is another worker's
      remains : (v : ℕ) (x : CutOut) → In x (cuts_of (next.logs v)) → (v ≢ w) × In x (cuts_of (e.logs v))
      remains v x h = elim (cases_eq v w) [
        | inl is ↦ absurd (subst (λ (l : List Entry). In x (cuts_of l)) (log_own v is) h)
        | inr isnt ↦ (isnt, subst (λ (l : List Entry). In x (cuts_of l)) (log_else v isnt) h)
      ]

      lines : (v : ℕ) → filter (is_of_cache v) next.lines ≡ told_lines e.cycle v (next.logs v)
      lines v = elim (cases_eq v w) [
        | inl is ↦ subst (λ (u : ℕ). filter (is_of_cache u) next.lines ≡ told_lines e.cycle u (next.logs u)) (sym is) own_lines
        | inr isnt ↦ (let w≢v = λ (s : w ≡ v). isnt (sym s) in
            rw (ne_eqb w v w≢v) (filter-append (is_of_cache v) cut_lines e.lines ∙ ap (λ (l : List Line). l ++ filter (is_of_cache v) e.lines) (cuts_others e.cycle w v w≢v b.cuts))
            ∙ now.lines v ∙ sym (ap (told_lines e.cycle v) (log_else v isnt)))
      ]
        where
          own_lines : filter (is_of_cache w) next.lines ≡ told_lines e.cycle w (next.logs w)
          own_lines = rw (eq-eqb w w refl) (ap (λ (l : List Line). last ∷ l) (filter-append (is_of_cache w) cut_lines e.lines ∙ ap (λ (l : List Line). l ++ filter (is_of_cache w) e.lines) (cuts_own e.cycle w b.cuts) ∙ ap (λ (l : List Line). cut_lines ++ l) (now.lines w)))
              ∙ ap (λ (x : Option OutBlock). settled_lines e.cycle w x ++ told_lines e.cycle w (e.logs w)) (sym is_out) ∙ sym (ap (told_lines e.cycle w) (log_own w refl))

      settled : (v n : ℕ) → In n (settlings (next.logs v)) → (page : ℕ) × (pages : ℕ) × IsNumber n (DropLine e.cycle v page pages) (past_after next)
      settled v n h = elim (cases_eq v w) [
        | inl is ↦ own is (subst (λ (l : List Entry). In n (settlings l)) (log_own v is) h)
        | inr isnt ↦ older v (now.settled v n (subst (λ (l : List Entry). In n (settlings l)) (log_else v isnt) h))
      ]
        where
          older : (u : ℕ) → (page : ℕ) × (pages : ℕ) × IsNumber n (DropLine e.cycle u page pages) (past_after e) → (page : ℕ) × (pages : ℕ) × IsNumber n (DropLine e.cycle u page pages) (past_after next)
          older u s = (s.0, s.1, subst (IsNumber n (DropLine e.cycle u s.0 s.1)) past_is (inr (number_more cut_lines (past_after e) n (DropLine e.cycle u s.0 s.1) s.2)))

          own : v ≡ w → (number ≡ n) ⊎ In n (settlings (e.logs w)) → (page : ℕ) × (pages : ℕ) × IsNumber n (DropLine e.cycle v page pages) (past_after next)
          own is (inl at) = (
            b.page,
            b.pages - Rattle.run_laws.specs.Blocks.pages_cut b.cuts,
            subst (IsNumber n (DropLine e.cycle v b.page (b.pages - Rattle.run_laws.specs.Blocks.pages_cut b.cuts))) past_is
                (inl (
                  length-append cut_lines (past_after e) ∙ ap (λ (k : ℕ). k + length (past_after e)) (length-map b.cuts (cut_line e.cycle w)) ∙ at,
                  ap (λ (u : ℕ). DropLine e.cycle u b.page (b.pages - Rattle.run_laws.specs.Blocks.pages_cut b.cuts)) (sym is),
                )),
          )
          own is (inr old) = subst (λ (u : ℕ). (page : ℕ) × (pages : ℕ) × IsNumber n (DropLine e.cycle u page pages) (past_after next)) (sym is) (older w (now.settled w n old))

      pulled : (v q : ℕ) → one_if (is_number v (cached (past_after next) q)) ≡ times q (hand_of d v).pulled + cut_times q (cuts_of (next.logs v))
      pulled v q = subst (λ (l : List Line). one_if (is_number v (cached l q)) ≡ times q (hand_of d v).pulled + cut_times q (cuts_of (next.logs v))) past_is (elim (cases_eq v w) [
        | inl is ↦ (
            let a = ap (times q) (own_hand v is) in let k = ap (λ (l : List Entry). cut_times q (cuts_of l)) (log_own v is) in
            let z : is_number v (cached (last ∷ (cut_lines ++ past_after e)) q) ≡ false = gone v is (is_number w (cached (cut_lines ++ past_after e) q)) refl in
            let y = ap one_if z in omega arith)
        | inr isnt ↦ (
            let a = ap (times q) (else_hand v isnt) in let k = ap (λ (l : List Entry). cut_times q (cuts_of l)) (log_else v isnt) in let r = now.pulled v q in
            let z = ap one_if (stays v isnt (cuts_cached e.cycle w (past_after e) q b.cuts)) in omega arith)
      ])
        where
          gone : (v : ℕ) → v ≡ w → (x : Bool) → is_number w (cached (cut_lines ++ past_after e) q) ≡ x → is_number v (cond x None (cached (cut_lines ++ past_after e) q)) ≡ false
          gone v is true h = refl
          gone v is false h = ap (λ (u : ℕ). is_number u (cached (cut_lines ++ past_after e) q)) is ∙ h

          cut_mine : 0 < cut_times q b.cuts → is_number w (cached (past_after e) q) ≡ true
          cut_mine some_cut = by_bool (is_number w (cached (past_after e) q)) refl
            where
              by_bool : (x : Bool) → is_number w (cached (past_after e) q) ≡ x → is_number w (cached (past_after e) q) ≡ true
              by_bool true h = h
              by_bool false h = let r = now.pulled w q in let y = ap one_if h in let k = ap (λ (x : Option OutBlock). cut_times q (cuts_in x)) is_out in absurd (omega arith)

          off : (v : ℕ) → v ≢ w → (x : Option ℕ) → is_number w x ≡ true → is_number v x ≡ false
          off v isnt x h = by_bool (is_number v x) refl
            where
              by_bool : (y : Bool) → is_number v x ≡ y → is_number v x ≡ false
              by_bool true k = absurd (isnt (same_numbers v w x k h))
              by_bool false k = k

          stays : (v : ℕ) → v ≢ w → ((cut_times q b.cuts ≡ 0) × (cached (cut_lines ++ past_after e) q ≡ cached (past_after e) q)) ⊎ ((0 < cut_times q b.cuts) × (cached (cut_lines ++ past_after e) q ≡ None))
              → is_number v (cached (last ∷ (cut_lines ++ past_after e)) q) ≡ is_number v (cached (past_after e) q)
          stays v isnt (inl r) = same (is_number w (cached (cut_lines ++ past_after e) q)) refl
            where
              same : (x : Bool) → is_number w (cached (cut_lines ++ past_after e) q) ≡ x → is_number v (cond x None (cached (cut_lines ++ past_after e) q)) ≡ is_number v (cached (past_after e) q)
              same true h = sym (off v isnt (cached (past_after e) q) (sym (ap (is_number w) r.1) ∙ h))
              same false h = ap (is_number v) r.1
          stays v isnt (inr r) = none_left (is_number w (cached (cut_lines ++ past_after e) q)) ∙ sym (off v isnt (cached (past_after e) q) (cut_mine r.0))
            where
              none_left : (x : Bool) → is_number v (cond x None (cached (cut_lines ++ past_after e) q)) ≡ false
              none_left true = refl
              none_left false = ap (is_number v) r.1

      owners : (q : ℕ) → q < length d.words → ((v : ℕ) → cut_times q (cuts_of (next.logs v)) ≡ 0) → get_or d.owners q None ≡ owner (past_after next) q
      owners q l z = subst (λ (k : List Line). get_or c.owners q None ≡ owner k q) past_is (elim (cuts_owner e.cycle w (past_after e) q b.cuts) [
        | inl r ↦ now.owned q l (λ v. elim (cases_eq v w) [
          | inl is ↦ ap (λ (u : ℕ). cut_times q (cuts_of (e.logs u))) is ∙ ap (λ (x : Option OutBlock). cut_times q (cuts_in x)) is_out ∙ r.0
          | inr isnt ↦ sym (ap (λ (k : List Entry). cut_times q (cuts_of k)) (log_else v isnt)) ∙ z v
        ]) ∙ sym r.1
        | inr r ↦ (
            let k = now.cuts w r.0 (subst (λ (x : Option OutBlock). In r.0 (cuts_in x)) (sym is_out) r.1) in
            let page = Rattle.sweep_laws.proofs.LivesChange.life_page r.0.page c.lives k.begin in
            let run = within_of q r.0.page r.0.pages r.2 in
            let pages = k.pages in
            let on : is_covered q (life_in r.0.page c.lives) ≡ true = Rattle.sweep_laws.proofs.LivesChange.is_in q (life_in r.0.page c.lives) (let x = run.0 in omega arith) (let x = run.1 in omega arith) in
            (kept_of c o).lives_fit.owner_is q l ∙ owner_of_life r.0.page q c.lives k.begin on ((kept_of c o).lives_fit.apart q) ∙ ap (λ (x : ℕ). let y : Option ℕ = Some x in y) page ∙ sym r.3)
      ])

      written : (life : Life) (x : CutOut) → In x b.cuts → life.page ≡ x.page → life.pages ≡ x.pages → life.class ≡ x.class → (begins life.page c.lives ≡ true) × IsLifeOf life (life_of c life.page)
      written life x h page pages class = let k = now.cuts w x (subst (λ (y : Option OutBlock). In x (cuts_in y)) (sym is_out) h) in (
        ap (λ (u : ℕ). begins u c.lives) page ∙ k.begin,
        record {
          pages = ap (λ (u : ℕ). (life_of c u).pages) page ∙ k.pages ∙ sym pages;
          class = ap (λ (u : ℕ). (life_of c u).class) page ∙ k.class ∙ sym class;
          count = ap (λ (u : ℕ). (life_of c u).count) page ∙ k.count ∙ ap count_for (sym class);
        },
      )

  -- a mark end begins the next cycle, while no block is out
  pub next_blocks : (marks : List (ℕ × ℕ)) → ((w : ℕ) → out_of (e.logs w) ≡ None) → ShowsBlocks (after_next c marks) (after_mark_end e marks)
  next_blocks marks none_out = record {
    lines = λ w. refl;
    named = λ w x h. absurd h;
    settled = λ w n h. absurd h;
    pulled = λ w p. now.pulled w p ∙ (λ i. times p (sym (hands w) i) + cut_times p (cuts_in (none_out w i)));
    none = λ w z. hands w ∙ now.none w (none_out w);
    size = λ w b z. absurd (some_none b (sym z));
    owned = λ p low z. now.owned p low (λ w. ap (λ (x : Option OutBlock). cut_times p (cuts_in x)) (none_out w));
    cuts = λ w x h. absurd h;
    lives = λ life h. let k = now.lives life h in (marked_begins marks life.page c.lives ∙ k.0, life_as c e now (after_next c marks) life (marked_span marks life.page c.lives) k.1);
    each = λ q z. elim (now.each q (sym (marked_begins marks q c.lives) ∙ z)) [
      | inl a ↦ inl a
      | inr k ↦ absurd (subst (λ (x : Option OutBlock). In k.1 (cuts_in x)) (none_out k.0) k.2)
    ];
  }
    where
      hands : (w : ℕ) → (hand_of (after_next c marks) w).pulled ≡ (hand_of c w).pulled
      hands w = elim (cases_lt w (length c.hands)) [
        | inl low ↦ ap (λ (h : HandState). h.pulled) (get_or-map forget_swept c.hands w no_hand no_hand low)
        | inr far ↦ ap (λ (h : HandState). h.pulled) (get_or_past (map forget_swept c.hands) w no_hand (let z = length-map c.hands forget_swept in omega arith) ∙ sym (get_or_past c.hands w no_hand far))
      ]
