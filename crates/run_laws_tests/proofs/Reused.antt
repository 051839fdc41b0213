-- A run by its steps: an object that no mark end marks, and another in the same page. In cycle 1 the span is swept and given
-- back, and its page is taken again.
use Rattle.std.proofs.Common.{◌≡◌, ◌≢◌, ℕ, ◌+◌, ◌*◌, ◌<◌, Bool, false, eqb, List, [], ◌∷◌, refl, sym, ◌∙◌, ap, subst, arith, ◌⊎◌, inl, inr}
use Rattle.std.proofs.lemmas.Bool.{cases_eq, ne_eqb}
use Rattle.page_bitmap.specs.declared.line.Line.{Line}
use Rattle.page_bitmap.specs.declared.line.Line.TheVariants.{Take, Give}
use Rattle.size_classes.specs.Classes.{pages_of, slot_of, objects_of}
use Rattle.page_alloc.specs.Lists.{In}
use Rattle.page_alloc.specs.Lives.{Life, life_of, open_lives}
use Rattle.page_alloc.specs.FreeRuns.{IsSpanSize, IsFirstFit}
use Rattle.page_alloc.proofs.Lives.{within-true}
use Rattle.span_state.specs.Bits.{count_below}
use Rattle.span_state.specs.declared.sweep.SweepNote.{SweepNote}
use Rattle.cycle_history.specs.declared.Answer.TheVariants.{Placed}
use Rattle.cycle_history.specs.Requests.{Marking}
use Rattle.cycle_history.specs.Objects.{Object}
use Rattle.sound_run.specs.Run.{count_for, Fits, IsJournal, Lasts}
use Rattle.cycle_history.proofs.Plain.{scavenged-roomy}
use Rattle.run_laws.specs.Lists.{ArePaired}
use Rattle.run_laws.specs.Lists.{begins_at}
use Rattle.worker_log.specs.declared.Entry.{Entry}
use Rattle.worker_log.specs.declared.Placing.{Placing}
use Rattle.worker_log.specs.declared.Sweeping.{Sweeping}
use Rattle.worker_log.specs.Logs.{placings, sweepings, refusals}
use Rattle.run_laws.specs.CycleSoFar.{CycleSoFar, past_after, with_objects}
use Rattle.run_laws.specs.ObjectFacts.{Objects, IsPlacing, IsRefusal, missed_by}
use Rattle.run_laws.specs.Facts.{Facts}
use Rattle.cycle_history.specs.Profile.{placed_by}
use Rattle.run_laws.specs.Reached.{Began, Reached}
use Rattle.run_laws.specs.Underway.{IsUnderway}
use Rattle.run_laws.specs.Steps.{put, after_sweep, after_allocate, after_line}
use Rattle.run_laws.proofs.Underway.{put_here, put_else, placings-swept, sweep-keeps}
use Rattle.run_laws.proofs.Steps.{allocate-keeps, take-adds, give-adds, fresh-underway}
use Rattle.run_laws.proofs.Whole.{underway-facts}
use Rattle.run_laws.proofs.Law.{cycle-law}
use Rattle.run_laws.proofs.Ends.{began-first, began-next}

abbrev never : Marking
never m id = false

abbrev none : ℕ → ℕ → Bool
none p k = false

abbrev no_entries : ℕ → List Entry
no_entries w = []

abbrev object : ℕ → ℕ → ℕ → Object
object id cycle life = record { id = id; proc = 0; cycle = cycle; need = record { class = 6; pages = 1; slot = 24; count = 341 }; answer = Placed (0xc000000000 + 8192 * 0 + 24 * 0); life = life; index = 0 }

abbrev at : ℕ → Placing
at number = record { page = 0; index = 0; number = number; class = 6 }

size : IsSpanSize 6 1
unfolding pages_of
size = ((λ two. ((omega arith, omega arith), refl)), λ less. absurd (omega arith))

fits : (id cycle life : ℕ) → Fits (object id cycle life).need
unfolding slot_of objects_of
fits id cycle life = record { some = omega arith; room = omega arith; slot = refl; count = refl }

few : 0 < count_for 6
unfolding objects_of
few = omega arith

lasts : (id cycle life : ℕ) → Lasts never (object id cycle life)
lasts id cycle life = record { first = refl; next = λ m h. cc }

-- ---- cycle 0

abbrev start0 : CycleSoFar
start0 = record { cycle = 0; before = []; lines = []; known = []; carried = none; marks = none; bits = none; logs = no_entries; news = []; notes = [] }

abbrev taken0 : CycleSoFar
taken0 = record (after_line start0 (Take 0 0 1 6)) { known = life_of 0 0 0 1 6 ∷ [] }

abbrev end0 : CycleSoFar
end0 = after_allocate taken0 0 (at 0)

abbrev waits0 : ℕ → Bool
waits0 p = begins_at p []

fit0 : IsFirstFit 512 [] 0 1
fit0 = record { here = record { inside = omega arith; free = λ p low high. record { owner = refl; cached = refl } }; least = λ q lt. absurd (omega arith) }

legal0 : IsJournal 512 512 (Take 0 0 1 6 ∷ [])
legal0 = ((size, fit0), tt, tt, record { cycle = λ block h. absurd h; cuts = tt })

under0 : IsUnderway 512 512 end0 waits0
under0 =
    let fresh = fresh-underway 512 512 start0 record { legal = tt; no_lines = refl; known = λ p. refl; no_entries = λ w. refl; as_before = λ p k. refl; marks_of_lives = λ p k on. cc } in
    let took = take-adds 512 512 start0 waits0 0 1 6 fresh record { legal = legal0; fresh = λ k. refl; new = refl } in
    allocate-keeps 512 512 taken0 waits0 0 (life_of 0 0 0 1 6) (at 0) took record {
      here = inl refl;
      is_in = record { page = refl; class = refl };
      number = refl;
      swept = refl;
      below = few;
      free = refl;
      least = λ j lt. absurd (omega arith);
      own = λ v b h. absurd h;
      left_full = λ b h. absurd h;
    }

-- what a log of one placing pairs with, where one life is open
one-placed : (id cycle life : ℕ) (past : List Line) (logs : ℕ → List Entry) → ((l : Life) → In l (open_lives past) → l.number ≡ life) → placings (logs 0) ≡ at life ∷ []
    → ((w : ℕ) → w ≢ 0 → placings (logs w) ≡ []) → (w : ℕ) → ArePaired (IsPlacing past) (placed_by w (object id cycle life ∷ [])) (placings (logs w))
one-placed id cycle life past logs numbered first others w = elim (cases_eq w 0) [
  | inl same ↦ (
      let pair : ArePaired (IsPlacing past) (placed_by 0 (object id cycle life ∷ [])) (at life ∷ []) = (record { life = λ l h page. numbered l h; index = refl; class = refl; address = refl }, tt) in
      rw same (rw first pair))
  | inr other ↦ (
      let e : eqb 0 w ≡ false = ne_eqb 0 w (λ q. other (sym q)) in
      rw (others w other, e) tt)
]

none-missed : (id cycle life : ℕ) (logs : ℕ → List Entry) → ((w : ℕ) → refusals (logs w) ≡ []) → (w : ℕ) → ArePaired IsRefusal (missed_by w (object id cycle life ∷ [])) (refusals (logs w))
none-missed id cycle life logs others w = elim (cases_eq w 0) [
  | inl same ↦ rw same (rw (others 0) tt)
  | inr other ↦ (let e : eqb 0 w ≡ false = ne_eqb 0 w (λ q. other (sym q)) in rw (others w, e) tt)
]

placings0 : (w : ℕ) → w ≢ 0 → placings (end0.logs w) ≡ []
placings0 w other = ap placings (put_else no_entries 0 w (end0.logs 0) other)

refusals0 : (w : ℕ) → refusals (end0.logs w) ≡ []
refusals0 w = elim (cases_eq w 0) [ inl same ↦ rw same refl | inr other ↦ ap refusals (put_else no_entries 0 w (end0.logs 0) other) ]

sweepings0 : (w : ℕ) → sweepings (end0.logs w) ≡ []
sweepings0 w = elim (cases_eq w 0) [ inl same ↦ rw same refl | inr other ↦ ap sweepings (put_else no_entries 0 w (end0.logs 0) other) ]

no_sweeps0 : (w : ℕ) (s : Sweeping) → In s (sweepings (end0.logs w)) → ⊥
no_sweeps0 w s h = let h' : In s [] = subst (λ (l : List Sweeping). In s l) (sweepings0 w) h in h'

abbrev whole0 : CycleSoFar
whole0 = with_objects end0 (object 0 0 0 ∷ []) []

objects0 : Objects never [] whole0
objects0 = record {
  now = λ o h. elim h [ inl is ↦ rw (sym is) refl | inr no_more ↦ absurd no_more ];
  behind = λ o b h i. absurd i;
  order = ((λ o h. absurd h), tt);
  lasts = λ o h. elim h [ inl is ↦ rw (sym is) (lasts 0 0 0) | inr no_more ↦ absurd no_more ];
  fits = λ o h p. elim h [ inl is ↦ rw (sym is) (fits 0 0 0) | inr no_more ↦ absurd no_more ];
  placed = one-placed 0 0 0 (past_after end0) end0.logs (λ l h. elim h [ inl one ↦ rw (sym one) refl | inr no_more ↦ absurd no_more ]) refl placings0;
  missed = none-missed 0 0 0 end0.logs refusals0;
  pages = λ o life h p here number. elim h [
    | inl is ↦ rw (sym is) (elim here [ inl one ↦ rw (sym one) refl | inr no_more ↦ absurd no_more ])
    | inr no_more ↦ absurd no_more
  ];
}

facts0 : Facts never 512 512 [] whole0
facts0 = underway-facts never 512 512 [] (object 0 0 0 ∷ []) [] end0 waits0 under0
    record { swept = λ p. refl; told = λ life here. (life, here, refl); there = λ known here. (known, here, refl, refl); some = λ life here. elim here [ inl one ↦ rw (sym one) (0, refl) | inr no_more ↦ absurd no_more ] }
    record { from = λ note h. absurd h; each = λ w s h. absurd (no_sweeps0 w s h); order = tt }
    record { right = λ life h. absurd h; only = λ page k on. cc }
    objects0 (scavenged-roomy 512 512 (past_after end0) (omega arith))

began1 : Began never 512 512 1 (Take 0 0 1 6 ∷ []) (object 0 0 0 ∷ []) [] end0.bits
began1 = began-next never 512 512 0 (Take 0 0 1 6 ∷ []) (object 0 0 0 ∷ []) [] end0.bits (cycle-law never 512 512 [] [] whole0 (began-first never 512 512 none) facts0)

-- ---- cycle 1

abbrev start1 : CycleSoFar
start1 = record { cycle = 1; before = Take 0 0 1 6 ∷ []; lines = []; known = life_of 0 0 0 1 6 ∷ []; carried = end0.bits; marks = none; bits = end0.bits; logs = no_entries; news = []; notes = [] }

abbrev waits1 : ℕ → Bool
waits1 p = begins_at p (open_lives (Take 0 0 1 6 ∷ []))

abbrev sweep1 : Sweeping
sweep1 = record { page = 0; pages = 1; kept = 0; freed = 1 }

abbrev swept1 : CycleSoFar
swept1 = after_sweep start1 0 (life_of 0 0 0 1 6) sweep1

abbrev given1 : CycleSoFar
given1 = record (after_line swept1 (Give 1 0 1)) { known = [] }

abbrev taken1 : CycleSoFar
taken1 = record (after_line given1 (Take 1 0 1 6)) { known = life_of 2 1 0 1 6 ∷ [] }

abbrev end1 : CycleSoFar
end1 = after_allocate taken1 0 (at 2)

abbrev waits1' : ℕ → Bool
waits1' = put waits1 0 false

under_swept1 : IsUnderway 512 512 swept1 waits1'
unfolding objects_of count_below
under_swept1 =
    let fresh = fresh-underway 512 512 start1 record { legal = began1.run.journal; no_lines = refl; known = λ p. refl; no_entries = λ w. refl; as_before = λ p k. refl; marks_of_lives = λ p k on. cc } in
    sweep-keeps 512 512 start1 waits1 0 (life_of 0 0 0 1 6) sweep1 fresh record { old = inl refl; waits_now = refl; page = refl; kept = refl; freed = refl }

no_placings1 : (v : ℕ) (b : Placing) → In b (placings (taken1.logs v)) → ⊥
no_placings1 v b h = let h' : In b [] = subst (λ (l : List Placing). In b l) (placings-swept no_entries 0 v sweep1) h in h'

legal_given1 : IsJournal 512 512 (Give 1 0 1 ∷ Take 0 0 1 6 ∷ [])
legal_given1 = ((life_of 0 0 0 1 6, inl refl, refl, refl), omega arith, legal0, record { cycle = λ block h. absurd h; cuts = tt })

fit1 : IsFirstFit 512 (Give 1 0 1 ∷ Take 0 0 1 6 ∷ []) 0 1
fit1 = record { here = record { inside = omega arith; free = λ p low high. record { owner = rw (within-true p 0 1 low high) refl; cached = refl } }; least = λ q lt. absurd (omega arith) }

legal1 : IsJournal 512 512 (Take 1 0 1 6 ∷ Give 1 0 1 ∷ Take 0 0 1 6 ∷ [])
legal1 = ((size, fit1), omega arith, legal_given1, record { cycle = λ block h. absurd h; cuts = tt })

under1 : IsUnderway 512 512 end1 waits1'
under1 =
    let gave = give-adds 512 512 swept1 waits1' (life_of 0 0 0 1 6) (life_of 0 0 0 1 6) under_swept1 record { legal = legal_given1; here = inl refl; old = omega arith; swept = refl; empty = λ k. refl } (inl refl) refl in
    let took = take-adds 512 512 given1 waits1' 0 1 6 gave record { legal = legal1; fresh = λ k. refl; new = refl } in
    allocate-keeps 512 512 taken1 waits1' 0 (life_of 2 1 0 1 6) (at 2) took record {
      here = inl refl;
      is_in = record { page = refl; class = refl };
      number = refl;
      swept = refl;
      below = few;
      free = refl;
      least = λ j lt. absurd (omega arith);
      own = λ v b h. absurd (no_placings1 v b h);
      left_full = λ b h. absurd (no_placings1 0 b h);
    }

abbrev note1 : SweepNote
note1 = record { cycle = 1; page = 0; kept = 0; freed = 1 }

abbrev whole1 : CycleSoFar
whole1 = with_objects end1 (object 1 1 2 ∷ []) (note1 ∷ [])

else1 : (w : ℕ) → w ≢ 0 → end1.logs w ≡ []
else1 w other = put_else taken1.logs 0 w (end1.logs 0) other ∙ put_else no_entries 0 w (swept1.logs 0) other

refusals1 : (w : ℕ) → refusals (end1.logs w) ≡ []
refusals1 w = elim (cases_eq w 0) [ inl same ↦ rw same refl | inr other ↦ ap refusals (else1 w other) ]

sweeps1 : (w : ℕ) (s : Sweeping) → In s (sweepings (end1.logs w)) → sweep1 ≡ s
sweeps1 w s h = elim (cases_eq w 0) [
  | inl same ↦ (let h' : (sweep1 ≡ s) ⊎ ⊥ = subst (λ (v : ℕ). In s (sweepings (end1.logs v))) same h in elim h' [ inl is ↦ is | inr no_more ↦ absurd no_more ])
  | inr other ↦ (let h' : In s [] = subst (λ (l : List Entry). In s (sweepings l)) (else1 w other) h in absurd h')
]

objects1 : Objects never (object 0 0 0 ∷ []) whole1
objects1 = record {
  now = λ o h. elim h [ inl is ↦ rw (sym is) refl | inr no_more ↦ absurd no_more ];
  behind = λ o b h i. elim h [ inl is ↦ elim i [ inl old ↦ rw (sym is, sym old) (omega arith) | inr no_more ↦ absurd no_more ] | inr no_more ↦ absurd no_more ];
  order = ((λ o h. absurd h), tt);
  lasts = λ o h. elim h [ inl is ↦ rw (sym is) (lasts 1 1 2) | inr no_more ↦ absurd no_more ];
  fits = λ o h p. elim h [ inl is ↦ rw (sym is) (fits 1 1 2) | inr no_more ↦ absurd no_more ];
  placed = one-placed 1 1 2 (past_after end1) end1.logs (λ l h. elim h [ inl one ↦ rw (sym one) refl | inr no_more ↦ absurd no_more ]) refl (λ w other. ap placings (else1 w other));
  missed = none-missed 1 1 2 end1.logs refusals1;
  pages = λ o life h p here number. elim h [
    | inl is ↦ rw (sym is) (elim here [ inl one ↦ rw (sym one) refl | inr no_more ↦ absurd no_more ])
    | inr no_more ↦ absurd no_more
  ];
}

facts1 : Facts never 512 512 (object 0 0 0 ∷ []) whole1
facts1 = underway-facts never 512 512 (object 0 0 0 ∷ []) (object 1 1 2 ∷ []) (note1 ∷ []) end1 waits1' under1
    record {
      swept = λ p. elim (cases_eq p 0) [
        | inl same ↦ put_here waits1 0 p false same
        | inr other ↦ (let e : eqb 0 p ≡ false = ne_eqb 0 p (λ q. other (sym q)) in put_else waits1 0 p false other ∙ rw e refl)
      ];
      told = λ life here. (life, here, refl);
      there = λ known here. (known, here, refl, refl);
      some = λ life here. elim here [ inl one ↦ rw (sym one) (0, refl) | inr no_more ↦ absurd no_more ];
    }
    record {
      from = λ note h. elim h [ inl is ↦ (0, sweep1, inl refl, rw (sym is) record { cycle = refl; page = refl; kept = refl; freed = refl }) | inr no_more ↦ absurd no_more ];
      each = λ w s h. (note1, inl refl, rw (sym (sweeps1 w s h)) record { cycle = refl; page = refl; kept = refl; freed = refl });
      order = ((λ n h. absurd h), tt);
    }
    record { right = λ life h. record { shown = λ o ho p mark. cc; from = λ k on. cc }; only = λ page k on. cc }
    objects1 (scavenged-roomy 512 512 (past_after end1) (omega arith))

reached1 : Reached never 512 512 1 (Take 1 0 1 6 ∷ Give 1 0 1 ∷ Take 0 0 1 6 ∷ []) (object 1 1 2 ∷ object 0 0 0 ∷ []) (note1 ∷ []) end1.bits
reached1 = cycle-law never 512 512 (object 0 0 0 ∷ []) [] whole1 began1 facts1
