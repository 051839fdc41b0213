-- Rule 7, by what the ledger tells.
use Rattle.std.specs.Prelude.{MatchBool}
use Rattle.std.proofs.Common.{◌≡◌, ℕ, zero, suc, ◌+◌, ◌-◌, ◌<◌, ◌≤◌, Bool, true, false, leb, List, [], ◌∷◌, take, length, get_or, Option, Some, None, refl, sym, ◌∙◌, ap, subst, arith, ◌⊎◌, inl, inr}
use Rattle.std.specs.List.{slice_get}
use Rattle.std.proofs.lemmas.Bool.{cases_lt, cases_eq, cases_Bool, leb-false}
use Rattle.std.proofs.lemmas.List.{take_all, length-reverse}
use Rattle.std.proofs.lemmas.Option.{slice_get_within, slice_get-get_or, get_or_from_slice_get}
use Rattle.page_bitmap.specs.declared.line.Line.{Line}
use Rattle.page_bitmap.specs.declared.line.Line.TheVariants.{Take, Miss, Give, Scav, Pull, Cut, Drop}
use Rattle.page_alloc.specs.Lists.{In, AllApart}
use Rattle.page_alloc.specs.Lives.{Life, life_of, open_lives}
use Rattle.page_alloc.specs.Journal.{at_end, cycle_of, past_of}
use Rattle.page_alloc.proofs.Lives.{from_others, same_page-for}
use Rattle.span_state.specs.declared.sweep.SweepNote.{SweepNote}
use Rattle.trace_reader.specs.declared.trace.Trace.{Trace}
use Rattle.cycle_history.specs.declared.Report.{Report}
use Rattle.cycle_history.specs.Requests.{caching_procs, last_cycle, marked_by, region_of}
use Rattle.cycle_history.specs.Objects.{Object, freed, kept}
use Rattle.cycle_history.specs.Orders.{IsSweepBefore}
use Rattle.cycle_history.specs.Sweeps.{AreSwept, GivesWhenEmpty, IsNote, IsOpenAfter, IsUsedAgain}
use Rattle.cycle_history.specs.Sound.{past_in}
use Rattle.sound_run.proofs.Live.{legal-at_end}
use Rattle.report_check.specs.Lines.{IsLeast, end_of, sweep_at}
use Rattle.report_check.specs.Closing.{BreaksSweeps, IsOutOfOrder, IsRightSweep, MayGive}
use Rattle.report_check.specs.declared.items.Item.{Item}
use Rattle.report_check.specs.declared.lives.OpenLife.{OpenLife}
use Rattle.report_check.specs.declared.ledger.Ledger.{Ledger}
use Rattle.report_check.specs.Lives.{AreLives, entry_of}
use Rattle.report_check.specs.Items.{objects_of}
use Rattle.report_check.specs.Known.{AreKnownItems}
use Rattle.report_check.specs.Tallies.{freed_in, kept_in, tally_at}
use Rattle.report_check.specs.Ledgers.{TellsMarkEnd}
use Rattle.report_check.specs.Sweeping.{AllMayGive, AllSwept, AreRightTo, CanGive, HasNote, IsDisorder, IsFirstWrong, LacksSweep}
use Rattle.report_check.specs.SaidSweeps.{IsSettledLife, SaysRight}
use Rattle.report_check.proofs.Settled.{table-has}
use Rattle.report_check.proofs.Clearing.{life-inside}
use Rattle.report_check.proofs.Keyed.{in-get}
use Rattle.report_check.proofs.Upto.{later, legal-front, line-more}

pub match-of : (b : Bool) (P : Type 0) → ((b ≡ true) → P) → (P → b ≡ true) → MatchBool b P (¬ P)
match-of true P to from = to refl
match-of false P to from = λ p. (let e : false ≡ true = from p in cc)

-- ---- the lives of a table

none-some : {X : Type 0} {x : X} → None ≡ Some x → ⊥
none-some h = cc

some-same : {X : Type 0} {x y : X} → Some x ≡ Some y → x ≡ y
some-same h = cc

abbrev life_in : OpenLife → Life
life_in life = life_of life.number life.cycle life.page life.pages life.class

-- an entry is that of an open life
pub entry-open : (region : ℕ) (past : List Line) (lives : List (Option OpenLife)) (page : ℕ) (life : OpenLife) → AreLives region past lives → get_or lives page None ≡ Some life → (life.page ≡ page) × In (life_in life) (open_lives past)
entry-open region past lives page life are here =
    let begins = are.pages page life here in
    (begins, (are.all (life_in life)).1 (subst (λ (p : ℕ). get_or lives p None ≡ Some life) (sym begins) here))

pub open-entry : (region : ℕ) (past : List Line) (lives : List (Option OpenLife)) (life : Life) → AreLives region past lives → In life (open_lives past) → get_or lives life.page None ≡ Some (entry_of life)
open-entry region past lives life are among = (are.all life).0 among

-- ---- a sweep that the ledger says is right

-- as far as its counts and its life go
pub says-right : (t : Trace) (report : Report) (items : List Item) (lasts : List ℕ) (c : ℕ) (ledger : Ledger) (note : SweepNote) → AreKnownItems t report items lasts → TellsMarkEnd t report (objects_of items) c ledger → 1 ≤ c → c ≤ last_cycle t → note.cycle ≡ c → SaysRight ledger note
    → IsRightSweep (marked_by t) (last_cycle t) report (objects_of items) note
says-right t report items lasts c ledger note known tells some last cycle says =
    let k = c - 1 in
    let e : suc k ≡ c = omega arith in
    let life = life_in says.life in
    let open' = entry-open (region_of t) (at_end k (past_in report)) ledger.before.lives.items note.page says.life tells.before says.here in
    let inside = life-inside (past_in report) k life open'.1 in
    let long = length-reverse report.journal in
    record {
      before = k;
      life = life;
      inside = omega arith;
      alive = open'.1;
      counts = record {
        cycle = cycle ∙ sym e;
        page = sym open'.0;
        kept = says.kept_is ∙ (ap (λ (n : ℕ). kept_in (tally_at ledger.tallies.items says.life.number) n) cycle ∙ (tells.kept_is life.number (omega arith) ∙ ap (λ (n : ℕ). kept (marked_by t) (objects_of items) n life.number) (sym e)));
        freed = says.freed_is ∙ (ap (λ (n : ℕ). freed_in (tally_at ledger.tallies.items says.life.number) n) cycle ∙ (tells.freed_is life.number (omega arith) ∙ ap (λ (n : ℕ). freed (marked_by t) (objects_of items) n life.number) (sym e)));
      };
      empty = λ none. (
          let zero' : note.kept ≡ 0 = says.kept_is ∙ (ap (λ (n : ℕ). kept_in (tally_at ledger.tallies.items says.life.number) n) cycle ∙ (tells.kept_is life.number (omega arith) ∙ (ap (λ (n : ℕ). kept (marked_by t) (objects_of items) n life.number) (sym e) ∙ none))) in
          elim (says.settled zero') [
            | inl used ↦ inr (subst (λ (n : ℕ). IsUsedAgain (objects_of items) n life) (sym e) ((tells.used_is life (omega arith)).0 (used ∙ cycle)))
            | inr gone ↦ inl (λ still. (
                let still' : In life (open_lives (at_end c (past_in report))) = subst (λ (n : ℕ). In life (open_lives (at_end n (past_in report)))) e still in
                let holds = open-entry (region_of t) (at_end c (past_in report)) ledger.after.lives.items life tells.after still' in
                gone (record { life = entry_of life; here = holds; its = refl })))
          ]);
    }

-- and a right one the ledger says is right
pub right-says : (t : Trace) (report : Report) (items : List Item) (lasts : List ℕ) (c : ℕ) (ledger : Ledger) (note : SweepNote) → AreKnownItems t report items lasts → TellsMarkEnd t report (objects_of items) c ledger → 1 ≤ c → note.cycle ≡ c
    → IsRightSweep (marked_by t) (last_cycle t) report (objects_of items) note → SaysRight ledger note
right-says t report items lasts c ledger note known tells some cycle right =
    let is = right.counts in
    let k = right.before in
    let same : suc k ≡ c = sym is.cycle ∙ cycle in
    let k' : k ≡ c - 1 = omega arith in
    let life = right.life in
    let alive : In life (open_lives (at_end (c - 1) (past_in report))) = subst (λ (n : ℕ). In life (open_lives (at_end n (past_in report)))) k' right.alive in
    let inside = life-inside (past_in report) k life right.alive in
    let long = length-reverse report.journal in
    let holds = open-entry (region_of t) (at_end (c - 1) (past_in report)) ledger.before.lives.items life tells.before alive in
    let kept-e : kept (marked_by t) (objects_of items) (suc k) life.number ≡ kept_in (tally_at ledger.tallies.items life.number) note.cycle =
    ap (λ (n : ℕ). kept (marked_by t) (objects_of items) n life.number) same ∙ (sym (tells.kept_is life.number (omega arith)) ∙ ap (λ (n : ℕ). kept_in (tally_at ledger.tallies.items life.number) n) (sym cycle)) in
    let freed-e : freed (marked_by t) (objects_of items) (suc k) life.number ≡ freed_in (tally_at ledger.tallies.items life.number) note.cycle =
    ap (λ (n : ℕ). freed (marked_by t) (objects_of items) n life.number) same ∙ (sym (tells.freed_is life.number (omega arith)) ∙ ap (λ (n : ℕ). freed_in (tally_at ledger.tallies.items life.number) n) (sym cycle)) in
    record {
      life = entry_of life;
      here = subst (λ (p : ℕ). get_or ledger.before.lives.items p None ≡ Some (entry_of life)) (sym is.page) holds;
      kept_is = is.kept ∙ kept-e;
      freed_is = is.freed ∙ freed-e;
      settled = λ none. elim (right.empty (sym is.kept ∙ none)) [
        | inl gone ↦ inr (λ has. gone (
            let back = table-has (region_of t) (past_in report) ledger.after.lives.items life life.number c k tells.after right.alive refl has in
            subst (λ (n : ℕ). In life (open_lives (at_end n (past_in report)))) (sym same) back))
        | inr used ↦ inl ((tells.used_is life (omega arith)).1 (subst (λ (n : ℕ). IsUsedAgain (objects_of items) n life) same used) ∙ sym cycle)
      ];
    }

-- what the counts and the life's end say together
pub right-match : (ledger : Ledger) (note : SweepNote) (life : OpenLife) (b : Bool) → get_or ledger.before.lives.items note.page None ≡ Some life → note.kept ≡ kept_in (tally_at ledger.tallies.items life.number) note.cycle
    → note.freed ≡ freed_in (tally_at ledger.tallies.items life.number) note.cycle → note.kept ≡ 0 → MatchBool b (IsSettledLife ledger life note.cycle) (¬ IsSettledLife ledger life note.cycle) → MatchBool b (SaysRight ledger note) (¬ SaysRight ledger note)
right-match ledger note life true here kept-is freed-is none is = record { life = life; here = here; kept_is = kept-is; freed_is = freed-is; settled = λ z. is }
right-match ledger note life false here kept-is freed-is none isnt = λ says. (
    let same : says.life ≡ life = some-same (sym says.here ∙ here) in
    isnt (subst (λ (l : OpenLife). IsSettledLife ledger l note.cycle) same (says.settled none)))

pub may-give : (b : Bool) (lives : List (Option OpenLife)) (sweeps : List SweepNote) (cycle page : ℕ) (life : OpenLife) → get_or lives page None ≡ Some life → life.cycle < cycle
    → MatchBool b (HasNote (λ note. true ≡ true → note.kept ≡ 0) sweeps cycle page) (¬ HasNote (λ note. true ≡ true → note.kept ≡ 0) sweeps cycle page) → MatchBool b (CanGive lives sweeps cycle page) (¬ CanGive lives sweeps cycle page)
may-give true lives sweeps cycle page life here older has = record { life = life; here = here; older = older; emptied = (has.0, has.1, has.2, has.3, has.4 refl) }
may-give false lives sweeps cycle page life here older hasnt = λ can. hasnt (let e = can.emptied in (e.0, e.1, e.2, e.3, λ z. e.4))

-- ---- Gives

-- the table and the sweeps tell whether a Give may be
pub can-may : (t : Trace) (report : Report) (lives : List (Option OpenLife)) (n cycle page : ℕ) → AreLives (region_of t) (past_of (take n report.journal)) lives → CanGive lives report.sweeps cycle page → MayGive report n cycle page
can-may t report lives n cycle page are can =
    let o = entry-open (region_of t) (past_of (take n report.journal)) lives page can.life are can.here in
    let e = can.emptied in
    record { life = life_in can.life; alive = o.1; its = o.0; older = can.older; note = e.0; printed = e.1; swept = e.2; here = e.3; empty = e.4 }

pub may-can : (t : Trace) (report : Report) (lives : List (Option OpenLife)) (n cycle page : ℕ) → AreLives (region_of t) (past_of (take n report.journal)) lives → MayGive report n cycle page → CanGive lives report.sweeps cycle page
may-can t report lives n cycle page are may =
    let holds = open-entry (region_of t) (past_of (take n report.journal)) lives may.life are may.alive in
    record {
      life = entry_of may.life;
      here = subst (λ (p : ℕ). get_or lives p None ≡ Some (entry_of may.life)) may.its holds;
      older = may.older;
      emptied = (may.note, may.printed, may.swept, may.here, may.empty);
    }

-- a Give that may not be is the least line, where all before may
pub gives-fault : (t : Trace) (report : Report) (objects : List Object) (n cycle page pages : ℕ) → slice_get report.journal n ≡ Some (Give cycle page pages) → ¬ MayGive report n cycle page
    → ((k c p q : ℕ) → k < n → slice_get report.journal k ≡ Some (Give c p q) → MayGive report k c p) → IsLeast (BreaksSweeps (marked_by t) (last_cycle t) report objects) (length report.answers + n + 1)
gives-fault t report objects n cycle page pages at wrong before = record {
  here = inl (n, record { cycle = cycle; page = page; pages = pages; printed = at; wrong = wrong; stands = refl });
  least = λ m less b. elim b [
    | inl w ↦ (let s = w.1.stands in w.1.wrong (before w.0 w.1.cycle w.1.page w.1.pages (omega arith) w.1.printed))
    | inr rest ↦ (
        let inside = slice_get_within report.journal n (Give cycle page pages) at in
        elim rest [
          | inl w ↦ (let s = w.1.stands in absurd (omega arith))
          | inr w ↦ (let s = w.3 in absurd (omega arith))
        ])
  ];
}

-- ---- sweeps in order

pub before-trans : (a b c : SweepNote) → IsSweepBefore a b → IsSweepBefore b c → IsSweepBefore a c
before-trans a b c ab bc = elim ab [
  | inl lt ↦ elim bc [ inl lt' ↦ inl (omega arith) | inr eq ↦ (let e = eq.0 in inl (omega arith)) ]
  | inr eq ↦ elim bc [ inl lt' ↦ (let e = eq.0 in inl (omega arith)) | inr eq' ↦ (let l = eq.1 in let l' = eq'.1 in inr (eq.0 ∙ eq'.0, omega arith)) ]
]

abbrev pub InOrderTo : List SweepNote → ℕ → Type 0
InOrderTo sweeps n = (j k : ℕ) (earlier note : SweepNote) → j < k → k < n → slice_get sweeps j ≡ Some earlier → slice_get sweeps k ≡ Some note → IsSweepBefore earlier note

pub order-one : (sweeps : List SweepNote) → InOrderTo sweeps 1
order-one sweeps j k a b lt less ia kb = absurd (omega arith)

pub order-more : (sweeps : List SweepNote) (n : ℕ) (a b : SweepNote) → 1 ≤ n → slice_get sweeps (n - 1) ≡ Some a → slice_get sweeps n ≡ Some b → IsSweepBefore a b → InOrderTo sweeps n → InOrderTo sweeps (n + 1)
order-more sweeps n a b some ia nb ab are j k x y lt less jx ky = elim (cases_eq k n) [
  | inr other ↦ are j k x y lt (omega arith) jx ky
  | inl same ↦ (
      let e : y ≡ b = some-same (sym (subst (λ (i : ℕ). slice_get sweeps i ≡ Some y) same ky) ∙ nb) in
      elim (cases_eq j (n - 1)) [
        | inl last ↦ (
            let f : x ≡ a = some-same (sym (subst (λ (i : ℕ). slice_get sweeps i ≡ Some x) last jx) ∙ ia) in
            subst (λ (z : SweepNote). IsSweepBefore z y) (sym f) (subst (λ (z : SweepNote). IsSweepBefore a z) (sym e) ab))
        | inr early ↦ subst (λ (z : SweepNote). IsSweepBefore x z) (sym e) (before-trans x a b (are j (n - 1) x a (omega arith) (omega arith) jx ia) ab)
      ])
]

pub disorder-at : (sweeps : List SweepNote) (n : ℕ) (a b : SweepNote) → 1 ≤ n → n ≤ length sweeps → slice_get sweeps (n - 1) ≡ Some a → slice_get sweeps n ≡ Some b → ¬ IsSweepBefore a b → InOrderTo sweeps n → IsDisorder sweeps n
disorder-at sweeps n a b some le ia nb off are = record {
  few = le;
  order = are;
  wrong = λ note at. (
      let e : note ≡ b = some-same (sym at ∙ nb) in
      record { place = n - 1; earlier = a; among = ia; before = omega arith; wrong = subst (λ (z : SweepNote). ¬ IsSweepBefore a z) (sym e) off });
}

pub order-all : (sweeps : List SweepNote) (n : ℕ) → length sweeps ≤ n → InOrderTo sweeps n → IsDisorder sweeps (length sweeps)
order-all sweeps n all are = record {
  few = omega arith;
  order = λ j k a b lt less ia kb. are j k a b lt (omega arith) ia kb;
  wrong = λ note at. absurd (let w = slice_get_within sweeps (length sweeps) note at in omega arith);
}

-- sweeps in order never fall in their cycles
pub cycles-order : (sweeps : List SweepNote) (end j k : ℕ) (a b : SweepNote) → InOrderTo sweeps end → j ≤ k → k < end → slice_get sweeps j ≡ Some a → slice_get sweeps k ≡ Some b → a.cycle ≤ b.cycle
cycles-order sweeps end j k a b are le less ia kb = elim (cases_eq j k) [
  | inl same ↦ (let e : a ≡ b = some-same (sym (subst (λ (i : ℕ). slice_get sweeps i ≡ Some a) same ia) ∙ kb) in let c = ap (λ (x : SweepNote). x.cycle) e in omega arith)
  | inr other ↦ elim (are j k a b (omega arith) less ia kb) [ inl lt ↦ omega arith | inr eq ↦ (let e = eq.0 in omega arith) ]
]

-- ---- the rule

-- the first wrong sweep is the least line, where all Gives may be
pub sweep-fault : (t : Trace) (report : Report) (objects : List Object) (n : ℕ) → AllMayGive report → IsFirstWrong t report objects n → IsLeast (BreaksSweeps (marked_by t) (last_cycle t) report objects) (sweep_at report n)
sweep-fault t report objects n gives is = record {
  here = inr (inl (n, record { note = is.note; printed = is.here; wrong = is.wrong; stands = refl }));
  least = λ m less b. elim b [
    | inl w ↦ w.1.wrong (gives w.0 w.1.cycle w.1.page w.1.pages w.1.printed)
    | inr rest ↦ elim rest [
      | inl w ↦ (
          let s = w.1.stands in
          elim w.1.wrong [
            | inl off ↦ off (is.before.right w.0 w.1.note (omega arith) w.1.printed)
            | inr out ↦ out.wrong (is.before.order out.place w.0 out.earlier w.1.note out.before (omega arith) out.among w.1.printed)
          ])
      | inr w ↦ (let s = w.3 in let inside = slice_get_within report.sweeps n is.note is.here in absurd (omega arith))
    ]
  ];
}

-- and `end` is, where all sweeps that are there are right
pub end-fault : (t : Trace) (report : Report) (objects : List Object) → AllMayGive report → AreRightTo t report objects (length report.sweeps) → LacksSweep t report → IsLeast (BreaksSweeps (marked_by t) (last_cycle t) report objects) (end_of report)
end-fault t report objects gives right lacks = record {
  here = inr (inr (lacks.0, lacks.1, lacks.2, refl));
  least = λ m less b. elim b [
    | inl w ↦ w.1.wrong (gives w.0 w.1.cycle w.1.page w.1.pages w.1.printed)
    | inr rest ↦ elim rest [
      | inl w ↦ (
          let inside = slice_get_within report.sweeps w.0 w.1.note w.1.printed in
          elim w.1.wrong [
            | inl off ↦ off (right.right w.0 w.1.note inside w.1.printed)
            | inr out ↦ out.wrong (right.order out.place w.0 out.earlier w.1.note out.before inside out.among w.1.printed)
          ])
      | inr w ↦ (let s = w.3 in absurd (omega arith))
    ]
  ];
}

-- a life of an earlier cycle that is open later was open at the end of that cycle
open-back : (m : ℕ) (past : List Line) (life : Life) → life.cycle ≤ m → In life (open_lives past) → In life (open_lives (at_end m past))
open-back m [] life le among = among
open-back m (line ∷ past) life le among = elim (cases_Bool (leb (cycle_of line) m)) [
  | inl is ↦ rw is among
  | inr isnt ↦ rw isnt (open-back m past life le (behind line past life m le isnt among))
]
  where
    behind : (line : Line) (past : List Line) (life : Life) (m : ℕ) → life.cycle ≤ m → leb (cycle_of line) m ≡ false → In life (open_lives (line ∷ past)) → In life (open_lives past)
    behind (Take cycle page pages class) past life m le off among = elim among [
      | inl here ↦ (let c : cycle ≡ life.cycle = ap (λ (l : Life). l.cycle) here in let lt = leb-false cycle m off in absurd (omega arith))
      | inr there ↦ there
    ]
    behind (Miss cycle pages class) past life m le off among = among
    behind (Give cycle page pages) past life m le off among = (from_others page (open_lives past) life among).0
    behind (Scav cycle page pages) past life m le off among = among
    behind (Pull cycle proc page pages) past life m le off among = among
    behind (Cut cycle proc page pages class) past life m le off among = elim among [
      | inl here ↦ (let c : cycle ≡ life.cycle = ap (λ (l : Life). l.cycle) here in let lt = leb-false cycle m off in absurd (omega arith))
      | inr there ↦ there
    ]
    behind (Drop cycle proc page pages) past life m le off among = among

-- the end of an earlier cycle, by the lines before one
front-end : (t : Trace) (report : Report) (items : List Item) (lasts : List ℕ) (n m : ℕ) (d : Line) → AreKnownItems t report items lasts → n < length report.journal → m < cycle_of (get_or report.journal n d) → at_end m (past_in report) ≡ at_end m (past_of (take n report.journal))
front-end t report items lasts n m d known lt behind =
    let k = length report.journal - n - 1 in
    let size : (n + k) + 1 ≡ length report.journal = omega arith in
    let l = later (caching_procs t) (region_of t) t.header.goal report.journal n k m d (omega arith) known.journal.legal behind in
    let whole : take ((n + k) + 1) report.journal ≡ report.journal = take_all ((n + k) + 1) report.journal (omega arith) in
    ap (λ (js : List Line). at_end m (past_of js)) (sym whole) ∙ l.1

-- a Give's life kept nothing
given-empty : (t : Trace) (report : Report) (items : List Item) (lasts : List ℕ) (n cycle page pages : ℕ) (life : Life) → AreKnownItems t report items lasts → AllMayGive report → AreRightTo t report (objects_of items) (length report.sweeps)
    → slice_get report.journal n ≡ Some (Give cycle page pages) → In life (open_lives (past_of (take n report.journal))) → life.page ≡ page → (life.cycle < cycle) × (kept (marked_by t) (objects_of items) cycle life.number ≡ 0)
given-empty t report items lasts n cycle page pages life known gives right at among begins =
    let may = gives n cycle page pages at in
    let inside = slice_get_within report.journal n (Give cycle page pages) at in
    let legal = legal-front (caching_procs t) (region_of t) t.header.goal report.journal n (omega arith) known.journal.legal in
    let same : may.life ≡ life = same_page-for (caching_procs t) (region_of t) t.header.goal (past_of (take n report.journal)) may.life life legal may.alive among (may.its ∙ sym begins) in
    let older : life.cycle < cycle = (let o = may.older in let c = ap (λ (l : Life). l.cycle) same in omega arith) in
    let g = in-get report.sweeps may.note may.printed in
    let r = right.right g.0 may.note (slice_get_within report.sweeps g.0 may.note g.1) g.1 in
    let c : suc r.before ≡ cycle = sym r.counts.cycle ∙ may.swept in
    let e : get_or report.journal n (Give cycle page pages) ≡ Give cycle page pages = get_or_from_slice_get report.journal n (Give cycle page pages) (Give cycle page pages) at in
    let line : cycle_of (get_or report.journal n (Give cycle page pages)) ≡ cycle = ap cycle_of e in
    let front = front-end t report items lasts n r.before (Give cycle page pages) known inside (omega arith) in
    let there : In life (open_lives (at_end r.before (past_in report))) = subst (λ (p : List Line). In life (open_lives p)) (sym front) (open-back r.before (past_of (take n report.journal)) life (omega arith) among) in
    let one : r.life ≡ life = same_page-for (caching_procs t) (region_of t) t.header.goal (at_end r.before (past_in report)) r.life life (legal-at_end (caching_procs t) (region_of t) t.header.goal r.before (past_in report) known.journal.legal) r.alive there
    (sym r.counts.page ∙ (may.here ∙ sym begins)) in (
      older,
      ap (λ (k : ℕ). kept (marked_by t) (objects_of items) k life.number) (sym c) ∙ (ap (λ (l : Life). kept (marked_by t) (objects_of items) (suc r.before) l.number) (sym one) ∙ (sym r.counts.kept ∙ may.empty)),
    )

-- so of all Gives
gives-front : (t : Trace) (report : Report) (items : List Item) (lasts : List ℕ) (n : ℕ) → AreKnownItems t report items lasts → AllMayGive report → AreRightTo t report (objects_of items) (length report.sweeps) → n ≤ length report.journal
    → GivesWhenEmpty (marked_by t) (objects_of items) (past_of (take n report.journal))
gives-front t report items lasts zero known gives right le = tt
gives-front t report items lasts (suc n) known gives right le =
    let rest = gives-front t report items lasts n known gives right (omega arith) in
    let d = Take 0 0 0 0 in
    let at : slice_get report.journal n ≡ Some (get_or report.journal n d) = slice_get-get_or report.journal n d (omega arith) in
    let e : suc n ≡ n + 1 = omega arith in
    let more : past_of (take (suc n) report.journal) ≡ get_or report.journal n d ∷ past_of (take n report.journal) = ap (λ (k : ℕ). past_of (take k report.journal)) e ∙ line-more report.journal n d (omega arith) in
    subst (λ (p : List Line). GivesWhenEmpty (marked_by t) (objects_of items) p) (sym more) (one (get_or report.journal n d) at rest)
  where
    one : (line : Line) → slice_get report.journal n ≡ Some line → GivesWhenEmpty (marked_by t) (objects_of items) (past_of (take n report.journal)) → GivesWhenEmpty (marked_by t) (objects_of items) (line ∷ past_of (take n report.journal))
    one (Take cycle page pages class) at rest = rest
    one (Miss cycle pages class) at rest = rest
    one (Give cycle page pages) at rest = (λ life among begins. given-empty t report items lasts n cycle page pages life known gives right at among begins, rest)
    one (Scav cycle page pages) at rest = rest
    one (Pull cycle proc page pages) at rest = rest
    one (Cut cycle proc page pages class) at rest = rest
    one (Drop cycle proc page pages) at rest = rest

apart-from : (R : SweepNote → SweepNote → Type 0) (xs : List SweepNote) → ((j k : ℕ) (a b : SweepNote) → j < k → slice_get xs j ≡ Some a → slice_get xs k ≡ Some b → R a b) → AllApart R xs
apart-from R [] all = tt
apart-from R (x ∷ xs) all = (
  λ y among. (let g = in-get xs y among in all 0 (suc g.0) x y (omega arith) refl g.1),
  apart-from R xs (λ j k a b lt ia kb. all (suc j) (suc k) a b (omega arith) ia kb),
)

pub swept-all : (t : Trace) (report : Report) (items : List Item) (lasts : List ℕ) → AreKnownItems t report items lasts → AllMayGive report → AreRightTo t report (objects_of items) (length report.sweeps) → AllSwept t report
    → AreSwept (marked_by t) (last_cycle t) (past_in report) (objects_of items) report.sweeps
swept-all t report items lasts known gives right all = record {
  order = apart-from IsSweepBefore report.sweeps (λ j k a b lt ia kb. right.order j k a b lt (slice_get_within report.sweeps k b kb) ia kb);
  each = λ m life lt alive. (let n = noted m life lt alive in (n.0, n.1, n.2));
  no_other = λ note among. (
      let g = in-get report.sweeps note among in
      let r = right.right g.0 note (slice_get_within report.sweeps g.0 note g.1) g.1 in
      (r.before, r.life, r.inside, r.alive, r.counts));
  gives = subst (λ (js : List Line). GivesWhenEmpty (marked_by t) (objects_of items) (past_of js)) (take_all (length report.journal) report.journal (omega arith)) (gives-front t report items lasts (length report.journal) known gives right (omega arith));
  empty = λ m life lt alive none. (let n = noted m life lt alive in n.3 none);
}
  where
    -- a life's sweep, and that it is right
    noted : (m : ℕ) (life : Life) → m < last_cycle t → IsOpenAfter (past_in report) m life
        → (note : SweepNote) × In note report.sweeps × IsNote (marked_by t) (objects_of items) (suc m) life note
        × (kept (marked_by t) (objects_of items) (suc m) life.number ≡ 0 → (¬ IsOpenAfter (past_in report) (suc m) life) ⊎ IsUsedAgain (objects_of items) (suc m) life)
    noted m life lt alive =
        let has = all m life lt alive in
        let note = has.0 in
        let g = in-get report.sweeps note has.1 in
        let r = right.right g.0 note (slice_get_within report.sweeps g.0 note g.1) g.1 in
        let c : suc r.before ≡ suc m = sym r.counts.cycle ∙ has.2 in
        let e : r.before ≡ m = omega arith in
        let there : In r.life (open_lives (at_end m (past_in report))) = subst (λ (k : ℕ). In r.life (open_lives (at_end k (past_in report)))) e r.alive in
        let one : r.life ≡ life = same_page-for (caching_procs t) (region_of t) t.header.goal (at_end m (past_in report)) r.life life (legal-at_end (caching_procs t) (region_of t) t.header.goal m (past_in report) known.journal.legal) there alive (sym r.counts.page ∙ has.3) in
        let counts : IsNote (marked_by t) (objects_of items) (suc m) life note = subst (λ (k : ℕ). IsNote (marked_by t) (objects_of items) (suc k) life note) e (subst (λ (l : Life). IsNote (marked_by t) (objects_of items) (suc r.before) l note) one r.counts) in
        let empty : kept (marked_by t) (objects_of items) (suc m) life.number ≡ 0 → (¬ IsOpenAfter (past_in report) (suc m) life) ⊎ IsUsedAgain (objects_of items) (suc m) life =
        subst (λ (k : ℕ). kept (marked_by t) (objects_of items) (suc k) life.number ≡ 0 → (¬ IsOpenAfter (past_in report) (suc k) life) ⊎ IsUsedAgain (objects_of items) (suc k) life) e
        (subst (λ (l : Life). kept (marked_by t) (objects_of items) (suc r.before) l.number ≡ 0 → (¬ IsOpenAfter (past_in report) (suc r.before) l) ⊎ IsUsedAgain (objects_of items) (suc r.before) l) one r.empty) in
        (note, has.1, counts, empty)

-- ---- steps of the loops

match-true : (b : Bool) (P Q : Type 0) → b ≡ true → MatchBool b P Q → P
match-true true P Q e m = m
match-true false P Q e m = cc

match-false : (b : Bool) (P Q : Type 0) → b ≡ false → MatchBool b P Q → Q
match-false false P Q e m = m
match-false true P Q e m = cc

pub on-true : (b : Bool) (P Q : Type 0) → b ≡ true → MatchBool b P Q → P
on-true b P Q e m = match-true b P Q e m

pub on-false : (b : Bool) (P Q : Type 0) → b ≡ false → MatchBool b P Q → Q
on-false b P Q e m = match-false b P Q e m

pub gives-more : (t : Trace) (report : Report) (lives : List (Option OpenLife)) (n : ℕ) (line : Line) → AreLives (region_of t) (past_of (take n report.journal)) lives → slice_get report.journal n ≡ Some line
    → ((c p q : ℕ) → line ≡ Give c p q → CanGive lives report.sweeps c p) → ((k c p q : ℕ) → k < n → slice_get report.journal k ≡ Some (Give c p q) → MayGive report k c p)
    → (k c p q : ℕ) → k < n + 1 → slice_get report.journal k ≡ Some (Give c p q) → MayGive report k c p
gives-more t report lives n line are at here before k c p q lt there = elim (cases_eq k n) [
  | inr other ↦ before k c p q (omega arith) there
  | inl same ↦ (
      let e : line ≡ Give c p q = some-same (sym at ∙ subst (λ (i : ℕ). slice_get report.journal i ≡ Some (Give c p q)) same there) in
      subst (λ (i : ℕ). MayGive report i c p) (sym same) (can-may t report lives n c p are (here c p q e)))
]

-- a life that lacks its sweep
pub lacks-sweep : (t : Trace) (report : Report) (lives : List (Option OpenLife)) (cycle page : ℕ) (life : OpenLife) → AreLives (region_of t) (at_end (cycle - 1) (past_in report)) lives → 1 ≤ cycle → cycle ≤ last_cycle t → get_or lives page None ≡ Some life
    → ¬ HasNote (λ note. Unit {0}) report.sweeps cycle page → LacksSweep t report
lacks-sweep t report lives cycle page life are some last here none =
    let o = entry-open (region_of t) (at_end (cycle - 1) (past_in report)) lives page life are here in (
      cycle - 1,
      life_in life,
      record {
        inside = omega arith;
        alive = o.1;
        missing = λ note among c p. none (note, among, c ∙ (let e : suc (cycle - 1) ≡ cycle = omega arith in e), p ∙ o.0, tt);
      },
    )

pub swept-more : (t : Trace) (report : Report) (lives : List (Option OpenLife)) (cycle : ℕ) → AreLives (region_of t) (at_end (cycle - 1) (past_in report)) lives → 1 ≤ cycle
    → ((page : ℕ) (life : OpenLife) → get_or lives page None ≡ Some life → HasNote (λ note. Unit {0}) report.sweeps cycle page)
    → ((m : ℕ) (life : Life) → suc m < cycle → IsOpenAfter (past_in report) m life → HasNote (λ note. Unit {0}) report.sweeps (suc m) life.page)
    → (m : ℕ) (life : Life) → suc m < cycle + 1 → IsOpenAfter (past_in report) m life → HasNote (λ note. Unit {0}) report.sweeps (suc m) life.page
swept-more t report lives cycle are some here before m life lt alive = elim (cases_eq (suc m) cycle) [
  | inr other ↦ before m life (omega arith) alive
  | inl same ↦ (
      let e : m ≡ cycle - 1 = omega arith in
      let alive' : In life (open_lives (at_end (cycle - 1) (past_in report))) = subst (λ (k : ℕ). In life (open_lives (at_end k (past_in report)))) e alive in
      let has = here life.page (entry_of life) (open-entry (region_of t) (at_end (cycle - 1) (past_in report)) lives life are alive') in
      subst (λ (k : ℕ). HasNote (λ note. Unit {0}) report.sweeps k life.page) (sym same) has)
]

-- the sweeps of a cycle are passed
pub right-more : (t : Trace) (report : Report) (items : List Item) (lasts : List ℕ) (c from to : ℕ) (ledger : Ledger) → AreKnownItems t report items lasts → TellsMarkEnd t report (objects_of items) c ledger → 1 ≤ c → c ≤ last_cycle t
    → ((k : ℕ) (note : SweepNote) → from ≤ k → k < to → slice_get report.sweeps k ≡ Some note → (note.cycle ≡ c) × SaysRight ledger note)
    → ((k : ℕ) (note : SweepNote) → k < from → slice_get report.sweeps k ≡ Some note → IsRightSweep (marked_by t) (last_cycle t) report (objects_of items) note)
    → (k : ℕ) (note : SweepNote) → k < to → slice_get report.sweeps k ≡ Some note → IsRightSweep (marked_by t) (last_cycle t) report (objects_of items) note
right-more t report items lasts c from to ledger known tells some last here before k note lt at = elim (cases_lt k from) [
  | inl less ↦ before k note less at
  | inr ge ↦ (let s = here k note ge lt at in says-right t report items lasts c ledger note known tells some last s.0 s.1)
]

-- and those behind them are of later cycles
pub ahead-more : (sweeps : List SweepNote) (c from to end : ℕ) → InOrderTo sweeps end → end ≤ length sweeps → from ≤ to → ((note : SweepNote) → to < end → slice_get sweeps to ≡ Some note → note.cycle ≡ c → ⊥)
    → ((k : ℕ) (note : SweepNote) → from ≤ k → k < end → slice_get sweeps k ≡ Some note → c ≤ note.cycle) → (k : ℕ) (note : SweepNote) → to ≤ k → k < end → slice_get sweeps k ≡ Some note → c + 1 ≤ note.cycle
ahead-more sweeps c from to end order inside le other ahead k note ge lt at =
    let first = get_or sweeps to note in
    let there : slice_get sweeps to ≡ Some first = slice_get-get_or sweeps to note (omega arith) in
    let low = ahead to first le (omega arith) there in
    let up = cycles-order sweeps end to k first note order ge lt there at in
    elim (cases_eq first.cycle c) [ inl same ↦ absurd (other first (omega arith) there same) | inr ne ↦ omega arith ]

pub ahead-first : (sweeps : List SweepNote) (end : ℕ) → InOrderTo sweeps end → end ≤ length sweeps → ((note : SweepNote) → 0 < end → slice_get sweeps 0 ≡ Some note → note.cycle ≡ 0 → ⊥)
    → (k : ℕ) (note : SweepNote) → 0 ≤ k → k < end → slice_get sweeps k ≡ Some note → 1 ≤ note.cycle
ahead-first sweeps end order inside other k note ge lt at =
    let up = ahead-more sweeps 0 0 0 end order inside (omega arith) other (λ j x a b c. omega arith) k note ge lt at in
    omega arith

-- a sweep of no cycle of the trace that follows a mark end isn't right
pub never-right : (t : Trace) (report : Report) (objects : List Object) (note : SweepNote) → (note.cycle ≡ 0) ⊎ (last_cycle t < note.cycle) → ¬ IsRightSweep (marked_by t) (last_cycle t) report objects note
never-right t report objects note far right =
    let c = right.counts.cycle in
    let lt = right.inside in
    elim far [ inl none ↦ omega arith | inr late ↦ omega arith ]

pub wrong-at : (t : Trace) (report : Report) (objects : List Object) (n end : ℕ) (note : SweepNote) → slice_get report.sweeps n ≡ Some note → ¬ IsRightSweep (marked_by t) (last_cycle t) report objects note → InOrderTo report.sweeps end → n ≤ end
    → ((k : ℕ) (other : SweepNote) → k < n → slice_get report.sweeps k ≡ Some other → IsRightSweep (marked_by t) (last_cycle t) report objects other) → IsFirstWrong t report objects n
wrong-at t report objects n end note at wrong order le right = record {
  note = note;
  here = at;
  wrong = inl wrong;
  before = record { right = right; order = λ j k a b lt less ia kb. order j k a b lt (omega arith) ia kb };
}

-- where all cycles have passed
pub wrong-last : (t : Trace) (report : Report) (objects : List Object) (n end c : ℕ) → IsDisorder report.sweeps end → n ≤ end → n < length report.sweeps → last_cycle t < c
    → ((k : ℕ) (note : SweepNote) → n ≤ k → k < end → slice_get report.sweeps k ≡ Some note → c ≤ note.cycle)
    → ((k : ℕ) (other : SweepNote) → k < n → slice_get report.sweeps k ≡ Some other → IsRightSweep (marked_by t) (last_cycle t) report objects other) → IsFirstWrong t report objects n
wrong-last t report objects n end c disorder le lt late ahead right =
    let note = get_or report.sweeps n (record { cycle = 0; page = 0; kept = 0; freed = 0 }) in
    let at : slice_get report.sweeps n ≡ Some note = slice_get-get_or report.sweeps n (record { cycle = 0; page = 0; kept = 0; freed = 0 }) lt in
    elim (cases_lt n end) [
      | inl before ↦ wrong-at t report objects n end note at (never-right t report objects note (inr (let a = ahead n note (omega arith) before at in omega arith))) disorder.order le right
      | inr last ↦ (
          let e : end ≡ n = omega arith in
          let at' : slice_get report.sweeps end ≡ Some note = subst (λ (k : ℕ). slice_get report.sweeps k ≡ Some note) (sym e) at in
          record {
            note = note;
            here = at;
            wrong = inr (subst (λ (k : ℕ). IsOutOfOrder IsSweepBefore report.sweeps k note) e (disorder.wrong note at'));
            before = record { right = right; order = λ j k a b less more ia kb. disorder.order j k a b less (omega arith) ia kb };
          })
    ]

pub right-all : (t : Trace) (report : Report) (objects : List Object) (n end : ℕ) → IsDisorder report.sweeps end → n ≤ end → length report.sweeps ≤ n
    → ((k : ℕ) (other : SweepNote) → k < n → slice_get report.sweeps k ≡ Some other → IsRightSweep (marked_by t) (last_cycle t) report objects other) → AreRightTo t report objects (length report.sweeps)
right-all t report objects n end disorder le all right = record {
  right = λ k note lt at. right k note (omega arith) at;
  order = λ j k a b lt less ia kb. disorder.order j k a b lt (omega arith) ia kb;
}
