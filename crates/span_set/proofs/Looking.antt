-- A pop looks until it is done: what each look and each lost try leave.
use Rattle.std.proofs.Common.{◌≡◌, ◌≢◌, ℕ, suc, ◌+◌, ◌^◌, ◌<◌, ◌≤◌, ◌⊎◌, ⊎_elim, true, eq-eqb, List, [], ◌∷◌, ◌++◌, refl, ap, sym, subst, ◌∙◌, arith}
use Rattle.std.specs.Prelude.{Ok, Err}
use Rattle.std.specs.List.{AllByRecursion}
use Rattle.worker_log.specs.declared.Entry.{Entry}
use Rattle.worker_log.specs.declared.Entry.TheVariants.{Looked, Read}
use Rattle.worker_log.specs.Entries.{is_pop, is_pop_of, many}
use Rattle.worker_log.proofs.Logs.{many-append}
use Rattle.span_state.specs.declared.body.Body.{Body}
use Rattle.span_laws.specs.declared.said.Said.TheVariants.{Looks, LooksCell, PopsEntry, Reads}
use Rattle.span_laws.specs.declared.said.SaidOf.TheVariants.{Pops}
use Rattle.span_laws.specs.declared.view.Cell.{Cell}
use Rattle.span_laws.specs.Answers.{IsAhead, RaisesSwept, RaisesUnswept}
use Rattle.span_laws.specs.Asks.{IsTaken}
use Rattle.span_laws.specs.Logs.{is_look}
use Rattle.span_laws.specs.Views.{Seen, has_cell, span_of}
use Rattle.span_laws.specs.OwnSteps.{after_of, after_said, cells_read}
use Rattle.span_set.specs.declared.answers.Pop.{Pop}
use Rattle.span_set.specs.declared.answers.Pop.TheVariants.{Taken, Empty, NotYet}
use Rattle.span_set.specs.declared.answers.PopBase.TheVariants.{Popped}
use Rattle.span_set.specs.Pops.{IsLookAt, LooksLast, LosesTry, PopsSwept, TriesSwept, TriesUnswept, with_looks}

pub look_seen : (set h t : ℕ) (log : List Entry) → 0 < many (is_look set h t) (Looked set h t ∷ log)
look_seen set h t log = rw (eq-eqb set set refl, eq-eqb h h refl, eq-eqb t t refl) (omega arith)

pub cell_seen : (set index page : ℕ) (cells : List Cell) → has_cell set index page (cells_read set index (suc page) ++ cells) ≡ true
cell_seen set index page cells = rw (eq-eqb set set refl, eq-eqb index index refl, eq-eqb page page refl) refl

module _ (set head tail : ℕ) (old now : Seen) where
  pub first_look : now ≡ after_said (Looks set head tail) (after_said (Reads 1 old.view.generation) old) → many (is_pop set) old.view.own.log ≤ head → LooksLast set head tail old now
  first_look e passed = record { said = []; cells = []; looks = tt; view = e; passed = passed }

  module _ (l : LooksLast set head tail old now) where
    pub same_away : now.away ≡ old.away
    same_away = ap (λ (w : Seen). w.away) l.view

    pub same_table : now.table ≡ old.table
    same_table = ap (λ (w : Seen). w.table) l.view

    pub same_generation : now.view.generation ≡ old.view.generation
    same_generation = ap (λ (w : Seen). w.view.generation) l.view

    pub same_region : now.view.region ≡ old.view.region
    same_region = ap (λ (w : Seen). w.view.region) l.view

    pub last_seen : 0 < many (is_look set head tail) now.view.own.log
    last_seen = subst (λ (w : Seen). 0 < many (is_look set head tail) w.view.own.log) (sym l.view) (look_seen set head tail (l.said ++ Read 1 old.view.generation ∷ old.view.own.log))

    -- the looks are no pops
    no_pop : (j p : ℕ) (said : List Entry) → AllByRecursion (IsLookAt set) said → many (is_pop_of j p) said ≡ 0
    no_pop j p [] l = refl
    no_pop j p (Looked s h t ∷ said) l = let z = no_pop j p said l.1 in omega arith
    no_pop j p (_ ∷ said) l = absurd l.0

    -- what the looks found of a span was so before them
    pub taken : (body : Body) → IsTaken now.view.generation set now.view.own body.page → IsTaken old.view.generation set old.view.own body.page
    taken body t = before (subst (λ (w : Seen). IsTaken w.view.generation set w.view.own body.page) l.view t)
      where
        before : IsTaken old.view.generation set (after_said (Looks set head tail) (with_looks l.said l.cells (after_said (Reads 1 old.view.generation) old))).view.own body.page → IsTaken old.view.generation set old.view.own body.page
        before t = record {
          nothing = t.nothing;
          unpopped = λ room j low part full. let z = t.unpopped room j low part full in let a = many-append (is_pop_of j body.page) l.said (Read 1 old.view.generation ∷ old.view.own.log) in
              let b = no_pop j body.page l.said l.looks in omega arith;
        }

    pub all_tries : (new : Seen) (pop : Pop) → TriesSwept set head tail now new (Ok pop) → PopsSwept set old new pop
    all_tries new (Taken body) t = (head, tail, now, l, t.0, t.1, t.2, taken body t.3)
    all_tries new (Empty h u) t = (t.0 ∙ t.2 ∙ sym t.1, subst (λ (z : ℕ × ℕ × Seen). LooksLast set z.0 z.1 old z.2) (λ i. (sym t.0 i, sym t.1 i, sym t.3 i)) l)
    all_tries new (NotYet h) t = (tail, now, subst (λ (z : ℕ). LooksLast set z tail old now) (sym t.0) l, subst (λ (z : ℕ). z < tail) (sym t.0) t.1, t.2 ∙ ap (λ (z : ℕ). after_said (LooksCell set z 0) now) (sym t.0))

    pops_before : many (is_pop set) old.view.own.log ≤ many (is_pop set) now.view.own.log
    pops_before = subst (λ (w : Seen). many (is_pop set) old.view.own.log ≤ many (is_pop set) w.view.own.log) (sym l.view)
        (let a = many-append (is_pop set) l.said (Rattle.worker_log.specs.declared.Entry.TheVariants.Read 1 old.view.generation ∷ old.view.own.log) in omega arith)

    pub again : (new : Seen) (found : ℕ × ℕ) → LosesTry set head tail now new found → LooksLast set found.0 found.1 old new
    again new found t = record {
      said = Looked set head tail ∷ l.said;
      cells = record { set = set; index = head; page = t.cell } ∷ l.cells;
      looks = (refl, l.looks);
      view = t.view ∙ ap (λ (w : Seen). after_said (Looks set found.0 found.1) (after_said (LooksCell set head (suc t.cell)) w)) l.view;
      passed = (let a = pops_before in let b = t.passed in omega arith);
    }

-- a cell was read at the head, and then the exchange made
module _ (set head tail cell page : ℕ) (old mid new : Seen) (look : mid ≡ after_said (LooksCell set head cell) old) (is : cell ≡ suc page) (less : head < tail) (low : tail < 2 ^ 32) where
  read_page : mid ≡ after_said (LooksCell set head (suc page)) old
  read_page = look ∙ ap (λ (x : ℕ). after_said (LooksCell set head x) old) is

  pub read_now : has_cell set head page mid.view.own.read ≡ true
  read_now = subst (λ (w : Seen). has_cell set head page w.view.own.read ≡ true) (sym read_page) (cell_seen set head page old.view.own.read)

  pub took : (body : Body) → RaisesSwept set head tail page mid new (Ok body) → TriesSwept set head tail old new (Ok (Taken body))
  took body r = (
    less,
    r.1 ∙ ap (after_of (Pops set) (span_of body)) (read_page ∙ ap (λ (x : ℕ). after_said (LooksCell set head (suc x)) old) (sym r.0)),
    r.2,
    before (subst (λ (z : Seen × ℕ). IsTaken z.0.view.generation set z.0.view.own z.1) (λ i. (read_page i, sym r.0 i)) r.3),
  )
    where
      before : IsTaken old.view.generation set (after_said (LooksCell set head (suc page)) old).view.own body.page → IsTaken old.view.generation set old.view.own body.page
      before t = record { nothing = t.nothing; unpopped = t.unpopped }

  lost : (found : ℕ × ℕ) → 0 < many (is_look set head tail) old.view.own.log → (found.0 ≢ head) ⊎ (found.1 ≢ tail) → new ≡ after_said (Looks set found.0 found.1) mid → IsAhead set found.0 found.1 mid.view.own.log → LosesTry set head tail old new found
  lost found seen other view ahead = record {
    cell = page;
    view = view ∙ ap (after_said (Looks set found.0 found.1)) read_page;
    order = ahead.order;
    low = low;
    passed = subst (λ (w : Seen). many (is_pop set) w.view.own.log ≤ found.0) read_page ahead.passed;
    rose = (let g = ahead.grown head tail (subst (λ (w : Seen). 0 < many (is_look set head tail) w.view.own.log) (sym read_page) seen) in let a = g.0 in let b = g.1 in
        ⊎_elim (λ (d : found.0 ≢ head). let z : head + tail < found.0 + found.1 = omega arith in z) (λ (d : found.1 ≢ tail). omega arith) other);
  }

  pub lost_swept : (found : ℕ × ℕ) → 0 < many (is_look set head tail) old.view.own.log → RaisesSwept set head tail page mid new (Err found) → TriesSwept set head tail old new (Err found)
  lost_swept found seen r = lost found seen r.0 r.1 r.2

  pub popped : (page' : ℕ) → page' ≡ page → RaisesUnswept set head tail page mid new (Ok tt) → TriesUnswept set head tail old new (Ok (Popped page'))
  popped page' e r = subst (λ (x : ℕ). TriesUnswept set head tail old new (Ok (Popped x))) (sym e)
      (less, r.1 ∙ ap (after_said (PopsEntry set page)) read_page, subst (λ (w : Seen). page < w.view.region) read_page r.0, low)

  pub lost_unswept : (found : ℕ × ℕ) → 0 < many (is_look set head tail) old.view.own.log → RaisesUnswept set head tail page mid new (Err found) → TriesUnswept set head tail old new (Err found)
  lost_unswept found seen r = lost found seen r.0 r.1 r.2
