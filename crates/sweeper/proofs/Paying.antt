-- Spans are swept until a number of swept pages is reached, or nothing is left.
use Rattle.std.proofs.Common.{◌≡◌, ℕ, ◌+◌, ◌^◌, ◌<◌, ◌≤◌, eqb, eq-eqb, false, List, [], ◌∷◌, ◌++◌, refl, ap, sym, subst, ◌∙◌, arith}
use Rattle.std.proofs.lemmas.List.{append-nil}
use Rattle.std.specs.Prelude.{Some, None, Option, Ok, Err}
use Rattle.fallible_list.specs.declared.list.NoMemory.{NoMemory}
use Rattle.span_state.specs.MarkSet.{MarkSet}
use Rattle.span_state.specs.declared.sweep.SweepNote.{SweepNote}
use Rattle.worker_log.specs.declared.Entry.{Entry}
use Rattle.worker_log.specs.declared.Entry.TheVariants.{Read}
use Rattle.worker_log.specs.Entries.{is_pop, is_seen_empty, many}
use Rattle.worker_log.proofs.Logs.{many-append}
use Rattle.span_laws.specs.declared.said.Said.TheVariants.{Reads}
use Rattle.span_laws.specs.Scans.{FindsUnswept, nth_unswept}
use Rattle.span_laws.specs.Views.{Seen}
use Rattle.span_laws.specs.OwnSteps.{after_said}
use Rattle.span_set.specs.Tallies.{Frees}
use Rattle.span_set.specs.declared.hand.Hand.{Hand}
use Rattle.span_set.specs.Fits.{no_page}
use Rattle.span_set.proofs.Fits.{fits-none}
use Rattle.span_set.proofs.Tallies.{frees-both, frees-none}
use Rattle.sweeper.specs.Entries.{is_read}
use Rattle.sweeper.specs.Pays.{HasPaid, Pays, target_of}
use Rattle.sweeper.specs.PaySteps.{ReadsSwept, SweepsSet, SweepsSome, SweepsUntil}
use Rattle.sweeper.specs.Tries.{SawSome, SweepsNext, SweepsNone}
use Rattle.sweeper.specs.Sweeps.{Finishes, SweepsSpan}
use Rattle.sweeper.specs.Work.{WorkerSweeps, IsPlain, SawAllEmpty, Stays, HandSweeps}
use Rattle.sweeper.specs.declared.answers.Paid.TheVariants.{Reached, NothingLeft}
use Rattle.sweeper.proofs.Counting.{nothing-none, plain-append, some-new, some-old}
use Rattle.sweeper.proofs.Searching.{looks_past, looks_to, many_below, saw_all, saw_more}
use Rattle.sweeper.proofs.Working.{works-as, works-both, works-nothing, works-step}

pub plain-nothing : IsPlain []
plain-nothing = nothing-none.plain

-- a word is read
pub read_works : (word value : ℕ) (a : Hand) (new : Seen) → eqb word 4 ≡ false → new ≡ after_said (Reads word value) a.worker → a.worker.view.own.popped ≡ [] → HandSweeps [] (λ said. IsPlain said × (0 < many (is_read word value) said)) a (record a { worker = new })
read_works word value a new other e none = works-step (λ said. IsPlain said × (0 < many (is_read word value) said)) [] (Read word value ∷ []) a (record a { worker = new })
    (record {
      log = ap (λ (x : Seen). x.view.own.log) e;
      sweeps = record { unplaced = refl; unspent = refl; swept_pages = refl; given = λ p. refl; pushed = λ p. refl; unpopped = λ j p s. refl; unlooked = λ j s. refl; untouched = λ p. refl };
      sets = fits-none a.worker.view.generation no_page (Read word value ∷ []) a.worker new [] refl (ap (λ (x : Seen). x.view.own.spans) e);
      held = ap (λ (x : Seen). x.view.own.held) e ∙ sym (append-nil a.worker.view.own.held);
      stays = subst (Stays a.worker) (sym e) (record { away = refl; table = refl; number = refl; caching = refl; region = refl; goal = refl; procs = refl; generation = refl; marks = refl; before = refl; carried = refl; parts = refl; sweeping = refl; cached = refl; claimed = refl; fresh = refl; reset = refl; bodies = λ q h. refl });
    })
    refl refl (ap (λ (x : Seen). x.view.own.popped) e ∙ none)
    (record { takes_none = record { untaken = refl; unmissed = refl }; unclaimed = refl; unread = λ i. rw other refl; keeps_block = refl }, rw (eq-eqb word word refl, eq-eqb value value refl) (omega arith))

-- room for notes tells nothing
pub works-room : (P : List Entry → Type 0) (more : List ℕ) (a b b' : Hand) → b'.worker ≡ b.worker → b'.notes.items ≡ b.notes.items → HandSweeps more P a b → HandSweeps more P a b'
works-room P more a b b' e m w = record {
  said = w.said;
  did = w.did;
  does = subst (λ (x : Seen). WorkerSweeps more w.said a.worker x) (sym e) w.does;
  notes = m ∙ w.notes;
  popped = ap (λ (x : Seen). x.view.own.popped) e ∙ w.popped;
}

-- the swept pages are read
module _ (target : ℕ) (old new : Hand) (none : old.worker.view.own.popped ≡ []) where
  pub read_some : (seen : ℕ) → ReadsSwept target old new (Some seen) → HandSweeps [] (λ said. IsPlain said × (0 < many (is_read 2 seen) said)) old new
  read_some seen r = subst (HandSweeps [] (λ said. IsPlain said × (0 < many (is_read 2 seen) said)) old) (sym r.2) (read_works 2 seen old (after_said (Reads 2 seen) old.worker) refl refl none)

  pub read_less : ReadsSwept target old new None → HandSweeps [] IsPlain old new
  read_less r = subst (HandSweeps [] IsPlain old) (sym r.2)
      (works-as (λ said. IsPlain said × (0 < many (is_read 2 r.0) said)) IsPlain [] old (record old { worker = after_said (Reads 2 r.0) old.worker }) (read_works 2 r.0 old (after_said (Reads 2 r.0) old.worker) refl refl none) (λ s p. p.0))

-- which leaves the notes and the tally
pub read_frees : (m : MarkSet) (target : ℕ) (old new : Hand) (o : Option ℕ) → ReadsSwept target old new o → Frees m old new
read_frees m target old new (Some seen) r = frees-none m old new (ap (λ (h : Hand). h.notes.items) r.2) (ap (λ (h : Hand). h.tally) r.2)
read_frees m target old new None r = frees-none m old new (ap (λ (h : Hand). h.notes.items) r.2) (ap (λ (h : Hand). h.tally) r.2)

-- room for a note is made, a span swept, and the pages read
pub frees-swept : (m : MarkSet) (old now mid next new : Hand) (target : ℕ) (o : Option ℕ) → Frees m old now → mid.notes.items ≡ now.notes.items → mid.tally ≡ now.tally → Frees m mid next → ReadsSwept target next new o → Frees m old new
frees-swept m old now mid next new target o before notes tally swept r =
    frees-both m old next new (frees-both m old mid next (frees-both m old now mid before (frees-none m now mid notes tally)) swept) (read_frees m target next new o r)

-- the entries of one set
module _ (k : ℕ) (old : Hand) where
  abbrev Pops : ℕ → List Entry → Type 0
  Pops n said = IsPlain said × (n ≤ many (is_pop k) said)

  pub sweeps_none : old.worker.view.own.popped ≡ [] → SweepsSome k 0 old old
  sweeps_none none = record { works = works-nothing (Pops 0) old old refl refl none (plain-nothing, omega arith); few = omega arith }

  module _ (n : ℕ) (now : Hand) (d : SweepsSome k n old now) where
    -- room for a note is made
    module _ (mid : Hand) (worker : mid.worker ≡ now.worker) (notes : mid.notes.items ≡ now.notes.items) where
      pub so_far : HandSweeps [] (λ said. IsPlain said × (n ≤ many (is_pop k) said)) old mid
      so_far = works-room (Pops n) [] old now mid worker notes d.works

      pub set_wants : HandSweeps [] IsPlain old mid
      set_wants = works-as (Pops n) IsPlain [] old mid so_far (λ s p. p.0)

      module _ (new : Hand) (k' : ℕ) (same : k' ≡ k) where
        pub set_empty : (target : ℕ) → SweepsNext k' mid new None → SweepsSet k target old new (Ok None)
        set_empty target t = let t' : SweepsNext k mid new None = subst (λ (x : ℕ). SweepsNext x mid new None) same t in
            works-both (Pops n) (λ said. SweepsNone said × (0 < many (is_seen_empty k) said)) (λ said. IsPlain said × (0 < many (is_seen_empty k) said)) [] old mid new so_far t'.0
            (λ x y p q. (plain-append y x q.0.plain p.0, some-new (is_seen_empty k) y x q.1))

        pub set_more : (note : SweepNote) → SweepsNext k' mid new (Some note) → SweepsSome k (n + 1) old new
        set_more note t = let t' : SweepsNext k mid new (Some note) = subst (λ (x : ℕ). SweepsNext x mid new (Some note)) same t in
            let w = works-both (Pops n) (λ said. SweepsSpan mid.worker.view.generation t'.0 said × (0 < many (is_pop k) said)) (Pops (n + 1)) [] old mid new so_far t'.2
            (λ x y p q. (plain-append y x q.0.plain p.0, let a = many-append (is_pop k) y x in let b = p.1 in let e = q.1 in omega arith)) in
            record { works = w; few = many_below (Pops (n + 1)) old new w k (n + 1) w.did.1 t'.3 }

    -- the swept pages are read
    module _ (target : ℕ) (new : Hand) where
      pub set_reached : (seen : ℕ) → ReadsSwept target now new (Some seen) → SweepsSet k target old new (Ok (Some seen))
      set_reached seen r = (
        r.0,
        r.1,
        works-both (Pops n) (λ said. IsPlain said × (0 < many (is_read 2 seen) said)) (λ said. IsPlain said × (0 < many (is_read 2 seen) said)) [] old now new d.works (read_some target now new d.works.popped seen r)
            (λ x y p q. (plain-append y x q.0 p.0, some-new (is_read 2 seen) y x q.1)),
      )

      pub set_less : ReadsSwept target now new None → SweepsSome k n old new
      set_less r = record {
        works = works-both (Pops n) IsPlain (Pops n) [] old now new d.works (read_less target now new d.works.popped r) (λ x y p q. (plain-append y x q p.0, let a = many-append (is_pop k) y x in let b = p.1 in omega arith));
        few = d.few;
      }

-- all sets
module _ (old : Hand) (target : ℕ) where
  pub until_read : (now : Hand) (seen : ℕ) → old.worker.view.own.popped ≡ [] → ReadsSwept target old now (Some seen) → SweepsUntil 272 target old now (Ok (Some seen))
  until_read now seen none r = (r.0, r.1, read_some target old now none seen r)

  -- no set is looked at yet
  pub until_none : (mid : Hand) → old.worker.view.own.popped ≡ [] → ReadsSwept target old mid None → SweepsUntil 0 target old mid (Ok None)
  until_none mid none r = works-as IsPlain (λ said. IsPlain said × SawSome old.worker.view.generation 0 said) [] old mid (read_less target old mid none r) (λ s p. (p, λ i l. absurd (omega arith)))

  -- sets are seen empty
  plain_on : (xs ys : List Entry) → SweepsNone xs → IsPlain ys → IsPlain (xs ++ ys)
  plain_on xs ys n p = plain-append xs ys n.plain p

  module _ (n : ℕ) (now : Hand) (d : SweepsUntil n target old now (Ok None)) (w : Seen) where
    pub until_past : FindsUnswept n now.worker w None → SweepsUntil 272 target old (record now { worker = w }) (Ok None)
    until_past f = looks_past IsPlain plain_on old n now d w f

    pub until_to : (i : ℕ) → FindsUnswept n now.worker w (Some i) → SweepsUntil i target old (record now { worker = w }) (Ok None)
    until_to i f = looks_to IsPlain plain_on old n now d w i f

  module _ (n : ℕ) (now new : Hand) (d : SweepsUntil n target old now (Ok None)) (k : ℕ) (same : k ≡ nth_unswept old.worker.view.generation n) where
    pub until_more : SweepsSet k target now new (Ok None) → SweepsUntil (n + 1) target old new (Ok None)
    until_more t = works-both (λ said. IsPlain said × SawSome old.worker.view.generation n said) (λ said. IsPlain said × (0 < many (is_seen_empty k) said)) (λ said. IsPlain said × SawSome old.worker.view.generation (n + 1) said) [] old now new d t
        (λ x y p q. (plain-append y x q.0 p.0, saw_more old.worker.view.generation n y x p.1 (subst (λ (z : ℕ). 0 < many (is_seen_empty z) y) same q.1)))

    pub until_reached : (m seen : ℕ) → SweepsSet k target now new (Ok (Some seen)) → SweepsUntil m target old new (Ok (Some seen))
    until_reached m seen t = (
      t.0,
      t.1,
      works-both (λ said. IsPlain said × SawSome old.worker.view.generation n said) (λ said. IsPlain said × (0 < many (is_read 2 seen) said)) (λ said. IsPlain said × (0 < many (is_read 2 seen) said)) [] old now new d t.2
          (λ x y p q. (plain-append y x q.0 p.0, some-new (is_read 2 seen) y x q.1)),
    )

    pub until_wants : (m : ℕ) (e : NoMemory) → SweepsSet k target now new (Err e) → SweepsUntil m target old new (Err e)
    until_wants m e t = works-both (λ said. IsPlain said × SawSome old.worker.view.generation n said) IsPlain IsPlain [] old now new d t (λ x y p q. plain-append y x q p.0)

-- a full sweep
pub finished : (old new : Hand) (o : Option ℕ) (target : ℕ) → 2 ^ 64 ≤ target → SweepsUntil 272 target old new (Ok o) → Finishes old new (Ok tt)
finished old new (Some seen) target l u = absurd (let a = u.0 in let b = u.1 in omega arith)
finished old new None target l u = works-as (λ said. IsPlain said × SawSome old.worker.view.generation 272 said) (λ said. IsPlain said × SawAllEmpty old.worker.view.generation said) [] old new u (λ s p. (p.0, saw_all old.worker.view.generation s p.1))

-- a payment
module _ (pages distance bytes credit : ℕ) (old : Hand) (none : old.worker.view.own.popped ≡ []) (w1 w2 : Seen) (spent : ℕ) (g : ℕ) (first : w1 ≡ after_said (Reads 1 g) old.worker) (second : w2 ≡ after_said (Reads 3 spent) w1) (mid : Hand) (at : mid ≡ record old { worker = w2 }) where
  both_read : HandSweeps [] (λ said. IsPlain said × (0 < many (is_read 3 spent) said)) old mid
  both_read = subst (HandSweeps [] (λ said. IsPlain said × (0 < many (is_read 3 spent) said)) old) (sym at)
      (let a = read_works 1 g old w1 refl first none in let b = read_works 3 spent (record old { worker = w1 }) w2 refl second a.popped in
      works-both (λ said. IsPlain said × (0 < many (is_read 1 g) said)) (λ said. IsPlain said × (0 < many (is_read 3 spent) said)) (λ said. IsPlain said × (0 < many (is_read 3 spent) said)) [] old (record old { worker = w1 }) (record old { worker = w2 }) a b
      (λ x y p q. (plain-append y x q.0 p.0, some-new (is_read 3 spent) y x q.1)))

  pub paid_gen : mid.worker.view.generation ≡ old.worker.view.generation
  paid_gen = both_read.does.stays.generation

  module _ (target : ℕ) (is : target ≡ target_of old.worker.view.generation pages distance spent bytes credit) (new : Hand) where
    pub paid_reached : (seen : ℕ) → SweepsUntil 272 target mid new (Ok (Some seen)) → Pays pages distance bytes credit old new (Ok (Reached seen target))
    paid_reached seen u = works-both (λ said. IsPlain said × (0 < many (is_read 3 spent) said)) (λ said. IsPlain said × (0 < many (is_read 2 seen) said)) (λ said. IsPlain said × HasPaid old.worker.view.generation pages distance bytes credit seen target said) [] old mid new both_read u.2
        (λ x y p q. (plain-append y x q.0 p.0, record { spent = spent; read_spent = some-old (is_read 3 spent) y x p.1; target_is = is; read_swept = some-new (is_read 2 seen) y x q.1; reached = u.0 }))

    pub paid_all : SweepsUntil 272 target mid new (Ok None) → Pays pages distance bytes credit old new (Ok NothingLeft)
    paid_all u = works-both (λ said. IsPlain said × (0 < many (is_read 3 spent) said)) (λ said. IsPlain said × SawSome mid.worker.view.generation 272 said) (λ said. IsPlain said × SawAllEmpty old.worker.view.generation said) [] old mid new both_read u
        (λ x y p q. (plain-append y x q.0 p.0, λ k l s. some-new (is_seen_empty k) y x (saw_all old.worker.view.generation y (subst (λ (m : ℕ). SawSome m 272 y) paid_gen q.1) k l s)))

    pub paid_wants : (e : NoMemory) → SweepsUntil 272 target mid new (Err e) → Pays pages distance bytes credit old new (Err e)
    paid_wants e u = works-both (λ said. IsPlain said × (0 < many (is_read 3 spent) said)) IsPlain IsPlain [] old mid new both_read u (λ x y p q. plain-append y x q p.0)
