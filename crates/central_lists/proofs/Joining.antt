-- One work follows another: what both did.
use Rattle.std.proofs.Common.{◌≡◌, ℕ, ◌+◌, ◌-◌, ◌<◌, ◌≤◌, ◌⊎◌, inl, inr, ⊎_elim, List, [], ◌++◌, refl, sym, ap, subst, ◌∙◌, append_assoc, arith}
use Rattle.std.proofs.lemmas.List.{append-nil}
use Rattle.std.specs.Prelude.{Result, Ok, Err}
use Rattle.fallible_list.specs.declared.list.NoMemory.{NoMemory}
use Rattle.sweep_laws.specs.Counts.{times}
use Rattle.worker_log.specs.declared.Entry.{Entry}
use Rattle.worker_log.specs.SetNumbers.{swept_set, unswept_set}
use Rattle.worker_log.specs.Entries.{is_seen_empty, is_sweep_of}
use Rattle.worker_log.proofs.Logs.{many-append}
use Rattle.span_state.specs.MarkSet.{has_pair}
use Rattle.span_state.specs.declared.body.Body.{Body}
use Rattle.span_state.specs.declared.sweep.SweepNote.{SweepNote}
use Rattle.span_laws.specs.declared.view.View.{View}
use Rattle.span_laws.specs.Views.{Seen}
use Rattle.span_laws.specs.Asks.{mine}
use Rattle.span_laws.specs.Calls.{Keeps, notes_of}
use Rattle.span_laws.proofs.CallLogs.{keeps-refl, keeps-trans, notes-append}
use Rattle.span_set.specs.declared.hand.Hand.{Hand}
use Rattle.span_set.proofs.Fits.{fits-both, fits-none}
use Rattle.central_lists.specs.declared.answers.FromSets.TheVariants.{SweptHere, NeedFresh}
use Rattle.central_lists.specs.declared.answers.Look.{Look}
use Rattle.central_lists.specs.declared.answers.Search.{Search}
use Rattle.central_lists.specs.declared.answers.Search.TheVariants.{Found, NotFound}
use Rattle.central_lists.specs.declared.answers.Tried.{Tried}
use Rattle.central_lists.specs.Looks.{Saw, SawEmpty, SweptIt, TriedEnough, AnyLog}
use Rattle.central_lists.specs.Works.{HandSearches, just, nothing}
use Rattle.span_laws.specs.BodyAsks.{HasMarks}
use Rattle.central_lists.specs.Lists.{Caches, HandsOut, LooksFirst}
use Rattle.central_lists.specs.Tries.{GivesOne, GivesUp, Searches, SweepsOut, TriedSome, TriesAll, TriesOne}
use Rattle.central_lists.proofs.Saying.{says-nil, says-trans}

pub same_generation : (a b : Seen) → Keeps a b → b.view.generation ≡ a.view.generation
same_generation a b k = ap (λ (v : View). v.generation) k.view

-- what was told of a generation, where it is another's too
pub tries_at : (h g class full : ℕ) (b d : Hand) (r : Result Tried NoMemory) → h ≡ g → TriesOne h class full b d r → TriesOne g class full b d r
tries_at h g class full b d r e x = subst (λ (z : ℕ). TriesOne z class full b d r) e x

pub all_at : (h g class full before : ℕ) (b d : Hand) (r : Result Search NoMemory) → h ≡ g → TriesAll h class full before b d r → TriesAll g class full before b d r
all_at h g class full before b d r e x = subst (λ (z : ℕ). TriesAll z class full before b d r) e x

pub searches_at : (h g class : ℕ) (b d : Hand) (r : Result Search NoMemory) → h ≡ g → Searches h class b d r → Searches g class b d r
searches_at h g class b d r e x = subst (λ (z : ℕ). Searches z class b d r) e x

module _ (g class : ℕ) where
  -- what the worker had before some work it has behind it
  had_still : (t : ℕ) (m j : ℕ → ℕ) (P : List Entry → Type 0) (a b : Hand) → HandSearches g class t m j P a b → (q : ℕ) → mine q b.worker.view.own ≡ mine q a.worker.view.own + m q
  had_still t m j P a b x q = let s = x.keeps.sweeping q in let h = x.held q in let c = ap (times q) x.keeps.cached in omega arith

  pub does-trans : (t u v : ℕ) (m n k j i l : ℕ → ℕ) (P Q R : List Entry → Type 0) (a b d : Hand) → HandSearches g class t m j P a b → HandSearches g class u n i Q b d → t + u ≡ v → ((q : ℕ) → m q + n q ≡ k q) → ((q : ℕ) → j q + i q ≡ l q)
      → ((later first : List Entry) → P first → Q later → R (later ++ first)) → HandSearches g class v k l R a d
  does-trans t u v m n k j i l P Q R a b d x y sum mores keeps r = record {
    said = y.said ++ x.said;
    log = y.log ∙ ap (λ (z : List Entry). y.said ++ z) x.log ∙ sym (append_assoc y.said x.said a.worker.view.own.log);
    says = says-trans g class t u v j i l x.said y.said x.says y.says sum keeps;
    sets = fits-both g j i l y.said x.said a.worker b.worker d.worker (λ p z. let s = keeps p in omega arith) (λ p z. let s = keeps p in omega arith) x.sets y.sets;
    property = r y.said x.said x.property y.property;
    keeps = keeps-trans a.worker b.worker d.worker x.keeps y.keeps (λ q s. let z = had_still t m j P a b x q in omega arith);
    caching = y.caching ∙ x.caching;
    held = λ q. let z = x.held q in let w = y.held q in let s = mores q in omega arith;
    notes = y.notes ∙ ap (λ (z : List SweepNote). z ++ notes_of g y.said) x.notes ∙ append_assoc a.notes.items (notes_of g x.said) (notes_of g y.said) ∙ ap (λ (z : List SweepNote). a.notes.items ++ z) (sym (notes-append g y.said x.said));
  }

  pub does-change : (t : ℕ) (m j : ℕ → ℕ) (P Q : List Entry → Type 0) (a b : Hand) → HandSearches g class t m j P a b → ((s : List Entry) → P s → Q s) → HandSearches g class t m j Q a b
  does-change t m j P Q a b x f = record { said = x.said; log = x.log; says = x.says; sets = x.sets; property = f x.said x.property; keeps = x.keeps; caching = x.caching; held = x.held; notes = x.notes }

  pub does-nothing : (a : Hand) → HandSearches g class 0 nothing nothing AnyLog a a
  does-nothing a = record {
    said = [];
    log = refl;
    says = says-nil g class;
    sets = fits-none g nothing [] a.worker a.worker [] refl refl;
    property = tt;
    keeps = keeps-refl a.worker;
    caching = refl;
    held = λ q. omega arith;
    notes = sym (append-nil a.notes.items);
  }

  pub does-count : (t u : ℕ) (m j : ℕ → ℕ) (P : List Entry → Type 0) (a b : Hand) → t ≡ u → HandSearches g class t m j P a b → HandSearches g class u m j P a b
  does-count t u m j P a b e x = subst (λ (z : ℕ). HandSearches g class z m j P a b) e x

  -- nothing is held by the first work
  pub after-nothing : (t u v : ℕ) (n i : ℕ → ℕ) (P Q R : List Entry → Type 0) (a b d : Hand) → HandSearches g class t nothing nothing P a b → HandSearches g class u n i Q b d → t + u ≡ v
      → ((later first : List Entry) → P first → Q later → R (later ++ first)) → HandSearches g class v n i R a d
  after-nothing t u v n i P Q R a b d x y sum r = does-trans t u v nothing n n nothing i i P Q R a b d x y sum (λ q. omega arith) (λ q. omega arith) r

  more_swept : (page : ℕ) (later first : List Entry) → SweptIt page later → SweptIt page (later ++ first)
  more_swept page later first l = let e = many-append (is_sweep_of page) later first in omega arith

  -- a body that the second work hands out is handed out by both
  pub hands_before : (t : ℕ) (P : List Entry → Type 0) (a b d : Hand) (k : Body) → HandSearches g class t nothing nothing P a b → HandsOut g class k b.worker d.worker → HandsOut g class k a.worker d.worker
  hands_before t P a b d k x h = record {
    of_class = h.of_class;
    room = h.room;
    held = h.held;
    lent = h.lent;
    before = let z = had_still t nothing nothing P a b x k.page in let y = h.before in omega arith;
    unpopped = h.unpopped;
  }

  pub marks_before : (t : ℕ) (P : List Entry → Type 0) (a b : Hand) (k : Body) → HandSearches g class t nothing nothing P a b → HasMarks b.worker.view.marks k → HasMarks a.worker.view.marks k
  marks_before t P a b k x m = λ i. m i ∙ ap (λ v. has_pair v.marks k.page i) x.keeps.view

  out_before : (t : ℕ) (P : List Entry → Type 0) (a b d : Hand) (k : Body) → HandSearches g class t nothing nothing P a b → SweepsOut g class k b d → SweepsOut g class k a d
  out_before t P a b d k x o = record {
    hands_out = hands_before t P a b d k x o.hands_out;
    marks = marks_before t P a b k x o.marks;
    untouched = o.untouched;
  }

  -- ---- the tries of one set

  -- a hundred were made in all, or the set was seen empty
  abbrev EnoughOr : ℕ → ℕ → List Entry → Type 0
  EnoughOr tried set said = (tried ≡ 100) ⊎ SawEmpty set said

  empty_more : (set : ℕ) (later first : List Entry) → SawEmpty set later → SawEmpty set (later ++ first)
  empty_more set later first l = let e = many-append (is_seen_empty set) later first in omega arith

  -- what later entries tell of it, they tell behind earlier ones
  enough_more : (tried set : ℕ) (later first : List Entry) → EnoughOr tried set later → EnoughOr tried set (later ++ first)
  enough_more tried set later first x = ⊎_elim (λ (e : tried ≡ 100). inl e) (λ (e : SawEmpty set later). inr (empty_more set later first e)) x

  module _ (before : ℕ) where
    pub tried_none : (a : Hand) → before ≤ 100 → TriedSome g class before before a a
    tried_none a l = record { least = omega arith; most = l; does = does-count 0 (before - before) nothing nothing AnyLog a a (omega arith) (does-nothing a) }

    pub tried_more : (tried : ℕ) (a b d : Hand) → TriedSome g class before tried a b → tried < 100 → HandSearches g class 1 nothing nothing AnyLog b d → TriedSome g class before (tried + 1) a d
    tried_more tried a b d x l y = record {
      least = let z = x.least in omega arith;
      most = omega arith;
      does = after-nothing (tried - before) 1 (tried + 1 - before) nothing nothing AnyLog AnyLog AnyLog a b d x.does y (let z = x.least in omega arith) (λ s f p q. tt);
    }

    pub tried_all : (tried full : ℕ) (a b d : Hand) → TriedSome g class before tried a b → HandSearches g class 0 nothing nothing (SawEmpty (unswept_set g class full)) b d → TriesAll g class full before a d (Ok (NotFound tried))
    tried_all tried full a b d x y = (
      x.least,
      x.most,
      after-nothing (tried - before) 0 (tried - before) nothing nothing AnyLog (SawEmpty (unswept_set g class full)) (EnoughOr tried (unswept_set g class full)) a b d x.does y (omega arith)
          (λ s f p q. inr (empty_more (unswept_set g class full) s f q)),
    )

    pub tried_kept : (tried : ℕ) (k : Body) (a b d : Hand) → TriedSome g class before tried a b → tried < 100 → SweepsOut g class k b d → HandSearches g class 1 (just k.page) (just k.page) (SweptIt k.page) b d → GivesOne g class (100 - before) k a d
    tried_kept tried k a b d x l o y = (
      out_before (tried - before) AnyLog a b d k x.does o,
      (
        tried - before + 1,
        (let z = x.least in omega arith),
        after-nothing (tried - before) 1 (tried - before + 1) (just k.page) (just k.page) AnyLog (SweptIt k.page) (SweptIt k.page) a b d x.does y (omega arith) (λ s f p q. more_swept k.page s f q),
      ),
    )

    pub tried_in_vain : (tried : ℕ) (a b d : Hand) → TriedSome g class before tried a b → tried < 100 → HandSearches g class 0 nothing nothing AnyLog b d → GivesUp g class (100 - before) a d
    tried_in_vain tried a b d x l y = (
      tried - before,
      (let z = x.least in omega arith),
      after-nothing (tried - before) 0 (tried - before) nothing nothing AnyLog AnyLog AnyLog a b d x.does y (omega arith) (λ s f p q. tt),
    )

    pub tried_enough : (tried full : ℕ) (a b : Hand) → TriedSome g class before tried a b → 100 ≤ tried → TriesAll g class full before a b (Ok (NotFound 100))
    tried_enough tried full a b x l = (
      (let z = x.least in let y = x.most in omega arith),
      (let z : 100 ≤ 100 = omega arith in z),
      does-change (100 - before) nothing nothing AnyLog (EnoughOr 100 (unswept_set g class full)) a b
          (does-count (tried - before) (100 - before) nothing nothing AnyLog a b (let z = x.most in omega arith) x.does) (λ s p. inl refl),
    )

  -- ---- the full set after the partial one

  -- so many tries, and then others up to a bound
  one_after : (t n most : ℕ) (P : List Entry → Type 0) (a b d : Hand) (k : Body) → t + n ≤ most → HandSearches g class t nothing nothing P a b → GivesOne g class n k b d → GivesOne g class most k a d
  one_after t n most P a b d k l x o = (
    out_before t P a b d k x o.0,
    (t + o.1.0, (let z = o.1.1 in omega arith), after-nothing t o.1.0 (t + o.1.0) (just k.page) (just k.page) P (SweptIt k.page) (SweptIt k.page) a b d x o.1.2 refl (λ s f p q. more_swept k.page s f q)),
  )

  pub up_after : (t n most : ℕ) (P : List Entry → Type 0) (a b d : Hand) → t + n ≤ most → HandSearches g class t nothing nothing P a b → GivesUp g class n b d → GivesUp g class most a d
  up_after t n most P a b d l x o = (t + o.0, (let z = o.1 in omega arith), after-nothing t o.0 (t + o.0) nothing nothing P AnyLog AnyLog a b d x o.2 refl (λ s f p q. tt))

  -- the tries of a set that was looked at before
  pub looked_then : (full before : ℕ) (a b d : Hand) (r : Result Search NoMemory) → HandSearches g class 0 nothing nothing AnyLog a b → TriesAll g class full before b d r → TriesAll g class full before a d r
  looked_then full before a b d (Ok (NotFound tried)) x h = (
    h.0,
    h.1,
    after-nothing 0 (tried - before) (tried - before) nothing nothing AnyLog (EnoughOr tried (unswept_set g class full)) (EnoughOr tried (unswept_set g class full)) a b d x h.2 (omega arith)
        (λ s f p q. enough_more tried (unswept_set g class full) s f q),
  )
  looked_then full before a b d (Ok (Found k)) x h = one_after 0 (100 - before) (100 - before) AnyLog a b d k (omega arith) x h
  looked_then full before a b d (Err e) x h = up_after 0 (100 - before) (100 - before) AnyLog a b d (omega arith) x h

  pub looked_all : (full before : ℕ) (a b : Hand) → before ≤ 100 → HandSearches g class 0 nothing nothing (SawEmpty (unswept_set g class full)) a b → TriesAll g class full before a b (Ok (NotFound before))
  looked_all full before a b l x = (
    (let z : before ≤ before = omega arith in z),
    l,
    does-count 0 (before - before) nothing nothing (EnoughOr before (unswept_set g class full)) a b (omega arith) (does-change 0 nothing nothing (SawEmpty (unswept_set g class full)) (EnoughOr before (unswept_set g class full)) a b x (λ s p. inr p)),
  )

  pub one_in_all : (a b : Hand) (k : Body) → GivesOne g class (100 - 0) k a b → GivesOne g class 100 k a b
  one_in_all a b k o = (o.0, (o.1.0, (let z = o.1.1 in omega arith), o.1.2))

  pub up_in_all : (a b : Hand) → GivesUp g class (100 - 0) a b → GivesUp g class 100 a b
  up_in_all a b o = (o.0, (let z = o.1 in omega arith), o.2)

  -- a hundred tries of the partial set
  pub enough_in_all : (t : ℕ) (a b : Hand) → t ≡ 100 → TriesAll g class 0 0 a b (Ok (NotFound t)) → Searches g class a b (Ok (NotFound 100))
  enough_in_all t a b e x = (
    (let z : 100 ≤ 100 = omega arith in z),
    does-change 100 nothing nothing (EnoughOr t (unswept_set g class 0)) _ a b (does-count (t - 0) 100 nothing nothing (EnoughOr t (unswept_set g class 0)) a b (omega arith) x.2) (λ s p. inl refl),
  )

  -- fewer, and then those of the full one
  pub then_search : (t : ℕ) (a b d : Hand) → t < 100 → TriesAll g class 0 0 a b (Ok (NotFound t)) → (r : Result Search NoMemory) → TriesAll g class 1 t b d r → Searches g class a d r
  then_search t a b d few x r h = go r h
    where
      seen : HandSearches g class (t - 0) nothing nothing (SawEmpty (unswept_set g class 0)) a b
      seen = does-change (t - 0) nothing nothing (EnoughOr t (unswept_set g class 0)) (SawEmpty (unswept_set g class 0)) a b x.2 (λ s p. ⊎_elim (λ (e : t ≡ 100). absurd (omega arith)) (λ (e : SawEmpty (unswept_set g class 0) s). e) p)

      go : (r : Result Search NoMemory) → TriesAll g class 1 t b d r → Searches g class a d r
      go (Ok (Found k)) h = one_after (t - 0) (100 - t) 100 (SawEmpty (unswept_set g class 0)) a b d k (omega arith) seen h
      go (Ok (NotFound tried)) h = let l = h.0 in (
        h.1,
        after-nothing (t - 0) (tried - t) tried nothing nothing (SawEmpty (unswept_set g class 0)) (EnoughOr tried (unswept_set g class 1)) (TriedEnough g class tried) a b d seen h.2 (omega arith)
            (λ s f p q. ⊎_elim (λ (e : tried ≡ 100). inl e) (λ (e : SawEmpty (unswept_set g class 1) s). inr (s, f, refl, p, e)) q),
      )
      go (Err e) h = up_after (t - 0) (100 - t) 100 (SawEmpty (unswept_set g class 0)) a b d (omega arith) seen h

  -- ---- the unswept sets after the look into the swept partial one

  module _ (look : Look) (a b d : Hand) (x : LooksFirst g class a b (Err look)) where
    pub then_here : (k : Body) → Searches g class b d (Ok (Found k)) → Caches g class a d (Ok (SweptHere k))
    then_here k h = let o = out_before 0 _ a b d k x h.0 in (
      o.hands_out,
      o.marks,
      o.untouched,
      (
        h.1.0,
        h.1.1,
        after-nothing 0 h.1.0 h.1.0 (just k.page) (just k.page) (Saw (swept_set g class 0) look) (SweptIt k.page) _ a b d x h.1.2 (omega arith) (λ s f p q. (s, f, refl, (look, p), q)),
      ),
    )

    pub then_fresh : (tried : ℕ) → Searches g class b d (Ok (NotFound tried)) → Caches g class a d (Ok (NeedFresh look tried))
    then_fresh tried h = (h.0, after-nothing 0 tried tried nothing nothing (Saw (swept_set g class 0) look) (TriedEnough g class tried) _ a b d x h.1 (omega arith) (λ s f p q. (s, f, refl, p, q)))

    pub then_none : (e : NoMemory) → Searches g class b d (Err e) → Caches g class a d (Err e)
    then_none e h = up_after 0 100 100 (Saw (swept_set g class 0) look) a b d (omega arith) x h
