-- A call for a cached span that looks at heads and tails first.
use Rattle.std.proofs.Common.{◌≡◌, ℕ, ◌≤◌, List, [], ◌++◌, ap, subst, ◌∙◌, append_assoc, arith}
use Rattle.std.specs.Prelude.{Result, Ok, Err}
use Rattle.fallible_list.specs.declared.list.NoMemory.{NoMemory}
use Rattle.worker_log.specs.declared.Entry.{Entry}
use Rattle.worker_log.specs.SetNumbers.{swept_set, unswept_set}
use Rattle.worker_log.specs.Entries.{is_blank_look, is_empty_look, is_pop, is_pop_of, many}
use Rattle.worker_log.proofs.Logs.{many-append}
use Rattle.span_laws.specs.declared.said.Said.TheVariants.{Looks, Reads}
use Rattle.span_laws.specs.OwnSteps.{after_said}
use Rattle.span_laws.specs.Views.{Seen}
use Rattle.span_set.specs.declared.hand.Hand.{Hand}
use Rattle.span_set.specs.Pops.{LooksLast}
use Rattle.central_lists.specs.declared.answers.FromSets.{FromSets}
use Rattle.central_lists.specs.declared.answers.FromSets.TheVariants.{SweptPartial, SweptHere, NeedFresh}
use Rattle.central_lists.specs.declared.answers.Look.{Look}
use Rattle.central_lists.specs.declared.answers.Look.TheVariants.{Empty, NotYet}
use Rattle.central_lists.specs.declared.answers.Search.TheVariants.{NotFound}
use Rattle.central_lists.specs.Looks.{PoppedIt, Saw, SawEmpty, SawNone, SweptIt, Then, TriedEnough, AnyLog}
use Rattle.central_lists.specs.Works.{HandSearches, just, nothing}
use Rattle.central_lists.specs.Lists.{Caches}
use Rattle.central_lists.proofs.Joining.{after-nothing, hands_before, looked_all, marks_before, same_generation, then_fresh, then_search, up_after}

-- one look at a set of this number is the last one
pub one_look : (set : ℕ) (old mid new : Seen) (value at head tail : ℕ) → value ≡ old.view.generation → mid ≡ after_said (Reads 1 value) old → at ≡ set
    → new ≡ after_said (Looks at head tail) mid → many (is_pop at) mid.view.own.log ≤ head → LooksLast set head tail old new
one_look set old mid new value at head tail is read same view passed = subst (λ (s : ℕ). LooksLast s head tail old new) same (record {
  said = [];
  cells = [];
  looks = tt;
  view = view ∙ ap (after_said (Looks at head tail)) (read ∙ ap (λ (z : ℕ). after_said (Reads 1 z) old) is);
  passed = (let e = ap (λ (w : Seen). many (is_pop at) w.view.own.log) read in omega arith);
})

pub caches_at : (h g class : ℕ) (b d : Hand) (r : Result FromSets NoMemory) → h ≡ g → Caches h class b d r → Caches g class b d r
caches_at h g class b d r e x = subst (λ (z : ℕ). Caches z class b d r) e x

pub does_at : (h g class : ℕ) (P : ℕ → List Entry → Type 0) (b d : Hand) → h ≡ g → HandSearches h class 0 nothing nothing (P h) b d → HandSearches g class 0 nothing nothing (P g) b d
does_at h g class P b d e x = subst (λ (z : ℕ). HandSearches z class 0 nothing nothing (P z) b d) e x

-- looks behind looks
pub looked_both : (class : ℕ) (a b d : Hand) → HandSearches a.worker.view.generation class 0 nothing nothing AnyLog a b → HandSearches b.worker.view.generation class 0 nothing nothing AnyLog b d
    → HandSearches a.worker.view.generation class 0 nothing nothing AnyLog a d
looked_both class a b d x y = let g = a.worker.view.generation in
    after-nothing g class 0 0 0 nothing nothing AnyLog AnyLog AnyLog a b d x (does_at b.worker.view.generation g class (λ z. AnyLog) b d (same_generation a.worker b.worker x.keeps) y) (omega arith) (λ s f p q. tt)

module _ (g class : ℕ) where
  -- all three sets are seen empty, one after the other
  pub none_seen : (at : ℕ) (a b d e : Hand) → HandSearches g class 0 nothing nothing (Saw (swept_set g class 0) (Empty at)) a b
      → HandSearches g class 0 nothing nothing (SawEmpty (unswept_set g class 0)) b d → HandSearches g class 0 nothing nothing (SawEmpty (unswept_set g class 1)) d e
      → Caches g class a e (Ok (NeedFresh (Empty at) 0))
  none_seen at a b d e x y z =
      let low : 0 ≤ 100 = omega arith in
      then_fresh g class (Empty at) a b e x 0 (then_search g class 0 b d e (omega arith) (looked_all g class 0 0 b d low y) (Ok (NotFound 0)) (looked_all g class 1 0 d e low z))

  saw_more : (set : ℕ) (look : Look) (later first : List Entry) → Saw set look later → Saw set look (later ++ first)
  saw_more set (Empty at) later first s = let e = many-append (is_empty_look set at) later first in omega arith
  saw_more set (NotYet at) later first s = let e = many-append (is_blank_look set at) later first in omega arith

  -- what a log shows, it shows behind others
  then_more : (P Q : List Entry → Type 0) → ((later first : List Entry) → P later → P (later ++ first)) → (later first : List Entry) → Then P Q later → Then P Q (later ++ first)
  then_more P Q more later first t = (t.0, t.1 ++ first, ap (λ (l : List Entry). l ++ first) t.2 ∙ append_assoc t.0 t.1 first, more t.1 first t.3, t.4)

  -- a call behind looks
  pub looked_caches : (a b d : Hand) (r : Result FromSets NoMemory) → HandSearches g class 0 nothing nothing AnyLog a b → Caches g class b d r → Caches g class a d r
  looked_caches a b d (Ok (SweptPartial k)) x h = (
    hands_before g class 0 AnyLog a b d k x h.0,
    h.1,
    after-nothing g class 0 0 0 (just k.page) nothing AnyLog (PoppedIt g class k.page) (PoppedIt g class k.page) a b d x h.2 (omega arith)
        (λ s f p q. let e = many-append (is_pop_of (swept_set g class 0) k.page) s f in omega arith),
  )
  looked_caches a b d (Ok (SweptHere k)) x h = (
    hands_before g class 0 AnyLog a b d k x h.0,
    marks_before g class 0 AnyLog a b k x h.1,
    h.2,
    (
      h.3.0,
      h.3.1,
      after-nothing g class 0 h.3.0 h.3.0 (just k.page) (just k.page) AnyLog (Then (SawNone (swept_set g class 0)) (SweptIt k.page)) (Then (SawNone (swept_set g class 0)) (SweptIt k.page)) a b d x h.3.2 (omega arith)
          (λ s f p q. then_more (SawNone (swept_set g class 0)) (SweptIt k.page) (λ l m w. (w.0, saw_more (swept_set g class 0) w.0 l m w.1)) s f q),
    ),
  )
  looked_caches a b d (Ok (NeedFresh look tried)) x h = (
    h.0,
    after-nothing g class 0 tried tried nothing nothing AnyLog (Then (Saw (swept_set g class 0) look) (TriedEnough g class tried)) (Then (Saw (swept_set g class 0) look) (TriedEnough g class tried)) a b d x h.1 (omega arith)
        (λ s f p q. then_more (Saw (swept_set g class 0) look) (TriedEnough g class tried) (saw_more (swept_set g class 0) look) s f q),
  )
  looked_caches a b d (Err e) x h = up_after g class 0 100 100 AnyLog a b d (omega arith) x h
