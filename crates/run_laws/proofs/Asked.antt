-- What the requests of a cycle say of its objects.
use Rattle.std.proofs.Common.{◌≡◌, ℕ, ◌+◌, ◌/◌, ◌<◌, ◌≤◌, true, List, [], ◌∷◌, ◌++◌, map, reverse, length, refl, sym, ◌∙◌, ap, arith, inl, inr}
use Rattle.std.proofs.lemmas.List.{length-append, length-map, length-reverse, reverse-append}
use Rattle.page_alloc.specs.Lists.{In, AllApart}
use Rattle.trace_reader.specs.declared.trace.Trace.{Trace}
use Rattle.trace_reader.specs.declared.trace.Cycle.{Cycle}
use Rattle.trace_reader.specs.Limits.{AreCycles}
use Rattle.cycle_history.specs.Requests.{Request, Marking, requests_from, marked_by}
use Rattle.cycle_history.specs.Rules.{IsObject, AreAnswered}
use Rattle.sound_run.specs.Run.{Fits, IsJournal, Lasts}
use Rattle.cycle_history.proofs.Plain.{request_in}
use Rattle.cycle_history.proofs.Cycles.{requests-one}
use Rattle.sound_run.proofs.Lasting.{lasts-next}
use Rattle.page_bitmap.specs.declared.line.Line.{Line}
use Rattle.page_bitmap.specs.declared.line.Line.TheVariants.{Take, Miss, Give, Scav, Pull, Cut, Drop}
use Rattle.size_classes.specs.Classes.{pages_of}
use Rattle.page_alloc.specs.Lives.{Life, open_lives}
use Rattle.page_alloc.specs.FreeRuns.{IsSpanSize}
use Rattle.page_alloc.proofs.Lives.{from_others}
use Rattle.cycle_history.specs.Objects.{Object, is_placed}
use Rattle.run_laws.specs.Lists.{ArePaired}
use Rattle.worker_log.specs.Logs.{placings, refusals}
use Rattle.run_laws.specs.CycleSoFar.{CycleSoFar, past_after}
use Rattle.run_laws.specs.ObjectFacts.{IsPlacing, IsRefusal, missed_by, Objects}
use Rattle.cycle_history.specs.Profile.{placed_by}
use Rattle.run_laws.specs.Asked.{AreAnsweredFrom}

-- with the older ones they are the objects of all requests
pub answered-append : (requests older : List Request) (news objects : List Object) → AreAnsweredFrom (length older) requests news → AreAnswered older objects → AreAnswered (requests ++ older) (news ++ objects)
answered-append [] older [] objects now was = was
answered-append [] older (o ∷ news) objects now was = absurd now
answered-append (r ∷ requests) older [] objects now was = absurd now
answered-append (r ∷ requests) older (o ∷ news) objects now was =
    let same : length requests + length older ≡ length (requests ++ older) = sym (length-append requests older) in
    let one : IsObject r (length (requests ++ older)) o = rw same at now.0 in
    (one, answered-append requests older news objects now.1 was)

pub numbers-from : (n : ℕ) (requests : List Request) (news : List Object) (o : Object) → AreAnsweredFrom n requests news → In o news → (n ≤ o.id) × (o.id < length requests + n)
numbers-from n [] [] o all h = absurd h
numbers-from n [] (x ∷ news) o all h = absurd all
numbers-from n (r ∷ requests) [] o all h = absurd all
numbers-from n (r ∷ requests) (x ∷ news) o all h = elim h [
  | inl here ↦ (let e = all.0.id in let f : x.id ≡ o.id = ap (λ (y : Object). y.id) here in (omega arith, omega arith))
  | inr there ↦ (let rest = numbers-from n requests news o all.1 there in let low = rest.0 in let high = rest.1 in (low, omega arith))
]

-- their numbers rise
pub order-from : (n : ℕ) (requests : List Request) (news : List Object) → AreAnsweredFrom n requests news → AllApart (λ (newer older : Object). older.id < newer.id) news
order-from n [] [] all = tt
order-from n [] (x ∷ news) all = absurd all
order-from n (r ∷ requests) [] all = absurd all
order-from n (r ∷ requests) (x ∷ news) all = (
  (λ y h. (let e = all.0.id in let lt = (numbers-from n requests news y all.1 h).1 in omega arith)),
  order-from n requests news all.1,
)

-- they are of the requests' cycle
pub cycles-from : (n c : ℕ) (requests : List Request) (news : List Object) → AreAnsweredFrom n requests news → ((r : Request) → In r requests → r.cycle ≡ c) → (o : Object) → In o news → o.cycle ≡ c
cycles-from n c [] [] all of o h = absurd h
cycles-from n c [] (x ∷ news) all of o h = absurd all
cycles-from n c (r ∷ requests) [] all of o h = absurd all
cycles-from n c (r ∷ requests) (x ∷ news) all of o h = elim h [
  | inl here ↦ ap (λ (y : Object). y.cycle) (sym here) ∙ all.0.cycle ∙ of r (inl refl)
  | inr there ↦ cycles-from n c requests news all.1 (λ q i. of q (inr i)) o there
]

-- of all requests the objects have numbers below theirs
number-few : (requests : List Request) (objects : List Object) (b : Object) → AreAnswered requests objects → In b objects → b.id < length requests
number-few [] [] b all h = absurd h
number-few [] (x ∷ objects) b all h = absurd all
number-few (r ∷ requests) [] b all h = absurd h
number-few (r ∷ requests) (x ∷ objects) b all h = elim h [
  | inl here ↦ (let e = all.0.id in let f : x.id ≡ b.id = ap (λ (y : Object). y.id) here in omega arith)
  | inr there ↦ (let lt = number-few requests objects b all.1 there in omega arith)
]

-- which rise too
pub order-all : (requests : List Request) (objects : List Object) → AreAnswered requests objects → AllApart (λ (newer older : Object). older.id < newer.id) objects
order-all [] [] all = tt
order-all [] (x ∷ objects) all = absurd all
order-all (r ∷ requests) [] all = absurd all
order-all (r ∷ requests) (x ∷ objects) all = ((λ y h. (let e = all.0.id in let lt = number-few requests objects y all.1 h in omega arith)), order-all requests objects all.1)

-- and behind all older ones
pub behind-from : (requests older : List Request) (news objects : List Object) → AreAnsweredFrom (length older) requests news → AreAnswered older objects → (o b : Object) → In o news → In b objects → b.id < o.id
behind-from requests older news objects now was o b ho hb =
    let low = (numbers-from (length older) requests news o now ho).0 in
    let lt = number-few older objects b was hb in
    omega arith

-- ---- a trace, cycle by cycle

-- the requests of the cycles that are done, and of one more
pub answered-next : (done : List Cycle) (c : Cycle) (objects news : List Object) → AreAnswered (reverse (requests_from 0 done)) objects
    → AreAnsweredFrom (length (reverse (requests_from 0 done))) (reverse (map (request_in (length done)) c.events)) news → AreAnswered (reverse (requests_from 0 (done ++ c ∷ []))) (news ++ objects)
answered-next done c objects news was now =
    let one = requests-one done c in
    let both : reverse (requests_from 0 (done ++ c ∷ [])) ≡ reverse (map (request_in (length done)) c.events) ++ reverse (requests_from 0 done) =
    ap (λ (rs : List Request). reverse rs) one ∙ reverse-append (requests_from 0 done) (map (request_in (length done)) c.events) in
    rw both (answered-append (reverse (map (request_in (length done)) c.events)) (reverse (requests_from 0 done)) news objects now was)

-- the objects of a cycle last as the trace's marks say
pub news-last : (t : Trace) (done : List Cycle) (c : Cycle) (rest : List Cycle) (news : List Object) (o : Object) → AreCycles 0 (λ _. ⊥) t.cycles → t.cycles ≡ done ++ c ∷ rest
    → AreAnsweredFrom (length (reverse (requests_from 0 done))) (reverse (map (request_in (length done)) c.events)) news → o.cycle ≡ length done → In o news → Lasts (marked_by t) o
news-last t done c rest news o are cycles now of h =
    let many = numbers-from (length (reverse (requests_from 0 done))) (reverse (map (request_in (length done)) c.events)) news o now h in
    let a : length (reverse (requests_from 0 done)) ≡ length (requests_from 0 done) = length-reverse (requests_from 0 done) in
    let b : length (reverse (map (request_in (length done)) c.events)) ≡ length (map (request_in (length done)) c.events) = length-reverse (map (request_in (length done)) c.events) in
    let d : length (map (request_in (length done)) c.events) ≡ length c.events = length-map c.events (request_in (length done)) in
    let low = many.0 in
    let high = many.1 in
    lasts-next t done c rest o are cycles of (omega arith) (omega arith)

-- ---- all that is asked of a cycle's objects

-- an open life has the pages of its span class
pub open-size : (region goal : ℕ) (past : List Line) (life : Life) → IsJournal region goal past → In life (open_lives past) → IsSpanSize life.class life.pages
open-size region goal [] life legal h = absurd h
open-size region goal (Take cycle page pages class ∷ past) life legal h = elim h [
  | inl new ↦ rw (ap (λ (l : Life). l.class) (sym new), ap (λ (l : Life). l.pages) (sym new)) legal.0.0
  | inr there ↦ open-size region goal past life legal.2 there
]
open-size region goal (Miss cycle pages class ∷ past) life legal h = open-size region goal past life legal.2 h
open-size region goal (Give cycle page pages ∷ past) life legal h = open-size region goal past life legal.2 (from_others page (open_lives past) life h).0
open-size region goal (Scav cycle page pages ∷ past) life legal h = open-size region goal past life legal.2 h
open-size region goal (Pull cycle proc page pages ∷ past) life legal h = open-size region goal past life legal.2 h
open-size region goal (Cut cycle proc page pages class ∷ past) life legal h = elim h [
  | inl new ↦ rw (ap (λ (l : Life). l.class) (sym new), ap (λ (l : Life). l.pages) (sym new)) legal.0.2
  | inr there ↦ open-size region goal past life legal.2 there
]
open-size region goal (Drop cycle proc page pages ∷ past) life legal h = open-size region goal past life legal.2 h

-- so a small object's life has its pages
pub small-pages : (region goal : ℕ) (past : List Line) (life : Life) (o : Object) → IsJournal region goal past → In life (open_lives past) → life.class ≡ o.need.class → 2 ≤ o.need.class
    → o.need.pages ≡ pages_of (o.need.class / 2) → life.pages ≡ o.need.pages
small-pages region goal past life o legal h class small pages =
    let size = (open-size region goal past life legal h).0 (omega arith) in
    size.1 ∙ ap (λ (n : ℕ). pages_of (n / 2)) class ∙ sym pages

-- the objects of a cycle's requests, with what the logs say of them
pub objects-from : (marked : Marking) (requests older : List Request) (objects : List Object) (e : CycleSoFar) → AreAnsweredFrom (length older) requests e.news → AreAnswered older objects
    → ((r : Request) → In r requests → r.cycle ≡ e.cycle) → ((o : Object) → In o e.news → Lasts marked o) → ((o : Object) → In o e.news → is_placed o.answer ≡ true → Fits o.need)
    → ((w : ℕ) → ArePaired (IsPlacing (past_after e)) (placed_by w e.news) (placings (e.logs w))) → ((w : ℕ) → ArePaired IsRefusal (missed_by w e.news) (refusals (e.logs w)))
    → ((o : Object) (life : Life) → In o e.news → is_placed o.answer ≡ true → In life (open_lives (past_after e)) → life.number ≡ o.life → life.pages ≡ o.need.pages)
    → Objects marked objects e
objects-from marked requests older objects e now was of lasts fits placed missed pages = record {
  now = cycles-from (length older) e.cycle requests e.news now of;
  behind = behind-from requests older e.news objects now was;
  order = order-from (length older) requests e.news now;
  lasts = lasts;
  fits = fits;
  placed = placed;
  missed = missed;
  pages = pages;
}
