-- The objects of a cycle, from the requests, the answers and the logs.
use Rattle.std.proofs.Common.{◌≡◌, ◌≢◌, ℕ, ◌+◌, ◌*◌, ◌<◌, Bool, true, false, ◌&&◌, eqb, cond, List, [], ◌∷◌, map, length, refl, sym, ap, arith, inl, inr, subst}
use Rattle.std.proofs.lemmas.Bool.{cases_eq, eq-eqb, ne_eqb}
use Rattle.page_alloc.specs.Lists.{In}
use Rattle.trace_reader.specs.declared.trace.Event.{Event}
use Rattle.cycle_history.specs.declared.Answer.{Answer}
use Rattle.cycle_history.specs.declared.Answer.TheVariants.{Placed, Zero, Missed}
use Rattle.cycle_history.specs.Needs.{Need, IsNeed}
use Rattle.cycle_history.specs.Objects.{Object, is_placed}
use Rattle.cycle_history.specs.Rules.{IsObject}
use Rattle.cycle_history.proofs.Plain.{request_in}
use Rattle.size_classes.specs.Classes.{region_start}
use Rattle.sound_run.specs.Run.{Fits}
use Rattle.worker_log.specs.declared.Placing.{Placing}
use Rattle.worker_log.specs.declared.Entry.{Entry}
use Rattle.worker_log.specs.Logs.{Refusal}
use Rattle.run_laws.specs.Lists.{ArePaired}
use Rattle.run_laws.specs.ObjectFacts.{missed_by, IsRefusal}
use Rattle.cycle_history.specs.Profile.{placed_by}
use Rattle.run_laws.specs.Asked.{AreAnsweredFrom}
use Rattle.heap_run.specs.Served.{events_by, answers_by, IsMadeFor, IsPlacedBy, IsRefusedBy, Tells}
use Rattle.heap_run.proofs.Needs.{need-fits}

-- ---- the newest event's answer

pub record PlacedFirst (log : List Entry) (e : Event) (events : List Event) (address : ℕ) (answers : List Answer) (placed : List Placing) (refused : List Refusal) : Type 0 where
  pub a : Placing
  pub rest : List Placing
  pub is : placed ≡ a ∷ rest
  pub by : IsPlacedBy e address log a
  pub tells : Tells log events answers rest refused

pub placed-first : (log : List Entry) (e : Event) (events : List Event) (address : ℕ) (answers : List Answer) (placed : List Placing) (refused : List Refusal) → Tells log (e ∷ events) (Placed address ∷ answers) placed refused
    → PlacedFirst log e events address answers placed refused
placed-first log e events address answers [] refused h = absurd h
placed-first log e events address answers (a ∷ placed) refused h = record { a = a; rest = placed; is = refl; by = h.0; tells = h.1 }

pub record MissedFirst (log : List Entry) (e : Event) (events : List Event) (line : ℕ) (answers : List Answer) (placed : List Placing) (refused : List Refusal) : Type 0 where
  pub x : Refusal
  pub rest : List Refusal
  pub is : refused ≡ x ∷ rest
  pub by : IsRefusedBy e line x
  pub tells : Tells log events answers placed rest

pub missed-first : (log : List Entry) (e : Event) (events : List Event) (line : ℕ) (answers : List Answer) (placed : List Placing) (refused : List Refusal) → Tells log (e ∷ events) (Missed line ∷ answers) placed refused
    → MissedFirst log e events line answers placed refused
missed-first log e events line answers placed [] h = absurd h
missed-first log e events line answers placed (x ∷ refused) h = record { x = x; rest = refused; is = refl; by = h.0; tells = h.1 }

-- no events have no answers
pub none-tells : (log : List Entry) (answers : List Answer) (placed : List Placing) (refused : List Refusal) → Tells log [] answers placed refused → (answers ≡ []) × (placed ≡ []) × (refused ≡ [])
none-tells log [] [] [] h = (refl, refl, refl)
none-tells log [] [] (x ∷ refused) h = absurd h
none-tells log [] (a ∷ placed) refused h = absurd h
none-tells log (answer ∷ answers) placed refused h = absurd h

-- ---- one object more

-- The object is the one that was placed there, in the life to which the page is a seat: of its own pages, for a large one.
pub record IsSeated (seat : ℕ → ℕ) (log : List Entry) (o : Object) (a : Placing) : Type 0 where
  pub life : o.life ≡ seat a.page
  pub index : o.index ≡ a.index
  pub class : o.need.class ≡ a.class
  pub address : o.answer ≡ Placed (region_start + 8192 * a.page + o.need.slot * a.index)
  pub large : o.need.class < 2 → IsMadeFor log a o.need

-- The objects of some events of a cycle, n requests behind the first, with what each worker placed and was refused, where the seats tell the lives
-- of pages.
pub record AreObjects (seat : ℕ → ℕ) (c n : ℕ) (events : List Event) (answers : List Answer) (logs : ℕ → List Entry) (placed : ℕ → List Placing) (refused : ℕ → List Refusal) (news : List Object) : Type 0 where
  pub asked : AreAnsweredFrom n (map (request_in c) events) news
  pub printed : map (λ (o : Object). o.answer) news ≡ answers
  pub placed_are : (w : ℕ) → ArePaired (IsSeated seat (logs w)) (placed_by w news) (placed w)
  pub missed_are : (w : ℕ) → ArePaired IsRefusal (missed_by w news) (refused w)
  pub fits : (o : Object) → In o news → is_placed o.answer ≡ true → Fits o.need
  pub needs : (o : Object) → In o news → is_placed o.answer ≡ true → (size : ℕ) × (scan : Bool) × IsNeed size scan o.need

no_need : Need
no_need = record { class = 0; pages = 0; slot = 0; count = 0 }

-- other lists of workers' entries with the same items
same-objects : (seat : ℕ → ℕ) (c n : ℕ) (events : List Event) (answers : List Answer) (logs : ℕ → List Entry) (placed placed' : ℕ → List Placing) (refused refused' : ℕ → List Refusal) (news : List Object)
    → ((w : ℕ) → placed' w ≡ placed w) → ((w : ℕ) → refused' w ≡ refused w) → AreObjects seat c n events answers logs placed refused news → AreObjects seat c n events answers logs placed' refused' news
same-objects seat c n events answers logs placed placed' refused refused' news p r are = record {
  asked = are.asked;
  printed = are.printed;
  placed_are = λ w. rw (p w) (are.placed_are w);
  missed_are = λ w. rw (r w) (are.missed_are w);
  fits = are.fits;
  needs = are.needs;
}

-- a function with another value at one place
abbrev put : {X : Type 0} → (ℕ → X) → ℕ → X → ℕ → X
put f n x k = cond (eqb k n) x (f k)

-- a test that fails
skip : (b : Bool) (o : Object) (rest : List Object) → cond (b && false) (o ∷ rest) rest ≡ rest
skip true o rest = refl
skip false o rest = refl

zero-object : (seat : ℕ → ℕ) (c n : ℕ) (e : Event) (events : List Event) (answers : List Answer) (logs : ℕ → List Entry) (placed : ℕ → List Placing) (refused : ℕ → List Refusal) (news : List Object) → e.size ≡ 0
    → AreObjects seat c n events answers logs placed refused news → (all : List Object) × AreObjects seat c n (e ∷ events) (Zero ∷ answers) logs placed refused all
zero-object seat c n e events answers logs placed refused news none are =
    let o : Object = record { id = length (map (request_in c) events) + n; proc = e.proc; cycle = c; need = no_need; answer = Zero; life = 0; index = 0 } in
    let one : IsObject (request_in c e) (length (map (request_in c) events) + n) o = record { id = refl; proc = refl; cycle = refl; zero = ((λ z. none), (λ z. refl)); need = λ some. absurd (omega arith) } in
    let off-placed : (w : ℕ) → placed_by w (o ∷ news) ≡ placed_by w news = λ w. skip (eqb e.proc w) o (placed_by w news) in
    let off-missed : (w : ℕ) → missed_by w (o ∷ news) ≡ missed_by w news = λ w. skip (eqb e.proc w) o (missed_by w news) in (
      o ∷ news,
      record {
        asked = (one, are.asked);
        printed = ap (λ (xs : List Answer). Zero ∷ xs) are.printed;
        placed_are = λ w. rw (off-placed w) (are.placed_are w);
        missed_are = λ w. rw (off-missed w) (are.missed_are w);
        fits = λ b h is. elim h [ inl here ↦ absurd (never b here is) | inr there ↦ are.fits b there is ];
        needs = λ b h is. elim h [ inl here ↦ absurd (never b here is) | inr there ↦ are.needs b there is ];
      },
    )
  where
    never : (b : Object) → record { id = length (map (request_in c) events) + n; proc = e.proc; cycle = c; need = no_need; answer = Zero; life = 0; index = 0 } ≡ b → is_placed b.answer ≡ true → ⊥
    never b here is = let f : Zero ≡ b.answer = ap (λ (x : Object). x.answer) here in let g : is_placed Zero ≡ is_placed b.answer = ap is_placed f in let no : ⊥ = cc in no

placed-object : (seat : ℕ → ℕ) (c n : ℕ) (e : Event) (events : List Event) (address : ℕ) (answers : List Answer) (logs : ℕ → List Entry) (placed : ℕ → List Placing) (refused : ℕ → List Refusal) (news : List Object) (a : Placing) (rest : List Placing)
    → placed e.proc ≡ a ∷ rest → IsPlacedBy e address (logs e.proc) a → AreObjects seat c n events answers logs (put placed e.proc rest) refused news
    → (all : List Object) × AreObjects seat c n (e ∷ events) (Placed address ∷ answers) logs placed refused all
placed-object seat c n e events address answers logs placed refused news a rest is by are =
    let o : Object = record { id = length (map (request_in c) events) + n; proc = e.proc; cycle = c; need = by.need; answer = Placed address; life = seat a.page; index = a.index } in
    let one : IsObject (request_in c e) (length (map (request_in c) events) + n) o = record {
      id = refl;
      proc = refl;
      cycle = refl;
      zero = ((λ z. (let no : ⊥ = cc in absurd no)), (λ z. (let some = by.some in absurd (omega arith))));
      need = λ some. by.fits;
    } in
    let is_seated : IsSeated seat (logs e.proc) o a = record { life = refl; index = refl; class = by.class; address = ap (λ (k : ℕ). Placed k) by.address_is; large = by.large } in
    let off-missed : (w : ℕ) → missed_by w (o ∷ news) ≡ missed_by w news = λ w. skip (eqb e.proc w) o (missed_by w news) in (
      o ∷ news,
      record {
        asked = (one, are.asked);
        printed = ap (λ (xs : List Answer). Placed address ∷ xs) are.printed;
        placed_are = λ w. elim (cases_eq e.proc w) [
          | inl same ↦ (
              let first : placed_by w (o ∷ news) ≡ o ∷ placed_by w news = rw (eq-eqb e.proc w same) refl in
              let list : placed w ≡ a ∷ rest = subst (λ (k : ℕ). placed k ≡ a ∷ rest) same is in
              let now : put placed e.proc rest w ≡ rest = rw (eq-eqb w e.proc (sym same)) refl in
              let tail : ArePaired (IsSeated seat (logs w)) (placed_by w news) rest = rw now at (are.placed_are w) in
              let mine : IsSeated seat (logs w) o a = subst (λ (k : ℕ). IsSeated seat (logs k) o a) same is_seated in
              rw (first, list) (mine, tail))
          | inr other ↦ (
              let first : placed_by w (o ∷ news) ≡ placed_by w news = rw (ne_eqb e.proc w other) refl in
              let now : put placed e.proc rest w ≡ placed w = rw (ne_eqb w e.proc (λ q. other (sym q))) refl in
              let tail : ArePaired (IsSeated seat (logs w)) (placed_by w news) (placed w) = rw now at (are.placed_are w) in
              rw first tail)
        ];
        missed_are = λ w. rw (off-missed w) (are.missed_are w);
        fits = λ b h is_b. elim h [ inl here ↦ rw (sym here) (need-fits e.size e.scan by.need by.some by.fits) | inr there ↦ are.fits b there is_b ];
        needs = λ b h is_b. elim h [ inl here ↦ (e.size, e.scan, rw (sym here) by.fits) | inr there ↦ are.needs b there is_b ];
      },
    )

missed-object : (seat : ℕ → ℕ) (c n : ℕ) (e : Event) (events : List Event) (line : ℕ) (answers : List Answer) (logs : ℕ → List Entry) (placed : ℕ → List Placing) (refused : ℕ → List Refusal) (news : List Object) (x : Refusal) (rest : List Refusal)
    → refused e.proc ≡ x ∷ rest → IsRefusedBy e line x → AreObjects seat c n events answers logs placed (put refused e.proc rest) news
    → (all : List Object) × AreObjects seat c n (e ∷ events) (Missed line ∷ answers) logs placed refused all
missed-object seat c n e events line answers logs placed refused news x rest is by are =
    let o : Object = record { id = length (map (request_in c) events) + n; proc = e.proc; cycle = c; need = by.need; answer = Missed line; life = 0; index = 0 } in
    let one : IsObject (request_in c e) (length (map (request_in c) events) + n) o = record {
      id = refl;
      proc = refl;
      cycle = refl;
      zero = ((λ z. (let no : ⊥ = cc in absurd no)), (λ z. (let some = by.some in absurd (omega arith))));
      need = λ some. by.fits;
    } in
    let is_refusal : IsRefusal o x = record { answer = ap (λ (k : ℕ). Missed k) (sym by.number); pages = by.pages; class = by.class } in
    let off-placed : (w : ℕ) → placed_by w (o ∷ news) ≡ placed_by w news = λ w. skip (eqb e.proc w) o (placed_by w news) in
    let never : (b : Object) → o ≡ b → is_placed b.answer ≡ true → ⊥ = λ b here is_b. (
    let f : Missed line ≡ b.answer = ap (λ (y : Object). y.answer) here in
    let g : is_placed (Missed line) ≡ is_placed b.answer = ap is_placed f in
    let no : ⊥ = cc in no) in (
      o ∷ news,
      record {
        asked = (one, are.asked);
        printed = ap (λ (xs : List Answer). Missed line ∷ xs) are.printed;
        placed_are = λ w. rw (off-placed w) (are.placed_are w);
        missed_are = λ w. elim (cases_eq e.proc w) [
          | inl same ↦ (
              let first : missed_by w (o ∷ news) ≡ o ∷ missed_by w news = rw (eq-eqb e.proc w same) refl in
              let list : refused w ≡ x ∷ rest = subst (λ (k : ℕ). refused k ≡ x ∷ rest) same is in
              let now : put refused e.proc rest w ≡ rest = rw (eq-eqb w e.proc (sym same)) refl in
              let tail : ArePaired IsRefusal (missed_by w news) rest = rw now at (are.missed_are w) in
              rw (first, list) (is_refusal, tail))
          | inr other ↦ (
              let first : missed_by w (o ∷ news) ≡ missed_by w news = rw (ne_eqb e.proc w other) refl in
              let now : put refused e.proc rest w ≡ refused w = rw (ne_eqb w e.proc (λ q. other (sym q))) refl in
              let tail : ArePaired IsRefusal (missed_by w news) (refused w) = rw now at (are.missed_are w) in
              rw first tail)
        ];
        fits = λ b h is_b. elim h [ inl here ↦ absurd (never b here is_b) | inr there ↦ are.fits b there is_b ];
        needs = λ b h is_b. elim h [ inl here ↦ absurd (never b here is_b) | inr there ↦ are.needs b there is_b ];
      },
    )

-- ---- all objects of the cycle

abbrev AllTell : List Event → List Answer → (ℕ → List Entry) → (ℕ → List Placing) → (ℕ → List Refusal) → Type 0
AllTell events answers logs placed refused = (w : ℕ) → Tells (logs w) (events_by w events) (answers_by w events answers) (placed w) (refused w)

-- what the newest event's own log tells
first-tells : (e : Event) (events : List Event) (a : Answer) (answers : List Answer) (logs : ℕ → List Entry) (placed : ℕ → List Placing) (refused : ℕ → List Refusal) → AllTell (e ∷ events) (a ∷ answers) logs placed refused
    → Tells (logs e.proc) (e ∷ events_by e.proc events) (a ∷ answers_by e.proc events answers) (placed e.proc) (refused e.proc)
first-tells e events a answers logs placed refused h = rw (eq-eqb e.proc e.proc refl) at (h e.proc)

-- the logs without the newest event's entry
rest-tell : (e : Event) (events : List Event) (a : Answer) (answers : List Answer) (logs : ℕ → List Entry) (placed placed' : ℕ → List Placing) (refused refused' : ℕ → List Refusal) → AllTell (e ∷ events) (a ∷ answers) logs placed refused
    → ((w : ℕ) → e.proc ≢ w → placed' w ≡ placed w) → ((w : ℕ) → e.proc ≢ w → refused' w ≡ refused w)
    → Tells (logs e.proc) (events_by e.proc events) (answers_by e.proc events answers) (placed' e.proc) (refused' e.proc) → AllTell events answers logs placed' refused'
rest-tell e events a answers logs placed placed' refused refused' h p r own w =
    elim (cases_eq e.proc w) [
      | inl same ↦ subst (λ (k : ℕ). Tells (logs k) (events_by k events) (answers_by k events answers) (placed' k) (refused' k)) same own
      | inr other ↦ (
          let there : Tells (logs w) (events_by w events) (answers_by w events answers) (placed w) (refused w) = rw (ne_eqb e.proc w other) at (h w) in
          rw (p w other, r w other) there)
    ]

put-same : {X : Type 0} (f : ℕ → X) (n : ℕ) (x : X) → put f n x n ≡ x
put-same f n x = rw (eq-eqb n n refl) refl

put-other : {X : Type 0} (f : ℕ → X) (n : ℕ) (x : X) (k : ℕ) → n ≢ k → put f n x k ≡ f k
put-other f n x k other = rw (ne_eqb k n (λ q. other (sym q))) refl

pub objects-of : (seat : ℕ → ℕ) (c n : ℕ) (events : List Event) (answers : List Answer) (logs : ℕ → List Entry) (placed : ℕ → List Placing) (refused : ℕ → List Refusal) → length answers ≡ length events
    → AllTell events answers logs placed refused → (news : List Object) × AreObjects seat c n events answers logs placed refused news
objects-of seat c n [] [] logs placed refused same h = (
  [],
  record {
    asked = tt;
    printed = refl;
    placed_are = λ w. rw ((none-tells (logs w) [] (placed w) (refused w) (h w)).1) tt;
    missed_are = λ w. rw ((none-tells (logs w) [] (placed w) (refused w) (h w)).2) tt;
    fits = λ o i. absurd i;
    needs = λ o i. absurd i;
  },
)
objects-of seat c n [] (a ∷ answers) logs placed refused same h = absurd (omega arith)
objects-of seat c n (e ∷ events) [] logs placed refused same h = absurd (omega arith)
objects-of seat c n (e ∷ events) (Zero ∷ answers) logs placed refused same h =
    let at = first-tells e events Zero answers logs placed refused h in
    let rest = objects-of seat c n events answers logs placed refused (omega arith) (rest-tell e events Zero answers logs placed placed refused refused h (λ w q. refl) (λ w q. refl) at.1) in
    zero-object seat c n e events answers logs placed refused rest.0 at.0 rest.1
objects-of seat c n (e ∷ events) (Placed address ∷ answers) logs placed refused same h =
    let at = placed-first (logs e.proc) e (events_by e.proc events) address (answers_by e.proc events answers) (placed e.proc) (refused e.proc) (first-tells e events (Placed address) answers logs placed refused h) in
    let own : Tells (logs e.proc) (events_by e.proc events) (answers_by e.proc events answers) (put placed e.proc at.rest e.proc) (refused e.proc) = rw (put-same placed e.proc at.rest) at.tells in
    let rest = objects-of seat c n events answers logs (put placed e.proc at.rest) refused (omega arith)
    (rest-tell e events (Placed address) answers logs placed (put placed e.proc at.rest) refused refused h (λ w q. put-other placed e.proc at.rest w q) (λ w q. refl) own) in
    placed-object seat c n e events address answers logs placed refused rest.0 at.a at.rest at.is at.by rest.1
objects-of seat c n (e ∷ events) (Missed line ∷ answers) logs placed refused same h =
    let at = missed-first (logs e.proc) e (events_by e.proc events) line (answers_by e.proc events answers) (placed e.proc) (refused e.proc) (first-tells e events (Missed line) answers logs placed refused h) in
    let own : Tells (logs e.proc) (events_by e.proc events) (answers_by e.proc events answers) (placed e.proc) (put refused e.proc at.rest e.proc) = rw (put-same refused e.proc at.rest) at.tells in
    let rest = objects-of seat c n events answers logs placed (put refused e.proc at.rest) (omega arith)
    (rest-tell e events (Missed line) answers logs placed placed refused (put refused e.proc at.rest) h (λ w q. refl) (λ w q. put-other refused e.proc at.rest w q) own) in
    missed-object seat c n e events line answers logs placed refused rest.0 at.x at.rest at.is at.by rest.1
