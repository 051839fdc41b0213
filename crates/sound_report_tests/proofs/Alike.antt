-- Objects that answer the same requests alike meet the same rules.
use Rattle.std.proofs.Common.{◌≡◌, ◌≢◌, ℕ, ◌≤◌, Bool, true, false, List, [], ◌∷◌, length, map, refl, sym, ◌∙◌, ap, ap₂, subst, arith, inl, inr}
use Rattle.std.specs.List.{AllZip}
use Rattle.std.proofs.lemmas.Bool.{cases_Bool}
use Rattle.page_bitmap.specs.declared.line.Line.{Line}
use Rattle.page_bitmap.specs.declared.line.Line.TheVariants.{Miss}
use Rattle.page_alloc.specs.Lists.{In, IsNumber}
use Rattle.page_alloc.specs.Lives.{Life, open_lives}
use Rattle.page_alloc.specs.Journal.{at_end}
use Rattle.cycle_history.specs.declared.Answer.{Answer}
use Rattle.cycle_history.specs.declared.Answer.TheVariants.{Zero, Missed}
use Rattle.cycle_history.specs.Needs.{Need}
use Rattle.cycle_history.specs.Requests.{Request, Marking}
use Rattle.cycle_history.specs.Objects.{Object, is_placed, live, Sits, IsSeated, IsHeld}
use Rattle.cycle_history.specs.Rules.{IsObject, AreAnswered, IsSmall, AreMissed, AreSeated, AreApart, AreFilled}
use Rattle.sound_report_tests.proofs.Needs.{need_for, need_for-is, need-one, need-slot}
use Rattle.sound_report_tests.proofs.Places.{index_in, sits_in, index-sits, Decides-sits_in, Decides-sits_at}

-- ---- the objects of a report, with the seats that their addresses give

abbrev pub object_for : Request → ℕ → Answer → Object
object_for r n answer = record { id = n; proc = r.event.proc; cycle = r.cycle; need = need_for r.event.size r.event.scan; answer = answer; life = 0; index = 0 }

abbrev pub put_at : Object → Life → Object
put_at o life = record o { life = life.number; index = index_in o life }

abbrev pub first_seat : Object → List Life → Object
first_seat o [] = o
first_seat o (life ∷ lives) = elim (sits_in o life) [ true ↦ put_at o life | false ↦ first_seat o lives ]

abbrev pub seated : List Line → Object → Object
seated past o = first_seat o (open_lives (at_end o.cycle past))

abbrev pub seated_objects : List Line → List Request → List Answer → List Object
seated_objects past [] answers = []
seated_objects past (r ∷ requests) [] = []
seated_objects past (r ∷ requests) (answer ∷ answers) = seated past (object_for r (length requests) answer) ∷ seated_objects past requests answers

-- ---- alike but for the seat

pub record IsLike (o c : Object) : Type 0 where
  pub id : o.id ≡ c.id
  pub proc : o.proc ≡ c.proc
  pub cycle : o.cycle ≡ c.cycle
  pub answer : o.answer ≡ c.answer
  pub need : o.answer ≢ Zero → o.need ≡ c.need
  pub slot : c.answer ≢ Zero → 1 ≤ c.need.slot

pub record IsSame (o c : Object) : Type 0 where
  pub like : IsLike o c
  pub life : is_placed o.answer ≡ true → o.life ≡ c.life
  pub index : is_placed o.answer ≡ true → o.index ≡ c.index

first-like : (o b : Object) (lives : List Life) → IsLike o b → IsLike o (first_seat b lives)
first-like o b [] like = like
first-like o b (life ∷ lives) like = by (sits_in b life) (first-like o b lives like)
  where
    by : (test : Bool) → IsLike o (first_seat b lives) → IsLike o (elim test [ true ↦ put_at b life | false ↦ first_seat b lives ])
    by true rest = record { id = like.id; proc = like.proc; cycle = like.cycle; answer = like.answer; need = like.need; slot = like.slot }
    by false rest = rest

object-like : (r : Request) (n : ℕ) (o : Object) → IsObject r n o → IsLike o (object_for r n o.answer)
object-like r n o is =
    let sized : o.answer ≢ Zero → 1 ≤ r.event.size = λ not_zero. sized_from r.event.size (λ none. not_zero (is.zero.1 none)) in
    record {
      id = is.id;
      proc = is.proc;
      cycle = is.cycle;
      answer = refl;
      need = λ not_zero. need-one r.event.size r.event.scan o.need (need_for r.event.size r.event.scan) (is.need (sized not_zero)) (need_for-is r.event.size r.event.scan);
      slot = λ not_zero. need-slot r.event.size r.event.scan (need_for r.event.size r.event.scan) (sized not_zero) (need_for-is r.event.size r.event.scan);
    }
  where
    sized_from : (size : ℕ) → (size ≡ 0 → ⊥) → 1 ≤ size
    sized_from size some = omega arith

pub answered-like : (past : List Line) (requests : List Request) (objects : List Object) → AreAnswered requests objects → AllZip IsLike objects (seated_objects past requests (map (λ (o : Object). o.answer) objects))
answered-like past [] [] is = tt
answered-like past [] (o ∷ objects) is = absurd is
answered-like past (r ∷ requests) [] is = absurd is
answered-like past (r ∷ requests) (o ∷ objects) is = (first-like o (object_for r (length requests) o.answer) (open_lives (at_end r.cycle past)) (object-like r (length requests) o is.0), answered-like past requests objects is.1)

-- ---- the same seat

sits-like : (o b : Object) (life : Life) (k : ℕ) → IsLike o b → Sits o life k → Sits b life k
sits-like o b life k like sits =
    let a = sits.address in
    let e : o.need ≡ b.need = like.need (λ z. (let none : ⊥ = cc in none)) in
    let f = like.answer in
    record { class = sits.class ∙ ap (λ (n : Need). n.class) e; pages = sits.pages ∙ ap (λ (n : Need). n.pages) e; index = rw e at sits.index; address = sym f ∙ (rw e at a) }

placed-not_zero : (answer : Answer) → is_placed answer ≡ true → answer ≢ Zero
placed-not_zero answer placed z = (let e : is_placed answer ≡ false = ap is_placed z in let none : ⊥ = cc in none)

open_at : (past : List Line) (life : Life) (c d : ℕ) → c ≡ d → In life (open_lives (at_end c past)) → In life (open_lives (at_end d past))
open_at past life c d e i = subst (λ (n : ℕ). In life (open_lives (at_end n past))) e i

held_at : (marked : Marking) (objects : List Object) (c d before later n m k : ℕ) → c ≡ d → before ≡ later → n ≡ m → IsHeld marked objects c before n k → IsHeld marked objects d later m k
held_at marked objects c d before later n m k e1 e2 e3 held = rw (sym e1, sym e2, sym e3) held

abbrev IsFound : Object → List Life → Object → Type 0
IsFound b lives seat = (found : Life) × In found lives × (sits_in b found ≡ true) × (seat ≡ put_at b found)

-- the life that is found first has the index at which the object sits
seat-found : (b : Object) (lives : List Life) (life : Life) → In life lives → sits_in b life ≡ true
    → IsFound b lives (first_seat b lives)
seat-found b [] life i sits = absurd i
seat-found b (first ∷ lives) life i sits = by (sits_in b first) refl (λ there. seat-found b lives life there sits)
  where
    by : (test : Bool) → sits_in b first ≡ test → (In life lives → IsFound b lives (first_seat b lives))
        → IsFound b (first ∷ lives) (elim test [ true ↦ put_at b first | false ↦ first_seat b lives ])
    by true e rest = (first, inl refl, e, refl)
    by false e rest = elim i [
      | inl here ↦ (let e2 : sits_in b first ≡ true = subst (λ (l : Life). sits_in b l ≡ true) (sym here) sits in let none : ⊥ = cc in absurd none)
      | inr there ↦ (let r = rest there in (r.0, inr r.1, r.2, r.3))
    ]

seat-same : (marked : Marking) (past : List Line) (o b : Object) (life : Life) → IsLike o b → IsSeated marked past o life → is_placed o.answer ≡ true → IsSame o (seated past b)
seat-same marked past o b life like seat placed =
    let not_zero : b.answer ≢ Zero = λ z. placed-not_zero o.answer placed (like.answer ∙ z) in
    let some = like.slot not_zero in
    let sits = sits-like o b life o.index like seat.sits in
    let here : In life (open_lives (at_end b.cycle past)) = open_at past life o.cycle b.cycle like.cycle seat.here in
    let at = seat-found b (open_lives (at_end b.cycle past)) life here ((Decides-sits_in b life some).1 (o.index, sits)) in
    let there : In at.0 (open_lives (at_end o.cycle past)) = open_at past at.0 b.cycle o.cycle (sym like.cycle) at.1 in
    let sits_found = (Decides-sits_at b at.0 (index_in b at.0)).0 at.2 in
    let sits_back : Sits o at.0 (index_in b at.0) = sits-back o b at.0 (index_in b at.0) like placed sits_found in
    let one : at.0 ≡ life = seat.only at.0 (index_in b at.0) there sits_back in
    let number : o.life ≡ at.0.number = sym (ap (λ (l : Life). l.number) one ∙ seat.number) in
    let index : o.index ≡ index_in b at.0 = sym (ap (λ (l : Life). index_in b l) one ∙ index-sits b life o.index some sits) in
    record {
      like = first-like o b (open_lives (at_end b.cycle past)) like;
      life = λ p. number ∙ sym (ap (λ (x : Object). x.life) at.3);
      index = λ p. index ∙ sym (ap (λ (x : Object). x.index) at.3);
    }
  where
    sits-back : (o b : Object) (life : Life) (k : ℕ) → IsLike o b → is_placed o.answer ≡ true → Sits b life k → Sits o life k
    sits-back o b life k like placed sits =
        let a = sits.address in
        let e : b.need ≡ o.need = sym (like.need (placed-not_zero o.answer placed)) in
        record { class = sits.class ∙ ap (λ (n : Need). n.class) e; pages = sits.pages ∙ ap (λ (n : Need). n.pages) e; index = rw e at sits.index; address = like.answer ∙ (rw e at a) }

pub seated-same : (marked : Marking) (past : List Line) (requests : List Request) (objects : List Object) → AreAnswered requests objects → AreSeated marked past objects
    → AllZip IsSame objects (seated_objects past requests (map (λ (o : Object). o.answer) objects))
seated-same marked past [] [] is seats = tt
seated-same marked past [] (o ∷ objects) is seats = absurd is
seated-same marked past (r ∷ requests) [] is seats = absurd is
seated-same marked past (r ∷ requests) (o ∷ objects) is seats =
    let b = object_for r (length requests) o.answer in
    let like = object-like r (length requests) o is.0 in
    let rest = seated-same marked past requests objects is.1 (λ x i. seats x (inr i)) in
    elim (cases_Bool (is_placed o.answer)) [
      | inl placed ↦ (let seat = seats o (inl refl) placed in (seat-same marked past o b seat.0 like seat.1 placed, rest))
      | inr isnt ↦ (record { like = first-like o b (open_lives (at_end r.cycle past)) like; life = λ p. (let none : ⊥ = cc in absurd none); index = λ p. (let none : ⊥ = cc in absurd none) }, rest)
    ]

-- ---- the rules

pub from_right : (R : Object → Object → Type 0) (os cs : List Object) → AllZip R os cs → (c : Object) → In c cs → (o : Object) × In o os × R o c
from_right R [] [] all c i = absurd i
from_right R [] (x ∷ cs) all c i = absurd all
from_right R (x ∷ os) [] all c i = absurd all
from_right R (o ∷ os) (x ∷ cs) all c i = elim i [
  | inl here ↦ (o, inl refl, subst (λ (y : Object). R o y) here all.0)
  | inr there ↦ (let r = from_right R os cs all.1 c there in (r.0, inr r.1, r.2))
]

pub from_left : (R : Object → Object → Type 0) (os cs : List Object) → AllZip R os cs → (o : Object) → In o os → (c : Object) × In c cs × R o c
from_left R [] [] all o i = absurd i
from_left R [] (x ∷ cs) all o i = absurd all
from_left R (x ∷ os) [] all o i = absurd all
from_left R (x ∷ os) (c ∷ cs) all o i = elim i [
  | inl here ↦ (c, inl refl, subst (λ (y : Object). R y c) here all.0)
  | inr there ↦ (let r = from_left R os cs all.1 o there in (r.0, inr r.1, r.2))
]

pub live-like : (marked : Marking) (m : ℕ) (o c : Object) → IsLike o c → live marked m o ≡ live marked m c
live-like marked m o c like = let e1 = like.answer in let e2 = like.cycle in let e3 = like.id in cc

pub need-like : (o c : Object) → IsLike o c → is_placed c.answer ≡ true → o.need ≡ c.need
need-like o c like placed = like.need (λ z. placed-not_zero c.answer placed (sym like.answer ∙ z))

pub missed-alike : (past : List Line) (os cs : List Object) → AllZip IsLike os cs → AreMissed past os → AreMissed past cs
missed-alike past os cs all missed = record {
  named = λ c i line e. (
      let o = from_right IsLike os cs all c i in
      let f : o.0.answer ≡ Missed line = o.2.answer ∙ e in
      let n : o.0.need ≡ c.need = o.2.need (λ z. (let none : ⊥ = cc in none)) in
      let h = missed.named o.0 o.1 line f in
      let g : Miss o.0.cycle o.0.need.pages o.0.need.class ≡ Miss c.cycle c.need.pages c.need.class = ap₂ (λ (cycle : ℕ) (need : Need). Miss cycle need.pages need.class) o.2.cycle n in
      subst (λ (x : Line). IsNumber line x past) g h);
  once = λ a b line ha hb ea eb. (
      let p = from_right IsLike os cs all a ha in
      let q = from_right IsLike os cs all b hb in
      sym p.2.id ∙ missed.once p.0 q.0 line p.1 q.1 (p.2.answer ∙ ea) (q.2.answer ∙ eb) ∙ q.2.id);
}

pub apart-alike : (marked : Marking) (os cs : List Object) → AllZip IsLike os cs → AreApart marked os → AreApart marked cs
apart-alike marked os cs all apart m a b ha hb ne la lb =
    let p = from_right IsLike os cs all a ha in
    let q = from_right IsLike os cs all b hb in
    let lp = live-like marked m p.0 a p.2 ∙ la in
    let lq = live-like marked m q.0 b q.2 ∙ lb in
    let far = apart m p.0 q.0 p.1 q.1 (λ e. ne (sym p.2.id ∙ e ∙ q.2.id)) lp lq in
    λ x y ea eb. (
    let ep : p.0.need ≡ a.need = p.2.need (λ z. (let e = p.2.answer in let none : ⊥ = cc in none)) in
    let eq : q.0.need ≡ b.need = q.2.need (λ z. (let e = q.2.answer in let none : ⊥ = cc in none)) in
    let h = far x y (p.2.answer ∙ ea) (q.2.answer ∙ eb) in
    rw (ep, eq) at h)

pub seated-alike : (marked : Marking) (past : List Line) (os cs : List Object) → AllZip IsSame os cs → AreSeated marked past os → AreSeated marked past cs
seated-alike marked past os cs all seats c i placed =
    let o = from_right IsSame os cs all c i in
    let like = o.2.like in
    let was : is_placed o.0.answer ≡ true = ap is_placed like.answer ∙ placed in
    let seat = seats o.0 o.1 was in
    let life = seat.0 in
    let s = seat.1 in
    let e : o.0.need ≡ c.need = need-like o.0 c like placed in (
      life,
      record {
        number = s.number ∙ o.2.life was;
        here = open_at past life o.0.cycle c.cycle like.cycle s.here;
        sits = subst (λ (k : ℕ). Sits c life k) (o.2.index was) (sits-like o.0 c life o.0.index like s.sits);
        only = λ other k h sits. s.only other k (open_at past other c.cycle o.0.cycle (sym like.cycle) h) (record {
          class = sits.class ∙ sym (ap (λ (n : Need). n.class) e);
          pages = sits.pages ∙ sym (ap (λ (n : Need). n.pages) e);
          index = rw (sym e) at sits.index;
          address = like.answer ∙ (rw (sym e) at sits.address);
        });
        stays = λ m l. s.stays m (live-like marked m o.0 c like ∙ l);
      },
    )

held-alike : (marked : Marking) (os cs : List Object) (m before n k : ℕ) → AllZip IsSame os cs → IsHeld marked os m before n k → IsHeld marked cs m before n k
held-alike marked os cs m before n k all held =
    let c = from_left IsSame os cs all held.0 held.1 in
    let h = held.2 in
    let like = c.2.like in
    let e1 = like.id in
    let e2 = like.cycle in (
      c.0,
      c.1,
      record {
        placed = sym (ap is_placed like.answer) ∙ h.placed;
        life = sym (c.2.life h.placed) ∙ h.life;
        index = sym (c.2.index h.placed) ∙ h.index;
        when = elim h.when [ inl mark ↦ inl (rw e1 at mark) | inr early ↦ inr (sym e2 ∙ early.0, rw e1 at early.1) ];
      },
    )

small-alike : (o c : Object) → IsLike o c → IsSmall c → IsSmall o
small-alike o c like small = (ap is_placed like.answer ∙ small.0, rw (sym (need-like o c like small.0)) at small.1)

pub filled-alike : (marked : Marking) (os cs : List Object) → AllZip IsSame os cs → AreFilled marked os → AreFilled marked cs
filled-alike marked os cs all filled = record {
  one_processor = λ a b ha hb sa sb cycle life. (
      let p = from_right IsSame os cs all a ha in
      let q = from_right IsSame os cs all b hb in
      let sp = small-alike p.0 a p.2.like sa in
      let sq = small-alike q.0 b q.2.like sb in
      sym p.2.like.proc ∙ filled.one_processor p.0 q.0 p.1 q.1 sp sq (p.2.like.cycle ∙ cycle ∙ sym q.2.like.cycle) (p.2.life sp.0 ∙ life ∙ sym (q.2.life sq.0)) ∙ q.2.like.proc);
  no_gap = λ c i small j lt. (
      let o = from_right IsSame os cs all c i in
      let so = small-alike o.0 c o.2.like small in
      let e1 : o.0.index ≡ c.index = o.2.index so.0 in
      let held = filled.no_gap o.0 o.1 so j (omega arith) in
      held_at marked cs o.0.cycle c.cycle o.0.id c.id o.0.life c.life j o.2.like.cycle o.2.like.id (o.2.life so.0) (held-alike marked os cs o.0.cycle o.0.id o.0.life j all held));
  full_first = λ a b ha hb sa sb cycle proc class before life j lt. (
      let p = from_right IsSame os cs all a ha in
      let q = from_right IsSame os cs all b hb in
      let sp = small-alike p.0 a p.2.like sa in
      let sq = small-alike q.0 b q.2.like sb in
      let ep : p.0.need ≡ a.need = need-like p.0 a p.2.like sa.0 in
      let eq : q.0.need ≡ b.need = need-like q.0 b q.2.like sb.0 in
      let e1 = p.2.like.id in
      let e2 = q.2.like.id in
      let e3 : p.0.need.count ≡ a.need.count = ap (λ (n : Need). n.count) ep in
      let held = filled.full_first p.0 q.0 p.1 q.1 sp sq (p.2.like.cycle ∙ cycle ∙ sym q.2.like.cycle) (p.2.like.proc ∙ proc ∙ sym q.2.like.proc)
      (ap (λ (n : Need). n.class) ep ∙ class ∙ sym (ap (λ (n : Need). n.class) eq)) (omega arith) (λ e. life (sym (p.2.life sp.0) ∙ e ∙ q.2.life sq.0)) j (omega arith) in
      held_at marked cs p.0.cycle a.cycle q.0.id b.id p.0.life a.life j p.2.like.cycle q.2.like.id (p.2.life sp.0) (held-alike marked os cs p.0.cycle q.0.id p.0.life j all held));
}
