-- What holds of the objects of items holds of those of the same items in other seats.
use Rattle.std.proofs.Common.{◌≡◌, ℕ, List, [], ◌∷◌, ◌++◌, map, reverse, length, refl, sym, ◌∙◌, ap, ap₂, subst}
use Rattle.std.proofs.lemmas.List.{map_push, reverse-append}
use Rattle.page_bitmap.specs.declared.line.Line.{Line}
use Rattle.page_alloc.specs.Lists.{In}
use Rattle.trace_reader.specs.declared.trace.Trace.{Trace}
use Rattle.cycle_history.specs.declared.Answer.{Answer}
use Rattle.cycle_history.specs.declared.Answer.TheVariants.{Missed}
use Rattle.cycle_history.specs.declared.Report.{Report}
use Rattle.cycle_history.specs.Requests.{Request, requests_of}
use Rattle.cycle_history.specs.Objects.{Object}
use Rattle.cycle_history.specs.Rules.{AreAnswered, AreMissed, IsObject, NamesMiss}
use Rattle.cycle_history.specs.Sound.{HasAnswers}
use Rattle.report_check.specs.declared.items.Item.{Item}
use Rattle.report_check.specs.Items.{object_of, objects_from, objects_of}
use Rattle.report_check.specs.Seats.{AreSameBut, unseated}
use Rattle.report_check.proofs.Numbered.{item-of, object-in}
use Rattle.report_check.proofs.Seated.{same-at, same-length}

reverse-cons : (x : Item) (xs : List Item) → reverse (x ∷ xs) ≡ reverse xs ++ x ∷ []
reverse-cons x xs = reverse-append (x ∷ []) xs

map-reverse : (items : List Item) → map unseated (reverse items) ≡ reverse (map unseated items)
map-reverse [] = refl
map-reverse (x ∷ items) =
    ap (λ (is : List Item). map unseated is) (reverse-cons x items) ∙ (map_push unseated (reverse items) x ∙ (ap (λ (is : List Item). is ++ unseated x ∷ []) (map-reverse items) ∙ sym (reverse-cons (unseated x) (map unseated items))))

object-on : (r : Request) (n m k : ℕ) (a b : Item) → k ≡ m → unseated b ≡ unseated a → IsObject r n (object_of m a) → IsObject r n (object_of k b)
object-on r n m k a b long e is =
    let bare : IsObject r n (object_of m (unseated a)) = record { id = is.id; proc = is.proc; cycle = is.cycle; zero = is.zero; need = is.need } in
    let there : IsObject r n (object_of m (unseated b)) = subst (λ (x : Item). IsObject r n (object_of m x)) (sym e) bare in
    record { id = long ∙ there.id; proc = there.proc; cycle = there.cycle; zero = there.zero; need = there.need }

answered-on : (rs : List Request) (xs ys : List Item) → map unseated ys ≡ map unseated xs → AreAnswered rs (objects_from xs) → AreAnswered rs (objects_from ys)
answered-on [] [] [] e all = all
answered-on [] [] (b ∷ ys) e all = cc
answered-on [] (a ∷ xs) bs e all = absurd all
answered-on (r ∷ rs) [] ys e all = absurd all
answered-on (r ∷ rs) (a ∷ xs) [] e all = cc
answered-on (r ∷ rs) (a ∷ xs) (b ∷ ys) e all =
    let h : unseated b ≡ unseated a = cc in
    let t : map unseated ys ≡ map unseated xs = cc in
    (object-on r (length rs) (length xs) (length ys) a b (same-length xs ys t) h all.0, answered-on rs xs ys t all.1)

printed-on : (xs ys : List Item) → map unseated ys ≡ map unseated xs → map (λ (o : Object). o.answer) (objects_from ys) ≡ map (λ (o : Object). o.answer) (objects_from xs)
printed-on [] [] e = refl
printed-on [] (b ∷ ys) e = cc
printed-on (a ∷ xs) [] e = cc
printed-on (a ∷ xs) (b ∷ ys) e =
    let h : unseated b ≡ unseated a = cc in
    let t : map unseated ys ≡ map unseated xs = cc in
    ap₂ (λ (x : Answer) (rest : List Answer). x ∷ rest) (ap (λ (i : Item). i.answer) h) (printed-on xs ys t)

pub answers-on : (t : Trace) (report : Report) (old new : List Item) → AreSameBut old new → HasAnswers t report (objects_of old) → HasAnswers t report (objects_of new)
answers-on t report old new e is =
    let turned : map unseated (reverse new) ≡ map unseated (reverse old) = map-reverse new ∙ (ap (λ (xs : List Item). reverse xs) e ∙ sym (map-reverse old)) in
    record { asked = answered-on (requests_of t) (reverse old) (reverse new) turned is.asked; printed = printed-on (reverse old) (reverse new) turned ∙ is.printed }

-- the object of an item was one before
record WasOf (old : List Item) (o : Object) : Type 0 where
  pub number : ℕ
  pub was : Item
  pub now : Item
  pub among : In (object_of number was) (objects_of old)
  pub same : unseated now ≡ unseated was
  pub is : o ≡ object_of number now

was-of : (old new : List Item) (o : Object) → AreSameBut old new → In o (objects_of new) → WasOf old o
was-of old new o e among =
    let x = item-of new o among in
    let w = same-at old new x.number x.item e x.at in
    record { number = x.number; was = w.0; now = x.item; among = object-in old x.number w.0 w.1; same = w.2; is = x.is }

pub misses-on : (past : List Line) (old new : List Item) → AreSameBut old new → AreMissed past (objects_of old) → AreMissed past (objects_of new)
misses-on past old new e all = record {
  named = λ o among. (
      let w = was-of old new o e among in
      let names : NamesMiss past (object_of w.number (unseated w.was)) = all.named (object_of w.number w.was) w.among in
      let here : NamesMiss past (object_of w.number (unseated w.now)) = subst (λ (x : Item). NamesMiss past (object_of w.number x)) (sym w.same) names in
      subst (λ (y : Object). NamesMiss past y) (sym w.is) here);
  once = λ a b line ia ib ma mb. (
      let x = was-of old new a e ia in
      let y = was-of old new b e ib in
      let f : x.was.answer ≡ Missed line = ap (λ (i : Item). i.answer) (sym x.same) ∙ (ap (λ (o : Object). o.answer) (sym x.is) ∙ ma) in
      let g : y.was.answer ≡ Missed line = ap (λ (i : Item). i.answer) (sym y.same) ∙ (ap (λ (o : Object). o.answer) (sym y.is) ∙ mb) in
      ap (λ (o : Object). o.id) x.is ∙ (all.once (object_of x.number x.was) (object_of y.number y.was) line x.among y.among f g ∙ sym (ap (λ (o : Object). o.id) y.is)));
}
