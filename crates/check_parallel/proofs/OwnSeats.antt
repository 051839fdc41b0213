-- Objects that get their seats in parts, and rule 4 by them.
use Rattle.std.proofs.Common.{◌≡◌, ◌≢◌, ℕ, zero, suc, ◌+◌, ◌-◌, ◌^◌, ◌<◌, ◌≤◌, true, false, List, [], ◌∷◌, ◌++◌, take, drop, set, map, length, get_or, Option, Some, refl, sym, ◌∙◌, ap, subst, arith, inl, inr}
use Rattle.std.specs.List.{slice_get}
use Rattle.std.specs.Option.{option_map}
use Rattle.std.proofs.lemmas.Bool.{cases_eq, cases_lt}
use Rattle.std.proofs.lemmas.List.{length-take-le, take_more, take_all}
use Rattle.std.proofs.lemmas.Option.{slice_get-get_or, slice_get_within, slice_get-map, get_or_from_slice_get}
use Rattle.size_classes.specs.declared.TheConstants.{MAX_CHUNKS}
use Rattle.page_alloc.specs.Journal.{at_end}
use Rattle.page_bitmap.specs.declared.line.Line.{Line}
use Rattle.trace_reader.specs.declared.span.Span.{Span}
use Rattle.trace_reader.specs.declared.trace.Event.{Event}
use Rattle.trace_reader.specs.declared.trace.Trace.{Trace}
use Rattle.cycle_history.specs.declared.Answer.{Answer}
use Rattle.cycle_history.specs.declared.Answer.TheVariants.{Zero}
use Rattle.cycle_history.specs.declared.Report.{Report}
use Rattle.cycle_history.specs.Requests.{Request, marked_by, region_of, requests_from}
use Rattle.cycle_history.specs.Objects.{is_placed}
use Rattle.cycle_history.specs.Rules.{AreSeated}
use Rattle.cycle_history.specs.Before.{IsLimited, marks_at, objects_before}
use Rattle.cycle_history.specs.Sound.{HasAnswers, HasJournal, past_in}
use Rattle.cycle_history.proofs.Firsts.{before-rise}
use Rattle.report_check.specs.declared.asked.Asked.{Asked}
use Rattle.report_check.specs.declared.cycle_lives.Opened.{Opened}
use Rattle.report_check.specs.declared.items.Item.{Item}
use Rattle.report_check.specs.declared.lives.OpenLife.{OpenLife}
use Rattle.report_check.specs.Items.{AreRequests, IsItem, objects_of, request_of}
use Rattle.report_check.specs.Lives.{AreLives}
use Rattle.report_check.specs.Ledgers.{IsOpenTo}
use Rattle.report_check.specs.Seats.{AllKept, AreSeatedIn, HasOne, IsFirstLost}
use Rattle.report_check.proofs.Answered.{AreDone, done-all, done-more, done-none, size-at}
use Rattle.report_check.proofs.Lasting.{cycles-rise}
use Rattle.report_check.proofs.Ledgers.{open-later}
use Rattle.report_check.proofs.Lost.{Of}
use Rattle.report_check.proofs.Settled.{AreSettled, IsAsked, asked-at, at-cycle, settled-all, settled-more, settled-none}
use Rattle.check_parallel.specs.Seating.{ArePartSeated, AreSeatedTo, HaveOwnSeats, IsItemsPart, IsSeatedAs, KeepsAt, KeepsIn}

-- ---- lists

at-take : {X : Type 0} (n : ℕ) (xs : List X) (i : ℕ) (x : X) → slice_get (take n xs) i ≡ Some x → slice_get xs i ≡ Some x
at-take zero [] i x at = at
at-take zero (y ∷ xs) i x at = cc
at-take (suc n) [] i x at = at
at-take (suc n) (y ∷ xs) zero x at = at
at-take (suc n) (y ∷ xs) (suc i) x at = at-take n xs i x at

to-take : {X : Type 0} (n : ℕ) (xs : List X) (i : ℕ) (x : X) → i < n → slice_get xs i ≡ Some x → slice_get (take n xs) i ≡ Some x
to-take zero xs i x lt at = absurd (omega arith)
to-take (suc n) [] i x lt at = at
to-take (suc n) (y ∷ xs) zero x lt at = at
to-take (suc n) (y ∷ xs) (suc i) x lt at = to-take n xs i x (omega arith) at

at-drop : {X : Type 0} (n : ℕ) (xs : List X) (i : ℕ) (x : X) → slice_get (drop n xs) i ≡ Some x → slice_get xs (n + i) ≡ Some x
at-drop zero [] i x at = at
at-drop {X} zero (y ∷ xs) i x at = (let e : i ≡ 0 + i = omega arith in subst (λ (k : ℕ). slice_get (y ∷ xs) k ≡ Some x) e at)
at-drop (suc n) [] i x at = cc
at-drop {X} (suc n) (y ∷ xs) i x at = (let e : suc (n + i) ≡ suc n + i = omega arith in subst (λ (k : ℕ). slice_get (y ∷ xs) k ≡ Some x) e (at-drop n xs i x at))

to-drop : {X : Type 0} (n : ℕ) (xs : List X) (i : ℕ) (x : X) → slice_get xs (n + i) ≡ Some x → slice_get (drop n xs) i ≡ Some x
to-drop zero [] i x at = at
to-drop {X} zero (y ∷ xs) i x at = (let e : 0 + i ≡ i = omega arith in subst (λ (k : ℕ). slice_get (y ∷ xs) k ≡ Some x) e at)
to-drop (suc n) [] i x at = cc
to-drop {X} (suc n) (y ∷ xs) i x at = (let e : suc n + i ≡ suc (n + i) = omega arith in to-drop n xs i x (subst (λ (k : ℕ). slice_get (y ∷ xs) k ≡ Some x) e at))

at-front : {X : Type 0} (xs ys : List X) (i : ℕ) (x : X) → i < length xs → slice_get (xs ++ ys) i ≡ Some x → slice_get xs i ≡ Some x
at-front [] ys i x lt at = absurd (omega arith)
at-front (y ∷ xs) ys zero x lt at = at
at-front (y ∷ xs) ys (suc i) x lt at = at-front xs ys i x (omega arith) at

at-back : {X : Type 0} (xs ys : List X) (i : ℕ) (x : X) → slice_get (xs ++ ys) (length xs + i) ≡ Some x → slice_get ys i ≡ Some x
at-back {X} [] ys i x at = (let e : 0 + i ≡ i = omega arith in subst (λ (k : ℕ). slice_get ys k ≡ Some x) e at)
at-back {X} (y ∷ xs) ys i x at = (let e : suc (length xs) + i ≡ suc (length xs + i) = omega arith in at-back xs ys i x (subst (λ (k : ℕ). slice_get (y ∷ (xs ++ ys)) k ≡ Some x) e at))

length-drop : {X : Type 0} (n : ℕ) (xs : List X) → n ≤ length xs → n + length (drop n xs) ≡ length xs
length-drop zero [] le = omega arith
length-drop zero (y ∷ xs) le = omega arith
length-drop (suc n) [] le = absurd (omega arith)
length-drop (suc n) (y ∷ xs) le = (let r = length-drop n xs (omega arith) in omega arith)

get-same : {X : Type 0} (xs : List X) (n : ℕ) (x : X) → n < length xs → slice_get (set xs n x) n ≡ Some x
get-same [] n x lt = absurd (omega arith)
get-same (y ∷ xs) zero x lt = refl
get-same (y ∷ xs) (suc n) x lt = get-same xs n x (omega arith)

get-other : {X : Type 0} (xs : List X) (n k : ℕ) (x : X) → k ≢ n → slice_get (set xs n x) k ≡ slice_get xs k
get-other [] n k x ne = refl
get-other (y ∷ xs) zero zero x ne = absurd (ne refl)
get-other (y ∷ xs) zero (suc k) x ne = refl
get-other (y ∷ xs) (suc n) zero x ne = refl
get-other (y ∷ xs) (suc n) (suc k) x ne = get-other xs n k x (λ e. ne (ap suc e))

some-same : {X : Type 0} {x y : X} → Some x ≡ Some y → x ≡ y
some-same h = cc

-- ---- seats

-- a seat in one table of the lives is one in each
pub one-like : (region : ℕ) (past : List Line) (a b : List (Option OpenLife)) (item : Item) → AreLives region past a → AreLives region past b → HasOne a item → HasOne b item
one-like region past a b item la lb o = record {
  life = o.life;
  number = o.number;
  holds = (lb.all o.life).0 ((la.all o.life).1 o.holds);
  sits = o.sits;
  only = λ other k holds sits. o.only other k ((la.all other).0 ((lb.all other).1 holds)) sits;
}

-- ---- one item more of a part

pub seated-none : (t : Trace) (report : Report) (asked : List Asked) (answers : List Answer) (items : List Item) → AreSeatedTo t report asked answers items 0
seated-none t report asked answers items i r a item lt = absurd (omega arith)

pub seated-step : (t : Trace) (report : Report) (asked : List Asked) (answers : List Answer) (items new : List Item) (n : ℕ) (r : Asked) (a : Answer) (item : Item) → n < length items → slice_get asked n ≡ Some r → slice_get answers n ≡ Some a
    → new ≡ set items n item → IsSeatedAs t report r a item → AreSeatedTo t report asked answers items n → AreSeatedTo t report asked answers new (n + 1)
seated-step t report asked answers items new n r a item inside ra aa is here all i r' a' item' lt ri ai ii = elim (cases_eq i n) [
  | inl same ↦ (
      let r1 : slice_get asked n ≡ Some r' = subst (λ (k : ℕ). slice_get asked k ≡ Some r') same ri in
      let a1 : slice_get answers n ≡ Some a' = subst (λ (k : ℕ). slice_get answers k ≡ Some a') same ai in
      let i1 : slice_get new n ≡ Some item' = subst (λ (k : ℕ). slice_get new k ≡ Some item') same ii in
      let i2 : slice_get new n ≡ Some item = ap (λ (xs : List Item). slice_get xs n) is ∙ get-same items n item inside in
      let er : r ≡ r' = some-same (sym ra ∙ r1) in
      let ea : a ≡ a' = some-same (sym aa ∙ a1) in
      let ei : item ≡ item' = some-same (sym i2 ∙ i1) in
      subst (λ (x : Item). IsSeatedAs t report r' a' x) ei (subst (λ (x : Answer). IsSeatedAs t report r' x item) ea (subst (λ (x : Asked). IsSeatedAs t report x a item) er here)))
  | inr other ↦ (
      let i3 : slice_get items i ≡ Some item' = sym (get-other items n i item other) ∙ (ap (λ (xs : List Item). slice_get xs i) (sym is) ∙ ii) in
      all i r' a' item' (omega arith) ri ai i3)
]

pub seat-next : (t : Trace) (report : Report) (asked : List Asked) (answers : List Answer) (old items : List Item) (n : ℕ) (d : Asked) (da : Answer) (item : Item) (table lives : List (Option OpenLife)) → IsItemsPart t report asked answers (length old)
    → length items ≡ length old → n < length items → table ≡ lives → AreLives (region_of t) (at_end (get_or asked n d).cycle (past_in report)) lives → IsItem (request_of (get_or asked n d)) item → item.answer ≡ get_or answers n da
    → (is_placed item.answer ≡ true → HasOne table item) → AreSeatedTo t report asked answers items n → AreSeatedTo t report asked answers (set items n item) (n + 1)
seat-next t report asked answers old items n d da item table lives part size lt same are is answer one all =
    let ea = part.requests in
    let eb = part.answered in
    let here : IsSeatedAs t report (get_or asked n d) (get_or answers n da) item = record {
      is = is;
      answer = answer;
      seat = λ placed. (
        lives,
        subst (λ (c : ℕ). AreLives (region_of t) (at_end c (past_in report)) lives) (sym is.cycle) are,
        subst (λ (ls : List (Option OpenLife)). HasOne ls item) same (one placed),
      );
    } in
    seated-step t report asked answers items (set items n item) n (get_or asked n d) (get_or answers n da) item lt (slice_get-get_or asked n d (omega arith)) (slice_get-get_or answers n da (omega arith)) refl here all

pub open-next : (t : Trace) (report : Report) (asked : List Asked) (answers : List Answer) (old : List Item) (n : ℕ) (d r : Asked) (opened : Opened) → IsItemsPart t report asked answers (length old) → n < length old
    → IsOpenTo t report (get_or asked n d).cycle opened → slice_get asked (n + 1) ≡ Some r → IsOpenTo t report r.cycle opened
open-next t report asked answers old n d r opened part lt is at =
    let ea = part.requests in
    open-later t report (get_or asked n d).cycle r.cycle opened (part.rise n (n + 1) (get_or asked n d) r (omega arith) (slice_get-get_or asked n d (omega arith)) at) is

-- ---- parts

pub part-front : (t : Trace) (report : Report) (asked first : List Asked) (answers few : List Answer) (n m : ℕ) → m ≤ n → first ≡ take m asked → few ≡ take m answers → IsItemsPart t report asked answers n → IsItemsPart t report first few m
part-front t report asked first answers few n m le fa fb is = record {
  journal = is.journal;
  chunks = is.chunks;
  requests = (let e = is.requests in ap (λ (xs : List Asked). length xs) fa ∙ length-take-le m asked (omega arith));
  answered = (let e = is.answered in ap (λ (xs : List Answer). length xs) fb ∙ length-take-le m answers (omega arith));
  sizes = λ i r at. is.sizes i r (at-take m asked i r (subst (λ (xs : List Asked). slice_get xs i ≡ Some r) fa at));
  rise = λ i j a b order ia jb. is.rise i j a b order (at-take m asked i a (subst (λ (xs : List Asked). slice_get xs i ≡ Some a) fa ia)) (at-take m asked j b (subst (λ (xs : List Asked). slice_get xs j ≡ Some b) fa jb));
}

pub part-back : (t : Trace) (report : Report) (asked rest : List Asked) (answers others : List Answer) (n m k : ℕ) → m + k ≡ n → rest ≡ drop m asked → others ≡ drop m answers → IsItemsPart t report asked answers n → IsItemsPart t report rest others k
part-back t report asked rest answers others n m k sum ra rb is = record {
  journal = is.journal;
  chunks = is.chunks;
  requests = (let e = is.requests in let f = length-drop m asked (omega arith) in let g = ap (λ (xs : List Asked). length xs) ra in omega arith);
  answered = (let e = is.answered in let f = length-drop m answers (omega arith) in let g = ap (λ (xs : List Answer). length xs) rb in omega arith);
  sizes = λ i r at. is.sizes (m + i) r (at-drop m asked i r (subst (λ (xs : List Asked). slice_get xs i ≡ Some r) ra at));
  rise = λ i j a b order ia jb.
      is.rise (m + i) (m + j) a b (omega arith) (at-drop m asked i a (subst (λ (xs : List Asked). slice_get xs i ≡ Some a) ra ia)) (at-drop m asked j b (subst (λ (xs : List Asked). slice_get xs j ≡ Some b) ra jb));
}

pub parts-joined : (t : Trace) (report : Report) (asked first rest : List Asked) (answers few others : List Answer) (m : ℕ) (front back whole : List Item) → length front ≡ m → whole ≡ front ++ back
    → first ≡ take m asked → few ≡ take m answers → rest ≡ drop m asked → others ≡ drop m answers
    → ArePartSeated t report first few front → ArePartSeated t report rest others back → ArePartSeated t report asked answers whole
parts-joined t report asked first rest answers few others m front back whole long is fa fb ra rb before after i r a item lt ri ai ii =
    let at : slice_get (front ++ back) i ≡ Some item = ap (λ (xs : List Item). slice_get xs i) (sym is) ∙ ii in
    elim (cases_lt i m) [
      | inl less ↦ before i r a item (omega arith) (ap (λ (xs : List Asked). slice_get xs i) fa ∙ to-take m asked i r less ri) (ap (λ (xs : List Answer). slice_get xs i) fb ∙ to-take m answers i a less ai)
          (at-front front back i item (omega arith) at)
      | inr ge ↦ (
          let k = i - m in
          let e : i ≡ m + k = omega arith in
          let r' : slice_get asked (m + k) ≡ Some r = subst (λ (j : ℕ). slice_get asked j ≡ Some r) e ri in
          let a' : slice_get answers (m + k) ≡ Some a = subst (λ (j : ℕ). slice_get answers j ≡ Some a) e ai in
          let f : i ≡ length front + k = omega arith in
          let at' : slice_get (front ++ back) (length front + k) ≡ Some item = subst (λ (j : ℕ). slice_get (front ++ back) j ≡ Some item) f at in
          let at-here : slice_get back k ≡ Some item = at-back front back k item at' in
          after k r a item (slice_get_within back k item at-here) (ap (λ (xs : List Asked). slice_get xs k) ra ∙ to-drop m asked k r r') (ap (λ (xs : List Answer). slice_get xs k) rb ∙ to-drop m answers k a a') at-here)
    ]

-- ---- all requests as one part

abbrev blank : ℕ → Item
blank cycle = record { proc = 0; cycle = cycle; class = 0; pages = 0; slot = 0; count = 0; answer = Zero; life = 0; index = 0 }

asked-is : (t : Trace) (asked : List Asked) (i : ℕ) (r : Asked) → AreRequests t asked → slice_get asked i ≡ Some r → IsAsked t i (blank r.cycle)
asked-is t asked i r are at =
    let here : slice_get (map request_of asked) i ≡ Some (request_of r) = slice_get-map request_of asked i ∙ ap (λ (o : Option Asked). option_map request_of o) at in
    let got : slice_get (requests_from 0 t.cycles) i ≡ Some (request_of r) = subst (λ (rs : List Request). slice_get rs i ≡ Some (request_of r)) are here in
    let c = at-cycle 0 t.cycles i (request_of r) got in
    let is = c.is in
    let k : r.cycle ≡ c.k = omega arith in
    record {
      low = rw k c.low;
      high = rw k c.high;
      slot = λ placed. (let f : false ≡ true = placed in cc);
    }

pub part-whole : (t : Trace) (report : Report) (asked : List Asked) (answers : List Answer) (n : ℕ) → IsLimited t → HasJournal t report → AreRequests t asked → length asked ≡ n → length answers ≡ n → t.header.chunks ≤ MAX_CHUNKS → IsItemsPart t report asked answers n
part-whole t report asked answers n limited journal are long all chunks = record {
  journal = journal;
  chunks = chunks;
  requests = long;
  answered = all;
  sizes = λ i r at. (
      let lt = slice_get_within asked i r at in
      let same : get_or asked i r ≡ r = get_or_from_slice_get asked i r r at in
      subst (λ (x : Asked). x.event.size ≤ 2 ^ 40) same (size-at t asked i r limited are lt));
  rise = λ i j a b order ia jb. cycles-rise t i j (blank a.cycle) (blank b.cycle) (asked-is t asked i a are ia) (asked-is t asked j b are jb) order;
}

pub own-seats : (t : Trace) (report : Report) (asked : List Asked) (answers : List Answer) (items : List Item) → IsItemsPart t report asked answers (length items) → ArePartSeated t report asked answers items → HaveOwnSeats t report items
own-seats t report asked answers items is all i item at placed =
    let lt = slice_get_within items i item at in
    let ea = is.requests in
    let eb = is.answered in
    let r : Asked = get_or asked i (record { cycle = 0; event = none }) in
    (all i r (get_or answers i Zero) item lt (slice_get-get_or asked i (record { cycle = 0; event = none }) (omega arith)) (slice_get-get_or answers i Zero (omega arith)) at).seat placed
  where
    none : Event
    none = record { proc = 0; size = 0; scan = false; stack = 0 }

-- rule 1
done-to : (t : Trace) (report : Report) (asked : List Asked) (answers : List Answer) (items : List Item) (n : ℕ) → AreRequests t asked → answers ≡ report.answers → IsItemsPart t report asked answers (length items) → ArePartSeated t report asked answers items → n ≤ length items
    → AreDone t report asked answers (take n items) n
done-to t report asked answers items zero are same is all le = subst (λ (xs : List Item). AreDone t report asked answers xs 0) (none items) (done-none t report asked answers)
  where
    none : (xs : List Item) → [] ≡ take 0 xs
    none [] = refl
    none (x ∷ xs) = refl
done-to t report asked answers items (suc n) are same is all le =
    let before = done-to t report asked answers items n are same is all (omega arith) in
    let ea = is.requests in
    let eb = is.answered in
    let d : Asked = record { cycle = 0; event = record { proc = 0; size = 0; scan = false; stack = 0 } } in
    let item = get_or items n (blank 0) in
    let here = all n (get_or asked n d) (get_or answers n Zero) item (omega arith) (slice_get-get_or asked n d (omega arith)) (slice_get-get_or answers n Zero (omega arith))
    (slice_get-get_or items n (blank 0) (omega arith)) in
    let e : n + 1 ≡ suc n = omega arith in
    subst (λ (k : ℕ). AreDone t report asked answers (take k items) k) e
    (done-more t report asked answers (take n items) (take (n + 1) items) n n d Zero item are same (omega arith) refl (omega arith) before here.is here.answer (take_more items n (blank 0) (omega arith)))

pub answers-by : (t : Trace) (report : Report) (asked : List Asked) (answers : List Answer) (items : List Item) → AreRequests t asked → answers ≡ report.answers → IsItemsPart t report asked answers (length items) → ArePartSeated t report asked answers items
    → HasAnswers t report (objects_of items)
answers-by t report asked answers items are same is all =
    let ea = is.requests in
    let eb = is.answered in
    let done = subst (λ (xs : List Item). AreDone t report asked answers xs (length items)) (take_all (length items) items (omega arith)) (done-to t report asked answers items (length items) are same is all (omega arith)) in
    done-all t report asked answers items (length items) (length items) are same done (omega arith) refl (omega arith)

-- ---- rule 4

cycle-is : (t : Trace) (i c : ℕ) (item : Item) → IsAsked t i item → objects_before t c ≤ i → i < objects_before t (c + 1) → item.cycle ≡ c
cycle-is t i c item asked low high =
    let a = asked.low in
    let b = asked.high in
    elim (cases_lt item.cycle c) [
      | inl less ↦ (let r = before-rise t (item.cycle + 1) c (omega arith) in absurd (omega arith))
      | inr ge ↦ elim (cases_lt c item.cycle) [
        | inl more ↦ (let r = before-rise t (c + 1) item.cycle (omega arith) in absurd (omega arith))
        | inr le ↦ omega arith
      ]
    ]

settled-to : (t : Trace) (report : Report) (items : List Item) (n c : ℕ) → IsLimited t → HasAnswers t report (objects_of items) → HaveOwnSeats t report items → KeepsIn t report items 0 n → c ≤ n
    → AreSettled t report items items c (length items)
settled-to t report items n zero limited answers own keeps le = settled-none t report items
settled-to t report items n (suc c) limited answers own keeps le =
    let before = settled-to t report items n c limited answers own keeps (omega arith) in
    let k = keeps c (omega arith) (omega arith) in
    let kept : IsFirstLost k.lives (Of (marks_at t c)) items (length items) (length items) = record { few = omega arith; lost = λ lt. absurd (omega arith); kept = k.kept } in
    let got : AreSeatedIn k.lives items items (objects_before t c) (objects_before t (c + 1)) (length items) (length items) = record {
      same = refl;
      few = omega arith;
      kept = λ i lt. refl;
      seats = λ i item low high less at placed. (
          let s = own i item at placed in
          let cycle = cycle-is t i c item (asked-at t report items i item answers at) low high in
          let are = subst (λ (m : ℕ). AreLives (region_of t) (at_end m (past_in report)) s.0) cycle s.1 in
          one-like (region_of t) (at_end c (past_in report)) s.0 k.lives item are k.are s.2);
      lost = λ lt. absurd (omega arith);
    } in
    let e : c + 1 ≡ suc c = omega arith in
    subst (λ (m : ℕ). AreSettled t report items items m (length items)) e
    (settled-more t report items items items (region_of t) c (length items) (length items) (length items) k.lives limited answers k.are before kept got)

pub places-by : (t : Trace) (report : Report) (items : List Item) (n : ℕ) → IsLimited t → HasAnswers t report (objects_of items) → HaveOwnSeats t report items → length t.cycles ≤ n → KeepsIn t report items 0 n
    → AreSeated (marked_by t) (past_in report) (objects_of items)
places-by t report items n limited answers own le keeps =
    settled-all t report items items (length t.cycles) (length items) limited answers (omega arith) (omega arith) (settled-to t report items n (length t.cycles) limited answers own keeps (omega arith)) (omega arith)

-- the marked objects have their lives where none is the first that lacks one
pub kept-whole : (table lives : List (Option OpenLife)) (spans marks : List Span) (items : List Item) (n : ℕ) → table ≡ lives → spans ≡ marks → IsFirstLost table (Of spans) items (length items) n → length items ≤ n → AllKept lives (Of marks) items (length items)
kept-whole table lives spans marks items n same is first le =
    let few = first.few in
    let e : n ≡ length items = omega arith in
    subst (λ (ss : List Span). AllKept lives (Of ss) items (length items)) is (subst (λ (ls : List (Option OpenLife)). AllKept ls (Of spans) items (length items)) same (subst (λ (k : ℕ). AllKept table (Of spans) items k) e first.kept))

pub keeps-joined : (t : Trace) (report : Report) (items : List Item) (low middle high : ℕ) → KeepsIn t report items low middle → KeepsIn t report items middle high → KeepsIn t report items low high
keeps-joined t report items low middle high a b cycle from to = elim (cases_lt cycle middle) [
  | inl lt ↦ a cycle from lt
  | inr ge ↦ b cycle ge to
]

pub keeps-more : (t : Trace) (report : Report) (items : List Item) (low c : ℕ) → KeepsIn t report items low c → KeepsAt t report items c → KeepsIn t report items low (c + 1)
keeps-more t report items low c all here cycle from to = elim (cases_lt cycle c) [
  | inl lt ↦ all cycle from lt
  | inr ge ↦ (let e : c ≡ cycle = omega arith in subst (λ (n : ℕ). KeepsAt t report items n) e here)
]
