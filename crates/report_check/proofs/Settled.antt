-- Rule 4, one cycle more at a time.
use Rattle.std.specs.Prelude.{MatchOption}
use Rattle.std.proofs.Common.{◌≡◌, ℕ, zero, suc, ◌+◌, ◌-◌, ◌*◌, ◌^◌, ◌<◌, ◌≤◌, Bool, true, false, ◌||◌, eqb, leb, List, [], ◌∷◌, ◌++◌, map, reverse, take, length, get_or, Option, Some, None, refl, sym, ◌∙◌, ap, subst, arith, length-append, ◌⊎◌, inl, inr}
use Rattle.std.specs.List.{slice_get, flat_map}
use Rattle.std.proofs.lemmas.Bool.{cases_eq, cases_lt, cases_Bool, and_parts, or_cases, eqb-true, and_from}
use Rattle.std.proofs.lemmas.List.{reverse-reverse, append-nil, length-reverse, length-map}
use Rattle.std.proofs.lemmas.Option.{slice_get_within, slice_get-get_or}
use Rattle.page_bitmap.specs.declared.line.Line.{Line}
use Rattle.page_bitmap.specs.declared.line.Line.TheVariants.{Take, Miss, Give, Scav, Pull, Cut, Drop}
use Rattle.page_alloc.specs.Lists.{In, IsNumber}
use Rattle.page_alloc.specs.Lives.{Life, life_of, open_lives}
use Rattle.page_alloc.specs.Journal.{at_end, cycle_of}
use Rattle.page_alloc.proofs.Lives.{from_others}
use Rattle.trace_reader.specs.declared.trace.Trace.{Trace}
use Rattle.trace_reader.specs.declared.trace.Cycle.{Cycle}
use Rattle.trace_reader.specs.declared.trace.Event.{Event}
use Rattle.trace_reader.specs.declared.trace.MarkEnd.{MarkEnd}
use Rattle.trace_reader.specs.declared.span.Span.{Span}
use Rattle.trace_reader.specs.Rising.{AreSpans}
use Rattle.trace_reader.specs.Limits.{events_of, AreCycles, IsMarked}
use Rattle.cycle_history.specs.declared.Answer.TheVariants.{Placed, Zero}
use Rattle.cycle_history.specs.declared.Report.{Report}
use Rattle.cycle_history.specs.Needs.{Need, IsNeed}
use Rattle.cycle_history.specs.Requests.{Marking, Request, requests_from, requests_of, is_within, marked_by, spans_after, spans_of}
use Rattle.cycle_history.specs.Objects.{Object, is_placed, live, start_of, Sits, IsSeated}
use Rattle.cycle_history.specs.Rules.{AreSeated}
use Rattle.cycle_history.specs.Before.{IsLimited, marks_at, objects_before}
use Rattle.cycle_history.specs.Sound.{HasAnswers, past_in}
use Rattle.cycle_history.proofs.Firsts.{before-rise, before-all, before-le}
use Rattle.cycle_history.proofs.OfObjects.{number-get, request-of, requests-events}
use Rattle.cycle_history.proofs.Plain.{request_in, same_length}
use Rattle.cycle_history.proofs.Rising.{marked-early, marks-within}
use Rattle.report_check.specs.Lines.{IsLeast}
use Rattle.report_check.specs.Placing.{BreaksPlaces, HasSeat}
use Rattle.report_check.specs.declared.items.Item.{Item}
use Rattle.report_check.specs.declared.lives.OpenLife.{OpenLife}
use Rattle.report_check.specs.declared.lives.Seat.{Seat}
use Rattle.report_check.specs.Items.{object_of, objects_from, objects_of}
use Rattle.report_check.specs.Lives.{AreLives, HasLife, HasNumber, IsOne, entry_of}
use Rattle.report_check.specs.Seats.{AllHaveLives, AreSameBut, AreSeatedIn, HasOne, IsFirstLost, unseated}
use Rattle.report_check.proofs.Lost.{Of}
use Rattle.report_check.proofs.Numbered.{item-of, object-in}
use Rattle.report_check.proofs.Seated.{same-at, same-length}

-- ---- the cycle of an item

get-append : {X : Type 0} (xs ys : List X) (i : ℕ) (x : X) → slice_get (xs ++ ys) i ≡ Some x → ((i < length xs) × (slice_get xs i ≡ Some x)) ⊎ ((length xs ≤ i) × (slice_get ys (i - length xs) ≡ Some x))
get-append [] ys i x at = let e : i - 0 ≡ i = omega arith in inr (omega arith, rw e at)
get-append (y ∷ xs) ys zero x at = inl (omega arith, at)
get-append (y ∷ xs) ys (suc i) x at = elim (get-append xs ys i x at) [
  | inl front ↦ (let lt = front.0 in inl (omega arith, front.1))
  | inr back ↦ (let le = back.0 in let e : suc i - suc (length xs) ≡ i - length xs = omega arith in inr (omega arith, rw e back.1))
]

map-cycle : (first : ℕ) (es : List Event) (i : ℕ) (r : Request) → slice_get (map (request_in first) es) i ≡ Some r → (r.cycle ≡ first) × (i < length es)
map-cycle first [] i r at = cc
map-cycle first (e ∷ es) zero r at = (let f : request_in first e ≡ r = cc in (ap (λ (x : Request). x.cycle) (sym f), omega arith))
map-cycle first (e ∷ es) (suc i) r at = let rest = map-cycle first es i r at in let lt = rest.1 in (rest.0, omega arith)

abbrev pub events_in : List Cycle → List Event
events_in cs = flat_map (λ (c : Cycle). c.events) cs

pub record IsOfCycle (first : ℕ) (cs : List Cycle) (i cycle : ℕ) : Type 0 where
  pub k : ℕ
  pub is : cycle ≡ first + k
  pub low : length (events_in (take k cs)) ≤ i
  pub high : i < length (events_in (take (k + 1) cs))

pub at-cycle : (first : ℕ) (cs : List Cycle) (i : ℕ) (r : Request) → slice_get (requests_from first cs) i ≡ Some r → IsOfCycle first cs i r.cycle
at-cycle first [] i r at = cc
at-cycle first (c ∷ cs) i r at = elim (get-append (map (request_in first) c.events) (requests_from (first + 1) cs) i r at) [
  | inl front ↦ (
      let m = map-cycle first c.events i r front.1 in
      let lt = m.1 in
      let size : length (c.events ++ []) ≡ length c.events = ap (λ (es : List Event). length es) (append-nil c.events) in
      record { k = 0; is = m.0 ∙ (let e : first ≡ first + 0 = omega arith in e); low = omega arith; high = omega arith })
  | inr back ↦ (
      let rest = at-cycle (first + 1) cs (i - length (map (request_in first) c.events)) r back.1 in
      let size : length (map (request_in first) c.events) ≡ length c.events = mapped first c.events in
      let le = back.0 in
      let low = rest.low in
      let high = rest.high in
      let is = rest.is in
      let a = length-append c.events (events_in (take rest.k cs)) in
      let b = length-append c.events (events_in (take (rest.k + 1) cs)) in
      record { k = suc rest.k; is = omega arith; low = omega arith; high = (let e : suc rest.k + 1 ≡ suc (rest.k + 1) = omega arith in rw e (let f : i < length (c.events ++ events_in (take (rest.k + 1) cs)) = omega arith in f)) })
]
  where
    mapped : (first : ℕ) (es : List Event) → length (map (request_in first) es) ≡ length es
    mapped first [] = refl
    mapped first (e ∷ es) = ap suc (mapped first es)

-- an item's number is that of an object of its cycle, and a placed one needs some bytes
pub record IsAsked (t : Trace) (i : ℕ) (item : Item) : Type 0 where
  pub low : objects_before t item.cycle ≤ i
  pub high : i < objects_before t (item.cycle + 1)
  pub slot : is_placed item.answer ≡ true → 1 ≤ item.slot

pub need-slot : (size : ℕ) (scan : Bool) (need : Need) → 1 ≤ size → IsNeed size scan need → 1 ≤ need.slot
need-slot size scan need some is = elim (cases_lt 32768 size) [
  | inl large ↦ (let l = is.large large in let a = l.pages in let b = l.slot in omega arith)
  | inr small ↦ (let s = is.small small in let room = s.1.room in let e = s.2.slot in omega arith)
]

pub asked-at : (t : Trace) (report : Report) (items : List Item) (i : ℕ) (item : Item) → HasAnswers t report (objects_of items) → slice_get items i ≡ Some item → IsAsked t i item
asked-at t report items i item answers at =
    let r = request-of (requests_of t) (objects_of items) (object_of i item) answers.asked (object-in items i item at) in
    let got : slice_get (reverse (requests_of t)) i ≡ Some r.request = number-get i r.request (requests_of t) r.asked in
    let got' : slice_get (requests_from 0 t.cycles) i ≡ Some r.request = subst (λ (rs : List Request). slice_get rs i ≡ Some r.request) (reverse-reverse (requests_from 0 t.cycles)) got in
    let c = at-cycle 0 t.cycles i r.request got' in
    let cycle : item.cycle ≡ r.request.cycle = r.answers.cycle in
    let is = c.is in
    let k : item.cycle ≡ c.k = omega arith in
    record {
      low = rw k c.low;
      high = rw k c.high;
      slot = λ placed. elim (cases_eq r.request.event.size 0) [
        | inl none ↦ (let z : item.answer ≡ Zero = (r.answers.zero).1 none in let f : is_placed item.answer ≡ false = ap is_placed z in absurd (let g : false ≡ true = sym f ∙ placed in cc))
        | inr some ↦ need-slot r.request.event.size r.request.event.scan (object_of i item).need (omega arith) (r.answers.need (omega arith))
      ];
    }

pub asked-new : (t : Trace) (report : Report) (old new : List Item) (i : ℕ) (item : Item) → HasAnswers t report (objects_of old) → AreSameBut old new → slice_get new i ≡ Some item → IsAsked t i item
asked-new t report old new i item answers same at =
    let w = same-at old new i item same at in
    let a = asked-at t report old i w.0 answers w.1 in
    let cycle : item.cycle ≡ w.0.cycle = ap (λ (x : Item). x.cycle) w.2 in
    let slot : item.slot ≡ w.0.slot = ap (λ (x : Item). x.slot) w.2 in
    let answer : item.answer ≡ w.0.answer = ap (λ (x : Item). x.answer) w.2 in
    record { low = rw cycle a.low; high = rw cycle a.high; slot = λ placed. rw slot (a.slot (ap is_placed (sym answer) ∙ placed)) }

-- ---- one life at two times

-- the life that a line with this number makes, if it makes one
abbrev pub makes : ℕ → Line → Option Life
makes n (Take cycle page pages class) = Some (life_of n cycle page pages class)
makes n (Cut cycle proc page pages class) = Some (life_of n cycle page pages class)
makes n line = None

-- the line that made a life
pub record IsMadeIn (past : List Line) (life : Life) : Type 0 where
  pub line : Line
  pub makes : makes life.number line ≡ Some life
  pub number : IsNumber life.number line past

made-new : (past : List Line) (line : Line) (life : Life) → makes (length past) line ≡ Some life → length past ≡ life.number → IsMadeIn (line ∷ past) life
made-new past line life is number = record { line = line; makes = subst (λ (n : ℕ). makes n line ≡ Some life) number is; number = inl (number, refl) }

made-on : (past : List Line) (newest : Line) (life : Life) → IsMadeIn past life → IsMadeIn (newest ∷ past) life
made-on past newest life made = record { line = made.line; makes = made.makes; number = inr made.number }

pub life-line : (past : List Line) (life : Life) → In life (open_lives past) → IsMadeIn past life
life-line [] life i = absurd i
life-line (Take cycle page pages class ∷ past) life i = elim i [
  | inl here ↦ made-new past (Take cycle page pages class) life (ap (λ (l : Life). Some l) here) (ap (λ (l : Life). l.number) here)
  | inr there ↦ made-on past (Take cycle page pages class) life (life-line past life there)
]
life-line (Miss cycle pages class ∷ past) life i = made-on past (Miss cycle pages class) life (life-line past life i)
life-line (Give cycle page pages ∷ past) life i = made-on past (Give cycle page pages) life (life-line past life (from_others page (open_lives past) life i).0)
life-line (Scav cycle page pages ∷ past) life i = made-on past (Scav cycle page pages) life (life-line past life i)
life-line (Pull cycle proc page pages ∷ past) life i = made-on past (Pull cycle proc page pages) life (life-line past life i)
life-line (Cut cycle proc page pages class ∷ past) life i = elim i [
  | inl here ↦ made-new past (Cut cycle proc page pages class) life (ap (λ (l : Life). Some l) here) (ap (λ (l : Life). l.number) here)
  | inr there ↦ made-on past (Cut cycle proc page pages class) life (life-line past life there)
]
life-line (Drop cycle proc page pages ∷ past) life i = made-on past (Drop cycle proc page pages) life (life-line past life i)

pub number-on : (c n : ℕ) (past : List Line) (line : Line) → IsNumber n line (at_end c past) → IsNumber n line past
number-on c n [] line h = h
number-on c n (newest ∷ past) line h = elim (cases_Bool (leb (cycle_of newest) c)) [
  | inl is ↦ rw is at h
  | inr isnt ↦ inr (number-on c n past line (rw isnt at h))
]

pub one-life : (past : List Line) (a b : Life) (c d : ℕ) → In a (open_lives (at_end c past)) → In b (open_lives (at_end d past)) → a.number ≡ b.number → a ≡ b
one-life past a b c d ia ib e =
    let ma = life-line (at_end c past) a ia in
    let mb = life-line (at_end d past) b ib in
    let na = number-get a.number ma.line past (number-on c a.number past ma.line ma.number) in
    let nb = number-get b.number mb.line past (number-on d b.number past mb.line mb.number) in
    let nb' : slice_get (reverse past) a.number ≡ Some mb.line = subst (λ (n : ℕ). slice_get (reverse past) n ≡ Some mb.line) (sym e) nb in
    let line : ma.line ≡ mb.line = cc in
    let lives : Some a ≡ Some b = sym ma.makes ∙ ap (λ (l : Line). makes a.number l) line ∙ ap (λ (n : ℕ). makes n mb.line) e ∙ mb.makes in
    cc

-- ---- living

pub live-cases : (marked : Marking) (c : ℕ) (o : Object) → live marked c o ≡ true → (o.cycle ≡ c) ⊎ (marked c o.id ≡ true)
live-cases marked c o h = elim (or_cases (eqb o.cycle c) (marked c o.id) (and_parts (is_placed o.answer) (eqb o.cycle c || marked c o.id) h).1) [
  | inl is ↦ inl (eqb-true o.cycle c is)
  | inr is ↦ inr is
]

live-marked : (marked : Marking) (c : ℕ) (o : Object) → is_placed o.answer ≡ true → marked c o.id ≡ true → live marked c o ≡ true
live-marked marked c o placed is = and_from (is_placed o.answer) (eqb o.cycle c || marked c o.id) placed (or-on (eqb o.cycle c) (marked c o.id) is)
  where
    or-on : (a b : Bool) → b ≡ true → (a || b) ≡ true
    or-on true b e = refl
    or-on false b e = e

extract : (P : MarkEnd → Type 0) (mark : Option MarkEnd) → MatchOption mark ⊥ P → (m : MarkEnd) × P m
extract P None h = absurd h
extract P (Some m) h = (m, h)

no-spans : (first : ℕ) (alive : ℕ → Type 0) (cs : List Cycle) (c : ℕ) → AreCycles first alive cs → length cs ≤ suc c → spans_after c cs ≡ []
no-spans first alive [] c h le = refl
no-spans first alive (x ∷ []) zero h le = ap spans_of h
no-spans first alive (x ∷ []) (suc c) h le = refl
no-spans first alive (x ∷ y ∷ cs) zero h le = absurd (omega arith)
no-spans first alive (x ∷ y ∷ cs) (suc c) h le =
    let m = extract (λ m. (1 ≤ m.distance) × (m.distance ≤ 2 ^ 40) × AreSpans 0 m.marks × ((i : ℕ) → IsMarked m.marks i → alive i ⊎ ((first ≤ i) × (i < first + length x.events))) × AreCycles (first + length x.events) (IsMarked m.marks) (y ∷ cs)) x.mark h in
    no-spans (first + length x.events) (IsMarked m.0.marks) (y ∷ cs) c m.1.4 (omega arith)

pub unmarked-late : (t : Trace) (m i : ℕ) → AreCycles 0 (λ _. ⊥) t.cycles → length t.cycles ≤ m → marked_by t m i ≡ true → ⊥
unmarked-late t zero i are le h = cc
unmarked-late t (suc m) i are le h =
    let e = no-spans 0 (λ _. ⊥) t.cycles m are le in
    let f = marks-within t (suc m) i in
    let g : marked_by t (suc m) i ≡ false = f ∙ ap (λ (ss : List Span). is_within ss i) e in
    cc

-- ---- seats up to a cycle

pub record IsSeatedTo (marked : Marking) (past : List Line) (bound : ℕ) (o : Object) (life : Life) : Type 0 where
  pub number : life.number ≡ o.life
  pub here : In life (open_lives (at_end o.cycle past))
  pub sits : Sits o life o.index
  pub only : (other : Life) (k : ℕ) → In other (open_lives (at_end o.cycle past)) → Sits o other k → other ≡ life
  pub stays : (c : ℕ) → c < bound → live marked c o ≡ true → In life (open_lives (at_end c past))

pub record IsUnplaced (t : Trace) (report : Report) (items : List Item) (n : ℕ) : Type 0 where
  pub item : Item
  pub at : slice_get items n ≡ Some item
  pub placed : is_placed item.answer ≡ true
  pub none : ¬ HasSeat (marked_by t) (past_in report) (object_of n item)

-- the items below the bound have seats up to the cycle, and that at the bound, if there is one, has none
pub record AreSettled (t : Trace) (report : Report) (old new : List Item) (c bound : ℕ) : Type 0 where
  pub same : AreSameBut old new
  pub few : bound ≤ length old
  pub lost : bound < length old → IsUnplaced t report old bound
  pub seats : (i : ℕ) (item : Item) → i < objects_before t c → i < bound → slice_get new i ≡ Some item → is_placed item.answer ≡ true → (life : Life) × IsSeatedTo (marked_by t) (past_in report) c (object_of i item) life

pub settled-none : (t : Trace) (report : Report) (items : List Item) → AreSettled t report items items 0 (length items)
settled-none t report items = record {
  same = refl;
  few = omega arith;
  lost = λ lt. absurd (omega arith);
  seats = λ i item lt. absurd (let e : objects_before t 0 ≡ 0 = refl in omega arith);
}

-- an object's having a seat doesn't hang on the one that its item has
has-like : (marked : Marking) (past : List Line) (n : ℕ) (a b : Item) → unseated a ≡ unseated b → HasSeat marked past (object_of n a) → HasSeat marked past (object_of n b)
has-like marked past n a b e has =
    let f : HasSeat marked past (object_of n (unseated a)) = has in
    let g : HasSeat marked past (object_of n (unseated b)) = subst (λ (x : Item). HasSeat marked past (object_of n x)) e f in
    g

seated-has : (marked : Marking) (past : List Line) (bound : ℕ) (o : Object) (life : Life) → IsSeatedTo marked past bound o life → ((c : ℕ) → live marked c o ≡ true → c < bound) → HasSeat marked past o
seated-has marked past bound o life is all = (
  life,
  o.index,
  record {
    number = refl;
    here = is.here;
    sits = record { class = is.sits.class; pages = is.sits.pages; index = is.sits.index; address = is.sits.address };
    only = λ other k i sits. is.only other k i (record { class = sits.class; pages = sits.pages; index = sits.index; address = sits.address });
    stays = λ c alive. is.stays c (all c alive) alive;
  },
)

-- the lives that the table has
pub table-has : (region : ℕ) (past : List Line) (lives : List (Option OpenLife)) (life : Life) (n c d : ℕ) → AreLives region (at_end c past) lives → In life (open_lives (at_end d past)) → life.number ≡ n → HasNumber lives life.page n
    → In life (open_lives (at_end c past))
table-has region past lives life n c d are there e has =
    let l = has.life in
    let begins : l.page ≡ life.page = are.pages life.page l has.here in
    let found : Life = life_of l.number l.cycle l.page l.pages l.class in
    let holds : get_or lives l.page None ≡ Some l = subst (λ (p : ℕ). get_or lives p None ≡ Some l) (sym begins) has.here in
    let open' : In found (open_lives (at_end c past)) = (are.all found).1 holds in
    let same : found ≡ life = one-life past found life c d open' there (has.its ∙ sym e) in
    subst (λ (x : Life). In x (open_lives (at_end c past))) same open'

-- an item keeps its seats for a cycle more
seat-on : (t : Trace) (report : Report) (region c i : ℕ) (lives : List (Option OpenLife)) (item : Item) (life : Life) → IsLimited t → IsAsked t i item → i < objects_before t c → AreLives region (at_end c (past_in report)) lives
    → (is_within (marks_at t c) i ≡ true → (other : Life) → HasLife item other → HasNumber lives other.page item.life)
    → IsSeatedTo (marked_by t) (past_in report) c (object_of i item) life → IsSeatedTo (marked_by t) (past_in report) (c + 1) (object_of i item) life
seat-on t report region c i lives item life limited asked before are kept is = record {
  number = is.number;
  here = is.here;
  sits = is.sits;
  only = is.only;
  stays = λ m lt alive. elim (cases_eq m c) [
    | inr other ↦ is.stays m (omega arith) alive
    | inl same ↦ elim (live-cases (marked_by t) m (object_of i item) alive) [
      | inl own ↦ (
          let e : item.cycle ≡ c = own ∙ same in
          let low : objects_before t c ≤ i = subst (λ (n : ℕ). objects_before t n ≤ i) e asked.low in
          absurd (omega arith))
      | inr marked ↦ (
          let on : marked_by t c i ≡ true = subst (λ (n : ℕ). marked_by t n i ≡ true) same marked in
          let within : is_within (marks_at t c) i ≡ true = sym (marks-within t c i) ∙ on in
          let has = kept within life (record { number = is.number; sits = record { class = is.sits.class; pages = is.sits.pages; index = is.sits.index; address = is.sits.address } }) in
          let in' = table-has region (past_in report) lives life item.life c item.cycle are is.here is.number has in
          subst (λ (n : ℕ). In life (open_lives (at_end n (past_in report)))) (sym same) in')
    ]
  ];
}

-- an item of the cycle gets its seat
seat-new : (t : Trace) (report : Report) (region c i : ℕ) (lives : List (Option OpenLife)) (item : Item) → IsLimited t → item.cycle ≡ c → objects_before t c ≤ i → AreLives region (at_end c (past_in report)) lives → HasOne lives item
    → (life : Life) × IsSeatedTo (marked_by t) (past_in report) (c + 1) (object_of i item) life
seat-new t report region c i lives item limited cycle low are one = (
  one.life,
  record {
    number = sym one.number;
    here = here;
    sits = record { class = one.sits.class; pages = one.sits.pages; index = one.sits.index; address = one.sits.address };
    only = λ other k i' sits. one.only other k ((are.all other).0 (subst (λ (n : ℕ). In other (open_lives (at_end n (past_in report)))) cycle i')) (record { class = sits.class; pages = sits.pages; index = sits.index; address = sits.address });
    stays = λ m lt alive. elim (live-cases (marked_by t) m (object_of i item) alive) [
      | inl own ↦ subst (λ (n : ℕ). In one.life (open_lives (at_end n (past_in report)))) own here
      | inr marked ↦ (
          let early = marked-early t m i limited.cycles marked in
          let rise = before-rise t m c (omega arith) in
          absurd (omega arith))
    ];
  },
)
  where
    here : In one.life (open_lives (at_end item.cycle (past_in report)))
    here = subst (λ (n : ℕ). In one.life (open_lives (at_end n (past_in report)))) (sym cycle) ((are.all one.life).1 one.holds)

-- an item of the cycle has no seat
none-new : (t : Trace) (report : Report) (region c i : ℕ) (lives : List (Option OpenLife)) (item : Item) → item.cycle ≡ c → AreLives region (at_end c (past_in report)) lives → ((seat : Seat) → ¬ IsOne lives (object_of 0 item) seat)
    → ¬ HasSeat (marked_by t) (past_in report) (object_of i item)
none-new t report region c i lives item cycle are none has =
    let life = has.0 in
    let k = has.1 in
    let is = has.2 in
    none (record { life = life.number; index = k }) (record {
      life = life;
      number = refl;
      holds = (are.all life).0 (subst (λ (n : ℕ). In life (open_lives (at_end n (past_in report)))) cycle is.here);
      sits = record { class = is.sits.class; pages = is.sits.pages; index = is.sits.index; address = is.sits.address };
      only = λ other j holds sits.
          is.only other j (subst (λ (n : ℕ). In other (open_lives (at_end n (past_in report)))) (sym cycle) ((are.all other).1 holds)) (record { class = sits.class; pages = sits.pages; index = sits.index; address = sits.address });
    })

-- a marked item that has lost its life has no seat
none-lost : (t : Trace) (report : Report) (region c i : ℕ) (lives : List (Option OpenLife)) (item : Item) (life at : Life) → AreLives region (at_end c (past_in report)) lives → is_placed item.answer ≡ true → marked_by t c i ≡ true
    → IsSeatedTo (marked_by t) (past_in report) c (object_of i item) at → HasLife item life → ¬ HasNumber lives life.page item.life → ¬ HasSeat (marked_by t) (past_in report) (object_of i item)
none-lost t report region c i lives item life at are placed marked is lost gone has =
    let other = has.0 in
    let s = has.2 in
    let same : other ≡ at = is.only other has.1 s.here (record { class = s.sits.class; pages = s.sits.pages; index = s.sits.index; address = s.sits.address }) in
    let stays = s.stays c (live-marked (marked_by t) c (object_of i item) placed marked) in
    let open' : In at (open_lives (at_end c (past_in report))) = subst (λ (x : Life). In x (open_lives (at_end c (past_in report)))) same stays in
    let holds = (are.all at).0 open' in
    let a = is.sits.address in
    let b = lost.sits.address in
    let both : Placed (start_of at + item.slot * item.index) ≡ Placed (start_of life + item.slot * item.index) = sym a ∙ b in
    let sum : start_of at + item.slot * item.index ≡ start_of life + item.slot * item.index = cc in
    let page : at.page ≡ life.page = omega arith in
    gone (record { life = entry_of at; here = subst (λ (p : ℕ). get_or lives p None ≡ Some (entry_of at)) page holds; its = is.number })

pub settled-more : (t : Trace) (report : Report) (old mid new : List Item) (region c b0 b1 b2 : ℕ) (lives : List (Option OpenLife)) → IsLimited t → HasAnswers t report (objects_of old) → AreLives region (at_end c (past_in report)) lives
    → AreSettled t report old mid c b0 → IsFirstLost lives (Of (marks_at t c)) mid b0 b1 → AreSeatedIn lives mid new (objects_before t c) (objects_before t (c + 1)) b1 b2 → AreSettled t report old new (c + 1) b2
settled-more t report old mid new region c b0 b1 b2 lives limited answers are was kept got = record {
  same = whole;
  few = (let a = was.few in let b = kept.few in let d = got.few in omega arith);
  lost = λ lt. elim (cases_lt b2 b1) [
    | inl less ↦ unseated-now less
    | inr ge ↦ (
        let d = got.few in
        let e : b1 ≡ b2 = omega arith in
        elim (cases_lt b1 b0) [
          | inl less ↦ subst (λ (n : ℕ). IsUnplaced t report old n) e (lost-now less)
          | inr ge' ↦ (let f = kept.few in let g : b0 ≡ b2 = omega arith in subst (λ (n : ℕ). IsUnplaced t report old n) g (was.lost (omega arith)))
        ])
  ];
  seats = λ i item lt less at placed. elim (cases_lt i (objects_before t c)) [
    | inl before ↦ (
        let at' : slice_get mid i ≡ Some item = sym (got.kept i before) ∙ at in
        let f = kept.few in
        let d = got.few in
        let s = was.seats i item before (omega arith) at' placed in
        (s.0, seat-on t report region c i lives item s.0 limited (asked-new t report old mid i item answers was.same at') before are (λ within. kept.kept i item (omega arith) within at' placed) s.1))
    | inr after ↦ (
        let asked = asked-new t report old new i item answers whole at in
        seat-new t report region c i lives item limited (cycle-is i item asked after lt) after are (got.seats i item after lt less at placed))
  ];
}
  where
    whole : AreSameBut old new
    whole = got.same ∙ was.same

    cycle-is : (i : ℕ) (item : Item) → IsAsked t i item → objects_before t c ≤ i → i < objects_before t (c + 1) → item.cycle ≡ c
    cycle-is i item asked low high =
        let a = asked.low in
        let b = asked.high in
        elim (cases_lt item.cycle c) [
          | inl less ↦ (let r = before-rise t (item.cycle + 1) c (omega arith) in absurd (omega arith))
          | inr ge ↦ elim (cases_lt c item.cycle) [
            | inl more ↦ (let r = before-rise t (c + 1) item.cycle (omega arith) in absurd (omega arith))
            | inr le ↦ omega arith
          ]
        ]

    unseated-now : b2 < b1 → IsUnplaced t report old b2
    unseated-now less =
        let l = got.lost less in
        let s = l.2 in
        let w = same-at old mid b2 s.item was.same s.at in
        let asked = asked-new t report old mid b2 s.item answers was.same s.at in
        let none = none-new t report region c b2 lives s.item (cycle-is b2 s.item asked l.0 l.1) are s.none in
        record {
          item = w.0;
          at = w.1;
          placed = ap (λ (x : Item). is_placed x.answer) (sym w.2) ∙ s.placed;
          none = λ has. none (has-like (marked_by t) (past_in report) b2 w.0 s.item (sym w.2) has);
        }

    lost-now : b1 < b0 → IsUnplaced t report old b1
    lost-now less =
        let l = kept.lost less in
        let s = l.1 in
        let marked : marked_by t c b1 ≡ true = marks-within t c b1 ∙ l.0 in
        let seat = was.seats b1 s.item (marked-early t c b1 limited.cycles marked) less s.at s.placed in
        let w = same-at old mid b1 s.item was.same s.at in
        let none = none-lost t report region c b1 lives s.item s.life seat.0 are s.placed marked seat.1 s.has s.gone in
        record {
          item = w.0;
          at = w.1;
          placed = ap (λ (x : Item). is_placed x.answer) (sym w.2) ∙ s.placed;
          none = λ has. none (has-like (marked_by t) (past_in report) b1 w.0 s.item (sym w.2) has);
        }

-- what the two steps of a cycle ask
pub settled-lives : (t : Trace) (report : Report) (old new : List Item) (c bound : ℕ) → IsLimited t → AreSettled t report old new c bound → AllHaveLives (Of (marks_at t c)) new bound
settled-lives t report old new c bound limited is i item lt within at placed =
    let marked : marked_by t c i ≡ true = marks-within t c i ∙ within in
    let s = is.seats i item (marked-early t c i limited.cycles marked) lt at placed in
    (s.0, record { number = s.1.number; sits = record { class = s.1.sits.class; pages = s.1.sits.pages; index = s.1.sits.index; address = s.1.sits.address } })

pub settled-slots : (t : Trace) (report : Report) (old new : List Item) (c bound i : ℕ) (item : Item) → HasAnswers t report (objects_of old) → AreSettled t report old new c bound → slice_get new i ≡ Some item → is_placed item.answer ≡ true → 1 ≤ item.slot
settled-slots t report old new c bound i item answers is at placed = (asked-new t report old new i item answers is.same at).slot placed

-- ---- once all cycles are done

pub all-alive : (t : Trace) (i c : ℕ) (item : Item) → IsLimited t → IsAsked t i item → live (marked_by t) c (object_of i item) ≡ true → c < length t.cycles
all-alive t i c item limited asked alive = elim (cases_lt c (length t.cycles)) [
  | inl lt ↦ lt
  | inr ge ↦ absurd (elim (live-cases (marked_by t) c (object_of i item) alive) [
    | inl own ↦ (
        let e : item.cycle ≡ c = own in
        let low = asked.low in
        let high = asked.high in
        let a = before-all t item.cycle (omega arith) in
        let b = before-all t (item.cycle + 1) (omega arith) in
        omega arith)
    | inr marked ↦ unmarked-late t c i limited.cycles ge marked
  ])
]

pub before-end : (t : Trace) (i : ℕ) (item : Item) → IsAsked t i item → i < objects_before t (length t.cycles)
before-end t i item asked =
    let high = asked.high in
    let all = before-all t (length t.cycles) (omega arith) in
    let le = before-le t (item.cycle + 1) in
    omega arith

pub settled-fault : (t : Trace) (report : Report) (old new : List Item) (n bound : ℕ) → IsLimited t → HasAnswers t report (objects_of old) → length t.cycles ≤ n → n ≤ length t.cycles → AreSettled t report old new n bound → bound < length old
    → IsLeast (BreaksPlaces (marked_by t) (past_in report) (objects_of old)) (bound + 1)
settled-fault t report old new n bound limited answers ge le is lt =
    let u = is.lost lt in
    record {
      here = record { object = object_of bound u.item; among = object-in old bound u.item u.at; placed = u.placed; wrong = u.none; stands = refl };
      least = λ m less b. (
          let x = item-of old b.object b.among in
          let id : b.object.id ≡ x.number = ap (λ (o : Object). o.id) x.is in
          let s = b.stands in
          let size = same-length old new is.same in
          let within = slice_get_within old x.number x.item x.at in
          let at : slice_get new x.number ≡ Some (get_or new x.number x.item) = slice_get-get_or new x.number x.item (omega arith) in
          let w = same-at old new x.number (get_or new x.number x.item) is.same at in
          let f : Some w.0 ≡ Some x.item = sym w.1 ∙ x.at in
          let same : w.0 ≡ x.item = cc in
          let like : unseated (get_or new x.number x.item) ≡ unseated x.item = w.2 ∙ ap unseated same in
          let placed : is_placed (get_or new x.number x.item).answer ≡ true = ap (λ (y : Item). is_placed y.answer) like ∙ (ap (λ (o : Object). is_placed o.answer) (sym x.is) ∙ b.placed) in
          let asked = asked-new t report old new x.number (get_or new x.number x.item) answers is.same at in
          let end : n ≡ length t.cycles = omega arith in
          let seat = is.seats x.number (get_or new x.number x.item) (subst (λ (k : ℕ). x.number < objects_before t k) (sym end) (before-end t x.number (get_or new x.number x.item) asked)) (omega arith) at placed in
          let has = seated-has (marked_by t) (past_in report) n (object_of x.number (get_or new x.number x.item)) seat.0 seat.1
          (λ c alive. (let a = all-alive t x.number c (get_or new x.number x.item) limited asked alive in omega arith)) in
          b.wrong (subst (λ (o : Object). HasSeat (marked_by t) (past_in report) o) (sym x.is) (has-like (marked_by t) (past_in report) x.number (get_or new x.number x.item) x.item like has)));
    }

pub settled-all : (t : Trace) (report : Report) (old new : List Item) (n bound : ℕ) → IsLimited t → HasAnswers t report (objects_of old) → length t.cycles ≤ n → n ≤ length t.cycles → AreSettled t report old new n bound → length old ≤ bound
    → AreSeated (marked_by t) (past_in report) (objects_of new)
settled-all t report old new n bound limited answers ge le is all o among placed =
    let x = item-of new o among in
    let asked = asked-new t report old new x.number x.item answers is.same x.at in
    let within = slice_get_within new x.number x.item x.at in
    let size = same-length old new is.same in
    let end : n ≡ length t.cycles = omega arith in
    let seat = is.seats x.number x.item (subst (λ (k : ℕ). x.number < objects_before t k) (sym end) (before-end t x.number x.item asked)) (omega arith) x.at (ap (λ (y : Object). is_placed y.answer) (sym x.is) ∙ placed) in (
      seat.0,
      subst (λ (y : Object). IsSeated (marked_by t) (past_in report) y seat.0) (sym x.is) (record {
        number = seat.1.number;
        here = seat.1.here;
        sits = seat.1.sits;
        only = seat.1.only;
        stays = λ c alive. seat.1.stays c (let a = all-alive t x.number c x.item limited asked alive in omega arith) alive;
      }),
    )

-- there are as many items as events
pub count-items : (t : Trace) (report : Report) (items : List Item) → HasAnswers t report (objects_of items) → length items ≡ length (events_of t)
count-items t report items answers =
    let a = same_length (requests_of t) (objects_of items) answers.asked in
    let b : length (requests_of t) ≡ length (requests_from 0 t.cycles) = length-reverse (requests_from 0 t.cycles) in
    let e = ap (λ (es : List Event). length es) (requests-events 0 t.cycles) in
    let d = length-map (requests_from 0 t.cycles) (λ (r : Request). r.event) in
    let f = objects-length (reverse items) in
    let g = length-reverse items in
    omega arith
  where
    objects-length : (is : List Item) → length (objects_from is) ≡ length is
    objects-length [] = refl
    objects-length (i ∷ is) = ap suc (objects-length is)
