-- Rule 5 by seats: of two objects in one seat the first is dead when the other comes.
use Rattle.std.proofs.Common.{◌≡◌, ℕ, ◌+◌, ◌*◌, ◌/◌, ◌<◌, ◌≤◌, Bool, true, false, ltb, max, List, reverse, length, Some, refl, sym, ◌∙◌, ap, subst, arith, ◌⊎◌, inl, inr}
use Rattle.std.specs.List.{slice_get}
use Rattle.std.proofs.lemmas.Bool.{cases_lt, cases_eq, cases_order, le-ltb}
use Rattle.std.proofs.lemmas.List.{length-reverse}
use Rattle.std.proofs.lemmas.Option.{slice_get_within}
use Rattle.size_classes.specs.Classes.{slot_of, pages_of, objects_of as count_of, span_class_of}
use Rattle.size_classes.proofs.Bounds.{slot_bounds, objects_whole, objects_bounds}
use Rattle.page_bitmap.specs.declared.line.Line.{Line}
use Rattle.page_alloc.specs.Lists.{In, IsNumber}
use Rattle.page_alloc.specs.Lives.{Life, open_lives}
use Rattle.page_alloc.specs.Journal.{at_end}
use Rattle.trace_reader.specs.declared.trace.Trace.{Trace}
use Rattle.trace_reader.specs.Limits.{EventFits, events_of}
use Rattle.cycle_history.specs.declared.Answer.TheVariants.{Zero}
use Rattle.cycle_history.specs.declared.Report.{Report}
use Rattle.cycle_history.specs.Needs.{Need, IsNeed}
use Rattle.cycle_history.specs.Requests.{caching_procs, marked_by, region_of, requests_of}
use Rattle.cycle_history.specs.Objects.{Object, is_placed, live, start_of, IsSeated, IsApart}
use Rattle.cycle_history.specs.Rules.{AreApart}
use Rattle.cycle_history.specs.Sound.{past_in}
use Rattle.cycle_history.proofs.OfObjects.{request-of, number-get}
use Rattle.sound_run.specs.Run.{Fits, slot_for}
use Rattle.sound_run.proofs.Live.{legal-at_end, live-cases, live-placed, live-of, live-marked}
use Rattle.sound_run.proofs.Seats.{apart}
use Rattle.report_check.specs.Lines.{IsLeast}
use Rattle.report_check.specs.Placing.{BreaksApart}
use Rattle.report_check.proofs.Twins.{event-at}
use Rattle.report_check.specs.declared.items.Item.{Item}
use Rattle.report_check.specs.declared.tops.Tops.{Tops}
use Rattle.report_check.specs.Items.{need_of, object_of, objects_of}
use Rattle.report_check.specs.Lasts.{last_at}
use Rattle.report_check.specs.Tops.{AreNoTops, IsRaised, top_at}
use Rattle.report_check.specs.Known.{FollowInSeats, AreKnownItems, AreTogether, AreTops, IsSatFrom}
use Rattle.report_check.proofs.Answered.{all-at}
use Rattle.report_check.proofs.Numbered.{item-of, object-in}
use Rattle.report_check.proofs.Settled.{IsAsked, asked-at, one-life, life-line, number-on}
use Rattle.report_check.proofs.Lasting.{cycles-rise}

-- ---- needs

sized : (a : ℕ) → (a ≡ 0 → ⊥) → 1 ≤ a
sized a some = omega arith

off-on : (b : Bool) → b ≡ false → b ≡ true → ⊥
off-on b off on = cc

-- what a placed item needs fits into its pages
pub need-fits : (size : ℕ) (scan : Bool) (need : Need) → IsNeed size scan need → Fits need
need-fits size scan need is = elim (cases_lt 32768 size) [
  | inl large ↦ (
      let l = is.large large in
      let pages = l.pages in
      let some : 1 ≤ need.pages = omega arith in
      let one = l.count in
      let slot = l.slot in
      let room : need.slot * need.count ≡ need.slot = ap (λ (n : ℕ). need.slot * n) one ∙ omega arith in
      large-fits scan need l.class some one slot room)
  | inr small ↦ (
      let s = is.small small in
      let k = s.0 in
      small-fits scan k need s.1.is_class.0 s.2.class (whole k s.1.is_class.0 s.1.is_class.1 need s.2.slot s.2.count s.2.pages) (bound k s.1.is_class.0 s.1.is_class.1 need s.2.slot) s.2.slot s.2.count)
]
  where
    large-fits : (scan : Bool) (need : Need) → need.class ≡ span_class_of 0 scan → 1 ≤ need.pages → need.count ≡ 1 → need.slot ≡ 8192 * need.pages → need.slot * need.count ≡ need.slot → Fits need
    large-fits true need class some one slot room = record { some = omega arith; room = omega arith; slot = (let c : need.class ≡ 0 = class in rw c slot); count = (let c : need.class ≡ 0 = class in rw c one) }
    large-fits false need class some one slot room = record { some = omega arith; room = omega arith; slot = (let c : need.class ≡ 1 = class in rw c slot); count = (let c : need.class ≡ 1 = class in rw c one) }

    bound : (k : ℕ) → 1 ≤ k → k ≤ 67 → (need : Need) → need.slot ≡ slot_of k → 1 ≤ need.slot
    bound k low high need slot = (let b = (slot_bounds k (low, high)).0 in omega arith)

    whole : (k : ℕ) → 1 ≤ k → k ≤ 67 → (need : Need) → need.slot ≡ slot_of k → need.count ≡ count_of k → need.pages ≡ pages_of k → need.slot * need.count ≤ 8192 * need.pages
    whole k low high need slot count pages =
        let w = objects_whole k (low, high) in
        let e : need.count ≡ 8192 * need.pages / need.slot = count ∙ (w ∙ (ap (λ (n : ℕ). 8192 * n / slot_of k) (sym pages) ∙ ap (λ (n : ℕ). 8192 * need.pages / n) (sym slot))) in
        let some = bound k low high need slot in
        let f : need.slot * need.count ≡ need.slot * (8192 * need.pages / need.slot) = ap (λ (n : ℕ). need.slot * n) e in
        omega arith

    halves : (scan : Bool) (k : ℕ) (need : Need) → need.class ≡ span_class_of k scan → need.class / 2 ≡ k
    halves true k need e = (let f : need.class ≡ 2 * k = e in omega arith)
    halves false k need e = (let f : need.class ≡ 2 * k + 1 = e in omega arith)

    above : (scan : Bool) (k : ℕ) (need : Need) → 1 ≤ k → need.class ≡ span_class_of k scan → 2 ≤ need.class
    above true k need some e = (let f : need.class ≡ 2 * k = e in omega arith)
    above false k need some e = (let f : need.class ≡ 2 * k + 1 = e in omega arith)

    not-below : (n : ℕ) → 2 ≤ n → ltb n 2 ≡ false
    not-below n le = le-ltb n 2 le

    small-fits : (scan : Bool) (k : ℕ) (need : Need) → 1 ≤ k → need.class ≡ span_class_of k scan → need.slot * need.count ≤ 8192 * need.pages → 1 ≤ need.slot → need.slot ≡ slot_of k → need.count ≡ count_of k → Fits need
    small-fits scan k need some class room least slot count =
        let half = halves scan k need class in
        let big = above scan k need some class in
        let off = not-below need.class big in
        record {
          some = least;
          room = room;
          slot = rw off (slot ∙ ap slot_of (sym half));
          count = rw off (count ∙ ap count_of (sym half));
        }

-- its span class is one of the table, and it has at most so many slots
class-below : (scan : Bool) (k class : ℕ) → k ≤ 67 → class ≡ span_class_of k scan → class < 136
class-below true k class le e = (let f : class ≡ 2 * k = e in omega arith)
class-below false k class le e = (let f : class ≡ 2 * k + 1 = e in omega arith)

need-class : (size : ℕ) (scan : Bool) (need : Need) → IsNeed size scan need → need.class < 136
need-class size scan need is = elim (cases_lt 32768 size) [
  | inl large ↦ class-below scan 0 need.class (omega arith) (is.large large).class
  | inr small ↦ (let s = is.small small in class-below scan s.0 need.class s.1.is_class.1 s.2.class)
]

need-few : (size : ℕ) (scan : Bool) (need : Need) → IsNeed size scan need → need.count ≤ 1024
need-few size scan need is = elim (cases_lt 32768 size) [
  | inl large ↦ (let e = (is.large large).count in omega arith)
  | inr small ↦ (let s = is.small small in let b = (objects_bounds s.0 s.1.is_class).1 in let e = s.2.count in omega arith)
]

-- what is known of a placed item of a report
pub record IsPlacedItem (t : Trace) (report : Report) (i : ℕ) (item : Item) : Type 0 where
  pub asked : IsAsked t i item
  pub fits : Fits (need_of item)
  pub life : Life
  pub seated : IsSeated (marked_by t) (past_in report) (object_of i item) life
  pub class : item.class < 136
  pub few : item.count ≤ 1024
  pub proc : item.proc < t.header.procs

pub placed-item : (t : Trace) (report : Report) (items : List Item) (lasts : List ℕ) (i : ℕ) (item : Item) → AreKnownItems t report items lasts → slice_get items i ≡ Some item → is_placed item.answer ≡ true → IsPlacedItem t report i item
placed-item t report items lasts i item known at placed =
    let among = object-in items i item at in
    let r = request-of (requests_of t) (objects_of items) (object_of i item) known.answers.asked among in
    let some : 1 ≤ r.request.event.size = sized r.request.event.size (λ none. (let z : item.answer ≡ Zero = (r.answers.zero).1 none in off-on (is_placed item.answer) (ap is_placed z) placed)) in
    let seat = known.places (object_of i item) among placed in
    record {
      asked = asked-at t report items i item known.answers at;
      fits = need-fits r.request.event.size r.request.event.scan (need_of item) (r.answers.need some);
      life = seat.0;
      seated = seat.1;
      class = need-class r.request.event.size r.request.event.scan (need_of item) (r.answers.need some);
      few = need-few r.request.event.size r.request.event.scan (need_of item) (r.answers.need some);
      proc = (let p = (all-at (EventFits t.header.procs) (events_of t) i r.request.event known.limited.events (event-at t i r.request r.asked)).proc in let e : item.proc ≡ r.request.event.proc = r.answers.proc in omega arith);
    }

-- a life's number is that of a journal line
number-below : (n : ℕ) (line : Line) (past : List Line) → IsNumber n line past → n < length past
number-below n line past h = (let at = slice_get_within (reverse past) n line (number-get n line past h) in let e = length-reverse past in omega arith)

pub life-inside : (past : List Line) (c : ℕ) (life : Life) → In life (open_lives (at_end c past)) → life.number < length past
life-inside past c life among = let made = life-line (at_end c past) life among in number-below life.number made.line past (number-on c life.number past made.line made.number)

-- an item lives in a cycle exactly where the cycle is neither before its own nor behind its last one
pub lives-when : (t : Trace) (report : Report) (items : List Item) (lasts : List ℕ) (i c : ℕ) (item : Item) → AreKnownItems t report items lasts → slice_get items i ≡ Some item → live (marked_by t) c (object_of i item) ≡ true
    → (item.cycle ≤ c) × (c ≤ last_at lasts i)
lives-when t report items lasts i c item known at alive =
    let own = known.until.own i item at in
    elim (live-cases (marked_by t) c (object_of i item) alive) [
      | inl here ↦ (let e : item.cycle ≡ c = here in (omega arith, omega arith))
      | inr on ↦ (let w = (known.until.marked i c item at).0 on in let lt = w.0 in (omega arith, w.1))
    ]

pub lives-then : (t : Trace) (report : Report) (items : List Item) (lasts : List ℕ) (i c : ℕ) (item : Item) → AreKnownItems t report items lasts → slice_get items i ≡ Some item → is_placed item.answer ≡ true → item.cycle ≤ c → c ≤ last_at lasts i
    → live (marked_by t) c (object_of i item) ≡ true
lives-then t report items lasts i c item known at placed low high = elim (cases_eq item.cycle c) [
  | inl own ↦ live-of (marked_by t) c (object_of i item) placed own
  | inr later ↦ live-marked (marked_by t) c (object_of i item) placed ((known.until.marked i c item at).1 (omega arith, high))
]

-- two items that live in one cycle are apart where they have two seats
pub seats-apart : (t : Trace) (report : Report) (items : List Item) (lasts : List ℕ) (i j c : ℕ) (a b : Item) → AreKnownItems t report items lasts → slice_get items i ≡ Some a → slice_get items j ≡ Some b
    → live (marked_by t) c (object_of i a) ≡ true → live (marked_by t) c (object_of j b) ≡ true → (AreTogether a b → ⊥) → IsApart (object_of i a) (object_of j b)
seats-apart t report items lasts i j c a b known ia jb la lb differ =
    let pa = placed-item t report items lasts i a known ia (live-placed (marked_by t) c (object_of i a) la) in
    let pb = placed-item t report items lasts j b known jb (live-placed (marked_by t) c (object_of j b) lb) in
    let legal = legal-at_end (caching_procs t) (region_of t) t.header.goal c (past_in report) known.journal.legal in
    let na = pa.seated.number in
    let nb = pb.seated.number in
    apart (caching_procs t) (region_of t) t.header.goal (at_end c (past_in report)) (object_of i a) (object_of j b) pa.life pb.life legal (pa.seated.stays c la) (pb.seated.stays c lb) pa.fits pb.fits pa.seated.sits pb.seated.sits
    (λ same index. differ (sym na ∙ (ap (λ (l : Life). l.number) same ∙ nb), index))

-- and overlap where they have one
pub seats-overlap : (t : Trace) (report : Report) (items : List Item) (lasts : List ℕ) (i j : ℕ) (a b : Item) → AreKnownItems t report items lasts → slice_get items i ≡ Some a → slice_get items j ≡ Some b
    → is_placed a.answer ≡ true → is_placed b.answer ≡ true → AreTogether a b → ¬ IsApart (object_of i a) (object_of j b)
seats-overlap t report items lasts i j a b known ia jb placed placed' one off =
    let pa = placed-item t report items lasts i a known ia placed in
    let pb = placed-item t report items lasts j b known jb placed' in
    let na = pa.seated.number in
    let nb = pb.seated.number in
    let same = one-life (past_in report) pa.life pb.life a.cycle b.cycle pa.seated.here pb.seated.here (na ∙ (one.0 ∙ sym nb)) in
    let class : a.class ≡ b.class = sym pa.seated.sits.class ∙ (ap (λ (l : Life). l.class) same ∙ pb.seated.sits.class) in
    let pages : a.pages ≡ b.pages = sym pa.seated.sits.pages ∙ (ap (λ (l : Life). l.pages) same ∙ pb.seated.sits.pages) in
    let slot : a.slot ≡ b.slot = pa.fits.slot ∙ (ap (λ (n : ℕ). slot_for n a.pages) class ∙ (ap (λ (n : ℕ). slot_for b.class n) pages ∙ sym pb.fits.slot)) in
    let start : start_of pa.life ≡ start_of pb.life = ap (λ (l : Life). start_of l) same in
    let offset : a.slot * a.index ≡ b.slot * b.index = ap (λ (n : ℕ). n * a.index) slot ∙ ap (λ (n : ℕ). b.slot * n) one.1 in
    let some = pa.fits.some in
    let some' = pb.fits.some in
    elim (off (start_of pa.life + a.slot * a.index) (start_of pb.life + b.slot * b.index) pa.seated.sits.address pb.seated.sits.address) [ inl lt ↦ omega arith | inr gt ↦ omega arith ]

-- ---- tops

pub tops-none : (items : List Item) (lasts : List ℕ) (tops : Tops) → AreNoTops tops → AreTops items lasts 0 tops
tops-none items lasts tops none life index c = (λ lt. absurd (let z = none life index in omega arith), λ sat. absurd (let lt = sat.before in omega arith))

pub sat-on : (items : List Item) (lasts : List ℕ) (n m life index c : ℕ) → n ≤ m → IsSatFrom items lasts n life index c → IsSatFrom items lasts m life index c
sat-on items lasts n m life index c le sat = record {
  number = sat.number;
  item = sat.item;
  before = (let lt = sat.before in omega arith);
  at = sat.at;
  placed = sat.placed;
  life_is = sat.life_is;
  index_is = sat.index_is;
  lives = sat.lives;
}

-- the newest of the items, or one of those before it
sat-cases : (items : List Item) (lasts : List ℕ) (n life index c : ℕ) (item : Item) → slice_get items n ≡ Some item → IsSatFrom items lasts (n + 1) life index c
    → IsSatFrom items lasts n life index c ⊎ ((is_placed item.answer ≡ true) × (item.life ≡ life) × (item.index ≡ index) × (c ≤ last_at lasts n))
sat-cases items lasts n life index c item at sat = elim (cases_eq sat.number n) [
  | inr other ↦ inl (record { number = sat.number; item = sat.item; before = (let lt = sat.before in omega arith); at = sat.at; placed = sat.placed; life_is = sat.life_is; index_is = sat.index_is; lives = sat.lives })
  | inl same ↦ (
      let there : slice_get items n ≡ Some sat.item = subst (λ (k : ℕ). slice_get items k ≡ Some sat.item) same sat.at in
      let e : sat.item ≡ item = some-same (sym there ∙ at) in
      inr (
        ap (λ (x : Item). is_placed x.answer) (sym e) ∙ sat.placed,
        ap (λ (x : Item). x.life) (sym e) ∙ sat.life_is,
        ap (λ (x : Item). x.index) (sym e) ∙ sat.index_is,
        subst (λ (k : ℕ). c ≤ last_at lasts k) same sat.lives,
      ))
]
  where
    some-same : {x y : Item} → Some x ≡ Some y → x ≡ y
    some-same h = cc

pub tops-more : (items : List Item) (lasts : List ℕ) (n : ℕ) (item : Item) (old new : Tops) → slice_get items n ≡ Some item → is_placed item.answer ≡ true → IsRaised old new item.life item.index (last_at lasts n + 1)
    → AreTops items lasts n old → AreTops items lasts (n + 1) new
tops-more items lasts n item old new at placed raised are life index c = (
  λ lt. elim (cases_eq life item.life) [
    | inr other ↦ (let e = raised.others life index (inl other) in sat-on items lasts n (n + 1) life index c (omega arith) ((are life index c).0 (omega arith)))
    | inl same ↦ elim (cases_eq index item.index) [
      | inr other ↦ (let e = raised.others life index (inr other) in sat-on items lasts n (n + 1) life index c (omega arith) ((are life index c).0 (omega arith)))
      | inl here ↦ (
          let e : top_at new life index ≡ max (top_at old life index) (last_at lasts n + 1) =
          subst (λ (k : ℕ). top_at new k index ≡ max (top_at old k index) (last_at lasts n + 1)) (sym same)
          (subst (λ (k : ℕ). top_at new item.life k ≡ max (top_at old item.life k) (last_at lasts n + 1)) (sym here) raised.here) in
          elim (cases_lt c (top_at old life index)) [
            | inl old' ↦ sat-on items lasts n (n + 1) life index c (omega arith) ((are life index c).0 old')
            | inr ge ↦ record { number = n; item = item; before = omega arith; at = at; placed = placed; life_is = sym same; index_is = sym here; lives = omega arith }
          ])
    ]
  ],
  λ sat. elim (sat-cases items lasts n life index c item at sat) [
    | inl before ↦ (
        let was = (are life index c).1 before in
        elim (cases_eq life item.life) [
          | inr other ↦ (let e = raised.others life index (inl other) in omega arith)
          | inl same ↦ elim (cases_eq index item.index) [
            | inr other ↦ (let e = raised.others life index (inr other) in omega arith)
            | inl here ↦ (
                let e : top_at new life index ≡ max (top_at old life index) (last_at lasts n + 1) =
                subst (λ (k : ℕ). top_at new k index ≡ max (top_at old k index) (last_at lasts n + 1)) (sym same)
                (subst (λ (k : ℕ). top_at new item.life k ≡ max (top_at old item.life k) (last_at lasts n + 1)) (sym here) raised.here) in
                omega arith)
          ]
        ])
    | inr new' ↦ (
        let e : top_at new life index ≡ max (top_at old life index) (last_at lasts n + 1) =
        subst (λ (k : ℕ). top_at new k index ≡ max (top_at old k index) (last_at lasts n + 1)) new'.1
        (subst (λ (k : ℕ). top_at new item.life k ≡ max (top_at old item.life k) (last_at lasts n + 1)) new'.2 raised.here) in
        let le = new'.3 in
        omega arith)
  ],
)

pub tops-other : (items : List Item) (lasts : List ℕ) (n : ℕ) (item : Item) (tops : Tops) → slice_get items n ≡ Some item → (is_placed item.answer ≡ true → ⊥) → AreTops items lasts n tops → AreTops items lasts (n + 1) tops
tops-other items lasts n item tops at off are life index c = (
  λ lt. sat-on items lasts n (n + 1) life index c (omega arith) ((are life index c).0 lt),
  λ sat. elim (sat-cases items lasts n life index c item at sat) [ inl before ↦ (are life index c).1 before | inr new ↦ absurd (off new.0) ],
)

-- ---- clear

pub clear-none : (items : List Item) (lasts : List ℕ) → FollowInSeats items lasts 0
clear-none items lasts i j a b lt less ia jb pa pb one = absurd (omega arith)

pub clear-other : (items : List Item) (lasts : List ℕ) (n : ℕ) (item : Item) → slice_get items n ≡ Some item → (is_placed item.answer ≡ true → ⊥) → FollowInSeats items lasts n → FollowInSeats items lasts (n + 1)
clear-other items lasts n item at off are i j a b lt less ia jb pa pb one = elim (cases_eq j n) [
  | inr other ↦ are i j a b lt (omega arith) ia jb pa pb one
  | inl same ↦ (
      let there : slice_get items n ≡ Some b = subst (λ (k : ℕ). slice_get items k ≡ Some b) same jb in
      let e : b ≡ item = some-same (sym there ∙ at) in
      absurd (off (ap (λ (x : Item). is_placed x.answer) (sym e) ∙ pb)))
]
  where
    some-same : {x y : Item} → Some x ≡ Some y → x ≡ y
    some-same h = cc

pub clear-more : (items : List Item) (lasts : List ℕ) (n : ℕ) (item : Item) (tops : Tops) → slice_get items n ≡ Some item → AreTops items lasts n tops → top_at tops item.life item.index ≤ item.cycle
    → FollowInSeats items lasts n → FollowInSeats items lasts (n + 1)
clear-more items lasts n item tops at tops-are le are i j a b lt less ia jb pa pb one = elim (cases_eq j n) [
  | inr other ↦ are i j a b lt (omega arith) ia jb pa pb one
  | inl same ↦ (
      let there : slice_get items n ≡ Some b = subst (λ (k : ℕ). slice_get items k ≡ Some b) same jb in
      let e : b ≡ item = some-same (sym there ∙ at) in
      let cycle = ap (λ (x : Item). x.cycle) e in
      elim (cases_lt (last_at lasts i) b.cycle) [
        | inl before ↦ before
        | inr after ↦ (
            let above = (tops-are item.life item.index item.cycle).1 (record {
              number = i;
              item = a;
              before = omega arith;
              at = ia;
              placed = pa;
              life_is = one.0 ∙ ap (λ (x : Item). x.life) e;
              index_is = one.1 ∙ ap (λ (x : Item). x.index) e;
              lives = omega arith;
            }) in
            absurd (omega arith))
      ])
]
  where
    some-same : {x y : Item} → Some x ≡ Some y → x ≡ y
    some-same h = cc

-- of the first items each two are apart that live in one cycle
clear-pair : (t : Trace) (report : Report) (items : List Item) (lasts : List ℕ) (n i j c : ℕ) (a b : Item) → AreKnownItems t report items lasts → FollowInSeats items lasts n → i < j → j < n → slice_get items i ≡ Some a → slice_get items j ≡ Some b
    → live (marked_by t) c (object_of i a) ≡ true → live (marked_by t) c (object_of j b) ≡ true → IsApart (object_of i a) (object_of j b)
clear-pair t report items lasts n i j c a b known clear lt less ia jb la lb =
    seats-apart t report items lasts i j c a b known ia jb la lb
    (λ one. (
    let dead = clear i j a b lt less ia jb (live-placed (marked_by t) c (object_of i a) la) (live-placed (marked_by t) c (object_of j b) lb) one in
    let wa = lives-when t report items lasts i c a known ia la in
    let wb = lives-when t report items lasts j c b known jb lb in
    let p = wa.1 in
    let q = wb.0 in
    omega arith))

apart-turned : (a b : Object) → IsApart a b → IsApart b a
apart-turned a b is x y bx ay = elim (is y x ay bx) [ inl le ↦ inr le | inr le ↦ inl le ]

pub clear-all : (t : Trace) (report : Report) (items : List Item) (lasts : List ℕ) (n : ℕ) → AreKnownItems t report items lasts → length items ≤ n → FollowInSeats items lasts n → AreApart (marked_by t) (objects_of items)
clear-all t report items lasts n known all clear c a b ia ib ne la lb =
    let x = item-of items a ia in
    let y = item-of items b ib in
    let la' : live (marked_by t) c (object_of x.number x.item) ≡ true = subst (λ (o : Object). live (marked_by t) c o ≡ true) x.is la in
    let lb' : live (marked_by t) c (object_of y.number y.item) ≡ true = subst (λ (o : Object). live (marked_by t) c o ≡ true) y.is lb in
    let wx = slice_get_within items x.number x.item x.at in
    let wy = slice_get_within items y.number y.item y.at in
    let ida : a.id ≡ x.number = ap (λ (o : Object). o.id) x.is in
    let idb : b.id ≡ y.number = ap (λ (o : Object). o.id) y.is in
    let is : IsApart (object_of x.number x.item) (object_of y.number y.item) = elim (cases_order x.number y.number) [
      | inl same ↦ absurd (ne (ida ∙ (same ∙ sym idb)))
      | inr order ↦ elim order [
        | inl lt ↦ clear-pair t report items lasts n x.number y.number c x.item y.item known clear lt (omega arith) x.at y.at la' lb'
        | inr gt ↦ apart-turned (object_of y.number y.item) (object_of x.number x.item) (clear-pair t report items lasts n y.number x.number c y.item x.item known clear gt (omega arith) y.at x.at lb' la')
      ]
    ] in
    subst (λ (o : Object). IsApart o b) (sym x.is) (subst (λ (o : Object). IsApart (object_of x.number x.item) o) (sym y.is) is)

pub clear-breaks : (t : Trace) (report : Report) (items : List Item) (lasts : List ℕ) (n : ℕ) (item : Item) (tops : Tops) → AreKnownItems t report items lasts → slice_get items n ≡ Some item → is_placed item.answer ≡ true
    → AreTops items lasts n tops → item.cycle < top_at tops item.life item.index → FollowInSeats items lasts n → IsLeast (BreaksApart (marked_by t) (objects_of items)) (n + 1)
clear-breaks t report items lasts n item tops known at placed tops-are above clear =
    let sat = (tops-are item.life item.index item.cycle).0 above in
    let asked = asked-at t report items sat.number sat.item known.answers sat.at in
    let asked' = asked-at t report items n item known.answers at in
    let lt = sat.before in
    let order = cycles-rise t sat.number n sat.item item asked asked' (omega arith) in
    let own = known.until.own n item at in
    record {
      here = record {
        earlier = object_of sat.number sat.item;
        later = object_of n item;
        among = (object-in items sat.number sat.item sat.at, object-in items n item at);
        before = lt;
        cycle = item.cycle;
        alive = (
          lives-then t report items lasts sat.number item.cycle sat.item known sat.at sat.placed order sat.lives,
          lives-then t report items lasts n item.cycle item known at placed (omega arith) own,
        );
        wrong = seats-overlap t report items lasts sat.number n sat.item item known sat.at at sat.placed placed (sat.life_is, sat.index_is);
        stands = refl;
      };
      least = λ m less b. (
          let x = item-of items b.earlier b.among.0 in
          let y = item-of items b.later b.among.1 in
          let idx : b.earlier.id ≡ x.number = ap (λ (o : Object). o.id) x.is in
          let idy : b.later.id ≡ y.number = ap (λ (o : Object). o.id) y.is in
          let s = b.stands in
          let before = b.before in
          let la = subst (λ (o : Object). live (marked_by t) b.cycle o ≡ true) x.is b.alive.0 in
          let lb = subst (λ (o : Object). live (marked_by t) b.cycle o ≡ true) y.is b.alive.1 in
          let is = clear-pair t report items lasts n x.number y.number b.cycle x.item y.item known clear (omega arith) (omega arith) x.at y.at la lb in
          b.wrong (subst (λ (o : Object). IsApart o b.later) (sym x.is) (subst (λ (o : Object). IsApart (object_of x.number x.item) o) (sym y.is) is)));
    }

-- ---- what the judges' calls ask

pub placed-index : (t : Trace) (report : Report) (items : List Item) (lasts : List ℕ) (i : ℕ) (item : Item) → AreKnownItems t report items lasts → slice_get items i ≡ Some item → is_placed item.answer ≡ true → item.index < 1024
placed-index t report items lasts i item known at placed =
    let p = placed-item t report items lasts i item known at placed in
    let k = p.seated.sits.index in
    let few = p.few in
    omega arith

pub placed-place : (t : Trace) (report : Report) (items : List Item) (lasts : List ℕ) (i : ℕ) (item : Item) → AreKnownItems t report items lasts → slice_get items i ≡ Some item → is_placed item.answer ≡ true
    → item.proc * 136 + item.class < t.header.procs * 136
placed-place t report items lasts i item known at placed =
    let p = placed-item t report items lasts i item known at placed in
    let proc = p.proc in
    let class = p.class in
    omega arith

pub placed-inside : (t : Trace) (report : Report) (items : List Item) (lasts : List ℕ) (i : ℕ) (item : Item) → AreKnownItems t report items lasts → slice_get items i ≡ Some item → is_placed item.answer ≡ true → item.life < length report.journal
placed-inside t report items lasts i item known at placed =
    let p = placed-item t report items lasts i item known at placed in
    let inside = life-inside (past_in report) item.cycle p.life p.seated.here in
    let n = p.seated.number in
    let e = length-reverse report.journal in
    omega arith
