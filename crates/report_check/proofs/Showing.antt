-- Rule 9: which buckets are due, by their samples, and the line that breaks the rule.
use Rattle.std.proofs.Common.{◌≡◌, ◌≢◌, ℕ, suc, ◌+◌, ◌^◌, ◌<◌, ◌≤◌, Bool, true, false, ◌&&◌, not, eqb, ltb, List, [], ◌∷◌, ◌++◌, map, take, length, get_or, Some, MatchBool, IsPermutation, refl, sym, ◌∙◌, ap, subst, arith, ◌⊎◌, inl, inr, ◌↔◌}
use Rattle.std.specs.List.{slice_get}
use Rattle.std.proofs.lemmas.Bool.{cases_Bool, cases_eq, cases_lt, eqb-true, eq-eqb, le-ltb, lt-ltb, ltb-true, and_parts, and_from}
use Rattle.std.proofs.lemmas.List.{take_more, take_all, map_push}
use Rattle.std.proofs.lemmas.Option.{slice_get_within, slice_get-get_or}
use Rattle.page_alloc.specs.Lists.{In}
use Rattle.trace_reader.specs.declared.trace.Trace.{Trace}
use Rattle.trace_reader.specs.Limits.{events_of}
use Rattle.cycle_history.specs.declared.Prof.{Prof}
use Rattle.cycle_history.specs.declared.Report.{Report}
use Rattle.cycle_history.specs.Requests.{last_cycle, marked_by}
use Rattle.cycle_history.specs.Objects.{Object, is_placed}
use Rattle.cycle_history.specs.Orders.{IsProfBefore}
use Rattle.cycle_history.specs.Sampled.{stack_of}
use Rattle.cycle_history.specs.Profile.{Bucket, Samples, SamplesBy, IsChanged, IsOf, allocs_at, frees_at, is_sample, samples_in}
use Rattle.cycle_history.specs.Sound.{HasProfile}
use Rattle.cycle_history.proofs.Sampling.{AreAlike, samples-one}
use Rattle.report_check.specs.Lines.{IsLeast, end_of, profile_at}
use Rattle.report_check.specs.Published.{BreaksProfile, IsDue, IsRightProf, is_of_each}
use Rattle.report_check.specs.declared.items.Item.{Item}
use Rattle.report_check.specs.declared.sampled.Sampled.{Sampled}
use Rattle.report_check.specs.Items.{object_of, objects_of}
use Rattle.report_check.specs.Known.{AreKnownItems}
use Rattle.report_check.specs.Lasts.{last_at}
use Rattle.report_check.specs.Order.{place_of}
use Rattle.report_check.specs.Printed.{AllPrinted, ArePrinted, AreRightProfs, HasBucketLine, IsFirstWrongProf, IsItemPrinted, LacksLine, bucket_at}
use Rattle.report_check.specs.Sampling.{AreSamples, flag_at, samples_by}
use Rattle.report_check.proofs.Bucketing.{freed-when, place-one, stack-at}
use Rattle.report_check.proofs.Counting.{count-lt, count-one, count-other, count-some, in-permutation}
use Rattle.report_check.proofs.Numbered.{item-of, object-in}
use Rattle.report_check.proofs.Printing.{profile-met, right-alike}
use Rattle.report_check.proofs.Summed.{in-get}

-- ---- the places of lines

in-map : {X Y : Type 0} (f : X → Y) (xs : List X) (y : Y) → In y (map f xs) → (x : X) × In x xs × (f x ≡ y)
in-map f [] y i = absurd i
in-map f (x ∷ xs) y i = elim i [
  | inl here ↦ (x, inl refl, here)
  | inr there ↦ (let r = in-map f xs y there in (r.0, inr r.1, r.2))
]

map-in : {X Y : Type 0} (f : X → Y) (xs : List X) (x : X) → In x xs → In (f x) (map f xs)
map-in f [] x i = absurd i
map-in f (y ∷ xs) x i = elim i [ inl here ↦ inl (ap f here) | inr there ↦ inr (map-in f xs x there) ]

abbrev pub line_place : Prof → ℕ
line_place line = place_of line.stack line.size line.mark

-- the places of the first n lines
pub record ArePlacesTo (lines : List Prof) (n : ℕ) (list : List ℕ) : Type 0 where
  pub places : list ≡ map line_place (take n lines)
  pub few : (k : ℕ) (line : Prof) → k < n → slice_get lines k ≡ Some line → (line.size < 2 ^ 64) × (line.mark < 2 ^ 32)

pub lines-none : (lines : List Prof) (list : List ℕ) → list ≡ [] → ArePlacesTo lines 0 list
lines-none lines list e = record { places = e; few = λ k line lt. absurd (omega arith) }

pub lines-more : (lines : List Prof) (n place : ℕ) (d : Prof) (list : List ℕ) → n < length lines → place ≡ line_place (get_or lines n d) → (get_or lines n d).size < 2 ^ 64 → (get_or lines n d).mark < 2 ^ 32
    → ArePlacesTo lines n list → ArePlacesTo lines (n + 1) (list ++ place ∷ [])
lines-more lines n place d list lt is size mark are = record {
  places =
      ap (λ (xs : List ℕ). xs ++ place ∷ []) are.places
      ∙ (ap (λ (x : ℕ). map line_place (take n lines) ++ x ∷ []) is
      ∙ (sym (map_push line_place (take n lines) (get_or lines n d)) ∙ ap (λ (xs : List Prof). map line_place xs) (sym (take_more lines n d lt))));
  few = λ k line less at. elim (cases_eq k n) [
    | inl same ↦ (
        let here = slice_get-get_or lines n d lt in
        let e : get_or lines n d ≡ line = (let there : slice_get lines n ≡ Some line = subst (λ (i : ℕ). slice_get lines i ≡ Some line) same at in cc) in
        (subst (λ (x : Prof). x.size < 2 ^ 64) e size, subst (λ (x : Prof). x.mark < 2 ^ 32) e mark))
    | inr other ↦ are.few k line (omega arith) at
  ];
}

pub lines-all : (lines : List Prof) (n : ℕ) (list sorted : List ℕ) → length lines ≤ n → IsPermutation list sorted → ArePlacesTo lines n list → ArePrinted lines sorted
lines-all lines n list sorted all same are m stack slot lm ls =
    let whole : list ≡ map line_place lines = are.places ∙ ap (λ (xs : List Prof). map line_place xs) (take_all n lines all) in
    let moved = in-permutation list sorted (place_of stack slot m) same in (
      (λ i. (
          let r = in-map line_place lines (place_of stack slot m) (subst (λ (xs : List ℕ). In (place_of stack slot m) xs) whole (moved.1 i)) in
          let g = in-get lines r.0 r.1 in
          let within = slice_get_within lines g.0 r.0 g.1 in
          let few = are.few g.0 r.0 (omega arith) g.1 in
          let one = place-one r.0.stack r.0.size r.0.mark stack slot m few.0 few.1 ls lm r.2 in
          (r.0, r.1, record { mark = one.2; stack = one.0; size = one.1 }))),
      (λ has. (
          let line = has.0 in
          let is = has.2 in
          let e : line_place line ≡ place_of stack slot m =
          ap (λ (k : ℕ). place_of k line.size line.mark) is.stack ∙ (ap (λ (k : ℕ). place_of stack k line.mark) is.size ∙ ap (λ (k : ℕ). place_of stack slot k) is.mark) in
          moved.0 (subst (λ (xs : List ℕ). In (place_of stack slot m) xs) (sym whole) (subst (λ (k : ℕ). In k (map line_place lines)) e (map-in line_place lines line has.1))))),
    )

pub match-same : (P Q : Type 0) (b : Bool) → P ↔ Q → MatchBool b P (¬ P) → MatchBool b Q (¬ Q)
match-same P Q true iff p = iff.0 p
match-same P Q false iff p = λ q. p (iff.1 q)

pub match-due : (P : Type 0) (b due : Bool) → due ≡ true → MatchBool b P (¬ P) → MatchBool b (due ≡ true → P) (¬ (due ≡ true → P))
match-due P true due on p = λ _. p
match-due P false due on p = λ f. p (f on)

-- ---- a line is there or isn't

is-of-cases : (m : ℕ) (b : Bucket) (line : Prof) → IsOf m b line ⊎ ¬ IsOf m b line
is-of-cases m b line = elim (cases_eq line.mark m) [
  | inr other ↦ inr (λ is. other is.mark)
  | inl mark ↦ elim (cases_eq line.stack b.stack) [
    | inr other ↦ inr (λ is. other is.stack)
    | inl stack ↦ elim (cases_eq line.size b.slot) [
      | inr other ↦ inr (λ is. other is.size)
      | inl size ↦ inl (record { mark = mark; stack = stack; size = size })
    ]
  ]
]

line-cases : (lines : List Prof) (m : ℕ) (b : Bucket) → HasBucketLine lines m b ⊎ ¬ HasBucketLine lines m b
line-cases [] m b = inr (λ has. has.1)
line-cases (line ∷ lines) m b = elim (is-of-cases m b line) [
  | inl is ↦ inl (line, inl refl, is)
  | inr off ↦ elim (line-cases lines m b) [
    | inl has ↦ inl (has.0, inr has.1, has.2)
    | inr none ↦ inr (λ has. elim has.1 [
      | inl here ↦ off (subst (λ (x : Prof). IsOf m b x) (sym here) has.2)
      | inr there ↦ none (has.0, there, has.2)
    ])
  ]
]

-- ---- what an item's samples are due

-- what is asked of an item, by tests
pub item-printed : (each : Bool) (last n : ℕ) (items : List Item) (lasts stacks : List ℕ) (lines : List Prof) (item : Item) → slice_get items n ≡ Some item
    → (item.cycle < last → HasBucketLine lines last (bucket_at item (get_or stacks n 0)))
    → (each ≡ true → item.cycle + 1 < last → HasBucketLine lines (item.cycle + 1) (bucket_at item (get_or stacks n 0)))
    → (each ≡ true → last_at lasts n + 1 < last → HasBucketLine lines (last_at lasts n + 1) (bucket_at item (get_or stacks n 0)))
    → IsItemPrinted each last items lasts stacks lines n
item-printed each last n items lasts stacks lines item at one two three other there =
    let e : item ≡ other = (let s : Some item ≡ Some other = sym at ∙ there in cc) in
    subst (λ (x : Item). (x.cycle < last → HasBucketLine lines last (bucket_at x (get_or stacks n 0)))
    × (each ≡ true → x.cycle + 1 < last → HasBucketLine lines (x.cycle + 1) (bucket_at x (get_or stacks n 0)))
    × (each ≡ true → last_at lasts n + 1 < last → HasBucketLine lines (last_at lasts n + 1) (bucket_at x (get_or stacks n 0)))) e (one, two, three)

-- line of one bucket is that of another with the same numbers
moved : (lines : List Prof) (m n : ℕ) (b c : Bucket) → m ≡ n → b.stack ≡ c.stack → b.slot ≡ c.slot → HasBucketLine lines m b → HasBucketLine lines n c
moved lines m n b c em es el has = (has.0, has.1, record { mark = has.2.mark ∙ em; stack = has.2.stack ∙ es; size = has.2.size ∙ el })

pub item-shown : (each : Bool) (last m n stack end : ℕ) (items : List Item) (lasts stacks : List ℕ) (lines : List Prof) (item : Item) (r : Bool) → slice_get items n ≡ Some item → each ≡ true → m ≡ last → stack ≡ get_or stacks n 0 → end ≡ last_at lasts n
    → (ltb item.cycle m ≡ true → HasBucketLine lines m (record { stack = stack; slot = item.slot })) → (ltb (item.cycle + 1) m ≡ true → HasBucketLine lines (item.cycle + 1) (record { stack = stack; slot = item.slot }))
    → MatchBool r (ltb (end + 1) m ≡ true → HasBucketLine lines (end + 1) (record { stack = stack; slot = item.slot })) (¬ (ltb (end + 1) m ≡ true → HasBucketLine lines (end + 1) (record { stack = stack; slot = item.slot })))
    → MatchBool r (IsItemPrinted each last items lasts stacks lines n) (¬ IsItemPrinted each last items lasts stacks lines n)
item-shown each last m n stack end items lasts stacks lines item true at form em es ee one two three =
    let b : Bucket = record { stack = stack; slot = item.slot } in
    let c : Bucket = bucket_at item (get_or stacks n 0) in
    item-printed each last n items lasts stacks lines item at
    (λ lt. moved lines m last b c em es refl (one (lt-ltb item.cycle m (omega arith))))
    (λ _ lt. moved lines (item.cycle + 1) (item.cycle + 1) b c refl es refl (two (lt-ltb (item.cycle + 1) m (omega arith))))
    (λ _ lt. moved lines (end + 1) (last_at lasts n + 1) b c (omega arith) es refl (three (lt-ltb (end + 1) m (omega arith))))
item-shown each last m n stack end items lasts stacks lines item false at form em es ee one two three = λ is.
    three (λ on. (
    let lt = ltb-true (end + 1) m on in
    let b : Bucket = record { stack = stack; slot = item.slot } in
    let c : Bucket = bucket_at item (get_or stacks n 0) in
    moved lines (last_at lasts n + 1) (end + 1) c b (omega arith) (sym es) refl ((is item at).2 form (omega arith))))

-- a sample, as an item
pub record IsSampleItem (t : Trace) (items : List Item) (sampled : Sampled) (b : Bucket) (o : Object) : Type 0 where
  pub number : ℕ
  pub item : Item
  pub at : slice_get items number ≡ Some item
  pub is : o ≡ object_of number item
  pub flag : flag_at sampled.flags.items number ≡ true
  pub stack : get_or sampled.stacks.items number 0 ≡ b.stack
  pub slot : item.slot ≡ b.slot

stack-here : (t : Trace) (items : List Item) (sampled : Sampled) (i : ℕ) → AreSamples t items sampled → get_or sampled.stacks.items i 0 ≡ stack_of (slice_get (events_of t) i)
stack-here t items sampled i are = ap (λ (xs : List ℕ). get_or xs i 0) are.stacks ∙ stack-at (events_of t) i

sample-item : (t : Trace) (items : List Item) (sampled : Sampled) (b : Bucket) (o : Object) → AreSamples t items sampled → In o (objects_of items) → is_sample (samples_by t sampled) b o ≡ true → IsSampleItem t items sampled b o
sample-item t items sampled b o are among on =
    let f = item-of items o among in
    let here : is_sample (samples_by t sampled) b (object_of f.number f.item) ≡ true = subst (λ (x : Object). is_sample (samples_by t sampled) b x ≡ true) f.is on in
    let s = stack_of (slice_get (events_of t) f.number) in
    let p = and_parts (is_placed f.item.answer) (flag_at sampled.flags.items f.number && (eqb s b.stack && eqb f.item.slot b.slot)) here in
    let q = and_parts (flag_at sampled.flags.items f.number) (eqb s b.stack && eqb f.item.slot b.slot) p.1 in
    let r = and_parts (eqb s b.stack) (eqb f.item.slot b.slot) q.1 in
    record {
      number = f.number;
      item = f.item;
      at = f.at;
      is = f.is;
      flag = q.0;
      stack = stack-here t items sampled f.number are ∙ eqb-true s b.stack r.0;
      slot = eqb-true f.item.slot b.slot r.1;
    }

item-sample : (t : Trace) (items : List Item) (sampled : Sampled) (n : ℕ) (item : Item) → AreSamples t items sampled → slice_get items n ≡ Some item → flag_at sampled.flags.items n ≡ true
    → is_sample (samples_by t sampled) (bucket_at item (get_or sampled.stacks.items n 0)) (object_of n item) ≡ true
item-sample t items sampled n item are at on =
    let s = stack_of (slice_get (events_of t) n) in
    let k = get_or sampled.stacks.items n 0 in
    let e : eqb s k ≡ true = eq-eqb s k (sym (stack-here t items sampled n are)) in
    let f : eqb item.slot item.slot ≡ true = eq-eqb item.slot item.slot refl in
    and_from (is_placed item.answer) (flag_at sampled.flags.items n && (eqb s k && eqb item.slot item.slot)) (are.flags.placed n item at on)
    (and_from (flag_at sampled.flags.items n) (eqb s k && eqb item.slot item.slot) on (and_from (eqb s k) (eqb item.slot item.slot) e f))

-- tests that differ by a number alone
both-on : (a b c : Bool) → (a && b) ≢ (a && c) → (a ≡ true) × (b ≢ c)
both-on true b c other = (refl, other)
both-on false b c other = absurd (other refl)

ltb-next : (x m : ℕ) → ltb x (suc m) ≢ ltb x m → x ≡ m
ltb-next x m other = elim (cases_lt x m) [
  | inl lt ↦ absurd (other (lt-ltb x (suc m) (omega arith) ∙ sym (lt-ltb x m lt)))
  | inr ge ↦ elim (cases_lt m x) [
    | inl more ↦ absurd (other (le-ltb x (suc m) (omega arith) ∙ sym (le-ltb x m ge)))
    | inr le ↦ omega arith
  ]
]

module _ (each : Bool) (t : Trace) (report : Report) (items : List Item) (lasts : List ℕ) (sampled : Sampled) (known : AreKnownItems t report items lasts) (are : AreSamples t items sampled) where
  -- a bucket whose numbers changed has a sample that was placed in the cycle, or lived last in it
  changed-by : (m : ℕ) (b : Bucket) → IsChanged (marked_by t) (samples_by t sampled) (objects_of items) m b
      → (o : Object) × (h : IsSampleItem t items sampled b o) × ((h.item.cycle ≡ m) ⊎ (last_at lasts h.number ≡ m))
  changed-by m b changed = elim changed [
    | inl other ↦ (
        let r = count-other (λ o. is_sample (samples_by t sampled) b o && ltb o.cycle (suc m)) (λ o. is_sample (samples_by t sampled) b o && ltb o.cycle m) (objects_of items) other in
        let p = both-on (is_sample (samples_by t sampled) b r.0) (ltb r.0.cycle (suc m)) (ltb r.0.cycle m) r.2 in
        let h = sample-item t items sampled b r.0 are r.1 p.0 in
        (r.0, h, inl (sym (ap (λ (x : Object). x.cycle) h.is) ∙ ltb-next r.0.cycle m p.1)))
    | inr other ↦ (
        let r = count-other (λ o. is_sample (samples_by t sampled) b o && (ltb o.cycle (suc m) && not (marked_by t (suc m) o.id))) (λ o. is_sample (samples_by t sampled) b o && (ltb o.cycle m && not (marked_by t m o.id))) (objects_of items) other in
        let p = both-on (is_sample (samples_by t sampled) b r.0) (ltb r.0.cycle (suc m) && not (marked_by t (suc m) r.0.id)) (ltb r.0.cycle m && not (marked_by t m r.0.id)) r.2 in
        let h = sample-item t items sampled b r.0 are r.1 p.0 in
        let here : (ltb h.item.cycle (suc m) && not (marked_by t (suc m) h.number)) ≢ (ltb h.item.cycle m && not (marked_by t m h.number)) =
        subst (λ (x : Object). (ltb x.cycle (suc m) && not (marked_by t (suc m) x.id)) ≢ (ltb x.cycle m && not (marked_by t m x.id))) h.is p.1 in
        let last : ltb (last_at lasts h.number) (suc m) ≢ ltb (last_at lasts h.number) m = λ same. here (
        freed-when t report items lasts h.number (suc m) h.item known h.at ∙ (same ∙ sym (freed-when t report items lasts h.number m h.item known h.at))) in
        (r.0, h, inr (ltb-next (last_at lasts h.number) m last)))
  ]

  -- where each sample's lines are there, all are that are due
  pub due-printed : (lines : List Prof) → ((i : ℕ) → i < length items → flag_at sampled.flags.items i ≡ true → IsItemPrinted each (last_cycle t) items lasts sampled.stacks.items lines i)
      → AllPrinted each (marked_by t) (samples_by t sampled) (last_cycle t) (objects_of items) lines
  due-printed lines all m b due = elim due [
    | inl here ↦ (
        let r = count-one (λ o. is_sample (samples_by t sampled) b o && ltb o.cycle (last_cycle t)) (objects_of items) here.1 in
        let p = and_parts (is_sample (samples_by t sampled) b r.0) (ltb r.0.cycle (last_cycle t)) r.2 in
        let h = sample-item t items sampled b r.0 are r.1 p.0 in
        let lt = ltb-true r.0.cycle (last_cycle t) p.1 in
        let e = ap (λ (x : Object). x.cycle) h.is in
        let has = (all h.number (slice_get_within items h.number h.item h.at) h.flag h.item h.at).0 (omega arith) in
        moved lines (last_cycle t) m (bucket_at h.item (get_or sampled.stacks.items h.number 0)) b (sym here.0) h.stack h.slot has)
    | inr early ↦ (
        let n = early.2.0 in
        let e = early.2.1 in
        let c = changed-by n b early.2.2 in
        let h = c.1 in
        let lt = early.1 in
        let has = all h.number (slice_get_within items h.number h.item h.at) h.flag h.item h.at in
        elim c.2 [
          | inl own ↦ moved lines (h.item.cycle + 1) m (bucket_at h.item (get_or sampled.stacks.items h.number 0)) b (omega arith) h.stack h.slot (has.1 early.0 (omega arith))
          | inr end ↦ moved lines (last_at lasts h.number + 1) m (bucket_at h.item (get_or sampled.stacks.items h.number 0)) b (omega arith) h.stack h.slot (has.2 early.0 (omega arith))
        ])
  ]

  -- a sample makes its bucket due at the last mark end, where it was placed before that
  due-last : (n : ℕ) (item : Item) → slice_get items n ≡ Some item → flag_at sampled.flags.items n ≡ true → item.cycle < last_cycle t
      → IsDue each (marked_by t) (samples_by t sampled) (last_cycle t) (objects_of items) (last_cycle t) (bucket_at item (get_or sampled.stacks.items n 0))
  due-last n item at on lt =
      let b = bucket_at item (get_or sampled.stacks.items n 0) in
      inl (
        refl,
        count-some (λ o. is_sample (samples_by t sampled) b o && ltb o.cycle (last_cycle t)) (objects_of items) (object_of n item) (object-in items n item at)
            (and_from (is_sample (samples_by t sampled) b (object_of n item)) (ltb item.cycle (last_cycle t)) (item-sample t items sampled n item are at on) (lt-ltb item.cycle (last_cycle t) lt)),
      )

  due-own : (n : ℕ) (item : Item) → slice_get items n ≡ Some item → flag_at sampled.flags.items n ≡ true → each ≡ true → item.cycle + 1 < last_cycle t
      → IsDue each (marked_by t) (samples_by t sampled) (last_cycle t) (objects_of items) (item.cycle + 1) (bucket_at item (get_or sampled.stacks.items n 0))
  due-own n item at on form lt =
      let b = bucket_at item (get_or sampled.stacks.items n 0) in
      let c = item.cycle in
      let yes' = item-sample t items sampled n item are at on in
      let more = count-lt (λ o. is_sample (samples_by t sampled) b o && ltb o.cycle c) (λ o. is_sample (samples_by t sampled) b o && ltb o.cycle (suc c)) (objects_of items) (object_of n item)
      (λ o i pass. (
      let p = and_parts (is_sample (samples_by t sampled) b o) (ltb o.cycle c) pass in
      let less = ltb-true o.cycle c p.1 in
      and_from (is_sample (samples_by t sampled) b o) (ltb o.cycle (suc c)) p.0 (lt-ltb o.cycle (suc c) (omega arith))))
      (object-in items n item at)
      (off (is_sample (samples_by t sampled) b (object_of n item)) (ltb c c) (le-ltb c c (omega arith)))
      (and_from (is_sample (samples_by t sampled) b (object_of n item)) (ltb c (suc c)) yes' (lt-ltb c (suc c) (omega arith))) in
      inr (form, lt, (c, (omega arith), inl (λ (same : allocs_at (samples_by t sampled) (objects_of items) (suc c) b ≡ allocs_at (samples_by t sampled) (objects_of items) c b). absurd (omega arith))))
    where
      off : (x y : Bool) → y ≡ false → (x && y) ≡ false
      off true y e = e
      off false y e = refl

  due-end : (n : ℕ) (item : Item) → slice_get items n ≡ Some item → flag_at sampled.flags.items n ≡ true → each ≡ true → last_at lasts n + 1 < last_cycle t
      → IsDue each (marked_by t) (samples_by t sampled) (last_cycle t) (objects_of items) (last_at lasts n + 1) (bucket_at item (get_or sampled.stacks.items n 0))
  due-end n item at on form lt =
      let b = bucket_at item (get_or sampled.stacks.items n 0) in
      let c = last_at lasts n in
      let yes' = item-sample t items sampled n item are at on in
      let more = count-lt (λ o. is_sample (samples_by t sampled) b o && (ltb o.cycle c && not (marked_by t c o.id))) (λ o. is_sample (samples_by t sampled) b o && (ltb o.cycle (suc c) && not (marked_by t (suc c) o.id))) (objects_of items) (object_of n item)
      (λ o i pass. (
      let p = and_parts (is_sample (samples_by t sampled) b o) (ltb o.cycle c && not (marked_by t c o.id)) pass in
      let f = item-of items o i in
      let here : (ltb f.item.cycle c && not (marked_by t c f.number)) ≡ true = subst (λ (x : Object). (ltb x.cycle c && not (marked_by t c x.id)) ≡ true) f.is p.1 in
      let less = ltb-true (last_at lasts f.number) c (sym (freed-when t report items lasts f.number c f.item known f.at) ∙ here) in
      let next : (ltb f.item.cycle (suc c) && not (marked_by t (suc c) f.number)) ≡ true = freed-when t report items lasts f.number (suc c) f.item known f.at ∙ lt-ltb (last_at lasts f.number) (suc c) (omega arith) in
      and_from (is_sample (samples_by t sampled) b o) (ltb o.cycle (suc c) && not (marked_by t (suc c) o.id)) p.0 (subst (λ (x : Object). (ltb x.cycle (suc c) && not (marked_by t (suc c) x.id)) ≡ true) (sym f.is) next)))
      (object-in items n item at)
      (off (is_sample (samples_by t sampled) b (object_of n item)) (ltb item.cycle c && not (marked_by t c n)) (freed-when t report items lasts n c item known at ∙ le-ltb c c (omega arith)))
      (and_from (is_sample (samples_by t sampled) b (object_of n item)) (ltb item.cycle (suc c) && not (marked_by t (suc c) n)) yes' (freed-when t report items lasts n (suc c) item known at ∙ lt-ltb c (suc c) (omega arith))) in
      inr (form, lt, (c, (omega arith), inr (λ (same : frees_at (marked_by t) (samples_by t sampled) (objects_of items) (suc c) b ≡ frees_at (marked_by t) (samples_by t sampled) (objects_of items) c b). absurd (omega arith))))
    where
      off : (x y : Bool) → y ≡ false → (x && y) ≡ false
      off true y e = e
      off false y e = refl

  -- a sample whose lines aren't all there
  pub due-lacks : (lines : List Prof) (n : ℕ) (item : Item) → slice_get items n ≡ Some item → flag_at sampled.flags.items n ≡ true
      → ¬ IsItemPrinted each (last_cycle t) items lasts sampled.stacks.items lines n → LacksLine each (marked_by t) (samples_by t sampled) (last_cycle t) (objects_of items) lines
  due-lacks lines n item at on off =
      let b = bucket_at item (get_or sampled.stacks.items n 0) in
      let last = last_cycle t in
      let one : (item.cycle < last → HasBucketLine lines last b) ⊎ LacksLine each (marked_by t) (samples_by t sampled) last (objects_of items) lines = elim (cases_lt item.cycle last) [
        | inr ge ↦ inl (λ lt. absurd (omega arith))
        | inl lt ↦ elim (line-cases lines last b) [ inl has ↦ inl (λ _. has) | inr none ↦ inr (last, b, due-last n item at on lt, none) ]
      ] in
      let two : (each ≡ true → item.cycle + 1 < last → HasBucketLine lines (item.cycle + 1) b) ⊎ LacksLine each (marked_by t) (samples_by t sampled) last (objects_of items) lines = elim (cases_Bool each) [
        | inr none ↦ inl (λ form. absurd (let e : true ≡ false = sym form ∙ none in cc))
        | inl form ↦ elim (cases_lt (item.cycle + 1) last) [
          | inr ge ↦ inl (λ _ lt. absurd (omega arith))
          | inl lt ↦ elim (line-cases lines (item.cycle + 1) b) [ inl has ↦ inl (λ _ _. has) | inr none ↦ inr (item.cycle + 1, b, due-own n item at on form lt, none) ]
        ]
      ] in
      let three : (each ≡ true → last_at lasts n + 1 < last → HasBucketLine lines (last_at lasts n + 1) b) ⊎ LacksLine each (marked_by t) (samples_by t sampled) last (objects_of items) lines = elim (cases_Bool each) [
        | inr none ↦ inl (λ form. absurd (let e : true ≡ false = sym form ∙ none in cc))
        | inl form ↦ elim (cases_lt (last_at lasts n + 1) last) [
          | inr ge ↦ inl (λ _ lt. absurd (omega arith))
          | inl lt ↦ elim (line-cases lines (last_at lasts n + 1) b) [ inl has ↦ inl (λ _ _. has) | inr none ↦ inr (last_at lasts n + 1, b, due-end n item at on form lt, none) ]
        ]
      ] in
      elim one [
        | inr lacks ↦ lacks
        | inl p ↦ elim two [
          | inr lacks ↦ lacks
          | inl q ↦ elim three [ inr lacks ↦ lacks | inl r ↦ absurd (off (item-printed each last n items lasts sampled.stacks.items lines item at p q r)) ]
        ]
      ]

-- ---- the rule

pub profile-has : (t : Trace) (report : Report) (items : List Item) (sampled : Sampled) → AreSamples t items sampled
    → AreRightProfs (IsRightProf (is_of_each (last_cycle t) report.profile) (marked_by t) (samples_by t sampled) (last_cycle t) (objects_of items)) report.profile (length report.profile)
    → AllPrinted (is_of_each (last_cycle t) report.profile) (marked_by t) (samples_by t sampled) (last_cycle t) (objects_of items) report.profile → HasProfile t report (objects_of items)
profile-has t report items sampled are right all = (
  is_of_each (last_cycle t) report.profile,
  record {
    which = flag_at sampled.flags.items;
    sampled = are.flags.sampled;
    lines = profile-met (is_of_each (last_cycle t) report.profile) (marked_by t) (samples_by t sampled) (last_cycle t) (objects_of items) report.profile right all;
  },
)

alike-by : (t : Trace) (items : List Item) (sampled : Sampled) (which : ℕ → Bool) → AreSamples t items sampled → SamplesBy t.header.rate t.header.seed which (objects_of items) → AreAlike (samples_by t sampled) (samples_in t which) (objects_of items)
alike-by t items sampled which are by o among placed = (samples-one t.header.rate t.header.seed (flag_at sampled.flags.items) which (objects_of items) o are.flags.sampled by among placed, refl)

alike-sym : (s s' : Samples) (objects : List Object) → AreAlike s s' objects → AreAlike s' s objects
alike-sym s s' objects alike o among placed = (let a = alike o among placed in (sym a.0, sym a.1))

-- lines that are right break no rule
rights-break : (t : Trace) (report : Report) (items : List Item) (sampled : Sampled) (n k : ℕ) (prof : Prof) (which : ℕ → Bool) → AreSamples t items sampled → SamplesBy t.header.rate t.header.seed which (objects_of items)
    → AreRightProfs (IsRightProf (is_of_each (last_cycle t) report.profile) (marked_by t) (samples_by t sampled) (last_cycle t) (objects_of items)) report.profile n → k < n → slice_get report.profile k ≡ Some prof
    → ¬ ((¬ IsRightProf (is_of_each (last_cycle t) report.profile) (marked_by t) (samples_in t which) (last_cycle t) (objects_of items) prof) ⊎ Rattle.report_check.specs.Closing.IsOutOfOrder IsProfBefore report.profile k prof)
rights-break t report items sampled n k prof which are by right lt at wrong = elim wrong [
  | inl off ↦ off (right-alike (marked_by t) (samples_by t sampled) (samples_in t which) (objects_of items) (alike-by t items sampled which are by) (is_of_each (last_cycle t) report.profile) (last_cycle t) prof (right.right k prof lt at))
  | inr order ↦ order.wrong (right.order order.place k order.earlier prof order.before lt order.among at)
]

pub prof-fault : (t : Trace) (report : Report) (items : List Item) (sampled : Sampled) (n : ℕ) → AreSamples t items sampled
    → IsFirstWrongProf (IsRightProf (is_of_each (last_cycle t) report.profile) (marked_by t) (samples_by t sampled) (last_cycle t) (objects_of items)) report.profile n
    → IsLeast (BreaksProfile t report (objects_of items)) (profile_at report n)
prof-fault t report items sampled n are is = record {
  here = (flag_at sampled.flags.items, are.flags.sampled, inl (n, record { prof = is.line; printed = is.here; wrong = is.wrong; stands = refl }));
  least = λ line less breaks. elim breaks.2 [
    | inl w ↦ (let s = w.1.stands in rights-break t report items sampled n w.0 w.1.prof breaks.0 are breaks.1 is.before (omega arith) w.1.printed w.1.wrong)
    | inr e ↦ (let s = e.3 in let within = slice_get_within report.profile n is.line is.here in absurd (omega arith))
  ];
}

pub lacks-fault : (t : Trace) (report : Report) (items : List Item) (sampled : Sampled) → AreSamples t items sampled
    → AreRightProfs (IsRightProf (is_of_each (last_cycle t) report.profile) (marked_by t) (samples_by t sampled) (last_cycle t) (objects_of items)) report.profile (length report.profile)
    → LacksLine (is_of_each (last_cycle t) report.profile) (marked_by t) (samples_by t sampled) (last_cycle t) (objects_of items) report.profile → IsLeast (BreaksProfile t report (objects_of items)) (end_of report)
lacks-fault t report items sampled are right lacks = record {
  here = (flag_at sampled.flags.items, are.flags.sampled, inr (lacks.0, lacks.1, record { due = lacks.2; missing = λ prof among is. lacks.3 (prof, among, is) }, refl));
  least = λ line less breaks. elim breaks.2 [
    | inl w ↦ rights-break t report items sampled (length report.profile) w.0 w.1.prof breaks.0 are breaks.1 right (slice_get_within report.profile w.0 w.1.prof w.1.printed) w.1.printed w.1.wrong
    | inr e ↦ (let s = e.3 in absurd (omega arith))
  ];
}
