-- A seat rests between calls, and what contracts see of it follows from its viewed.
use Rattle.std.proofs.Common.{◌≡◌, ℕ, zero, ◌+◌, ◌<◌, ◌≤◌, true, false, true≢false, ne_eqb, length, map, List, [], ◌∷◌, refl, sym, ap, subst, ◌∙◌, arith}
use Rattle.std.specs.Prelude.{None, Option, Some, IfNone, IfSome}
use Rattle.std.specs.List.{range_with_len}
use Rattle.std.proofs.Math.ListN.{length-set}
use Rattle.std.proofs.lemmas.List.{length-map}
use Rattle.sweep_laws.specs.Start.{copies}
use Rattle.span_laws.specs.MarkEnds.{rested}
use Rattle.span_table.specs.Turning.{turned_over}
use Rattle.atomic_table.specs.Seated.{TableId}
use Rattle.page_bitmap.specs.declared.line.Line.{Line}
use Rattle.sweep_laws.proofs.Totals.{times_end}
use Rattle.span_laws.specs.Asks.{mine}
use Rattle.span_laws.specs.Bodies.{lends}
use Rattle.span_table.specs.Asks.{IsInside}
use Rattle.span_laws.specs.OwnSteps.{after_of, after_said, heard, told, told_of}
use Rattle.span_laws.specs.Views.{Seen, acts}
use Rattle.span_laws.specs.declared.said.Said.{Said}
use Rattle.span_laws.specs.declared.said.SaidOf.{SaidOf}
use Rattle.span_laws.specs.declared.said.SaidOf.TheVariants.{Acquires}
use Rattle.span_laws.specs.declared.view.Span.{Span as SpanSeen}
use Rattle.span_laws.specs.declared.view.Part.{Part}
use Rattle.page_cache.specs.Cache.{Cache, only}
use Rattle.page_cache.specs.declared.block.Block.{Block}
use Rattle.span_laws.specs.CacheAnswers.{block_of}
use Rattle.run_laws.specs.Blocks.{OutBlock, out_of}
use Rattle.span_table.specs.Known.{IsLineOf, Rests, known}
use Rattle.span_table.specs.Seats.{SeatState, says, says_of, sent_out}
use Rattle.span_table.specs.declared.view.Item.{Item}

module _ (n g y : ℕ) (l : List ℕ) (k : Option Cache) (line : ℕ) (t t' : TableId) (m m' : SeatState) (r : Rests n g y l k line t m) (same : t' ≡ t) where
  -- a seat whose own part changed alone, and what it knows of the journal
  pub rests_by : (h : Part) (journal : Option (List Line)) → h.cache ≡ m.0.view.own.cache → out_of h.log ≡ out_of m.0.view.own.log → m' ≡ (record m.0 { journal = journal; view = acts m.0.view h }, []) → Rests n g y l k line t' m'
  rests_by h journal cache out e = subst (λ (z : TableId × SeatState). Rests n g y l k line z.0 z.1) (λ i. (sym same i, sym e i))
      (record { number_is = r.number_is; generation_is = r.generation_is; goal_is = r.goal_is; drives = r.drives; early = r.early; region = r.region; out = r.out; empty = refl; slot_out = r.slot_out; unlocked = r.unlocked; low = r.low; spares_are = r.spares_are; spared = r.spared; wide = r.wide; cache_is = r.cache_is ∙ sym cache; line_is = subst (λ (z : Option Cache × Option OutBlock). IsLineOf line m.0.view.region z.0 z.1) (λ i. (sym cache i, sym out i)) r.line_is; bare = r.bare; caches = r.caches; driven = r.driven })

  -- or one whose page cache changed besides
  pub rests_cached : (h : Part) (journal : Option (List Line)) (k' : Option Cache) (line' : ℕ) → k' ≡ h.cache → IsLineOf line' m.0.view.region h.cache (out_of h.log) → (m.0.caching ≡ false → k' ≡ None)
      → (m.0.caching ≡ true → (IfSome k' (λ z. (z.proc ≡ n) × (z.block ≡ None → z.cuts ≡ []))) × (IfNone k' ⊥)) → m' ≡ (record m.0 { journal = journal; view = acts m.0.view h }, []) → Rests n g y l k' line' t' m'
  rests_cached h journal k' line' cache pulled bare caches e = subst (λ (z : TableId × SeatState). Rests n g y l k' line' z.0 z.1) (λ i. (sym same i, sym e i))
      (record { number_is = r.number_is; generation_is = r.generation_is; goal_is = r.goal_is; drives = r.drives; early = r.early; region = r.region; out = r.out; empty = refl; slot_out = r.slot_out; unlocked = r.unlocked; low = r.low; spares_are = r.spares_are; spared = r.spared; wide = r.wide; cache_is = cache; line_is = pulled; bare = bare; caches = λ z. let a = r.caches z in let b = caches z in (a.0, a.1, b.0, b.1); driven = r.driven })

  pub rests_said : (s : Said) → (told s m.0.view.own).cache ≡ m.0.view.own.cache → out_of (told s m.0.view.own).log ≡ out_of m.0.view.own.log → m' ≡ (says s m.0, m.1) → Rests n g y l k line t' m'
  rests_said s cache out e = rests_by (told s m.0.view.own) (heard s m.0.journal) cache out (e ∙ ap (λ (l : List (ℕ × Item)). let z : SeatState = (says s m.0, l) in z) r.empty)

  pub seen_said : (w : Seen) → known t m.0 ≡ w → (s : Said) → m'.0 ≡ says s m.0 → known t' m'.0 ≡ after_said s w
  seen_said w is s e = (λ i. known (same i) (e i)) ∙ ap (after_said s) is

  pub seen_of : (w : Seen) → known t m.0 ≡ w → (s : SaidOf) (b : SpanSeen) → m'.0 ≡ says_of s b m.0 → known t' m'.0 ≡ after_of s b w
  seen_of w is s b e = (λ i. known (same i) (e i)) ∙ ap (after_of s b) is

-- the spares of all are dropped
zeros_are : (l : List ℕ) (a : ℕ) → map (λ (_ : ℕ). zero) (range_with_len a (length l)) ≡ map (λ (_ : ℕ). zero) l
zeros_are [] a = refl
zeros_are (x ∷ l) a = ap (λ (z : List ℕ). 0 ∷ z) (zeros_are l (a + 1))

none_cache : {A : Type 0} (x : Cache) → None ≡ Some x → A
none_cache x e = absurd cc

none_block : {A : Type 0} (x : Block) → None ≡ Some x → A
none_block x e = absurd cc

-- a seat behind a mark end
pub rests_turned : (n g y : ℕ) (l : List ℕ) (k : Option Cache) (line : ℕ) (t t' : TableId) (m m' : SeatState) (marks : List (ℕ × ℕ)) → Rests n g y l k line t m → m.0.view.own.cache ≡ None → t' ≡ t → m' ≡ (turned_over marks m.0, m.1) → g + 2 ≤ 8589934592 → Rests n (g + 2) y (copies 70 zero) k line t' m'
rests_turned n g y l k line t t' m m' marks r none same e early = subst (λ (z : TableId × SeatState). Rests n (g + 2) y (copies 70 zero) k line z.0 z.1) (λ i. (sym same i, sym e i))
    (record {
      number_is = r.number_is;
      generation_is = ap (λ (z : ℕ). z + 2) r.generation_is;
      goal_is = r.goal_is;
      drives = r.drives;
      early = (let z = r.early.0 in omega arith, early);
      region = r.region;
      out = refl;
      empty = r.empty;
      slot_out = r.slot_out;
      unlocked = r.unlocked;
      low = r.low;
      spares_are = subst (λ (z : ℕ). copies z zero ≡ map (λ (_ : ℕ). zero) m.0.spares) r.spared (zeros_are m.0.spares 0);
      spared = length-map m.0.spares (λ (_ : ℕ). zero) ∙ r.spared;
      wide = length-map m.0.view.parts rested ∙ r.wide;
      cache_is = r.cache_is;
      line_is = record { pulled = λ x b is has. none_cache x (sym none ∙ is) };
      bare = r.bare;
      caches = r.caches;
      driven = r.driven;
    })

-- a seat that was handed out by one that rests, with a page cache or without
module _ (n g y : ℕ) (l : List ℕ) (k : Option Cache) (line : ℕ) (t t' : TableId) (m m' : SeatState) (r : Rests n g y l k line t m) (same : t' ≡ t) (q : ℕ) where
  pub rests_sent : q < 69 → m' ≡ (sent_out None q m.0, []) → Rests q g y l None 0 t' m'
  rests_sent low e = subst (λ (z : TableId × SeatState). Rests q g y l None 0 z.0 z.1) (λ i. (sym same i, sym e i))
      (record {
        number_is = refl;
        generation_is = r.generation_is;
        goal_is = r.goal_is;
        drives = sym (ne_eqb q 69 (λ z. omega arith));
        early = r.early;
        region = r.region;
        out = refl;
        empty = refl;
        slot_out = refl;
        unlocked = refl;
        low = omega arith;
        spares_are = r.spares_are;
        spared = r.spared;
        wide = length-set m.0.view.parts m.0.number m.0.view.own ∙ r.wide;
        cache_is = refl;
        line_is = record { pulled = λ x b is has. none_cache x is };
        bare = λ _. refl;
        caches = λ z. absurd (true≢false (sym z));
        driven = λ _. refl;
      })

  pub rests_sent_for : q < 64 → q < m.0.view.procs → (x : Cache) → x ≡ only q None → m' ≡ (sent_out (Some x) q m.0, []) → Rests q g y l (Some x) 0 t' m'
  rests_sent_for low procs x is e = subst (λ (z : TableId × SeatState × Cache). Rests q g y l (Some z.2) 0 z.0 z.1) (λ i. (sym same i, sym (e ∙ ap (λ (y : Cache). let z : SeatState = (sent_out (Some y) q m.0, []) in z) is) i, sym is i))
      (record {
        number_is = refl;
        generation_is = r.generation_is;
        goal_is = r.goal_is;
        drives = sym (ne_eqb q 69 (λ z. omega arith));
        early = r.early;
        region = r.region;
        out = refl;
        empty = refl;
        slot_out = refl;
        unlocked = refl;
        low = omega arith;
        spares_are = r.spares_are;
        spared = r.spared;
        wide = length-set m.0.view.parts m.0.number m.0.view.own ∙ r.wide;
        cache_is = refl;
        line_is = record { pulled = λ x b is has. none_block b (ap block_of is ∙ has) };
        bare = λ z. absurd (true≢false z);
        caches = λ _. (low, procs, (refl, λ _. refl), tt);
        driven = λ z. absurd (true≢false (sym z));
      })

-- the driver has no page cache
pub rests_bare : (n g y : ℕ) (l : List ℕ) (k : Option Cache) (line : ℕ) (t : TableId) (m : SeatState) → Rests n g y l k line t m → m.0.drives ≡ true → m.0.view.own.cache ≡ None
rests_bare n g y l k line t m r drives = sym r.cache_is ∙ r.bare (r.driven drives)

-- what a check tells of a page that the worker sweeps, holds or has cached
pub still_inside : (n g y : ℕ) (l : List ℕ) (k : Option Cache) (line : ℕ) (t t' : TableId) (m m' : SeatState) → Rests n g y l k line t m → t' ≡ t → m' ≡ m → IsInside m.0 → (p : ℕ) → 0 < mine p m.0.view.own → (m'.0.view.region + 1 ≡ t'.slots) × (p < m'.0.view.region)
still_inside n g y l k line t t' m m' r same e inside p some_of = subst (λ (z : TableId × SeatState). (z.1.0.view.region + 1 ≡ z.0.slots) × (p < z.1.0.view.region)) (λ i. (sym same i, sym e i)) (r.region, inside.page p some_of)

-- a body that was acquired is lent
pub lent_acquired : (b : SpanSeen) (p : ℕ) (h : Part) → b.page ≡ p → 0 < lends p (told_of Acquires b h)
lent_acquired b p h e = subst (λ (q : ℕ). 0 < lends q (told_of Acquires b h)) e (let z = times_end b.page h.sweeping in omega arith)

-- a slot has one value
abbrev head_value : Item → List (ℕ × Item) → Item
head_value d [] = d
head_value d (x ∷ xs) = x.1

pub same_item : (cs : List (ℕ × Item)) (k : ℕ) (y z : Item) (l m : List (ℕ × Item)) → cs ≡ (k, y) ∷ l → cs ≡ (k, z) ∷ m → y ≡ z
same_item cs k y z l m e f = ap (head_value y) (sym e ∙ f)
