-- What a part's page cache is as its log tells, where its worker pulls a block, cuts spans out of it, and settles it.
use Rattle.std.proofs.Common.{◌≡◌, ℕ, zero, suc, ◌+◌, ◌<◌, ◌≤◌, ◌⊎◌, inl, inr, Bool, true, false, true≢false, cond, ◌&&◌, not, eqb, eq-eqb, List, [], ◌∷◌, ◌++◌, sym, refl, ap, ◌∙◌, subst, arith}
use Rattle.std.specs.Prelude.{Option, Some, None, option_map}
use Rattle.std.specs.List.{filter, range_with_len}
use Rattle.std.proofs.lemmas.Bool.{cases_eq, cases_Bool}
use Rattle.page_alloc.specs.Cuts.{AreCuts, without}
use Rattle.page_alloc.specs.FreeRuns.{IsSpanSize}
use Rattle.page_alloc.specs.Owners.{within}
use Rattle.page_alloc.proofs.Words.{page-inside}
use Rattle.page_cache.specs.declared.block.Block.{Block}
use Rattle.page_cache.specs.declared.block.CutNote.{CutNote}
use Rattle.page_cache.specs.Blocks.{has_page}
use Rattle.page_cache.specs.Cache.{Cache, in_block, only}
use Rattle.page_cache.specs.Runs.{IsFirstRun, LosesRun}
use Rattle.sweep_laws.specs.Counts.{one_if, times, total}
use Rattle.sweep_laws.specs.Lists.{erase_run}
use Rattle.sweep_laws.proofs.NeedsMet.{some_none}
use Rattle.sweep_laws.proofs.PulledPages.{erased_else, erased_here}
use Rattle.sweep_laws.proofs.Totals.{other_one, same_one}
use Rattle.run_laws.specs.Blocks.{CutOut, OutBlock, cut_out, cut_times, out_of, with_cut}
use Rattle.run_laws.proofs.BlockLogs.{same_block}
use Rattle.run_laws.proofs.BlocksKept.{placed, within_in}
use Rattle.span_laws.specs.declared.view.Part.{Part}
use Rattle.span_laws.specs.declared.view.Span.{Span}
use Rattle.span_laws.specs.declared.said.Said.TheVariants.{Pulls, Settles}
use Rattle.span_laws.specs.declared.said.SaidOf.TheVariants.{Cuts}
use Rattle.span_laws.specs.CacheAnswers.{IsCutOf}
use Rattle.span_laws.specs.Caches.{CacheTells, HasBlockOut, IsCacheOf, noted}
use Rattle.span_laws.specs.Handed.{with_cache}
use Rattle.span_laws.specs.OwnSteps.{after_cut, pages_of, told, told_of, with_block}

-- ---- spans that are cut of a set of pages

and_true : (b : Bool) → (b && true) ≡ b
and_true true = refl
and_true false = refl

and_false : (b : Bool) → (b && false) ≡ false
and_false true = refl
and_false false = refl

-- how often the notes of cuts cover a page
abbrev note_times : ℕ → List CutNote → ℕ
note_times p cuts = total (λ (x : CutNote). one_if (within p x.page x.pages)) cuts

notes_end : (p : ℕ) (cuts : List CutNote) (x : CutNote) → note_times p (cuts ++ x ∷ []) ≡ one_if (within p x.page x.pages) + note_times p cuts
notes_end p [] x = refl
notes_end p (y ∷ cuts) x = let t = notes_end p cuts x in omega arith

-- the notes of what a log tells cover it as often
noted_times : (p : ℕ) (cuts : List CutOut) → note_times p (noted cuts) ≡ cut_times p cuts
noted_times p [] = refl
noted_times p (x ∷ cuts) = let a = notes_end p (noted cuts) (record { page = x.page; pages = x.pages; class = x.class }) in let b = noted_times p cuts in omega arith

-- each page of the set is left, or one cut covers it
notes_sum : (set left : ℕ → Bool) (cuts : List CutNote) → AreCuts set cuts left → (p : ℕ) → one_if (set p) ≡ one_if (left p) + note_times p cuts
notes_sum set left [] are p = let e = ap one_if (are p) in omega arith
notes_sum set left (x ∷ cuts) are p =
    let rest = notes_sum (without set x.page x.pages) left cuts are.3 p in
    elim (placed p x.page x.pages) [
      | inl i ↦ (
          let here : one_if (set p) ≡ 1 = ap one_if (are.2.run p i.0 i.1) in
          let gone : one_if (set p && not (within p x.page x.pages)) ≡ 0 = ap (λ (b : Bool). one_if (set p && not b)) i.2 ∙ ap one_if (and_false (set p)) in
          let one : one_if (within p x.page x.pages) ≡ 1 = ap one_if i.2 in
          omega arith)
      | inr o ↦ (
          let kept : one_if (set p && not (within p x.page x.pages)) ≡ one_if (set p) = ap (λ (b : Bool). one_if (set p && not b)) o.1 ∙ ap one_if (and_true (set p)) in
          let none : one_if (within p x.page x.pages) ≡ 0 = ap one_if o.1 in
          omega arith)
    ]

pub cuts-sum : (set left : ℕ → Bool) (notes : List CutNote) (cuts : List CutOut) → AreCuts set notes left → notes ≡ noted cuts → (p : ℕ) → one_if (set p) ≡ one_if (left p) + cut_times p cuts
cuts-sum set left notes cuts are is p =
    let a = notes_sum set left notes are p in let b = ap (note_times p) is in let c = noted_times p cuts in omega arith

-- the first run of a set is that of one with the same pages
pub first-alike : (set other : ℕ → Bool) (n page : ℕ) → ((p : ℕ) → other p ≡ set p) → IsFirstRun set n page → IsFirstRun other n page
first-alike set other n page same first = record {
  run = λ p above below. same p ∙ first.run p above below;
  least = λ q less run. first.least q less (λ p above below. sym (same p) ∙ run p above below);
}

-- cuts of a set are those of one with the same pages
pub cuts-alike : (set other : ℕ → Bool) (cuts : List CutNote) (left : ℕ → Bool) → ((p : ℕ) → other p ≡ set p) → AreCuts set cuts left → AreCuts other cuts left
cuts-alike set other [] left same are = λ p. are p ∙ sym (same p)
cuts-alike set other (x ∷ cuts) left same are = (
  are.0,
  are.1,
  first-alike set other x.pages x.page same are.2,
  cuts-alike (without set x.page x.pages) (without other x.page x.pages) cuts left (λ p. ap (λ (b : Bool). b && not (within p x.page x.pages)) (same p)) are.3,
)

-- one cut more, of what is left
pub more-cuts : (set left left' : ℕ → Bool) (cuts : List CutNote) (x : CutNote) → AreCuts set cuts left → x.pages < 16 → IsSpanSize x.class x.pages → IsFirstRun left x.pages x.page → LosesRun left left' x.page x.pages
    → AreCuts set (cuts ++ x ∷ []) left'
more-cuts set left left' [] x are few size first loses = (
  few,
  size,
  first-alike left set x.pages x.page (λ p. sym (are p)) first,
  λ p. elim (placed p x.page x.pages) [
    | inl i ↦ loses.inside p i.0 i.1 ∙ sym (ap (λ (b : Bool). set p && not b) i.2 ∙ and_false (set p))
    | inr o ↦ elim o.0 [ inl low ↦ loses.below p low | inr high ↦ loses.above p high ] ∙ are p ∙ sym (ap (λ (b : Bool). set p && not b) o.1 ∙ and_true (set p))
  ],
)
more-cuts set left left' (y ∷ cuts) x are few size first loses = (are.0, are.1, are.2, more-cuts (without set y.page y.pages) left left' cuts x are.3 few size first loses)

-- ---- the pages of a block

module _ (test : ℕ → Bool) (q : ℕ) where
  -- how often the items of a list that pass a test name a number
  filtered_on : (xs : List ℕ) → test q ≡ true → times q (filter test xs) ≡ times q xs
  filtered_on [] on = refl
  filtered_on (x ∷ xs) on = elim (cases_eq x q) [
    | inl here ↦ (let on' : test x ≡ true = ap test here ∙ on in rw on' (ap (λ (n : ℕ). one_if (eqb x q) + n) (filtered_on xs on)))
    | inr there ↦ go x (test x) (filtered_on xs on) (other_one x q there)
  ]
    where
      go : (x : ℕ) (b : Bool) → times q (filter test xs) ≡ times q xs → one_if (eqb x q) ≡ 0 → times q (cond b (x ∷ filter test xs) (filter test xs)) ≡ one_if (eqb x q) + times q xs
      go x true r o = omega arith
      go x false r o = omega arith

  filtered_off : (xs : List ℕ) → test q ≡ false → times q (filter test xs) ≡ 0
  filtered_off [] off = refl
  filtered_off (x ∷ xs) off = elim (cases_eq x q) [
    | inl here ↦ (let off' : test x ≡ false = ap test here ∙ off in rw off' (filtered_off xs off))
    | inr there ↦ go x (test x) (filtered_off xs off) (other_one x q there)
  ]
    where
      go : (x : ℕ) (b : Bool) → times q (filter test xs) ≡ 0 → one_if (eqb x q) ≡ 0 → times q (cond b (x ∷ filter test xs) (filter test xs)) ≡ 0
      go x true r o = omega arith
      go x false r o = r

-- numbers that follow one another name one of them once
range_out : (q a n : ℕ) → q < a → times q (range_with_len a n) ≡ 0
range_out q a zero low = refl
range_out q a (suc n) low = let o = other_one a q (λ e. omega arith) in let r = range_out q (a + 1) n (omega arith) in omega arith

range_in : (q a n : ℕ) → a ≤ q → q < a + n → times q (range_with_len a n) ≡ 1
range_in q a zero low high = absurd (omega arith)
range_in q a (suc n) low high = elim (cases_eq a q) [
  | inl here ↦ (let o = ap one_if (eq-eqb a q here) in let r = range_out q (a + 1) n (omega arith) in omega arith)
  | inr there ↦ (let o = other_one a q there in let r = range_in q (a + 1) n (omega arith) (omega arith) in omega arith)
]

-- the list of a block's pages names each of them once, and no other page
pub block-times : (block : Block) (p : ℕ) → times p (pages_of block) ≡ one_if (has_page block p)
block-times block p = elim (cases_Bool (has_page block p)) [
  | inl on ↦ (let i = page-inside block p on in filtered_on (has_page block) p (range_with_len block.page 64) on ∙ range_in p block.page 64 i.0 i.1 ∙ sym (ap one_if on))
  | inr off ↦ filtered_off (has_page block) p (range_with_len block.page 64) off ∙ sym (ap one_if off)
]

-- a list that names nothing is empty
never_empty : (xs : List ℕ) → ((p : ℕ) → times p xs ≡ 0) → xs ≡ []
never_empty [] none = refl
never_empty (x ∷ xs) none = let a = none x in let b = same_one x in absurd (omega arith)

-- ---- what the log tells of a page cache

same_cache : (a b : Cache) → Some a ≡ Some b → a ≡ b
same_cache a b s = cc

held_block : (a b : Block) → Some a ≡ Some b → a ≡ b
held_block a b s = cc

module _ (n : ℕ) (h : Part) (t : CacheTells n h) where
  -- a page cache without a block
  pub idle_pulled : (k : Cache) → h.cache ≡ Some k → k.block ≡ None → (out_of h.log ≡ None) × (h.pulled ≡ [])
  idle_pulled k is empty = (go (out_of h.log) refl, never_empty h.pulled (λ p. i.pages p ∙ ap (λ (x : Option Block). one_if (in_block x p)) empty))
    where
      i : IsCacheOf n h k
      i = t.some k is

      go : (x : Option OutBlock) → out_of h.log ≡ x → out_of h.log ≡ None
      go None e = e
      go (Some b) e = let o = i.out b e in absurd (some_none o.block (sym o.here ∙ empty))

  -- the block of a page cache that has one is out
  pub block_out : (k : Cache) (block : Block) → h.cache ≡ Some k → k.block ≡ Some block → (b : OutBlock) × (out_of h.log ≡ Some b)
  block_out k block is has = go (out_of h.log) refl
    where
      go : (x : Option OutBlock) → out_of h.log ≡ x → (b : OutBlock) × (out_of h.log ≡ Some b)
      go None e = absurd (some_none block (sym has ∙ ((t.some k is).idle e).0))
      go (Some b) e = (b, e)

  -- a block is pulled
  pub cache_pulls : (line cycle : ℕ) (block : Block) → h.cache ≡ Some (only n None) → CacheTells n (told (Pulls line cycle n block) h)
  cache_pulls line cycle block is = record {
    none = λ e. absurd (some_none (only n (Some block)) (sym (ap (option_map (with_block (Some block))) is) ∙ e));
    some = λ k e. subst (IsCacheOf n (told (Pulls line cycle n block) h)) (same_cache (only n (Some block)) k (sym (ap (option_map (with_block (Some block))) is) ∙ e)) (record {
      proc = refl;
      idle = λ z. absurd (some_none _ z);
      out = λ b z. subst (HasBlockOut (only n (Some block))) (same_block _ b z) (record {
        block = block;
        here = refl;
        first = refl;
        notes = refl;
        set = has_page block;
        cuts = λ p. refl;
      });
      pages = block-times block;
    });
  }

  -- a span is cut
  pub cache_cuts : (k : Cache) (block left : Block) (b : Span) → h.cache ≡ Some k → k.block ≡ Some block → IsCutOf b.pages k b.page left → left.page ≡ block.page → b.pages < 16 → IsSpanSize b.class b.pages
      → CacheTells n (told_of (Cuts left) b h)
  cache_cuts k block left b is has cut page few size = record {
    none = λ e. absurd (some_none (after_cut left b k) (sym (ap (option_map (after_cut left b)) is) ∙ e));
    some = λ j e. subst (IsCacheOf n (told_of (Cuts left) b h)) (same_cache (after_cut left b k) j (sym (ap (option_map (after_cut left b)) is) ∙ e)) (record {
      proc = i.proc;
      idle = λ z. absurd (some_none (with_cut new o.0) (sym (ap (option_map (with_cut new)) o.1) ∙ z));
      out = λ g z. subst (HasBlockOut (after_cut left b k)) (same_block (with_cut new o.0) g (sym (ap (option_map (with_cut new)) o.1) ∙ z)) out;
      pages = pages;
    });
  }
    where
      i : IsCacheOf n h k
      i = t.some k is

      o : (g : OutBlock) × (out_of h.log ≡ Some g)
      o = block_out k block is has

      new : CutOut
      new = cut_out b.page b.pages b.class

      was : HasBlockOut k o.0
      was = i.out o.0 o.1

      of_block : was.block ≡ block
      of_block = held_block was.block block (sym was.here ∙ has)

      out : HasBlockOut (after_cut left b k) (with_cut new o.0)
      out = record {
        block = left;
        here = refl;
        first = page ∙ sym (ap (λ (x : Block). x.page) of_block) ∙ was.first;
        notes = ap (λ (l : List CutNote). l ++ record { page = b.page; pages = b.pages; class = b.class } ∷ []) was.notes;
        set = was.set;
        cuts = more-cuts was.set (has_page was.block) (has_page left) k.cuts (record { page = b.page; pages = b.pages; class = b.class }) was.cuts few size
            (subst (λ (x : Option Block). IsFirstRun (in_block x) b.pages b.page) was.here cut.first) (subst (λ (x : Option Block). LosesRun (in_block x) (has_page left) b.page b.pages) was.here cut.loses);
      }

      pages : (p : ℕ) → times p (erase_run b.page b.pages h.pulled) ≡ one_if (has_page left p)
      pages p = elim (placed p b.page b.pages) [
        | inl c ↦ (
            let here : times p h.pulled ≡ 1 = i.pages p ∙ ap one_if (cut.first.run p c.0 c.1) in
            let gone = erased_here p b.page b.pages h.pulled c.0 c.1 (omega arith) in
            let none : one_if (has_page left p) ≡ 0 = ap one_if (cut.loses.inside p c.0 c.1) in
            omega arith)
        | inr c ↦ erased_else p b.page b.pages h.pulled (λ f g. true≢false (sym (within_in p b.page b.pages f g) ∙ c.1)) ∙ i.pages p
            ∙ sym (ap one_if (elim c.0 [ inl low ↦ cut.loses.below p low | inr high ↦ cut.loses.above p high ]))
      ]

  -- the block is settled
  pub cache_settles : (line : ℕ) → CacheTells n (told (Settles line) h)
  cache_settles line = record {
    none = λ e. (refl, refl);
    some = λ k e. go h.cache refl k e;
  }
    where
      go : (x : Option Cache) → h.cache ≡ x → (k : Cache) → option_map (with_block None) x ≡ Some k → IsCacheOf n (told (Settles line) h) k
      go None is k e = absurd (some_none k (sym e))
      go (Some j) is k e = subst (IsCacheOf n (told (Settles line) h)) (same_cache (only j.proc None) k e) (record {
        proc = (t.some j is).proc;
        idle = λ z. (refl, refl);
        out = λ b z. absurd (some_none b (sym z));
        pages = λ p. refl;
      })

-- a worker without a block that goes out with a page cache, or comes in without one
pub cache_renews : (n : ℕ) (h : Part) (x : Option Cache) → out_of h.log ≡ None → h.pulled ≡ [] → (x ≡ None) ⊎ (x ≡ Some (only n None)) → CacheTells n (with_cache x h)
cache_renews n h x no_block nothing which = record {
  none = λ e. (no_block, nothing);
  some = λ k e. elim which [
    | inl isnt ↦ absurd (some_none k (sym e ∙ isnt))
    | inr is ↦ subst (IsCacheOf n (with_cache x h)) (same_cache (only n None) k (sym is ∙ e)) (record {
      proc = refl;
      idle = λ z. (refl, refl);
      out = λ b z. absurd (some_none b (sym z ∙ no_block));
      pages = λ p. ap (times p) nothing;
    })
  ];
}
